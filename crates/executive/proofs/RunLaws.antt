-- The laws of the calls that name a semaphore, one for each way that their refusals go.
-- Assumes nothing.
use Rattle.std.specs.Prelude.{Option, Some, None, Result, Ok, Err}
use Rattle.std.specs.Option.{is_some}
use Prim.Native.Nat.{ℕ}
use mathlib.Core.Path.{◌≡◌, refl, ap, ◌∙◌}
use mathlib.Core.Logic.{◌≢◌}
use mathlib.Core.Bool.{Bool, true, false}
use native.Mathlib.Omega.{arith}
use mathlib.Core.List.{[], ◌∷◌}
use Rattle.table.specs.declared.Status.TheVariants.{Waits}
use Rattle.table.specs.declared.refusals.Refusal.{Refusal}
use Rattle.table.specs.declared.refusals.Refusal.TheVariants.{UnknownSem, NobodyRuns}
use Rattle.table.specs.Refusals.{first_of, answered, number_of}
use Rattle.table.specs.Places.{sem_place}
use Rattle.table.proofs.RefusalLaws.{answered_refused}
use Rattle.waits.specs.Standing.{found_and, found_or, is_none, running_of}
use Rattle.executive.specs.declared.state.State.{State}
use Rattle.executive.specs.States.{tasks_of, sems_of}
use Rattle.executive.specs.Calls.{Step, moved, now_does, now_held, take_or_wait}

-- a semaphore that is held is waited for, and a free one is taken
pub held_waits : (s : State) (i k : ℕ) (h : Option ℕ) → is_some h ≡ true → take_or_wait s i k h ≡ moved (now_does s i (Waits k)) 90
unfolding take_or_wait
held_waits s i k None e = let z : ◌≡◌ {A = ℕ} 0 1 = cc in absurd (omega arith)
held_waits s i k (Some j) e = refl

pub free_taken : (s : State) (i k : ℕ) (h : Option ℕ) → is_some h ≡ false → take_or_wait s i k h ≡ moved (now_held s k (Some i)) 0
unfolding take_or_wait
free_taken s i k None e = refl
free_taken s i k (Some j) e = let z : ◌≡◌ {A = ℕ} 0 1 = cc in absurd (omega arith)

-- who asks for which semaphore, by who was found to run and where the semaphore was found; or why nobody does
abbrev pub asked_by : Option ℕ → Option ℕ → Result (ℕ × ℕ) Refusal
asked_by None at = Err NobodyRuns
asked_by (Some i) None = Err UnknownSem
asked_by (Some i) (Some k) = Ok (i, k)

-- a call that names a semaphore, with one refusal of its own, by its outcomes
module _ (s : State) (number j : ℕ) (test : ℕ → ℕ → Bool) (done : ℕ → ℕ → Step) where
  abbrev call_by : Option ℕ → Option ℕ → Step
  call_by runs at =
      answered
      (first_of ((26, is_none runs) ∷ (21, is_none at) ∷ (j, test (found_or 0 runs) (found_or 0 at)) ∷ []))
      (moved s)
      (done (found_or 0 runs) (found_or 0 at))

  abbrev Call : Step
  Call = call_by (running_of (tasks_of s) (sems_of s)) (sem_place (sems_of s) number)

  -- nobody runs
  pub sem_nobody : running_of (tasks_of s) (sems_of s) ≡ None → Call ≡ moved s 26
  unfolding first_of answered is_none found_and found_or
  sem_nobody e = rw e

  -- no semaphore has the number
  pub sem_unknown : (i : ℕ) → running_of (tasks_of s) (sems_of s) ≡ Some i → sem_place (sems_of s) number ≡ None → Call ≡ moved s 21
  unfolding first_of answered is_none found_and found_or
  sem_unknown i e f = rw (e, f)

  -- one or the other, by what is asked first
  pub sem_unasked : (e : Refusal) → asked_by (running_of (tasks_of s) (sems_of s)) (sem_place (sems_of s) number) ≡ Err e → Call ≡ moved s (number_of e)
  sem_unasked e h = go (running_of (tasks_of s) (sems_of s)) (sem_place (sems_of s) number) refl refl h
    where
      go : (runs at : Option ℕ) → running_of (tasks_of s) (sems_of s) ≡ runs → sem_place (sems_of s) number ≡ at → asked_by runs at ≡ Err e
          → Call ≡ moved s (number_of e)
      go None at r p h = let same : NobodyRuns ≡ e = search in sem_nobody r ∙ ap (λ (x : Refusal). moved s (number_of x)) same
      go (Some i) None r p h = let same : UnknownSem ≡ e = search in sem_unknown i r p ∙ ap (λ (x : Refusal). moved s (number_of x)) same
      go (Some i) (Some k) r p h = let z : ◌≡◌ {A = ℕ} 0 1 = cc in absurd (omega arith)

  module _ (i k : ℕ) (runs : running_of (tasks_of s) (sems_of s) ≡ Some i) (place : sem_place (sems_of s) number ≡ Some k) where
    -- the call's own refusal
    pub sem_refused : test i k ≡ true → j ≢ 0 → Call ≡ moved s j
    unfolding first_of is_none found_and found_or
    sem_refused e ne = rw (runs, place, e) (answered_refused j (moved s) (done i k) ne)

    -- none
    pub sem_goes : test i k ≡ false → Call ≡ done i k
    unfolding first_of answered is_none found_and found_or
    sem_goes e = rw (runs, place, e)
