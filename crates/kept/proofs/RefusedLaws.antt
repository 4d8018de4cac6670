-- A call that is refused changes nothing: each call is done, or hands back the very state. 90 is no refusal.
-- Assumes nothing.
use Rattle.std.specs.Prelude.{Option, Some, None}
use Prim.Native.Nat.{ℕ}
use mathlib.Core.Path.{◌≡◌, refl}
use mathlib.Core.Logic.{◌⊎◌, inl, inr}
use mathlib.Core.Bool.{Bool}
use mathlib.Core.List.{List, [], ◌∷◌}
use borrow.Author.Tests.{eqb-false}
use Rattle.table.specs.declared.Task.{Task}
use Rattle.table.specs.declared.Status.TheVariants.{Ready, Event}
use Rattle.table.specs.Places.{sem_place}
use Rattle.waits.specs.Waits.{sem_at}
use Rattle.waits.specs.Standing.{found_or, is_none, running_of, still_holds, closes_ring}
use Rattle.executive.specs.declared.state.State.{State}
use Rattle.executive.specs.Calls.{Step}
use Rattle.executive.specs.States.{tasks_of, sems_of}
use Rattle.executive.specs.Calls.{now_does, moved, busy, untimely, no_event_wait, no_sem_wait, not_held, on_task, release_at, take_or_wait, acquire_at, give_at, complete_at, release_of, signal_of, withdraw_of, acquire_of, give_of, complete_of, block_of}
use Rattle.executive.proofs.CallLaws.{call_keeps, on_keeps}

-- done, or the very state
abbrev pub Same : State → Step → Type 0
Same s r = (r.answer ≡ 0) ⊎ (r.state ≡ s)

module _ (s : State) where
  -- a call that names a task
  named_same : (number : ℕ) (refusals : Task → List (ℕ × Bool)) (done : ℕ → State) → Same s (on_task s number refusals done)
  unfolding moved
  named_same number refusals done = on_keeps s number refusals done (Same s) (λ k. inr refl) (λ i e f. inl refl)

  pub release_same : (number time : ℕ) → Same s (release_of s number time)
  unfolding release_of
  release_same number time = named_same number (λ t. (23, busy t) ∷ (22, untimely s.last time) ∷ []) (λ i. release_at s i time)

  pub signal_same : (number : ℕ) → Same s (signal_of s number)
  unfolding signal_of
  signal_same number = named_same number (λ t. (24, no_event_wait t) ∷ []) (λ i. now_does s i Ready)

  pub withdraw_same : (number : ℕ) → Same s (withdraw_of s number)
  unfolding withdraw_of
  withdraw_same number = named_same number (λ t. (25, no_sem_wait t) ∷ []) (λ i. now_does s i Ready)

  pub give_same : (number : ℕ) → Same s (give_of s number)
  unfolding give_of moved
  give_same number =
      call_keeps 26 (λ i. (21, is_none at) ∷ (29, not_held (sems_of s) i (found_or 0 at)) ∷ []) (moved s) (λ i. moved (give_at s (found_or 0 at)) 0)
      (Same s) (running_of (tasks_of s) (sems_of s)) (eqb-false 26 0 refl) (λ k. inr refl) (λ i e f. inl refl)
    where
      at : Option ℕ
      at = sem_place (sems_of s) number

  pub complete_same : Same s (complete_of s)
  unfolding complete_of moved
  complete_same =
      call_keeps 26 (λ i. (27, still_holds (sems_of s) i) ∷ []) (moved s) (λ i. moved (complete_at s i) 0) (Same s)
      (running_of (tasks_of s) (sems_of s)) (eqb-false 26 0 refl) (λ k. inr refl) (λ i e f. inl refl)

  pub block_same : Same s (block_of s)
  unfolding block_of moved
  block_same =
      call_keeps 26 (λ i. []) (moved s) (λ i. moved (now_does s i Event) 0) (Same s) (running_of (tasks_of s) (sems_of s)) (eqb-false 26 0 refl)
      (λ k. inr refl) (λ i e f. inl refl)

  -- an acquire is done, or waits, or hands back the very state
  pub acquire_same : (number : ℕ) → ((acquire_of s number).answer ≡ 90) ⊎ Same s (acquire_of s number)
  unfolding acquire_of acquire_at take_or_wait moved
  acquire_same number =
      call_keeps 26 (λ i. (21, is_none at) ∷ (28, closes_ring (tasks_of s) (sems_of s) i (found_or 0 at)) ∷ []) (moved s)
      (λ i. acquire_at s i (found_or 0 at)) (λ r. (r.answer ≡ 90) ⊎ Same s r) (running_of (tasks_of s) (sems_of s)) (eqb-false 26 0 refl)
      (λ k. inr (inr refl)) (λ i e f. go i (sem_at (sems_of s) (found_or 0 at)).holder)
    where
      at : Option ℕ
      at = sem_place (sems_of s) number

      go : (i : ℕ) (x : Option ℕ) → ((take_or_wait s i (found_or 0 at) x).answer ≡ 90) ⊎ Same s (take_or_wait s i (found_or 0 at) x)
      go i None = inr (inl refl)
      go i (Some j) = inl refl
