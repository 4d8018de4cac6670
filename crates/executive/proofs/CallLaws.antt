-- The laws of the calls: one for each way a list of refusals goes, for every call, and what an entry found by number is.
-- Assumes nothing.
use Rattle.std.specs.Prelude.{Option, Some, None, Result, Ok, Err, IfOk}
use Rattle.std.specs.Option.{ok_or}
use Prim.Native.Nat.{ℕ, ◌≤◌, ◌<◌}
use mathlib.Core.Path.{◌≡◌, refl, sym, ap, subst, ◌∙◌}
use mathlib.Core.Logic.{◌≢◌}
use mathlib.Core.Bool.{Bool, true, false, cond, ◌||◌}
use mathlib.Core.List.{List, [], ◌∷◌}
use native.Mathlib.Omega.{arith}
use lib.Dec.{ltb, eqb}
use lib.ListN.{length, get_or}
use borrow.Author.Tests.{eq-eqb, eqb-true, eqb-false, ltb-false}
use Rattle.table.specs.declared.Task.{Task}
use Rattle.table.specs.declared.Sem.{Sem}
use Rattle.table.specs.Entries.{blank_task, blank_sem}
use Rattle.table.specs.declared.refusals.Refusal.{Refusal}
use Rattle.table.specs.declared.refusals.Refusal.TheVariants.{UnknownTask, UnknownSem, NobodyRuns}
use Rattle.table.specs.Refusals.{first_of, answered}
use Rattle.table.specs.Places.{task_place, sem_place}
use Rattle.table.proofs.SumLaws.{any_none}
use Rattle.table.proofs.RefusalLaws.{answered_refused, answered_done, first_of_here, first_of_past}
use Rattle.waits.specs.Waits.{task_at, sem_at}
use Rattle.waits.specs.Standing.{found_and, found_or, is_none, holds_it, still_holds, running_of}
use Rattle.executive.specs.declared.state.State.{State}
use Rattle.executive.specs.States.{tasks_of, sems_of}
use Rattle.executive.specs.Sound.{Sized, Sound}
use Rattle.executive.specs.Calls.{Step, moved, untimely, on_task}
use Rattle.executive.proofs.LookupLaws.{task_below, sem_below}
use Rattle.executive.proofs.SoundLaws.{task_at_lem, sem_at_lem, runs_below}

-- what was found, or the refusal that was told for it
pub ok_or_none : (f : Option ℕ) (x e : Refusal) → ok_or f x ≡ Err e → (f ≡ None) × (e ≡ x)
ok_or_none None x e h = (refl, search)
ok_or_none (Some i) x e h = let z : ◌≡◌ {A = ℕ} 0 1 = cc in absurd (omega arith)

pub ok_or_some : (f : Option ℕ) (x : Refusal) (i : ℕ) → ok_or f x ≡ Ok i → f ≡ Some i
ok_or_some None x i h = let z : ◌≡◌ {A = ℕ} 0 1 = cc in absurd (omega arith)
ok_or_some (Some j) x i h = search

pub ok_or_below : (f : Option ℕ) (x : Refusal) (n : ℕ) → ((i : ℕ) → f ≡ Some i → i < n) → IfOk (ok_or f x) (λ i. i < n)
ok_or_below None x n h = tt
ok_or_below (Some i) x n h = h i refl

-- what is known of the task that has the number, of the semaphore that has it, and of the task that runs
pub record Names (s : State) (number i : ℕ) : Type 0 where
  pub place : task_place (tasks_of s) number ≡ Some i
  pub here : task_at (tasks_of s) i ≡ get_or s.tasks i blank_task

pub names : (s : State) → Sized s → (number : ℕ) (r : Result ℕ Refusal) → r ≡ ok_or (task_place (tasks_of s) number) UnknownTask → (i : ℕ)
    → r ≡ Ok i → Names s number i
names s sized number r place i e =
    let f = ok_or_some _ _ _ (sym place ∙ e) in record { place = f; here = task_at_lem s i (task_below s sized number i f) }

pub record Stands (s : State) (number k : ℕ) : Type 0 where
  pub place : sem_place (sems_of s) number ≡ Some k
  pub here : sem_at (sems_of s) k ≡ get_or s.sems k blank_sem
  pub below : k < s.m

pub stands : (s : State) → Sized s → (number : ℕ) (r : Result ℕ Refusal) → r ≡ ok_or (sem_place (sems_of s) number) UnknownSem → (k : ℕ)
    → r ≡ Ok k → Stands s number k
stands s sized number r place k e =
    let f = ok_or_some _ _ _ (sym place ∙ e) in
    let below = sem_below s sized number k f in
    record { place = f; here = sem_at_lem s k below; below = below }

pub record Runs (s : State) (i : ℕ) : Type 0 where
  pub is : running_of (tasks_of s) (sems_of s) ≡ Some i
  pub here : task_at (tasks_of s) i ≡ get_or s.tasks i blank_task
  pub below : i < s.n

pub runs : (s : State) → Sound s → (r : Result ℕ Refusal) → r ≡ ok_or (running_of (tasks_of s) (sems_of s)) NobodyRuns → (i : ℕ) → r ≡ Ok i → Runs s i
runs s sound r found i e =
    let f = ok_or_some _ _ _ (sym found ∙ e) in
    let below = runs_below s sound i f in
    record { is = f; here = task_at_lem s i below; below = below }

-- a call that asks first whether something was found
module _ {A : Type 0} (number : ℕ) (rest : ℕ → List (ℕ × Bool)) (refused : ℕ → A) (done : ℕ → A) where
  abbrev pub Call : Option ℕ → A
  Call at = answered (first_of ((number, is_none at) ∷ rest (found_or 0 at))) refused (done (found_or 0 at))

  -- it was not: the call is refused with that number
  pub call_none : (at : Option ℕ) → at ≡ None → number ≢ 0 → Call at ≡ refused number
  unfolding is_none found_and found_or
  call_none at e ne =
      ap (λ (f : Option ℕ). Call f) e ∙ ap (λ (k : ℕ). answered k refused (done 0)) (first_of_here number true (rest 0) refl)
      ∙ answered_refused number refused (done 0) ne

  passed : (at : Option ℕ) (i : ℕ) → at ≡ Some i → Call at ≡ answered (first_of (rest i)) refused (done i)
  unfolding is_none found_and found_or
  passed at i e = ap (λ (f : Option ℕ). Call f) e ∙ ap (λ (k : ℕ). answered k refused (done i)) (first_of_past number false (rest i) refl)

  -- it was, and a later test refuses
  pub call_refused : (at : Option ℕ) (i k : ℕ) → at ≡ Some i → first_of (rest i) ≡ k → k ≢ 0 → Call at ≡ refused k
  call_refused at i k e f ne =
      passed at i e ∙ ap (λ (k : ℕ). answered k refused (done i)) f ∙ answered_refused k refused (done i) ne

  -- it was, and no test refuses
  pub call_done : (at : Option ℕ) (i : ℕ) → at ≡ Some i → first_of (rest i) ≡ 0 → Call at ≡ done i
  call_done at i e f = passed at i e ∙ answered_done (first_of (rest i)) refused (done i) f

  -- what every refusal and every accepted call have in common, a call has
  pub call_keeps : (P : A → Type 0) (at : Option ℕ) → number ≢ 0 → ((k : ℕ) → P (refused k)) → ((i : ℕ) → at ≡ Some i → first_of (rest i) ≡ 0 → P (done i))
      → P (Call at)
  call_keeps P at ne no_call call = go at refl
    where
      go : (f : Option ℕ) → at ≡ f → P (Call at)
      go None e = subst P (sym (call_none at e ne)) (no_call number)
      go (Some i) e = which (eqb (first_of (rest i)) 0) refl
        where
          which : (b : Bool) → eqb (first_of (rest i)) 0 ≡ b → P (Call at)
          which true q = let z = eqb-true (first_of (rest i)) 0 q in subst P (sym (call_done at i e z)) (call i e z)
          which false q =
              subst P (sym (call_refused at i (first_of (rest i)) e refl (eqb-false (first_of (rest i)) 0 q))) (no_call (first_of (rest i)))

-- a call that names a task, by its outcomes
module _ (s : State) (number : ℕ) (refusals : Task → List (ℕ × Bool)) (done : ℕ → State) where
  -- no task has the number
  pub on_none : task_place (tasks_of s) number ≡ None → on_task s number refusals done ≡ moved s 20
  unfolding on_task
  on_none e =
      call_none 20 (λ i. refusals (task_at (tasks_of s) i)) (moved s) (λ i. moved (done i) 0) (task_place (tasks_of s) number) e (eqb-false 20 0 refl)

  module _ (i : ℕ) (place : task_place (tasks_of s) number ≡ Some i) (t : Task) (here : task_at (tasks_of s) i ≡ t) where
    -- the call's own refusals say a number
    pub on_refused : (k : ℕ) → first_of (refusals t) ≡ k → k ≢ 0 → on_task s number refusals done ≡ moved s k
    unfolding on_task
    on_refused k e ne =
        call_refused 20 (λ i. refusals (task_at (tasks_of s) i)) (moved s) (λ i. moved (done i) 0) (task_place (tasks_of s) number) i k place
        (ap (λ (u : Task). first_of (refusals u)) here ∙ e) ne

    -- none of them holds
    pub on_done : first_of (refusals t) ≡ 0 → on_task s number refusals done ≡ moved (done i) 0
    unfolding on_task
    on_done e =
        call_done 20 (λ i. refusals (task_at (tasks_of s) i)) (moved s) (λ i. moved (done i) 0) (task_place (tasks_of s) number) i place
        (ap (λ (u : Task). first_of (refusals u)) here ∙ e)

  -- what every refusal and every accepted call have in common
  pub on_keeps : (P : Step → Type 0) → ((k : ℕ) → P (moved s k))
      → ((i : ℕ) → task_place (tasks_of s) number ≡ Some i → first_of (refusals (task_at (tasks_of s) i)) ≡ 0 → P (moved (done i) 0))
      → P (on_task s number refusals done)
  unfolding on_task
  on_keeps P refused call =
      call_keeps 20 (λ i. refusals (task_at (tasks_of s) i)) (moved s) (λ i. moved (done i) 0) P (task_place (tasks_of s) number) (eqb-false 20 0 refl)
      refused call

-- a release that is not refused comes at an allowed time
pub release_timely : (b : Bool) (last time : ℕ) → first_of ((23, b) ∷ (22, untimely last time) ∷ []) ≡ 0
    → (last ≤ time) × (time ≤ 1000000000000000)
unfolding first_of untimely
release_timely true last time e = absurd (omega arith)
release_timely false last time e = go (ltb time last) (ltb 1000000000000000 time) refl refl e
  where
    go : (p q : Bool) → ltb time last ≡ p → ltb 1000000000000000 time ≡ q → ◌≡◌ {A = ℕ} (cond (p || q) 22 0) 0
        → (last ≤ time) × (time ≤ 1000000000000000)
    go true q hp hq e = absurd (omega arith)
    go false true hp hq e = absurd (omega arith)
    go false false hp hq e = (ltb-false time last hp, ltb-false 1000000000000000 time hq)

-- who holds nothing holds no semaphore that there is
pub holds_none : (sems : List Sem) (i : ℕ) → still_holds sems i ≡ false → (k : ℕ) → k < length sems → (sem_at sems k).holder ≡ Some i → ⊥
unfolding still_holds holds_it found_and sem_at
holds_none sems i none k h by =
    let f : holds_it i (sem_at sems k) ≡ false = any_none (holds_it i) sems none k h blank_sem in
    let t : holds_it i (sem_at sems k) ≡ true = ap (found_and (λ at. eqb at i)) by ∙ eq-eqb i i refl in
    let z : ◌≡◌ {A = ℕ} 0 1 = cc in
    omega arith
