-- Look-up by number in a sound state: 0 is never a task nor a semaphore, and a number that is there is found where it stands.
-- Assumes nothing.
use Rattle.std.specs.Prelude.{Option, Some, None, position}
use Prim.Native.Nat.{ℕ, zero, suc, ◌≤◌, ◌<◌}
use mathlib.Core.Path.{◌≡◌, refl, sym, ap}
use mathlib.Core.Bool.{Bool, true, false}
use mathlib.Core.List.{List}
use native.Mathlib.Omega.{arith}
use lib.Dec.{eqb, ltb}
use lib.ListN.{length, get_or, length-take}
use borrow.Author.Tests.{eqb-true, eq-eqb, ltb-true, ltb-false}
use Rattle.table.specs.Entries.{blank_task, blank_sem}
use Rattle.table.specs.Places.{task_place, sem_place}
use Rattle.table.specs.WellFormed.{task_in_range, sem_in_range}
use Rattle.table.proofs.SumLaws.{every_at}
use Rattle.table.proofs.PlaceLaws.{found, found_only}
use Rattle.table.proofs.OrderLaws.{task_range, within_true, once, rises}
use Rattle.executive.specs.declared.state.State.{State}
use Rattle.executive.specs.States.{tasks_of, sems_of, empty_state}
use Rattle.executive.specs.Sound.{Sized, Sound}

-- a test that is passed only by entries which a second test rules out finds nothing
finds_nothing : {A : Type 0} (test : A → Bool) (d : A) (l : List A)
    → ((i : ℕ) → i < length l → test (get_or l i d) ≡ true → ⊥) → position test l ≡ None
finds_nothing test d l never = go (position test l) refl
  where
    go : (r : Option ℕ) → position test l ≡ r → position test l ≡ None
    go (Some i) e = let f = found test l i d e in absurd (never i f.0 f.1)
    go None e = e

-- as many tasks as the state says, and semaphores alike
pub tasks_count : (s : State) → Sized s → length (tasks_of s) ≡ s.n
unfolding tasks_of
tasks_count s z = let h = length-take s.n s.tasks in let a = z.tasks_length in let b = z.tasks_fit in omega arith

pub sems_count : (s : State) → Sized s → length (sems_of s) ≡ s.m
unfolding sems_of
sems_count s z = let h = length-take s.m s.sems in let a = z.sems_length in let b = z.sems_fit in omega arith

-- what is found is an entry that is in use
pub task_below : (s : State) → Sized s → (number i : ℕ) → task_place (tasks_of s) number ≡ Some i → i < s.n
unfolding task_place
task_below s sized number i e = let l = tasks_count s sized in let f = (found (λ t. eqb t.number number) (tasks_of s) i blank_task e).0 in omega arith

pub sem_below : (s : State) → Sized s → (number k : ℕ) → sem_place (sems_of s) number ≡ Some k → k < s.m
unfolding sem_place
sem_below s sized number k e = let l = sems_count s sized in let f = (found (λ x. eqb x.number number) (sems_of s) k blank_sem e).0 in omega arith

module _ (s : State) (sound : Sound s) where
  -- in a sound state a task's number is above 0
  numbered : (i : ℕ) → i < length (tasks_of s) → 1 ≤ (get_or (tasks_of s) i blank_task).number
  numbered i h =
      let n = tasks_count s sound.sized in
      let some : 1 ≤ s.n = omega arith in
      (task_range (get_or (tasks_of s) i blank_task) (every_at task_in_range (tasks_of s) (sound.table some).task_ranges i h blank_task)).number_least

  -- 01, "Numbers that come back": number 0 is an unknown task
  pub no_task_zero : task_place (tasks_of s) 0 ≡ None
  unfolding task_place
  no_task_zero =
      finds_nothing (λ t. eqb t.number 0) blank_task (tasks_of s)
      (λ i h t. let e = eqb-true (get_or (tasks_of s) i blank_task).number 0 t in let a = numbered i h in omega arith)

  -- in a sound state a semaphore's number is above 0, and the empty state has none
  sem_numbered : (n : ℕ) → s.n ≡ n → (k : ℕ) → k < length (sems_of s) → 1 ≤ (get_or (sems_of s) k blank_sem).number
  unfolding empty_state sem_in_range
  sem_numbered zero e k h =
      let m = sems_count s sound.sized in
      let none : s.m ≡ 0 = ap (λ (r : State). r.m) (sound.none e) in
      absurd (omega arith)
  sem_numbered (suc n) e k h =
      let test = every_at sem_in_range (sems_of s) (sound.table (omega arith)).sem_ranges k h blank_sem in
      (within_true 1 (get_or (sems_of s) k blank_sem).number 65535 test).0

  -- number 0 is an unknown semaphore
  pub no_sem_zero : sem_place (sems_of s) 0 ≡ None
  unfolding sem_place
  no_sem_zero =
      finds_nothing (λ t. eqb t.number 0) blank_sem (sems_of s)
      (λ k h t. let e = eqb-true (get_or (sems_of s) k blank_sem).number 0 t in let a = sem_numbered s.n refl k h in omega arith)

  -- a task that is there is found where it stands
  pub task_found : (i : ℕ) → i < s.n → task_place (tasks_of s) (get_or (tasks_of s) i blank_task).number ≡ Some i
  unfolding task_place
  task_found i h =
      let n = tasks_count s sound.sized in
      let number = (get_or (tasks_of s) i blank_task).number in
      found_only (λ t. eqb t.number number) (tasks_of s) i blank_task (omega arith) (eq-eqb number number refl)
      (λ j k t.
      once (tasks_of s) blank_task (sound.table (omega arith)).task_numbers j i k (omega arith)
      (eqb-true (get_or (tasks_of s) j blank_task).number number t))

  -- the empty state has no semaphore
  no_sems : s.n ≡ 0 → s.m ≡ 0
  unfolding empty_state
  no_sems h = ap (λ (r : State). r.m) (sound.none h)

  -- semaphores at two places have two numbers
  sems_apart : (a b : ℕ) → a < b → b < s.m → 1 ≤ s.n → (get_or (sems_of s) a blank_sem).number ≡ (get_or (sems_of s) b blank_sem).number → ⊥
  sems_apart a b less inside some same =
      let m = sems_count s sound.sized in
      let up = rises (sems_of s) blank_sem (sound.table some).sem_order a b less (omega arith) in
      omega arith

  -- two semaphores whose numbers are equal are one
  pub sem_once : (k l : ℕ) → k < s.m → l < s.m → (get_or (sems_of s) k blank_sem).number ≡ (get_or (sems_of s) l blank_sem).number → k ≡ l
  sem_once k l hk hl e = with_tasks_lem s.n refl
    where
      pick : (a b : Bool) → 1 ≤ s.n → ltb k l ≡ a → ltb l k ≡ b → k ≡ l
      pick true b some ea eb = absurd (sems_apart k l (ltb-true k l ea) hl some e)
      pick false true some ea eb = absurd (sems_apart l k (ltb-true l k eb) hk some (sym e))
      pick false false some ea eb = let x = ltb-false k l ea in let y = ltb-false l k eb in omega arith

      with_tasks_lem : (n : ℕ) → s.n ≡ n → k ≡ l
      with_tasks_lem zero h = let m = no_sems h in absurd (omega arith)
      with_tasks_lem (suc n) h = pick (ltb k l) (ltb l k) (omega arith) refl refl
