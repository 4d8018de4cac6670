-- Demand 1, "exactly when": each call gives the number of the first of its conditions that holds, and 0 where none does.
-- Assumes nothing.
use Rattle.std.specs.Prelude.{Option, Some, None, position}
use Prim.Native.Nat.{ℕ, zero, suc, ◌<◌}
use mathlib.Core.Path.{◌≡◌, refl, sym, ap, subst, ◌∙◌}
use mathlib.Core.Logic.{◌↔◌, ◌≢◌, ◌⊎◌, inl, inr, ⊎_elim}
use mathlib.Core.Bool.{Bool, true, false, cond, not, ◌||◌}
use mathlib.Core.List.{List, [], ◌∷◌}
use native.Mathlib.Omega.{arith}
use lib.Dec.{eqb, ltb}
use lib.ListN.{length, get_or}
use borrow.Author.Tests.{eqb-true, eqb-false, eq-eqb, ltb-true, lt-ltb}
use Rattle.table.specs.declared.Task.{Task}
use Rattle.table.specs.declared.Sem.{Sem}
use Rattle.table.specs.declared.Status.{Status}
use Rattle.table.specs.declared.Status.TheVariants.{Idle, Ready, Event, Waits}
use Rattle.table.specs.Entries.{blank_task, blank_sem}
use Rattle.table.specs.Refusals.{first_of, answered}
use Rattle.table.specs.Sums.{any}
use Rattle.table.specs.Places.{task_place, sem_place}
use Rattle.table.proofs.PlaceLaws.{found, missing}
use Rattle.table.proofs.OrderLaws.{once}
use Rattle.executive.specs.declared.state.State.{State}
use Rattle.executive.specs.Calls.{stands_refused, Stands}
use Rattle.executive.specs.States.{tasks_of, sems_of}
use Rattle.executive.specs.Sound.{Sound}
use Rattle.waits.specs.Waits.{task_at, sem_at, waits_for}
use Rattle.waits.specs.Standing.{found_and, found_or, is_none, closes_ring, holds_it, still_holds, is_idle, is_ready, is_event, ready_at, reaches, standing_of, running_of, best_among}
use Rattle.waits.specs.Reaches.{Reaches}
use Rattle.waits.proofs.ChainLaws.{reaches_true, true_reaches}
use Rattle.waits.proofs.DispatchLaws.{standing_is, standing_one}
use Rattle.executive.proofs.SoundLaws.{chained}
use Rattle.executive.specs.Calls.{moved, on_task, acquire_at, take_or_wait, not_held, shown, stands_of, busy, untimely, no_event_wait, no_sem_wait, release_of, signal_of, withdraw_of, acquire_of, give_of, complete_of, block_of}
use Rattle.waits.proofs.RankLaws.{best_none, best_nothing}
use Rattle.executive.proofs.LookupLaws.{tasks_count, sems_count, task_found, sem_once}
use Rattle.theorems.specs.Histories.{Call, release, signal, withdraw, acquire, give, complete, block, called}
use Rattle.theorems.specs.When.{FirstThat}
use Rattle.theorems.specs.Standings.{StandingAnswer, no_standing}
use Rattle.theorems.specs.Conditions.{conditions_of, UnknownTask, TheTask, UnknownSem, TheSem, NobodyRuns, TheRunner, release_conditions, signal_conditions, withdraw_conditions, acquire_conditions, give_conditions, complete_conditions, block_conditions}
use Rattle.theorems.proofs.FirstLaws.{nothing_more, test_says, first_that}

-- a call that answers 0 where it is not refused answers the number of its list
answer_of : (s : State) (k : ℕ) (next : State) → (answered k (moved s) (moved next 0)).answer ≡ k
unfolding answered moved
answer_of s k next = go (eqb k 0) refl
  where
    go : (b : Bool) → eqb k 0 ≡ b → (cond b (moved next 0) (moved s k)).answer ≡ k
    go true e = sym (eqb-true k 0 e)
    go false e = refl

-- nothing found, or something
none_says : (at : Option ℕ) → (is_none at ≡ true) ↔ (at ≡ None)
unfolding is_none found_and
none_says None = (λ h. refl, λ h. refl)
none_says (Some i) = (λ h. let z : ◌≡◌ {A = ℕ} 0 1 = cc in absurd (omega arith), λ h. let z : ◌≡◌ {A = ℕ} 0 1 = cc in absurd (omega arith))

some_found : (at : Option ℕ) → is_none at ≡ false → at ≡ Some (found_or 0 at)
unfolding is_none found_and found_or
some_found None h = let z : ◌≡◌ {A = ℕ} 0 1 = cc in absurd (omega arith)
some_found (Some i) h = refl

-- statuses told apart
idle_says : (now : Status) → (not (is_idle now) ≡ true) ↔ (now ≢ Idle)
unfolding is_idle
idle_says Idle = (λ h. let z : ◌≡◌ {A = ℕ} 0 1 = cc in absurd (omega arith), λ h. absurd (h refl))
idle_says Ready = (λ h e. let z : ◌≡◌ {A = ℕ} 0 1 = cc in omega arith, λ h. refl)
idle_says Event = (λ h e. let z : ◌≡◌ {A = ℕ} 0 1 = cc in omega arith, λ h. refl)
idle_says (Waits k) = (λ h e. let z : ◌≡◌ {A = ℕ} 0 1 = cc in omega arith, λ h. refl)

event_says : (now : Status) → (not (is_event now) ≡ true) ↔ (now ≢ Event)
unfolding is_event
event_says Idle = (λ h e. let z : ◌≡◌ {A = ℕ} 0 1 = cc in omega arith, λ h. refl)
event_says Ready = (λ h e. let z : ◌≡◌ {A = ℕ} 0 1 = cc in omega arith, λ h. refl)
event_says Event = (λ h. let z : ◌≡◌ {A = ℕ} 0 1 = cc in absurd (omega arith), λ h. absurd (h refl))
event_says (Waits k) = (λ h e. let z : ◌≡◌ {A = ℕ} 0 1 = cc in omega arith, λ h. refl)

waits_says : (now : Status) → (is_none (waits_for now) ≡ true) ↔ ((k : ℕ) → now ≢ Waits k)
unfolding is_none waits_for found_and
waits_says Idle = (λ h k e. let z : ◌≡◌ {A = ℕ} 0 1 = cc in omega arith, λ h. refl)
waits_says Ready = (λ h k e. let z : ◌≡◌ {A = ℕ} 0 1 = cc in omega arith, λ h. refl)
waits_says Event = (λ h k e. let z : ◌≡◌ {A = ℕ} 0 1 = cc in omega arith, λ h. refl)
waits_says (Waits k) = (λ h. let z : ◌≡◌ {A = ℕ} 0 1 = cc in absurd (omega arith), λ h. absurd (h k refl))

time_says : (last time : ℕ) → (untimely last time ≡ true) ↔ ((time < last) ⊎ (1000000000000000 < time))
unfolding untimely
time_says last time = (early (ltb time last) (ltb 1000000000000000 time) refl refl, ⊎_elim (λ h. rw (lt-ltb time last h)) (λ h. rw (lt-ltb 1000000000000000 time h) (mathlib.Core.Bool.or-true (ltb time last))))
  where
    early : (a b : Bool) → ltb time last ≡ a → ltb 1000000000000000 time ≡ b → (a || b) ≡ true → (time < last) ⊎ (1000000000000000 < time)
    early true b e f h = inl (ltb-true time last e)
    early false true e f h = inr (ltb-true 1000000000000000 time f)
    early false false e f h = let z : ◌≡◌ {A = ℕ} 0 1 = cc in absurd (omega arith)

-- who holds, told apart
holder_says : (i : ℕ) (h : Option ℕ) → (found_and (λ at. eqb at i) h ≡ true) ↔ (h ≡ Some i)
unfolding found_and
holder_says i None = (λ t. let z : ◌≡◌ {A = ℕ} 0 1 = cc in absurd (omega arith), λ r. let z : ◌≡◌ {A = ℕ} 0 1 = cc in absurd (omega arith))
holder_says i (Some j) = (λ t. ap Some (eqb-true j i t), λ r. eq-eqb j i (cc))

holds_says : (i : ℕ) (e : Sem) → (holds_it i e ≡ true) ↔ (e.holder ≡ Some i)
unfolding holds_it
holds_says i e = holder_says i e.holder

-- a negated test
not_says : {P : Type 0} (b : Bool) → (b ≡ true) ↔ P → (not b ≡ true) ↔ (P → ⊥)
not_says true says = (λ h p. let z : ◌≡◌ {A = ℕ} 0 1 = cc in omega arith, λ h. absurd (h (says.0 refl)))
not_says false says = (λ h p. let t = says.1 p in let z : ◌≡◌ {A = ℕ} 0 1 = cc in omega arith, λ h. refl)

one_more : {A : Type 0} (test : A → Bool) (P : A → Type 0) → ((x : A) → (test x ≡ true) ↔ P x) → (d x : A) (xs : List A)
    → (any test xs ≡ true) ↔ ((k : ℕ) × (k < length xs) × P (get_or xs k d))
    → ((test x || any test xs) ≡ true) ↔ ((k : ℕ) × (k < suc (length xs)) × P (get_or (x ∷ xs) k d))
one_more test P says d x xs rest = (there (test x) refl, λ w. back w.0 w.1 w.2)
  where
    there : (b : Bool) → test x ≡ b → (b || any test xs) ≡ true → (k : ℕ) × (k < suc (length xs)) × P (get_or (x ∷ xs) k d)
    there true e h = (0, omega arith, (says x).0 e)
    there false e h = let w = rest.0 h in let k = w.1 in (suc w.0, omega arith, w.2)

    back : (k : ℕ) → k < suc (length xs) → P (get_or (x ∷ xs) k d) → (test x || any test xs) ≡ true
    back zero k p = rw ((says x).1 p)
    back (suc k) h p = rw (rest.1 (k, omega arith, p)) (mathlib.Core.Bool.or-true (test x))

-- some entry passes a test exactly if one is so: over the entry's type
pub some_says : {A : Type 0} (test : A → Bool) (P : A → Type 0) → ((x : A) → (test x ≡ true) ↔ P x) → (d : A) (l : List A)
    → (any test l ≡ true) ↔ ((k : ℕ) × (k < length l) × P (get_or l k d))
some_says test P says d [] = (λ h. let z : ◌≡◌ {A = ℕ} 0 1 = cc in absurd (omega arith), λ w. let k = w.1 in absurd (omega arith))
some_says test P says d (x ∷ xs) = one_more test P says d x xs (some_says test P says d xs)

-- a number is unknown exactly if no entry has it: over the entry's type
unknown_says : {A : Type 0} (number_of : A → ℕ) (d : A) (l : List A) (number : ℕ)
    → (is_none (position (λ x. eqb (number_of x) number) l) ≡ true) ↔ ((i : ℕ) → i < length l → number_of (get_or l i d) ≡ number → ⊥)
unknown_says {A} number_of d l number = (there, back (position test l) refl)
  where
    test : A → Bool
    test x = eqb (number_of x) number

    there : is_none (position test l) ≡ true → (i : ℕ) → i < length l → number_of (get_or l i d) ≡ number → ⊥
    there h i k = eqb-false (number_of (get_or l i d)) number (missing test l ((none_says (position test l)).0 h) i k d)

    back : (at : Option ℕ) → position test l ≡ at → ((i : ℕ) → i < length l → number_of (get_or l i d) ≡ number → ⊥) → is_none (position test l) ≡ true
    back None e h = (none_says (position test l)).1 e
    back (Some i) e h = let f = found test l i d e in absurd (h i f.0 (eqb-true (number_of (get_or l i d)) number f.1))

module _ (s : State) (sound : Sound s) where
  -- 20 and 21
  task_unknown : (number : ℕ) → (is_none (task_place (tasks_of s) number) ≡ true) ↔ UnknownTask (tasks_of s) number
  unfolding task_place task_at
  task_unknown number = unknown_says (λ (t : Task). t.number) blank_task (tasks_of s) number

  sem_unknown : (number : ℕ) → (is_none (sem_place (sems_of s) number) ≡ true) ↔ UnknownSem (sems_of s) number
  unfolding sem_place sem_at
  sem_unknown number = unknown_says (λ (e : Sem). e.number) blank_sem (sems_of s) number

  -- the task with a number is the one that is found
  the_task : (number i : ℕ) (P : Task → Type 0) → task_place (tasks_of s) number ≡ Some i → P (task_at (tasks_of s) i) ↔ TheTask (tasks_of s) number P
  unfolding task_place task_at
  the_task number i P e =
      let f = found (λ t. eqb t.number number) (tasks_of s) i blank_task e in
      let same = eqb-true (get_or (tasks_of s) i blank_task).number number f.1 in (
        λ p. (i, f.0, same, p),
        λ w.
            let n = tasks_count s sound.sized in
            let below = w.1 in
            let one = once (tasks_of s) blank_task (sound.table (omega arith)).task_numbers w.0 i w.1 f.0 (w.2 ∙ sym same) in
            subst (λ (j : ℕ). P (get_or (tasks_of s) j blank_task)) one w.3,
      )

  -- what is found is a task with that number
  the_place : (number i : ℕ) → task_place (tasks_of s) number ≡ Some i → (i < length (tasks_of s)) × ((task_at (tasks_of s) i).number ≡ number)
  unfolding task_place task_at
  the_place number i e =
      let f = found (λ t. eqb t.number number) (tasks_of s) i blank_task e in
      (f.0, eqb-true (get_or (tasks_of s) i blank_task).number number f.1)

  -- a test of the task that is found says what the condition says of the task with the number
  of_task : (number : ℕ) (test : Task → Bool) (P : Task → Type 0) → ((t : Task) → (test t ≡ true) ↔ P t)
      → is_none (task_place (tasks_of s) number) ≡ false
      → (test (task_at (tasks_of s) (found_or 0 (task_place (tasks_of s) number))) ≡ true) ↔ TheTask (tasks_of s) number P
  of_task number test P says known =
      let i = found_or 0 (task_place (tasks_of s) number) in
      let the = the_task number i P (some_found (task_place (tasks_of s) number) known) in
      let here = says (task_at (tasks_of s) i) in
      (λ h. the.0 (here.0 h), λ w. here.1 (the.1 w))

  pub release_when : (number time k : ℕ) → ((called s (release number time)).answer ≡ k) ↔ FirstThat (release_conditions s number time) k
  unfolding called release_of on_task busy
  release_when number time k =
      let tests =
      first_that
      (test_says (task_unknown number)
      (λ known. test_says (of_task number (λ t. not (is_idle t.status)) (λ t. t.status ≢ Idle) (λ t. idle_says t.status) known)
      (λ idle. test_says (time_says s.last time) (λ timely. nothing_more)))) k in
      (λ h. tests.0 (sym (answer_of s _ _) ∙ h), λ w. answer_of s _ _ ∙ tests.1 w)

  pub signal_when : (number k : ℕ) → ((called s (signal number)).answer ≡ k) ↔ FirstThat (signal_conditions s number) k
  unfolding called signal_of on_task no_event_wait
  signal_when number k =
      let tests =
      first_that
      (test_says (task_unknown number)
      (λ known. test_says (of_task number (λ t. not (is_event t.status)) (λ t. t.status ≢ Event) (λ t. event_says t.status) known)
      (λ waits. nothing_more))) k in
      (λ h. tests.0 (sym (answer_of s _ _) ∙ h), λ w. answer_of s _ _ ∙ tests.1 w)

  pub withdraw_when : (number k : ℕ) → ((called s (withdraw number)).answer ≡ k) ↔ FirstThat (withdraw_conditions s number) k
  unfolding called withdraw_of on_task no_sem_wait
  withdraw_when number k =
      let tests =
      first_that
      (test_says (task_unknown number)
      (λ known. test_says
      (of_task number (λ t. is_none (waits_for t.status)) (λ t. (j : ℕ) → t.status ≢ Waits j) (λ t. waits_says t.status) known)
      (λ waits. nothing_more))) k in
      (λ h. tests.0 (sym (answer_of s _ _) ∙ h), λ w. answer_of s _ _ ∙ tests.1 w)

  -- the standing of a number: 20 and zeros exactly if no task has it, else that of the task that has it
  pub standing_when : (number : ℕ) (a : Stands) → (stands_of s number ≡ a) ↔ StandingAnswer s number a
  standing_when number a = (there (task_place (tasks_of s) number) refl, back)
    where
      unknown : task_place (tasks_of s) number ≡ None → stands_of s number ≡ no_standing
      unknown e = unfold stands_of stands_refused no_standing first_of answered is_none found_and in rw e

      known : (i : ℕ) → task_place (tasks_of s) number ≡ Some i → stands_of s number ≡ shown (standing_of (tasks_of s) (sems_of s) i)
      known i e = unfold stands_of first_of answered is_none found_and found_or in rw e

      there : (f : Option ℕ) → task_place (tasks_of s) number ≡ f → stands_of s number ≡ a → StandingAnswer s number a
      there None e h = inl ((task_unknown number).0 ((none_says (task_place (tasks_of s) number)).1 e), sym h ∙ unknown e)
      there (Some i) e h =
          inr (
            i,
            (the_place number i e).0,
            (the_place number i e).1,
            standing_of (tasks_of s) (sems_of s) i,
            standing_is (tasks_of s) (sems_of s) (chained s sound) i (the_place number i e).0,
            sym h ∙ known i e,
          )

      back : StandingAnswer s number a → stands_of s number ≡ a
      back (inl w) = unknown ((none_says (task_place (tasks_of s) number)).0 ((task_unknown number).1 w.0)) ∙ sym w.1
      back (inr (i, below, same, r, is, e)) =
          let n = tasks_count s sound.sized in
          let place : task_place (tasks_of s) number ≡ Some i =
          subst (λ (x : ℕ). task_place (tasks_of s) x ≡ Some i) same (unfold task_at in task_found s sound i (omega arith)) in
          known i place
          ∙ ap shown (standing_one (tasks_of s) (sems_of s) i (standing_of (tasks_of s) (sems_of s) i) r (standing_is (tasks_of s) (sems_of s) (chained s sound) i below) is)
          ∙ sym e

  -- 26: no task runs exactly if none is ready
  ready_is : (now : Status) → (is_ready now ≡ true) ↔ (now ≡ Ready)
  unfolding is_ready
  ready_is Idle = (λ h. let z : ◌≡◌ {A = ℕ} 0 1 = cc in absurd (omega arith), λ h. let z : ◌≡◌ {A = ℕ} 0 1 = cc in absurd (omega arith))
  ready_is Ready = (λ h. refl, λ h. refl)
  ready_is Event = (λ h. let z : ◌≡◌ {A = ℕ} 0 1 = cc in absurd (omega arith), λ h. let z : ◌≡◌ {A = ℕ} 0 1 = cc in absurd (omega arith))
  ready_is (Waits k) = (λ h. let z : ◌≡◌ {A = ℕ} 0 1 = cc in absurd (omega arith), λ h. let z : ◌≡◌ {A = ℕ} 0 1 = cc in absurd (omega arith))

  nobody_runs : (is_none (running_of (tasks_of s) (sems_of s)) ≡ true) ↔ NobodyRuns (tasks_of s)
  unfolding running_of ready_at
  nobody_runs =
      let test = ready_at (tasks_of s) in
      let rank = standing_of (tasks_of s) (sems_of s) in
      let n = length (tasks_of s) in
      let none = none_says (best_among test rank n) in (
        λ h i k r.
            let not_so = best_none test rank n (none.0 h) i k in
            let so = (ready_is (task_at (tasks_of s) i).status).1 r in
            let z : ◌≡◌ {A = ℕ} 0 1 = cc in
            omega arith,
        λ w. none.1 (best_nothing test rank n (λ j k. not_ready j (w j k) (ready_at (tasks_of s) j) refl)),
      )
    where
      not_ready : (j : ℕ) → ((task_at (tasks_of s) j).status ≢ Ready) → (b : Bool) → ready_at (tasks_of s) j ≡ b → ready_at (tasks_of s) j ≡ false
      not_ready j h true e = absurd (h ((ready_is (task_at (tasks_of s) j).status).0 e))
      not_ready j h false e = e

  -- the task that runs is the one that is found
  the_runner : (i : ℕ) (P : ℕ → Type 0) → running_of (tasks_of s) (sems_of s) ≡ Some i → P i ↔ TheRunner s P
  the_runner i P e =
      (λ p. (i, e, p), λ w. let same : w.0 ≡ i = let f : Some w.0 ≡ Some i = sym w.1 ∙ e in cc in subst P same w.2)

  -- the semaphore with a number is the one that is found
  the_sem : (number k : ℕ) (P : Sem → Type 0) → sem_place (sems_of s) number ≡ Some k → P (sem_at (sems_of s) k) ↔ TheSem (sems_of s) number P
  unfolding sem_place sem_at
  the_sem number k P e =
      let f = found (λ t. eqb t.number number) (sems_of s) k blank_sem e in
      let same = eqb-true (get_or (sems_of s) k blank_sem).number number f.1 in (
        λ p. (k, f.0, same, p),
        λ w.
            let m = sems_count s sound.sized in
            let below = w.1 in
            let here = f.0 in
            let one = sem_once s sound w.0 k (omega arith) (omega arith) (w.2 ∙ sym same) in
            subst (λ (j : ℕ). P (get_or (sems_of s) j blank_sem)) one w.3,
      )

  sem_inside : (number k : ℕ) → sem_place (sems_of s) number ≡ Some k → k < length (sems_of s)
  unfolding sem_place
  sem_inside number k e = (found (λ t. eqb t.number number) (sems_of s) k blank_sem e).0

  -- a test of the semaphore that is found, for the task that runs, says what the condition says
  of_sem : (number : ℕ) (test : ℕ → Sem → Bool) (P : ℕ → Sem → Type 0) → ((i : ℕ) (e : Sem) → (test i e ≡ true) ↔ P i e)
      → is_none (running_of (tasks_of s) (sems_of s)) ≡ false → is_none (sem_place (sems_of s) number) ≡ false
      → (test (found_or 0 (running_of (tasks_of s) (sems_of s))) (sem_at (sems_of s) (found_or 0 (sem_place (sems_of s) number))) ≡ true)
      ↔ TheRunner s (λ i. TheSem (sems_of s) number (P i))
  of_sem number test P says runs known =
      let i = found_or 0 (running_of (tasks_of s) (sems_of s)) in
      let k = found_or 0 (sem_place (sems_of s) number) in
      let runner = the_runner i (λ j. TheSem (sems_of s) number (P j)) (some_found (running_of (tasks_of s) (sems_of s)) runs) in
      let sem = the_sem number k (P i) (some_found (sem_place (sems_of s) number) known) in
      let here = says i (sem_at (sems_of s) k) in
      (λ h. runner.0 (sem.0 (here.0 h)), λ w. here.1 (sem.1 (runner.1 w)))

  pub give_when : (number k : ℕ) → ((called s (give number)).answer ≡ k) ↔ FirstThat (give_conditions s number) k
  unfolding called give_of not_held
  give_when number k =
      let tests =
      first_that
      (test_says nobody_runs
      (λ runs. test_says (sem_unknown number)
      (λ known. test_says
      (of_sem number (λ i e. not (holds_it i e)) (λ i e. e.holder ≢ Some i) (λ i e. not_says (holds_it i e) (holds_says i e)) runs known)
      (λ held. nothing_more)))) k in
      (λ h. tests.0 (sym (answer_of s _ _) ∙ h), λ w. answer_of s _ _ ∙ tests.1 w)

  pub complete_when : (k : ℕ) → ((called s complete).answer ≡ k) ↔ FirstThat (complete_conditions s) k
  unfolding called complete_of still_holds sem_at
  complete_when k =
      let i = found_or 0 (running_of (tasks_of s) (sems_of s)) in
      let holds = some_says (holds_it i) (λ e. e.holder ≡ Some i) (holds_says i) blank_sem (sems_of s) in
      let tests =
      first_that
      (test_says nobody_runs
      (λ runs.
      let runner =
      the_runner i (λ j. (l : ℕ) × (l < length (sems_of s)) × ((sem_at (sems_of s) l).holder ≡ Some j))
      (some_found (running_of (tasks_of s) (sems_of s)) runs) in
      test_says (λ h. runner.0 (holds.0 h), λ w. holds.1 (runner.1 w)) (λ free. nothing_more))) k in
      (λ h. tests.0 (sym (answer_of s _ _) ∙ h), λ w. answer_of s _ _ ∙ tests.1 w)

  pub block_when : (k : ℕ) → ((called s block).answer ≡ k) ↔ FirstThat (block_conditions s) k
  unfolding called block_of
  block_when k =
      let tests = first_that (test_says nobody_runs (λ runs. nothing_more)) k in
      (λ h. tests.0 (sym (answer_of s _ _) ∙ h), λ w. answer_of s _ _ ∙ tests.1 w)

  -- 28: the holder is the caller, or waits for it directly or through others
  ring_says : (i : ℕ) (h : Option ℕ) → ((j : ℕ) → h ≡ Some j → j < length (tasks_of s))
      → (found_and (reaches (tasks_of s) (sems_of s) i) h ≡ true) ↔ ((j : ℕ) × (h ≡ Some j) × Reaches (tasks_of s) (sems_of s) i j)
  unfolding found_and
  ring_says i None inside =
      (λ t. let z : ◌≡◌ {A = ℕ} 0 1 = cc in absurd (omega arith), λ w. let e = w.1 in let z : ◌≡◌ {A = ℕ} 0 1 = cc in absurd (omega arith))
  ring_says i (Some j) inside =
      let c = chained s sound in (
        λ t. (j, refl, true_reaches (tasks_of s) (sems_of s) c i j t),
        λ w.
            let e : Some w.0 ≡ Some j = sym w.1 in
            let same : w.0 ≡ j = cc in
            reaches_true (tasks_of s) (sems_of s) c i j (inside j refl) (subst (λ (x : ℕ). Reaches (tasks_of s) (sems_of s) i x) same w.2),
      )

  -- 90: somebody holds it
  held_says : (h : Option ℕ) → (not (is_none h) ≡ true) ↔ ((j : ℕ) × (h ≡ Some j))
  unfolding is_none found_and
  held_says None = (λ t. let z : ◌≡◌ {A = ℕ} 0 1 = cc in absurd (omega arith), λ w. let e = w.1 in let z : ◌≡◌ {A = ℕ} 0 1 = cc in absurd (omega arith))
  held_says (Some j) = (λ t. (j, refl), λ w. refl)

  acquire_answer : (i k : ℕ) (a b c : Bool) (h : Option ℕ)
      → (answered (first_of ((26, a) ∷ (21, b) ∷ (28, c) ∷ [])) (moved s) (take_or_wait s i k h)).answer
      ≡ first_of ((26, a) ∷ (21, b) ∷ (28, c) ∷ (90, not (is_none h)) ∷ [])
  unfolding first_of answered moved take_or_wait is_none found_and
  acquire_answer i k true b c h = refl
  acquire_answer i k false true c h = refl
  acquire_answer i k false false true h = refl
  acquire_answer i k false false false None = refl
  acquire_answer i k false false false (Some j) = refl

  pub acquire_when : (number k : ℕ) → ((called s (acquire number)).answer ≡ k) ↔ FirstThat (acquire_conditions s number) k
  unfolding called acquire_of acquire_at closes_ring
  acquire_when number k =
      let runs = running_of (tasks_of s) (sems_of s) in
      let i = found_or 0 runs in
      let at = sem_place (sems_of s) number in
      let l = found_or 0 at in
      let e = sem_at (sems_of s) l in
      let inside : is_none at ≡ false → (j : ℕ) → e.holder ≡ Some j → j < length (tasks_of s) =
      λ known j h. (chained s sound).held l (sem_inside number l (some_found at known)) j h in
      let answer = acquire_answer i l (is_none runs) (is_none at) (found_and (reaches (tasks_of s) (sems_of s) i) e.holder) e.holder in
      let tests =
      first_that
      (test_says nobody_runs
      (λ some. test_says (sem_unknown number)
      (λ known.
      let runner =
      the_runner i (λ j. TheSem (sems_of s) number (λ x. (o : ℕ) × (x.holder ≡ Some o) × Reaches (tasks_of s) (sems_of s) j o))
      (some_found runs some) in
      let sem =
      the_sem number l (λ x. (o : ℕ) × (x.holder ≡ Some o) × Reaches (tasks_of s) (sems_of s) i o) (some_found at known) in
      let ring = ring_says i e.holder (inside known) in
      let held = the_sem number l (λ x. (o : ℕ) × (x.holder ≡ Some o)) (some_found at known) in
      let taken = held_says e.holder in
      test_says (λ h. runner.0 (sem.0 (ring.0 h)), λ w. ring.1 (sem.1 (runner.1 w)))
      (λ open-end. test_says (λ h. held.0 (taken.0 h), λ w. taken.1 (held.1 w)) (λ free. nothing_more))))) k in
      (λ h. tests.0 (sym answer ∙ h), λ w. answer ∙ tests.1 w)

  -- every call: the number is that of the first of its conditions that holds
  pub call_when : (c : Call) (k : ℕ) → ((called s c).answer ≡ k) ↔ FirstThat (conditions_of s c) k
  call_when (release number time) k = release_when number time k
  call_when (signal number) k = signal_when number k
  call_when (withdraw number) k = withdraw_when number k
  call_when (acquire number) k = acquire_when number k
  call_when (give number) k = give_when number k
  call_when complete k = complete_when k
  call_when block k = block_when k
