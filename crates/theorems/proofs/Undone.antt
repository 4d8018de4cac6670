-- Demand 3, second half. A task that waits differs from the same task ready in its status alone, and no release or signal looks at more of it than
-- that it is neither idle nor waiting for an event. So the two states stay apart in that one entry until the withdrawal joins them.
-- Assumes nothing.
use Rattle.std.specs.Prelude.{Option, Some, None, position}
use Prim.Native.Nat.{ℕ, ◌+◌, ◌≤◌, ◌<◌}
use mathlib.Core.Path.{◌≡◌, refl, sym, ap, subst, ◌∙◌}
use mathlib.Core.Logic.{◌≢◌}
use mathlib.Core.Bool.{Bool, true, false}
use mathlib.Core.List.{List, [], ◌∷◌}
use native.Mathlib.Omega.{arith}
use lib.Dec.{eqb}
use lib.ListN.{length, get_or, set, length-set, length-take}
use lib.Seq.{take-set-lt, get_or-set_same, get_or-set_other, set-set, set_comm, set-get_or, get_or-take}
use borrow.Author.Tests.{eqb-true, eqb-false}
use Rattle.table.specs.declared.Task.{Task}
use Rattle.table.specs.declared.Status.{Status}
use Rattle.table.specs.declared.Status.TheVariants.{Idle, Ready, Event, Waits}
use Rattle.table.specs.Entries.{blank_task, span_of, with_status, with_deadline}
use Rattle.table.specs.Refusals.{first_of, answered}
use Rattle.table.specs.Places.{task_place, sem_place}
use Rattle.table.proofs.RefusalLaws.{first_of_past, first_of_none}
use Rattle.table.proofs.PlaceLaws.{search_set, found}
use Rattle.executive.specs.declared.state.State.{State}
use Rattle.executive.specs.Calls.{Step}
use Rattle.executive.specs.States.{tasks_of, sems_of}
use Rattle.executive.specs.Sound.{Sound}
use Rattle.waits.specs.Waits.{task_at, sem_at, waits_for}
use Rattle.waits.specs.Standing.{found_and, found_or, is_none, closes_ring, is_idle, is_ready, is_event, ready_at, number_at, standing_of, running_of}
use Rattle.executive.specs.Calls.{with_tasks, with_task, with_last, now_does, moved, on_task, busy, untimely, no_event_wait, no_sem_wait, release_at, take_or_wait, acquire_at, release_of, signal_of, withdraw_of, acquire_of}
use Rattle.waits.proofs.RankLaws.{best_is}
use Rattle.executive.proofs.CallLaws.{on_none, on_refused, on_done}
use Rattle.executive.proofs.LookupLaws.{tasks_count, task_found}
use Rattle.theorems.specs.Histories.{Call, release, signal, withdraw, acquire, give, complete, block, called, after, answers_to}
use Rattle.theorems.specs.Undo.{Pulse, released, signalled, Pulses, none, more}

-- a call that names a task, puts another entry at its place and sets the time of the last release
abbrev Pulsed : ℕ → (Task → List (ℕ × Bool)) → (Task → Task) → ℕ → State → Step
Pulsed number refusals next last s = on_task s number refusals (λ j. with_last (with_task s j (next (task_at (tasks_of s) j))) last)

release_tests : ℕ → ℕ → Task → List (ℕ × Bool)
release_tests last time t = (23, busy t) ∷ (22, untimely last time) ∷ []

release_next : ℕ → Task → Task
release_next time t = with_status (with_deadline t (time + span_of t)) Ready

signal_tests : Task → List (ℕ × Bool)
signal_tests t = (24, no_event_wait t) ∷ []

signal_next : Task → Task
signal_next t = with_status t Ready

-- a release and a signal are such calls
release_pulse : (s : State) (number time : ℕ) → release_of s number time ≡ Pulsed number (release_tests s.last time) (release_next time) time s
unfolding release_of release_tests release_next release_at
release_pulse s number time = refl

signal_pulse : (s : State) (number : ℕ) → signal_of s number ≡ Pulsed number signal_tests signal_next s.last s
unfolding signal_of signal_tests signal_next now_does with_last with_tasks
signal_pulse s number = refl

-- the outcomes of a withdrawal that is accepted, and of an acquire
withdraw_found : (s : State) (number i : ℕ) (u : Task) → task_place (tasks_of s) number ≡ Some i → task_at (tasks_of s) i ≡ u
    → is_none (waits_for u.status) ≡ false → withdraw_of s number ≡ moved (with_task s i (with_status u Ready)) 0
unfolding withdraw_of now_does no_sem_wait
withdraw_found s number i u place here waits =
    on_done s number (λ t. (25, no_sem_wait t) ∷ []) (λ j. now_does s j Ready) i place u here (first_of_past 25 (no_sem_wait u) [] waits ∙ first_of_none)
    ∙ ap (λ (t : Task). moved (with_task s i (with_status t Ready)) 0) here

nobody : (s : State) (sem : ℕ) → running_of (tasks_of s) (sems_of s) ≡ None → acquire_of s sem ≡ moved s 26
unfolding acquire_of first_of answered is_none found_and found_or
nobody s sem r = rw r

no_sem_lem : (s : State) (sem i : ℕ) → running_of (tasks_of s) (sems_of s) ≡ Some i → sem_place (sems_of s) sem ≡ None → acquire_of s sem ≡ moved s 21
unfolding acquire_of first_of answered is_none found_and found_or
no_sem_lem s sem i r p = rw (r, p)

ringed : (s : State) (sem i k : ℕ) → running_of (tasks_of s) (sems_of s) ≡ Some i → sem_place (sems_of s) sem ≡ Some k
    → closes_ring (tasks_of s) (sems_of s) i k ≡ true → acquire_of s sem ≡ moved s 28
unfolding acquire_of first_of answered is_none found_and found_or
ringed s sem i k r p c = rw (r, p, c)

taken : (s : State) (sem i k : ℕ) → running_of (tasks_of s) (sems_of s) ≡ Some i → sem_place (sems_of s) sem ≡ Some k
    → closes_ring (tasks_of s) (sems_of s) i k ≡ false → acquire_of s sem ≡ take_or_wait s i k (sem_at (sems_of s) k).holder
unfolding acquire_of acquire_at first_of answered is_none found_and found_or
taken s sem i k r p c = rw (r, p, c)

-- the tasks after one entry is replaced
tasks_with : (s : State) (i : ℕ) (t : Task) → i < s.n → tasks_of (with_task s i t) ≡ set (tasks_of s) i t
unfolding tasks_of with_tasks
tasks_with s i t h = take-set-lt s.n s.tasks i t h

tasks_with_last : (s : State) (l : ℕ) → tasks_of (with_last s l) ≡ tasks_of s
unfolding tasks_of with_last
tasks_with_last s l = refl

-- the task at i, ready as t or waiting as w
module _ (i : ℕ) (t w : Task) (same : w.number ≡ t.number) where
  record Holds (s : State) : Type 0 where
    inside : i < s.n
    room : s.n ≤ length s.tasks
    here : task_at (tasks_of s) i ≡ t
    known : task_place (tasks_of s) t.number ≡ Some i

  count : (s : State) → Holds s → length (tasks_of s) ≡ s.n
  unfolding tasks_of
  count s h = let l = length-take s.n s.tasks in let r = h.room in omega arith

  -- an entry replaced by one of the same number is found alike
  place_with : (s : State) (j : ℕ) (u : Task) (number : ℕ) → j < s.n → u.number ≡ (task_at (tasks_of s) j).number
      → task_place (tasks_of (with_task s j u)) number ≡ task_place (tasks_of s) number
  unfolding task_place task_at
  place_with s j u number h e =
      ap (position (λ x. eqb x.number number)) (tasks_with s j u h)
      ∙ search_set (λ x. eqb x.number number) (tasks_of s) j u blank_task (ap (λ (k : ℕ). eqb k number) e)

  at_other : (s : State) (j k : ℕ) (u : Task) → j < s.n → k ≢ j → task_at (tasks_of (with_task s j u)) k ≡ task_at (tasks_of s) k
  unfolding task_at
  at_other s j k u h ne = ap (λ (l : List Task). get_or l k blank_task) (tasks_with s j u h) ∙ get_or-set_other (tasks_of s) j k u blank_task ne

  at_same : (s : State) (j : ℕ) (u : Task) → j < s.n → j < length (tasks_of s) → task_at (tasks_of (with_task s j u)) j ≡ u
  unfolding task_at
  at_same s j u h k = ap (λ (l : List Task). get_or l j blank_task) (tasks_with s j u h) ∙ get_or-set_same (tasks_of s) j u blank_task k

  -- what stays so after an entry other than i is replaced by one of the same number, and after the time is set
  holds_on : (s : State) (j : ℕ) (u : Task) (last : ℕ) → Holds s → j < s.n → i ≢ j → u.number ≡ (task_at (tasks_of s) j).number
      → Holds (with_last (with_task s j u) last)
  unfolding with_last with_tasks
  holds_on s j u last h k ne e =
      record {
        inside = h.inside;
        room = rw (length-set s.tasks j u) h.room;
        here = ap (λ (l : List Task). task_at l i) (tasks_with_last (with_task s j u) last) ∙ (at_other s j i u k ne ∙ h.here);
        known =
            ap (λ (l : List Task). task_place l t.number) (tasks_with_last (with_task s j u) last)
            ∙ (place_with s j u t.number k e ∙ h.known);
      }

  -- two entries replaced, in either order
  swapped : (s : State) (j : ℕ) (u : Task) (last : ℕ) → i ≢ j
      → with_last (with_task (with_task s i w) j u) last ≡ with_task (with_last (with_task s j u) last) i w
  unfolding with_last with_tasks
  swapped s j u last ne = ap (λ (l : List Task). with_last (with_tasks s l) last) (set_comm s.tasks i j w u ne)

  -- a call that names a task and refuses both the ready and the waiting one with the same number
  module _ (number : ℕ) (refusals : Task → List (ℕ × Bool)) (next : Task → Task) (keeps : (u : Task) → (next u).number ≡ u.number)
      (refused : first_of (refusals t) ≢ 0) (alike : first_of (refusals w) ≡ first_of (refusals t)) where
    done : ℕ → State → ℕ → State
    done last s j = with_last (with_task s j (next (task_at (tasks_of s) j))) last

    -- what it does to the waiting state is what it does to the ready one
    abbrev Follows : State → ℕ → Type 0
    Follows s last =
        let r = Pulsed number refusals next last s in
        (Pulsed number refusals next last (with_task s i w) ≡ moved (with_task r.state i w) r.answer) × Holds r.state

    -- both sides known
    follow : (s : State) (last : ℕ) (r : State) (k : ℕ) → Pulsed number refusals next last s ≡ moved r k
        → Pulsed number refusals next last (with_task s i w) ≡ moved (with_task r i w) k → Holds r → Follows s last
    unfolding moved
    follow s last r k p q h = (
      q ∙ sym (ap (λ (m : Step). moved (with_task m.state i w) m.answer) p),
      subst (λ (m : Step). Holds m.state) (sym p) h,
    )

    follows_unknown : (s : State) (last : ℕ) → Holds s → task_place (tasks_of s) number ≡ None → task_place (tasks_of (with_task s i w)) number ≡ None
        → Follows s last
    unfolding done
    follows_unknown s last h p q =
        follow s last s 20 (on_none s number refusals (done last s) p) (on_none (with_task s i w) number refusals (done last (with_task s i w)) q) h

    module _ (s : State) (last j : ℕ) (h : Holds s) (p : task_place (tasks_of s) number ≡ Some j)
        (q : task_place (tasks_of (with_task s i w)) number ≡ Some j) where
      follows_self : i ≡ j → Follows s last
      unfolding done
      follows_self e =
          let l = count s h in
          let k = h.inside in
          follow s last s (first_of (refusals t))
          (on_refused s number refusals (done last s) i (p ∙ ap Some (sym e)) t h.here (first_of (refusals t)) refl refused)
          (on_refused (with_task s i w) number refusals (done last (with_task s i w)) i (q ∙ ap Some (sym e)) w (at_same s i w h.inside (omega arith))
          (first_of (refusals t)) alike refused)
          h

      follows_other : j < s.n → i ≢ j → (b : Bool) → eqb (first_of (refusals (task_at (tasks_of s) j))) 0 ≡ b → Follows s last
      unfolding done
      follows_other k ne false e =
          let u = task_at (tasks_of s) j in
          let no : first_of (refusals u) ≢ 0 = eqb-false (first_of (refusals u)) 0 e in
          follow s last s (first_of (refusals u))
          (on_refused s number refusals (done last s) j p u refl (first_of (refusals u)) refl no)
          (on_refused (with_task s i w) number refusals (done last (with_task s i w)) j q u (at_other s i j w h.inside (λ x. ne (sym x)))
          (first_of (refusals u)) refl no)
          h
      follows_other k ne true e =
          let u = task_at (tasks_of s) j in
          let yes : first_of (refusals u) ≡ 0 = eqb-true (first_of (refusals u)) 0 e in
          let there = at_other s i j w h.inside (λ x. ne (sym x)) in
          follow s last (with_last (with_task s j (next u)) last) 0
          (on_done s number refusals (done last s) j p u refl yes)
          (on_done (with_task s i w) number refusals (done last (with_task s i w)) j q u there yes
          ∙ ap (λ (x : Task). moved (with_last (with_task (with_task s i w) j (next x)) last) 0) there
          ∙ ap (λ (r : State). moved r 0) (swapped s j (next u) last ne))
          (holds_on s j (next u) last h k ne (keeps u))

    follows : (s : State) (last : ℕ) → Holds s → ((j : ℕ) → task_place (tasks_of s) number ≡ Some j → j < s.n) → Follows s last
    follows s last h inside = go (task_place (tasks_of s) number) refl
      where
        alike_placed : task_place (tasks_of (with_task s i w)) number ≡ task_place (tasks_of s) number
        alike_placed = place_with s i w number h.inside (same ∙ ap (λ (u : Task). u.number) (sym h.here))

        at : (j : ℕ) → task_place (tasks_of s) number ≡ Some j → (b : Bool) → eqb i j ≡ b → Follows s last
        at j p true e = follows_self s last j h p (alike_placed ∙ p) (eqb-true i j e)
        at j p false e =
            follows_other s last j h p (alike_placed ∙ p) (inside j p) (eqb-false i j e) (eqb (first_of (refusals (task_at (tasks_of s) j))) 0) refl

        go : (f : Option ℕ) → task_place (tasks_of s) number ≡ f → Follows s last
        go None p = follows_unknown s last h p (alike_placed ∙ p)
        go (Some j) p = at j p (eqb i j) refl

-- the same task, waiting for the semaphore at k
waiting : Task → ℕ → Task
waiting t k = with_status t (Waits k)

-- a task that is ready is neither released nor signalled, and no more is it while it waits
module _ (t : Task) (k : ℕ) (ready : t.status ≡ Ready) where
  ready_release : (last time : ℕ) → first_of (release_tests last time t) ≡ 23
  unfolding release_tests first_of busy is_idle
  ready_release last time = rw ready

  waiting_release : (last time : ℕ) → first_of (release_tests last time (waiting t k)) ≡ 23
  unfolding release_tests first_of busy is_idle waiting
  waiting_release last time = refl

  ready_signal : first_of (signal_tests t) ≡ 24
  unfolding signal_tests first_of no_event_wait is_event
  ready_signal = rw ready

  waiting_signal : first_of (signal_tests (waiting t k)) ≡ 24
  unfolding signal_tests first_of no_event_wait is_event waiting
  waiting_signal = refl

  same_number : (waiting t k).number ≡ t.number
  unfolding waiting
  same_number = refl

  waiting_waits : is_none (waits_for (waiting t k).status) ≡ false
  unfolding waiting is_none waits_for found_and
  waiting_waits = refl

  -- ready again
  back : with_status (waiting t k) Ready ≡ t
  unfolding waiting
  back = ap (with_status t) (sym ready)

module _ (i : ℕ) (t : Task) (k : ℕ) (ready : t.status ≡ Ready) where
  -- the state in which the task at i waits
  apart : State → State
  apart s = with_task s i (waiting t k)

  abbrev Same : State → Type 0
  Same s = Holds i t (waiting t k) (same_number t k ready) s

  found_inside : (s : State) → Same s → (number j : ℕ) → task_place (tasks_of s) number ≡ Some j → j < s.n
  unfolding task_place
  found_inside s h number j e =
      let f = found (λ x. eqb x.number number) (tasks_of s) j blank_task e in
      let n = count i t (waiting t k) (same_number t k ready) s h in
      omega arith

  apart_place : (s : State) → Same s → (number : ℕ) → task_place (tasks_of (apart s)) number ≡ task_place (tasks_of s) number
  unfolding apart
  apart_place s h number =
      place_with i t (waiting t k) (same_number t k ready) s i (waiting t k) number h.inside
      (same_number t k ready ∙ ap (λ (u : Task). u.number) (sym h.here))

  -- one pulse
  abbrev Both : State → Call → Type 0
  Both s c = (called (apart s) c ≡ moved (apart (called s c).state) (called s c).answer) × Same (called s c).state

  joined : (s : State) (m : Step) (m' r : Step) → m ≡ r → m' ≡ moved (apart r.state) r.answer → Same r.state
      → (m' ≡ moved (apart m.state) m.answer) × Same m.state
  joined s m m' r e f h = (
    f ∙ sym (ap (λ (x : Step). moved (apart x.state) x.answer) e),
    subst (λ (x : Step). Same x.state) (sym e) h,
  )

  step : (s : State) → Same s → (c : Call) → Pulse c → Both s c
  unfolding called apart with_tasks release_next signal_next
  step s h (release number time) (released) =
      let r = follows i t (waiting t k) (same_number t k ready) number (release_tests s.last time) (release_next time) (λ u. refl)
      (λ z. let a = ready_release t k ready s.last time in omega arith)
      (waiting_release t k ready s.last time ∙ sym (ready_release t k ready s.last time)) s time h (found_inside s h number) in
      joined s (release_of s number time) (release_of (apart s) number time) (Pulsed number (release_tests s.last time) (release_next time) time s)
      (release_pulse s number time)
      (release_pulse (apart s) number time ∙ r.0)
      r.1
  step s h (signal number) (signalled) =
      let r = follows i t (waiting t k) (same_number t k ready) number signal_tests signal_next (λ u. refl)
      (λ z. let a = ready_signal t k ready in omega arith)
      (waiting_signal t k ready ∙ sym (ready_signal t k ready)) s s.last h (found_inside s h number) in
      joined s (signal_of s number) (signal_of (apart s) number) (Pulsed number signal_tests signal_next s.last s)
      (signal_pulse s number)
      (signal_pulse (apart s) number ∙ r.0)
      r.1
  step s h (withdraw _) pulse = elim pulse [ ]
  step s h (acquire _) pulse = elim pulse [ ]
  step s h (give _) pulse = elim pulse [ ]
  step s h complete pulse = elim pulse [ ]
  step s h block pulse = elim pulse [ ]

  -- any list of pulses
  steps : (s : State) → Same s → (calls : List Call) → Pulses calls
      → (after (apart s) calls ≡ apart (after s calls)) × (answers_to (apart s) calls ≡ answers_to s calls) × Same (after s calls)
  unfolding after answers_to moved
  steps s h [] none = (refl, refl, h)
  steps s h (c ∷ rest) (more p ps) =
      let b = step s h c p in
      let r = steps (called s c).state b.1 rest ps in (
        ap (λ (m : Step). after m.state rest) b.0 ∙ r.0,
        ap (λ (m : Step). m.answer ∷ answers_to m.state rest) b.0 ∙ ap (λ (l : List ℕ). (called s c).answer ∷ l) r.1,
        r.2,
      )

  -- the withdrawal gives the very state back
  rejoin : (s : State) → Same s → with_task (apart s) i t ≡ s
  unfolding apart with_tasks task_at tasks_of
  rejoin s h =
      let there : get_or s.tasks i blank_task ≡ t = sym (get_or-take s.n s.tasks i blank_task h.inside) ∙ h.here in
      ap (with_tasks s) (set-set s.tasks i (waiting t k) t ∙ ap (set s.tasks i) (sym there) ∙ set-get_or s.tasks i blank_task)

  withdrawn : (s : State) → Same s → withdraw_of (apart s) t.number ≡ moved s 0
  withdrawn s h =
      let l = count i t (waiting t k) (same_number t k ready) s h in
      let inside = h.inside in
      let here : task_at (tasks_of (apart s)) i ≡ waiting t k =
      unfold apart in at_same i t (waiting t k) (same_number t k ready) s i (waiting t k) h.inside (omega arith) in
      let place : task_place (tasks_of (apart s)) t.number ≡ Some i = apart_place s h t.number ∙ h.known in
      withdraw_found (apart s) t.number i (waiting t k) place here (waiting_waits t k ready)
      ∙ (ap (λ (u : Task). moved (with_task (apart s) i u) 0) (back t k ready) ∙ ap (λ (r : State). moved r 0) (rejoin s h))

-- an acquire that is answered 90: the running task is the caller, and waits
abbrev Waited : State → ℕ → Type 0
Waited s sem =
    (i : ℕ) × (k : ℕ) × (running_of (tasks_of s) (sems_of s) ≡ Some i) × (acquire_of s sem ≡ moved (now_does s i (Waits k)) 90)

other_number : (k : ℕ) → eqb k 90 ≡ false → k ≡ 90 → ⊥
other_number k e = eqb-false k 90 e

waited_holder : (s : State) (sem i k : ℕ) (h : Option ℕ) → (sem_at (sems_of s) k).holder ≡ h → running_of (tasks_of s) (sems_of s) ≡ Some i
    → acquire_of s sem ≡ take_or_wait s i k h → (acquire_of s sem).answer ≡ 90 → Waited s sem
unfolding take_or_wait moved
waited_holder s sem i k None e r a n = absurd (other_number 0 refl (sym (ap (λ (m : Step). m.answer) a) ∙ n))
waited_holder s sem i k (Some j) e r a n = (i, k, r, a)

waited_ring : (s : State) (sem i k : ℕ) (b : Bool) → running_of (tasks_of s) (sems_of s) ≡ Some i → sem_place (sems_of s) sem ≡ Some k
    → closes_ring (tasks_of s) (sems_of s) i k ≡ b → (acquire_of s sem).answer ≡ 90 → Waited s sem
unfolding moved
waited_ring s sem i k true r p c n = absurd (other_number 28 refl (sym (ap (λ (m : Step). m.answer) (ringed s sem i k r p c)) ∙ n))
waited_ring s sem i k false r p c n =
    waited_holder s sem i k (sem_at (sems_of s) k).holder refl r (taken s sem i k r p c) n

waited_sem : (s : State) (sem i : ℕ) (at : Option ℕ) → running_of (tasks_of s) (sems_of s) ≡ Some i → sem_place (sems_of s) sem ≡ at
    → (acquire_of s sem).answer ≡ 90 → Waited s sem
unfolding moved
waited_sem s sem i None r p n = absurd (other_number 21 refl (sym (ap (λ (m : Step). m.answer) (no_sem_lem s sem i r p)) ∙ n))
waited_sem s sem i (Some k) r p n = waited_ring s sem i k (closes_ring (tasks_of s) (sems_of s) i k) r p refl n

waited : (s : State) (sem : ℕ) (runs : Option ℕ) → running_of (tasks_of s) (sems_of s) ≡ runs → (acquire_of s sem).answer ≡ 90 → Waited s sem
unfolding moved
waited s sem None r n = absurd (other_number 26 refl (sym (ap (λ (m : Step). m.answer) (nobody s sem r)) ∙ n))
waited s sem (Some i) r n = waited_sem s sem i (sem_place (sems_of s) sem) r refl n

ready_status : (now : Status) → is_ready now ≡ true → now ≡ Ready
unfolding is_ready
ready_status Idle e = let z : ◌≡◌ {A = ℕ} 0 1 = cc in absurd (omega arith)
ready_status Ready e = refl
ready_status Event e = let z : ◌≡◌ {A = ℕ} 0 1 = cc in absurd (omega arith)
ready_status (Waits k) e = let z : ◌≡◌ {A = ℕ} 0 1 = cc in absurd (omega arith)

-- the task that runs is one of the table, and ready
runner : (s : State) (i : ℕ) → running_of (tasks_of s) (sems_of s) ≡ Some i → (i < length (tasks_of s)) × ((task_at (tasks_of s) i).status ≡ Ready)
unfolding running_of ready_at
runner s i e =
    let best = best_is (ready_at (tasks_of s)) (standing_of (tasks_of s) (sems_of s)) (length (tasks_of s)) i e in
    (best.below, ready_status (task_at (tasks_of s) i).status best.passes)

-- a sound state is one in which the task that runs is known by its number
starts : (s : State) → Sound s → (i k : ℕ) (h : i < length (tasks_of s)) (ready : (task_at (tasks_of s) i).status ≡ Ready)
    → Same i (task_at (tasks_of s) i) k ready s
unfolding task_at
starts s sound i k h ready =
    let c = tasks_count s sound.sized in
    let a = sound.sized.tasks_length in
    let b = sound.sized.tasks_fit in
    record { inside = omega arith; room = omega arith; here = refl; known = task_found s sound i (omega arith) }

waits_apart : (s : State) (i k : ℕ) (ready : (task_at (tasks_of s) i).status ≡ Ready) → now_does s i (Waits k) ≡ apart i (task_at (tasks_of s) i) k ready s
unfolding now_does apart waiting
waits_apart s i k ready = refl

number_of : (s : State) (i : ℕ) → number_at (tasks_of s) (Some i) ≡ (task_at (tasks_of s) i).number
unfolding number_at
number_of s i = refl

-- Demand 3, second half: on any sound state, an acquire answered 90, then any list of releases and signals, then the withdrawal of that caller
-- leaves, with answer 0, the very state that the releases and signals alone leave, and each of them gets the same number
pub undone : (s : State) → Sound s → (sem : ℕ) → (called s (acquire sem)).answer ≡ 90 → (calls : List Call) → Pulses calls
    → (called (after (called s (acquire sem)).state calls) (withdraw (number_at (tasks_of s) (running_of (tasks_of s) (sems_of s)))) ≡ moved (after s calls) 0)
    × (answers_to (called s (acquire sem)).state calls ≡ answers_to s calls)
unfolding called moved
undone s sound sem n calls pulses =
    let r = waited s sem (running_of (tasks_of s) (sems_of s)) refl n in
    let i = r.0 in
    let k = r.1 in
    let t = task_at (tasks_of s) i in
    let run = runner s i r.2 in
    let same = starts s sound i k run.0 run.1 in
    let state : (acquire_of s sem).state ≡ apart i t k run.1 s = ap (λ (m : Step). m.state) r.3 ∙ waits_apart s i k run.1 in
    let number : number_at (tasks_of s) (running_of (tasks_of s) (sems_of s)) ≡ t.number = ap (number_at (tasks_of s)) r.2 ∙ number_of s i in
    let all = steps i t k run.1 s same calls pulses in (
      ap (λ (x : State). withdraw_of (after x calls) (number_at (tasks_of s) (running_of (tasks_of s) (sems_of s)))) state
          ∙ (ap (λ (x : ℕ). withdraw_of (after (apart i t k run.1 s) calls) x) number
          ∙ (ap (λ (x : State). withdraw_of x t.number) all.0 ∙ withdrawn i t k run.1 (after s calls) all.2)),
      ap (λ (x : State). answers_to x calls) state ∙ all.1,
    )
