-- Each call, accepted or refused, hands back a sound state where it was given one.
-- Assumes nothing.
use Rattle.std.specs.Prelude.{Option, Some, None}
use Prim.Native.Nat.{ℕ, ◌+◌, ◌≤◌, ◌<◌}
use mathlib.Core.Path.{◌≡◌, refl, sym, ap, subst, ◌∙◌}
use mathlib.Core.Logic.{◌≢◌}
use mathlib.Core.Bool.{Bool, true, false}
use mathlib.Core.List.{List, [], ◌∷◌}
use native.Mathlib.Omega.{arith}
use lib.Dec.{eqb}
use lib.ListN.{length}
use borrow.Author.Tests.{eq-eqb, eqb-false}
use Rattle.table.specs.declared.Task.{Task}
use Rattle.table.specs.declared.Sem.{Sem}
use Rattle.table.specs.declared.Status.{Status}
use Rattle.table.specs.declared.Status.TheVariants.{Idle, Ready, Event, Waits}
use Rattle.table.specs.Entries.{span_of, with_status, with_deadline, with_holder}
use Rattle.table.specs.Places.{sem_place}
use Rattle.table.proofs.RefusalLaws.{first_of_zero}
use Rattle.waits.specs.Waits.{task_at, sem_at, waits_for, Ends}
use Rattle.waits.specs.Standing.{found_and, found_or, is_none, is_ready, ready_at, waiter_at, reaches, running_of, heir_of, standing_of, still_holds, closes_ring}
use Rattle.waits.proofs.RankLaws.{best_none}
use Rattle.waits.proofs.ChainLaws.{waits_held, waits_none, reaches_true}
use Rattle.waits.proofs.DispatchLaws.{runs_is}
use Rattle.executive.specs.declared.state.State.{State}
use Rattle.executive.specs.Calls.{Step}
use Rattle.executive.specs.States.{tasks_of, sems_of}
use Rattle.executive.specs.Sound.{Sound}
use Rattle.executive.specs.Calls.{with_tasks, with_task, with_sem, with_last, now_does, now_held, moved, busy, untimely, no_event_wait, no_sem_wait, not_held, release_at, take_or_wait, acquire_at, hand_over, give_at, complete_at, on_task, release_of, signal_of, withdraw_of, acquire_of, give_of, complete_of, block_of}
use Rattle.executive.proofs.LookupLaws.{task_below, sem_below}
use Rattle.executive.proofs.SoundLaws.{chained, tasks_length_lem, sems_length_lem, runs_below, heir_below}
use Rattle.executive.proofs.CallLaws.{call_keeps, on_keeps, release_timely, holds_none}
use Rattle.kept.proofs.KeepLaws.{calm_kept, wait_kept, sem_kept, sem_set_same, task_set_same}

-- what a call hands back is sound
abbrev Kept : Step → Type 0
Kept r = Sound r.state

-- something was found, where it is not refused that nothing was
there : (f : Option ℕ) → is_none f ≡ false → f ≡ Some (found_or 0 f)
unfolding is_none found_and found_or
there None e = let z : ◌≡◌ {A = ℕ} 0 1 = cc in absurd (omega arith)
there (Some i) e = refl

ready_not_idle : Ready ≢ Idle
ready_not_idle e = let z : ◌≡◌ {A = ℕ} 0 1 = cc in omega arith

ready_awake : (now : Status) → is_ready now ≡ true → now ≢ Idle
unfolding is_ready
ready_awake Idle e q = let z : ◌≡◌ {A = ℕ} 0 1 = cc in omega arith
ready_awake Ready e q = ready_not_idle q
ready_awake Event e q = let z : ◌≡◌ {A = ℕ} 0 1 = cc in omega arith
ready_awake (Waits k) e q = let z : ◌≡◌ {A = ℕ} 0 1 = cc in omega arith

module _ (s : State) (sound : Sound s) where
  -- the time of the last accepted release is an allowed one
  last_kept : (time : ℕ) → 1 ≤ s.n → time ≤ 1000000000000000 → Sound (with_last s time)
  unfolding with_last tasks_of sems_of
  last_kept time some h =
      record {
        sized =
            record {
              tasks_length = sound.sized.tasks_length;
              sems_length = sound.sized.sems_length;
              tasks_fit = sound.sized.tasks_fit;
              sems_fit = sound.sized.sems_fit;
            };
        tasks_blank = sound.tasks_blank;
        sems_blank = sound.sems_blank;
        none = λ e. absurd (omega arith);
        table = sound.table;
        holders = sound.holders;
        waits = sound.waits;
        chains = sound.chains;
        time = h;
      }

  -- a task that waits for no semaphore and is not idle then
  pub does_kept : (i : ℕ) → i < s.n → (now : Status) → waits_for now ≡ None → now ≢ Idle → Sound (now_does s i now)
  unfolding now_does
  does_kept i h now calm awake = calm_kept s sound i h (task_at (tasks_of s) i).deadline now calm (λ k hk e. awake)

  ready_none : waits_for Ready ≡ None
  unfolding waits_for
  ready_none = refl

pub release_sound : (s : State) → Sound s → (number time : ℕ) → Sound (release_of s number time).state
unfolding release_of moved
release_sound s sound number time =
    on_keeps s number (λ t. (23, busy t) ∷ (22, untimely s.last time) ∷ []) (λ i. release_at s i time) Kept (λ k. sound)
    (λ i e f. go i (task_below s sound.sized number i e) (release_timely (busy (task_at (tasks_of s) i)) s.last time f).1)
  where
    go : (i : ℕ) → i < s.n → time ≤ 1000000000000000 → Sound (release_at s i time)
    go i h small =
        unfold release_at in
        last_kept (with_task s i (with_status (with_deadline (task_at (tasks_of s) i) (time + span_of (task_at (tasks_of s) i))) Ready))
        (calm_kept s sound i h (time + span_of (task_at (tasks_of s) i)) Ready (ready_none s sound) (λ k hk e. ready_not_idle)) time
        (unfold with_tasks in omega arith) small

-- a call that names a task and makes it ready
wakes_sound : (s : State) → Sound s → (number : ℕ) (refusals : Task → List (ℕ × Bool)) → Kept (on_task s number refusals (λ i. now_does s i Ready))
unfolding moved
wakes_sound s sound number refusals =
    on_keeps s number refusals (λ i. now_does s i Ready) Kept (λ k. sound)
    (λ i e f. does_kept s sound i (task_below s sound.sized number i e) Ready (ready_none s sound) ready_not_idle)

pub signal_sound : (s : State) → Sound s → (number : ℕ) → Sound (signal_of s number).state
unfolding signal_of
signal_sound s sound number = wakes_sound s sound number (λ t. (24, no_event_wait t) ∷ [])

pub withdraw_sound : (s : State) → Sound s → (number : ℕ) → Sound (withdraw_of s number).state
unfolding withdraw_of
withdraw_sound s sound number = wakes_sound s sound number (λ t. (25, no_sem_wait t) ∷ [])

pub block_sound : (s : State) → Sound s → Sound (block_of s).state
unfolding block_of moved waits_for
block_sound s sound =
    call_keeps 26 (λ i. []) (moved s) (λ i. moved (now_does s i Event) 0) Kept (running_of (tasks_of s) (sems_of s)) (eqb-false 26 0 refl) (λ k. sound)
    (λ i e f. does_kept s sound i (runs_below s sound i e) Event refl (λ q. let z : ◌≡◌ {A = ℕ} 0 1 = cc in omega arith))

pub complete_sound : (s : State) → Sound s → Sound (complete_of s).state
unfolding complete_of complete_at moved now_does
complete_sound s sound =
    call_keeps 26 (λ i. (27, still_holds (sems_of s) i) ∷ []) (moved s) (λ i. moved (complete_at s i) 0) Kept (running_of (tasks_of s) (sems_of s))
    (eqb-false 26 0 refl) (λ k. sound)
    (λ i e f.
    calm_kept s sound i (runs_below s sound i e) (task_at (tasks_of s) i).deadline Idle (unfold waits_for in refl)
    (λ k hk by.
    let l = sems_length_lem s sound in
    absurd (holds_none (sems_of s) i (first_of_zero 27 (still_holds (sems_of s) i) [] (eqb-false 27 0 refl) f).0 k (omega arith) by)))

-- what the running task may do to a semaphore that there is
module _ (s : State) (sound : Sound s) (i : ℕ) (run : running_of (tasks_of s) (sems_of s) ≡ Some i) (k : ℕ) (h : k < s.m) where
  -- it takes a free one, for which nobody waits
  take_kept : (sem_at (sems_of s) k).holder ≡ None → Sound (now_held s k (Some i))
  unfolding now_held ready_at
  take_kept free =
      sem_kept s sound k h (Some i)
      (λ j e.
      let same : i ≡ j = cc in
      subst (λ (x : ℕ). (x < s.n) × ((task_at (tasks_of s) x).status ≢ Idle)) same
      (runs_below s sound i run, ready_awake (task_at (tasks_of s) i).status (runs_is (tasks_of s) (sems_of s) i run).passes))
      (λ j hj e.
      let w = (sound.waits j hj k e).1.1 in
      let f = free in
      let z : ◌≡◌ {A = ℕ} 0 1 = cc in
      absurd (omega arith))

  -- it waits for one that is held, where that closes no ring
  wait_for_kept : (j : ℕ) → (sem_at (sems_of s) k).holder ≡ Some j → closes_ring (tasks_of s) (sems_of s) i k ≡ false → Sound (now_does s i (Waits k))
  unfolding now_does closes_ring found_and
  wait_for_kept j by gap =
      wait_kept s sound i (runs_below s sound i run) (task_at (tasks_of s) i).deadline (Waits k) k j (unfold waits_for in refl)
      (λ q. let z : ◌≡◌ {A = ℕ} 0 1 = cc in omega arith) h by
      (λ r.
      let below = (sound.holders k h j by).0 in
      let l = tasks_length_lem s sound in
      let t = reaches_true (tasks_of s) (sems_of s) (chained s sound) i j (omega arith) r in
      let f : reaches (tasks_of s) (sems_of s) i j ≡ false = sym (ap (λ (x : Option ℕ). found_and (reaches (tasks_of s) (sems_of s) i) x) by) ∙ gap in
      let z : ◌≡◌ {A = ℕ} 0 1 = cc in
      omega arith)

  pub acquire_kept : closes_ring (tasks_of s) (sems_of s) i k ≡ false → Sound (acquire_at s i k).state
  unfolding acquire_at take_or_wait moved
  acquire_kept gap = go (sem_at (sems_of s) k).holder refl
    where
      go : (x : Option ℕ) → (sem_at (sems_of s) k).holder ≡ x → Sound (take_or_wait s i k (sem_at (sems_of s) k).holder).state
      go None e = rw e (take_kept e)
      go (Some j) e = rw e (wait_for_kept j e gap)

-- what a give does
module _ (s : State) (sound : Sound s) (k : ℕ) (h : k < s.m) where
  -- it frees a semaphore that nobody waits for
  free_kept : heir_of (tasks_of s) (sems_of s) k ≡ None → Sound (now_held s k None)
  unfolding now_held heir_of waiter_at
  free_kept none =
      sem_kept s sound k h None
      (λ i e. let z : ◌≡◌ {A = ℕ} 0 1 = cc in absurd (omega arith))
      (λ i hi e.
      let l = tasks_length_lem s sound in
      let f = best_none (waiter_at (tasks_of s) k) (standing_of (tasks_of s) (sems_of s)) (length (tasks_of s)) none i (omega arith) in
      let t : waiter_at (tasks_of s) k i ≡ true = unfold found_and in ap (found_and (λ at. eqb at k)) e ∙ eq-eqb k k refl in
      let z : ◌≡◌ {A = ℕ} 0 1 = cc in
      absurd (omega arith))

  -- it hands it to a waiter, which is ready then
  hand_kept : (w : ℕ) → w < s.n → Sound (now_held (now_does s w Ready) k (Some w))
  unfolding now_held
  hand_kept w hw =
      sem_kept next kept k (unfold now_does with_tasks in h) (Some w)
      (λ i e.
      let same : w ≡ i = cc in
      subst (λ (x : ℕ). (x < next.n) × ((task_at (tasks_of next) x).status ≢ Idle)) same
      (unfold now_does with_tasks in hw, λ q. ready_not_idle (sym now ∙ q)))
      (λ i hi e. ((w, refl), Ends.there (waits_held (tasks_of next) (sems_of last) i k e ∙ ap (λ (x : Sem). x.holder) held) end))
    where
      next : State
      next = now_does s w Ready

      kept : Sound next
      kept = does_kept s sound w hw Ready (ready_none s sound) ready_not_idle

      now : (task_at (tasks_of next) w).status ≡ Ready
      now = unfold now_does in ap (λ (t : Task). t.status) (task_set_same s sound w hw (with_status (task_at (tasks_of s) w) Ready))

      last : State
      last = with_sem next k (with_holder (sem_at (sems_of next) k) (Some w))

      held : sem_at (sems_of last) k ≡ with_holder (sem_at (sems_of next) k) (Some w)
      held = sem_set_same next kept k (unfold now_does with_tasks in h) (with_holder (sem_at (sems_of next) k) (Some w))

      end : Ends (tasks_of next) (sems_of last) w
      end = Ends.here (waits_none (tasks_of next) (sems_of last) w (ap waits_for now ∙ ready_none s sound))

  pub give_kept : Sound (give_at s k)
  unfolding give_at hand_over
  give_kept = go (heir_of (tasks_of s) (sems_of s) k) refl
    where
      go : (f : Option ℕ) → heir_of (tasks_of s) (sems_of s) k ≡ f → Sound (hand_over s k (heir_of (tasks_of s) (sems_of s) k))
      go None e = rw e (free_kept e)
      go (Some w) e = rw e (hand_kept w (heir_below s sound k w e))

pub acquire_sound : (s : State) → Sound s → (number : ℕ) → Sound (acquire_of s number).state
unfolding acquire_of moved
acquire_sound s sound number =
    call_keeps 26 (λ i. (21, is_none at) ∷ (28, closes_ring (tasks_of s) (sems_of s) i (found_or 0 at)) ∷ []) (moved s)
    (λ i. acquire_at s i (found_or 0 at)) Kept (running_of (tasks_of s) (sems_of s)) (eqb-false 26 0 refl) (λ k. sound)
    (λ i e f.
    let known = first_of_zero 21 (is_none at) ((28, closes_ring (tasks_of s) (sems_of s) i (found_or 0 at)) ∷ []) (eqb-false 21 0 refl) f in
    let gap = first_of_zero 28 (closes_ring (tasks_of s) (sems_of s) i (found_or 0 at)) [] (eqb-false 28 0 refl) known.1 in
    acquire_kept s sound i e (found_or 0 at) (sem_below s sound.sized number (found_or 0 at) (there at known.0)) gap.0)
  where
    at : Option ℕ
    at = sem_place (sems_of s) number

pub give_sound : (s : State) → Sound s → (number : ℕ) → Sound (give_of s number).state
unfolding give_of moved
give_sound s sound number =
    call_keeps 26 (λ i. (21, is_none at) ∷ (29, not_held (sems_of s) i (found_or 0 at)) ∷ []) (moved s)
    (λ i. moved (give_at s (found_or 0 at)) 0) Kept (running_of (tasks_of s) (sems_of s)) (eqb-false 26 0 refl) (λ k. sound)
    (λ i e f.
    let known = first_of_zero 21 (is_none at) ((29, not_held (sems_of s) i (found_or 0 at)) ∷ []) (eqb-false 21 0 refl) f in
    give_kept s sound (found_or 0 at) (sem_below s sound.sized number (found_or 0 at) (there at known.0)))
  where
    at : Option ℕ
    at = sem_place (sems_of s) number
