-- The calls (01, "Dispatch" and "Numbers that come back"): each hands back the next state and a number.
use Rattle.std.specs.Prelude.{ℕ, ◌+◌, Bool, not, ◌||◌, List, [], ◌∷◌, ltb, set, Option, Some, None, Result, Ok, Err}
use Rattle.table.specs.declared.Task.{Task}
use Rattle.table.specs.declared.Sem.{Sem}
use Rattle.table.specs.declared.Status.{Status}
use Rattle.table.specs.declared.Status.TheVariants.{Idle, Ready, Event, Waits}
use Rattle.table.specs.Entries.{span_of, with_status, with_deadline, with_holder}
use Rattle.table.specs.declared.refusals.Refusal.{Refusal}
use Rattle.table.specs.Refusals.{first_of, answered, number_of}
use Rattle.table.specs.Places.{task_place, sem_place}
use Rattle.waits.specs.declared.standing.Rank.{Rank}
use Rattle.waits.specs.Waits.{task_at, sem_at, waits_for}
use Rattle.waits.specs.Standing.{
  found_or,
  is_none,
  is_idle,
  is_event,
  holds_it,
  still_holds,
  closes_ring,
  standing_of,
  running_of,
  heir_of,
}
use Rattle.executive.specs.declared.state.State.{State}
use Rattle.executive.specs.declared.calls.Accepted.{Accepted}
use Rattle.executive.specs.declared.calls.Accepted.TheVariants as accepted
use Rattle.executive.specs.declared.calls.Moved.{Moved}
use Rattle.executive.specs.States.{tasks_of, sems_of}

-- the state with other task entries, with other semaphore entries, and with another time of the last accepted release
unfoldable pub with_tasks : State → List Task → State
with_tasks s tasks =
    record {
      tasks = tasks;
      sems = s.sems;
      n = s.n;
      m = s.m;
      last = s.last;
      board = s.board;
      present = s.present;
    }

unfoldable pub with_sems : State → List Sem → State
with_sems s sems =
    record {
      tasks = s.tasks;
      sems = sems;
      n = s.n;
      m = s.m;
      last = s.last;
      board = s.board;
      present = s.present;
    }

unfoldable pub with_last : State → ℕ → State
with_last s time =
    record {
      tasks = s.tasks;
      sems = s.sems;
      n = s.n;
      m = s.m;
      last = time;
      board = s.board;
      present = s.present;
    }

-- the state with another entry at a place
abbrev pub with_task : State → ℕ → Task → State
with_task s i t = with_tasks s (set s.tasks i t)

abbrev pub with_sem : State → ℕ → Sem → State
with_sem s k entry = with_sems s (set s.sems k entry)

-- the state in which the task at a position does something else
unfoldable pub now_does : State → ℕ → Status → State
now_does s i now = with_task s i (with_status (task_at (tasks_of s) i) now)

-- the state in which the semaphore at a place is held otherwise
unfoldable pub now_held : State → ℕ → Option ℕ → State
now_held s k now = with_sem s k (with_holder (sem_at (sems_of s) k) now)

-- what a call hands back: a state beside a number. A refusal hands back the very state
pub record Step : Type 0 where
  pub state : State
  pub answer : ℕ

unfoldable pub moved : State → ℕ → Step
moved s k = record { state = s; answer = k }

-- 01, "Numbers that come back": 0 is done, 90 that the caller now waits, and each refusal is its number
abbrev pub answer_by : Result Accepted Refusal → ℕ
answer_by (Ok accepted.Done) = 0
answer_by (Ok accepted.Waits) = 90
answer_by (Err r) = number_of r

-- what a call handed back, told by that number
abbrev pub step_by : State → Result Accepted Refusal → Step
step_by s answer = moved s (answer_by answer)

abbrev pub step_of : Moved → Step
step_of m = step_by m.state m.answer

-- 23: released task is not idle
unfoldable pub busy : Task → Bool
busy t = not (is_idle t.status)

-- 22: time before the last accepted release, or above 10^15
unfoldable pub untimely : ℕ → ℕ → Bool
untimely last time = ltb time last || ltb 1000000000000000 time

-- 24: signalled task is not waiting for an event
unfoldable pub no_event_wait : Task → Bool
no_event_wait t = not (is_event t.status)

-- 25: withdrawn task is not waiting for a semaphore
unfoldable pub no_sem_wait : Task → Bool
no_sem_wait t = is_none (waits_for t.status)

-- 29: given semaphore is not held by the running task
unfoldable pub not_held : List Sem → ℕ → ℕ → Bool
not_held sems i k = not (holds_it i (sem_at sems k))

-- Release takes a time, sets the deadline and makes an idle task ready
unfoldable pub release_at : State → ℕ → ℕ → State
release_at s i time =
    with_last (with_task s i (with_status (with_deadline (task_at (tasks_of s) i) (time + span_of (task_at (tasks_of s) i))) Ready)) time

-- Acquire takes a free semaphore, else the caller waits (90)
unfoldable pub take_or_wait : State → ℕ → ℕ → Option ℕ → Step
take_or_wait s i k None = moved (now_held s k (Some i)) 0
take_or_wait s i k (Some other) = moved (now_does s i (Waits k)) 90

unfoldable pub acquire_at : State → ℕ → ℕ → Step
acquire_at s i k = take_or_wait s i k (sem_at (sems_of s) k).holder

-- Give hands it to the waiter of best standing, which becomes ready, or frees it
unfoldable pub hand_over : State → ℕ → Option ℕ → State
hand_over s k None = now_held s k None
hand_over s k (Some heir) = now_held (now_does s heir Ready) k (Some heir)

unfoldable pub give_at : State → ℕ → State
give_at s k = hand_over s k (heir_of (tasks_of s) (sems_of s) k)

-- Complete makes the task idle
unfoldable pub complete_at : State → ℕ → State
complete_at s i = now_does s i Idle

-- Release, signal and withdraw give a task's number: 20 where no task has it, then the call's own refusals, by that task's entry
unfoldable pub on_task : State → ℕ → (Task → List (ℕ × Bool)) → (ℕ → State) → Step
on_task s number refusals done =
    let at = task_place (tasks_of s) number in
    let i = found_or 0 at in
    answered (first_of ((20, is_none at) ∷ refusals (task_at (tasks_of s) i))) (moved s) (moved (done i) 0)

-- Release: 20, 23, 22
unfoldable pub release_of : State → ℕ → ℕ → Step
release_of s number time = on_task s number (λ t. (23, busy t) ∷ (22, untimely s.last time) ∷ []) (λ i. release_at s i time)

-- Signal makes an event waiter ready: 20, 24
unfoldable pub signal_of : State → ℕ → Step
signal_of s number = on_task s number (λ t. (24, no_event_wait t) ∷ []) (λ i. now_does s i Ready)

-- Withdraw makes a semaphore waiter ready without it: 20, 25
unfoldable pub withdraw_of : State → ℕ → Step
withdraw_of s number = on_task s number (λ t. (25, no_sem_wait t) ∷ []) (λ i. now_does s i Ready)

-- Acquire: 26, 21, 28
unfoldable pub acquire_of : State → ℕ → Step
acquire_of s number =
    let runs = running_of (tasks_of s) (sems_of s) in
    let i = found_or 0 runs in
    let at = sem_place (sems_of s) number in
    let k = found_or 0 at in
    answered
    (first_of ((26, is_none runs) ∷ (21, is_none at) ∷ (28, closes_ring (tasks_of s) (sems_of s) i k) ∷ []))
    (moved s)
    (acquire_at s i k)

-- Give: 26, 21, 29
unfoldable pub give_of : State → ℕ → Step
give_of s number =
    let runs = running_of (tasks_of s) (sems_of s) in
    let i = found_or 0 runs in
    let at = sem_place (sems_of s) number in
    let k = found_or 0 at in
    answered
    (first_of ((26, is_none runs) ∷ (21, is_none at) ∷ (29, not_held (sems_of s) i k) ∷ []))
    (moved s)
    (moved (give_at s k) 0)

-- Complete: 26, 27
unfoldable pub complete_of : State → Step
complete_of s =
    let runs = running_of (tasks_of s) (sems_of s) in
    let i = found_or 0 runs in
    answered (first_of ((26, is_none runs) ∷ (27, still_holds (sems_of s) i) ∷ [])) (moved s) (moved (complete_at s i) 0)

-- Block makes the task wait for an event, also while it holds a semaphore: 26
unfoldable pub block_of : State → Step
block_of s =
    let runs = running_of (tasks_of s) (sems_of s) in
    let i = found_or 0 runs in
    answered (first_of ((26, is_none runs) ∷ [])) (moved s) (moved (now_does s i Event) 0)

-- 01, "Dispatch": a standing comes back as queue, deadline (0 in FP) and position; for an unknown task, as 20 and zeros
pub record Stands : Type 0 where
  pub number : ℕ
  pub queue : ℕ
  pub deadline : ℕ
  pub position : ℕ

unfoldable pub shown : Rank → Stands
shown r = record { number = 0; queue = r.queue; deadline = r.deadline; position = r.position }

unfoldable pub stands_refused : ℕ → Stands
stands_refused k = record { number = k; queue = 0; deadline = 0; position = 0 }

unfoldable pub stands_of : State → ℕ → Stands
stands_of s number =
    let at = task_place (tasks_of s) number in
    answered
    (first_of ((20, is_none at) ∷ []))
    stands_refused
    (shown (standing_of (tasks_of s) (sems_of s) (found_or 0 at)))

-- what the code answers, told so
abbrev pub stands_by : Result Rank Refusal → Stands
stands_by (Ok r) = shown r
stands_by (Err e) = stands_refused (number_of e)
