-- What is so of every state that comes from loading or from a call (01, "Dispatch": "that may be assumed of a state, and no more").
use Rattle.std.specs.Prelude.{ℕ, ◌-◌, ◌≤◌, ◌<◌, ◌≡◌, ◌≢◌, length, drop, replicate, Some}
use Rattle.table.specs.declared.Status.TheVariants.{Idle}
use Rattle.table.specs.Entries.{blank_task, blank_sem}
use Rattle.table.specs.WellFormed.{WellFormed}
use Rattle.waits.specs.Waits.{task_at, sem_at, waits_for, Ends}
use Rattle.executive.specs.declared.state.State.{State}
use Rattle.executive.specs.States.{empty_state, tasks_of, sems_of}

-- the arrays have their lengths, and no more entries are in use than there are
pub record Sized (s : State) : Type 0 where
  pub tasks_length : length s.tasks ≡ 64
  pub sems_length : length s.sems ≡ 16
  pub tasks_fit : s.n ≤ 64
  pub sems_fit : s.m ≤ 16

pub record Sound (s : State) : Type 0 where
  pub sized : Sized s
  -- the entries that are not in use are blank
  pub tasks_blank : drop s.n s.tasks ≡ replicate (64 - s.n) blank_task
  pub sems_blank : drop s.m s.sems ≡ replicate (16 - s.m) blank_sem
  -- without a task it is the empty state, with one its table is well formed
  pub none : s.n ≡ 0 → s ≡ empty_state
  pub table : 1 ≤ s.n → WellFormed (tasks_of s) (sems_of s) s.board s.present
  -- who holds a semaphore is a task, and not idle
  pub holders : (k : ℕ) → k < s.m → (i : ℕ) → (sem_at (sems_of s) k).holder ≡ Some i
      → (i < s.n) × ((task_at (tasks_of s) i).status ≢ Idle)
  -- who waits does so for a semaphore that somebody holds
  pub waits : (i : ℕ) → i < s.n → (k : ℕ) → waits_for (task_at (tasks_of s) i).status ≡ Some k
      → (k < s.m) × ((j : ℕ) × ((sem_at (sems_of s) k).holder ≡ Some j))
  -- no chain of waits is a ring
  pub chains : (i : ℕ) → i < s.n → Ends (tasks_of s) (sems_of s) i
  -- the last accepted release was at a time that is allowed
  pub time : s.last ≤ 1000000000000000
