-- Who waits for what, and on whom (01, "Dispatch").
use Rattle.std.specs.Prelude.{ℕ, ◌≤◌, ◌<◌, ◌≡◌, List, length, get_or, Option, Some, None}
use Rattle.table.specs.declared.Task.{Task}
use Rattle.table.specs.declared.Sem.{Sem}
use Rattle.table.specs.declared.Status.{Status}
use Rattle.table.specs.declared.Status.TheVariants.{Idle, Ready, Event, Waits}
use Rattle.table.specs.Entries.{blank_task, blank_sem}

-- the task at a position, and the semaphore at a place
unfoldable pub task_at : List Task → ℕ → Task
task_at tasks i = get_or tasks i blank_task

unfoldable pub sem_at : List Sem → ℕ → Sem
sem_at sems k = get_or sems k blank_sem

-- 01, "Dispatch": a task is idle, ready, waiting for an event, or waiting for a semaphore. The semaphore's place (request f) moves it)
unfoldable pub waits_for : Status → Option ℕ
waits_for Idle = None
waits_for Ready = None
waits_for Event = None
waits_for (Waits k) = Some k

-- the holder of the semaphore that was found
unfoldable pub holder_of : List Sem → Option ℕ → Option ℕ
holder_of sems None = None
holder_of sems (Some k) = (sem_at sems k).holder

-- whom the task at a position waits on: the holder of what it waits for
unfoldable pub waits_on : List Task → List Sem → ℕ → Option ℕ
waits_on tasks sems i = holder_of sems (waits_for (task_at tasks i).status)

-- the chain of waits that starts at a task comes to an end, so it is no ring
pub data Ends (tasks : List Task) (sems : List Sem) : ℕ → Type 0 where
  here : {i : ℕ} → waits_on tasks sems i ≡ None → Ends tasks sems i
  there : {i j : ℕ} → waits_on tasks sems i ≡ Some j → Ends tasks sems j → Ends tasks sems i

-- what is so of the entries of every state: who holds is a task that there is, who waits does so for a semaphore that somebody holds, and no chain
-- of waits is a ring
pub record Chained (tasks : List Task) (sems : List Sem) : Type 0 where
  pub held : (k : ℕ) → k < length sems → (i : ℕ) → (sem_at sems k).holder ≡ Some i → i < length tasks
  pub waits : (i : ℕ) → i < length tasks → (k : ℕ) → waits_for (task_at tasks i).status ≡ Some k
      → (k < length sems) × ((j : ℕ) × ((sem_at sems k).holder ≡ Some j))
  pub ends : (i : ℕ) → i < length tasks → Ends tasks sems i

-- the entries of a state: of tasks and semaphores there are no more than 64 and 16
pub record Used (tasks : List Task) (sems : List Sem) : Type 0 where
  pub tasks_fit : length tasks ≤ 64
  pub sems_fit : length sems ≤ 16
  pub chained : Chained tasks sems
