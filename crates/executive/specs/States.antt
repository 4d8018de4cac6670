-- The state, and the empty one.
use Rattle.std.specs.Prelude.{false, List, take, replicate}
use Rattle.table.specs.declared.Task.{Task}
use Rattle.table.specs.declared.Sem.{Sem}
use Rattle.table.specs.Entries.{no_figures, blank_task, blank_sem}
use Rattle.executive.specs.declared.state.State.{State}

-- the tasks that there are, in table order
unfoldable pub tasks_of : State → List Task
tasks_of s = take s.n s.tasks

-- the semaphores that there are, in table order
unfoldable pub sems_of : State → List Sem
sems_of s = take s.m s.sems

-- 01, "Numbers that come back": the empty state has no task, no semaphore, all numbers zero
unfoldable pub empty_state : State
empty_state =
    record {
      tasks = replicate 64 blank_task;
      sems = replicate 16 blank_sem;
      n = 0;
      m = 0;
      last = 0;
      board = no_figures;
      present = false;
    }
