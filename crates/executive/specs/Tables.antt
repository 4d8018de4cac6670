-- A table, the state of a table, and a state as it is after loading (01, "What the executive covers", "The image" and "Dispatch").
use Rattle.std.specs.Prelude.{◌-◌, Bool, true, List, [], ◌∷◌, ◌++◌, map, length, replicate}
use Rattle.table.specs.declared.Task.{Task}
use Rattle.table.specs.declared.Sem.{Sem}
use Rattle.table.specs.declared.Board.{Board}
use Rattle.table.specs.Entries.{blank_task, blank_sem, loaded_task, loaded_sem}
use Rattle.table.specs.WellFormed.{WellFormed}
use Rattle.executive.specs.declared.state.State.{State}
use Rattle.executive.specs.States.{tasks_of, sems_of}

-- a table: its tasks, its semaphores, its figures, and whether a board record was there
pub record Table : Type 0 where
  pub tasks : List Task
  pub sems : List Sem
  pub board : Board
  pub present : Bool

-- a table that may be loaded
abbrev pub WellFormedTable : Table → Type 0
WellFormedTable t = WellFormed t.tasks t.sems t.board t.present

-- the table with a task more, with a semaphore more, and with a board record
unfoldable pub add_task : Table → Task → Table
add_task t x = record { tasks = t.tasks ++ (x ∷ []); sems = t.sems; board = t.board; present = t.present }

unfoldable pub add_sem : Table → Sem → Table
add_sem t x = record { tasks = t.tasks; sems = t.sems ++ (x ∷ []); board = t.board; present = t.present }

unfoldable pub add_board : Table → Board → Table
add_board t b = record { tasks = t.tasks; sems = t.sems; board = b; present = true }

-- 01, "Dispatch": the table with all its tasks idle, no deadline, and no semaphore held
unfoldable pub loaded_table : Table → Table
loaded_table t = record { tasks = map loaded_task t.tasks; sems = map loaded_sem t.sems; board = t.board; present = t.present }

-- the state of a table: the entries behind the tasks and semaphores are blank, and no release was accepted yet
unfoldable pub state_of : Table → State
state_of t =
    record {
      tasks = t.tasks ++ replicate (64 - length t.tasks) blank_task;
      sems = t.sems ++ replicate (16 - length t.sems) blank_sem;
      n = length t.tasks;
      m = length t.sems;
      last = 0;
      board = t.board;
      present = t.present;
    }

-- the table of a state
unfoldable pub table_of : State → Table
table_of s = record { tasks = tasks_of s; sems = sems_of s; board = s.board; present = s.present }

-- 01, "Dispatch": the state with all its tasks idle, no deadline, no semaphore held, and no release accepted yet
unfoldable pub as_loaded : State → State
as_loaded s =
    record {
      tasks = map loaded_task s.tasks;
      sems = map loaded_sem s.sems;
      n = s.n;
      m = s.m;
      last = 0;
      board = s.board;
      present = s.present;
    }
