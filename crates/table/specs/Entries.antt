-- The entries of a table.
use Rattle.std.specs.Prelude.{ℕ, cond, eqb, Option, None}
use Rattle.table.specs.declared.Board.{Board}
use Rattle.table.specs.declared.Task.{Task}
use Rattle.table.specs.declared.Sem.{Sem}
use Rattle.table.specs.declared.Status.{Status}
use Rattle.table.specs.declared.Status.TheVariants.{Idle}

-- 01, "The image": the nine figures that hold if there is no board record (request e) moves them)
unfoldable pub built_in : Board
built_in =
    record {
      dp_block = 160;
      dp_unblock = 120;
      dp_select = 120;
      dp_select_task = 25;
      fp_block = 100;
      fp_block_task = 36;
      fp_unblock = 140;
      fp_select = 60;
      per_queue = 55;
    }

-- 01, "Numbers that come back": in the empty state all numbers are zero
abbrev pub no_figures : Board
no_figures =
    record {
      dp_block = 0;
      dp_unblock = 0;
      dp_select = 0;
      dp_select_task = 0;
      fp_block = 0;
      fp_block_task = 0;
      fp_unblock = 0;
      fp_select = 0;
      per_queue = 0;
    }

-- what stands at a place that no task has
abbrev pub blank_task : Task
blank_task = record { deadline = 0; period = 0; cost = 0; due = 0; number = 0; queue = 0; status = Idle }

-- what stands at a place that no semaphore has
abbrev pub blank_sem : Sem
blank_sem = record { number = 0; holder = None }

-- 02, a): the time from a release to its deadline is the deadline in the task's record, where zero means the period
unfoldable pub span_of : Task → ℕ
span_of t = cond (eqb t.due 0) t.period t.due

-- the same task, doing something else
abbrev pub with_status : Task → Status → Task
with_status t now =
    record {
      deadline = t.deadline;
      period = t.period;
      cost = t.cost;
      due = t.due;
      number = t.number;
      queue = t.queue;
      status = now;
    }

-- the same task, with another deadline
abbrev pub with_deadline : Task → ℕ → Task
with_deadline t at =
    record {
      deadline = at;
      period = t.period;
      cost = t.cost;
      due = t.due;
      number = t.number;
      queue = t.queue;
      status = t.status;
    }

-- the same semaphore, held otherwise
abbrev pub with_holder : Sem → Option ℕ → Sem
with_holder s now = record { number = s.number; holder = now }

-- 01, "Dispatch": all tasks are idle after loading, and a task not yet released has deadline 0
abbrev pub loaded_task : Task → Task
loaded_task t = with_deadline (with_status t Idle) 0

-- no semaphore is held after loading
abbrev pub loaded_sem : Sem → Sem
loaded_sem s = with_holder s None
