-- 01's words for what is answered when a standing is asked for ("Dispatch").
use Rattle.std.specs.Prelude.{ℕ, ◌<◌, ◌≡◌, ◌⊎◌, length}
use Rattle.waits.specs.declared.standing.Rank.{Rank}
use Rattle.waits.specs.Waits.{task_at}
use Rattle.waits.specs.Reaches.{IsStanding}
use Rattle.executive.specs.declared.state.State.{State}
use Rattle.executive.specs.Calls.{Stands}
use Rattle.executive.specs.States.{tasks_of, sems_of}
use Rattle.executive.specs.Calls.{shown}
use Rattle.theorems.specs.Conditions.{UnknownTask}

-- for an unknown task, as 20 and zeros
unfoldable pub no_standing : Stands
no_standing = record { number = 20; queue = 0; deadline = 0; position = 0 }

-- 20 and zeros where no task has the number; else 0, with queue, deadline and position of a standing of the task that has it
abbrev pub StandingAnswer : State → ℕ → Stands → Type 0
StandingAnswer s number a =
    (UnknownTask (tasks_of s) number × (a ≡ no_standing))
    ⊎ ((i : ℕ) × (i < length (tasks_of s)) × ((task_at (tasks_of s) i).number ≡ number) × (r : Rank) × IsStanding (tasks_of s) (sems_of s) i r × (a ≡ shown r))
