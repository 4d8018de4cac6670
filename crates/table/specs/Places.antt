-- Look-up by number. "Position" is a task's place in the table, from 0 (01, "What the executive covers").
use Rattle.std.specs.Prelude.{ℕ, List, Option, ◌==◌, position}
use Rattle.table.specs.declared.Task.{Task}
use Rattle.table.specs.declared.Sem.{Sem}

-- the position of the task with this number, among these tasks
unfoldable pub task_place : List Task → ℕ → Option ℕ
task_place tasks number = position (λ t. t.number == number) tasks

-- the place of the semaphore with this number, among these semaphores
unfoldable pub sem_place : List Sem → ℕ → Option ℕ
sem_place sems number = position (λ s. s.number == number) sems
