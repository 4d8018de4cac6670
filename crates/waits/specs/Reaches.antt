-- The standing of 01, "Dispatch", with no computing in it: over the closure of who waits on whom.
use Rattle.std.specs.Prelude.{ℕ, ◌<◌, ◌≡◌, false, List, length, Some}
use Rattle.table.specs.declared.Task.{Task}
use Rattle.table.specs.declared.Sem.{Sem}
use Rattle.waits.specs.Waits.{waits_on}
use Rattle.waits.specs.declared.standing.Rank.{Rank}
use Rattle.waits.specs.Standing.{own_of, better}

-- the task j is i itself, or waits on a task that reaches i: it waits for i, directly or through others
pub data Reaches (tasks : List Task) (sems : List Sem) (i : ℕ) : ℕ → Type 0 where
  here : Reaches tasks sems i i
  there : {j k : ℕ} → waits_on tasks sems j ≡ Some k → Reaches tasks sems i k → Reaches tasks sems i j

-- 01, "Dispatch": the best of its own standing and those of all that wait, directly or through others, for a semaphore it holds
pub record IsStanding (tasks : List Task) (sems : List Sem) (i : ℕ) (r : Rank) : Type 0 where
  pub some : (j : ℕ) × (j < length tasks) × Reaches tasks sems i j × (r ≡ own_of tasks j)
  pub best : (j : ℕ) → j < length tasks → Reaches tasks sems i j → better (own_of tasks j) r ≡ false
