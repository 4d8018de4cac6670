-- 01's words for when judging gives each number, and which task it names ("Numbers that come back" and "The tests").
use Rattle.std.specs.Prelude.{ℕ, suc, ◌<◌, ◌≡◌, List, [], ◌∷◌, length, get_or}
use Rattle.table.specs.declared.Board.{Board}
use Rattle.table.specs.declared.Task.{Task}
use Rattle.table.specs.Entries.{blank_task}
use Rattle.judging.specs.declared.Row.{Row}
use Rattle.judging.specs.Rows.{row_at, rows_of}
use Rattle.judging.specs.Periods.{shared_period, fractions}
use Rattle.judging.specs.Demands.{TimeDp2, TimeFp}

-- 10 at a task: the shared period of the DP tasks, taken in table order up to this one, is above 10^12
abbrev pub Long : List Row → ℕ → Type 0
Long rows i = 1000000000000 < shared_period rows (suc i)

-- 11 and 12: the exact sum of load/period over the queues up to the last is above 1
abbrev pub Over : List Row → ℕ → Type 0
Over rows last = (fractions rows last (length rows)).1 < (fractions rows last (length rows)).0

-- 13 at a task: it is in DP2 and has no time
abbrev pub LateDp2 : List Row → ℕ → Type 0
LateDp2 rows i = ((row_at rows i).queue ≡ 2) × (TimeDp2 rows i → ⊥)

-- 14 at a task: it is in FP and has no time
abbrev pub LateFp : List Row → ℕ → Type 0
LateFp rows i = ((row_at rows i).queue ≡ 3) × (TimeFp rows i → ⊥)

-- a condition arises at some task
abbrev pub AtSome : List Row → (ℕ → Type 0) → Type 0
AtSome rows Arises = (i : ℕ) × (i < length rows) × Arises i

-- 7 no task; 10 shared period of the DP tasks above 10^12; 11 DP1 over full; 12 DP1 and DP2 together over full; 13 a DP2 task has no time; 14 an
-- FP task has no time
abbrev pub row_conditions : List Row → List (ℕ × Type 0)
row_conditions rows =
    (7, length rows ≡ 0)
    ∷ (10, AtSome rows (Long rows))
    ∷ (11, Over rows 1)
    ∷ (12, Over rows 2)
    ∷ (13, AtSome rows (LateDp2 rows))
    ∷ (14, AtSome rows (LateFp rows))
    ∷ []

-- the rows are those of the tasks
abbrev pub judge_conditions : List Task → Board → List (ℕ × Type 0)
judge_conditions tasks board = row_conditions (rows_of tasks board)

-- the number is that of the first task in table order at which the condition arises
pub record NamesFirst (tasks : List Task) (Arises : ℕ → Type 0) (number : ℕ) : Type 0 where
  pub position : ℕ
  pub inside : position < length tasks
  pub arises : Arises position
  pub none_before : (j : ℕ) → j < position → Arises j → ⊥
  pub named : number ≡ (get_or tasks position blank_task).number
