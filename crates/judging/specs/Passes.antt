-- What it is for a table to pass: every published test passes with charges included (demand 2; 01, "The tests").
use Rattle.std.specs.Prelude.{ℕ, ◌≤◌, ◌<◌, ◌≡◌, List, length}
use Rattle.table.specs.declared.Board.{Board}
use Rattle.table.specs.declared.Task.{Task}
use Rattle.judging.specs.declared.Row.{Row}
use Rattle.judging.specs.Rows.{row_at, rows_of}
use Rattle.judging.specs.Periods.{IsSharedPeriod, fractions}
use Rattle.judging.specs.Demands.{TimeDp2, TimeFp}

-- the five tests, of the rows of a table
pub record AllFive (rows : List Row) : Type 0 where
  -- 10: the shared period of the DP tasks, their least positive common multiple, is at most 10^12
  pub shared : (h : ℕ) × IsSharedPeriod rows (length rows) h × (h ≤ 1000000000000)
  -- 11 and 12: the sum of load/period, exactly, is at most 1, for DP1 and for both
  pub dp1 : (fractions rows 1 (length rows)).0 ≤ (fractions rows 1 (length rows)).1
  pub dp : (fractions rows 2 (length rows)).0 ≤ (fractions rows 2 (length rows)).1
  -- 13 and 14: for each DP2 task, and for each FP task, there is a time
  pub times_dp2 : (i : ℕ) → i < length rows → (row_at rows i).queue ≡ 2 → TimeDp2 rows i
  pub times_fp : (i : ℕ) → i < length rows → (row_at rows i).queue ≡ 3 → TimeFp rows i

abbrev pub Passes : List Task → Board → Type 0
Passes tasks board = AllFive (rows_of tasks board)
