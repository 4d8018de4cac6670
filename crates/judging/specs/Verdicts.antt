-- The verdict (01, "Numbers that come back" and "The tests").
use Rattle.std.specs.Prelude.{ℕ, zero, suc, Bool, cond, not, ◌&&◌, List, [], ◌∷◌, eqb, length, get_or, Option, Some, None, is_some, Result, Ok, Err}
use Rattle.std.specs.Option.{option_or}
use Rattle.table.specs.declared.Board.{Board}
use Rattle.table.specs.declared.Task.{Task}
use Rattle.table.specs.Entries.{blank_task}
use Rattle.table.specs.Refusals.{first_of}
use Rattle.judging.specs.declared.Row.{Row}
use Rattle.judging.specs.declared.Unfit.{Unfit}
use Rattle.judging.specs.declared.Unfit.TheVariants.{NoTask, SharedPeriod, Dp1OverFull, DpOverFull, Dp2NoTime, FpNoTime}
use Rattle.judging.specs.declared.Verdict.{Verdict}
use Rattle.judging.specs.Rows.{row_at, rows_of}
use Rattle.judging.specs.Periods.{shared_period, too_long, over_full}
use Rattle.judging.specs.Demands.{decided, time_dp2, time_fp}

-- the first position below n at which the test holds
unfoldable pub first_below : ℕ → (ℕ → Bool) → Option ℕ
first_below zero test = None
first_below (suc n) test = option_or (first_below n test) (cond (test n) (Some n) None)

-- 10: the first task at which the shared period is above 10^12
unfoldable pub first_long : List Row → Option ℕ
first_long rows = first_below (length rows) (too_long rows)

-- the shared period of all DP tasks, or where it grew above 10^12
unfoldable pub shared_by : Option ℕ → ℕ → Result ℕ ℕ
shared_by (Some i) h = Err i
shared_by None h = Ok h

unfoldable pub shared_of : List Row → Result ℕ ℕ
shared_of rows = shared_by (first_long rows) (shared_period rows (length rows))

-- 13 (queue 2): a DP2 task has no time; 14 (queue 3): an FP task has no time
unfoldable pub late : ℕ → List Row → ℕ → Bool
late queue rows i = eqb (row_at rows i).queue queue && not (cond (eqb queue 2) (decided (time_dp2 rows i)) (decided (time_fp rows i)))

-- 13 and 14: the first task in table order that has no time
unfoldable pub first_late : ℕ → List Row → Option ℕ
first_late queue rows = first_below (length rows) (late queue rows)

-- 01, "Numbers that come back": judging gives 7 where there is no task, and then goes 10, 11, 12, 13, 14
unfoldable pub number_of : List Row → ℕ
number_of rows =
    first_of
    ((7, eqb (length rows) 0)
    ∷ (10, is_some (first_long rows))
    ∷ (11, over_full rows 1)
    ∷ (12, over_full rows 2)
    ∷ (13, is_some (first_late 2 rows))
    ∷ (14, is_some (first_late 3 rows))
    ∷ [])

-- 01, "Numbers that come back": the first task in table order at which 10, 13 or 14 arises
unfoldable pub place_of : List Row → ℕ → Option ℕ
place_of rows number = cond (eqb number 10) (first_long rows) (cond (eqb number 13) (first_late 2 rows) (cond (eqb number 14) (first_late 3 rows) None))

-- the number of the task at a place, and 0 where there is none
unfoldable pub name_of : List Task → Option ℕ → ℕ
name_of tasks (Some i) = (get_or tasks i blank_task).number
name_of tasks None = 0

-- the verdict on these tasks, by their rows
unfoldable pub verdict_by : List Task → List Row → Verdict
verdict_by tasks rows = record { number = number_of rows; task = name_of tasks (place_of rows (number_of rows)) }

-- what judging answers for these tasks at these figures
unfoldable pub verdict_of : List Task → Board → Verdict
verdict_of tasks board = verdict_by tasks (rows_of tasks board)

-- 01, "Numbers that come back": the number of each answer, and the task that it names, 0 where it names none
abbrev pub told : {A : Type 0} → Result A Unfit → Verdict
told (Ok x) = record { number = 0; task = 0 }
told (Err NoTask) = record { number = 7; task = 0 }
told (Err (SharedPeriod task)) = record { number = 10; task = task }
told (Err Dp1OverFull) = record { number = 11; task = 0 }
told (Err DpOverFull) = record { number = 12; task = 0 }
told (Err (Dp2NoTime task)) = record { number = 13; task = task }
told (Err (FpNoTime task)) = record { number = 14; task = task }
