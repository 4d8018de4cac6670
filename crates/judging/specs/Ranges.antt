-- What the helpers of judging may take for granted of the rows that they are lent, and a well-formed table has. Nobody need believe it: `judge`
-- asks for a sound state alone.
use Rattle.std.specs.Prelude.{ℕ, ◌≤◌, ◌<◌, List, length}
use Rattle.std.specs.Int.{◌∣◌}
use Rattle.judging.specs.declared.Row.{Row}
use Rattle.judging.specs.Rows.{row_at}

-- a period as in 01, "The image", a load that judging can add up, and a span that is not longer than the longest period
pub record RowInRange (r : Row) : Type 0 where
  pub period_least : 1000 ≤ r.period
  pub period_most : r.period ≤ 100000000
  pub load : r.load ≤ 1000000000
  pub span : r.span ≤ 100000000

-- at most 64 rows, each in range
pub record InRange (rows : List Row) : Type 0 where
  pub fit : length rows ≤ 64
  pub each : (j : ℕ) → j < length rows → RowInRange (row_at rows j)

-- a common multiple of the periods of the tasks in the queues up to the last, at most 10^12
pub record Common (rows : List Row) (last h : ℕ) : Type 0 where
  pub positive : 1 ≤ h
  pub most : h ≤ 1000000000000
  pub multiple : (j : ℕ) → j < length rows → (row_at rows j).queue ≤ last → (row_at rows j).period ∣ h
