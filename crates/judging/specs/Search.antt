-- What the search for a time works on. Nobody need believe it: nothing but the search speaks of it, and its answer is that there is a time or none.
use Rattle.std.specs.Prelude.{ℕ, ◌+◌, ◌*◌, ◌/◌, ◌≤◌, ◌<◌, Bool, List, length, sum_by, Option, Some, None}
use Rattle.judging.specs.declared.Row.{Row}
use Rattle.judging.specs.Rows.{row_at}
use Rattle.judging.specs.Demands.{ceil, counted, time_up_to, decided}

-- how often a load counts up to t: as 13 says for a DP2 task with its own period, or as 14 says
abbrev pub counted_by : Option ℕ → Row → ℕ → ℕ
counted_by (Some own) r t = counted r.queue t r.period own
counted_by None r t = ceil t r.period

-- what the rows ask for up to t
abbrev pub demand_by : Option ℕ → List Row → ℕ → ℕ
demand_by own rows t = sum_by (λ r. r.load * counted_by own r t) rows

-- whether there is a time up to the limit
abbrev pub has_time : Option ℕ → List Row → ℕ → Bool
has_time own rows limit = decided (time_up_to (demand_by own rows) limit)

-- a time after t, up to the limit, and before it no multiple of a period
pub record NextTime (rows : List Row) (t limit next : ℕ) : Type 0 where
  pub later : t < next
  pub most : next ≤ limit
  pub between : (j : ℕ) → j < length rows → next ≤ (t / (row_at rows j).period + 1) * (row_at rows j).period
