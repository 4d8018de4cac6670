-- Tests 10, 11 and 12 (01, "The tests"), of the rows of a table.
use Rattle.std.specs.Prelude.{ℕ, zero, suc, ◌+◌, ◌*◌, ◌/◌, ◌%◌, ◌≤◌, ◌<◌, Bool, cond, eqb, leb, ltb, List, length}
use Rattle.std.specs.Int.{◌∣◌}
use Rattle.judging.specs.declared.Row.{Row}
use Rattle.judging.specs.Rows.{row_at}

-- the greatest common divisor, by Euclid's steps
unfoldable pub gcd_in : ℕ → ℕ → ℕ → ℕ
gcd_in zero a b = a
gcd_in (suc steps) a b = cond (eqb b 0) a (gcd_in steps b (a % b))

unfoldable pub gcd_of : ℕ → ℕ → ℕ
gcd_of a b = gcd_in (suc b) a b

-- the least common multiple
unfoldable pub lcm_of : ℕ → ℕ → ℕ
lcm_of a b = a * (b / gcd_of a b)

-- 01, "The tests", 10: the least common multiple, taken in table order over DP1 and DP2, of the first tasks
unfoldable pub shared_period : List Row → ℕ → ℕ
shared_period rows zero = 1
shared_period rows (suc i) = cond (leb (row_at rows i).queue 2) (lcm_of (shared_period rows i) (row_at rows i).period) (shared_period rows i)

-- what such a number is, whichever way it is computed: positive, a multiple of each period, and the least of these (`shared_least`)
pub record IsSharedPeriod (rows : List Row) (tasks h : ℕ) : Type 0 where
  pub positive : 1 ≤ h
  pub common : (j : ℕ) → j < tasks → (row_at rows j).queue ≤ 2 → (row_at rows j).period ∣ h
  pub least : (m : ℕ) → 1 ≤ m → ((j : ℕ) → j < tasks → (row_at rows j).queue ≤ 2 → (row_at rows j).period ∣ m) → h ≤ m

-- 01, "Numbers that come back", 10: shared period of the DP tasks above 10^12, at the task of this position
unfoldable pub too_long : List Row → ℕ → Bool
too_long rows i = ltb 1000000000000 (shared_period rows (suc i))

-- the sum of two fractions, numerator and denominator
unfoldable pub plus : ℕ × ℕ → ℕ × ℕ → ℕ × ℕ
plus a b = (a.0 * b.1 + b.0 * a.1, a.1 * b.1)

-- 01, "The tests", 11 and 12: the sum of load/period, exactly, over the first tasks, of those in the queues up to the last one given
unfoldable pub fractions : List Row → ℕ → ℕ → ℕ × ℕ
fractions rows last zero = (0, 1)
fractions rows last (suc i) = cond (leb (row_at rows i).queue last) (plus (fractions rows last i) ((row_at rows i).load, (row_at rows i).period)) (fractions rows last i)

-- a fraction is above 1
unfoldable pub above_one : ℕ × ℕ → Bool
above_one a = ltb a.1 a.0

-- 01, "The tests", 11 and 12: the sum must be at most 1, for DP1 (last queue 1) and for both (last queue 2)
unfoldable pub over_full : List Row → ℕ → Bool
over_full rows last = above_one (fractions rows last (length rows))
