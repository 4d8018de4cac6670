-- Tests 13 and 14 (01, "The tests"; 02, a)): there is a whole time t from 1 to the task's limit at which the demand is at most t.
use Rattle.std.specs.Prelude.{ℕ, zero, suc, ◌+◌, ◌*◌, ◌-◌, ◌/◌, ◌≤◌, ◌<◌, Bool, true, false, cond, ◌⊎◌, ◌≡◌, eqb, leb, List, take, sum_by}
use Rattle.std.proofs.Common.{inl, inr, subst, eq-or-lt_of_le, arith}
use Rattle.std.proofs.Math.Logic.{ite}
use Rattle.std.proofs.Math.Decide.{dec_le}
use Rattle.judging.specs.declared.Row.{Row}
use Rattle.judging.specs.Rows.{row_at}

-- ceil(t/period)
unfoldable pub ceil : ℕ → ℕ → ℕ
ceil t period = (t + (period - 1)) / period

-- 01, "The tests", 13: the star count is ceil(t/period) where that count × period ≤ i's own period, else one less
abbrev pub star : ℕ → ℕ → ℕ → ℕ
star t period own = cond (leb (ceil t period * period) own) (ceil t period) (ceil t period - 1)

-- 01, "The tests", 13: DP1 loads go times ceil(t/period), DP2 loads times the star count, FP loads do not count
abbrev pub counted : ℕ → ℕ → ℕ → ℕ → ℕ
counted queue t period own = cond (eqb queue 1) (ceil t period) (cond (eqb queue 2) (star t period own) 0)

-- 01, "The tests", 13: what the tasks ask for up to t, for a DP2 task with its own period
unfoldable pub demand_dp2 : List Row → ℕ → ℕ → ℕ
demand_dp2 rows own t = sum_by (λ r. r.load * counted r.queue t r.period own) rows

-- 01, "The tests", 14: the loads of all tasks up to i in the table, each times ceil(t/period)
unfoldable pub demand_fp : List Row → ℕ → ℕ → ℕ
demand_fp rows i t = sum_by (λ r. r.load * ceil t r.period) (take (suc i) rows)

-- 01, "The tests", 13 and 14: there is a whole time t from 1 to the limit with the demand at most t
pub record TimeUpTo (demand : ℕ → ℕ) (limit : ℕ) : Type 0 where
  pub t : ℕ
  pub least : 1 ≤ t
  pub most : t ≤ limit
  pub enough : demand t ≤ t

-- whether there is one can be decided; the type leaves no other answer than the right one
unfoldable pub time_up_to : (demand : ℕ → ℕ) (limit : ℕ) → Dec (TimeUpTo demand limit)
time_up_to demand zero = no (λ w. omega (arith, w.least, w.most))
time_up_to demand (suc limit) = later (time_up_to demand limit) (dec_le (demand (suc limit)) (suc limit))
  where
    later : Dec (TimeUpTo demand limit) → Dec (demand (suc limit) ≤ suc limit) → Dec (TimeUpTo demand (suc limit))
    later (yes w) d = yes (record { t = w.t; least = w.least; most = omega (arith, w.most); enough = w.enough })
    later (no n) (yes h) = yes (record { t = suc limit; least = omega arith; most = omega arith; enough = h })
    later (no n) (no m) = no (λ w. last w (eq-or-lt_of_le w.most))
      where
        last : (w : TimeUpTo demand (suc limit)) → (w.t ≡ suc limit) ⊎ (w.t < suc limit) → ⊥
        last w (inl h) = m (subst (λ (t : ℕ). demand t ≤ t) h w.enough)
        last w (inr h) = n (record { t = w.t; least = w.least; most = omega arith; enough = w.enough })

-- the answer of a decision
unfoldable pub decided : {P : Type 0} → Dec P → Bool
decided d = ite d true false

-- 01, "The tests", 13: for DP2 task i there is a time up to its period
abbrev pub TimeDp2 : List Row → ℕ → Type 0
TimeDp2 rows i = TimeUpTo (demand_dp2 rows (row_at rows i).period) (row_at rows i).period

abbrev pub time_dp2 : (rows : List Row) (i : ℕ) → Dec (TimeDp2 rows i)
time_dp2 rows i = time_up_to _ _

-- 01, "The tests", 14, and 02, a): for FP task i there is a time up to its span
abbrev pub TimeFp : List Row → ℕ → Type 0
TimeFp rows i = TimeUpTo (demand_fp rows i) (row_at rows i).span

abbrev pub time_fp : (rows : List Row) (i : ℕ) → Dec (TimeFp rows i)
time_fp rows i = time_up_to _ _
