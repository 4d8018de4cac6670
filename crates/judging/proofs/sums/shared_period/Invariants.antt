use Prim.Native.Nat.{◌≤◌}
use mathlib.Core.Path.{◌≡◌}
use Rattle.std.specs.Prelude.{None}
use Rattle.judging.specs.Periods.{shared_period, too_long}
use Rattle.judging.specs.Verdicts.{first_below}
use Rattle.judging.proofs.sums.shared_period.Given as goal

abbrev pub invariant-loop-i : goal.invariant-loop-i
invariant-loop-i l =
    (l.h ≡ shared_period l.rows l.i) × (1 ≤ l.h) × (l.h ≤ 1000000000000) × (first_below l.i (too_long l.rows) ≡ None)
