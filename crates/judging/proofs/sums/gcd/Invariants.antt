use mathlib.Core.Path.{◌≡◌}
use Rattle.judging.specs.Periods.{gcd_of}
use Rattle.judging.proofs.sums.gcd.Given as goal

abbrev pub invariant-loop-y : goal.invariant-loop-y
invariant-loop-y l = gcd_of l.x l.y ≡ gcd_of l.a l.b

abbrev pub decreases-loop-y : goal.decreases-loop-y
decreases-loop-y l = l.y
