use Prim.Native.Nat.{◌≤◌}
use mathlib.Core.Path.{◌≡◌}
use Rattle.judging.proofs.FractionLaws.{scaled}
use Rattle.judging.proofs.sums.over_full.Given as goal

abbrev pub invariant-loop-row : goal.invariant-loop-row
invariant-loop-row l = (l.sum ≡ scaled l.rows l.last l.h l.row-index) × (l.sum ≤ l.h)
