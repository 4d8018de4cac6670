use mathlib.Core.Path.{◌≡◌}
use Rattle.std.specs.Prelude.{None}
use Rattle.judging.specs.Verdicts.{first_below, late}
use Rattle.judging.proofs.judge.first_late.Given as goal

abbrev pub invariant-loop-i : goal.invariant-loop-i
invariant-loop-i l = first_below l.i (late l.queue l.rows) ≡ None
