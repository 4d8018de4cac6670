-- `judging::sums::gcd` meets its contract: each of Euclid's steps keeps the greatest common divisor.
use mathlib.Core.Path.{refl, sym, ap, ◌∙◌}
use native.Mathlib.Nat.{mod-lt, pos_of_ne-zero}
use Rattle.judging.specs.Periods.{gcd_of}
use Rattle.judging.proofs.PeriodLaws.{gcd_end, gcd_step}
use Rattle.judging.proofs.sums.gcd.Goals as goal

pub loop-y-init : goal.loop-y-init
loop-y-init c = refl

pub loop-y-smaller : goal.loop-y-smaller
loop-y-smaller c = mod-lt c.loop-y.x (pos_of_ne-zero c.loop-y-test.true)

pub loop-y-preserved : goal.loop-y-preserved
loop-y-preserved c =
    let l = c.loop-y in
    sym (gcd_step l.x l.y (pos_of_ne-zero c.loop-y-test.true)) ∙ l.invariant

pub returns : goal.returns
returns c =
    let l = c.loop-y in
    sym (gcd_end l.x) ∙ ap (gcd_of l.x) (sym c.loop-y-test.false) ∙ l.invariant
