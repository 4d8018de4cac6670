-- `judging::sums::over_full` meets its contract: the loop has the sum times h; the sum of fractions is above 1 exactly if that is above h.
use Prim.Native.Nat.{ℕ, ◌+◌, ◌≤◌}
use mathlib.Core.Path.{◌≡◌, sym, ap, ◌∙◌}
use mathlib.Core.List.{List}
use native.Mathlib.Omega.{arith}
use borrow.Author.Tests.{lt-ltb, le-ltb}
use lib.Dec.{ltb}
use lib.ListN.{length}
use Rattle.judging.specs.declared.Row.{Row}
use Rattle.judging.specs.Periods.{over_full}
use Rattle.judging.specs.Ranges.{InRange, Common}
use Rattle.judging.proofs.FractionLaws.{scaled, scaled_start, scaled_in, scaled_out, scaled_mono, over_full_lem}
use Rattle.judging.proofs.sums.over_full.Goals.{then-row-last+else-h-sum, else-row-last}
use Rattle.judging.proofs.sums.over_full.Goals as goal

-- the test, of the whole sum
full : (rows : List Row) (last h : ℕ) → InRange rows → Common rows last h → over_full rows last ≡ ltb h (scaled rows last h (length rows))
full rows last h r c = over_full_lem rows last h c.positive (λ j k. omega (arith, (r.each j k).period_least)) c.multiple

pub loop-row-init : goal.loop-row-init
loop-row-init c = (scaled_start _ _ _, omega arith)

pub returns-then-h-sum : goal.returns-then-h-sum
returns-then-h-sum c =
    let a = c.args in
    let g = a.rows.now in
    let i = c.loop-row.row-index in
    let more = scaled_in g a.last a.h i c.if-row-last.true in
    let far : scaled g a.last a.h (i + 1) ≤ scaled g a.last a.h (length g) = scaled_mono g a.last a.h (i + 1) (length g) (omega arith) in
    sym (full g a.last a.h c.requires.0 c.requires.1 ∙ lt-ltb a.h (scaled g a.last a.h (length g)) (omega (arith, more)))

pub loop-row-preserved : goal.loop-row-preserved
loop-row-preserved c =
    let a = c.args in
    let i = c.loop-row.row-index in
    let inn = scaled_in a.rows.now a.last a.h i in
    let out = scaled_out a.rows.now a.last a.h i in
    elim c.if-row-last.branch [
      | then-row-last+else-h-sum w ↦ omega (arith, inn w.if-row-last.true)
      | else-row-last w ↦ omega (arith, out w.if-row-last.false)
    ]

pub returns : goal.returns
returns c =
    let a = c.args in
    let g = a.rows.now in
    let e : c.loop-row.row-index ≡ length g = omega arith in
    sym
    (full g a.last a.h c.requires.0 c.requires.1
    ∙ le-ltb a.h (scaled g a.last a.h (length g)) (omega (arith, ap (scaled g a.last a.h) e)))
