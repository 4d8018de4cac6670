-- `judging::sums::shared_period` meets its contract: the loop has the shared period of the tasks passed, and none of them was too long.
use Prim.Native.Nat.{ℕ, ◌+◌, ◌*◌, ◌/◌, ◌≤◌, ◌<◌}
use mathlib.Core.Path.{◌≡◌, sym, ap, subst, ◌∙◌}
use mathlib.Core.List.{List}
use native.Mathlib.Nat.{mul-pos}
use native.Mathlib.Omega.{arith}
use lib.ListN.{length}
use Rattle.std.specs.Prelude.{Option, None, Ok}
use Rattle.judging.specs.declared.Row.{Row}
use Rattle.judging.specs.Rows.{row_at}
use Rattle.judging.specs.Periods.{gcd_of, shared_period, too_long}
use Rattle.judging.specs.Ranges.{InRange}
use Rattle.judging.specs.Verdicts.{first_below, first_long, shared_by, shared_of}
use Rattle.judging.proofs.PeriodLaws.{gcd_pos, gcd_part_pos, shared_in, shared_out, shared_start, too_long_lem, not_long, product_above, product_within}
use Rattle.judging.proofs.FirstLaws.{first_start, first_hit, first_miss}
use Rattle.judging.proofs.sums.shared_period.Goals.{then-row-le2+else-part-h, else-row-le2}
use Rattle.judging.proofs.sums.shared_period.Goals as goal

-- a period is positive, so its part is
module _ (rows : List Row) (i h g : ℕ) (r : InRange rows) (l : i < length rows) (hh : 0 < h) (e : g ≡ gcd_of h (row_at rows i).period) where
  period : 0 < (row_at rows i).period
  period = omega (arith, (r.each i l).period_least)

  divisor : 0 < g
  divisor = rw e (gcd_pos h (row_at rows i).period hh period)

  part : 0 < (row_at rows i).period / g
  part = subst (λ (x : ℕ). 0 < (row_at rows i).period / x) (sym e) (gcd_part_pos h (row_at rows i).period hh period)

pub loop-i-init : goal.loop-i-init
loop-i-init c = (shared_start c.args.rows.now, omega arith, omega arith, first_start (too_long c.args.rows.now))

pub nonzero_div-part : goal.nonzero_div-part
nonzero_div-part c =
    let l = c.loop-i in divisor c.args.rows.now l.i l.h c.gcd.result c.requires c.loop-i-test.true l.invariant.1 c.gcd.ensures

pub nonzero_div-part-then-row-le2 : goal.nonzero_div-part-then-row-le2
nonzero_div-part-then-row-le2 c =
    let l = c.loop-i in part c.args.rows.now l.i l.h c.gcd.result c.requires c.loop-i-test.true l.invariant.1 c.gcd.ensures

pub returns-then-part-h : goal.returns-then-part-h
unfolding shared_of first_long shared_by
returns-then-part-h c =
    let g = c.args.rows.now in
    let l = c.loop-i in
    let pos = part g l.i l.h c.gcd.result c.requires c.loop-i-test.true l.invariant.1 c.gcd.ensures in
    let grown = shared_in g l.i l.h c.gcd.result c.if-row-le2.true l.invariant.0 c.gcd.ensures in
    let above =
    too_long_lem g l.i (subst (λ (z : ℕ). 1000000000000 < z) grown (product_above 1000000000000 l.h _ pos c.if-part-h.true))
    in
    sym
    (ap (λ (f : Option ℕ). shared_by f (shared_period g (length g)))
    (first_hit (too_long g) (length g) l.i c.loop-i-test.true above l.invariant.3))

pub loop-i-preserved : goal.loop-i-preserved
loop-i-preserved c =
    let g = c.args.rows.now in
    let l = c.loop-i in
    let p : ℕ = (row_at g l.i).period in
    let h : ℕ = c.if-row-le2.h in
    let facts : (h ≡ shared_period g (l.i + 1)) × (1 ≤ h) × (h ≤ 1000000000000) =
    elim c.if-row-le2.branch [
      | then-row-le2+else-part-h w ↦
          (let pos = part g l.i l.h w.gcd.result c.requires c.loop-i-test.true l.invariant.1 w.gcd.ensures in
          let grown = shared_in g l.i l.h w.gcd.result w.if-row-le2.true l.invariant.0 w.gcd.ensures in
          let within : l.h * (p / w.gcd.result) ≤ 1000000000000 = product_within 1000000000000 l.h _ pos w.if-part-h.false in
          let some : 0 < l.h * (p / w.gcd.result) = mul-pos l.invariant.1 pos in
          (w.h-is ∙ grown, omega (arith, w.h-is), omega (arith, w.h-is)))
      | else-row-le2 w ↦
          (w.h-is ∙ l.invariant.0 ∙ sym (shared_out g l.i w.if-row-le2.false), omega (arith, w.h-is), omega (arith, w.h-is))
    ]
    in (
      facts.0,
      facts.1,
      facts.2,
      first_miss (too_long g) l.i (not_long g l.i (omega (arith, facts.0, facts.2))) l.invariant.3,
    )

pub returns : goal.returns
unfolding shared_of first_long shared_by
returns c =
    let g = c.args.rows.now in
    let l = c.loop-i in
    let e : l.i ≡ length g = omega arith in
    ap Ok (l.invariant.0 ∙ ap (shared_period g) e)
    ∙ sym
    (ap (λ (f : Option ℕ). shared_by f (shared_period g (length g)))
    (subst (λ (n : ℕ). first_below n (too_long g) ≡ None) e l.invariant.3))
