-- `judging::judge::first_late` meets its contract: no task of the queue that was passed is late.
use Prim.Native.Nat.{ℕ}
use mathlib.Core.Path.{◌≡◌, sym, subst, ◌∙◌}
use native.Mathlib.Omega.{arith}
use lib.ListN.{length}
use Rattle.std.specs.Prelude.{None}
use Rattle.judging.specs.Verdicts.{first_below, late, first_late}
use Rattle.judging.proofs.FirstLaws.{first_start, first_hit, first_miss}
use Rattle.judging.proofs.judge.first_late.Goals as goal

pub loop-i-init : goal.loop-i-init
loop-i-init c = first_start (late c.args.queue c.args.rows.now)

pub returns-then-late : goal.returns-then-late
unfolding first_late
returns-then-late c =
    let a = c.args in
    let l = c.loop-i in
    sym (first_hit (late a.queue a.rows.now) (length a.rows.now) l.i c.loop-i-test.true (sym c.late.ensures ∙ c.if-late.true) l.invariant)

pub loop-i-preserved : goal.loop-i-preserved
loop-i-preserved c =
    let a = c.args in
    let l = c.loop-i in
    first_miss (late a.queue a.rows.now) l.i (sym c.late.ensures ∙ c.if-late.false) l.invariant

pub returns : goal.returns
unfolding first_late
returns c =
    let a = c.args in
    let l = c.loop-i in
    let e : l.i ≡ length a.rows.now = omega arith in
    sym (subst (λ (n : ℕ). first_below n (late a.queue a.rows.now) ≡ None) e l.invariant)
