-- `judging::judge::late` meets its contract: the search answers for a DP2 task, and over the rows up to i, each load counted whole, for an FP task.
use Prim.Native.Nat.{ℕ, ◌+◌}
use mathlib.Core.Path.{◌≡◌, ap, ◌∙◌}
use lib.ListN.{take}
use Rattle.std.specs.Prelude.{None}
use Rattle.judging.specs.Rows.{row_at}
use Rattle.judging.specs.Search.{demand_by}
use mathlib.Core.Bool.{not}
use native.Mathlib.Omega.{arith}
use borrow.Author.Tests.{eq-eqb, ne_eqb}
use Rattle.judging.specs.Demands.{demand_dp2, demand_fp, time_up_to, decided}
use Rattle.judging.specs.Verdicts.{late}
use Rattle.judging.proofs.DemandLaws.{demand_up_to, range_up_to}
use Rattle.judging.proofs.judge.late.Goals as goal

pub has_time-requires-2 : goal.has_time-requires-2
has_time-requires-2 c = let a = c.args in (range_up_to a.rows.now a.i c.requires.0 c.requires.1, omega (arith, c.requires.0.each a.i c.requires.1))

-- what is answered
pub returns-then-row-queue : goal.returns-then-row-queue
unfolding late
returns-then-row-queue c = rw (ne_eqb _ _ c.if-row-queue.true)

pub returns-then-queue-eq2 : goal.returns-then-queue-eq2
unfolding late demand_dp2
returns-then-queue-eq2 c = rw (eq-eqb _ _ c.if-row-queue.false, eq-eqb _ _ c.if-queue-eq2.true) (ap not c.has_time.ensures)

pub returns : goal.returns
unfolding late
returns c =
    let a = c.args in
    let demand : demand_by None (take (a.i + 1) a.rows.now) ≡ demand_fp a.rows.now a.i = λ i t. demand_up_to a.rows.now a.i t i in
    rw (eq-eqb _ _ c.if-row-queue.false, ne_eqb _ _ c.if-queue-eq2.false)
    (ap not (c.has_time-2.ensures ∙ ap (λ (d : ℕ → ℕ). decided (time_up_to d (row_at a.rows.now a.i).span)) demand))
