-- `judging::search::has_time` meets its contract: no time up to t is enough; between t and the next time to try every count stands still.
use Prim.Native.Nat.{ℕ, ◌≤◌, ◌<◌}
use mathlib.Core.Path.{sym}
use mathlib.Core.Logic.{◌⊎◌, ⊎_elim}
use native.Mathlib.Omega.{arith}
use Rattle.judging.specs.Search.{demand_by}
use Rattle.judging.proofs.DemandLaws.{demand_still, decided_some, decided_none, le_or_lt}
use Rattle.judging.proofs.search.has_time.Goals as goal

pub returns-then-demand-t : goal.returns-then-demand-t
returns-then-demand-t c =
    let a = c.args in
    let n = c.next-t in
    sym
    (decided_some (demand_by a.own a.rows.now) a.limit n.result
    (omega (arith, n.ensures.later)) n.ensures.most (omega (arith, c.demand.ensures, c.if-demand-t.true)))

pub loop-t-preserved : goal.loop-t-preserved
loop-t-preserved c =
    let a = c.args in
    let g = a.rows.now in
    let n = c.next-t in
    let l = c.loop-t in
    let fails : n.result < demand_by a.own g n.result = omega (arith, c.demand.ensures, c.if-demand-t.false) in
    let each : (s : ℕ) → (s ≤ l.t) ⊎ (l.t < s) → 1 ≤ s → s ≤ n.result → s < demand_by a.own g s =
    λ s w h k.
    ⊎_elim
    (λ (before : s ≤ l.t). l.invariant.1 s h before)
    (λ (behind : l.t < s).
    omega (
      arith,
      fails,
      demand_still g a.own l.t s n.result (λ j m. omega (arith, (c.requires.0.each j m).period_least)) (λ j m. n.ensures.between j m) behind k,
    ))
    w
    in
    (n.ensures.most, λ s h k. each s (le_or_lt s l.t) h k)

pub returns : goal.returns
returns c =
    let a = c.args in
    let l = c.loop-t in
    sym (decided_none (demand_by a.own a.rows.now) a.limit (λ s h k. l.invariant.1 s h (omega arith)))
