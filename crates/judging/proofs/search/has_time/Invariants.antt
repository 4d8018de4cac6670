use Prim.Native.Nat.{ℕ, ◌-◌, ◌≤◌, ◌<◌}
use Rattle.judging.specs.Search.{demand_by}
use Rattle.judging.proofs.search.has_time.Given as goal

abbrev pub invariant-loop-t : goal.invariant-loop-t
invariant-loop-t l = (l.t ≤ l.limit) × ((s : ℕ) → 1 ≤ s → s ≤ l.t → s < demand_by l.own l.rows s)

abbrev pub decreases-loop-t : goal.decreases-loop-t
decreases-loop-t l = l.limit - l.t
