use Prim.Native.Nat.{◌*◌, ◌≤◌}
use mathlib.Core.Path.{◌≡◌}
use lib.ListN.{take}
use Rattle.judging.specs.Search.{demand_by}
use Rattle.judging.proofs.search.demand.Given as goal

abbrev pub invariant-loop-row : goal.invariant-loop-row
invariant-loop-row l = (l.sum ≡ demand_by l.own (take l.row-index l.rows) l.t) × (l.sum ≤ l.row-index * 100000000000000000)
