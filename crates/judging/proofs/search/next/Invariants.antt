use Prim.Native.Nat.{ℕ, ◌+◌, ◌*◌, ◌/◌, ◌≤◌, ◌<◌}
use Rattle.judging.specs.Rows.{row_at}
use Rattle.judging.proofs.search.next.Given as goal

abbrev pub invariant-loop-row : goal.invariant-loop-row
invariant-loop-row l = (l.t < l.best) × (l.best ≤ l.limit) × ((j : ℕ) → j < l.row-index → l.best ≤ (l.t / (row_at l.rows j).period + 1) * (row_at l.rows j).period)
