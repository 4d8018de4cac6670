use mathlib.Core.Path.{◌≡◌}
use mathlib.Core.List.{map}
use lib.ListN.{length, take}
use Rattle.judging.specs.Rows.{row_of}
use Rattle.judging.proofs.judge.rows_of.Given as goal

abbrev pub invariant-loop-i : goal.invariant-loop-i
invariant-loop-i l = (length l.rows ≡ 64) × (take l.i l.rows ≡ map (row_of l.tasks l.fn.board) (take l.i l.tasks))
