use Prim.Native.Nat.{◌+◌, ◌*◌}
use mathlib.Core.Path.{◌≡◌}
use lib.ListN.{take}
use Rattle.lines.specs.Lines.{Put}
use Rattle.rack.specs.Boundary.{entries_by}
use Rattle.rack.proofs.verdict.put_entries.Given as goal

abbrev pub invariant-loop-task : goal.invariant-loop-task
invariant-loop-task l = (l.at ≡ 8 + 16 * l.task-index) × Put l.initial.out 8 (entries_by l.counts (take l.task-index l.tasks)) l.out l.at
