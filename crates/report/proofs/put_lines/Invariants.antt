use Prim.Native.Nat.{◌*◌, ◌≤◌}
use lib.ListN.{take}
use Rattle.lines.specs.Lines.{Put}
use Rattle.report.specs.Report.{lines_by}
use Rattle.report.proofs.put_lines.Given as goal

abbrev pub invariant-loop-task : goal.invariant-loop-task
invariant-loop-task l = (l.at ≤ 68 * l.task-index) × Put l.initial.out 0 (lines_by l.counts (take l.task-index l.tasks)) l.out l.at
