-- `report::put_lines` meets its contract: after as many turns the lines of as many tasks are put.
use native.Mathlib.Omega.{arith}
use mathlib.Core.Path.{◌≡◌}
use lib.ListN.{get_or, length}
use lib.Seq.{take-length}
use Rattle.table.specs.Entries.{blank_task}
use Rattle.lines.proofs.PutLaws.{put_none}
use Rattle.report.specs.Report.{lines_by}
use Rattle.report.proofs.LineLaws.{task_short, put_lines_more}
use Rattle.report.proofs.put_lines.Goals as goal

pub loop-task-init : goal.loop-task-init
unfolding lines_by
loop-task-init c = (omega arith, put_none c.args.out.now 0)

pub loop-task-preserved : goal.loop-task-preserved
loop-task-preserved c =
    let tasks = c.args.tasks.now in
    let loop = c.loop-task in
    let put = c.put_task-at in
    let e = put.ensures.ends in
    let short = task_short c.args.counts (get_or tasks loop.task-index blank_task) in
    (omega arith, put_lines_more c.args.counts tasks loop.task-index blank_task c.loop-task-test.true loop.invariant.1 put.ensures)

pub returns : goal.returns
returns c =
    let n : c.loop-task.task-index ≡ length c.args.tasks.now = omega arith in
    (rw (n, take-length c.args.tasks.now) at c.loop-task.invariant.1, omega arith)
