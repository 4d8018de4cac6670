-- `rack::verdict::put_entries` meets its contract: after as many turns the entries of as many tasks are put.
use mathlib.Core.Path.{◌≡◌}
use native.Mathlib.Omega.{arith}
use lib.ListN.{get_or, length}
use lib.Seq.{take-length}
use Rattle.table.specs.Entries.{blank_task}
use Rattle.lines.proofs.PutLaws.{put_none}
use Rattle.charges.specs.Charges.{charge_by}
use Rattle.rack.specs.Boundary.{entries_by, entries_bytes}
use Rattle.rack.proofs.ByteParts.{entry_long, entries_more}
use Rattle.rack.proofs.verdict.put_entries.Goals as goal

pub loop-task-init : goal.loop-task-init
unfolding entries_by
loop-task-init c = (omega arith, put_none c.args.out.now 8)

pub loop-task-preserved : goal.loop-task-preserved
loop-task-preserved c =
    let tasks = c.args.tasks.now in
    let loop = c.loop-task in
    let counts = c.of-counts.result in
    let t = get_or tasks loop.task-index blank_task in
    let put = c.put_entry-at in
    let entry = rw c.charge.ensures.0 at put.ensures in
    let e = entry.ends in
    let long = entry_long t.number t.queue (charge_by counts t) in
    (omega arith, entries_more counts tasks loop.task-index blank_task c.loop-task-test.true loop.invariant.1 entry)

pub returns : goal.returns
unfolding entries_bytes
returns c =
    let n : c.loop-task.task-index ≡ length c.args.tasks.now = omega arith in
    (rw (n, take-length c.args.tasks.now, c.of-counts.ensures) at c.loop-task.invariant.1, omega arith)
