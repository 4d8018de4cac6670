-- `linux::write::put_records` meets its contract: after i turns the first i records stand there, and behind them what stood there.
use native.Mathlib.Omega.{arith}
use Rattle.fields.proofs.PartLaws.{filled_start, filled_end, filled_more}
use Rattle.table.specs.Entries.{blank_task}
use Rattle.linux.specs.Writing.{encode_attr}
use Rattle.linux.proofs.WriteLaws.{length_attr}
use Rattle.linux.proofs.write.put_records.Goals as goal

pub loop-i-init : goal.loop-i-init
loop-i-init c = filled_start encode_attr 48 length_attr c.args.tasks.now c.args.list.now

pub loop-i-preserved : goal.loop-i-preserved
loop-i-preserved c =
    let l = c.loop-i in
    filled_more encode_attr 48 length_attr c.args.tasks.now c.args.list.now c.requires l.list l.i l.invariant c.loop-i-test.true blank_task
    c.put_record.new.part c.put_record.ensures

pub returns : goal.returns
returns c =
    let l = c.loop-i in
    filled_end encode_attr 48 length_attr c.args.tasks.now c.args.list.now c.requires l.list l.i l.invariant (omega arith)
