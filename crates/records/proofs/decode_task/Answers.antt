-- `records::decode_task` meets its contract: the task is the one in the bytes, refused or not by one test.
use native.Mathlib.Omega.{arith}
use Rattle.std.proofs.lemmas.Result.{err_from_is_err_and}
use Rattle.table.specs.WellFormed.{task_in_range}
use Rattle.records.specs.declared.Record.TheVariants.{Task}
use Rattle.records.specs.Records.{task_in, task_decoded}
use Rattle.records.proofs.RecordLaws.{says_refused, says_entry}
use Rattle.records.proofs.decode_task.Goals as goal

pub returns : goal.returns
unfolding task_decoded
returns c =
    let r = c.args.part.now in
    says_entry 0 task_in_range Task c.task_at-task.result (task_in r) c.task_at-task.ensures c.task_in_range.result c.task_in_range.ensures r 16 16 (omega arith) (c.in_ok-clean.ensures {u = tt})

pub returns-in_err-clean : goal.returns-in_err-clean
unfolding task_decoded
returns-in_err-clean c =
    let r = c.args.part.now in
    let p = err_from_is_err_and c.from_residual.result c.from_residual.ensures.1 in
    rw (p.1, p.2) (says_refused 0 task_in_range Task c.task_at-task.result (task_in r) c.task_at-task.ensures c.task_in_range.result c.task_in_range.ensures r 16 16 (omega arith) c.in_err-clean.field-0.0 (c.in_err-clean.ensures {u = tt}))
