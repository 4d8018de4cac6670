-- `records::put_task` meets its contract: zeros, then the fields and the kind.
use Rattle.records.proofs.RecordLaws.{task_put}
use Rattle.records.proofs.put_task.Goals as goal

pub returns : goal.returns
returns c = cc (task_put c.args.task)
