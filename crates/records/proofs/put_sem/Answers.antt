-- `records::put_sem` meets its contract: zeros, then the number and the kind.
use Rattle.records.proofs.RecordLaws.{sem_put}
use Rattle.records.proofs.put_sem.Goals as goal

pub returns : goal.returns
returns c = cc (sem_put c.args.sem)
