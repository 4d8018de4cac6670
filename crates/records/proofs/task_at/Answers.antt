-- `records::task_at` meets its contract: each field read at its place.
use Rattle.records.specs.Records.{task_in}
use Rattle.records.proofs.task_at.Goals as goal

pub returns : goal.returns
unfolding task_in
returns c = cc
