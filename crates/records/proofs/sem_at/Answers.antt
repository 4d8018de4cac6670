-- `records::sem_at` meets its contract: the number read at its place, held by nobody.
use Rattle.records.specs.Records.{sem_in}
use Rattle.records.proofs.sem_at.Goals as goal

pub returns : goal.returns
unfolding sem_in
returns c = cc
