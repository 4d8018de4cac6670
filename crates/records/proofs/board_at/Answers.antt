-- `records::board_at` meets its contract: nine figures, each read at its place.
use Rattle.records.specs.Records.{board_in}
use Rattle.records.proofs.board_at.Goals as goal

pub returns : goal.returns
unfolding board_in
returns c = cc
