-- `records::put_board` meets its contract: zeros, then the nine figures and the kind.
use Rattle.records.proofs.RecordLaws.{board_put}
use Rattle.records.proofs.put_board.Goals as goal

pub returns : goal.returns
returns c = cc (board_put c.args.board)
