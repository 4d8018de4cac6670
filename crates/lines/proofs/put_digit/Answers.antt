-- `lines::put_digit` meets its contract: one byte is put.
use Rattle.lines.proofs.PutLaws.{put_one}
use Rattle.lines.proofs.put_digit.Goals as goal

pub returns : goal.returns
returns c = put_one _ _ _
