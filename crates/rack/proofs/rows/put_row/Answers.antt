-- `rack::rows::put_row` meets its contract: the given bytes, then those of the number.
use Rattle.lines.proofs.PutLaws.{put_more}
use Rattle.rack.proofs.ByteParts.{eight_bytes}
use Rattle.rack.proofs.rows.put_row.Goals as goal

pub returns : goal.returns
returns c =
    let a = c.args in
    let first = c.put_word-end.ensures in
    let second = c.put_word.ensures in
    put_more _ _ first (rw (c.put.ensures, eight_bytes a.value) at second)
