-- `rack::play::put_part` meets its contract: two rows make the bytes of the part.
use mathlib.Core.Path.{sym}
use Rattle.fields.specs.Fields.{bytes_of}
use Rattle.lines.proofs.PutLaws.{put_more}
use Rattle.rack.specs.Boundary.{played_part}
use Rattle.rack.proofs.ByteParts.{low_byte, next_byte}
use borrow.Author.Rules.{rules}
use Rattle.rack.proofs.play.put_part.Goals as goal

pub put_row-requires : goal.put_row-requires
unfolding bytes_of
put_row-requires c =
    let a = c in
    let end = c.put_row-end.ensures.ends in
    search (rules, end, a.requires)

pub returns : goal.returns
unfolding played_part bytes_of
returns c =
    let bytes = c.to_le_bytes.ensures in
    let front = rw (low_byte 1 _ _ bytes, next_byte 0 _ _ bytes) at c.put_row-end.ensures in
    rw (sym c.unwrap_or-running.ensures, c.shown-number.ensures) (put_more _ _ front c.put_row.ensures)
