-- `rack::verdict::put_entry` meets its contract: the row is the bytes of the entry.
use Rattle.fields.specs.Fields.{bytes_of}
use Rattle.rack.specs.Boundary.{entry_bytes}
use Rattle.rack.proofs.ByteParts.{low_byte, next_byte}
use Rattle.rack.proofs.verdict.put_entry.Goals as goal

pub returns : goal.returns
unfolding entry_bytes bytes_of
returns c =
    let bytes = c.to_le_bytes in
    rw (low_byte 7 _ _ bytes.ensures, next_byte 6 _ _ bytes.ensures) at c.put_row.ensures
