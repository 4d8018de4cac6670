-- `rack::verdict::put_head` meets its contract: the array is the bytes of the head.
use Rattle.fields.specs.Fields.{bytes_of}
use Rattle.rack.specs.Boundary.{head_bytes}
use Rattle.rack.proofs.ByteParts.{low_byte, next_byte}
use Rattle.rack.proofs.verdict.put_head.Goals as goal

pub returns : goal.returns
unfolding head_bytes bytes_of
returns c =
    let place = c.to_le_bytes.ensures in
    let task = c.to_le_bytes-2.ensures in
    let n = c.to_le_bytes-3.ensures in
    rw (low_byte 7 _ _ place, next_byte 6 _ _ place, low_byte 7 _ _ task, next_byte 6 _ _ task, low_byte 7 _ _ n, next_byte 6 _ _ n) at c.put_word.ensures
