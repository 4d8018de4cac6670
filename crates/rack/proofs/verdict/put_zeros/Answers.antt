-- `rack::verdict::put_zeros` meets its contract: the part of the array from the place on is zero.
use native.Mathlib.Omega.{arith}
use Rattle.rack.proofs.ByteParts.{put_rest}
use Rattle.rack.proofs.verdict.put_zeros.Goals as goal

pub returns : goal.returns
returns c =
    let a = c.before.args in
    put_rest a.out.now c.put_word.new.out a.at 1032 0 c.put_word.result (omega arith) c.put_word.ensures
