-- `rack::play::play_all` meets its contract: what is put so far and what is still to be played make the whole.
use Prim.Native.Nat.{◌*◌}
use mathlib.Core.Path.{sym, subst}
use native.Mathlib.Omega.{arith}
use Rattle.lines.proofs.PutLaws.{put_length}
use Rattle.executive.specs.Sound.{Sound}
use Rattle.rack.proofs.PlayLaws.{playing_start, playing_on, playing_end, part_put, called_sound}
use Rattle.rack.proofs.play.play_all.Goals as goal

pub loop-i-init : goal.loop-i-init
loop-i-init c = let a = c.args in playing_start a.from a.script.now a.count a.out.now c.requires.0

pub overflow_mul-at : goal.overflow_mul-at
overflow_mul-at c = let p = c.requires.1 in omega arith

pub play_next-answer-requires : goal.play_next-answer-requires
play_next-answer-requires c = let p = c.requires.1 in (c.loop-i.invariant.sound, omega arith)

pub overflow_add-at : goal.overflow_add-at
overflow_add-at c = let p = c.requires.1 in omega arith

pub read-requires : goal.read-requires
read-requires c = let p = c.requires.1 in omega arith

pub standing-stands-requires : goal.standing-stands-requires
standing-stands-requires c =
    subst Sound (sym c.play_next-answer.ensures.next) (called_sound c.loop-i.state c.args.script.now (c.loop-i.i * 16) c.loop-i.invariant.sound)

pub overflow_mul-i : goal.overflow_mul-i
overflow_mul-i c = let p = c.requires.2 in omega arith

pub running-requires : goal.running-requires
running-requires c =
    subst Sound (sym c.play_next-answer.ensures.next) (called_sound c.loop-i.state c.args.script.now (c.loop-i.i * 16) c.loop-i.invariant.sound)

pub put_part-requires : goal.put_part-requires
put_part-requires c =
    let p = c.requires.2 in
    let l = put_length c.loop-i.invariant.put in
    omega arith

pub loop-i-preserved : goal.loop-i-preserved
loop-i-preserved c =
    let a = c.args in
    let loop = c.loop-i in
    let next = c.play_next-answer in
    let put = c.put_part in
    playing_on a.from a.script.now a.count a.out.now loop.out put.new.out loop.state next.new.state loop.i put.result
    loop.invariant c.loop-i-test.true next.ensures.next
    (part_put loop.state a.script.now (loop.i * 16) next.new.state next.result c.running.result _ c.read.result
    next.ensures.next next.ensures.answer c.running.ensures c.standing-stands.ensures c.read.ensures put.ensures)

pub shape_of-out : goal.shape_of-out
shape_of-out c = put_length c.loop-i.invariant.put

pub returns : goal.returns
returns c =
    let a = c.args in
    playing_end a.from a.script.now a.count a.out.now c.loop-i.out c.loop-i.state c.loop-i.i c.loop-i.invariant c.loop-i-test.false
