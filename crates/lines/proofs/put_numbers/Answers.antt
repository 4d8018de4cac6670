-- `lines::put_numbers` meets its contract: after as many turns as many numbers are put, each behind a blank.
use native.Mathlib.Omega.{arith}
use lib.ListN.{get_or, length-set}
use lib.Seq.{take_all}
use Rattle.lines.specs.Lines.{numbered}
use Rattle.lines.proofs.PutLaws.{put_none, put_number, put_length, decimal_short}
use Rattle.lines.proofs.put_numbers.Goals as goal

pub loop-number-init : goal.loop-number-init
unfolding numbered
loop-number-init c = (omega arith, put_none c.args.out.now c.args.at)

pub bounds-out-next : goal.bounds-out-next
bounds-out-next c = let l = put_length c.loop-number.invariant.1 in omega arith

pub put_decimal-next-requires : goal.put_decimal-next-requires
put_decimal-next-requires c = let l = put_length c.loop-number.invariant.1 in simp length-set (omega arith)

pub loop-number-preserved : goal.loop-number-preserved
loop-number-preserved c =
    let a = c.args in
    let loop = c.loop-number in
    let put = c.put_decimal-next in
    let e = put.ensures.ends in
    let short = decimal_short (get_or a.numbers.now loop.number-index 0) in (
      omega arith,
      put_number a.out.now loop.out put.new.out a.at loop.next put.result a.numbers.now loop.number-index (omega arith)
          loop.invariant.1 put.ensures,
    )

pub returns : goal.returns
returns c = rw (take_all c.loop-number.number-index c.args.numbers.now (omega arith)) at c.loop-number.invariant.1
