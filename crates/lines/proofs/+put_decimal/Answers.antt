-- `lines::put_decimal` meets its contract, by recursion on the number: a number below ten is its digit, any other the digits of a tenth of it and
-- its last digit. The measure is the number.
use mathlib.Core.Path.{◌∙◌}
use native.Mathlib.Omega.{arith}
use Rattle.lines.proofs.PutLaws.{put_few, put_many, put_length, decimal_room}
use Rattle.lines.proofs.+put_decimal.Goals as goal

pub shape_of-out-then-value-lt10 : goal.shape_of-out-then-value-lt10
shape_of-out-then-value-lt10 t c = put_length c.put_digit.ensures

pub returns-then-value-lt10 : goal.returns-then-value-lt10
returns-then-value-lt10 t c = put_few _ c.if-value-lt10.true c.put_digit.ensures

pub put_digit-requires-2 : goal.put_digit-requires-2
put_digit-requires-2 t c =
    let p = c.put_decimal-next.ensures in
    let e = p.ends in
    let l = put_length p in
    let room = decimal_room _ c.if-value-lt10.false c.ranges.value.fits in
    omega arith

pub shape_of-out : goal.shape_of-out
shape_of-out t c = put_length c.put_digit-2.ensures ∙ put_length c.put_decimal-next.ensures

pub returns : goal.returns
returns t c = put_many _ c.if-value-lt10.false c.ranges.value.fits c.put_decimal-next.ensures c.put_digit-2.ensures
