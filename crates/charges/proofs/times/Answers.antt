-- `charges::times` meets its contract: the largest count times the largest figure bounds the product.
use Prim.Native.Nat.{◌*◌, ◌≤◌}
use native.Mathlib.Nat.{mul-le-mul}
use native.Mathlib.Omega.{arith}
use Rattle.charges.proofs.times.Goals as goal

small : (c : goal.Start) → c.args.count * c.args.figure ≤ 255 * 65535
small c =
    let h : c.args.count ≤ 255 = omega arith in
    let k : c.args.figure ≤ 65535 = omega arith in
    mul-le-mul h k

pub overflow_mul-result : goal.overflow_mul-result
overflow_mul-result c = omega (arith, small c)

pub returns : goal.returns
returns c = omega (arith, small c)
