use Prim.Native.Nat.{◌≤◌, ◌+◌, ◌*◌}
use lib.ListN.{take}
use Rattle.lines.specs.Lines.{Put, numbered}
use Rattle.lines.proofs.put_numbers.Given as goal

abbrev pub invariant-loop-number : goal.invariant-loop-number
invariant-loop-number l =
    (l.next ≤ l.at + 21 * l.number-index) × Put l.initial.out l.at (numbered (take l.number-index l.numbers)) l.out l.next
