-- Each answer is at most 65,535, and the state stays sound.
use Rattle.std.proofs.Common.{◌≤◌, ◌*◌}
use Rattle.executive.specs.Sound.{Sound}
use Rattle.callcost.proofs.sum_of.Given as goal

abbrev pub invariant-loop-i : goal.invariant-loop-i
invariant-loop-i l = Sound l.state × (l.i ≤ 256) × (l.sum ≤ l.i * 65535)
