use Rattle.rack.proofs.PlayLaws.{Playing}
use Rattle.rack.proofs.play.play_all.Given as goal

abbrev pub invariant-loop-i : goal.invariant-loop-i
invariant-loop-i l = Playing l.initial.state l.script l.count l.initial.out l.out l.state l.i
