use Rattle.image.proofs.LoadLaws.{Come}
use Rattle.image.proofs.load.load_records.Given as goal

abbrev pub invariant-loop-place : goal.invariant-loop-place
invariant-loop-place l = Come l.records l.state l.given l.front l.place
