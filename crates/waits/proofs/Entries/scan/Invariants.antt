use mathlib.Core.Path.{◌≡◌}
use Rattle.waits.proofs.ScanLaws.{fold_to}
use Rattle.waits.proofs.Entries.scan.Given as goal

-- the best so far is the fold over the tasks before i
abbrev pub invariant-loop-i : goal.invariant-loop-i
invariant-loop-i l = l.best ≡ fold_to l.self.tasks.now l.link l.goal l.i
