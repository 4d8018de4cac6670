-- `Entries::heir` meets its contract: the waiter that the scan meets is the heir.
use Rattle.std.proofs.Common.{rules}
use Rattle.waits.proofs.StandingLaws.{scanned_heir}
use Rattle.waits.proofs.Entries.heir.Goals as goal

pub returns : goal.returns
returns c = let s = c.args.self.now in let heir = scanned_heir s.tasks.now s.sems.now c.requires.0.chained c.args.k in search rules
