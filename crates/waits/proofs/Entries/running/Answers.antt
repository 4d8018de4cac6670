-- `Entries::running` meets its contract: the task that the scan meets is the running one.
use Rattle.std.proofs.Common.{rules}
use Rattle.waits.proofs.StandingLaws.{scanned_runs}
use Rattle.waits.proofs.Entries.running.Goals as goal

pub returns : goal.returns
returns c = let s = c.args.self.now in let runs = scanned_runs s.tasks.now s.sems.now c.requires.chained in search rules
