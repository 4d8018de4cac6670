-- `charges::Counts::of` meets its contract: the counts are made of how many tasks each queue has.
use mathlib.Core.Path.{refl}
use Rattle.charges.proofs.ChargeLaws.{counts_made}
use Rattle.charges.proofs.Counts.of.Goals as goal

pub returns : goal.returns
returns c =
    counts_made c.args.tasks.now c.args.board _ _ _ _ _ _ refl c.tasks_in-q.ensures.0 c.tasks_in-s.ensures.0 c.tasks_in-f.ensures.0
    (search Rattle.std.proofs.Common.rules)
    c.max.ensures
