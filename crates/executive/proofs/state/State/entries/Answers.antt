-- `State::entries` meets its contract: the first entries are those that there are.
use Rattle.executive.specs.States.{tasks_of, sems_of}
use Rattle.executive.proofs.LookupLaws.{tasks_count, sems_count}
use Rattle.executive.proofs.SoundLaws.{used}
use Rattle.executive.proofs.state.State.entries.Goals as goal

pub returns-clause-counts : goal.returns-clause-counts
unfolding tasks_of sems_of
returns-clause-counts c = let s = c.args.self.now in (tasks_count s c.requires, sems_count s c.requires)

pub returns-clause-used : goal.returns-clause-used
unfolding tasks_of sems_of
returns-clause-used c = λ sound. used c.args.self.now sound
