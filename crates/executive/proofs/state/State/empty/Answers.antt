-- `State::empty` meets its contract: field by field.
use mathlib.Core.Bool.{false}
use lib.ListN.{replicate}
use Rattle.executive.specs.States.{empty_state}
use Rattle.executive.proofs.state.State.empty.Goals as goal

pub returns : goal.returns
unfolding empty_state
returns c =
    λ i.
    record {
      tasks = replicate 64 (c.blank.ensures i);
      sems = replicate 16 (c.blank-2.ensures i);
      n = 0;
      m = 0;
      last = 0;
      board = c.no_figures.ensures i;
      present = false;
    }
