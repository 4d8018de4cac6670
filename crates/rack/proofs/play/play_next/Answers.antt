-- `rack::play::play_next` meets its contract: what the call hands back, and the very state where it is refused.
use mathlib.Core.Path.{sym, ap, ◌∙◌}
use Rattle.executive.specs.Calls.{Step, moved, step_by, answer_by}
use Rattle.rack.proofs.PlayLaws.{kept_by}
use Rattle.rack.proofs.play.play_next.Goals as goal

pub returns-in-Err-clause-next : goal.returns-in-Err-clause-next
returns-in-Err-clause-next c =
    let a = c.args in
    let m = c.in-Some.moved in
    kept_by a.state.now a.script.now a.at m.state c.in-Err.refusal (ap (step_by m.state) (sym c.in-Err.is) ∙ c.in-Some.ensures {u = tt})

pub returns-in-Err-clause-answer : goal.returns-in-Err-clause-answer
unfolding moved
returns-in-Err-clause-answer c =
    let m = c.in-Some.moved in
    c.number-in-Err.ensures ∙ ap (λ (m : Step). m.answer) (ap (step_by m.state) (sym c.in-Err.is) ∙ c.in-Some.ensures {u = tt})
