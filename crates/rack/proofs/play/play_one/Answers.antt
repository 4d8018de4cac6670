-- `rack::play::play_one` meets its contract: the first byte of a record tells the call.
use mathlib.Core.Path.{◌∙◌}
use Rattle.executive.specs.Calls.{moved}
use Rattle.rack.proofs.PlayLaws.{called_release, called_signal, called_withdraw, called_acquire, called_give, called_complete, called_block, called_none}
use Rattle.rack.proofs.play.play_one.Goals as goal

pub returns-in-1 : goal.returns-in-1
returns-in-1 c =
    let a = c.args in
    c.release-moved.ensures
    ∙ called_release a.state a.script.now a.at c.read-number.result c.read.result c.in-1.is c.read-number.ensures c.read.ensures

pub returns-in-2 : goal.returns-in-2
returns-in-2 c =
    let a = c.args in
    c.signal-moved.ensures
    ∙ called_signal a.state a.script.now a.at c.read-number.result c.in-2.is c.read-number.ensures

pub returns-in-3 : goal.returns-in-3
returns-in-3 c =
    let a = c.args in
    c.withdraw-moved.ensures
    ∙ called_withdraw a.state a.script.now a.at c.read-number.result c.in-3.is c.read-number.ensures

pub returns-in-4 : goal.returns-in-4
returns-in-4 c =
    let a = c.args in
    c.acquire-moved.ensures
    ∙ called_acquire a.state a.script.now a.at c.read-number.result c.in-4.is c.read-number.ensures

pub returns-in-5 : goal.returns-in-5
returns-in-5 c =
    let a = c.args in
    c.give-moved.ensures
    ∙ called_give a.state a.script.now a.at c.read-number.result c.in-5.is c.read-number.ensures

pub returns-in-6 : goal.returns-in-6
returns-in-6 c =
    let a = c.args in
    c.complete-moved.ensures ∙ called_complete a.state a.script.now a.at c.in-6.is

pub returns-in-7 : goal.returns-in-7
returns-in-7 c =
    let a = c.args in
    c.block-moved.ensures ∙ called_block a.state a.script.now a.at c.in-7.is

pub returns-in_default : goal.returns-in_default
unfolding moved
returns-in_default c =
    let a = c.args in
    let other = c.in_default.in_default-own.rest in
    called_none a.state a.script.now a.at other.0.0.0.0.0.0.1 other.0.0.0.0.0.1 other.0.0.0.0.1 other.0.0.0.1
    other.0.0.1 other.0.1 other.1
