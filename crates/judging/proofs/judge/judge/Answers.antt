-- `judging::judge::judge` meets its contract: a sound state's tasks have rows in range, and the tests answer for these.
use Prim.Native.Nat.{ℕ}
use mathlib.Core.Path.{◌≡◌, sym, ap, subst, ◌∙◌}
use mathlib.Core.List.{List}
use native.Mathlib.Omega.{arith}
use lib.ListN.{length, take}
use lib.Seq.{length-take-le}
use Rattle.executive.specs.declared.state.State.{State}
use Rattle.executive.specs.States.{tasks_of, sems_of}
use Rattle.executive.specs.Sound.{Sound}
use Rattle.judging.specs.declared.Row.{Row}
use Rattle.judging.specs.Rows.{rows_of}
use Rattle.judging.specs.Ranges.{InRange}
use Rattle.judging.specs.Verdicts.{verdict_by, verdict_of}
use Rattle.judging.proofs.RowLaws.{rows_length, rows_range}
use Rattle.judging.proofs.judge.judge.Goals as goal

module _ (s : State) (sound : Sound s) where
  size : length (tasks_of s) ≡ s.n
  unfolding tasks_of
  size = length-take-le s.n s.tasks (omega (arith, sound.sized.tasks_length, sound.sized.tasks_fit))

  -- what was made, by the contract of `rows_of`, are the rows of the tasks that there are
  module _ (made : List Row) (e : take (length (take s.n s.tasks)) made ≡ rows_of (take s.n s.tasks) s.board) where
    made_is : take s.n made ≡ rows_of (tasks_of s) s.board
    unfolding tasks_of
    made_is = ap (λ (n : ℕ). take n made) (sym size) ∙ e

    ready : InRange (take s.n made) × (length (take s.n s.tasks) ≡ length (take s.n made))
    unfolding tasks_of
    ready =
        subst (λ (x : List Row). InRange x × (length (take s.n s.tasks) ≡ length x)) (sym made_is) (
          rows_range (tasks_of s) s.board (sems_of s) s.present (omega (arith, size, sound.sized.tasks_fit)) (λ k. sound.table (omega (arith, size))),
          sym (rows_length (tasks_of s) s.board),
        )

pub tested-requires : goal.tested-requires
tested-requires c = ready c.args.state c.requires c.rows_of-rows.result c.rows_of-rows.ensures

pub returns : goal.returns
unfolding verdict_of tasks_of
returns c =
    let s = c.args.state in
    let m = c.rows_of-rows in
    c.tested.ensures ∙ ap (verdict_by (tasks_of s)) (made_is s c.requires m.result m.ensures)
