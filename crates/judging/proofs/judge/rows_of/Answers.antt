-- `judging::judge::rows_of` meets its contract: each task passed has its row; the load by the promise of `charges` alone.
use Prim.Native.Nat.{ℕ}
use mathlib.Core.Path.{◌≡◌, ap, subst, ◌∙◌}
use mathlib.Core.List.{map}
use native.Mathlib.Omega.{arith}
use lib.ListN.{length, get_or, take, length-set}
use lib.Seq.{take-length}
use Rattle.table.specs.Entries.{blank_task}
use Rattle.charges.proofs.ChargeLaws.{load_of_lem}
use Rattle.judging.specs.Rows.{row_of, rows_of}
use Rattle.judging.proofs.RowLaws.{entry_more}
use Rattle.judging.proofs.judge.rows_of.Goals as goal

pub loop-i-preserved : goal.loop-i-preserved
unfolding row_of
loop-i-preserved c =
    let a = c.args in
    let l = c.loop-i in
    let load = c.load.ensures ∙ load_of_lem c.of-counts.result a.tasks.now a.board (get_or a.tasks.now l.i blank_task) c.of-counts.ensures in (
      length-set l.rows l.i _ ∙ l.invariant.0,
      rw (load, c.span.ensures)
          (entry_more (row_of a.tasks.now a.board) a.tasks.now l.rows l.i blank_task c.loop-i-test.true (omega (arith, l.invariant.0, c.requires)) l.invariant.1),
    )

pub returns : goal.returns
unfolding rows_of
returns c =
    let a = c.args in
    let l = c.loop-i in
    let e : l.i ≡ length a.tasks.now = omega arith in
    let f = row_of a.tasks.now a.board in
    subst (λ (n : ℕ). take n l.rows ≡ map f (take n a.tasks.now)) e l.invariant.1 ∙ ap (map f) (take-length a.tasks.now)
