-- `records::decode` meets its contract: each arm is one kind.
use mathlib.Core.Path.{sym, ap, ◌∙◌}
use native.Mathlib.Omega.{arith}
use Rattle.std.specs.Prelude.{Ok, Err}
use Rattle.std.proofs.lemmas.Result.{err_from_is_err_and}
use Rattle.records.specs.declared.Kind.{Kind}
use Rattle.records.specs.declared.Kind.TheVariants.{Task, Board, Sem, Erased}
use Rattle.records.proofs.RecordLaws.{decoded_by}
use Rattle.records.proofs.decode.Goals as goal

pub returns-in-Task : goal.returns-in-Task
returns-in-Task c =
    c.decode_task.ensures
    ∙ decoded_by c.args.part.now (Ok Task) (omega arith) (ap (λ (k : Kind). Ok k) (sym c.in-Task.is) ∙ c.in_ok-try_from.ensures {u = tt})

pub returns-in-Board : goal.returns-in-Board
returns-in-Board c =
    c.decode_board.ensures
    ∙ decoded_by c.args.part.now (Ok Board) (omega arith) (ap (λ (k : Kind). Ok k) (sym c.in-Board.is) ∙ c.in_ok-try_from.ensures {u = tt})

pub returns-in-Sem : goal.returns-in-Sem
returns-in-Sem c =
    c.decode_sem.ensures
    ∙ decoded_by c.args.part.now (Ok Sem) (omega arith) (ap (λ (k : Kind). Ok k) (sym c.in-Sem.is) ∙ c.in_ok-try_from.ensures {u = tt})

pub returns-in-Erased : goal.returns-in-Erased
returns-in-Erased c =
    c.decode_erased.ensures
    ∙ decoded_by c.args.part.now (Ok Erased) (omega arith) (ap (λ (k : Kind). Ok k) (sym c.in-Erased.is) ∙ c.in_ok-try_from.ensures {u = tt})

pub returns-in_err-try_from : goal.returns-in_err-try_from
returns-in_err-try_from c =
    let p = err_from_is_err_and c.from_residual.result c.from_residual.ensures.1 in
    rw (p.1, p.2) (decoded_by c.args.part.now (Err c.in_err-try_from.field-0.0) (omega arith) (c.in_err-try_from.ensures {u = tt}))
