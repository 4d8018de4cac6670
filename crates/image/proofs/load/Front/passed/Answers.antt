-- `Front::passed` meets its contract: 3, then what the record itself is refused with, then 5, 8 and 6.
use mathlib.Core.Path.{◌∙◌}
use lib.Dec.{eqb}
use Rattle.std.proofs.lemmas.Result.{err_from_is_err_and}
use Rattle.table.specs.Sums.{any}
use Rattle.image.proofs.FrontLaws.{judged_late, judged_refused, judged_fit}
use Rattle.image.proofs.load.Front.passed.Goals as goal

pub returns-then-used_after-clause-why : goal.returns-then-used_after-clause-why
returns-then-used_after-clause-why c =
    let a = c.args in
    judged_late a.self.now (λ number. any (λ x. eqb x number) a.given.now) a.bytes.now c.decode-decoded.result c.decode-decoded.ensures c.used_after.result
    c.used_after.ensures c.if-used_after.true

pub returns-in_err-said-clause-why : goal.returns-in_err-said-clause-why
returns-in_err-said-clause-why c =
    let a = c.args in
    let p = err_from_is_err_and c.from_residual.result c.from_residual.ensures.1 in
    rw (p.1, p.2)
    (judged_refused a.self.now (λ number. any (λ x. eqb x number) a.given.now) a.bytes.now c.decode-decoded.result c.decode-decoded.ensures c.used_after.result
    c.used_after.ensures c.if-used_after.false c.in_err-said.field-0.0 c.in_err-said.was)

pub returns-in_err-fits-clause-why : goal.returns-in_err-fits-clause-why
returns-in_err-fits-clause-why c =
    let a = c.args in
    let p = err_from_is_err_and c.from_residual-in_err-fits.result c.from_residual-in_err-fits.ensures.1 in
    rw (p.1, p.2)
    (c.in_err-fits.ensures ∙ judged_fit a.self.now (λ number. any (λ x. eqb x number) a.given.now) a.bytes.now c.decode-decoded.result c.decode-decoded.ensures c.used_after.result
    c.used_after.ensures c.if-used_after.false c.in_ok-said.said c.in_ok-said.was)

pub returns-clause-why : goal.returns-clause-why
returns-clause-why c =
    let a = c.args in
    c.in_ok-fits.ensures ∙ judged_fit a.self.now (λ number. any (λ x. eqb x number) a.given.now) a.bytes.now c.decode-decoded.result c.decode-decoded.ensures c.used_after.result
    c.used_after.ensures c.if-used_after.false c.in_ok-said.said c.in_ok-said.was
