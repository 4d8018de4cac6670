-- `records::decode_sem` meets its contract: the semaphore is the one in the bytes, refused or not by one test.
use native.Mathlib.Omega.{arith}
use Rattle.std.proofs.lemmas.Result.{err_from_is_err_and}
use lib.ListN.{get_or}
use Rattle.table.specs.WellFormed.{sem_in_range}
use Rattle.records.specs.declared.Record.TheVariants.{Sem}
use Rattle.records.specs.Records.{sem_in, sem_decoded}
use Rattle.records.proofs.RecordLaws.{says_refused, says_entry}
use Rattle.records.proofs.decode_sem.Goals as goal

pub returns : goal.returns
unfolding sem_decoded
returns c =
    let r = c.args.part.now in
    says_entry (get_or r 1 0) sem_in_range Sem c.sem_at-sem.result (sem_in r) c.sem_at-sem.ensures c.sem_in_range.result c.sem_in_range.ensures r 4 28 (omega arith) (c.in_ok-clean.ensures {u = tt})

pub returns-in_err-clean : goal.returns-in_err-clean
unfolding sem_decoded
returns-in_err-clean c =
    let r = c.args.part.now in
    let p = err_from_is_err_and c.from_residual.result c.from_residual.ensures.1 in
    rw (p.1, p.2) (says_refused (get_or r 1 0) sem_in_range Sem c.sem_at-sem.result (sem_in r) c.sem_at-sem.ensures c.sem_in_range.result c.sem_in_range.ensures r 4 28 (omega arith) c.in_err-clean.field-0.0 (c.in_err-clean.ensures {u = tt}))
