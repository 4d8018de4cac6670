-- `State::try_acquire` meets its contract: nobody runs, no semaphore has the number, a ring would be closed, or the semaphore is taken or waited for.
use Rattle.std.proofs.Common.{rules, ◌≡◌}
use Rattle.std.specs.Prelude.{Some, Err}
use Rattle.std.specs.Option.{is_some}
use mathlib.Core.Path.{sym, ap, ◌∙◌}
use mathlib.Core.Bool.{true, false}
use native.Mathlib.Omega.{arith}
use Rattle.table.specs.declared.Task.{Task}
use Rattle.table.specs.declared.Sem.{Sem}
use Rattle.table.specs.declared.Status.TheVariants.{Waits}
use Rattle.table.specs.declared.refusals.Refusal.TheVariants.{UnknownSem, NobodyRuns}
use Rattle.table.specs.Entries.{with_status, with_holder}
use Rattle.waits.specs.Waits.{sem_at}
use Rattle.waits.specs.Standing.{closes_ring}
use Rattle.executive.specs.States.{tasks_of, sems_of}
use Rattle.executive.specs.Calls.{acquire_of, acquire_at, now_does, now_held, step_by, moved, with_task, with_sem, with_tasks, with_sems}
use Rattle.executive.proofs.CallLaws.{ok_or_none, runs, stands}
use Rattle.executive.proofs.RunLaws.{sem_nobody, sem_unknown, sem_refused, sem_goes, held_waits, free_taken}
use Rattle.executive.proofs.state.State.try_acquire.Goals as goal

pub returns-in_err-i : goal.returns-in_err-i
unfolding acquire_of
returns-in_err-i c =
    let s = c.args.self.now in
    let e : c.from_residual.result ≡ Err NobodyRuns = search rules in
    let none = ok_or_none _ _ _ (sym c.runs.ensures.place ∙ c.in_err-i.was) in
    ap (step_by s) e ∙ sym (sem_nobody s c.args.number 28 (closes_ring (tasks_of s) (sems_of s)) (acquire_at s) none.0)

pub returns-in_err-k : goal.returns-in_err-k
unfolding acquire_of
returns-in_err-k c =
    let s = c.args.self.now in
    let r = runs s c.requires _ c.runs.ensures.place c.in_ok-i.i c.in_ok-i.was in
    let e : c.from_residual-in_err-k.result ≡ Err UnknownSem = search rules in
    let none = ok_or_none _ _ _ (sym c.sem.ensures.place ∙ c.in_err-k.was) in
    ap (step_by s) e ∙ sym (sem_unknown s c.args.number 28 (closes_ring (tasks_of s) (sems_of s)) (acquire_at s) c.in_ok-i.i r.is none.0)

pub closes_ring-requires : goal.closes_ring-requires
closes_ring-requires c = (c.entries.ensures.used c.requires, search rules, search rules)

pub returns-then-closes_ring : goal.returns-then-closes_ring
unfolding acquire_of
returns-then-closes_ring c =
    let s = c.args.self.now in
    let r = runs s c.requires _ c.runs.ensures.place c.in_ok-i.i c.in_ok-i.was in
    let k = stands s c.requires.sized c.args.number _ c.sem.ensures.place c.in_ok-k.k c.in_ok-k.was in
    let ring : closes_ring (tasks_of s) (sems_of s) c.in_ok-i.i c.in_ok-k.k ≡ true = search rules in
    sym (sem_refused s c.args.number 28 (closes_ring (tasks_of s) (sems_of s)) (acquire_at s) _ _ r.is k.place ring (λ e. omega arith))

pub returns-then-is_some : goal.returns-then-is_some
unfolding acquire_of acquire_at now_does moved with_tasks
returns-then-is_some c =
    let s = c.args.self.now in
    let i = c.in_ok-i.i in
    let k = c.in_ok-k.k in
    let r = runs s c.requires _ c.runs.ensures.place i c.in_ok-i.was in
    let at = stands s c.requires.sized c.args.number _ c.sem.ensures.place k c.in_ok-k.was in
    let ring : closes_ring (tasks_of s) (sems_of s) i k ≡ false = search rules in
    ap (λ (t : Task). moved (with_task s i t) 90) (c.with_status.ensures ∙ ap (λ (t : Task). with_status t (Waits k)) (sym r.here))
    ∙ sym
    (sem_goes s c.args.number 28 (closes_ring (tasks_of s) (sems_of s)) (acquire_at s) _ _ r.is at.place ring
    ∙ held_waits s i k (sem_at (sems_of s) k).holder (ap (λ (x : Sem). is_some x.holder) at.here ∙ sym c.is_some.ensures ∙ c.if-is_some.true))

pub returns : goal.returns
unfolding acquire_of acquire_at now_held moved with_sems
returns c =
    let s = c.args.self.now in
    let i = c.in_ok-i.i in
    let k = c.in_ok-k.k in
    let r = runs s c.requires _ c.runs.ensures.place i c.in_ok-i.was in
    let at = stands s c.requires.sized c.args.number _ c.sem.ensures.place k c.in_ok-k.was in
    let ring : closes_ring (tasks_of s) (sems_of s) i k ≡ false = search rules in
    ap (λ (x : Sem). moved (with_sem s k x) 0) (c.with_holder.ensures ∙ ap (λ (x : Sem). with_holder x (Some i)) (sym at.here))
    ∙ sym
    (sem_goes s c.args.number 28 (closes_ring (tasks_of s) (sems_of s)) (acquire_at s) _ _ r.is at.place ring
    ∙ free_taken s i k (sem_at (sems_of s) k).holder (ap (λ (x : Sem). is_some x.holder) at.here ∙ sym c.is_some.ensures ∙ c.if-is_some.false))
