-- `State::try_give` meets its contract: nobody runs, no semaphore has the number, the task does not hold it, or it is handed over or freed.
use Rattle.std.proofs.Common.{rules, ◌≡◌}
use Rattle.std.specs.Prelude.{Option, Some, None, Err}
use Prim.Native.Nat.{ℕ}
use mathlib.Core.Path.{sym, ap, ◌∙◌}
use mathlib.Core.Bool.{not}
use native.Mathlib.Omega.{arith}
use Rattle.table.specs.declared.Task.{Task}
use Rattle.table.specs.declared.Sem.{Sem}
use Rattle.table.specs.declared.Status.TheVariants.{Ready}
use Rattle.table.specs.declared.refusals.Refusal.TheVariants.{UnknownSem, NobodyRuns}
use Rattle.table.specs.Entries.{with_status, with_holder}
use Rattle.waits.specs.Standing.{holds_it}
use Rattle.executive.specs.declared.state.State.{State}
use Rattle.executive.specs.States.{sems_of}
use Rattle.executive.specs.Calls.{Step, give_of, give_at, hand_over, not_held, now_does, now_held, step_by, moved, with_task, with_sem, with_tasks, with_sems}
use Rattle.executive.proofs.SoundLaws.{task_at_lem}
use Rattle.executive.proofs.CallLaws.{ok_or_none, runs, stands}
use Rattle.executive.proofs.RunLaws.{sem_nobody, sem_unknown, sem_refused, sem_goes}
use Rattle.executive.proofs.state.State.try_give.Goals as goal

abbrev done : State → ℕ → ℕ → Step
done s i k = moved (give_at s k) 0

pub returns-in_err-i : goal.returns-in_err-i
unfolding give_of
returns-in_err-i c =
    let s = c.args.self.now in
    let e : c.from_residual.result ≡ Err NobodyRuns = search rules in
    let none = ok_or_none _ _ _ (sym c.runs.ensures.place ∙ c.in_err-i.was) in
    ap (step_by s) e ∙ sym (sem_nobody s c.args.number 29 (not_held (sems_of s)) (done s) none.0)

pub returns-in_err-k : goal.returns-in_err-k
unfolding give_of
returns-in_err-k c =
    let s = c.args.self.now in
    let r = runs s c.requires _ c.runs.ensures.place c.in_ok-i.i c.in_ok-i.was in
    let e : c.from_residual-in_err-k.result ≡ Err UnknownSem = search rules in
    let none = ok_or_none _ _ _ (sym c.sem.ensures.place ∙ c.in_err-k.was) in
    ap (step_by s) e ∙ sym (sem_unknown s c.args.number 29 (not_held (sems_of s)) (done s) c.in_ok-i.i r.is none.0)

pub returns-then-not-holds_it : goal.returns-then-not-holds_it
unfolding give_of not_held
returns-then-not-holds_it c =
    let s = c.args.self.now in
    let i = c.in_ok-i.i in
    let r = runs s c.requires _ c.runs.ensures.place i c.in_ok-i.was in
    let at = stands s c.requires.sized c.args.number _ c.sem.ensures.place c.in_ok-k.k c.in_ok-k.was in
    sym
    (sem_refused s c.args.number 29 (not_held (sems_of s)) (done s) _ _ r.is at.place
    (ap (λ (x : Sem). not (holds_it i x)) at.here ∙ ap not (sym c.holds_it.ensures ∙ c.if-not-holds_it.true)) (λ e. omega arith))

pub heir-requires : goal.heir-requires
heir-requires c = search rules

pub returns-in_default : goal.returns-in_default
unfolding give_of give_at hand_over now_held moved with_sems not_held
returns-in_default c =
    let s = c.args.self.now in
    let i = c.in_ok-i.i in
    let k = c.in_ok-k.k in
    let r = runs s c.requires _ c.runs.ensures.place i c.in_ok-i.was in
    let at = stands s c.requires.sized c.args.number _ c.sem.ensures.place k c.in_ok-k.was in
    ap (λ (x : Sem). moved (with_sem s k x) 0) (c.with_holder.ensures ∙ ap (λ (x : Sem). with_holder x None) (sym at.here))
    ∙ sym
    (sem_goes s c.args.number 29 (not_held (sems_of s)) (done s) _ _ r.is at.place
    (ap (λ (x : Sem). not (holds_it i x)) at.here ∙ ap not (sym c.holds_it.ensures ∙ c.if-not-holds_it.false))
    ∙ ap (λ (f : Option ℕ). moved (hand_over s k f) 0) (sym c.heir.ensures.place ∙ c.in_default.is))

pub returns : goal.returns
unfolding give_of give_at hand_over now_held now_does moved with_sems with_tasks sems_of not_held
returns c =
    let s = c.args.self.now in
    let i = c.in_ok-i.i in
    let k = c.in_ok-k.k in
    let w = c.in-Some.heir in
    let r = runs s c.requires _ c.runs.ensures.place i c.in_ok-i.was in
    let at = stands s c.requires.sized c.args.number _ c.sem.ensures.place k c.in_ok-k.was in
    let here = task_at_lem s w (search rules) in
    ap (λ (t : Task). moved (with_sem (with_task s w t) k c.with_holder-2.result) 0)
    (c.with_status.ensures ∙ ap (λ (t : Task). with_status t Ready) (sym here))
    ∙ ap (λ (x : Sem). moved (with_sem (now_does s w Ready) k x) 0)
    (c.with_holder-2.ensures ∙ ap (λ (x : Sem). with_holder x (Some w)) (sym at.here))
    ∙ sym
    (sem_goes s c.args.number 29 (not_held (sems_of s)) (done s) _ _ r.is at.place
    (ap (λ (x : Sem). not (holds_it i x)) at.here ∙ ap not (sym c.holds_it.ensures ∙ c.if-not-holds_it.false))
    ∙ ap (λ (f : Option ℕ). moved (hand_over s k f) 0) (sym c.heir.ensures.place ∙ c.in-Some.is))
