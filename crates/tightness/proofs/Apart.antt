-- What is told by its numbers is told apart by them: two answers of one number are one, and so are two readings, two steps and two standings.
-- Assumes nothing.
use Rattle.std.specs.Prelude.{Option, Some, None, Result, Ok, Err}
use mathlib.Core.Path.{◌≡◌, refl, sym, ap}
use native.Mathlib.Omega.{arith}
use borrow.Author.Tests.{eqb-false}
use Rattle.table.specs.declared.refusals.Refusal.{Refusal}
use Rattle.table.specs.Refusals.{number_of, told}
use Rattle.table.proofs.RefusalLaws.{number_apart, number_not_zero, number_not_waits, number_not_untold}
use Rattle.waits.specs.declared.standing.Rank.{Rank}
use Rattle.executive.specs.declared.state.State.{State}
use Rattle.executive.specs.declared.loaded.Refused.{Refused}
use Rattle.executive.specs.declared.loaded.Loaded.{Loaded}
use Rattle.executive.specs.declared.calls.Accepted.{Accepted}
use Rattle.executive.specs.declared.calls.Accepted.TheVariants as accepted
use Rattle.executive.specs.declared.calls.Moved.{Moved}
use Rattle.executive.specs.Reading.{Reading, reading_by, reading_of}
use Rattle.rack.specs.Boundary.{tried}
use Rattle.executive.specs.Calls.{Step, answer_by, step_of, moved, Stands, shown, stands_refused, stands_by}

not_done : (r : Refusal) → number_of r ≡ 0 → ⊥
not_done r = eqb-false (number_of r) 0 (number_not_zero r)

pub refusal_apart : (a b : Result Unit Refusal) → told a ≡ told b → a ≡ b
refusal_apart (Ok x) (Ok y) e = refl
refusal_apart (Ok x) (Err r) e = absurd (not_done r (sym e))
refusal_apart (Err r) (Ok x) e = absurd (not_done r e)
refusal_apart (Err r) (Err q) e = ap Err (number_apart r q e)

reading_by_apart : (s t : State) (a b : Result Unit (Refused Refusal)) → reading_by s a ≡ reading_by t b → (s ≡ t) × (a ≡ b)
reading_by_apart s t (Ok x) (Ok y) e = (ap (λ (r : Reading). r.state) e, refl)
reading_by_apart s t (Ok x) (Err r) e = absurd (not_done r.refusal (sym (ap (λ (r : Reading). r.number) e)))
reading_by_apart s t (Err r) (Ok x) e = absurd (not_done r.refusal (ap (λ (r : Reading). r.number) e))
reading_by_apart s t (Err r) (Err q) e =
    let same = number_apart r.refusal q.refusal (ap (λ (r : Reading). r.number) e) in
    let place = ap (λ (r : Reading). r.place) e in
    (ap (λ (r : Reading). r.state) e, λ i. Err (record { refusal = same i; place = place i }))

pub reading_apart : (l k : Loaded Refusal) → reading_of l ≡ reading_of k → l ≡ k
reading_apart l k e =
    let parts = reading_by_apart l.state k.state l.answer k.answer e in
    λ i. record { state = parts.0 i; answer = parts.1 i }

pub answer_apart : (a b : Result Accepted Refusal) → answer_by a ≡ answer_by b → a ≡ b
answer_apart (Ok accepted.Done) (Ok accepted.Done) e = refl
answer_apart (Ok accepted.Done) (Ok accepted.Waits) e = absurd (omega arith)
answer_apart (Ok accepted.Waits) (Ok accepted.Done) e = absurd (omega arith)
answer_apart (Ok accepted.Waits) (Ok accepted.Waits) e = refl
answer_apart (Ok accepted.Done) (Err r) e = absurd (not_done r (sym e))
answer_apart (Ok accepted.Waits) (Err r) e = absurd (eqb-false (number_of r) 90 (number_not_waits r) (sym e))
answer_apart (Err r) (Ok accepted.Done) e = absurd (not_done r e)
answer_apart (Err r) (Ok accepted.Waits) e = absurd (eqb-false (number_of r) 90 (number_not_waits r) e)
answer_apart (Err r) (Err q) e = ap Err (number_apart r q e)

pub step_apart : (m k : Moved) → step_of m ≡ step_of k → m ≡ k
unfolding moved
step_apart m k e =
    let states = ap (λ (s : Step). s.state) e in
    let answers = answer_apart m.answer k.answer (ap (λ (s : Step). s.answer) e) in
    λ i. record { state = states i; answer = answers i }

pub stands_apart : (a b : Result Rank Refusal) → stands_by a ≡ stands_by b → a ≡ b
unfolding shown stands_refused
stands_apart (Ok r) (Ok q) e =
    let queue = ap (λ (s : Stands). s.queue) e in
    let deadline = ap (λ (s : Stands). s.deadline) e in
    let position = ap (λ (s : Stands). s.position) e in
    λ i. Ok (record { deadline = deadline i; queue = queue i; position = position i })
stands_apart (Ok r) (Err q) e = absurd (not_done q (sym (ap (λ (s : Stands). s.number) e)))
stands_apart (Err r) (Ok q) e = absurd (not_done r (ap (λ (s : Stands). s.number) e))
stands_apart (Err r) (Err q) e = ap Err (number_apart r q (ap (λ (s : Stands). s.number) e))

-- where no call is made the answer is 255, which no call has
no_answer : (a : Result Accepted Refusal) → answer_by a ≡ 255 → ⊥
no_answer (Ok accepted.Done) e = absurd (omega arith)
no_answer (Ok accepted.Waits) e = absurd (omega arith)
no_answer (Err r) e = eqb-false (number_of r) 255 (number_not_untold r) e

pub tried_apart : (s : State) (a b : Option Moved) → tried s a ≡ tried s b → a ≡ b
unfolding moved
tried_apart s None None e = refl
tried_apart s None (Some m) e = absurd (no_answer m.answer (sym (ap (λ (x : Step). x.answer) e)))
tried_apart s (Some m) None e = absurd (no_answer m.answer (ap (λ (x : Step). x.answer) e))
tried_apart s (Some m) (Some k) e = ap Some (step_apart m k e)
