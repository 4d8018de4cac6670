-- The laws of writing a list.
-- Assumes nothing.
use Prim.Native.Nat.{ℕ, ◌*◌}
use mathlib.Core.Path.{◌≡◌, refl, sym, ap, ◌∙◌}
use mathlib.Core.Logic.{◌≢◌}
use mathlib.Core.Bool.{true, false, not}
use mathlib.Core.List.{List, [], ◌∷◌}
use native.Mathlib.Omega.{arith}
use lib.Dec.{eqb}
use lib.ListN.{length, replicate}
use borrow.Author.Tests.{eq-eqb, ne_eqb}
use Rattle.fields.specs.Fields.{bytes_of, put_at}
use Rattle.fields.specs.Parts.{flat}
use Rattle.table.specs.declared.Task.{Task}
use Rattle.table.specs.Sums.{any}
use Rattle.table.proofs.RefusalLaws.{answered_refused, answered_done, first_of_here, first_of_past, first_of_none}
use Rattle.table.proofs.SumLaws.{either_right}
use Rattle.executive.specs.declared.state.State.{State}
use Rattle.executive.specs.States.{tasks_of}
use Rattle.linux.specs.Writing.{encode_attr, outside_dp1, no_list, list_number, list_written}

-- 48 zeros, with the fields of a task put into them, are the task's record
pub attr_put : (t : Task)
    → put_at 8 (put_at 8 (put_at 8 (put_at 4 (put_at 4 (replicate 48 0) 0 48) 4 6) 24 (t.cost * 10)) 32 (t.period * 10)) 40 (t.period * 10) ≡ encode_attr t
unfolding put_at bytes_of encode_attr
attr_put t = refl

pub length_attr : (t : Task) → length (encode_attr t) ≡ 48
unfolding encode_attr bytes_of
length_attr t = refl

-- a write that is refused, with its number, leaves the list as it was
list_refused : (s : State) (list : List ℕ) (k : ℕ) → list_number s (length list) ≡ k → k ≢ 0 → (k ≡ list_number s (length list)) × (list ≡ list_written s list)
unfolding list_written
list_refused s list k e h = (sym e, sym (answered_refused (list_number s (length list)) (λ number. list) _ (λ z. h (sym e ∙ z))))

pub list_none : (s : State) (list : List ℕ) → s.n ≡ 0 → (7 ≡ list_number s (length list)) × (list ≡ list_written s list)
unfolding list_number
list_none s list h =
    list_refused s list 7 (first_of_here 7 (eqb s.n 0) ((43, no_list s (length list)) ∷ []) (eq-eqb s.n 0 h)) (λ e. omega arith)

pub list_unfit : (s : State) (list : List ℕ) → s.n ≢ 0 → no_list s (length list) ≡ true → (43 ≡ list_number s (length list)) × (list ≡ list_written s list)
unfolding list_number
list_unfit s list h k =
    list_refused s list 43
    (first_of_past 7 (eqb s.n 0) ((43, no_list s (length list)) ∷ []) (ne_eqb s.n 0 h) ∙ first_of_here 43 (no_list s (length list)) [] k)
    (λ e. omega arith)

pub list_done : (s : State) (list : List ℕ) → s.n ≢ 0 → no_list s (length list) ≡ false
    → (list_number s (length list) ≡ 0) × (list_written s list ≡ flat encode_attr (tasks_of s))
unfolding list_number list_written
list_done s list h k =
    let none : list_number s (length list) ≡ 0 =
    first_of_past 7 (eqb s.n 0) ((43, no_list s (length list)) ∷ []) (ne_eqb s.n 0 h) ∙ (first_of_past 43 (no_list s (length list)) [] k ∙ first_of_none) in
    (none, answered_done (list_number s (length list)) (λ number. list) (flat encode_attr (tasks_of s)) none)

-- the states that make no list of that length, and those that do
pub long_unfit : (s : State) (bytes : ℕ) → bytes ≢ 48 * length (tasks_of s) → no_list s bytes ≡ true
unfolding no_list
long_unfit s bytes h =
    either_right (any outside_dp1 (tasks_of s)) (not (eqb bytes (48 * length (tasks_of s)))) (ap not (ne_eqb bytes (48 * length (tasks_of s)) h))

pub queue_unfit : (s : State) (bytes : ℕ) → any outside_dp1 (tasks_of s) ≡ true → no_list s bytes ≡ true
unfolding no_list
queue_unfit s bytes h = rw h

pub fits_list : (s : State) (bytes : ℕ) → any outside_dp1 (tasks_of s) ≡ false → bytes ≡ 48 * length (tasks_of s) → no_list s bytes ≡ false
unfolding no_list
fits_list s bytes h k = rw (h, eq-eqb bytes (48 * length (tasks_of s)) k)
