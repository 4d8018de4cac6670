-- A front decides on a record as the table so far does, and stays the front of that table.
-- Assumes nothing.
use Prim.Native.Nat.{ℕ, zero, suc}
use mathlib.Core.Path.{◌≡◌, refl, sym, ap, subst, ◌∙◌}
use mathlib.Core.Logic.{◌⊎◌, inl, inr}
use mathlib.Core.Bool.{Bool, true, false, not}
use mathlib.Core.List.{List, [], ◌∷◌, ◌++◌}
use native.Mathlib.Omega.{arith}
use lib.Dec.{eqb, ltb, eqb-suc-zero}
use lib.ListN.{length}
use borrow.Author.Tests.{lt-ltb}
use Rattle.table.specs.Refusals.{first_of, number_of}
use Rattle.table.specs.declared.refusals.Refusal.TheVariants.{UnknownKind, OutOfRange}
use Rattle.records.specs.Records.{decoded}
use Rattle.records.proofs.RecordLaws.{Plain, plain}
use Rattle.table.specs.WellFormed.{task_before, sem_before, used}
use Rattle.executive.specs.Tables.{Table, add_task, add_sem, add_board}
use Rattle.executive.proofs.TableLaws.{length_more}
use Rattle.table.specs.declared.refusals.Refusal.{Refusal}
use Rattle.records.specs.declared.Record.{Record}
use Rattle.std.specs.Prelude.{Some, Result, Ok, Err}
use Rattle.records.specs.declared.Record.TheVariants.{Erased, Task as TaskRecord, Board as BoardRecord, Sem as SemRecord}
use Rattle.image.specs.declared.load.Front.{Front}
use Rattle.image.specs.Loading.{used_after, refused_as, taken, erased_after, follows, order_broken, number_twice, too_many, refusal_of}
use Rattle.image.specs.Fronts.{last_of, front_of, front_after, goes_on, front_broken, front_twice, front_full, front_refusal, front_unfit}

-- there is an entry
some_more : (n : ℕ) → not (eqb n 0) ≡ ltb 0 n
some_more zero = refl
some_more (suc n) = ap not (eqb-suc-zero n) ∙ sym (lt-ltb 0 (suc n) (omega arith))

module _ {A : Type 0} where
  last_more : (l : List A) (x : A) → Some x ≡ last_of (l ++ x ∷ [])
  unfolding last_of
  last_more [] x = refl
  last_more (y ∷ []) x = refl
  last_more (y ∷ z ∷ rest) x = last_more (z ∷ rest) x

  -- the last entry alone says whether another may follow
  last_follows : (before : A → A → Bool) (l : List A) (x : A) → goes_on before (last_of l) x ≡ follows before l x
  unfolding last_of follows
  last_follows before [] x = refl
  last_follows before (y ∷ []) x = refl
  last_follows before (y ∷ z ∷ rest) x = last_follows before (z ∷ rest) x

-- the front behind a record is that of the table with what the record says
pub front_after_lem : (erased : Bool) (t : Table) (d : Result Record Refusal) → front_after (front_of erased t) d ≡ front_of (erased_after erased d) (taken t d)
unfolding erased_after taken add_task add_sem add_board
front_after_lem erased t (Ok Erased) = refl
front_after_lem erased t (Ok (TaskRecord x)) =
    λ i.
    record {
      task = last_more t.tasks x i;
      n = length_more t.tasks x i;
      m = length t.sems;
      sem = last_of t.sems;
      present = t.present;
      erased = erased;
    }
front_after_lem erased t (Ok (BoardRecord b)) = refl
front_after_lem erased t (Ok (SemRecord x)) =
    λ i.
    record {
      task = last_of t.tasks;
      n = length t.tasks;
      m = length_more t.sems x i;
      sem = last_more t.sems x i;
      present = t.present;
      erased = erased;
    }
front_after_lem erased t (Err why) = refl

-- each test on the front, with a look-up of the numbers so far, is the test on the table
broken_so : (erased : Bool) (t : Table) (d : Result Record Refusal) → front_broken (front_of erased t) d ≡ order_broken t d
unfolding order_broken
broken_so erased t (Ok Erased) = refl
broken_so erased t (Ok (TaskRecord x)) = simp (some_more (length t.sems), last_follows task_before t.tasks x)
broken_so erased t (Ok (BoardRecord b)) = simp (some_more (length t.tasks), some_more (length t.sems))
broken_so erased t (Ok (SemRecord x)) = simp (last_follows sem_before t.sems x)
broken_so erased t (Err why) = refl

twice_so : (used_before : ℕ → Bool) (t : Table) → ((number : ℕ) → used_before number ≡ used number t.tasks) → (d : Result Record Refusal) → front_twice used_before d ≡ number_twice t d
unfolding number_twice
twice_so used_before t same (Ok Erased) = refl
twice_so used_before t same (Ok (TaskRecord x)) = same x.number
twice_so used_before t same (Ok (BoardRecord b)) = refl
twice_so used_before t same (Ok (SemRecord x)) = refl
twice_so used_before t same (Err why) = refl

full_so : (erased : Bool) (t : Table) (d : Result Record Refusal) → front_full (front_of erased t) d ≡ too_many t d
unfolding too_many
full_so erased t (Ok Erased) = refl
full_so erased t (Ok (TaskRecord x)) = refl
full_so erased t (Ok (BoardRecord b)) = refl
full_so erased t (Ok (SemRecord x)) = refl
full_so erased t (Err why) = refl

pub front_decides : (erased : Bool) (t : Table) (used_before : ℕ → Bool) → ((number : ℕ) → used_before number ≡ used number t.tasks) → (d : Result Record Refusal)
    → front_refusal (front_of erased t) used_before d ≡ refusal_of erased t d
unfolding refusal_of
front_decides erased t used_before same d =
    simp (broken_so erased t d, twice_so used_before t same d, full_so erased t d)

-- a record that is judged: what its bytes say, and whether it is used and comes after an erased one
module _ (f : Front) (used_before : ℕ → Bool) (r : List ℕ) (d : Result Record Refusal) (says : d ≡ decoded r) (late : Bool) (asked : late ≡ used_after f.erased d) where
  abbrev judged : ℕ
  judged = front_refusal f used_before (decoded r)

  asked_so : {b : Bool} → late ≡ b → used_after f.erased (decoded r) ≡ b
  asked_so h = ap (used_after f.erased) (sym says) ∙ (sym asked ∙ h)

  pub judged_late : late ≡ true → 3 ≡ judged
  unfolding first_of
  judged_late h = sym (simp (asked_so h))

  -- what it is refused with itself is 2 or 4
  pub judged_refused : late ≡ false → (why : Refusal) → d ≡ Err why → number_of why ≡ judged
  unfolding first_of refused_as used_after
  judged_refused h why e =
      let e' : decoded r ≡ Err why = sym says ∙ e in
      go (subst Plain e' (plain r)) (ap (used_after f.erased) (sym e') ∙ asked_so h) ∙ ap (front_refusal f used_before) (sym e')
    where
      go : (why ≡ UnknownKind) ⊎ (why ≡ OutOfRange) → f.erased ≡ false → number_of why ≡ front_refusal f used_before (Err why)
      go (inl k) none = rw k (sym (simp none))
      go (inr k) none = rw k (sym (simp none))

  pub judged_fit : late ≡ false → (said : Record) → d ≡ Ok said → front_unfit f used_before said ≡ judged
  unfolding first_of refused_as
  judged_fit h said e =
      let e' : decoded r ≡ Ok said = sym says ∙ e in
      let before : used_after f.erased (Ok said) ≡ false = ap (used_after f.erased) (sym e') ∙ asked_so h in
      sym (simp before) ∙ ap (front_refusal f used_before) (sym e')
