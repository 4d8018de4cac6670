-- The laws of a look-up: over the entry's type and the test, so that tasks and semaphores cite the same.
-- Assumes nothing.
use Rattle.std.specs.Prelude.{Option, Some, None, position}
use Rattle.std.specs.List.{position_or_len}
use Rattle.std.proofs.lemmas.List.Quantifiers.{position-Some}
use Rattle.std.proofs.lemmas.List.Sums.{fails_before_first}
use Rattle.std.proofs.lemmas.List.Folds.{position_or_len-set}
use Prim.Native.Nat.{ℕ, ◌<◌}
use mathlib.Core.Path.{◌≡◌, refl, ap, ◌∙◌}
use mathlib.Core.Bool.{Bool, true, false, cond}
use mathlib.Core.List.{List}
use native.Mathlib.Omega.{arith}
use lib.Dec.{ltb}
use lib.ListN.{length, get_or, set, length-set}
use borrow.Author.Tests.{ltb-false}

module _ {A : Type 0} (test : A → Bool) where
  -- a place that is answered has an entry, and the entry passes
  pub found : (l : List A) (i : ℕ) (d : A) → position test l ≡ Some i → (i < length l) × (test (get_or l i d) ≡ true)
  found l i d e = let s = position-Some test l i d e in (s.0, s.1)

  -- where nothing is answered, no entry passes
  pub missing : (l : List A) → position test l ≡ None → (i : ℕ) → i < length l → (d : A) → test (get_or l i d) ≡ false
  missing l e i h d = fails_before_first test l i d (behind (ltb (position_or_len test l) (length l)) refl e)
    where
      behind : (b : Bool) → ltb (position_or_len test l) (length l) ≡ b → cond b (Some (position_or_len test l)) None ≡ None
          → i < position_or_len test l
      behind true q e = let z : ◌≡◌ {A = ℕ} 0 1 = cc in absurd (omega arith)
      behind false q e = let f = ltb-false (position_or_len test l) (length l) q in omega arith

  -- an entry that alone passes is found
  pub found_only : (l : List A) (i : ℕ) (d : A) → i < length l → test (get_or l i d) ≡ true
      → ((j : ℕ) → j < length l → test (get_or l j d) ≡ true → j ≡ i) → position test l ≡ Some i
  found_only l i d h t only = go (position test l) refl
    where
      go : (r : Option ℕ) → position test l ≡ r → position test l ≡ Some i
      go (Some j) e = let f = found l j d e in e ∙ ap Some (only j f.0 f.1)
      go None e = let f : test (get_or l i d) ≡ false = missing l e i h d in let z : ◌≡◌ {A = ℕ} 0 1 = cc in absurd (omega arith)

  -- an entry that is replaced by one which the test takes alike is found alike
  pub search_set : (l : List A) (i : ℕ) (y d : A) → test y ≡ test (get_or l i d) → position test (set l i y) ≡ position test l
  search_set l i y d e = rw (position_or_len-set test l i y d e, length-set l i y)
