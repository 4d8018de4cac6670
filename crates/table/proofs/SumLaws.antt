-- The laws of tests over a list.
-- Assumes nothing.
use Prim.Native.Nat.{ℕ, zero, suc, ◌<◌}
use mathlib.Core.Path.{◌≡◌, refl, sym, ap, ◌∙◌}
use mathlib.Core.Bool.{Bool, true, false, cond, ◌&&◌, ◌||◌}
use mathlib.Core.List.{List, [], ◌∷◌, ◌++◌, map}
use native.Mathlib.Nat.{le_of_suc-le-suc, not-suc-le-zero}
use native.Mathlib.Omega.{arith}
use lib.ListN.{length, get_or, set}
use Rattle.table.specs.Sums.{every, any}

-- both halves of a conjunction, and a conjunction of both
pub both_left : (a b : Bool) → (a && b) ≡ true → a ≡ true
both_left true b h = refl
both_left false b h = h

pub both_right : (a b : Bool) → (a && b) ≡ true → b ≡ true
both_right true b h = h
both_right false b h = let z : ◌≡◌ {A = ℕ} 0 1 = cc in absurd (omega arith)

pub both : (a b : Bool) → a ≡ true → b ≡ true → (a && b) ≡ true
both a b h k = rw h k

-- both halves of a disjunction that does not hold
pub neither : (a b : Bool) → (a || b) ≡ false → (a ≡ false) × (b ≡ false)
neither true b h = let z : ◌≡◌ {A = ℕ} 0 1 = cc in absurd (omega arith)
neither false b h = (refl, h)

-- a disjunction whose second half holds
pub either_right : (a b : Bool) → b ≡ true → (a || b) ≡ true
either_right true b h = refl
either_right false b h = h

-- what is so of both is so of either
pub either_way : {A : Type 0} (P : A → Type 0) (b : Bool) (x y : A) → P x → P y → P (cond b x y)
either_way P true x y p q = p
either_way P false x y p q = q

module _ {A : Type 0} where
  -- a test that every entry passes, at each place
  pub every_at : (test : A → Bool) (l : List A) → every test l ≡ true → (i : ℕ) → i < length l → (d : A) → test (get_or l i d) ≡ true
  every_at test [] h i k d = absurd (not-suc-le-zero k)
  every_at test (x ∷ xs) h zero k d = both_left (test x) (every test xs) h
  every_at test (x ∷ xs) h (suc i) k d = every_at test xs (both_right (test x) (every test xs) h) i (le_of_suc-le-suc k) d

  -- a weaker test holds of every entry too
  pub every_weaker : (p q : A → Bool) → ((x : A) → p x ≡ true → q x ≡ true) → (l : List A) → every p l ≡ true → every q l ≡ true
  every_weaker p q so [] h = refl
  every_weaker p q so (x ∷ xs) h =
      both (q x) (every q xs) (so x (both_left (p x) (every p xs) h)) (every_weaker p q so xs (both_right (p x) (every p xs) h))

  pub every_append : (test : A → Bool) (xs ys : List A) → every test (xs ++ ys) ≡ (every test xs && every test ys)
  every_append test [] ys = refl
  every_append test (x ∷ xs) ys = rw (every_append test xs ys) (sym (mathlib.Core.Bool.and_assoc (test x) (every test xs) (every test ys)))

  pub any_append : (test : A → Bool) (xs ys : List A) → any test (xs ++ ys) ≡ (any test xs || any test ys)
  any_append test [] ys = refl
  any_append test (x ∷ xs) ys = rw (any_append test xs ys) (sym (mathlib.Core.Bool.or_assoc (test x) (any test xs) (any test ys)))

  -- no entry passes a test that none of the list passes
  pub any_none : (test : A → Bool) (l : List A) → any test l ≡ false → (i : ℕ) → i < length l → (d : A) → test (get_or l i d) ≡ false
  any_none test [] h i k d = absurd (not-suc-le-zero k)
  any_none test (x ∷ xs) h zero k d = (neither (test x) (any test xs) h).0
  any_none test (x ∷ xs) h (suc i) k d = any_none test xs (neither (test x) (any test xs) h).1 i (le_of_suc-le-suc k) d

  -- one entry that passes is enough
  pub any_some : (test : A → Bool) (l : List A) (i : ℕ) (d : A) → i < length l → test (get_or l i d) ≡ true → any test l ≡ true
  any_some test [] i d h e = absurd (not-suc-le-zero h)
  any_some test (x ∷ xs) zero d h e = rw e
  any_some test (x ∷ xs) (suc i) d h e = rw (any_some test xs i d (le_of_suc-le-suc h) e) (mathlib.Core.Bool.or-true (test x))

  -- where no entry passes, none of the list does
  pub none_any : (test : A → Bool) (l : List A) (d : A) → ((i : ℕ) → i < length l → test (get_or l i d) ≡ false) → any test l ≡ false
  none_any test [] d h = refl
  none_any test (x ∷ xs) d h = rw (h 0 (omega arith)) (none_any test xs d (λ i k. h (suc i) (omega arith)))

-- an entry of a list of numbers that was worked out entry by entry
pub at_map : {A : Type 0} (f : A → ℕ) (l : List A) (j : ℕ) (d : A) → j < length l → get_or (map f l) j 0 ≡ f (get_or l j d)
at_map f [] j d h = absurd (not-suc-le-zero h)
at_map f (x ∷ xs) zero d h = refl
at_map f (x ∷ xs) (suc j) d h = at_map f xs j d (le_of_suc-le-suc h)

-- a test of what a function makes of the entries
pub any_map : {A B : Type 0} (f : A → B) (test : B → Bool) (l : List A) → any test (map f l) ≡ any (λ x. test (f x)) l
any_map f test [] = refl
any_map f test (x ∷ xs) = ap (λ (b : Bool). test (f x) || b) (any_map f test xs)

pub every_map : {A : Type 0} (f : A → A) (test : A → Bool) → ((x : A) → test (f x) ≡ test x) → (l : List A) → every test (map f l) ≡ every test l
every_map f test same [] = refl
every_map f test same (x ∷ xs) =
    ap (λ (b : Bool). b && every test (map f xs)) (same x) ∙ ap (λ (b : Bool). test x && b) (every_map f test same xs)

-- an entry that is replaced by one which the function takes alike
pub map_set : {A B : Type 0} (f : A → B) (l : List A) (i : ℕ) (y d : A) → f y ≡ f (get_or l i d) → map f (set l i y) ≡ map f l
map_set f [] i y d e = refl
map_set {B = B} f (x ∷ xs) zero y d e = ap (λ (z : B). z ∷ map f xs) e
map_set {B = B} f (x ∷ xs) (suc i) y d e = ap (λ (l : List B). f x ∷ l) (map_set f xs i y d e)
