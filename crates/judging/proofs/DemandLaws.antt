-- The laws of demands: sums by position, counts that rise with t and stand still between multiples, and what a decision says.
-- Assumes nothing.
use Prim.Native.Nat.{ℕ, suc, ◌+◌, ◌*◌, ◌-◌, ◌/◌, ◌≤◌, ◌<◌}
use mathlib.Core.Path.{◌≡◌, refl, sym, ap, ◌∙◌}
use mathlib.Core.Logic.{◌⊎◌, inl, inr, if_pos, if_neg}
use mathlib.Core.Bool.{Bool, true, false, cond}
use native.Mathlib.Nat.{add-mul, mul-le-mul, mul-le-mul_left, div-eq_of_lt-le, div-lt_iff_lt-mul, div-mul-le_self, le-mul_of_pos_right, lt-div-mul-add, lt_of_mul-lt-mul_right, le_of_suc-le-suc, le_refl}
use native.Mathlib.Decide.{dec_le}
use native.Mathlib.Numerals.{add-one}
use native.Mathlib.Omega.{arith}
use mathlib.Core.List.{List, [], ◌∷◌}
use lib.Dec.{eqb, leb}
use lib.ListN.{length, get_or, take, length-take}
use lib.Seq.{get_or-take}
use borrow.Author.Tests.{leb-true, leb-false}
use Rattle.std.specs.Prelude.{Option, Some, None, sum_by}
use Rattle.std.specs.Int.{div_ceil}
use Rattle.std.proofs.lemmas.Grind.{div_ceil_times}
use Rattle.std.proofs.lemmas.List.Sums.{sum_by-cons}
use Rattle.judging.specs.declared.Row.{Row}
use Rattle.judging.specs.Rows.{blank_row, row_at}
use Rattle.judging.specs.Ranges.{InRange}
use Rattle.judging.specs.Demands.{ceil, star, counted, demand_dp2, demand_fp, TimeUpTo, time_up_to, decided}
use Rattle.judging.specs.Search.{counted_by, demand_by}

-- sums of what is alike entry by entry, and of what rises
module _ {A : Type 0} (d : A) (f g : A → ℕ) where
  pub sum_same : (l : List A) → ((i : ℕ) → i < length l → f (get_or l i d) ≡ g (get_or l i d)) → sum_by f l ≡ sum_by g l
  sum_same [] h = refl
  sum_same (x ∷ xs) h =
      let a : f x ≡ g x = h 0 (omega arith) in
      omega (arith, sum_by-cons f x xs, sum_by-cons g x xs, sum_same xs (λ i l. h (suc i) (omega arith)))

  pub sum_mono : (l : List A) → ((i : ℕ) → i < length l → f (get_or l i d) ≤ g (get_or l i d)) → sum_by f l ≤ sum_by g l
  sum_mono [] h = omega arith
  sum_mono (x ∷ xs) h =
      let a : f x ≤ g x = h 0 (omega arith) in
      omega (arith, sum_by-cons f x xs, sum_by-cons g x xs, sum_mono xs (λ i l. h (suc i) (omega arith)))

-- a time is rounded up by less than a period
pub ceil_least : (t p : ℕ) → 0 < p → t ≤ ceil t p * p
unfolding ceil
ceil_least t p h = omega (arith, lt-div-mul-add {a = t + (p - 1)} h)

pub ceil_most : (t p : ℕ) → ceil t p * p ≤ t + (p - 1)
unfolding ceil
ceil_most t p = div-mul-le_self (t + (p - 1)) p

-- which is what the library rounds to
pub ceil_is : (t p : ℕ) → 0 < p → div_ceil t p ≡ ceil t p
unfolding ceil
ceil_is t p h =
    let b = div_ceil_times t p h in
    sym (div-eq_of_lt-le p (omega (arith, b.0, b.1)) (omega (arith, b.0, b.1, add-mul (div_ceil t p) 1 p)))

-- counts rise with t
pub ceil_mono : (s t p : ℕ) → 0 < p → s ≤ t → ceil s p ≤ ceil t p
ceil_mono s t p h l = rise (dec_le (ceil s p) (ceil t p))
  where
    rise : Dec (ceil s p ≤ ceil t p) → ceil s p ≤ ceil t p
    rise (yes k) = k
    rise (no n) =
        let more : ceil t p + 1 ≤ ceil s p = omega arith in
        let a : (ceil t p + 1) * p ≤ ceil s p * p = mul-le-mul more (le_refl p) in
        absurd (omega (arith, ceil_least t p h, ceil_most s p, add-mul (ceil t p) 1 p))

pub ceil_small : (t p : ℕ) → 0 < p → ceil t p ≤ t
unfolding ceil
ceil_small t p h =
    let a : t ≤ t * p = le-mul_of_pos_right t h in
    let b : (t + (p - 1)) / p < t + 1 = (div-lt_iff_lt-mul {k = p} {x = t + (p - 1)} {y = t + 1} h).1 (omega (arith, add-mul t 1 p)) in
    omega arith

-- a star count is a count or one less, so it rises with the count
star_up : (c d p own : ℕ) → c ≤ d → (a b : Bool) → leb (c * p) own ≡ a → leb (d * p) own ≡ b → cond a c (c - 1) ≤ cond b d (d - 1)
star_up c d p own up true true e k = up
star_up c d p own up true false e k =
    let x : c * p ≤ own = leb-true (c * p) own e in
    let y : own < d * p = leb-false (d * p) own k in
    let z : c < d = lt_of_mul-lt-mul_right p {m = c} {n = d} (omega arith) in
    omega arith
star_up c d p own up false true e k = omega arith
star_up c d p own up false false e k = omega arith

pub star_mono : (s t p own : ℕ) → 0 < p → s ≤ t → star s p own ≤ star t p own
star_mono s t p own h l =
    star_up (ceil s p) (ceil t p) p own (ceil_mono s t p h l) (leb (ceil s p * p) own) (leb (ceil t p * p) own) refl refl

pub counted_mono : (queue s t p own : ℕ) → 0 < p → s ≤ t → counted queue s p own ≤ counted queue t p own
counted_mono queue s t p own h l = go (eqb queue 1) (eqb queue 2)
  where
    go : (a b : Bool) → cond a (ceil s p) (cond b (star s p own) 0) ≤ cond a (ceil t p) (cond b (star t p own) 0)
    go true b = ceil_mono s t p h l
    go false true = star_mono s t p own h l
    go false false = omega arith

-- both demands rise with t
pub demand_dp2_mono : (c : List Row) (own s t : ℕ) → ((j : ℕ) → j < length c → 0 < (row_at c j).period) → s ≤ t
    → demand_dp2 c own s ≤ demand_dp2 c own t
unfolding demand_dp2
demand_dp2_mono c own s t pos l =
    sum_mono blank_row (λ r. r.load * counted r.queue s r.period own) (λ r. r.load * counted r.queue t r.period own) c
    (λ j k. mul-le-mul_left (row_at c j).load (counted_mono (row_at c j).queue s t (row_at c j).period own (pos j k) l))

pub demand_fp_mono : (c : List Row) (i s t : ℕ) → ((j : ℕ) → j ≤ i → 0 < (row_at c j).period) → s ≤ t
    → demand_fp c i s ≤ demand_fp c i t
unfolding demand_fp
demand_fp_mono c i s t pos l =
    sum_mono blank_row (λ r. r.load * ceil s r.period) (λ r. r.load * ceil t r.period) (take (suc i) c)
    (λ j k.
    let below : j < suc i = omega (arith, length-take (suc i) c) in
    rw (get_or-take (suc i) c j blank_row below)
    (mul-le-mul_left (row_at c j).load (ceil_mono s t (row_at c j).period (pos j (le_of_suc-le-suc below)) l)))

-- from a time to the next multiple of the period a count stands still
ceil_next : (t s p : ℕ) → 0 < p → t < s → s ≤ (t / p + 1) * p → ceil s p ≡ t / p + 1
unfolding ceil
ceil_next t s p h l m =
    let a : t / p * p ≤ t = div-mul-le_self t p in
    div-eq_of_lt-le p (omega (arith, add-mul (t / p) 1 p)) (omega (arith, add-mul (t / p) 1 p, add-mul (t / p + 1) 1 p))

pub ceil_still : (t s r p : ℕ) → 0 < p → t < s → s ≤ r → r ≤ (t / p + 1) * p → ceil s p ≡ ceil r p
ceil_still t s r p h l k m = ceil_next t s p h l (omega arith) ∙ sym (ceil_next t r p h (omega arith) m)

counted_still : (queue t s r p own : ℕ) → 0 < p → t < s → s ≤ r → r ≤ (t / p + 1) * p → counted queue s p own ≡ counted queue r p own
counted_still queue t s r p own h l k m = rw (ceil_still t s r p h l k m)

counted_by_still : (own : Option ℕ) (row : Row) (t s r : ℕ) → 0 < row.period → t < s → s ≤ r → r ≤ (t / row.period + 1) * row.period
    → counted_by own row s ≡ counted_by own row r
counted_by_still (Some own) row t s r h l k m = counted_still row.queue t s r row.period own h l k m
counted_by_still None row t s r h l k m = ceil_still t s r row.period h l k m

pub demand_still : (c : List Row) (own : Option ℕ) (t s r : ℕ) → ((j : ℕ) → j < length c → 0 < (row_at c j).period)
    → ((j : ℕ) → j < length c → r ≤ (t / (row_at c j).period + 1) * (row_at c j).period) → t < s → s ≤ r
    → demand_by own c s ≡ demand_by own c r
demand_still c own t s r pos near l k =
    sum_same blank_row (λ row. row.load * counted_by own row s) (λ row. row.load * counted_by own row r) c
    (λ j h. ap (λ (n : ℕ). (row_at c j).load * n) (counted_by_still own (row_at c j) t s r (pos j h) l k (near j h)))

-- what a decision says
pub decided_yes : {P : Type 0} (d : Dec P) → P → decided d ≡ true
unfolding decided
decided_yes d p = if_pos d p true false

pub decided_no : {P : Type 0} (d : Dec P) → (P → ⊥) → decided d ≡ false
unfolding decided
decided_no d n = if_neg d n true false

pub yes_decided : {P : Type 0} (d : Dec P) → decided d ≡ true → P
unfolding decided
yes_decided (yes p) e = p
yes_decided (no n) e = let z : ◌≡◌ {A = ℕ} 0 1 = cc in absurd (omega arith)

-- a search that has found nothing up to the limit decides
pub decided_none : (demand : ℕ → ℕ) (limit : ℕ) → ((s : ℕ) → 1 ≤ s → s ≤ limit → s < demand s) → decided (time_up_to demand limit) ≡ false
decided_none demand limit h =
    decided_no (time_up_to demand limit)
    (λ (w : TimeUpTo demand limit).
    omega (arith, h w.t w.least w.most, w.enough))

pub decided_some : (demand : ℕ → ℕ) (limit t : ℕ) → 1 ≤ t → t ≤ limit → demand t ≤ t → decided (time_up_to demand limit) ≡ true
decided_some demand limit t h k e = decided_yes (time_up_to demand limit) (record { t = t; least = h; most = k; enough = e })

-- of two numbers, one is at most the other or above it
pub le_or_lt : (m n : ℕ) → (m ≤ n) ⊎ (n < m)
le_or_lt m n = go (dec_le m n)
  where
    go : Dec (m ≤ n) → (m ≤ n) ⊎ (n < m)
    go (yes h) = inl h
    go (no h) = inr (omega arith)

-- the rows up to i ask for what 14 says
module _ (c : List Row) (i : ℕ) where
  pub demand_up_to : (t : ℕ) → demand_by None (take (i + 1) c) t ≡ demand_fp c i t
  unfolding demand_fp
  demand_up_to t = ap (λ (k : ℕ). demand_by None (take k c) t) (add-one i)

  pub range_up_to : InRange c → i < length c → InRange (take (i + 1) c)
  range_up_to r l =
      record {
        fit = omega (arith, length-take (i + 1) c, r.fit);
        each =
            λ j h.
            let below : j < i + 1 = omega (arith, length-take (i + 1) c) in
            rw (get_or-take (i + 1) c j blank_row below) (r.each j (omega arith));
      }
