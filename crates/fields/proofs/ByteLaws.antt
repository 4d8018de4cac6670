-- Numbers of any width in bytes: reading what was put gives the value, putting changes no other byte, and a value that was read, put back,
-- gives the same bytes. Each is one law over the width; a width of w bytes holds the numbers below 2 ^ (8 * w).
-- Assumes nothing.
use Prim.Native.Nat.{ℕ, zero, suc, ◌+◌, ◌*◌, ◌/◌, ◌%◌, ◌^◌, ◌≤◌, ◌<◌}
use mathlib.Core.Path.{◌≡◌, refl, sym, ap, ◌∙◌, subst}
use mathlib.Core.Bool.{Bool, true, false, ◌&&◌}
use mathlib.Core.List.{List, [], ◌∷◌, ◌++◌}
use native.Mathlib.Nat.{add_comm, add-zero, zero-add, add_assoc, mul_assoc, add-mul, mul-one, zero-mul, mod-add-div', mul-suc, div-one, pow-suc, div-div-eq-div-mul}
use native.Mathlib.Numerals.{add-one}
use native.Mathlib.Omega.{arith}
use lib.Arith.{digits_div, digits_mod}
use lib.Dec.{eqb}
use borrow.Author.Tests.{ne_eqb, eqb-true}
use lib.Pow.{pow-add, shr_lt}
use lib.ListN.{length, get_or, take, drop, replicate, length-drop, take-append-drop, get_or-append}
use lib.Seq.{length-take-le, take-add, drop-drop, take_all, take_at, drop_at, drop-cons, get_or-take, get_or-drop}
use Rattle.std.specs.Int.{sum_through, byte_worth, bytes_low_first}
use Rattle.fields.specs.Fields.{value_of, bytes_of, read_at, put_at, all_are}

-- 2 ^ (8 * w) at one byte more
pow_more : (w : ℕ) → 2 ^ (8 * suc w) ≡ 2 ^ (8 * w + 8)
pow_more w = ap (λ (k : ℕ). 2 ^ k) (mul-suc 8 w)

pub length_bytes_of : (w x : ℕ) → length (bytes_of w x) ≡ w
unfolding bytes_of
length_bytes_of zero x = refl
length_bytes_of (suc w) x = ap suc (length_bytes_of w (x / 256))

-- the number of two lists, one behind the other
pub value_of_append : (xs ys : List ℕ) → value_of (xs ++ ys) ≡ value_of xs + value_of ys * 2 ^ (8 * length xs)
unfolding value_of
value_of_append [] ys = sym (zero-add _ ∙ mul-one (value_of ys))
value_of_append (x ∷ xs) ys =
    let v = value_of ys in
    let p = 2 ^ (8 * length xs) in
    let e : 2 ^ (8 * suc (length xs)) ≡ p * 256 = pow_more (length xs) ∙ pow-add 2 (8 * length xs) 8 in
    ap (λ (n : ℕ). x + n * 256) (value_of_append xs ys)
    ∙ ap (λ (n : ℕ). x + n) (add-mul (value_of xs) (v * p) 256 ∙ ap (λ (n : ℕ). value_of xs * 256 + n) (mul_assoc v p 256 ∙ ap (λ (n : ℕ). v * n) (sym e)))
    ∙ sym (add_assoc x (value_of xs * 256) (v * 2 ^ (8 * suc (length xs))))

-- the value of the bytes of a number that fits is that number
pub value_of_bytes_of : (w x : ℕ) → x < 2 ^ (8 * w) → value_of (bytes_of w x) ≡ x
unfolding value_of bytes_of
value_of_bytes_of zero x h = let z : x < 1 = h in omega arith
value_of_bytes_of (suc w) x h =
    let fits : x / 256 < 2 ^ (8 * w) = shr_lt (8 * w) 8 (subst (λ (n : ℕ). x < n) (pow_more w) h) in
    ap (λ (n : ℕ). x % 256 + n * 256) (value_of_bytes_of w (x / 256) fits) ∙ mod-add-div' x 256

-- the bytes of the value of a list of bytes are that list
pub bytes_of_value_of : (l : List ℕ) → ((i : ℕ) → i < length l → get_or l i 0 < 256) → bytes_of (length l) (value_of l) ≡ l
unfolding value_of bytes_of
bytes_of_value_of [] h = refl
bytes_of_value_of (b ∷ bs) h =
    let small : b < 256 = h 0 (omega arith) in
    let swap : b + value_of bs * 256 ≡ value_of bs * 256 + b = add_comm b (value_of bs * 256) in
    let m : (b + value_of bs * 256) % 256 ≡ b = ap (λ (n : ℕ). n % 256) swap ∙ digits_mod (value_of bs) small in
    let d : (b + value_of bs * 256) / 256 ≡ value_of bs = ap (λ (n : ℕ). n / 256) swap ∙ digits_div (value_of bs) small in
    ap (λ (n : ℕ). n ∷ bytes_of (length bs) ((b + value_of bs * 256) / 256)) m
    ∙ ap (λ (n : ℕ). b ∷ bytes_of (length bs) n) d
    ∙ ap (λ (l : List ℕ). b ∷ l) (bytes_of_value_of bs (λ i k. h (suc i) (omega arith)))

-- a number of one byte is that byte
pub read_at_one : (l : List ℕ) (at : ℕ) → at < length l → read_at 1 l at ≡ get_or l at 0
unfolding read_at value_of
read_at_one l at h = ap (λ (m : List ℕ). value_of (take 1 m)) (drop-cons l at 0 h) ∙ (ap (λ (n : ℕ). get_or l at 0 + n) (zero-mul 256) ∙ add-zero (get_or l at 0))

-- a wider number is two narrower ones
pub read_at_wider : (w v : ℕ) (l : List ℕ) (at : ℕ) → at + w ≤ length l → read_at (w + v) l at ≡ read_at w l at + read_at v l (at + w) * 2 ^ (8 * w)
unfolding read_at
read_at_wider w v l at h =
    let low : length (take w (drop at l)) ≡ w = length-take-le w (drop at l) (rw (length-drop at l) (omega arith)) in
    ap value_of (take-add w v (drop at l))
    ∙ value_of_append (take w (drop at l)) (take v (drop w (drop at l)))
    ∙ ap (λ (k : ℕ). value_of (take w (drop at l)) + value_of (take v (drop w (drop at l))) * 2 ^ (8 * k)) low
    ∙ ap (λ (m : List ℕ). value_of (take w (drop at l)) + value_of (take v m) * 2 ^ (8 * w)) (drop-drop w at l)

-- a value that was read, as bytes before what stands behind them, is what stood there
pub read_back : (l : List ℕ) (at w : ℕ) → at + w ≤ length l → ((i : ℕ) → i < length l → get_or l i 0 < 256) → bytes_of w (read_at w l at) ++ drop (at + w) l ≡ drop at l
unfolding read_at
read_back l at w h bytes =
    let part = take w (drop at l) in
    let n : length part ≡ w = length-take-le w (drop at l) (rw (length-drop at l) (omega arith)) in
    let same : bytes_of w (value_of part) ≡ part =
    ap (λ (k : ℕ). bytes_of k (value_of part)) (sym n)
    ∙ bytes_of_value_of part
    (λ i k. let inside : i < w = omega arith in rw (get_or-take w (drop at l) i 0 inside, get_or-drop at l i 0) (bytes (at + i) (omega arith))) in
    ap (λ (m : List ℕ). m ++ drop (at + w) l) same
    ∙ (ap (λ (m : List ℕ). part ++ m) (sym (drop-drop w at l)) ∙ take-append-drop w (drop at l))

module _ (l : List ℕ) (at : ℕ) where
  -- what stands before, of a place inside
  front : at ≤ length l → length (take at l) ≡ at
  front h = length-take-le at l h

  -- reading what was put gives the value
  pub read_put : (w x : ℕ) → at + w ≤ length l → x < 2 ^ (8 * w) → read_at w (put_at w l at x) at ≡ x
  unfolding read_at put_at
  read_put w x h small =
      ap (λ (m : List ℕ). value_of (take w m)) (drop_at (take at l) (bytes_of w x ++ drop (at + w) l) at (front (omega arith)))
      ∙ (ap value_of (take_at (bytes_of w x) (drop (at + w) l) w (length_bytes_of w x)) ∙ value_of_bytes_of w x small)

  -- putting changes no byte before the place, and none behind the number
  pub put_at_before : (w x i : ℕ) → at + w ≤ length l → i < at → get_or (put_at w l at x) i 0 ≡ get_or l i 0
  unfolding put_at
  put_at_before w x i h k =
      get_or-append (take at l) (bytes_of w x ++ drop (at + w) l) 0 i (rw (front (omega arith)) k) ∙ get_or-take at l i 0 k

  pub put_at_behind : (w x : ℕ) → at + w ≤ length l → drop (at + w) (put_at w l at x) ≡ drop (at + w) l
  unfolding put_at
  put_at_behind w x h =
      sym (drop-drop w at (take at l ++ (bytes_of w x ++ drop (at + w) l)))
      ∙ (ap (drop w) (drop_at (take at l) (bytes_of w x ++ drop (at + w) l) at (front (omega arith)))
      ∙ drop_at (bytes_of w x) (drop (at + w) l) w (length_bytes_of w x))

  -- a value that was read, put back, gives the same bytes
  pub put_read : (w : ℕ) → at + w ≤ length l → ((i : ℕ) → i < length l → get_or l i 0 < 256) → put_at w l at (read_at w l at) ≡ l
  unfolding put_at
  put_read w h bytes = ap (λ (m : List ℕ). take at l ++ m) (read_back l at w h bytes) ∙ take-append-drop at l

-- a byte more counts 256 times as much
worth : (k : ℕ) → 256 ^ k ≡ 2 ^ (8 * k)
worth zero = refl
worth (suc k) = pow-suc 256 k ∙ (ap (λ (n : ℕ). n * 256) (worth k) ∙ sym (pow_more k ∙ pow-add 2 (8 * k) 8))

-- the bytes that std gives a number are those
bytes_at : (i w n : ℕ) → bytes_low_first i w n ≡ bytes_of w (n / 256 ^ i)
unfolding bytes_of
bytes_at i zero n = refl
bytes_at zero (suc w) n = ap (λ (l : List ℕ). n % 256 ∷ l) (bytes_at 1 w n) ∙ ap (λ (k : ℕ). k % 256 ∷ bytes_of w (k / 256)) (sym (div-one n))
bytes_at (suc i) (suc w) n =
    ap (λ (l : List ℕ). n / 256 ^ suc i % 256 ∷ l) (bytes_at (suc (suc i)) w n)
    ∙ ap (λ (k : ℕ). n / 256 ^ suc i % 256 ∷ bytes_of w k)
    (ap (λ (k : ℕ). n / k) (pow-suc 256 (suc i)) ∙ sym (div-div-eq-div-mul n (256 ^ suc i) 256))

pub std_bytes : (w n : ℕ) → bytes_low_first 0 w n ≡ bytes_of w n
std_bytes w n = bytes_at 0 w n ∙ ap (bytes_of w) (div-one n)

-- the number that std reads from bytes is theirs
value_at : (k : ℕ) (l : List ℕ) → k < length l → sum_through (λ i. byte_worth i (get_or l i 0)) k ≡ read_at (suc k) l 0
value_at zero l h = sym (read_at_one l 0 h)
value_at (suc k) l h =
    let more =
    ap (λ (n : ℕ). read_at (suc k) l 0 + read_at 1 l n * 2 ^ (8 * suc k)) (sym (zero-add (suc k)))
    ∙ (sym (read_at_wider (suc k) 1 l 0 (omega arith)) ∙ ap (λ (n : ℕ). read_at n l 0) (add-one (suc k))) in
    ap (λ (n : ℕ). n + get_or l (suc k) 0 * 256 ^ suc k) (value_at k l (omega arith))
    ∙ (ap (λ (n : ℕ). read_at (suc k) l 0 + n) (ap (λ (n : ℕ). get_or l (suc k) 0 * n) (worth (suc k)) ∙ ap (λ (n : ℕ). n * 2 ^ (8 * suc k)) (sym (read_at_one l (suc k) h)))
    ∙ more)

pub std_value : (k : ℕ) (l : List ℕ) → length l ≡ suc k → sum_through (λ i. byte_worth i (get_or l i 0)) k ≡ value_of l
unfolding read_at
std_value k l h = value_at k l (omega arith) ∙ ap value_of (take_all (suc k) l (omega arith))

-- a byte that is not b fails the test of what stands from it on
pub all_stop : (b : ℕ) (l : List ℕ) (i : ℕ) → i < length l → (get_or l i 0 ≡ b → ⊥) → all_are b (drop i l) ≡ false
unfolding all_are
all_stop b l i h e = ap (all_are b) (drop-cons l i 0 h) ∙ ap (λ (t : Bool). t && all_are b (drop (suc i) l)) (ne_eqb (get_or l i 0) b e)

-- a part whose every byte is b is b, so many times
same_more : (b x : ℕ) (xs : List ℕ) (t : Bool) → eqb x b ≡ t → (t && all_are b xs) ≡ true → (all_are b xs ≡ true → xs ≡ replicate (length xs) b)
    → x ∷ xs ≡ b ∷ replicate (length xs) b
same_more b x xs true e k rest = ap (λ (n : ℕ). n ∷ xs) (eqb-true x b e) ∙ ap (λ (m : List ℕ). b ∷ m) (rest k)
same_more b x xs false e k rest = let z : ◌≡◌ {A = ℕ} 0 1 = cc in absurd (omega arith)

pub all_replicate : (b : ℕ) (l : List ℕ) → all_are b l ≡ true → l ≡ replicate (length l) b
unfolding all_are
all_replicate b [] h = refl
all_replicate b (x ∷ xs) h = same_more b x xs (eqb x b) refl h (all_replicate b xs)

-- bytes that are all zero are the number 0
value_none : (n : ℕ) → value_of (replicate n 0) ≡ 0
unfolding value_of
value_none zero = refl
value_none (suc n) = omega (arith, value_none n)

pub value_zeros : (l : List ℕ) → all_are 0 l ≡ true → value_of l ≡ 0
value_zeros l h = ap value_of (all_replicate 0 l h) ∙ value_none (length l)
