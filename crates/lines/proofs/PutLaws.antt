-- Putting one piece behind another is putting both; a number has as many digits as it has.
-- Assumes nothing.
use Prim.Native.Nat.{ℕ, zero, suc, ◌+◌, ◌*◌, ◌/◌, ◌%◌, ◌^◌, ◌≤◌, ◌<◌}
use mathlib.Core.Path.{◌≡◌, refl, sym, ap, ◌∙◌}
use mathlib.Core.Bool.{Bool, true, false}
use mathlib.Core.List.{List, [], ◌∷◌, ◌++◌, append_assoc, append-nil}
use native.Mathlib.Nat.{add-zero, add-suc, suc-add, mod-eq_of_lt}
use native.Mathlib.Numerals.{add-one}
use native.Mathlib.Omega.{arith}
use lib.Dec.{ltb}
use lib.ListN.{length, get_or, take, drop, set, length-append}
use lib.Pow.{pow-add}
use lib.Seq.{sets, sets-eq, drop-drop, take-suc, length-sets}
use borrow.Rule.Slice.PartMut.{put_mid}
use borrow.Author.Tests.{ltb-true, ltb-false, lt-ltb, le-ltb}
use Rattle.lines.specs.Lines.{digit, decimal_in, decimal, numbered, Put}

-- one run of stores behind another
pub sets_append : (l : List ℕ) (i : ℕ) (xs ys : List ℕ) → sets (sets l i xs) (i + length xs) ys ≡ sets l i (xs ++ ys)
sets_append l i [] ys = ap (λ (k : ℕ). sets l k ys) (add-zero i)
sets_append l i (x ∷ xs) ys =
    ap (λ (k : ℕ). sets (sets (set l i x) (suc i) xs) k ys) (add-suc i (length xs) ∙ sym (suc-add i (length xs)))
    ∙ sets_append (set l i x) (suc i) xs ys

-- bytes put one behind the other are put together
pub put_more : {a b c : List ℕ} {at next end : ℕ} (xs ys : List ℕ) → Put a at xs b next → Put b next ys c end → Put a at (xs ++ ys) c end
put_more {a} {b} {c} {at} {next} {end} xs ys p q =
    record {
      contents =
          q.contents
          ∙ (ap (λ (l : List ℕ). sets l next ys) p.contents
          ∙ (ap (λ (k : ℕ). sets (sets a at xs) k ys) p.ends ∙ sets_append a at xs ys));
      ends = let n = length-append xs ys in let e = p.ends in let f = q.ends in omega arith;
    }

-- nothing put
pub put_none : (l : List ℕ) (at : ℕ) → Put l at [] l at
put_none l at = record { contents = refl; ends = sym (add-zero at) }

-- one byte put
pub put_one : (l : List ℕ) (at b : ℕ) → Put l at (b ∷ []) (set l at b) (at + 1)
put_one l at b = record { contents = refl; ends = refl }

-- one case of the digits
few : (more n : ℕ) → n < 10 → decimal_in (suc more) n ≡ digit n ∷ []
unfolding decimal_in
few more n h = rw (lt-ltb n 10 h)

many : (more n : ℕ) → 10 ≤ n → decimal_in (suc more) n ≡ decimal_in more (n / 10) ++ (digit (n % 10) ∷ [])
unfolding decimal_in
many more n h = rw (le-ltb n 10 h)

-- a number of one place more, in places
pow_more : (k : ℕ) → 10 ^ suc k ≡ 10 ^ k * 10
pow_more k = ap (λ (n : ℕ). 10 ^ n) (sym (add-one k)) ∙ pow-add 10 k 1

-- as many digits as are needed make the same digits with one more allowed
more_digits : (more n : ℕ) → (b : Bool) → ltb n 10 ≡ b → (n / 10 < 10 ^ suc more → decimal_in (suc (suc more)) (n / 10) ≡ decimal_in (suc more) (n / 10))
    → n < 10 ^ suc (suc more) → decimal_in (suc (suc (suc more))) n ≡ decimal_in (suc (suc more)) n
more_digits more n true e rest h =
    let small : n < 10 = ltb-true n 10 e in
    few (suc (suc more)) n small ∙ sym (few (suc more) n small)
more_digits more n false e rest h =
    let large : 10 ≤ n = ltb-false n 10 e in
    let p = pow_more (suc more) in
    many (suc (suc more)) n large
    ∙ (ap (λ (l : List ℕ). l ++ (digit (n % 10) ∷ [])) (rest (omega arith)) ∙ sym (many (suc more) n large))

enough : (more n : ℕ) → n < 10 ^ suc more → decimal_in (suc (suc more)) n ≡ decimal_in (suc more) n
enough zero n h = few 1 n h ∙ sym (few 0 n h)
enough (suc more) n h = more_digits more n (ltb n 10) refl (enough more (n / 10)) h

-- a number below ten is its digit
pub decimal_few : (n : ℕ) → n < 10 → decimal n ≡ digit n ∷ []
unfolding decimal
decimal_few n h = few 19 n h

-- any other is the digits of a tenth of it, and the last
pub decimal_many : (n : ℕ) → 10 ≤ n → n < 2 ^ 64 → decimal n ≡ decimal (n / 10) ++ (digit (n % 10) ∷ [])
unfolding decimal
decimal_many n h k = many 19 n h ∙ ap (λ (l : List ℕ). l ++ (digit (n % 10) ∷ [])) (sym (enough 18 (n / 10) (omega arith)))

-- no more digits than are allowed
digits_short : (more n : ℕ) (b : Bool) → ltb n 10 ≡ b → length (decimal_in more (n / 10)) ≤ more → length (decimal_in (suc more) n) ≤ suc more
digits_short more n true e rest = rw (few more n (ltb-true n 10 e)) (omega arith)
digits_short more n false e rest =
    let l = length-append (decimal_in more (n / 10)) (digit (n % 10) ∷ []) in
    rw (many more n (ltb-false n 10 e)) (omega arith)

digits_at_most : (more n : ℕ) → length (decimal_in more n) ≤ more
unfolding decimal_in
digits_at_most zero n = omega arith
digits_at_most (suc more) n = digits_short more n (ltb n 10) refl (digits_at_most more (n / 10))

pub decimal_short : (n : ℕ) → length (decimal n) ≤ 20
unfolding decimal
decimal_short n = digits_at_most 20 n

-- room for one digit more behind a tenth of a number
pub decimal_room : (n : ℕ) → 10 ≤ n → n < 2 ^ 64 → length (decimal (n / 10)) ≤ 19
decimal_room n h k =
    let a = decimal_short n in
    let e = ap length (decimal_many n h k) in
    let l = length-append (decimal (n / 10)) (digit (n % 10) ∷ []) in
    omega arith

-- numbers behind blanks: no more bytes than 21 for each
pub numbered_short : (l : List ℕ) → length (numbered l) ≤ 21 * length l
unfolding numbered
numbered_short [] = omega arith
numbered_short (n ∷ rest) =
    let a = decimal_short n in
    let b = numbered_short rest in
    let l = length-append (32 ∷ decimal n) (numbered rest) in
    omega arith

-- one number more at the end
numbered_append : (xs : List ℕ) (n : ℕ) → numbered (xs ++ (n ∷ [])) ≡ numbered xs ++ (32 ∷ decimal n)
unfolding numbered
numbered_append [] n = append-nil (32 ∷ decimal n)
numbered_append (x ∷ xs) n =
    ap (λ (l : List ℕ). (32 ∷ decimal x) ++ l) (numbered_append xs n) ∙ sym (append_assoc (32 ∷ decimal x) (numbered xs) (32 ∷ decimal n))

-- the numbers up to one, and that one
pub numbered_more : (l : List ℕ) (i : ℕ) → i < length l → numbered (take (i + 1) l) ≡ numbered (take i l) ++ (32 ∷ decimal (get_or l i 0))
numbered_more l i h =
    ap (λ (n : ℕ). numbered (take n l)) (add-one i) ∙ (ap numbered (take-suc l i 0 h) ∙ numbered_append (take i l) (get_or l i 0))

-- a number below ten is put as its digit
pub put_few : {a b : List ℕ} {at end : ℕ} (n : ℕ) → n < 10 → Put a at (digit (n % 10) ∷ []) b end → Put a at (decimal n) b end
put_few n h p =
    let e : decimal n ≡ digit (n % 10) ∷ [] = decimal_few n h ∙ ap (λ (k : ℕ). digit k ∷ []) (sym (mod-eq_of_lt h)) in
    rw e p

-- any other number is put as a tenth of it, and its last digit
pub put_many : {a b c : List ℕ} {at next end : ℕ} (n : ℕ) → 10 ≤ n → n < 2 ^ 64 → Put a at (decimal (n / 10)) b next
    → Put b next (digit (n % 10) ∷ []) c end → Put a at (decimal n) c end
put_many n h k p q = rw (decimal_many n h k) (put_more (decimal (n / 10)) (digit (n % 10) ∷ []) p q)

-- putting keeps the buffer's length
pub put_length : {a b : List ℕ} {at end : ℕ} {bytes : List ℕ} → Put a at bytes b end → length b ≡ length a
put_length {a} {b} {at} {end} {bytes} p = ap length p.contents ∙ length-sets a at bytes

-- a word is put in one piece
pub put_whole : (l new : List ℕ) (at n : ℕ) (word : List ℕ) → new ≡ word → n ≡ length word → at + length word ≤ length l
    → Put l at word (put_mid at n l new) (at + length word)
put_whole l new at n word same e h =
    let stores : sets l at word ≡ take at l ++ (word ++ drop (at + length word) l) =
    sets-eq word l at h ∙ append_assoc (take at l) word (drop (at + length word) l) in
    record {
      contents =
          ap (λ (m : List ℕ). take at l ++ (new ++ m)) (drop-drop n at l ∙ ap (λ (k : ℕ). drop (at + k) l) e)
          ∙ (ap (λ (m : List ℕ). take at l ++ (m ++ drop (at + length word) l)) same ∙ sym stores);
      ends = refl;
    }

-- the next number is put behind a blank
pub put_number : (a b c : List ℕ) (at next end : ℕ) (l : List ℕ) (i : ℕ) → i < length l → Put a at (numbered (take i l)) b next
    → Put (set b next 32) (next + 1) (decimal (get_or l i 0)) c end → Put a at (numbered (take (i + 1) l)) c end
put_number a b c at next end l i h p q =
    rw (numbered_more l i h)
    (put_more (numbered (take i l)) (32 ∷ decimal (get_or l i 0)) p
    (put_more (32 ∷ []) (decimal (get_or l i 0)) (put_one b next 32) q))
