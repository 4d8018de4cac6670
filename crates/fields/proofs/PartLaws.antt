-- The laws of records one behind the other, over their width and the type of their entries.
-- Assumes nothing.
use Prim.Native.Nat.{ℕ, zero, suc, ◌+◌, ◌-◌, ◌*◌, ◌≤◌, ◌<◌}
use mathlib.Core.Path.{◌≡◌, refl, sym, ap, subst, ◌∙◌}
use mathlib.Core.List.{List, [], ◌∷◌, ◌++◌, map, append_assoc, append-nil}
use native.Mathlib.Nat.{zero-add, suc-add, zero-mul, one-mul, mul-zero, mul-suc, mul_comm, add-mul, add_comm, mul-le-mul_left, le-add_right, le_of_suc-le-suc, not-suc-le-zero}
use native.Mathlib.Numerals.{add-one}
use native.Mathlib.Omega.{arith}
use lib.ListN.{length, get_or, take, drop, length-append, length-drop, drop_of_length-le}
use lib.Seq.{drop-drop, take_all, take_at, drop_at, take-suc, length-take-le, get_or-take, get_or-drop}
use borrow.Rule.Slice.PartMut.{put_mid}
use Rattle.std.specs.Simd.{first_chunks}
use Rattle.fields.specs.Fields.{Bytes}
use Rattle.fields.specs.Parts.{parts_of, flat}

-- a list of length 0 has no element
pub nothing : {A : Type 0} (l : List A) → length l ≡ 0 → l ≡ []
nothing [] h = refl
nothing (x ∷ xs) h = absurd (omega arith)

pub length_parts : (width count : ℕ) (l : List ℕ) → length (parts_of width count l) ≡ count
unfolding parts_of
length_parts width zero l = refl
length_parts width (suc count) l = ap suc (length_parts width count (drop width l))

-- the first record of some bytes, and those behind it
pub front_bytes : (width count : ℕ) (l : List ℕ) → length l ≡ width * suc count → Bytes l
    → (length (take width l) ≡ width) × Bytes (take width l) × (length (drop width l) ≡ width * count) × Bytes (drop width l)
front_bytes width count l n bytes =
    let more = n ∙ (mul-suc width count ∙ add_comm (width * count) width) in
    let long : length (take width l) ≡ width = length-take-le width l (inside (width * count) more) in (
      long,
      (λ i h. rw (get_or-take width l i 0 (subst (λ (k : ℕ). i < k) long h)) (bytes i (below i (width * count) more (subst (λ (k : ℕ). i < k) long h)))),
      length-drop width l ∙ behind (width * count) more,
      (λ i h. rw (get_or-drop width l i 0) (bytes (width + i) (reached i h))),
    )
  where
    inside : (rest : ℕ) → length l ≡ width + rest → width ≤ length l
    inside rest e = omega arith

    below : (i rest : ℕ) → length l ≡ width + rest → i < width → i < length l
    below i rest e h = omega arith

    behind : (rest : ℕ) → length l ≡ width + rest → length l - width ≡ rest
    behind rest e = omega arith

    reached : (i : ℕ) → i < length (drop width l) → width + i < length l
    reached i h = let n = length-drop width l in omega arith

-- each record has its width, and bytes
pub parts_bytes : (width count : ℕ) (l : List ℕ) → length l ≡ width * count → Bytes l → (i : ℕ) → i < count
    → (length (get_or (parts_of width count l) i []) ≡ width) × Bytes (get_or (parts_of width count l) i [])
unfolding parts_of
parts_bytes width zero l n bytes i h = absurd (not-suc-le-zero h)
parts_bytes width (suc count) l n bytes zero h = let front = front_bytes width count l n bytes in (front.0, front.1)
parts_bytes width (suc count) l n bytes (suc i) h =
    let front = front_bytes width count l n bytes in parts_bytes width count (drop width l) front.2 front.3 i (le_of_suc-le-suc h)

-- the records that std cuts a list into are those
pub chunks_parts : (width count : ℕ) (l : List ℕ) → first_chunks width count l ≡ parts_of width count l
unfolding parts_of
chunks_parts width zero l = refl
chunks_parts width (suc count) l = ap (λ (rest : List (List ℕ)). take width l ∷ rest) (chunks_parts width count (drop width l))

-- a part that is put behind what is done already
pub part_put : (done r l : List ℕ) (at e : ℕ) → length done ≡ at → at ≤ e → put_mid at (e - at) (done ++ drop at l) r ≡ (done ++ r) ++ drop e l
part_put done r l at e n h =
    let before : take at (done ++ drop at l) ≡ done = take_at done (drop at l) at n in
    let width : at + (e - at) ≡ e = omega arith in
    let behind : drop (e - at) (drop at (done ++ drop at l)) ≡ drop e l =
    ap (drop (e - at)) (drop_at done (drop at l) at n) ∙ (drop-drop (e - at) at l ∙ ap (λ (k : ℕ). drop k l) width) in
    ap (λ (p : List ℕ). p ++ (r ++ drop (e - at) (drop at (done ++ drop at l)))) before
    ∙ (ap (λ (q : List ℕ). done ++ (r ++ q)) behind ∙ sym (append_assoc done r (drop e l)))

module _ {A : Type 0} (encode : A → List ℕ) where
  pub flat_append : (xs ys : List A) → flat encode (xs ++ ys) ≡ flat encode xs ++ flat encode ys
  unfolding flat
  flat_append [] ys = refl
  flat_append (x ∷ xs) ys = ap (λ (l : List ℕ). encode x ++ l) (flat_append xs ys) ∙ sym (append_assoc (encode x) (flat encode xs) (flat encode ys))

  -- one entry more
  pub flat_more : (xs : List A) (x : A) → flat encode (xs ++ x ∷ []) ≡ flat encode xs ++ encode x
  unfolding flat
  flat_more xs x = flat_append xs (x ∷ []) ∙ ap (λ (l : List ℕ). flat encode xs ++ l) (append-nil (encode x))

  -- what the bytes do not tell of an entry may change
  pub flat_map : (f : A → A) → ((x : A) → encode (f x) ≡ encode x) → (l : List A) → flat encode (map f l) ≡ flat encode l
  unfolding flat
  flat_map f same [] = refl
  flat_map f same (x ∷ xs) =
      ap (λ (m : List ℕ). m ++ flat encode (map f xs)) (same x) ∙ ap (λ (m : List ℕ). encode x ++ m) (flat_map f same xs)

  module _ (width : ℕ) (wide : (x : A) → length (encode x) ≡ width) where
    pub length_flat : (xs : List A) → length (flat encode xs) ≡ width * length xs
    unfolding flat
    length_flat [] = sym (mul-zero width)
    length_flat (x ∷ xs) =
        length-append (encode x) (flat encode xs)
        ∙ (ap (λ (k : ℕ). k + length (flat encode xs)) (wide x)
        ∙ (ap (λ (k : ℕ). width + k) (length_flat xs) ∙ (add_comm width (width * length xs) ∙ sym (mul-suc width (length xs)))))

    -- the records of entries, encoded one behind the other
    pub parts_flat : (xs : List A) (more : ℕ) (tail : List ℕ)
        → parts_of width (length xs + more) (flat encode xs ++ tail) ≡ map encode xs ++ parts_of width more tail
    unfolding parts_of flat
    parts_flat [] more tail = ap (λ (k : ℕ). parts_of width k tail) (zero-add more)
    parts_flat (x ∷ xs) more tail =
        let bytes = (encode x ++ flat encode xs) ++ tail in
        let split : bytes ≡ encode x ++ (flat encode xs ++ tail) = append_assoc (encode x) (flat encode xs) tail in
        let here : take width bytes ≡ encode x = ap (take width) split ∙ take_at (encode x) (flat encode xs ++ tail) width (wide x) in
        let rest : drop width bytes ≡ flat encode xs ++ tail = ap (drop width) split ∙ drop_at (encode x) (flat encode xs ++ tail) width (wide x) in
        ap (λ (k : ℕ). parts_of width k bytes) (suc-add (length xs) more)
        ∙ (ap (λ (r : List ℕ). r ∷ parts_of width (length xs + more) (drop width bytes)) here
        ∙ (ap (λ (l : List ℕ). encode x ∷ parts_of width (length xs + more) l) rest ∙ ap (λ (l : List (List ℕ)). encode x ∷ l) (parts_flat xs more tail)))

-- the part for a record at a place
part_width : (part : List ℕ) (at width : ℕ) → at + width ≤ length part → length (take (at + width - at) (drop at part)) ≡ width
part_width part at width h = length-take-le (at + width - at) (drop at part) (rw (length-drop at part) (omega arith)) ∙ omega arith

-- a list of bytes that is filled with the records of entries, one after the other
module _ {A : Type 0} (encode : A → List ℕ) (width : ℕ) (wide : (x : A) → length (encode x) ≡ width) (l : List A) (whole : List ℕ) where
  -- the first i records stand in the part, and behind them what stood there
  pub record Filled (part : List ℕ) (i : ℕ) : Type 0 where
    pub inside : i ≤ length l
    pub bytes : part ≡ flat encode (take i l) ++ drop (i * width) whole

  pub filled_start : Filled whole 0
  unfolding flat
  filled_start = record { inside = omega arith; bytes = ap (λ (k : ℕ). drop k whole) (sym (zero-mul width)) }

  module _ (long : length whole ≡ width * length l) (part : List ℕ) (i : ℕ) (f : Filled part i) where
    done_long : length (flat encode (take i l)) ≡ i * width
    done_long =
        length_flat encode width wide (take i l) ∙ (ap (λ (j : ℕ). width * j) (length-take-le i l f.inside) ∙ mul_comm width i)

    pub filled_long : length part ≡ length whole
    filled_long =
        let at = i * width in
        let fits : at ≤ length whole = subst (λ (k : ℕ). k ≤ length whole) (mul_comm width i) (subst (λ (k : ℕ). width * i ≤ k) (sym long) (mul-le-mul_left width f.inside)) in
        ap length f.bytes
        ∙ (length-append (flat encode (take i l)) (drop at whole) ∙ (ap (λ (k : ℕ). k + length (drop at whole)) done_long ∙ rest at fits))
      where
        rest : (at : ℕ) → at ≤ length whole → at + length (drop at whole) ≡ length whole
        rest at h = rw (length-drop at whole) (omega arith)

    pub filled_end : length l ≤ i → part ≡ flat encode l
    filled_end h =
        let all : take i l ≡ l = take_all i l h in
        let past : length whole ≤ i * width = subst (λ (k : ℕ). length whole ≤ k) (mul_comm width i) (subst (λ (k : ℕ). k ≤ width * i) (sym long) (mul-le-mul_left width h)) in
        let gone : drop (i * width) whole ≡ [] = drop_of_length-le whole {i = i * width} past in
        f.bytes ∙ (ap (λ (m : List ℕ). flat encode (take i l) ++ m) gone ∙ (append-nil (flat encode (take i l)) ∙ ap (flat encode) all))

    module _ (more : i < length l) where
      next_at : i * width + width ≡ (i + 1) * width
      next_at = sym (add-mul i 1 width ∙ ap (λ (k : ℕ). i * width + k) (one-mul width))

      -- the part for the next record lies inside, and that record is put into it
      pub next_inside : i * width + width ≤ length part
      next_inside =
          let one : i + 1 ≤ length l = omega arith in
          let fits : width * (i + 1) ≤ width * length l = mul-le-mul_left width one in
          subst (λ (k : ℕ). i * width + width ≤ k) (sym filled_long)
          (subst (λ (k : ℕ). k ≤ length whole) (mul_comm width (i + 1) ∙ sym next_at) (subst (λ (k : ℕ). width * (i + 1) ≤ k) (sym long) fits))

      pub filled_more : (d : A) (r : List ℕ) → r ≡ encode (get_or l i d) → Filled (put_mid (i * width) (i * width + width - i * width) part r) (i + 1)
      filled_more d r e =
          let at = i * width in
          let done = flat encode (take i l) in
          let next : take (i + 1) l ≡ take i l ++ get_or l i d ∷ [] = ap (λ (j : ℕ). take j l) (add-one i) ∙ take-suc l i d more in
          record {
            inside = omega arith;
            bytes =
                ap (λ (p : List ℕ). put_mid at (at + width - at) p r) f.bytes
                ∙ (part_put done r whole at (at + width) done_long (le-add_right at width)
                ∙ (ap (λ (q : List ℕ). (done ++ q) ++ drop (at + width) whole) e
                ∙ (ap (λ (q : List ℕ). q ++ drop (at + width) whole) (sym (ap (flat encode) next ∙ flat_more encode (take i l) (get_or l i d)))
                ∙ ap (λ (k : ℕ). flat encode (take (i + 1) l) ++ drop k whole) next_at)));
          }
