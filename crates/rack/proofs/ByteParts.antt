-- The parts that the boundary writes, byte by byte.
-- Assumes nothing.
use Prim.Native.Nat.{ℕ, zero, suc, ◌+◌, ◌-◌, ◌/◌, ◌%◌, ◌≤◌, ◌<◌}
use mathlib.Core.Path.{◌≡◌, refl, sym, ap, ◌∙◌}
use mathlib.Core.List.{List, [], ◌∷◌, ◌++◌, append_assoc, append-nil}
use native.Mathlib.Nat.{sub-zero}
use native.Mathlib.Numerals.{add-one}
use native.Mathlib.Omega.{arith}
use lib.ListN.{length, get_or, take, drop, replicate, length-replicate}
use lib.Seq.{take-suc, take_all}
use Rattle.std.specs.Int.{bytes_low_first}
use Rattle.fields.specs.Fields.{bytes_of, put_at}
use Rattle.fields.proofs.ByteLaws.{std_bytes}
use Rattle.lines.specs.Lines.{Put}
use Rattle.lines.proofs.PutLaws.{put_more}
use Rattle.table.specs.declared.Task.{Task}
use Rattle.executive.specs.Calls.{Stands}
use Rattle.charges.specs.declared.Counts.{Counts}
use Rattle.charges.specs.Charges.{charge_by}
use Rattle.rack.specs.Boundary.{head_bytes, entry_bytes, entries_by, played_part}

-- a number put into eight bytes is its bytes
pub eight_bytes : (value : ℕ) → put_at 8 (replicate 8 0) 0 value ≡ bytes_of 8 value
unfolding put_at bytes_of
eight_bytes value = refl

-- the lowest two bytes of a number, as std gives its bytes
pub low_byte : (w n : ℕ) (l : List ℕ) → l ≡ bytes_low_first 0 (suc w) n → get_or l 0 0 ≡ n % 256
unfolding bytes_of
low_byte w n l h = ap (λ (b : List ℕ). get_or b 0 0) (h ∙ std_bytes (suc w) n)

pub next_byte : (w n : ℕ) (l : List ℕ) → l ≡ bytes_low_first 0 (suc (suc w)) n → get_or l 1 0 ≡ n / 256 % 256
unfolding bytes_of
next_byte w n l h = ap (λ (b : List ℕ). get_or b 1 0) (h ∙ std_bytes (suc (suc w)) n)

pub entry_long : (number queue charge : ℕ) → length (entry_bytes number queue charge) ≡ 16
unfolding entry_bytes bytes_of
entry_long number queue charge = refl

pub head_long : (number verdict place task n : ℕ) → length (head_bytes number verdict place task n) ≡ 8
unfolding head_bytes bytes_of
head_long number verdict place task n = refl

pub part_long : (answer running : ℕ) (s : Stands) → length (played_part answer running s) ≡ 32
unfolding played_part bytes_of
part_long answer running s = refl

-- what is left of a run of one byte
drop_replicate : (at n b : ℕ) → drop at (replicate n b) ≡ replicate (n - at) b
drop_replicate zero n b = ap (λ (k : ℕ). replicate k b) (sym (sub-zero n))
drop_replicate (suc at) zero b = let e : 0 - suc at ≡ 0 = omega arith in rw e
drop_replicate (suc at) (suc n) b = let e : n - at ≡ suc n - suc at = omega arith in rw (← e) (drop_replicate at n b)

pub rest_same : (at n b : ℕ) → at ≤ n → take (n - at) (drop at (replicate n b)) ≡ replicate (n - at) b
rest_same at n b h =
    ap (take (n - at)) (drop_replicate at n b)
    ∙ take_all (n - at) (replicate (n - at) b) (let l = length-replicate (n - at) b in omega arith)

-- one entry more
entries_append : (counts : Counts) (xs : List Task) (t : Task)
    → entries_by counts (xs ++ (t ∷ [])) ≡ entries_by counts xs ++ entry_bytes t.number t.queue (charge_by counts t)
unfolding entries_by
entries_append counts [] t = append-nil (entry_bytes t.number t.queue (charge_by counts t))
entries_append counts (x ∷ xs) t =
    ap (λ (l : List ℕ). entry_bytes x.number x.queue (charge_by counts x) ++ l) (entries_append counts xs t)
    ∙ sym (append_assoc (entry_bytes x.number x.queue (charge_by counts x)) (entries_by counts xs) (entry_bytes t.number t.queue (charge_by counts t)))

pub entries_more : (counts : Counts) (l : List Task) (i : ℕ) (e : Task) → i < length l → {a b c : List ℕ} {at end : ℕ}
    → Put a 8 (entries_by counts (take i l)) b at
    → Put b at (entry_bytes (get_or l i e).number (get_or l i e).queue (charge_by counts (get_or l i e))) c end
    → Put a 8 (entries_by counts (take (i + 1) l)) c end
entries_more counts l i e h p q =
    let t = get_or l i e in
    let more : entries_by counts (take (i + 1) l) ≡ entries_by counts (take i l) ++ entry_bytes t.number t.queue (charge_by counts t) =
    ap (λ (n : ℕ). entries_by counts (take n l)) (add-one i) ∙ (ap (entries_by counts) (take-suc l i e h) ∙ entries_append counts (take i l) t) in
    rw more (put_more (entries_by counts (take i l)) (entry_bytes t.number t.queue (charge_by counts t)) p q)

-- the rest of so many bytes, all the same
pub put_rest : (a b : List ℕ) (at n x end : ℕ) → at ≤ n → Put a at (take (n - at) (drop at (replicate n x))) b end → Put a at (replicate (n - at) x) b n
put_rest a b at n x end h p =
    let e = rest_same at n x h in
    let l = length-replicate (n - at) x in
    record { contents = rw e at p.contents; ends = omega arith }
