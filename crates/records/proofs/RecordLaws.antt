-- The laws of one record: what was decoded is encoded to the same bytes, and what was encoded is decoded to the same entry.
-- Assumes nothing.
use Rattle.std.specs.Prelude.{None}
use Prim.Native.Nat.{ℕ, ◌+◌, ◌≤◌}
use mathlib.Core.Path.{◌≡◌, refl, sym, ap, ◌∙◌}
use mathlib.Core.Logic.{◌⊎◌, inl, inr}
use mathlib.Core.Bool.{Bool, true, false, cond, ◌&&◌}
use mathlib.Core.List.{List, [], ◌∷◌, ◌++◌}
use native.Mathlib.Omega.{arith}
use lib.Dec.{eqb}
use lib.ListN.{length, get_or, take, drop, set, replicate, length-drop}
use lib.Seq.{take_all}
use borrow.Author.Tests.{eqb-true}
use Rattle.table.specs.declared.Task.{Task}
use Rattle.table.specs.declared.Sem.{Sem}
use Rattle.table.specs.declared.Board.{Board}
use Rattle.table.specs.declared.Status.TheVariants.{Idle}
use Rattle.table.specs.Entries.{loaded_task, loaded_sem}
use Rattle.table.specs.WellFormed.{within, due_in_range, task_in_range, sem_in_range, board_in_range}
use Rattle.table.proofs.SumLaws.{both, both_left, both_right, either_way}
use Rattle.table.proofs.OrderLaws.{within_true, task_range, due_most, board_range}
use Rattle.fields.specs.Fields.{bytes_of, read_at, put_at, all_are, Bytes}
use Rattle.fields.proofs.ByteLaws.{read_back, value_of_bytes_of, all_replicate, all_stop}
use Rattle.std.specs.Prelude.{Result, Ok, Err}
use Rattle.table.specs.declared.refusals.Refusal.{Refusal}
use Rattle.table.specs.declared.refusals.Refusal.TheVariants.{UnknownKind, OutOfRange}
use Rattle.records.specs.declared.Record.{Record}
use Rattle.records.specs.declared.Record.TheVariants.{Erased, Task as TaskRecord, Board as BoardRecord, Sem as SemRecord}
use Rattle.std.proofs.lemmas.Bool.Decides.{nat_tests}
use Rattle.records.specs.declared.Kind.{Kind}
use Rattle.records.specs.declared.Kind.TheVariants.{Task as TaskKind, Board as BoardKind, Sem as SemKind, Erased as ErasedKind}
use Rattle.records.specs.Records.{kind_of, task_in, board_in, sem_in, unless_out_of_range, task_decoded, board_decoded, sem_decoded, decoded, encode_task, encode_board, encode_sem}

-- 32 zeros, with the kind and the fields of an entry put into them, are the entry's bytes
pub task_put : (t : Task)
    → set (set (put_at 4 (put_at 4 (put_at 4 (put_at 2 (replicate 32 0) 2 t.number) 4 t.period) 8 t.cost) 12 t.due) 0 1) 1 t.queue ≡ encode_task t
unfolding put_at bytes_of encode_task
task_put t = refl

pub sem_put : (s : Sem) → set (put_at 2 (replicate 32 0) 2 s.number) 0 3 ≡ encode_sem s
unfolding put_at bytes_of encode_sem
sem_put s = refl

pub board_put : (b : Board)
    → set (put_at 2 (put_at 2 (put_at 2 (put_at 2 (put_at 2 (put_at 2 (put_at 2 (put_at 2 (put_at 2 (replicate 32 0)
    2 b.dp_block) 4 b.dp_unblock) 6 b.dp_select) 8 b.dp_select_task) 10 b.fp_block)
    12 b.fp_block_task) 14 b.fp_unblock) 16 b.fp_select) 18 b.per_queue) 0 2 ≡ encode_board b
unfolding put_at bytes_of encode_board
board_put b = refl

-- the first two bytes, before the others
two_back : (l : List ℕ) → 2 ≤ length l → (a b : ℕ) → get_or l 0 0 ≡ a → get_or l 1 0 ≡ b → a ∷ b ∷ drop 2 l ≡ l
two_back (x ∷ y ∷ rest) h a b e f = cc
two_back (x ∷ []) h a b e f = absurd (omega arith)
two_back [] h a b e f = absurd (omega arith)

-- the zeros behind the fields
zeros : (l : List ℕ) (at n : ℕ) → all_are 0 (drop at l) ≡ true → length l ≡ at + n → replicate n 0 ≡ drop at l
zeros l at n h e =
    let k : length (drop at l) ≡ n = length-drop at l ∙ (omega arith) in
    sym (all_replicate 0 (drop at l) h ∙ ap (λ (m : ℕ). replicate m 0) k)

-- what a record that is a task says of its bytes
pub task_back : (r : List ℕ) → length r ≡ 32 → Bytes r → get_or r 0 0 ≡ 1 → all_are 0 (drop 16 r) ≡ true → encode_task (task_in r) ≡ r
unfolding encode_task task_in
task_back r n bytes kind rest =
    let q = get_or r 1 0 in
    let f : (width : ℕ) → ℕ → List ℕ → List ℕ = λ width at m. bytes_of width (read_at width r at) ++ m in
    ap (λ (m : List ℕ). 1 ∷ q ∷ f 2 2 (f 4 4 (f 4 8 (f 4 12 m)))) (zeros r 16 16 rest n)
    ∙ (ap (λ (m : List ℕ). 1 ∷ q ∷ f 2 2 (f 4 4 (f 4 8 m))) (read_back r 12 4 (omega arith) bytes)
    ∙ (ap (λ (m : List ℕ). 1 ∷ q ∷ f 2 2 (f 4 4 m)) (read_back r 8 4 (omega arith) bytes)
    ∙ (ap (λ (m : List ℕ). 1 ∷ q ∷ f 2 2 m) (read_back r 4 4 (omega arith) bytes)
    ∙ (ap (λ (m : List ℕ). 1 ∷ q ∷ m) (read_back r 2 2 (omega arith) bytes)
    ∙ two_back r (omega arith) 1 q kind refl))))

pub board_back : (r : List ℕ) → length r ≡ 32 → Bytes r → get_or r 0 0 ≡ 2 → get_or r 1 0 ≡ 0 → all_are 0 (drop 20 r) ≡ true → encode_board (board_in r) ≡ r
unfolding encode_board board_in
board_back r n bytes kind second rest =
    let f : ℕ → List ℕ → List ℕ = λ at m. bytes_of 2 (read_at 2 r at) ++ m in
    let back : (at : ℕ) → at + 2 ≤ 32 → f at (drop (at + 2) r) ≡ drop at r = λ at h. read_back r at 2 (omega arith) bytes in
    ap (λ (m : List ℕ). 2 ∷ 0 ∷ f 2 (f 4 (f 6 (f 8 (f 10 (f 12 (f 14 (f 16 (f 18 m))))))))) (zeros r 20 12 rest n)
    ∙ (ap (λ (m : List ℕ). 2 ∷ 0 ∷ f 2 (f 4 (f 6 (f 8 (f 10 (f 12 (f 14 (f 16 m)))))))) (back 18 (omega arith))
    ∙ (ap (λ (m : List ℕ). 2 ∷ 0 ∷ f 2 (f 4 (f 6 (f 8 (f 10 (f 12 (f 14 m))))))) (back 16 (omega arith))
    ∙ (ap (λ (m : List ℕ). 2 ∷ 0 ∷ f 2 (f 4 (f 6 (f 8 (f 10 (f 12 m)))))) (back 14 (omega arith))
    ∙ (ap (λ (m : List ℕ). 2 ∷ 0 ∷ f 2 (f 4 (f 6 (f 8 (f 10 m))))) (back 12 (omega arith))
    ∙ (ap (λ (m : List ℕ). 2 ∷ 0 ∷ f 2 (f 4 (f 6 (f 8 m)))) (back 10 (omega arith))
    ∙ (ap (λ (m : List ℕ). 2 ∷ 0 ∷ f 2 (f 4 (f 6 m))) (back 8 (omega arith))
    ∙ (ap (λ (m : List ℕ). 2 ∷ 0 ∷ f 2 (f 4 m)) (back 6 (omega arith))
    ∙ (ap (λ (m : List ℕ). 2 ∷ 0 ∷ f 2 m) (back 4 (omega arith))
    ∙ (ap (λ (m : List ℕ). 2 ∷ 0 ∷ m) (back 2 (omega arith)) ∙ two_back r (omega arith) 2 0 kind second)))))))))

pub sem_back : (r : List ℕ) → length r ≡ 32 → Bytes r → get_or r 0 0 ≡ 3 → get_or r 1 0 ≡ 0 → all_are 0 (drop 4 r) ≡ true → encode_sem (sem_in r) ≡ r
unfolding encode_sem sem_in
sem_back r n bytes kind second rest =
    ap (λ (m : List ℕ). 3 ∷ 0 ∷ (bytes_of 2 (read_at 2 r 2) ++ m)) (zeros r 4 28 rest n)
    ∙ (ap (λ (m : List ℕ). 3 ∷ 0 ∷ m) (read_back r 2 2 (omega arith) bytes) ∙ two_back r (omega arith) 3 0 kind second)

-- a record within its ranges
taken_as : (fits : Bool) (said : Record) → fits ≡ true → Ok said ≡ unless_out_of_range fits said
taken_as fits said h = rw h

-- what is said where all fits, and where it does not, by one test
fitting : {A : Type 0} (fits : Bool) (said : A) → Ok tt ≡ unless_out_of_range {A = Unit {0}} fits tt → Ok said ≡ unless_out_of_range fits said
fitting true said h = refl
fitting false said h = cc

unfitting : {A : Type 0} (fits : Bool) (said : A) (why : Refusal) → Err why ≡ unless_out_of_range {A = Unit {0}} fits tt → Err why ≡ unless_out_of_range fits said
unfitting true said why h = cc
unfitting false said why h = cc

-- what the code asks of a record's bytes is what the definition asks, whatever the kind: an entry that was found in them, in range or not, and
-- the bytes behind its fields
module _ (second : ℕ) {A : Type 0} (in_range : A → Bool) (say : A → Record) (found entry : A) (same : found ≡ entry)
    (range : Bool) (ranged : range ≡ in_range found) (r : List ℕ) (at n : ℕ) (long : length r ≡ at + n) where
  abbrev fits : Bool
  fits = eqb second 0 && in_range entry && all_are 0 (drop at r)

  clean_so : (eqb second 0 && range && all_are 0 (take n (drop at r))) ≡ fits
  clean_so =
      let rest : take n (drop at r) ≡ drop at r = take_all n (drop at r) (rw (length-drop at r) (omega arith)) in
      ap (λ (b : Bool). eqb second 0 && b && all_are 0 (take n (drop at r))) (ranged ∙ ap in_range same)
      ∙ ap (λ (l : List ℕ). eqb second 0 && in_range entry && all_are 0 l) rest

  pub says_entry : Ok tt ≡ unless_out_of_range {A = Unit {0}} (eqb second 0 && range && all_are 0 (take n (drop at r))) tt → Ok (say found) ≡ unless_out_of_range fits (say entry)
  says_entry h =
      ap (λ (x : A). Ok (say x)) same ∙ fitting fits (say entry) (h ∙ ap (λ (b : Bool). unless_out_of_range {A = Unit {0}} b tt) clean_so)

  pub says_refused : (why : Refusal) → Err why ≡ unless_out_of_range {A = Unit {0}} (eqb second 0 && range && all_are 0 (take n (drop at r))) tt → Err why ≡ unless_out_of_range fits (say entry)
  says_refused why h = unfitting fits (say entry) why (h ∙ ap (λ (b : Bool). unless_out_of_range {A = Unit {0}} b tt) clean_so)

-- a record whose first byte is not 255 is not erased
pub not_erased : (r : List ℕ) → 1 ≤ length r → (get_or r 0 0 ≡ 255 → ⊥) → all_are 255 r ≡ false
not_erased r h e = all_stop 255 r 0 h e

-- what a record says by its kind, if it has one
abbrev pub by_kind : List ℕ → Result Kind Refusal → Result Record Refusal
by_kind r (Ok TaskKind) = task_decoded r
by_kind r (Ok BoardKind) = board_decoded r
by_kind r (Ok SemKind) = sem_decoded r
by_kind r (Ok ErasedKind) = cond (all_are 255 r) (Ok Erased) (Err UnknownKind)
by_kind r (Err why) = Err why

pub decoded_by : (r : List ℕ) (kind : Result Kind Refusal) → 1 ≤ length r → kind ≡ kind_of (get_or r 0 0) → by_kind r kind ≡ decoded r
unfolding decoded
decoded_by r (Ok TaskKind) n h = let e = not_erased r n in grind (arith, nat_tests)
decoded_by r (Ok BoardKind) n h = let e = not_erased r n in grind (arith, nat_tests)
decoded_by r (Ok SemKind) n h = let e = not_erased r n in grind (arith, nat_tests)
decoded_by r (Ok ErasedKind) n h = grind (arith, nat_tests)
decoded_by r (Err why) n h = let e = not_erased r n in grind (arith, nat_tests)

-- what was encoded is decoded to the same entry, as it is after loading
pub decoded_task : (t : Task) → task_in_range t ≡ true → decoded (encode_task t) ≡ Ok (TaskRecord (loaded_task t))
unfolding decoded task_decoded task_in encode_task bytes_of read_at all_are within due_in_range task_in_range
decoded_task t h =
    let r = task_range t h in
    let same : task_in (encode_task t) ≡ loaded_task t =
    λ i.
    record {
      deadline = 0;
      period = value_of_bytes_of 4 t.period (omega arith) i;
      cost = value_of_bytes_of 4 t.cost (omega arith) i;
      due = value_of_bytes_of 4 t.due (omega (arith, due_most t r)) i;
      number = value_of_bytes_of 2 t.number (omega arith) i;
      queue = t.queue;
      status = Idle;
    } in
    sym (taken_as (task_in_range (task_in (encode_task t)) && true) (TaskRecord (task_in (encode_task t))) (both (task_in_range (task_in (encode_task t))) true (ap task_in_range same ∙ h) refl))
    ∙ ap (λ (x : Task). Ok (TaskRecord x)) same

pub decoded_board : (b : Board) → board_in_range b ≡ true → decoded (encode_board b) ≡ Ok (BoardRecord b)
unfolding decoded board_decoded board_in encode_board bytes_of read_at all_are
decoded_board b h =
    let r = board_range b h in
    let same : board_in (encode_board b) ≡ b =
    λ i.
    record {
      dp_block = value_of_bytes_of 2 b.dp_block (omega arith) i;
      dp_unblock = value_of_bytes_of 2 b.dp_unblock (omega arith) i;
      dp_select = value_of_bytes_of 2 b.dp_select (omega arith) i;
      dp_select_task = value_of_bytes_of 2 b.dp_select_task (omega arith) i;
      fp_block = value_of_bytes_of 2 b.fp_block (omega arith) i;
      fp_block_task = value_of_bytes_of 2 b.fp_block_task (omega arith) i;
      fp_unblock = value_of_bytes_of 2 b.fp_unblock (omega arith) i;
      fp_select = value_of_bytes_of 2 b.fp_select (omega arith) i;
      per_queue = value_of_bytes_of 2 b.per_queue (omega arith) i;
    } in
    sym (taken_as (board_in_range (board_in (encode_board b)) && true) (BoardRecord (board_in (encode_board b))) (both (board_in_range (board_in (encode_board b))) true (ap board_in_range same ∙ h) refl))
    ∙ ap (λ (x : Board). Ok (BoardRecord x)) same

pub decoded_sem : (s : Sem) → sem_in_range s ≡ true → decoded (encode_sem s) ≡ Ok (SemRecord (loaded_sem s))
unfolding decoded sem_decoded sem_in encode_sem bytes_of read_at all_are sem_in_range
decoded_sem s h =
    let w = within_true 1 s.number 65535 h in
    let same : sem_in (encode_sem s) ≡ loaded_sem s = λ i. record { number = value_of_bytes_of 2 s.number (omega arith) i; holder = None } in
    sym (taken_as (sem_in_range (sem_in (encode_sem s)) && true) (SemRecord (sem_in (encode_sem s))) (both (sem_in_range (sem_in (encode_sem s))) true (ap sem_in_range same ∙ h) refl))
    ∙ ap (λ (x : Sem). Ok (SemRecord x)) same

-- an erased record
pub decoded_erased : decoded (replicate 32 255) ≡ Ok Erased
unfolding decoded all_are
decoded_erased = refl

-- what a decoded record says of the record's bytes: an entry's bytes are the record, and the entry is in its ranges and as after loading
pub data Said (r : List ℕ) : Result Record Refusal → Type 0 where
  erased : all_are 255 r ≡ true → Said r (Ok Erased)
  task : {t : Task} → encode_task t ≡ r → task_in_range t ≡ true → loaded_task t ≡ t → Said r (Ok (TaskRecord t))
  board : {b : Board} → encode_board b ≡ r → board_in_range b ≡ true → Said r (Ok (BoardRecord b))
  sem : {s : Sem} → encode_sem s ≡ r → sem_in_range s ≡ true → loaded_sem s ≡ s → Said r (Ok (SemRecord s))
  unknown : Said r (Err UnknownKind)
  bad : Said r (Err OutOfRange)

module _ (r : List ℕ) (n : length r ≡ 32) (bytes : Bytes r) where
  said_task : get_or r 0 0 ≡ 1 → (t : Bool) → (task_in_range (task_in r) && all_are 0 (drop 16 r)) ≡ t → Said r (unless_out_of_range t (TaskRecord (task_in r)))
  unfolding task_in
  said_task k true h =
      let range = task_in_range (task_in r) in
      let rest = all_are 0 (drop 16 r) in
      task (task_back r n bytes k (both_right range rest h)) (both_left range rest h) refl
  said_task k false h = bad

  said_board : get_or r 0 0 ≡ 2 → (t : Bool) → (eqb (get_or r 1 0) 0 && board_in_range (board_in r) && all_are 0 (drop 20 r)) ≡ t
      → Said r (unless_out_of_range t (BoardRecord (board_in r)))
  said_board k true h =
      let one = eqb (get_or r 1 0) 0 in
      let range = board_in_range (board_in r) in
      let rest = all_are 0 (drop 20 r) in
      let both_first = both_left (one && range) rest h in
      board (board_back r n bytes k (eqb-true (get_or r 1 0) 0 (both_left one range both_first)) (both_right (one && range) rest h)) (both_right one range both_first)
  said_board k false h = bad

  said_sem : get_or r 0 0 ≡ 3 → (t : Bool) → (eqb (get_or r 1 0) 0 && sem_in_range (sem_in r) && all_are 0 (drop 4 r)) ≡ t
      → Said r (unless_out_of_range t (SemRecord (sem_in r)))
  unfolding sem_in
  said_sem k true h =
      let one = eqb (get_or r 1 0) 0 in
      let range = sem_in_range (sem_in r) in
      let rest = all_are 0 (drop 4 r) in
      let both_first = both_left (one && range) rest h in
      sem (sem_back r n bytes k (eqb-true (get_or r 1 0) 0 (both_left one range both_first)) (both_right (one && range) rest h)) (both_right one range both_first) refl
  said_sem k false h = bad

  pub said : Said r (decoded r)
  unfolding decoded task_decoded board_decoded sem_decoded
  said = whole (all_are 255 r) refl
    where
      third : (t : Bool) → eqb (get_or r 0 0) 3 ≡ t → Said r (cond t (sem_decoded r) (Err UnknownKind))
      third true h = said_sem (eqb-true (get_or r 0 0) 3 h) (eqb (get_or r 1 0) 0 && sem_in_range (sem_in r) && all_are 0 (drop 4 r)) refl
      third false h = unknown

      second : (t : Bool) → eqb (get_or r 0 0) 2 ≡ t → Said r (cond t (board_decoded r) (cond (eqb (get_or r 0 0) 3) (sem_decoded r) (Err UnknownKind)))
      second true h = said_board (eqb-true (get_or r 0 0) 2 h) (eqb (get_or r 1 0) 0 && board_in_range (board_in r) && all_are 0 (drop 20 r)) refl
      second false h = third (eqb (get_or r 0 0) 3) refl

      first : (t : Bool) → eqb (get_or r 0 0) 1 ≡ t
          → Said r (cond t (task_decoded r) (cond (eqb (get_or r 0 0) 2) (board_decoded r) (cond (eqb (get_or r 0 0) 3) (sem_decoded r) (Err UnknownKind))))
      first true h = said_task (eqb-true (get_or r 0 0) 1 h) (task_in_range (task_in r) && all_are 0 (drop 16 r)) refl
      first false h = second (eqb (get_or r 0 0) 2) refl

      whole : (t : Bool) → all_are 255 r ≡ t
          → Said r (cond t (Ok Erased) (cond (eqb (get_or r 0 0) 1) (task_decoded r) (cond (eqb (get_or r 0 0) 2) (board_decoded r) (cond (eqb (get_or r 0 0) 3) (sem_decoded r) (Err UnknownKind)))))
      whole true h = erased h
      whole false h = first (eqb (get_or r 0 0) 1) refl

-- a record is refused with 2 or with 4
abbrev pub Plain : Result Record Refusal → Type 0
Plain (Ok _) = Unit
Plain (Err why) = (why ≡ UnknownKind) ⊎ (why ≡ OutOfRange)

pub plain : (r : List ℕ) → Plain (decoded r)
unfolding decoded task_decoded board_decoded sem_decoded
plain r =
    let kind : ℕ → Bool = λ k. eqb (get_or r 0 0) k in
    let third = cond (kind 3) (sem_decoded r) (Err UnknownKind) in
    let second = cond (kind 2) (board_decoded r) third in
    let first = cond (kind 1) (task_decoded r) second in
    let entry : (fits : Bool) (said : Record) → Plain (unless_out_of_range fits said) = λ fits said. either_way Plain fits (Ok said) (Err OutOfRange) tt (inr refl) in
    either_way Plain (all_are 255 r) (Ok Erased) first tt
    (either_way Plain (kind 1) (task_decoded r) second (entry (task_in_range (task_in r) && all_are 0 (drop 16 r)) (TaskRecord (task_in r)))
    (either_way Plain (kind 2) (board_decoded r) third (entry (eqb (get_or r 1 0) 0 && board_in_range (board_in r) && all_are 0 (drop 20 r)) (BoardRecord (board_in r)))
    (either_way Plain (kind 3) (sem_decoded r) (Err UnknownKind) (entry (eqb (get_or r 1 0) 0 && sem_in_range (sem_in r) && all_are 0 (drop 4 r)) (SemRecord (sem_in r))) (inl refl))))

-- every record has 32 bytes
pub length_task : (t : Task) → length (encode_task t) ≡ 32
unfolding encode_task bytes_of
length_task t = refl

pub length_board : (b : Board) → length (encode_board b) ≡ 32
unfolding encode_board bytes_of
length_board b = refl

pub length_sem : (s : Sem) → length (encode_sem s) ≡ 32
unfolding encode_sem bytes_of
length_sem s = refl
