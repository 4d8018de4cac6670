-- The laws of writing: parts put one behind the other, and how long the records are.
-- Assumes nothing.
use Prim.Native.Nat.{ℕ, ◌+◌, ◌-◌, ◌*◌, ◌≤◌, ◌<◌}
use mathlib.Core.Path.{◌≡◌, refl, sym, ap, ◌∙◌}
use mathlib.Core.Logic.{◌≢◌}
use mathlib.Core.Bool.{Bool, true, false, cond}
use mathlib.Core.List.{List, [], ◌∷◌, ◌++◌, map, append-nil}
use native.Mathlib.Omega.{arith}
use lib.Dec.{eqb}
use lib.ListN.{length, get_or, take, drop, replicate, length-append, length-drop, length-map, get_or-append, get_or-map}
use lib.Seq.{drop-length, length-take-le, get_or-take, get_or-append-add}
use borrow.Author.Tests.{eq-eqb, ne_eqb, lt-ltb, le-ltb}
use borrow.Rule.Slice.PartMut.{put_mid}
use Rattle.fields.specs.Parts.{flat}
use Rattle.fields.proofs.PartLaws.{part_put, flat_append, length_flat}
use Rattle.table.specs.declared.Board.{Board}
use Rattle.table.specs.declared.Sem.{Sem}
use Rattle.table.specs.declared.Task.{Task}
use Rattle.table.proofs.RefusalLaws.{answered_refused, answered_done, first_of_here, first_of_past, first_of_none}
use Rattle.executive.specs.declared.state.State.{State}
use Rattle.executive.specs.States.{tasks_of, sems_of}
use Rattle.executive.specs.Sound.{Sized}
use Rattle.executive.specs.Tables.{Table, table_of}
use Rattle.records.specs.Records.{encode_task, encode_board, encode_sem}
use Rattle.records.proofs.RecordLaws.{length_task, length_board, length_sem}
use Rattle.image.specs.Loading.{bad_length}
use Rattle.std.specs.Prelude.{Option}
use Rattle.std.specs.Bool.{then_some}
use Rattle.image.specs.Writing.{board_bytes, encoded, bad_buffer, write_number, written}

-- the records behind the board's: the tasks, then the semaphores, as one list
pub data Entry : Type 0 where
  of_task : Task → Entry
  of_sem : Sem → Entry

abbrev pub encode_entry : Entry → List ℕ
encode_entry (of_task t) = encode_task t
encode_entry (of_sem s) = encode_sem s

pub length_entry : (x : Entry) → length (encode_entry x) ≡ 32
length_entry (of_task t) = length_task t
length_entry (of_sem s) = length_sem s

unfoldable pub entries_of : State → List Entry
entries_of s = map of_task (tasks_of s) ++ map of_sem (sems_of s)

flat_through : {A B : Type 0} (encode : B → List ℕ) (f : A → B) (l : List A) → flat encode (map f l) ≡ flat (λ x. encode (f x)) l
unfolding flat
flat_through encode f [] = refl
flat_through encode f (x ∷ xs) = ap (λ (m : List ℕ). encode (f x) ++ m) (flat_through encode f xs)

pub flat_entries : (s : State) → flat encode_entry (entries_of s) ≡ flat encode_task (tasks_of s) ++ flat encode_sem (sems_of s)
unfolding entries_of
flat_entries s =
    flat_append encode_entry (map of_task (tasks_of s)) (map of_sem (sems_of s))
    ∙ (ap (λ (m : List ℕ). m ++ flat encode_entry (map of_sem (sems_of s))) (flat_through encode_entry of_task (tasks_of s))
    ∙ ap (λ (m : List ℕ). flat encode_task (tasks_of s) ++ m) (flat_through encode_entry of_sem (sems_of s)))

module _ (s : State) (z : Sized s) where
  count_tasks : length (map of_task (tasks_of s)) ≡ s.n
  unfolding tasks_of
  count_tasks = length-map (tasks_of s) of_task ∙ length-take-le s.n s.tasks (omega (arith, z.tasks_length, z.tasks_fit))

  count_sems : length (map of_sem (sems_of s)) ≡ s.m
  unfolding sems_of
  count_sems = length-map (sems_of s) of_sem ∙ length-take-le s.m s.sems (omega (arith, z.sems_length, z.sems_fit))

  pub count_entries : length (entries_of s) ≡ s.n + s.m
  unfolding entries_of
  count_entries = length-append (map of_task (tasks_of s)) (map of_sem (sems_of s)) ∙ omega (arith, count_tasks, count_sems)

  -- each stands where the state has it
  pub entry_task : (d : Task) (i : ℕ) → i < s.n → of_task (get_or s.tasks i d) ≡ get_or (entries_of s) i (of_task d)
  unfolding entries_of tasks_of
  entry_task d i h =
      sym
      (get_or-append (map of_task (tasks_of s)) (map of_sem (sems_of s)) (of_task d) i (omega (arith, count_tasks))
      ∙ (get_or-map of_task (tasks_of s) i d ∙ ap of_task (get_or-take s.n s.tasks i d h)))

  pub entry_sem : (d : Sem) (i : ℕ) → s.n ≤ i → i < s.n + s.m → of_sem (get_or s.sems (i - s.n) d) ≡ get_or (entries_of s) i (of_sem d)
  unfolding entries_of sems_of
  entry_sem d i h k =
      let place : i ≡ length (map of_task (tasks_of s)) + (i - s.n) = omega (arith, count_tasks) in
      sym
      (ap (λ (j : ℕ). get_or (entries_of s) j (of_sem d)) place
      ∙ (get_or-append-add (map of_task (tasks_of s)) (map of_sem (sems_of s)) (i - s.n) (of_sem d)
      ∙ (get_or-map of_sem (sems_of s) (i - s.n) d ∙ ap of_sem (get_or-take s.m s.sems (i - s.n) d (omega arith)))))

-- the board record has 32 bytes, or none
pub length_board_part : (present : Bool) (b : Board) → length (cond present (encode_board b) []) ≡ cond present 32 0
length_board_part true b = length_board b
length_board_part false b = refl

-- the board as the code has it: one, or none
module _ (s : State) (board : Option Board) (so : board ≡ then_some s.present s.board) where
  pub board_part : (bytes : List ℕ) → bytes ≡ board_bytes board → bytes ≡ cond s.present (encode_board s.board) []
  board_part bytes e = e ∙ (ap board_bytes so ∙ go s.present)
    where
      go : (present : Bool) → board_bytes (then_some present s.board) ≡ cond present (encode_board s.board) []
      go true = refl
      go false = refl

  pub board_width : (n : ℕ) → n ≡ length (board_bytes board) → n ≡ cond s.present 32 0
  board_width n e = e ∙ (ap length (board_part (board_bytes board) refl) ∙ length_board_part s.present s.board)

-- how long the records of a table are, and those of a state
pub length_table : (t : Table) → length (encoded t) ≡ cond t.present 32 0 + 32 * length t.tasks + 32 * length t.sems
unfolding encoded
length_table t =
    let b = cond t.present (encode_board t.board) [] in
    let ts = flat encode_task t.tasks in
    let ss = flat encode_sem t.sems in
    let one = length-append b (ts ++ ss) in
    let two = length-append ts ss in
    let three = length_board_part t.present t.board in
    let four = length_flat encode_task 32 length_task t.tasks in
    let five = length_flat encode_sem 32 length_sem t.sems in
    omega arith

pub length_encoded : (s : State) → Sized s → length (encoded (table_of s)) ≡ cond s.present 32 0 + (s.n + s.m) * 32
unfolding table_of
length_encoded s z =
    let all = length_table (table_of s) in
    let n = length-map (tasks_of s) of_task in
    let m = length-map (sems_of s) of_sem in
    omega (arith, count_tasks s z, count_sems s z)

-- a write that is refused, with its number, leaves the buffer as it was
write_refused : (s : State) (buffer : List ℕ) (k : ℕ) → write_number s (length buffer) ≡ k → k ≢ 0 → (k ≡ write_number s (length buffer)) × (buffer ≡ written s buffer)
unfolding written
write_refused s buffer k e h = (sym e, sym (answered_refused (write_number s (length buffer)) (λ number. buffer) _ (λ z. h (sym e ∙ z))))

pub write_none : (s : State) (buffer : List ℕ) → s.n ≡ 0 → (7 ≡ write_number s (length buffer)) × (buffer ≡ written s buffer)
unfolding write_number
write_none s buffer h =
    write_refused s buffer 7 (first_of_here 7 (eqb s.n 0) ((9, bad_buffer s (length buffer)) ∷ []) (eq-eqb s.n 0 h)) (λ e. omega arith)

pub write_bad : (s : State) (buffer : List ℕ) → (s.n ≡ 0 → ⊥) → bad_buffer s (length buffer) ≡ true
    → (9 ≡ write_number s (length buffer)) × (buffer ≡ written s buffer)
unfolding write_number
write_bad s buffer h k =
    write_refused s buffer 9
    (first_of_past 7 (eqb s.n 0) ((9, bad_buffer s (length buffer)) ∷ []) (ne_eqb s.n 0 h) ∙ first_of_here 9 (bad_buffer s (length buffer)) [] k)
    (λ e. omega arith)

pub write_good : (s : State) (buffer : List ℕ) → (s.n ≡ 0 → ⊥) → bad_buffer s (length buffer) ≡ false
    → (write_number s (length buffer) ≡ 0) × (written s buffer ≡ encoded (table_of s) ++ replicate (length buffer - length (encoded (table_of s))) 255)
unfolding write_number written
write_good s buffer h k =
    let none : write_number s (length buffer) ≡ 0 =
    first_of_past 7 (eqb s.n 0) ((9, bad_buffer s (length buffer)) ∷ []) (ne_eqb s.n 0 h)
    ∙ (first_of_past 9 (bad_buffer s (length buffer)) [] k ∙ first_of_none) in
    let all = encoded (table_of s) ++ replicate (length buffer - length (encoded (table_of s))) 255 in
    (none, answered_done (write_number s (length buffer)) (λ number. buffer) all none)

-- the buffers that are bad, and those that are not
pub buffer_bad : (s : State) (bytes : ℕ) → bad_length bytes ≡ true → bad_buffer s bytes ≡ true
unfolding bad_buffer
buffer_bad s bytes h = rw h

pub buffer_short : (s : State) (bytes : ℕ) → bad_length bytes ≡ false → bytes < length (encoded (table_of s)) → bad_buffer s bytes ≡ true
unfolding bad_buffer
buffer_short s bytes h k = rw (h, lt-ltb bytes (length (encoded (table_of s))) k)

pub buffer_right : (s : State) (bytes : ℕ) → bad_length bytes ≡ false → length (encoded (table_of s)) ≤ bytes → bad_buffer s bytes ≡ false
unfolding bad_buffer
buffer_right s bytes h k = rw (h, le-ltb bytes (length (encoded (table_of s))) k)

-- what an accepted write leaves: three parts, each put behind the one before
module _ (s : State) (z : Sized s) (l b es : List ℕ) (t : ℕ) (start : t ≡ cond s.present 32 0)
    (fits : t + (s.n + s.m) * 32 ≤ length l)
    (eb : b ≡ cond s.present (encode_board s.board) [])
    (ee : es ≡ flat encode_task (tasks_of s) ++ flat encode_sem (sems_of s)) where
  abbrev end : ℕ
  end = t + (s.n + s.m) * 32

  -- the buffer with the two parts of the records
  abbrev two : List ℕ
  two = put_mid t (end - t) (put_mid 0 (t - 0) l b) es

  two_parts : two ≡ encoded (table_of s) ++ drop end l
  unfolding encoded table_of
  two_parts =
      let n : length b ≡ t = ap length eb ∙ (length_board_part s.present s.board ∙ sym start) in
      let first : put_mid 0 (t - 0) l b ≡ b ++ drop t l = part_put [] b l 0 t refl (omega arith) in
      ap (λ (p : List ℕ). put_mid t (end - t) p es) first
      ∙ (part_put b es l t end n (omega arith)
      ∙ (ap (λ (x : List ℕ). (x ++ es) ++ drop end l) eb
      ∙ ap (λ (x : List ℕ). (cond s.present (encode_board s.board) [] ++ x) ++ drop end l) ee))

  pub all_parts : (rest : List ℕ) → rest ≡ replicate (length (take (length l - end) (drop end two))) 255
      → put_mid end (length l - end) two rest ≡ encoded (table_of s) ++ replicate (length l - length (encoded (table_of s))) 255
  all_parts rest er =
      let done = encoded (table_of s) in
      let n : length done ≡ end = length_encoded s z ∙ ap (λ (k : ℕ). k + (s.n + s.m) * 32) (sym start) in
      let whole : length two ≡ length l =
      ap length two_parts ∙ (length-append done (drop end l) ∙ (ap (λ (k : ℕ). length done + k) (length-drop end l) ∙ omega arith)) in
      let width : length (take (length l - end) (drop end two)) ≡ length l - length done =
      length-take-le (length l - end) (drop end two) (rw (length-drop end two) (omega arith)) ∙ ap (λ (k : ℕ). length l - k) (sym n) in
      ap (λ (p : List ℕ). put_mid end (length l - end) p rest) two_parts
      ∙ (part_put done rest l end (length l) n (omega arith)
      ∙ (ap (λ (m : List ℕ). (done ++ rest) ++ m) (drop-length l)
      ∙ (append-nil (done ++ rest) ∙ ap (λ (m : List ℕ). done ++ m) (er ∙ ap (λ (k : ℕ). replicate k 255) width))))
