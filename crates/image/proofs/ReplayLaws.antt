-- Loading what was encoded replays the entries, one record each; and a load that is accepted was of such records.
-- Assumes nothing.
use Prim.Native.Nat.{ℕ, zero, suc, ◌+◌, ◌*◌, ◌≤◌}
use mathlib.Core.Path.{◌≡◌, refl, sym, ap, ◌∙◌, subst}
use mathlib.Core.Bool.{Bool, true, false, cond, not}
use mathlib.Core.List.{List, [], ◌∷◌, ◌++◌, map, append_assoc, append-nil}
use native.Mathlib.Nat.{zero-add, mul-suc, add_comm}
use native.Mathlib.Omega.{arith}
use lib.Dec.{eqb}
use lib.ListN.{length, take, drop, replicate, length-append, take-append-drop, replicate-append-replicate}
use lib.Seq.{take_at, drop_at, append_snoc, length-take-le}
use borrow.Author.Tests.{eqb-true, eqb-false, le-ltb, lt-leb}
use Rattle.table.specs.declared.Task.{Task}
use Rattle.table.specs.declared.Sem.{Sem}
use Rattle.table.specs.declared.Board.{Board}
use Rattle.table.specs.Entries.{loaded_task, loaded_sem}
use Rattle.table.specs.WellFormed.{task_in_range, sem_in_range, task_before, sem_before, used_once}
use Rattle.executive.specs.Tables.{Table, add_task, add_sem, add_board, state_of}
use Rattle.executive.proofs.TableLaws.{same_table}
use Rattle.executive.proofs.ReadingLaws.{finished_some, accepted_end}
use Rattle.fields.specs.Fields.{all_are, Bytes}
use Rattle.fields.specs.Parts.{parts_of, flat}
use Rattle.fields.proofs.ByteLaws.{all_replicate}
use Rattle.fields.proofs.PartLaws.{nothing, front_bytes, flat_more, parts_flat}
use Rattle.table.specs.declared.refusals.Refusal.{Refusal}
use Rattle.table.specs.declared.refusals.Refusal.TheVariants.{UnknownKind, OutOfRange}
use Rattle.records.specs.declared.Record.{Record}
use Rattle.std.specs.Prelude.{Result, Ok, Err}
use Rattle.records.specs.declared.Record.TheVariants.{Erased, Task as TaskRecord, Board as BoardRecord, Sem as SemRecord}
use Rattle.records.specs.Records.{decoded, encode_task, encode_board, encode_sem}
use Rattle.records.proofs.RecordLaws.{Said, erased, task, board, sem, unknown, bad, said, decoded_task, decoded_board, decoded_sem, decoded_erased, length_task, length_board, length_sem}
use Rattle.executive.specs.Reading.{Reading}
use Rattle.executive.specs.Reading.{accepted_load}
use Rattle.image.specs.Loading.{fresh_table, taken, erased_after, refusal_of, used_after, refused_as, order_broken, number_twice, too_many, load_from, records_in}
use Rattle.image.specs.Writing.{encoded}
use Rattle.image.proofs.LoadLaws.{load_go, load_stop, Passed, passed, passes}
use Rattle.image.proofs.GrowLaws.{Listed, Next, listed_at, used_before_lem, Growing, grow, task_passed, board_passed}

-- one record more, of which is known what it says and that it passes
load_on : (t : Table) (e : Bool) (place : ℕ) (r : List ℕ) (d : Result Record Refusal) (rest : List (List ℕ)) → decoded r ≡ d → Passed e t d
    → load_from t e place (r ∷ rest) ≡ load_from (taken t d) (erased_after e d) (suc place) rest
load_on t e place r d rest so p =
    load_go t e place r rest (ap (refusal_of e t) so ∙ passes e t d p)
    ∙ ap (λ (x : Result Record Refusal). load_from (taken t x) (erased_after e x) (suc place) rest) so

-- a load that has come to a table of which something is so, with the records that are left
pub record Reached (Here : Table → Type 0) (rest : List (List ℕ)) (answer : Reading) : Type 0 where
  pub table : Table
  pub so : Here table
  pub place : ℕ
  pub goes : answer ≡ load_from table false place rest

-- entries of one kind, replayed in their order: `Left t xs` is what is so of the table so far where the entries xs are still to come
module _ {A : Type 0} (encode : A → List ℕ) (say : A → Result Record Refusal) (Left : Table → List A → Type 0)
    (clear : (x : A) → erased_after false (say x) ≡ false)
    (says : (t : Table) (x : A) (xs : List A) → Left t (x ∷ xs) → decoded (encode x) ≡ say x)
    (pass : (t : Table) (x : A) (xs : List A) → Left t (x ∷ xs) → Passed false t (say x))
    (on : (t : Table) (x : A) (xs : List A) → Left t (x ∷ xs) → Left (taken t (say x)) xs) where
  replay : (xs : List A) (t : Table) (place : ℕ) → Left t xs → (rest : List (List ℕ))
      → Reached (λ u. Left u []) rest (load_from t false place (map encode xs ++ rest))
  replay [] t place h rest = record { table = t; so = h; place = place; goes = refl }
  replay (x ∷ xs) t place h rest =
      let there = replay xs (taken t (say x)) (suc place) (on t x xs h) rest in
      record {
        table = there.table;
        so = there.so;
        place = there.place;
        goes =
            load_on t false place (encode x) (say x) (map encode xs ++ rest) (says t x xs h) (pass t x xs h)
            ∙ (ap (λ (e : Bool). load_from (taken t (say x)) e (suc place) (map encode xs ++ rest)) (clear x) ∙ there.goes);
      }

-- the entries of a table that may be loaded are replayed in their order
module _ (goal : Table) (well : Growing goal) where
  -- the table so far, with the tasks and the semaphores that are still to come
  pub record Left (t : Table) (ts : List Task) (ss : List Sem) : Type 0 where
    pub tasks : goal.tasks ≡ t.tasks ++ ts
    pub sems : goal.sems ≡ t.sems ++ ss
    pub board : t.board ≡ goal.board
    pub present : t.present ≡ goal.present

  none_yet : (t : Table) (ts : List Task) → Left t ts goal.sems → length t.sems ≡ 0
  none_yet t ts h = let n = ap length h.sems ∙ length-append t.sems goal.sems in omega arith

  next_task : (t : Table) (x : Task) (xs : List Task) → Left t (x ∷ xs) goal.sems → Next task_in_range task_before loaded_task 64 t.tasks x
  next_task t x xs h = listed_at task_in_range task_before loaded_task 64 t.tasks x xs (subst (Listed task_in_range task_before loaded_task 64) h.tasks well.tasks)

  next_sem : (t : Table) (x : Sem) (xs : List Sem) → Left t [] (x ∷ xs) → Next sem_in_range sem_before loaded_sem 16 t.sems x
  next_sem t x xs h = listed_at sem_in_range sem_before loaded_sem 16 t.sems x xs (subst (Listed sem_in_range sem_before loaded_sem 16) h.sems well.sems)

  task_next : (t : Table) (x : Task) (xs : List Task) → Left t (x ∷ xs) goal.sems → Passed false t (Ok (TaskRecord x))
  unfolding used_after refused_as order_broken number_twice too_many
  task_next t x xs h =
      let n = next_task t x xs h in
      let none = none_yet t (x ∷ xs) h in
      record {
        not_after = refl;
        known = refl;
        in_range = refl;
        in_order = simp (le-ltb 0 (length t.sems) (omega arith), n.after);
        new = used_before_lem t.tasks x xs (ap used_once (sym h.tasks) ∙ well.numbers);
        room = lt-leb 64 (length t.tasks) n.room;
      }

  sem_next : (t : Table) (x : Sem) (xs : List Sem) → Left t [] (x ∷ xs) → Passed false t (Ok (SemRecord x))
  unfolding used_after refused_as order_broken number_twice too_many
  sem_next t x xs h =
      let n = next_sem t x xs h in
      record {
        not_after = refl;
        known = refl;
        in_range = refl;
        in_order = ap not n.after;
        new = refl;
        room = lt-leb 16 (length t.sems) n.room;
      }

  task_on : (t : Table) (x : Task) (xs : List Task) → Left t (x ∷ xs) goal.sems → Left (taken t (Ok (TaskRecord x))) xs goal.sems
  unfolding taken add_task
  task_on t x xs h = record { tasks = h.tasks ∙ sym (append_snoc t.tasks x xs); sems = h.sems; board = h.board; present = h.present }

  sem_on : (t : Table) (x : Sem) (xs : List Sem) → Left t [] (x ∷ xs) → Left (taken t (Ok (SemRecord x))) [] xs
  unfolding taken add_sem
  sem_on t x xs h = record { tasks = h.tasks; sems = h.sems ∙ sym (append_snoc t.sems x xs); board = h.board; present = h.present }

  -- the tasks and the semaphores, behind a table that has none yet
  both_in : (t : Table) (place : ℕ) → Left t goal.tasks goal.sems → (rest : List (List ℕ))
      → Reached (λ u. u ≡ goal) rest (load_from t false place (map encode_task goal.tasks ++ (map encode_sem goal.sems ++ rest)))
  unfolding erased_after
  both_in t place h rest =
      let first =
      replay encode_task (λ x. Ok (TaskRecord x)) (λ u xs. Left u xs goal.sems) (λ x. refl)
      (λ u x xs k. let n = next_task u x xs k in decoded_task x n.range ∙ ap (λ (y : Task). Ok (TaskRecord y)) n.idle) task_next task_on
      goal.tasks t place h (map encode_sem goal.sems ++ rest) in
      let second =
      replay encode_sem (λ x. Ok (SemRecord x)) (λ u xs. Left u [] xs) (λ x. refl)
      (λ u x xs k. let n = next_sem u x xs k in decoded_sem x n.range ∙ ap (λ (y : Sem). Ok (SemRecord y)) n.idle) sem_next sem_on
      goal.sems first.table first.place first.so rest in
      let end = second.so in
      record {
        table = second.table;
        so =
            same_table second.table goal (sym (end.tasks ∙ append-nil second.table.tasks)) (sym (end.sems ∙ append-nil second.table.sems))
            end.board end.present;
        place = second.place;
        goes = first.goes ∙ second.goes;
      }

  -- the whole table, from the first record on: with a board record, and without one
  all_in : (flag : Bool) → goal.present ≡ flag → (rest : List (List ℕ))
      → Reached (λ u. u ≡ goal) rest
      (load_from fresh_table false 0
      (cond flag (encode_board goal.board ∷ []) [] ++ (map encode_task goal.tasks ++ (map encode_sem goal.sems ++ rest))))
  unfolding fresh_table taken add_board erased_after used_after refused_as order_broken number_twice too_many
  all_in false e rest = both_in fresh_table 0 (record { tasks = refl; sems = refl; board = sym (well.absent e); present = sym e }) rest
  all_in true e rest =
      let b = goal.board in
      let others = map encode_task goal.tasks ++ (map encode_sem goal.sems ++ rest) in
      let first =
      load_on fresh_table false 0 (encode_board b) (Ok (BoardRecord b)) others (decoded_board b well.figures)
      (record { not_after = refl; known = refl; in_range = refl; in_order = refl; new = refl; room = refl }) in
      let second = both_in (taken fresh_table (Ok (BoardRecord b))) 1 (record { tasks = refl; sems = refl; board = refl; present = sym e }) rest in
      record { table = second.table; so = second.so; place = second.place; goes = first ∙ second.goes }

-- so many bytes 255
abbrev pub erased_bytes : ℕ → List ℕ
erased_bytes n = replicate n 255

-- erased records, one behind the other
erased_bytes_lem : (e : ℕ) → erased_bytes (32 * suc e) ≡ erased_bytes 32 ++ erased_bytes (32 * e)
erased_bytes_lem e = ap (λ (k : ℕ). erased_bytes k) (mul-suc 32 e ∙ add_comm (32 * e) 32) ∙ sym (replicate-append-replicate 32 (32 * e) 255)

erased_step : (t : Table) (e : Bool) (place : ℕ) (rest : List (List ℕ)) → load_from t e place (erased_bytes 32 ∷ rest) ≡ load_from t true (suc place) rest
unfolding taken erased_after used_after refused_as order_broken number_twice too_many
erased_step t e place rest =
    load_on t e place (erased_bytes 32) (Ok Erased) rest decoded_erased
    (record { not_after = refl; known = refl; in_range = refl; in_order = refl; new = refl; room = refl })

-- erased records at the end change nothing
erased_in : (k : ℕ) (t : Table) (e : Bool) (place : ℕ) → 1 ≤ length t.tasks → load_from t e place (records_in k (erased_bytes (32 * k))) ≡ accepted_load (state_of t)
unfolding parts_of load_from state_of
erased_in zero t e place h = finished_some (state_of t) place h
erased_in (suc k) t e place h =
    let bytes = erased_bytes (32 * suc k) in
    let here : take 32 bytes ≡ erased_bytes 32 = ap (take 32) (erased_bytes_lem k) ∙ take_at (erased_bytes 32) (erased_bytes (32 * k)) 32 refl in
    let rest : drop 32 bytes ≡ erased_bytes (32 * k) = ap (drop 32) (erased_bytes_lem k) ∙ drop_at (erased_bytes 32) (erased_bytes (32 * k)) 32 refl in
    ap (λ (r : List ℕ). load_from t e place (r ∷ records_in k (drop 32 bytes))) here
    ∙ (ap (λ (l : List ℕ). load_from t e place (erased_bytes 32 ∷ records_in k l)) rest ∙ erased_step t e place (records_in k (erased_bytes (32 * k)))
    ∙ erased_in k t true (suc place) h)

one_record : (b : Board) (k : ℕ) (l : List ℕ) → records_in (1 + k) ((encode_board b ++ []) ++ l) ≡ encode_board b ∷ records_in k l
unfolding flat
one_record b k l = parts_flat encode_board 32 length_board (b ∷ []) k l

-- the whole answer for the image of a table that may be loaded, whose entries are as after loading
pub replayed : (goal : Table) → Growing goal → 1 ≤ length goal.tasks → (e count : ℕ)
    → count ≡ cond goal.present 1 0 + (length goal.tasks + (length goal.sems + e))
    → load_from fresh_table false 0 (records_in count (encoded goal ++ erased_bytes (32 * e))) ≡ accepted_load (state_of goal)
unfolding encoded
replayed goal well some e count n =
    let b = goal.board in
    let tail = erased_bytes (32 * e) in
    let ts = flat encode_task goal.tasks in
    let ss = flat encode_sem goal.sems in
    let back = length goal.sems + e in
    let reached = all_in goal well goal.present refl (records_in e tail) in
    let entries : records_in (length goal.tasks + back) (ts ++ (ss ++ tail)) ≡ map encode_task goal.tasks ++ (map encode_sem goal.sems ++ records_in e tail) =
    parts_flat encode_task 32 length_task goal.tasks back (ss ++ tail)
    ∙ ap (λ (l : List (List ℕ)). map encode_task goal.tasks ++ l) (parts_flat encode_sem 32 length_sem goal.sems e tail) in
    let split : records_in count (encoded goal ++ tail)
    ≡ cond goal.present (encode_board b ∷ []) [] ++ (map encode_task goal.tasks ++ (map encode_sem goal.sems ++ records_in e tail)) =
    ap (λ (k : ℕ). records_in k (encoded goal ++ tail)) n
    ∙ (ap (records_in (cond goal.present 1 0 + (length goal.tasks + back)))
    (append_assoc (cond goal.present (encode_board b) []) (ts ++ ss) tail
    ∙ ap (λ (l : List ℕ). cond goal.present (encode_board b) [] ++ l) (append_assoc ts ss tail))
    ∙ (board_split goal.present b (length goal.tasks + back) (ts ++ (ss ++ tail))
    ∙ ap (λ (l : List (List ℕ)). cond goal.present (encode_board b ∷ []) [] ++ l) entries)) in
    ap (load_from fresh_table false 0) split
    ∙ (reached.goes
    ∙ (ap (λ (t : Table). load_from t false reached.place (records_in e tail)) reached.so ∙ erased_in e goal false reached.place some))
  where
    board_split : (flag : Bool) (b : Board) (k : ℕ) (l : List ℕ)
        → records_in (cond flag 1 0 + k) (cond flag (encode_board b) [] ++ l) ≡ cond flag (encode_board b ∷ []) [] ++ records_in k l
    board_split true b k l =
        ap (λ (m : List ℕ). records_in (1 + k) (m ++ l)) (sym (append-nil (encode_board b))) ∙ one_record b k l
    board_split false b k l = ap (λ (j : ℕ). records_in j l) (zero-add k)

-- a load that is accepted refused no record
accepted_record : (t : Table) (e : Bool) (place : ℕ) (r : List ℕ) (rest : List (List ℕ)) → (load_from t e place (r ∷ rest)).number ≡ 0
    → refusal_of e t (decoded r) ≡ 0
accepted_record t e place r rest h = go (eqb (refusal_of e t (decoded r)) 0) refl
  where
    go : (b : Bool) → eqb (refusal_of e t (decoded r)) 0 ≡ b → refusal_of e t (decoded r) ≡ 0
    go true z = eqb-true (refusal_of e t (decoded r)) 0 z
    go false z = sym (ap (λ (l : Reading). l.number) (load_stop t e place r rest (eqb-false (refusal_of e t (decoded r)) 0 z))) ∙ h

-- behind an erased record there are erased records only
record Rest (t : Table) (k : ℕ) (l : List ℕ) (answer : Reading) : Type 0 where
  some : 1 ≤ length t.tasks
  bytes : l ≡ erased_bytes (32 * k)
  same : answer ≡ accepted_load (state_of t)

-- a used record after an erased one is not accepted
not_used : {A : Type 0} (t : Table) (d : Result Record Refusal) → used_after true d ≡ true → Passed true t d → A
not_used t d so p = let z : ◌≡◌ {A = ℕ} 0 1 = let h : false ≡ true = sym p.not_after ∙ so in cc in absurd (omega arith)

-- the first record, and the answer from there and from behind it
module _ (k : ℕ) (l : List ℕ) (t : Table) (place : ℕ) where
  abbrev answer_from : Bool → Reading
  answer_from e = load_from t e place (take 32 l ∷ records_in k (drop 32 l))

  abbrev answer_behind : Table → Bool → Reading
  answer_behind u e = load_from u e (suc place) (records_in k (drop 32 l))

  -- one erased record before others
  rest_more : (e : Bool) → length l ≡ 32 * suc k → all_are 255 (take 32 l) ≡ true
      → ((answer_behind t true).number ≡ 0 → Rest t k (drop 32 l) (answer_behind t true)) → (answer_from e).number ≡ 0 → Rest t (suc k) l (answer_from e)
  rest_more e n all others h =
      let first : take 32 l ≡ erased_bytes 32 = all_replicate 255 (take 32 l) all ∙ ap erased_bytes (length-take-le 32 l (omega arith)) in
      let goes = ap (λ (r : List ℕ). load_from t e place (r ∷ records_in k (drop 32 l))) first ∙ erased_step t e place (records_in k (drop 32 l)) in
      let rest = others (sym (ap (λ (a : Reading). a.number) goes) ∙ h) in
      record {
        some = rest.some;
        bytes = sym (take-append-drop 32 l) ∙ (ap (λ (m : List ℕ). m ++ drop 32 l) first ∙ (ap (λ (m : List ℕ). erased_bytes 32 ++ m) rest.bytes ∙ sym (erased_bytes_lem k)));
        same = goes ∙ rest.same;
      }

  rest_case : length l ≡ 32 * suc k → (d : Result Record Refusal) → Said (take 32 l) d → Passed true t d
      → ((answer_behind t true).number ≡ 0 → Rest t k (drop 32 l) (answer_behind t true)) → (answer_from true).number ≡ 0
      → Rest t (suc k) l (answer_from true)
  unfolding used_after
  rest_case n d (erased all) p others h = rest_more true n all others h
  rest_case n (Ok (TaskRecord x)) (task a b c) p others h = not_used t (Ok (TaskRecord x)) refl p
  rest_case n (Ok (BoardRecord x)) (board a b) p others h = not_used t (Ok (BoardRecord x)) refl p
  rest_case n (Ok (SemRecord x)) (sem a b c) p others h = not_used t (Ok (SemRecord x)) refl p
  rest_case n d unknown p others h = not_used t (Err UnknownKind) refl p
  rest_case n d bad p others h = not_used t (Err OutOfRange) refl p

rest_of : (k : ℕ) (l : List ℕ) (t : Table) (place : ℕ) → length l ≡ 32 * k → Bytes l
    → (load_from t true place (records_in k l)).number ≡ 0 → Rest t k l (load_from t true place (records_in k l))
unfolding parts_of load_from state_of
rest_of zero l t place n bytes h =
    let some = accepted_end (state_of t) place h in record { some = some; bytes = nothing l n; same = finished_some (state_of t) place some }
rest_of (suc k) l t place n bytes h =
    let parts = front_bytes 32 k l n bytes in
    let r = take 32 l in
    rest_case k l t place n (decoded r) (said r parts.0 parts.1)
    (passed true t (decoded r) (accepted_record t true place r (records_in k (drop 32 l)) h))
    (rest_of k (drop 32 l) t (suc place) parts.2 parts.3) h

-- one entry more is one record more
encoded_task : (t : Table) (x : Task) → t.sems ≡ [] → encoded (taken t (Ok (TaskRecord x))) ≡ encoded t ++ encode_task x
unfolding encoded taken add_task add_board flat
encoded_task t x none =
    let b = cond t.present (encode_board t.board) [] in
    let ts = flat encode_task t.tasks in
    let e = encode_task x in
    ap (λ (l : List Sem). b ++ (flat encode_task (t.tasks ++ x ∷ []) ++ flat encode_sem l)) none
    ∙ (ap (λ (m : List ℕ). b ++ m) (append-nil (flat encode_task (t.tasks ++ x ∷ [])) ∙ flat_more encode_task t.tasks x)
    ∙ (sym (append_assoc b ts e)
    ∙ (ap (λ (m : List ℕ). (b ++ m) ++ e) (sym (append-nil ts)) ∙ ap (λ (l : List Sem). (b ++ (ts ++ flat encode_sem l)) ++ e) (sym none))))

encoded_sem : (t : Table) (x : Sem) → encoded (taken t (Ok (SemRecord x))) ≡ encoded t ++ encode_sem x
unfolding encoded taken add_sem
encoded_sem t x =
    let b = cond t.present (encode_board t.board) [] in
    let ts = flat encode_task t.tasks in
    let ss = flat encode_sem t.sems in
    let e = encode_sem x in
    ap (λ (m : List ℕ). b ++ (ts ++ m)) (flat_more encode_sem t.sems x)
    ∙ (ap (λ (m : List ℕ). b ++ m) (sym (append_assoc ts ss e)) ∙ sym (append_assoc b (ts ++ ss) e))

encoded_board : (t : Table) (b : Board) → t.present ≡ false → t.tasks ≡ [] → t.sems ≡ [] → encoded (taken t (Ok (BoardRecord b))) ≡ encoded t ++ encode_board b
unfolding encoded taken add_task add_board flat
encoded_board t b absent no_task no_sem =
    ap (λ (l : List Task). encode_board b ++ (flat encode_task l ++ flat encode_sem t.sems)) no_task
    ∙ (ap (λ (l : List Sem). encode_board b ++ flat encode_sem l) no_sem
    ∙ (append-nil (encode_board b)
    ∙ (ap (λ (l : List Sem). flat encode_sem l ++ encode_board b) (sym no_sem)
    ∙ (ap (λ (l : List Task). (flat encode_task l ++ flat encode_sem t.sems) ++ encode_board b) (sym no_task)
    ∙ ap (λ (flag : Bool). (cond flag (encode_board t.board) [] ++ (flat encode_task t.tasks ++ flat encode_sem t.sems)) ++ encode_board b) (sym absent)))))

-- an accepted load: the table that was read, and what its bytes were
pub record Ended (t : Table) (l : List ℕ) (answer : Reading) : Type 0 where
  pub table : Table
  pub growing : Growing table
  pub some : 1 ≤ length table.tasks
  pub same : answer ≡ accepted_load (state_of table)
  pub gone : ℕ
  pub bytes : encoded t ++ l ≡ encoded table ++ erased_bytes (32 * gone)

-- a record that is refused was not accepted
not_refused : {A : Type 0} (b : Bool) → b ≡ true → b ≡ false → A
not_refused b h k = let z : ◌≡◌ {A = ℕ} 0 1 = cc in absurd (omega arith)

module _ (k : ℕ) (l : List ℕ) (t : Table) (place : ℕ) where
  -- a used record before others
  ended_more : (d : Result Record Refusal) → decoded (take 32 l) ≡ d → erased_after false d ≡ false → encoded (taken t d) ≡ encoded t ++ take 32 l
      → (answer_from k l t place false).number ≡ 0
      → ((answer_behind k l t place (taken t d) false).number ≡ 0 → Ended (taken t d) (drop 32 l) (answer_behind k l t place (taken t d) false))
      → Ended t l (answer_from k l t place false)
  ended_more d e clear grown h others =
      let goes : answer_from k l t place false ≡ answer_behind k l t place (taken t d) false =
      load_go t false place (take 32 l) (records_in k (drop 32 l)) (accepted_record t false place (take 32 l) (records_in k (drop 32 l)) h)
      ∙ (ap (λ (x : Result Record Refusal). answer_behind k l t place (taken t x) (erased_after false x)) e ∙ ap (answer_behind k l t place (taken t d)) clear) in
      let end = others (sym (ap (λ (a : Reading). a.number) goes) ∙ h) in
      record {
        table = end.table;
        growing = end.growing;
        some = end.some;
        same = goes ∙ end.same;
        gone = end.gone;
        bytes =
            ap (λ (m : List ℕ). encoded t ++ m) (sym (take-append-drop 32 l))
            ∙ (sym (append_assoc (encoded t) (take 32 l) (drop 32 l)) ∙ (ap (λ (m : List ℕ). m ++ drop 32 l) (sym grown) ∙ end.bytes));
      }

  ended_case : Growing t → length l ≡ 32 * suc k → Bytes l → (d : Result Record Refusal) → decoded (take 32 l) ≡ d → Said (take 32 l) d → Passed false t d
      → (answer_from k l t place false).number ≡ 0
      → ((u : Table) → Growing u → (answer_behind k l t place u false).number ≡ 0 → Ended u (drop 32 l) (answer_behind k l t place u false))
      → Ended t l (answer_from k l t place false)
  unfolding erased_after refused_as
  ended_case g n bytes d e (erased all) p h others =
      let parts = front_bytes 32 k l n bytes in
      let rest = rest_more k l t place false n all (rest_of k (drop 32 l) t (suc place) parts.2 parts.3) h in
      record { table = t; growing = g; some = rest.some; same = rest.same; gone = suc k; bytes = ap (λ (m : List ℕ). encoded t ++ m) rest.bytes }
  ended_case g n bytes (Ok (TaskRecord x)) e (task same range loaded) p h others =
      let none = nothing t.sems (task_passed t x p).0 in
      ended_more (Ok (TaskRecord x)) e refl (encoded_task t x none ∙ ap (λ (m : List ℕ). encoded t ++ m) same) h
      (others (taken t (Ok (TaskRecord x))) (grow t {r = take 32 l} {d = Ok (TaskRecord x)} g (task same range loaded) p))
  ended_case g n bytes (Ok (BoardRecord x)) e (board same range) p h others =
      let first = board_passed t x p in
      ended_more (Ok (BoardRecord x)) e refl
      (encoded_board t x first.0 (nothing t.tasks first.1) (nothing t.sems first.2) ∙ ap (λ (m : List ℕ). encoded t ++ m) same) h
      (others (taken t (Ok (BoardRecord x))) (grow t {r = take 32 l} {d = Ok (BoardRecord x)} g (board same range) p))
  ended_case g n bytes (Ok (SemRecord x)) e (sem same range loaded) p h others =
      ended_more (Ok (SemRecord x)) e refl (encoded_sem t x ∙ ap (λ (m : List ℕ). encoded t ++ m) same) h
      (others (taken t (Ok (SemRecord x))) (grow t {r = take 32 l} {d = Ok (SemRecord x)} g (sem same range loaded) p))
  ended_case g n bytes d e unknown p h others = not_refused (refused_as 2 (Err UnknownKind)) refl p.known
  ended_case g n bytes d e bad p h others = not_refused (refused_as 4 (Err OutOfRange)) refl p.in_range

pub ended_of : (k : ℕ) (l : List ℕ) (t : Table) (place : ℕ) → Growing t → length l ≡ 32 * k → Bytes l
    → (load_from t false place (records_in k l)).number ≡ 0 → Ended t l (load_from t false place (records_in k l))
unfolding parts_of load_from state_of
ended_of zero l t place g n bytes h =
    let some = accepted_end (state_of t) place h in
    record {
      table = t;
      growing = g;
      some = some;
      same = finished_some (state_of t) place some;
      gone = 0;
      bytes = ap (λ (m : List ℕ). encoded t ++ m) (nothing l n);
    }
ended_of (suc k) l t place g n bytes h =
    let parts = front_bytes 32 k l n bytes in
    let r = take 32 l in
    ended_case k l t place g n bytes (decoded r) refl (said r parts.0 parts.1)
    (passed false t (decoded r) (accepted_record t false place r (records_in k (drop 32 l)) h)) h
    (λ u g h. ended_of k (drop 32 l) u (suc place) g parts.2 parts.3 h)
