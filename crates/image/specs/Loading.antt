-- Loading: the records from the front, each with the table so far (01, "The image" and "Numbers that come back").
use Rattle.std.specs.Prelude.{ℕ, suc, ◌/◌, ◌%◌, Bool, true, false, not, ◌||◌, List, [], ◌∷◌, eqb, leb, ltb, length, Result, Ok, Err}
use Rattle.fields.specs.Parts.{parts_of}
use Rattle.table.specs.Entries.{built_in}
use Rattle.table.specs.Refusals.{first_of, answered, number_of}
use Rattle.table.specs.WellFormed.{task_before, sem_before, used}
use Rattle.executive.specs.Reading.{Reading}
use Rattle.executive.specs.Reading.{refused_load, finished_load}
use Rattle.executive.specs.Tables.{Table, add_task, add_sem, add_board, state_of}
use Rattle.table.specs.declared.refusals.Refusal.{Refusal}
use Rattle.records.specs.declared.Record.{Record}
use Rattle.records.specs.declared.Record.TheVariants.{Erased, Task as TaskRecord, Board as BoardRecord, Sem as SemRecord}
use Rattle.records.specs.Records.{decoded}

-- 01, "The image": before the first record. The built-in figures hold if there is no board record
unfoldable pub fresh_table : Table
fresh_table = record { tasks = []; sems = []; board = built_in; present = false }

-- the table with what a record says
unfoldable pub taken : Table → Result Record Refusal → Table
taken t (Ok Erased) = t
taken t (Ok (TaskRecord x)) = add_task t x
taken t (Ok (BoardRecord b)) = add_board t b
taken t (Ok (SemRecord x)) = add_sem t x
taken t (Err why) = t

-- whether an erased record has come, once this record is read
unfoldable pub erased_after : Bool → Result Record Refusal → Bool
erased_after erased (Ok Erased) = true
erased_after erased (Ok (TaskRecord x)) = erased
erased_after erased (Ok (BoardRecord b)) = erased
erased_after erased (Ok (SemRecord x)) = erased
erased_after erased (Err why) = erased

-- 3: used record after an erased one
unfoldable pub used_after : Bool → Result Record Refusal → Bool
used_after erased (Ok Erased) = false
used_after erased (Ok (TaskRecord x)) = erased
used_after erased (Ok (BoardRecord b)) = erased
used_after erased (Ok (SemRecord x)) = erased
used_after erased (Err why) = erased

-- 2: unknown kind. 4: a zero byte not zero, or a field out of its range
unfoldable pub refused_as : ℕ → Result Record Refusal → Bool
refused_as number (Ok said) = false
refused_as number (Err why) = eqb (number_of why) number

-- an entry may stand behind these: there is none, or it stands after the last of them
unfoldable pub follows : {A : Type 0} → (A → A → Bool) → List A → A → Bool
follows before [] x = true
follows before (y ∷ []) x = before y x
follows before (y ∷ z ∷ rest) x = follows before (z ∷ rest) x

-- 5: order broken. At most one board record, first; then tasks, each after the one before; then semaphores, each after the one before
unfoldable pub order_broken : Table → Result Record Refusal → Bool
order_broken t (Ok Erased) = false
order_broken t (Ok (BoardRecord b)) = t.present || ltb 0 (length t.tasks) || ltb 0 (length t.sems)
order_broken t (Ok (TaskRecord x)) = ltb 0 (length t.sems) || not (follows task_before t.tasks x)
order_broken t (Ok (SemRecord x)) = not (follows sem_before t.sems x)
order_broken t (Err why) = false

-- 8: task number used twice
unfoldable pub number_twice : Table → Result Record Refusal → Bool
number_twice t (Ok Erased) = false
number_twice t (Ok (TaskRecord x)) = used x.number t.tasks
number_twice t (Ok (BoardRecord b)) = false
number_twice t (Ok (SemRecord x)) = false
number_twice t (Err why) = false

-- 6: 65th task or 17th semaphore
unfoldable pub too_many : Table → Result Record Refusal → Bool
too_many t (Ok Erased) = false
too_many t (Ok (TaskRecord x)) = leb 64 (length t.tasks)
too_many t (Ok (BoardRecord b)) = false
too_many t (Ok (SemRecord x)) = leb 16 (length t.sems)
too_many t (Err why) = false

-- 01, "Numbers that come back": each record in the order 3, 2, 4, 5, 8, 6, with the table so far and whether an erased record came before
unfoldable pub refusal_of : Bool → Table → Result Record Refusal → ℕ
refusal_of erased t d =
    first_of
    ((3, used_after erased d) ∷ (2, refused_as 2 d) ∷ (4, refused_as 4 d) ∷ (5, order_broken t d) ∷ (8, number_twice t d) ∷ (6, too_many t d) ∷ [])

-- the records from the front, each at its place
unfoldable pub load_from : Table → Bool → ℕ → List (List ℕ) → Reading
load_from t erased at [] = finished_load (state_of t) at
load_from t erased at (r ∷ rest) =
    answered (refusal_of erased t (decoded r)) (λ k. refused_load k at)
    (load_from (taken t (decoded r)) (erased_after erased (decoded r)) (suc at) rest)

-- the records of 32 bytes, as many as there are
abbrev pub records_in : ℕ → List ℕ → List (List ℕ)
records_in = parts_of 32

-- 1: image length not a multiple of 32, or above 4,096
unfoldable pub bad_length : ℕ → Bool
bad_length bytes = not (eqb (bytes % 32) 0) || ltb 4096 bytes

-- the records of an image, from its first
unfoldable pub load_records : List ℕ → Reading
load_records image = load_from fresh_table false 0 (records_in (length image / 32) image)

-- 01, "Numbers that come back": loading checks 1, then each record from the front, then 7
unfoldable pub load_of : List ℕ → Reading
load_of image = answered (first_of ((1, bad_length (length image)) ∷ [])) (λ k. refused_load k 0) (load_records image)
