-- 01's words for when loading gives each number, and with which place ("Numbers that come back").
use Rattle.std.specs.Prelude.{ℕ, suc, ◌/◌, ◌%◌, ◌≤◌, ◌<◌, ◌≡◌, ◌≢◌, ◌⊎◌, Bool, true, false, List, [], ◌∷◌, ◌++◌, length, get_or, Result, Ok, Err}
use Rattle.table.specs.declared.Board.{Board}
use Rattle.table.specs.declared.Task.{Task}
use Rattle.table.specs.declared.Sem.{Sem}
use Rattle.table.specs.Entries.{blank_task}
use Rattle.executive.specs.Tables.{Table}
use Rattle.table.specs.declared.refusals.Refusal.{Refusal}
use Rattle.table.specs.declared.refusals.Refusal.TheVariants.{UnknownKind, OutOfRange}
use Rattle.records.specs.declared.Record.{Record}
use Rattle.records.specs.declared.Record.TheVariants.{Erased, Task as TaskRecord, Board as BoardRecord, Sem as SemRecord}
use Rattle.records.specs.Records.{decoded}
use Rattle.image.specs.Loading.{fresh_table, taken, erased_after, records_in}
use Rattle.theorems.specs.When.{FirstThat}

-- the last of these entries: the one before the next
abbrev pub IsLast : {A : Type 0} → List A → A → Type 0
IsLast {A} l y = (others : List A) × (l ≡ others ++ y ∷ [])

-- a task of a lower queue than the one before it, or not after it by period and number
abbrev pub NotAfter : Task → Task → Type 0
NotAfter x before =
    (x.queue < before.queue) ⊎ ((x.period < before.period) ⊎ ((x.period ≡ before.period) × (x.number ≤ before.number)))

-- 5: a board record that is not the first record, and so also a second one; a task behind a semaphore, or not after the task before it; a semaphore whose number
-- is not above that of the one before it
abbrev pub OrderBroken : Table → ℕ → Result Record Refusal → Type 0
OrderBroken t at d =
    ((b : Board) × (d ≡ Ok (BoardRecord b)) × (at ≢ 0))
    ⊎ (((x : Task) × (d ≡ Ok (TaskRecord x)) × ((0 < length t.sems) ⊎ ((y : Task) × IsLast t.tasks y × NotAfter x y)))
    ⊎ ((x : Sem) × (d ≡ Ok (SemRecord x)) × ((y : Sem) × IsLast t.sems y × (x.number ≤ y.number))))

-- 8: some task before has that number
abbrev pub NumberTwice : Table → Result Record Refusal → Type 0
NumberTwice t d =
    (x : Task) × (d ≡ Ok (TaskRecord x)) × ((i : ℕ) × (i < length t.tasks) × ((get_or t.tasks i blank_task).number ≡ x.number))

-- 6: a 65th task or a 17th semaphore
abbrev pub TooMany : Table → Result Record Refusal → Type 0
TooMany t d = ((x : Task) × (d ≡ Ok (TaskRecord x)) × (64 ≤ length t.tasks)) ⊎ ((x : Sem) × (d ≡ Ok (SemRecord x)) × (16 ≤ length t.sems))

-- a record at its place, with the table so far and whether an erased record came before, in the order 3, 2, 4, 5, 8, 6: 3 a used record after an erased one;
-- 2 unknown kind; 4 a zero byte not zero, or a field out of its range
abbrev pub record_conditions : Table → Bool → ℕ → Result Record Refusal → List (ℕ × Type 0)
record_conditions t erased at d =
    (3, (erased ≡ true) × (d ≢ (Ok Erased)))
    ∷ (2, d ≡ Err UnknownKind)
    ∷ (4, d ≡ Err OutOfRange)
    ∷ (5, OrderBroken t at d) ∷ (8, NumberTwice t d)
    ∷ (6, TooMany t d)
    ∷ []

-- the records from the front: the load stops at the first record of which a condition holds, with that number and the record's place; behind the last
-- it is 7, with the count of all records, where there is no task; and else 0, with place 0
abbrev pub Given : Table → Bool → ℕ → List (List ℕ) → ℕ → ℕ → Type 0
Given t erased at [] k place = ((length t.tasks ≡ 0) × (k ≡ 7) × (place ≡ at)) ⊎ ((length t.tasks ≢ 0) × (k ≡ 0) × (place ≡ 0))
Given t erased at (r ∷ rest) k place =
    ((k ≢ 0) × FirstThat (record_conditions t erased at (decoded r)) k × (place ≡ at))
    ⊎ (FirstThat (record_conditions t erased at (decoded r)) 0
    × Given (taken t (decoded r)) (erased_after erased (decoded r)) (suc at) rest k place)

-- 1 before all: an image's length not a multiple of 32, or above 4,096; its place is 0
abbrev pub BadLength : List ℕ → Type 0
BadLength image = (length image % 32 ≢ 0) ⊎ (4096 < length image)

abbrev pub GivenFor : List ℕ → ℕ → ℕ → Type 0
GivenFor image k place =
    (BadLength image × (k ≡ 1) × (place ≡ 0))
    ⊎ ((BadLength image → ⊥) × Given fresh_table false 0 (records_in (length image / 32) image) k place)
