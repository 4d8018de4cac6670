-- What the loader's loop keeps in place of the table so far: its last entries, how many there are, and the two flags. These are the code's
-- devices: a reader need believe nothing of them, and proofs/FrontLaws.antt shows that a front decides as its table does.
use Rattle.std.specs.Prelude.{ℕ, ◌+◌, Bool, true, false, not, ◌||◌, List, [], ◌∷◌, eqb, leb, length, Option, None, Some, Result, Ok, Err}
use Rattle.table.specs.Refusals.{first_of}
use Rattle.table.specs.WellFormed.{task_before, sem_before}
use Rattle.executive.specs.Tables.{Table}
use Rattle.table.specs.declared.refusals.Refusal.{Refusal}
use Rattle.records.specs.declared.Record.{Record}
use Rattle.records.specs.declared.Record.TheVariants.{Erased, Task as TaskRecord, Board as BoardRecord, Sem as SemRecord}
use Rattle.image.specs.declared.load.Front.{Front}
use Rattle.image.specs.Loading.{used_after, refused_as}

-- the last entry, if there is one
unfoldable pub last_of : {A : Type 0} → List A → Option A
last_of [] = None
last_of (x ∷ []) = Some x
last_of (x ∷ y ∷ rest) = last_of (y ∷ rest)

-- the front of the table so far, and of whether an erased record came before
abbrev pub front_of : Bool → Table → Front
front_of erased t =
    record {
      task = last_of t.tasks;
      sem = last_of t.sems;
      n = length t.tasks;
      m = length t.sems;
      present = t.present;
      erased = erased;
    }

-- the front behind one record more
abbrev pub front_after : Front → Result Record Refusal → Front
front_after f (Ok Erased) = record { task = f.task; sem = f.sem; n = f.n; m = f.m; present = f.present; erased = true }
front_after f (Ok (TaskRecord x)) = record { task = Some x; sem = f.sem; n = f.n + 1; m = f.m; present = f.present; erased = f.erased }
front_after f (Ok (BoardRecord b)) = record { task = f.task; sem = f.sem; n = f.n; m = f.m; present = true; erased = f.erased }
front_after f (Ok (SemRecord x)) = record { task = f.task; sem = Some x; n = f.n; m = f.m + 1; present = f.present; erased = f.erased }
front_after f (Err why) = f

-- an entry may stand behind the last one, if there is one
abbrev pub goes_on : {A : Type 0} → (A → A → Bool) → Option A → A → Bool
goes_on before None x = true
goes_on before (Some last) x = before last x

-- 5, 8 and 6, as a front and a look-up of the numbers so far say them
abbrev pub front_broken : Front → Result Record Refusal → Bool
front_broken f (Ok Erased) = false
front_broken f (Ok (BoardRecord b)) = f.present || not (eqb f.n 0) || not (eqb f.m 0)
front_broken f (Ok (TaskRecord x)) = not (eqb f.m 0) || not (goes_on task_before f.task x)
front_broken f (Ok (SemRecord x)) = not (goes_on sem_before f.sem x)
front_broken f (Err why) = false

abbrev pub front_twice : (ℕ → Bool) → Result Record Refusal → Bool
front_twice used_before (Ok Erased) = false
front_twice used_before (Ok (TaskRecord x)) = used_before x.number
front_twice used_before (Ok (BoardRecord b)) = false
front_twice used_before (Ok (SemRecord x)) = false
front_twice used_before (Err why) = false

abbrev pub front_full : Front → Result Record Refusal → Bool
front_full f (Ok Erased) = false
front_full f (Ok (TaskRecord x)) = leb 64 f.n
front_full f (Ok (BoardRecord b)) = false
front_full f (Ok (SemRecord x)) = leb 16 f.m
front_full f (Err why) = false

abbrev pub front_refusal : Front → (ℕ → Bool) → Result Record Refusal → ℕ
front_refusal f used_before d =
    first_of
    ((3, used_after f.erased d)
    ∷ (2, refused_as 2 d)
    ∷ (4, refused_as 4 d)
    ∷ (5, front_broken f d)
    ∷ (8, front_twice used_before d)
    ∷ (6, front_full f d)
    ∷ [])

-- the tests of a record that says something, which 3, 2 and 4 have passed
abbrev pub front_unfit : Front → (ℕ → Bool) → Record → ℕ
front_unfit f used_before said =
    first_of ((5, front_broken f (Ok said)) ∷ (8, front_twice used_before (Ok said)) ∷ (6, front_full f (Ok said)) ∷ [])
