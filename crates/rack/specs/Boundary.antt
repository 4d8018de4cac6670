-- The boundary for other languages, as include/rack.h describes it: bytes in, bytes out, all numbers little-endian, bytes not named 0.
use Rattle.std.specs.Prelude.{ℕ, zero, suc, ◌+◌, ◌-◌, ◌*◌, ◌/◌, ◌%◌, ◌≡◌, Bool, cond, not, ◌||◌, List, [], ◌∷◌, ◌++◌, eqb, ltb, length, get_or, replicate, Option, None, Some}
use Rattle.std.proofs.lemmas.List.Edits.{sets}
use Rattle.fields.specs.Fields.{bytes_of, read_at}
use Rattle.table.specs.declared.Board.{Board}
use Rattle.table.specs.declared.Task.{Task}
use Rattle.executive.specs.declared.state.State.{State}
use Rattle.executive.specs.declared.calls.Moved.{Moved}
use Rattle.executive.specs.States.{tasks_of, sems_of}
use Rattle.waits.specs.Standing.{number_at, running_of}
use Rattle.executive.specs.Calls.{
  Step,
  Stands,
  step_of,
  moved,
  stands_of,
  release_of,
  signal_of,
  withdraw_of,
  acquire_of,
  give_of,
  complete_of,
  block_of,
}
use Rattle.charges.specs.declared.Counts.{Counts}
use Rattle.charges.specs.Charges.{counts_of, charge_by}
use Rattle.judging.specs.declared.Verdict.{Verdict}
use Rattle.judging.specs.Verdicts.{verdict_of}
use Rattle.executive.specs.Reading.{Reading}
use Rattle.image.specs.Loading.{load_of}
use Rattle.image.specs.Writing.{write_number, written}
use Rattle.linux.specs.Lists.{read_of}
use Rattle.linux.specs.Writing.{list_number, list_written}

-- rack_judge: byte 0 the load's number, 1 the verdict's number, 2..3 the load's place, 4..5 the task that judging names, 6..7 the count of tasks
unfoldable pub head_bytes : ℕ → ℕ → ℕ → ℕ → ℕ → List ℕ
head_bytes number verdict place task n = number ∷ verdict ∷ (bytes_of 2 place ++ (bytes_of 2 task ++ bytes_of 2 n))

-- for each task bytes 0..1 its number, 2 its queue, 8..15 its charge
unfoldable pub entry_bytes : ℕ → ℕ → ℕ → List ℕ
entry_bytes number queue charge = bytes_of 2 number ++ (queue ∷ (replicate 5 0 ++ bytes_of 8 charge))

unfoldable pub entries_by : Counts → List Task → List ℕ
entries_by counts [] = []
entries_by counts (t ∷ rest) = entry_bytes t.number t.queue (charge_by counts t) ++ entries_by counts rest

unfoldable pub entries_bytes : List Task → Board → List ℕ
entries_bytes tasks board = entries_by (counts_of tasks board) tasks

-- the bytes of a load that was judged, and of one that was refused
unfoldable pub accepted_bytes : Reading → Verdict → List ℕ
accepted_bytes l v =
    head_bytes l.number v.number l.place v.task l.state.n ++ entries_bytes (tasks_of l.state) l.state.board

unfoldable pub judged_bytes : Reading → List ℕ
judged_bytes l =
    cond (eqb l.number 0) (accepted_bytes l (verdict_of (tasks_of l.state) l.state.board)) (head_bytes l.number 0 l.place 0 0)

-- the rest up to 1,032 becomes 0
unfoldable pub judged_all : Reading → List ℕ
judged_all l = judged_bytes l ++ replicate (1032 - length (judged_bytes l)) 0

-- an `out` below 1,032 bytes is left as it was, and 0 comes back
pub record Judged (image before after : List ℕ) (result : ℕ) : Type 0 where
  pub contents : after ≡ cond (ltb (length before) 1032) before (sets before 0 (judged_all (load_of image)))
  pub number : result ≡ cond (ltb (length before) 1032) 0 (length (judged_bytes (load_of image)))

-- a table that was read is written to a buffer, and the write's number comes back; a refused reading leaves the buffer as it was, and tells
-- its refusal
pub record ReadThenWritten (read : Reading) (refusal : ℕ) (write_by : State → ℕ → ℕ) (leaves : State → List ℕ → List ℕ) (before after : List ℕ)
    (result : ℕ) : Type 0 where
  pub contents : after ≡ cond (eqb read.number 0) (leaves read.state before) before
  pub number : result ≡ cond (eqb read.number 0) (write_by read.state (length before)) refusal

-- rack_rewrite: the load's number if it is not 0, else the write's number
abbrev pub Rewritten : List ℕ → List ℕ → List ℕ → ℕ → Type 0
Rewritten image = ReadThenWritten (load_of image) (load_of image).number write_number written

-- a refusal and its place in one number
unfoldable pub told : Reading → ℕ
told l = l.number + 256 * l.place

-- rack_import: a refused list returns number + 256 * place; else its table is written as an image
abbrev pub Imported : List ℕ → List ℕ → List ℕ → ℕ → Type 0
Imported list = ReadThenWritten (read_of list) (told (read_of list)) write_number written

-- rack_export: a refused image returns number + 256 * place; else its table is written as a list
abbrev pub Exported : List ℕ → List ℕ → List ℕ → ℕ → Type 0
Exported image = ReadThenWritten (load_of image) (told (load_of image)) list_number list_written

-- rack_play: the call that the record of 16 bytes at a place names: 0 the call, 2..3 a task's or semaphore's number, 8..15 a time
unfoldable pub called_by : State → List ℕ → ℕ → Step
called_by s script at =
    let call = get_or script at 0 in
    let number = read_at 2 script (at + 2) in
    cond (eqb call 1) (release_of s number (read_at 8 script (at + 8)))
    (cond (eqb call 2) (signal_of s number)
    (cond (eqb call 3) (withdraw_of s number)
    (cond (eqb call 4) (acquire_of s number)
    (cond (eqb call 5) (give_of s number)
    (cond (eqb call 6) (complete_of s)
    (cond (eqb call 7) (block_of s)
    (moved s 255)))))))

-- what the code made of a record: a call, or none, which is told as 255
abbrev pub tried : State → Option Moved → Step
tried s None = moved s 255
tried s (Some m) = step_of m

-- 32 bytes for each record: 0 the answer, 2..3 the running task after the call, 4 the number of the standing's answer, 5 its queue, 6 its
-- position, 8..15 its deadline
unfoldable pub played_part : ℕ → ℕ → Stands → List ℕ
played_part answer running stands =
    answer ∷ 0 ∷ (bytes_of 2 running
    ++ (stands.number ∷ stands.queue ∷ stands.position ∷ 0 ∷ (bytes_of 8 stands.deadline ++ replicate 16 0)))

-- what is answered beside the state after the call; 4..5 of the record is a task to ask about
unfoldable pub part_of : List ℕ → ℕ → Step → List ℕ
part_of script at m =
    played_part m.answer (number_at (tasks_of m.state) (running_of (tasks_of m.state) (sems_of m.state)))
    (stands_of m.state (read_at 2 script (at + 4)))

-- so many records from a place on
unfoldable pub play_from : State → List ℕ → ℕ → ℕ → List ℕ
play_from s script at zero = []
play_from s script at (suc more) =
    part_of script at (called_by s script at) ++ play_from (called_by s script at).state script (at + 16) more

-- a script length not a multiple of 16, an `out` shorter than 32 bytes a record, or an image that is refused
unfoldable pub not_played : List ℕ → List ℕ → List ℕ → Bool
not_played image script out =
    not (eqb (length script % 16) 0) || ltb (length out / 32) (length script / 16) || not (eqb (load_of image).number 0)

pub record Played (image script before after : List ℕ) (result : ℕ) : Type 0 where
  pub contents :
      after ≡ cond (not_played image script before) before (sets before 0 (play_from (load_of image).state script 0 (length script / 16)))
  pub number : result ≡ cond (not_played image script before) 0 (length script / 16)
