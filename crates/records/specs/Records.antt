-- One record of 32 bytes (01, "The image": the table of kinds and fields).
use Rattle.std.specs.Prelude.{ℕ, Bool, cond, ◌&&◌, List, ◌∷◌, ◌++◌, eqb, get_or, drop, replicate, Result, Ok, Err, None}
use Rattle.table.specs.declared.Task.{Task}
use Rattle.table.specs.declared.Sem.{Sem}
use Rattle.table.specs.declared.Board.{Board}
use Rattle.table.specs.declared.Status.TheVariants.{Idle}
use Rattle.table.specs.WellFormed.{task_in_range, sem_in_range, board_in_range}
use Rattle.fields.specs.Fields.{bytes_of, read_at, all_are}
use Rattle.table.specs.declared.refusals.Refusal.{Refusal}
use Rattle.table.specs.declared.refusals.Refusal.TheVariants.{UnknownKind, OutOfRange}
use Rattle.records.specs.declared.Record.{Record}
use Rattle.records.specs.declared.Record.TheVariants.{Erased, Task as TaskRecord, Board as BoardRecord, Sem as SemRecord}
use Rattle.records.specs.declared.Kind.{Kind}
use Rattle.records.specs.declared.Kind.TheVariants.{Task as TaskKind, Board as BoardKind, Sem as SemKind, Erased as ErasedKind}

-- 01, "The image", the table of kinds; 255 is the first byte of an erased record. "Numbers that come back", 2: unknown kind
abbrev pub kind_of : ℕ → Result Kind Refusal
kind_of byte =
    cond (eqb byte 1) (Ok TaskKind)
    (cond (eqb byte 2) (Ok BoardKind)
    (cond (eqb byte 3) (Ok SemKind)
    (cond (eqb byte 255) (Ok ErasedKind)
    (Err UnknownKind))))

-- kind 1: byte 1 queue; 2..3 number; 4..7 period; 8..11 cost; 12..15 deadline (02, a)). All tasks are idle after loading, with deadline 0 (01, "Dispatch")
unfoldable pub task_in : List ℕ → Task
task_in r =
    record {
      deadline = 0;
      period = read_at 4 r 4;
      cost = read_at 4 r 8;
      due = read_at 4 r 12;
      number = read_at 2 r 2;
      queue = get_or r 1 0;
      status = Idle;
    }

-- kind 2: nine u16 figures from byte 2
unfoldable pub board_in : List ℕ → Board
board_in r =
    record {
      dp_block = read_at 2 r 2;
      dp_unblock = read_at 2 r 4;
      dp_select = read_at 2 r 6;
      dp_select_task = read_at 2 r 8;
      fp_block = read_at 2 r 10;
      fp_block_task = read_at 2 r 12;
      fp_unblock = read_at 2 r 14;
      fp_select = read_at 2 r 16;
      per_queue = read_at 2 r 18;
    }

-- kind 3: 2..3 number. No semaphore is held after loading
unfoldable pub sem_in : List ℕ → Sem
sem_in r = record { number = read_at 2 r 2; holder = None }

-- 01, "Numbers that come back", 4: a zero byte not zero, or a field out of its range
abbrev pub unless_out_of_range : {A : Type 0} → Bool → A → Result A Refusal
unless_out_of_range fits said = cond fits (Ok said) (Err OutOfRange)

-- kind 1: 16..31 zero
unfoldable pub task_decoded : List ℕ → Result Record Refusal
task_decoded r = unless_out_of_range (task_in_range (task_in r) && all_are 0 (drop 16 r)) (TaskRecord (task_in r))

-- kind 2: byte 1 zero; 20..31 zero
unfoldable pub board_decoded : List ℕ → Result Record Refusal
board_decoded r = unless_out_of_range (eqb (get_or r 1 0) 0 && board_in_range (board_in r) && all_are 0 (drop 20 r)) (BoardRecord (board_in r))

-- kind 3: byte 1 zero; 4..31 zero
unfoldable pub sem_decoded : List ℕ → Result Record Refusal
sem_decoded r = unless_out_of_range (eqb (get_or r 1 0) 0 && sem_in_range (sem_in r) && all_are 0 (drop 4 r)) (SemRecord (sem_in r))

-- 01, "The image": a record of thirty-two bytes 255 is erased; the first byte of any other record says its kind. Unknown kinds: 2
unfoldable pub decoded : List ℕ → Result Record Refusal
decoded r =
    cond (all_are 255 r) (Ok Erased)
    (cond (eqb (get_or r 0 0) 1) (task_decoded r)
    (cond (eqb (get_or r 0 0) 2) (board_decoded r)
    (cond (eqb (get_or r 0 0) 3) (sem_decoded r)
    (Err UnknownKind))))

-- the bytes of a task, of a board and of a semaphore, as 01's table prints them
unfoldable pub encode_task : Task → List ℕ
encode_task t = 1 ∷ t.queue ∷ (bytes_of 2 t.number ++ (bytes_of 4 t.period ++ (bytes_of 4 t.cost ++ (bytes_of 4 t.due ++ replicate 16 0))))

unfoldable pub encode_board : Board → List ℕ
encode_board b =
    2 ∷ 0 ∷ (bytes_of 2 b.dp_block
    ++ (bytes_of 2 b.dp_unblock
    ++ (bytes_of 2 b.dp_select
    ++ (bytes_of 2 b.dp_select_task
    ++ (bytes_of 2 b.fp_block
    ++ (bytes_of 2 b.fp_block_task
    ++ (bytes_of 2 b.fp_unblock ++ (bytes_of 2 b.fp_select ++ (bytes_of 2 b.per_queue ++ replicate 12 0)))))))))

unfoldable pub encode_sem : Sem → List ℕ
encode_sem s = 3 ∷ 0 ∷ (bytes_of 2 s.number ++ replicate 28 0)
