-- 01's own lines on images ("Bench figures"), by computation: length 0; length 33; all erased, 64 bytes; one good task, an erased record, a
-- board record.
-- Assumes nothing.
use Prim.Native.Nat.{ℕ}
use mathlib.Core.Path.{◌≡◌, refl, ap}
use mathlib.Core.List.{List, [], ◌++◌}
use lib.ListN.{length, replicate}
use Rattle.table.specs.declared.Task.{Task}
use Rattle.table.specs.declared.Status.TheVariants.{Idle}
use Rattle.table.specs.Entries.{no_figures}
use Rattle.table.specs.Refusals.{first_of, answered}
use Rattle.table.specs.WellFormed.{within, due_in_range, task_in_range, board_in_range, used}
use Rattle.fields.specs.Fields.{value_of, bytes_of, read_at, all_are}
use Rattle.records.specs.Records.{task_in, board_in, task_decoded, board_decoded, decoded, encode_task, encode_board}
use Rattle.executive.specs.Tables.{add_task, add_board, state_of}
use Rattle.fields.specs.Parts.{parts_of}
use Rattle.executive.specs.Reading.{refused_load, finished_load}
use Rattle.image.specs.Loading.{fresh_table, taken, erased_after, used_after, refused_as, follows, order_broken, number_twice, too_many, refusal_of, load_from, bad_length, load_records, load_of}
use Rattle.image.proofs.LoadLaws.{load_bad}

-- a good task, with number 7, period 2,000 and cost 1,000 in DP1
abbrev good_task : Task
good_task = record { deadline = 0; period = 2000; cost = 1000; due = 0; number = 7; queue = 1; status = Idle }

-- a run of bytes 255
abbrev erased_run : ℕ → List ℕ
erased_run n = replicate n 255

pub length_0 : load_of [] ≡ refused_load 7 0
unfolding load_of load_records bad_length parts_of load_from fresh_table finished_load state_of first_of answered
length_0 = refl

pub length_33 : (image : List ℕ) → length image ≡ 33 → load_of image ≡ refused_load 1 0
unfolding bad_length
length_33 image h = load_bad image (ap bad_length h)

pub all_erased_64 : load_of (erased_run 64) ≡ refused_load 7 2
unfolding load_of load_records bad_length parts_of load_from fresh_table erased_after taken add_task add_board finished_load state_of first_of answered decoded all_are refusal_of used_after refused_as order_broken number_twice too_many
all_erased_64 = refl

pub erased_then_board : load_of (encode_task good_task ++ (erased_run 32 ++ encode_board no_figures)) ≡ refused_load 3 2
unfolding load_of load_records bad_length parts_of load_from fresh_table erased_after taken add_task add_board finished_load state_of first_of answered decoded all_are refusal_of used_after refused_as follows order_broken number_twice too_many encode_task encode_board bytes_of task_decoded board_decoded task_in board_in read_at value_of due_in_range task_in_range board_in_range within used
erased_then_board = refl
