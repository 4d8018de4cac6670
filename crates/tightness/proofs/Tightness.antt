-- Every public operation of every crate: any two results that its contract allows are equal, and so are the final contents of every lent
-- buffer. Each statement is over the contract's own generated reading, `Post`. .ci/tests/1-statements finds an operation that lacks one.
-- Assumes nothing.
use mathlib.Core.Path.{◌≡◌, sym, ◌∙◌}
use denote.RattleType.{RattleType}
use denote.Param.Laws.{Laws, IsCopy}
use mir.Syntax.{Dict}
use Rattle.std.specs.declared.clone.Clone.{Ghosts as Clone}
use Rattle.fields.specs.declared.Number.{Ghosts as Number}
use Rattle.lookup.specs.declared.Numbered.{Ghosts as Numbered}
use Rattle.tightness.specs.Tight.{OneResult, OneAtExit}
use Rattle.tightness.proofs.Apart.{refusal_apart, reading_apart, step_apart, stands_apart, tried_apart}
use Rattle.fields.proofs.read.Reads as number_read
use Rattle.fields.proofs.read.Kinds as number_read_kinds
use Rattle.fields.proofs.put.Reads as number_put
use Rattle.fields.proofs.put.Kinds as number_put_kinds
use Rattle.fields.proofs.all_are.Reads as all_are
use Rattle.fields.proofs.all_are.Kinds as all_are_kinds
use Rattle.fields.proofs.fill.Reads as fill
use Rattle.fields.proofs.fill.Kinds as fill_kinds
use Rattle.lines.proofs.put_decimal.Reads as put_decimal
use Rattle.lines.proofs.put_decimal.Kinds as put_decimal_kinds
use Rattle.lines.proofs.put_word.Reads as put_word
use Rattle.lines.proofs.put_word.Kinds as put_word_kinds
use Rattle.lines.proofs.put_numbers.Reads as put_numbers
use Rattle.lines.proofs.put_numbers.Kinds as put_numbers_kinds
use Rattle.lines.proofs.put_line.Reads as put_line
use Rattle.lines.proofs.put_line.Kinds as put_line_kinds
use Rattle.table.proofs.Board.built_in.Reads as board_built_in
use Rattle.table.proofs.Board.built_in.Kinds as board_built_in_kinds
use Rattle.table.proofs.Board.no_figures.Reads as board_no_figures
use Rattle.table.proofs.Board.no_figures.Kinds as board_no_figures_kinds
use Rattle.table.proofs.Task.blank.Reads as task_blank
use Rattle.table.proofs.Task.blank.Kinds as task_blank_kinds
use Rattle.table.proofs.Task.with_status.Reads as task_with_status
use Rattle.table.proofs.Task.with_status.Kinds as task_with_status_kinds
use Rattle.table.proofs.Task.with_deadline.Reads as task_with_deadline
use Rattle.table.proofs.Task.with_deadline.Kinds as task_with_deadline_kinds
use Rattle.table.proofs.Task.span.Reads as task_span
use Rattle.table.proofs.Task.span.Kinds as task_span_kinds
use Rattle.table.proofs.Sem.blank.Reads as sem_blank
use Rattle.table.proofs.Sem.blank.Kinds as sem_blank_kinds
use Rattle.table.proofs.Sem.with_holder.Reads as sem_with_holder
use Rattle.table.proofs.Sem.with_holder.Kinds as sem_with_holder_kinds
use Rattle.table.proofs.ranges.task_in_range.Reads as task_in_range
use Rattle.table.proofs.ranges.task_in_range.Kinds as task_in_range_kinds
use Rattle.table.proofs.ranges.sem_in_range.Reads as sem_in_range
use Rattle.table.proofs.ranges.sem_in_range.Kinds as sem_in_range_kinds
use Rattle.table.proofs.ranges.board_in_range.Reads as board_in_range
use Rattle.table.proofs.ranges.board_in_range.Kinds as board_in_range_kinds
use Rattle.table.proofs.ranges.task_before.Reads as task_before
use Rattle.table.proofs.ranges.task_before.Kinds as task_before_kinds
use Rattle.table.proofs.ranges.sem_before.Reads as sem_before
use Rattle.table.proofs.ranges.sem_before.Kinds as sem_before_kinds
use Rattle.table.proofs.refusals.Refusal.number.Reads as refusal_number
use Rattle.table.proofs.refusals.Refusal.number.Kinds as refusal_number_kinds
use Rattle.table.proofs.refusals.told.Reads as refusals_told
use Rattle.table.proofs.refusals.told.Kinds as refusals_told_kinds
use Rattle.lookup.proofs.place.Reads as lookup_place
use Rattle.lookup.proofs.place.Kinds as lookup_place_kinds
use Rattle.waits.proofs.standing.holds_it.Reads as waits_holds_it
use Rattle.waits.proofs.standing.holds_it.Kinds as waits_holds_it_kinds
use Rattle.waits.proofs.Entries.holds.Reads as waits_holds
use Rattle.waits.proofs.Entries.holds.Kinds as waits_holds_kinds
use Rattle.waits.proofs.Entries.running.Reads as waits_running
use Rattle.waits.proofs.Entries.running.Kinds as waits_running_kinds
use Rattle.waits.proofs.Entries.heir.Reads as waits_heir
use Rattle.waits.proofs.Entries.heir.Kinds as waits_heir_kinds
use Rattle.waits.proofs.Entries.closes_ring.Reads as waits_closes_ring
use Rattle.waits.proofs.Entries.closes_ring.Kinds as waits_closes_ring_kinds
use Rattle.waits.proofs.Entries.standing.Reads as waits_standing
use Rattle.waits.proofs.Entries.standing.Kinds as waits_standing_kinds
use Rattle.executive.proofs.state.State.release.Reads as release
use Rattle.executive.proofs.state.State.release.Kinds as release_kinds
use Rattle.executive.proofs.state.State.signal.Reads as signal
use Rattle.executive.proofs.state.State.signal.Kinds as signal_kinds
use Rattle.executive.proofs.state.State.withdraw.Reads as withdraw
use Rattle.executive.proofs.state.State.withdraw.Kinds as withdraw_kinds
use Rattle.executive.proofs.state.State.complete.Reads as complete
use Rattle.executive.proofs.state.State.complete.Kinds as complete_kinds
use Rattle.executive.proofs.state.State.block.Reads as block
use Rattle.executive.proofs.state.State.block.Kinds as block_kinds
use Rattle.executive.proofs.state.State.acquire.Reads as acquire
use Rattle.executive.proofs.state.State.acquire.Kinds as acquire_kinds
use Rattle.executive.proofs.state.State.give.Reads as give
use Rattle.executive.proofs.state.State.give.Kinds as give_kinds
use Rattle.executive.proofs.state.State.running.Reads as running
use Rattle.executive.proofs.state.State.running.Kinds as running_kinds
use Rattle.executive.proofs.state.State.standing.Reads as standing
use Rattle.executive.proofs.state.State.standing.Kinds as standing_kinds
use Rattle.executive.proofs.state.State.empty.Reads as empty
use Rattle.executive.proofs.state.State.empty.Kinds as empty_kinds
use Rattle.executive.proofs.loaded.Loaded.refused.Reads as loaded_refused
use Rattle.executive.proofs.loaded.Loaded.refused.Kinds as loaded_refused_kinds
use Rattle.executive.proofs.loaded.Loaded.accepted.Reads as loaded_accepted
use Rattle.executive.proofs.loaded.Loaded.accepted.Kinds as loaded_accepted_kinds
use Rattle.records.proofs.decode.Reads as decode
use Rattle.records.proofs.decode.Kinds as decode_kinds
use Rattle.records.proofs.put_task.Reads as record_put_task
use Rattle.records.proofs.put_task.Kinds as record_put_task_kinds
use Rattle.records.proofs.put_sem.Reads as record_put_sem
use Rattle.records.proofs.put_sem.Kinds as record_put_sem_kinds
use Rattle.records.proofs.put_board.Reads as record_put_board
use Rattle.records.proofs.put_board.Kinds as record_put_board_kinds
use Rattle.image.proofs.load.load.Reads as load
use Rattle.image.proofs.load.load.Kinds as load_kinds
use Rattle.image.proofs.write.write.Reads as write
use Rattle.image.proofs.write.write.Kinds as write_kinds
use Rattle.linux.proofs.read.read.Reads as list_read
use Rattle.linux.proofs.read.read.Kinds as list_read_kinds
use Rattle.linux.proofs.write.write.Reads as list_write
use Rattle.linux.proofs.write.write.Kinds as list_write_kinds
use Rattle.charges.proofs.Counts.of.Reads as counts_of
use Rattle.charges.proofs.Counts.of.Kinds as counts_of_kinds
use Rattle.charges.proofs.Counts.charge.Reads as counts_charge
use Rattle.charges.proofs.Counts.charge.Kinds as counts_charge_kinds
use Rattle.charges.proofs.Counts.load.Reads as counts_load
use Rattle.charges.proofs.Counts.load.Kinds as counts_load_kinds
use Rattle.judging.proofs.judge.judge.Reads as judge
use Rattle.judging.proofs.judge.judge.Kinds as judge_kinds
use Rattle.judging.proofs.judge.told.Reads as judge_told
use Rattle.judging.proofs.judge.told.Kinds as judge_told_kinds
use Rattle.judging.proofs.VerdictLaws.{told_apart}
use Rattle.report.proofs.report.Reads as report
use Rattle.report.proofs.report.Kinds as report_kinds
use Rattle.rack.proofs.export.rack_export.Reads as rack_export
use Rattle.rack.proofs.export.rack_export.Kinds as rack_export_kinds
use Rattle.rack.proofs.import.rack_import.Reads as rack_import
use Rattle.rack.proofs.import.rack_import.Kinds as rack_import_kinds
use Rattle.rack.proofs.play.play_one.Reads as play_one
use Rattle.rack.proofs.play.play_one.Kinds as play_one_kinds
use Rattle.rack.proofs.play.rack_play.Reads as rack_play
use Rattle.rack.proofs.play.rack_play.Kinds as rack_play_kinds
use Rattle.rack.proofs.rewrite.rack_rewrite.Reads as rack_rewrite
use Rattle.rack.proofs.rewrite.rack_rewrite.Kinds as rack_rewrite_kinds
use Rattle.rack.proofs.verdict.rack_judge.Reads as rack_judge
use Rattle.rack.proofs.verdict.rack_judge.Kinds as rack_judge_kinds

-- fields::read and fields::put, of any number that tells its values apart
module _ (T : RattleType) (laws : Laws T) (copies : IsCopy T) (number : Number T.Denot) (d : Dict) (clone : Clone T.Denot) (e : Dict) where
  pub number_read_one : ((x y : T.Denot) → number.count x ≡ number.count y → x ≡ y)
      → OneResult 2 (number_read_kinds.ps T laws copies) (number_read_kinds.r T laws copies) (number_read.Post T laws copies number d clone e)
  number_read_one apart κs a z z' x x' p q = apart z z' (p ∙ sym q)

  pub number_put_buffer :
      OneAtExit 2 (number_put_kinds.ps T laws copies) (number_put_kinds.r T laws copies) (number_put.Post T laws copies number d clone e) (λ κs x. x.0.now)
  number_put_buffer κs a z z' x x' p q = p ∙ sym q

-- fields::all_are
pub all_are_one : OneResult 1 all_are_kinds.ps all_are_kinds.r all_are.Post
all_are_one κs a z z' e e' p q = p ∙ sym q

-- fields::fill
pub fill_buffer : OneAtExit 1 fill_kinds.ps fill_kinds.r fill.Post (λ κs e. e.0.now)
fill_buffer κs a z z' e e' p q = p ∙ sym q

-- lines::put_decimal
pub put_decimal_one : OneResult 1 put_decimal_kinds.ps put_decimal_kinds.r put_decimal.Post
put_decimal_one κs a z z' e e' p q = p.ends ∙ sym q.ends

pub put_decimal_buffer : OneAtExit 1 put_decimal_kinds.ps put_decimal_kinds.r put_decimal.Post (λ κs e. e.0.now)
put_decimal_buffer κs a z z' e e' p q = p.contents ∙ sym q.contents

-- lines::put_word
pub put_word_one : OneResult 2 put_word_kinds.ps put_word_kinds.r put_word.Post
put_word_one κs a z z' e e' p q = p.ends ∙ sym q.ends

pub put_word_buffer : OneAtExit 2 put_word_kinds.ps put_word_kinds.r put_word.Post (λ κs e. e.0.now)
put_word_buffer κs a z z' e e' p q = p.contents ∙ sym q.contents

-- lines::put_numbers
pub put_numbers_one : OneResult 2 put_numbers_kinds.ps put_numbers_kinds.r put_numbers.Post
put_numbers_one κs a z z' e e' p q = p.ends ∙ sym q.ends

pub put_numbers_buffer : OneAtExit 2 put_numbers_kinds.ps put_numbers_kinds.r put_numbers.Post (λ κs e. e.0.now)
put_numbers_buffer κs a z z' e e' p q = p.contents ∙ sym q.contents

-- lines::put_line
pub put_line_one : OneResult 3 put_line_kinds.ps put_line_kinds.r put_line.Post
put_line_one κs a z z' e e' p q = p.ends ∙ sym q.ends

pub put_line_buffer : OneAtExit 3 put_line_kinds.ps put_line_kinds.r put_line.Post (λ κs e. e.0.now)
put_line_buffer κs a z z' e e' p q = p.contents ∙ sym q.contents

-- table::Board::built_in
pub board_built_in_one : OneResult 0 board_built_in_kinds.ps board_built_in_kinds.r board_built_in.Post
board_built_in_one κs a z z' e e' p q = p ∙ sym q

-- table::Board::no_figures
pub board_no_figures_one : OneResult 0 board_no_figures_kinds.ps board_no_figures_kinds.r board_no_figures.Post
board_no_figures_one κs a z z' e e' p q = p ∙ sym q

-- table::Task::blank
pub task_blank_one : OneResult 0 task_blank_kinds.ps task_blank_kinds.r task_blank.Post
task_blank_one κs a z z' e e' p q = p ∙ sym q

-- table::Task::with_status
pub task_with_status_one : OneResult 0 task_with_status_kinds.ps task_with_status_kinds.r task_with_status.Post
task_with_status_one κs a z z' e e' p q = p ∙ sym q

-- table::Task::with_deadline
pub task_with_deadline_one : OneResult 0 task_with_deadline_kinds.ps task_with_deadline_kinds.r task_with_deadline.Post
task_with_deadline_one κs a z z' e e' p q = p ∙ sym q

-- table::Task::span
pub task_span_one : OneResult 0 task_span_kinds.ps task_span_kinds.r task_span.Post
task_span_one κs a z z' e e' p q = p ∙ sym q

-- table::Sem::blank
pub sem_blank_one : OneResult 0 sem_blank_kinds.ps sem_blank_kinds.r sem_blank.Post
sem_blank_one κs a z z' e e' p q = p ∙ sym q

-- table::Sem::with_holder
pub sem_with_holder_one : OneResult 0 sem_with_holder_kinds.ps sem_with_holder_kinds.r sem_with_holder.Post
sem_with_holder_one κs a z z' e e' p q = p ∙ sym q

-- table::ranges::task_in_range
pub task_in_range_one : OneResult 0 task_in_range_kinds.ps task_in_range_kinds.r task_in_range.Post
task_in_range_one κs a z z' e e' p q = p ∙ sym q

-- table::ranges::sem_in_range
pub sem_in_range_one : OneResult 0 sem_in_range_kinds.ps sem_in_range_kinds.r sem_in_range.Post
sem_in_range_one κs a z z' e e' p q = p ∙ sym q

-- table::ranges::board_in_range
pub board_in_range_one : OneResult 0 board_in_range_kinds.ps board_in_range_kinds.r board_in_range.Post
board_in_range_one κs a z z' e e' p q = p ∙ sym q

-- table::ranges::task_before
pub task_before_one : OneResult 0 task_before_kinds.ps task_before_kinds.r task_before.Post
task_before_one κs a z z' e e' p q = p ∙ sym q

-- table::ranges::sem_before
pub sem_before_one : OneResult 0 sem_before_kinds.ps sem_before_kinds.r sem_before.Post
sem_before_one κs a z z' e e' p q = p ∙ sym q

-- table::refusals::Refusal::number
pub refusal_number_one : OneResult 0 refusal_number_kinds.ps refusal_number_kinds.r refusal_number.Post
refusal_number_one κs a z z' e e' p q = p ∙ sym q

-- table::refusals::told
pub refusals_told_one : OneResult 0 refusals_told_kinds.ps refusals_told_kinds.r refusals_told.Post
refusals_told_one κs a z z' e e' p q = p ∙ sym q

-- lookup::place, of any entry that has a number
module _ (T : RattleType) (laws : Laws T) (numbered : Numbered T.Denot) (d : Dict) where
  pub lookup_place_one : OneResult 2 (lookup_place_kinds.ps T laws) (lookup_place_kinds.r T laws) (lookup_place.Post T laws numbered d)
  lookup_place_one κs a z z' x x' p q = p ∙ sym q

-- waits::standing::holds_it
pub waits_holds_it_one : OneResult 0 waits_holds_it_kinds.ps waits_holds_it_kinds.r waits_holds_it.Post
waits_holds_it_one κs a z z' e e' p q = p ∙ sym q

-- waits::Entries::holds
pub waits_holds_one : OneResult 2 waits_holds_kinds.ps waits_holds_kinds.r waits_holds.Post
waits_holds_one κs a z z' e e' p q = p ∙ sym q

-- waits::Entries::running
pub waits_running_one : OneResult 2 waits_running_kinds.ps waits_running_kinds.r waits_running.Post
waits_running_one κs a z z' e e' p q = p ∙ sym q

-- waits::Entries::heir
pub waits_heir_one : OneResult 2 waits_heir_kinds.ps waits_heir_kinds.r waits_heir.Post
waits_heir_one κs a z z' e e' p q = p ∙ sym q

-- waits::Entries::closes_ring
pub waits_closes_ring_one : OneResult 2 waits_closes_ring_kinds.ps waits_closes_ring_kinds.r waits_closes_ring.Post
waits_closes_ring_one κs a z z' e e' p q = p ∙ sym q

-- waits::Entries::standing
pub waits_standing_one : OneResult 2 waits_standing_kinds.ps waits_standing_kinds.r waits_standing.Post
waits_standing_one κs a z z' e e' p q = p ∙ sym q

-- executive::calls::State::release
pub release_one : OneResult 0 release_kinds.ps release_kinds.r release.Post
release_one κs a z z' e e' p q = step_apart z z' (p ∙ sym q)

-- executive::calls::State::signal
pub signal_one : OneResult 0 signal_kinds.ps signal_kinds.r signal.Post
signal_one κs a z z' e e' p q = step_apart z z' (p ∙ sym q)

-- executive::calls::State::withdraw
pub withdraw_one : OneResult 0 withdraw_kinds.ps withdraw_kinds.r withdraw.Post
withdraw_one κs a z z' e e' p q = step_apart z z' (p ∙ sym q)

-- executive::calls::State::complete
pub complete_one : OneResult 0 complete_kinds.ps complete_kinds.r complete.Post
complete_one κs a z z' e e' p q = step_apart z z' (p ∙ sym q)

-- executive::calls::State::block
pub block_one : OneResult 0 block_kinds.ps block_kinds.r block.Post
block_one κs a z z' e e' p q = step_apart z z' (p ∙ sym q)

-- executive::calls::State::acquire
pub acquire_one : OneResult 0 acquire_kinds.ps acquire_kinds.r acquire.Post
acquire_one κs a z z' e e' p q = step_apart z z' (p ∙ sym q)

-- executive::calls::State::give
pub give_one : OneResult 0 give_kinds.ps give_kinds.r give.Post
give_one κs a z z' e e' p q = step_apart z z' (p ∙ sym q)

-- executive::standing::State::running
pub running_one : OneResult 1 running_kinds.ps running_kinds.r running.Post
running_one κs a z z' e e' p q = p ∙ sym q

-- executive::standing::State::standing
pub standing_one : OneResult 1 standing_kinds.ps standing_kinds.r standing.Post
standing_one κs a z z' e e' p q = stands_apart z z' (p ∙ sym q)

-- executive::state::State::empty
pub empty_one : OneResult 0 empty_kinds.ps empty_kinds.r empty.Post
empty_one κs a z z' e e' p q = p ∙ sym q

-- executive::loaded::Loaded::refused and accepted, of any reason
module _ (T : RattleType) (laws : Laws T) where
  pub loaded_refused_one : OneResult 1 (loaded_refused_kinds.ps T laws) (loaded_refused_kinds.r T laws) (loaded_refused.Post T laws)
  loaded_refused_one κs a z z' e e' p q = p ∙ sym q

  pub loaded_accepted_one : OneResult 1 (loaded_accepted_kinds.ps T laws) (loaded_accepted_kinds.r T laws) (loaded_accepted.Post T laws)
  loaded_accepted_one κs a z z' e e' p q = p ∙ sym q

-- records::decode
pub decode_one : OneResult 1 decode_kinds.ps decode_kinds.r decode.Post
decode_one κs a z z' e e' p q = p ∙ sym q

-- records::put_task
pub record_put_task_buffer : OneAtExit 1 record_put_task_kinds.ps record_put_task_kinds.r record_put_task.Post (λ κs e. e.1.0.now)
record_put_task_buffer κs a z z' e e' p q = p ∙ sym q

-- records::put_sem
pub record_put_sem_buffer : OneAtExit 1 record_put_sem_kinds.ps record_put_sem_kinds.r record_put_sem.Post (λ κs e. e.1.0.now)
record_put_sem_buffer κs a z z' e e' p q = p ∙ sym q

-- records::put_board
pub record_put_board_buffer : OneAtExit 1 record_put_board_kinds.ps record_put_board_kinds.r record_put_board.Post (λ κs e. e.1.0.now)
record_put_board_buffer κs a z z' e e' p q = p ∙ sym q

-- image::load::load
pub load_one : OneResult 1 load_kinds.ps load_kinds.r load.Post
load_one κs a z z' e e' p q = reading_apart z z' (p ∙ sym q)

-- image::write::write
pub write_one : OneResult 1 write_kinds.ps write_kinds.r write.Post
write_one κs a z z' e e' p q = refusal_apart z z' (p.0 ∙ sym q.0)

pub write_buffer : OneAtExit 1 write_kinds.ps write_kinds.r write.Post (λ κs e. e.1.0.now)
write_buffer κs a z z' e e' p q = p.1 ∙ sym q.1

-- linux::read::read
pub list_read_one : OneResult 1 list_read_kinds.ps list_read_kinds.r list_read.Post
list_read_one κs a z z' e e' p q = reading_apart z z' (p ∙ sym q)

-- linux::write::write
pub list_write_one : OneResult 1 list_write_kinds.ps list_write_kinds.r list_write.Post
list_write_one κs a z z' e e' p q = refusal_apart z z' (p.0 ∙ sym q.0)

pub list_write_buffer : OneAtExit 1 list_write_kinds.ps list_write_kinds.r list_write.Post (λ κs e. e.1.0.now)
list_write_buffer κs a z z' e e' p q = p.1 ∙ sym q.1

-- charges::Counts::of
pub counts_of_one : OneResult 1 counts_of_kinds.ps counts_of_kinds.r counts_of.Post
counts_of_one κs a z z' e e' p q = p ∙ sym q

-- charges::Counts::charge
pub counts_charge_one : OneResult 0 counts_charge_kinds.ps counts_charge_kinds.r counts_charge.Post
counts_charge_one κs a z z' e e' p q = p.0 ∙ sym q.0

-- charges::Counts::load
pub counts_load_one : OneResult 0 counts_load_kinds.ps counts_load_kinds.r counts_load.Post
counts_load_one κs a z z' e e' p q = p ∙ sym q

-- judging::judge::judge
pub judge_one : OneResult 0 judge_kinds.ps judge_kinds.r judge.Post
judge_one κs a z z' e e' p q = told_apart z z' (p ∙ sym q)

-- judging::judge::told
pub judge_told_one : OneResult 0 judge_told_kinds.ps judge_told_kinds.r judge_told.Post
judge_told_one κs a z z' e e' p q = p ∙ sym q

-- report::report
pub report_one : OneResult 2 report_kinds.ps report_kinds.r report.Post
report_one κs a z z' e e' p q = p.ends ∙ sym q.ends

pub report_buffer : OneAtExit 2 report_kinds.ps report_kinds.r report.Post (λ κs e. e.1.0.now)
report_buffer κs a z z' e e' p q = p.contents ∙ sym q.contents

-- rack::export::rack_export
pub rack_export_one : OneResult 2 rack_export_kinds.ps rack_export_kinds.r rack_export.Post
rack_export_one κs a z z' e e' p q = p.number ∙ sym q.number

pub rack_export_list : OneAtExit 2 rack_export_kinds.ps rack_export_kinds.r rack_export.Post (λ κs e. e.1.0.now)
rack_export_list κs a z z' e e' p q = p.contents ∙ sym q.contents

-- rack::import::rack_import
pub rack_import_one : OneResult 2 rack_import_kinds.ps rack_import_kinds.r rack_import.Post
rack_import_one κs a z z' e e' p q = p.number ∙ sym q.number

pub rack_import_buffer : OneAtExit 2 rack_import_kinds.ps rack_import_kinds.r rack_import.Post (λ κs e. e.1.0.now)
rack_import_buffer κs a z z' e e' p q = p.contents ∙ sym q.contents

-- rack::play::rack_play
pub rack_play_one : OneResult 3 rack_play_kinds.ps rack_play_kinds.r rack_play.Post
rack_play_one κs a z z' e e' p q = p.number ∙ sym q.number

pub rack_play_buffer : OneAtExit 3 rack_play_kinds.ps rack_play_kinds.r rack_play.Post (λ κs e. e.1.1.0.now)
rack_play_buffer κs a z z' e e' p q = p.contents ∙ sym q.contents

-- rack::play::play_one
pub play_one_one : OneResult 1 play_one_kinds.ps play_one_kinds.r play_one.Post
play_one_one κs a z z' e e' p q = tried_apart a.0 z z' (p ∙ sym q)

-- rack::rewrite::rack_rewrite
pub rack_rewrite_one : OneResult 2 rack_rewrite_kinds.ps rack_rewrite_kinds.r rack_rewrite.Post
rack_rewrite_one κs a z z' e e' p q = p.number ∙ sym q.number

pub rack_rewrite_buffer : OneAtExit 2 rack_rewrite_kinds.ps rack_rewrite_kinds.r rack_rewrite.Post (λ κs e. e.1.0.now)
rack_rewrite_buffer κs a z z' e e' p q = p.contents ∙ sym q.contents

-- rack::verdict::rack_judge
pub rack_judge_one : OneResult 2 rack_judge_kinds.ps rack_judge_kinds.r rack_judge.Post
rack_judge_one κs a z z' e e' p q = p.number ∙ sym q.number

pub rack_judge_buffer : OneAtExit 2 rack_judge_kinds.ps rack_judge_kinds.r rack_judge.Post (λ κs e. e.1.0.now)
rack_judge_buffer κs a z z' e e' p q = p.contents ∙ sym q.contents
