-- `image::write::write` meets its contract: 7, then 9, then three parts, each written behind the one before.
use Prim.Native.Nat.{ℕ, ◌≤◌}
use mathlib.Core.Path.{◌≡◌, sym, ◌∙◌}
use mathlib.Core.Bool.{Bool, true, false, cond}
use native.Mathlib.Omega.{arith}
use lib.ListN.{length}
use Rattle.executive.specs.Tables.{table_of}
use Rattle.image.specs.Writing.{encoded}
use Rattle.image.proofs.WriteLaws.{write_none, write_bad, write_good, buffer_bad, buffer_short, buffer_right, length_encoded, board_part, board_width, all_parts}
use Rattle.image.proofs.write.write.Goals as goal

-- the board record takes at most 32 bytes
board_most : (present : Bool) (n : ℕ) → n ≡ cond present 32 0 → n ≤ 32
board_most true n h = omega arith
board_most false n h = omega arith

pub returns-then-state-eq0 : goal.returns-then-state-eq0
returns-then-state-eq0 c =
    let none = write_none c.args.state c.args.buf.now c.if-state-eq0.true in record { value = none.0; buf_after = none.1 }

pub returns-then-bad_length : goal.returns-then-bad_length
returns-then-bad_length c =
    let a = c.args in
    let bad =
    write_bad a.state a.buf.now c.if-state-eq0.false (buffer_bad a.state (length a.buf.now) (sym c.bad_length.ensures ∙ c.if-bad_length.true)) in
    record { value = bad.0; buf_after = bad.1 }

pub overflow_add-end-2 : goal.overflow_add-end-2
overflow_add-end-2 c =
    let s = c.args.state in
    let most =
    board_most s.present c.board_length-start.result (board_width s c.then_some-board.result c.then_some-board.ensures c.board_length-start.result c.board_length-start.ensures) in
    omega (arith, c.requires.tasks_fit, c.requires.sems_fit)

pub returns-then-length-end : goal.returns-then-length-end
returns-then-length-end c =
    let a = c.args in
    let start = board_width a.state c.then_some-board.result c.then_some-board.ensures c.board_length-start.result c.board_length-start.ensures in
    let bad =
    write_bad a.state a.buf.now c.if-state-eq0.false
    (buffer_short a.state (length a.buf.now) (sym c.bad_length.ensures ∙ c.if-bad_length.false)
    (omega (arith, length_encoded a.state c.requires, c.if-length-end.true))) in
    record { value = bad.0; buf_after = bad.1 }

pub returns : goal.returns
returns c =
    let s = c.args.state in
    let buffer = c.args.buf.now in
    let room = c.if-length-end.false in
    let start = board_width s c.then_some-board.result c.then_some-board.ensures c.board_length-start.result c.board_length-start.ensures in
    let fits : length (encoded (table_of s)) ≤ length buffer = omega (arith, length_encoded s c.requires, room) in
    let good = write_good s buffer c.if-state-eq0.false (buffer_right s (length buffer) (sym c.bad_length.ensures ∙ c.if-bad_length.false) fits) in
    record {
      value = sym good.0;
      buf_after =
          all_parts s c.requires buffer c.put_board.new.part c.put_entries.new.part c.board_length-start.result start room
          (board_part s c.then_some-board.result c.then_some-board.ensures c.put_board.new.part c.put_board.ensures) c.put_entries.ensures c.fill.new.part
          c.fill.ensures
          ∙ sym good.1;
    }
