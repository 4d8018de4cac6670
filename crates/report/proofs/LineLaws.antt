-- The lines of the tasks, one behind the other, and how many bytes they take.
-- Assumes nothing.
use Prim.Native.Nat.{ℕ, ◌+◌, ◌*◌, ◌≤◌, ◌<◌}
use mathlib.Core.Path.{◌≡◌, refl, sym, ap, subst, ◌∙◌}
use mathlib.Core.Bool.{cond}
use mathlib.Core.List.{List, [], ◌∷◌, ◌++◌, append_assoc, append-nil}
use native.Mathlib.Nat.{zero-add}
use native.Mathlib.Numerals.{add-one}
use native.Mathlib.Omega.{arith}
use lib.ListN.{length, get_or, take, length-append}
use lib.Dec.{eqb}
use lib.Seq.{take-suc}
use borrow.Author.Tests.{le-ltb}
use Rattle.table.specs.declared.refusals.Refusal.{Refusal}
use Rattle.table.specs.declared.Task.{Task}
use Rattle.lines.specs.Lines.{Put, numbered, line_of}
use Rattle.lines.proofs.PutLaws.{put_more, numbered_short}
use Rattle.charges.specs.declared.Counts.{Counts}
use Rattle.charges.specs.Charges.{charge_by}
use Rattle.judging.specs.declared.Verdict.{Verdict}
use Rattle.executive.specs.declared.loaded.Loaded.{Loaded}
use Rattle.executive.specs.declared.loaded.Refused.{Refused}
use Rattle.executive.specs.Reading.{Reading, reading_by, reading_of}
use Rattle.table.specs.Refusals.{number_of}
use Rattle.table.proofs.RefusalLaws.{number_not_zero}
use Rattle.std.specs.Prelude.{Ok, Err}
use Rattle.image.specs.Loading.{load_of}
use Rattle.report.specs.Report.{Reported, report_of, state_lines, image_line, image_word, task_word, verdict_word, line_by, lines_by, verdict_line}

-- a line takes its word, 21 bytes for each number, and its end at the most
pub line_short : (word numbers : List ℕ) → length (line_of word numbers) ≤ length word + 21 * length numbers + 1
unfolding line_of
line_short word numbers =
    let a = length-append word (numbered numbers ++ (10 ∷ [])) in
    let b = length-append (numbered numbers) (10 ∷ []) in
    let c = numbered_short numbers in
    omega arith

pub task_short : (counts : Counts) (t : Task) → length (line_by counts t) ≤ 68
unfolding line_by task_word
task_short counts t = line_short (116 ∷ 97 ∷ 115 ∷ 107 ∷ []) (t.number ∷ t.queue ∷ charge_by counts t ∷ [])

pub verdict_short : (v : Verdict) → length (verdict_line v) ≤ 50
unfolding verdict_line verdict_word
verdict_short v = line_short (118 ∷ 101 ∷ 114 ∷ 100 ∷ 105 ∷ 99 ∷ 116 ∷ []) (v.number ∷ v.task ∷ [])

-- the lines of one task more
lines_append : (counts : Counts) (xs : List Task) (t : Task) → lines_by counts (xs ++ (t ∷ [])) ≡ lines_by counts xs ++ line_by counts t
unfolding lines_by
lines_append counts [] t = append-nil (line_by counts t)
lines_append counts (x ∷ xs) t =
    ap (λ (l : List ℕ). line_by counts x ++ l) (lines_append counts xs t) ∙ sym (append_assoc (line_by counts x) (lines_by counts xs) (line_by counts t))

pub lines_more : (counts : Counts) (l : List Task) (i : ℕ) (d : Task) → i < length l
    → lines_by counts (take (i + 1) l) ≡ lines_by counts (take i l) ++ line_by counts (get_or l i d)
lines_more counts l i d h =
    ap (λ (n : ℕ). lines_by counts (take n l)) (add-one i) ∙ (ap (lines_by counts) (take-suc l i d h) ∙ lines_append counts (take i l) (get_or l i d))

-- one task's line put behind those of the tasks before it
pub put_lines_more : (counts : Counts) (l : List Task) (i : ℕ) (d : Task) {a b c : List ℕ} {at end : ℕ} → i < length l
    → Put a 0 (lines_by counts (take i l)) b at → Put b at (line_by counts (get_or l i d)) c end → Put a 0 (lines_by counts (take (i + 1) l)) c end
put_lines_more counts l i d h p q = rw (lines_more counts l i d h) (put_more (lines_by counts (take i l)) (line_by counts (get_or l i d)) p q)

-- else the output is put at its front
pub reported_put : (image before after : List ℕ) (end : ℕ) → 4402 ≤ length before → end ≤ 4402 → Put before 0 (report_of image) after end
    → Reported image before after end
reported_put image before after end h k p =
    record {
      contents = rw (le-ltb (length before) 4402 h) p.contents;
      ends = rw (le-ltb (length before) 4402 h) (p.ends ∙ zero-add (length (report_of image)));
      inside = omega arith;
    }

-- what is printed for an image that is refused, and for one that is not
module _ (image : List ℕ) (l : Loaded Refusal) (e : reading_of l ≡ load_of image) where
  pub report_refused : (r : Refused Refusal) → l.answer ≡ Err r → report_of image ≡ line_of image_word (number_of r.refusal ∷ r.place ∷ [])
  unfolding report_of image_line
  report_refused r h =
      subst (λ (x : Reading). cond (eqb x.number 0) (state_lines x.state) (image_line x) ≡ line_of image_word (number_of r.refusal ∷ r.place ∷ []))
      (ap (reading_by l.state) (sym h) ∙ e)
      (rw (number_not_zero r.refusal))

  pub report_accepted : (x : Unit) → l.answer ≡ Ok x → report_of image ≡ state_lines l.state
  unfolding report_of
  report_accepted x h =
      subst (λ (r : Reading). cond (eqb r.number 0) (state_lines r.state) (image_line r) ≡ state_lines l.state) (ap (reading_by l.state) (sym h) ∙ e) refl
