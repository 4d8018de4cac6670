-- `report::report` meets its contract: a refused image has one line, any other a line for each task and one for the verdict.
use mathlib.Core.List.{[], ◌∷◌}
use mathlib.Core.Path.{◌∙◌}
use native.Mathlib.Omega.{arith}
use Rattle.table.specs.Refusals.{number_of}
use Rattle.lines.specs.Lines.{Put, line_of}
use Rattle.executive.specs.States.{tasks_of}
use Rattle.judging.specs.Verdicts.{verdict_of}
use Rattle.lines.proofs.PutLaws.{put_more}
use Rattle.report.specs.Report.{image_word, verdict_word, task_lines, verdict_line, state_lines}
use Rattle.image.proofs.RoundTrips.{sound_of}
use Rattle.report.proofs.LineLaws.{line_short, verdict_short, reported_put, report_refused, report_accepted}
use Rattle.report.proofs.report.Goals as goal

pub returns-in-Err : goal.returns-in-Err
unfolding image_word
returns-in-Err c =
    let a = c.args in
    let l = c.load-loaded in
    let r = c.in-Err.refused in
    let told = number_of r.refusal ∷ r.place ∷ [] in
    let pair = c.put_pair in
    let line : Put a.out.now 0 (line_of image_word told) pair.new.out pair.result = rw c.number-number.ensures at pair.ensures in
    let e = line.ends in
    let short = line_short image_word told in
    reported_put a.image.now a.out.now _ _ c.if-out-lt-BYTES.false (omega arith) (rw (report_refused a.image.now l.result l.ensures r c.in-Err.is) line)

pub shared_ref_as_front-put_tasks : goal.shared_ref_as_front-put_tasks
shared_ref_as_front-put_tasks c =
    let z = (sound_of c.args.image.now c.load-loaded.result c.load-loaded.ensures (λ i h. (c.type_inv.image i).fits)).sized in omega arith

pub judge-requires : goal.judge-requires
judge-requires c = sound_of c.args.image.now c.load-loaded.result c.load-loaded.ensures (λ i h. (c.type_inv.image i).fits)

pub returns : goal.returns
unfolding state_lines verdict_line verdict_word tasks_of
returns c =
    let a = c.args in
    let l = c.load-loaded in
    let s = l.result.state in
    let tasks = c.put_tasks-end in
    let line = c.put_pair-2 in
    let v = verdict_of (tasks_of s) s.board in
    let judged : Put tasks.new.out tasks.result (verdict_line v) line.new.out line.result = rw (c.told-told.ensures ∙ c.judge.ensures) at line.ensures in
    let e = judged.ends in
    let short = verdict_short v in
    let few = tasks.ensures.1 in
    reported_put a.image.now a.out.now _ _ c.if-out-lt-BYTES.false (omega arith)
    (rw (report_accepted a.image.now l.result l.ensures _ c.in_default.is)
    (put_more (task_lines (tasks_of s) s.board) (verdict_line v) tasks.ensures.0 judged))
