-- `report::put_task` meets its contract: one line of the word and the three numbers, the last of which is the charge.
use Rattle.report.specs.Report.{line_by, task_word}
use Rattle.report.proofs.put_task.Goals as goal

pub returns : goal.returns
unfolding line_by task_word
returns c =
    let charge = c.charge in
    rw charge.ensures.0 at c.put_line.ensures
