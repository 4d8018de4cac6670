-- `lines::put_line` meets its contract: the word, the numbers and the line's end, one behind the other.
use mathlib.Core.Path.{◌∙◌}
use mathlib.Core.List.{[], ◌∷◌, ◌++◌}
use native.Mathlib.Omega.{arith}
use lib.ListN.{length-set}
use Rattle.lines.specs.Lines.{numbered, line_of}
use Rattle.lines.proofs.PutLaws.{put_more, put_one, put_length, numbered_short}
use Rattle.lines.proofs.put_line.Goals as goal

pub bounds-out-end : goal.bounds-out-end
bounds-out-end c =
    let a = c.args in
    let word = c.put_word-behind_word.ensures in
    let numbers = c.put_numbers-end.ensures in
    let e = word.ends in
    let f = numbers.ends in
    let short = numbered_short a.numbers.now in
    let l = put_length numbers in
    let k = put_length word in
    omega arith

pub overflow_add-result : goal.overflow_add-result
overflow_add-result c =
    let a = c.args in
    let word = c.put_word-behind_word.ensures in
    let numbers = c.put_numbers-end.ensures in
    let e = word.ends in
    let f = numbers.ends in
    let short = numbered_short a.numbers.now in
    omega arith

pub shape_of-out : goal.shape_of-out
shape_of-out c =
    let a = c.args in
    let word = c.put_word-behind_word.ensures in
    let numbers = c.put_numbers-end.ensures in
    simp length-set (put_length numbers ∙ put_length word)

pub returns : goal.returns
unfolding line_of
returns c =
    let a = c.args in
    let word = c.put_word-behind_word.ensures in
    let numbers = c.put_numbers-end.ensures in
    put_more a.word.now (numbered a.numbers.now ++ (10 ∷ [])) word
    (put_more (numbered a.numbers.now) (10 ∷ []) numbers (put_one c.put_numbers-end.new.out c.put_numbers-end.result 10))
