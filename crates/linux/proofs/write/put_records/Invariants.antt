use Rattle.fields.proofs.PartLaws.{Filled}
use Rattle.linux.specs.Writing.{encode_attr}
use Rattle.linux.proofs.WriteLaws.{length_attr}
use Rattle.linux.proofs.write.put_records.Given as goal

abbrev pub invariant-loop-i : goal.invariant-loop-i
invariant-loop-i l = Filled encode_attr 48 length_attr l.tasks l.initial.list l.list l.i
