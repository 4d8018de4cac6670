use Rattle.fields.proofs.PartLaws.{Filled}
use Rattle.image.proofs.WriteLaws.{encode_entry, length_entry, entries_of}
use Rattle.image.proofs.write.put_entries.Given as goal

abbrev pub invariant-loop-i : goal.invariant-loop-i
invariant-loop-i l = Filled encode_entry 32 length_entry (entries_of l.state) l.initial.part l.part l.i
