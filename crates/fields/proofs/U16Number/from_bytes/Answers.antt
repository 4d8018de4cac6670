-- A number of 2 bytes is read as the contract says: std reads that number.
use Rattle.std.proofs.Common.{rules, ◌∙◌}
use Rattle.fields.proofs.ByteLaws.{std_value}
use Rattle.fields.proofs.U16Number.from_bytes.Goals as goal

pub returns : goal.returns
returns c = search rules ∙ std_value 1 c.args.bytes.now c.requires
