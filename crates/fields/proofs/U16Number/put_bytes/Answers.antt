-- A number of 2 bytes is put as the contract says: std gives those bytes.
use Rattle.std.proofs.Common.{rules, ◌∙◌}
use Rattle.fields.proofs.ByteLaws.{std_bytes}
use Rattle.fields.proofs.U16Number.put_bytes.Goals as goal

pub returns : goal.returns
returns c = search rules ∙ std_bytes 2 c.args.self
