-- A number of 8 bytes is put as the contract says: std gives those bytes.
use Rattle.std.proofs.Common.{rules, ◌∙◌}
use Rattle.fields.proofs.ByteLaws.{std_bytes}
use Rattle.fields.proofs.U64Number.put_bytes.Goals as goal

pub returns : goal.returns
returns c = search rules ∙ std_bytes 8 c.args.self
