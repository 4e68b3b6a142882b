use Rattle.std.proofs.Common.{◌∙◌, arith}
use Rattle.memory.proofs.Bytes.{number_put}
use Rattle.memory.proofs.numbers.put_number.Goals as goal

pub returns : goal.returns
returns c = number_put c.args.bytes.now _ c.args.at c.args.number _ c.requires (c.copy_from_slice.ensures.after ∙ c.to_le_bytes.ensures) (omega arith)
