use Rattle.std.proofs.Common.{refl}
use Rattle.memory.proofs.Bytes.{number_rest}
use Rattle.memory.proofs.numbers.number_at.Goals as goal

pub returns-in_default : goal.returns-in_default
returns-in_default c = number_rest c.args.bytes.now c.args.at c.min.result _ _ _ _ _ c.min.ensures refl refl refl refl c.cut_number.ensures

pub returns : goal.returns
returns c = number_rest c.args.bytes.now c.args.at c.min.result _ _ _ _ _ c.min.ensures refl refl refl refl c.from_le_bytes.ensures
