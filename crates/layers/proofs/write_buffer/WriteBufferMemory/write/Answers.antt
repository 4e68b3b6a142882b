use Rattle.std.proofs.Common.{rules}
use Rattle.layers.proofs.BufferLaws.{over_held}
use Rattle.layers.proofs.write_buffer.WriteBufferMemory.write.Goals as goal

pub returns-clause-meaning : goal.returns-clause-meaning
returns-clause-meaning g c = search (rules, over_held)
