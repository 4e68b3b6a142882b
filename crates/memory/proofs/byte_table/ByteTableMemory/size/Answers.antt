use Rattle.std.proofs.Common.{rules}
use Rattle.memory.specs.Shown.{shows}
use Rattle.memory.proofs.Bytes.{length-words_of}
use Rattle.memory.proofs.byte_table.ByteTableMemory.size.Goals as goal

pub returns : goal.returns
returns c = search (rules, shows, length-words_of)
