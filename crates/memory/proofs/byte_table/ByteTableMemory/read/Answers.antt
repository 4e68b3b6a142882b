use Rattle.std.proofs.Common.{rules}
use Rattle.memory.proofs.Meaning.{answers}
use Rattle.memory.proofs.Bytes.{bytes_answer}
use Rattle.memory.proofs.byte_table.ByteTableMemory.read.Goals as goal

pub returns-in_err-check_address : goal.returns-in_err-check_address
returns-in_err-check_address c = search (rules, answers)

pub returns : goal.returns
returns c = search (rules, bytes_answer)
