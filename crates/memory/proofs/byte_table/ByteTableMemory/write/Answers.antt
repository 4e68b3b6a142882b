use Rattle.std.proofs.Common.{rules}
use Rattle.memory.specs.Shown.{shows}
use Rattle.memory.proofs.Meaning.{answers}
use Rattle.memory.proofs.Bytes.{length-words_of, bytes_write, table_in, table_out}
use Rattle.memory.proofs.byte_table.ByteTableMemory.write.Goals as goal

pub put_number-requires : goal.put_number-requires
put_number-requires c = search (rules, shows, length-words_of)

pub returns-in_err-check_address-clause-table : goal.returns-in_err-check_address-clause-table
returns-in_err-check_address-clause-table c = search (rules, shows, answers, table_out)

pub returns : goal.returns
returns c = search (rules, shows, answers, length-words_of, bytes_write, table_in)
