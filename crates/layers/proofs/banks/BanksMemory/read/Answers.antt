use Rattle.std.proofs.Common.{rules}
use Rattle.memory.proofs.Meaning.{read_refused}
use Rattle.layers.proofs.BanksLaws.{even_read, odd_read}
use Rattle.layers.proofs.banks.BanksMemory.read.Goals as goal

pub returns-in_err-check_address : goal.returns-in_err-check_address
returns-in_err-check_address g c = search (rules, read_refused)

pub returns-then-address-eq0 : goal.returns-then-address-eq0
returns-then-address-eq0 g c = search (rules, even_read)

pub returns-else-address-eq0 : goal.returns-else-address-eq0
returns-else-address-eq0 g c = search (rules, odd_read)
