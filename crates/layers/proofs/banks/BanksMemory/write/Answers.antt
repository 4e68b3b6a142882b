use Rattle.std.proofs.Common.{rules}
use Rattle.layers.proofs.BanksLaws.{bank_answer, even_write, odd_write}
use Rattle.layers.proofs.banks.BanksMemory.write.Goals as goal

pub returns-then-address-eq0-clause-answer : goal.returns-then-address-eq0-clause-answer
returns-then-address-eq0-clause-answer g c = search (rules, bank_answer)

pub returns-then-address-eq0-clause-meaning : goal.returns-then-address-eq0-clause-meaning
returns-then-address-eq0-clause-meaning g c = search (rules, even_write)

pub returns-else-address-eq0-clause-answer : goal.returns-else-address-eq0-clause-answer
returns-else-address-eq0-clause-answer g c = search (rules, bank_answer)

pub returns-else-address-eq0-clause-meaning : goal.returns-else-address-eq0-clause-meaning
returns-else-address-eq0-clause-meaning g c = search (rules, odd_write)
