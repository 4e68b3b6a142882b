use Rattle.std.proofs.Common.{rules}
use Rattle.layers.proofs.BanksLaws.{length-banks_of}
use Rattle.layers.proofs.banks.BanksMemory.size.Goals as goal

pub returns : goal.returns
returns g c = search (rules, length-banks_of)
