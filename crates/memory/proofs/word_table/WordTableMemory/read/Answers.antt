use Rattle.std.proofs.Common.{rules}
use Rattle.memory.specs.Shown.{shows}
use Rattle.memory.proofs.Meaning.{answers}
use Rattle.memory.proofs.word_table.WordTableMemory.read.Goals as goal

pub returns-in_err-check_address : goal.returns-in_err-check_address
returns-in_err-check_address g c = search (rules, answers)

pub offset_bounds-self-address : goal.offset_bounds-self-address
offset_bounds-self-address g c = search (rules, shows)

pub bounds-self-address : goal.bounds-self-address
bounds-self-address g c = search (rules, shows)

pub returns : goal.returns
returns g c = search (rules, shows, answers)
