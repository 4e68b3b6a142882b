use Rattle.std.proofs.Common.{◌<◌, length, arith, rules}
use Rattle.memory.specs.Shown.{shows, shown-length}
use Rattle.memory.proofs.Meaning.{answers}
use Rattle.memory.proofs.word_table.WordTableMemory.write.Goals as goal

pub offset_bounds-self-address : goal.offset_bounds-self-address
offset_bounds-self-address g c =
    let lt : c.args.address < length c.args.self.now.words.now = omega (arith, shown-length c.args.self.now.words.now, c.in_ok-check_address.ensures.ok) in search rules

pub bounds-self-address : goal.bounds-self-address
bounds-self-address g c = search (rules, shows)

pub returns-in_err-check_address-clause-table : goal.returns-in_err-check_address-clause-table
returns-in_err-check_address-clause-table g c = search (rules, shows, answers)

pub returns : goal.returns
returns g c = search (rules, shows, answers)
