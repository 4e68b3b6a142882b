use Rattle.std.proofs.Common.{rules}
use Rattle.memory.proofs.Meaning.{read_refused}
use Rattle.layers.proofs.BufferLaws.{held_read, other_read}
use Rattle.layers.proofs.write_buffer.WriteBufferMemory.read.Goals as goal

pub returns-in_err-check_address : goal.returns-in_err-check_address
returns-in_err-check_address g c = search (rules, read_refused)

pub returns-in-Some : goal.returns-in-Some
returns-in-Some g c =
    let at = held_read c.args.self.now.held (g.M.Memory.meaning c.args.self.now.below) c.args.address c.in-Some.word c.in-Some.ensures in
    search (rules, at)

pub returns-in-None : goal.returns-in-None
returns-in-None g c = search (rules, other_read)
