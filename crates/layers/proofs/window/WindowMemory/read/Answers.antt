use Rattle.std.proofs.Common.{rules}
use Rattle.memory.proofs.Meaning.{read_refused}
use Rattle.layers.specs.Window.{length-window_of}
use Rattle.layers.proofs.WindowLaws.{window_read}
use Rattle.layers.proofs.window.WindowMemory.read.Goals as goal

pub returns-in_err-check_address : goal.returns-in_err-check_address
returns-in_err-check_address g c = search (rules, read_refused)

pub overflow_add-self : goal.overflow_add-self
overflow_add-self g c = let b = g.M.Memory.bounded c.args.self.now.below in search (rules, length-window_of)

pub returns : goal.returns
returns g c = search (rules, window_read)
