use Rattle.std.proofs.Common.{rules}
use Rattle.layers.specs.Window.{length-window_of}
use Rattle.layers.proofs.WindowLaws.{window_answer, window_write}
use Rattle.layers.proofs.window.WindowMemory.write.Goals as goal

pub overflow_add-self : goal.overflow_add-self
overflow_add-self g c = let b = g.M.Memory.bounded c.args.self.now.below in search (rules, length-window_of)

pub returns-clause-answer : goal.returns-clause-answer
returns-clause-answer g c = search (rules, window_answer)

pub returns-clause-meaning : goal.returns-clause-meaning
returns-clause-meaning g c = search (rules, window_write)
