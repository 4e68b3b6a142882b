use Rattle.std.proofs.Common.{◌≡◌, take}
use Rattle.memory.specs.Tables.{laid_over}
use Rattle.memory.proofs.copying.copy_words.Given as goal

abbrev pub invariant-loop-address : goal.invariant-loop-address
invariant-loop-address g l = l.words ≡ laid_over (take l.address (g.M.Memory.meaning l.memory)) l.initial.words
