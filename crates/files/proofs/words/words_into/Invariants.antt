use Rattle.std.proofs.Common.{◌≡◌, take, drop}
use Rattle.memory.specs.Bytes.{words_of}
use Rattle.memory.specs.Tables.{laid_over}
use Rattle.files.proofs.words.words_into.Given as goal

abbrev pub invariant-loop-word : goal.invariant-loop-word
invariant-loop-word l =
    (l.words ≡ laid_over (take l.word-index (words_of l.section)) l.initial.words)
    × (words_of l.rest ≡ drop l.word-index (words_of l.section))
