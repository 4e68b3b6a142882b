use Rattle.std.proofs.Common.{◌≡◌, set, ap, ◌∙◌, arith}
use Rattle.std.proofs.lemmas.List.{take_rest, set-get_or}
use Rattle.memory.specs.Bytes.{number_at, words_of}
use Rattle.memory.proofs.Tables.{laid_more, laid_all}
use Rattle.files.proofs.Numbers.{word_here, words_end}
use Rattle.files.proofs.words.words_into.Goals as goal

pub loop-word-preserved : goal.loop-word-preserved
unfolding number_at
loop-word-preserved c =
    let bs = c.args.section.now in
    let i = c.loop-word.word-index in
    let h = word_here bs c.loop-word.rest.now i c.in-len4-up.len_at_least c.loop-word.invariant.1 in
    let x : c.from_le_bytes.result ≡ number_at c.loop-word.rest.now 0 = c.from_le_bytes.ensures in (
      ap (λ rows. set rows i c.from_le_bytes.result) c.loop-word.invariant.0
          ∙ laid_more (words_of bs) c.args.words.now i c.from_le_bytes.result h.there (omega arith) (rw x h.word),
      ap words_of (take_rest c.loop-word.rest.now 4) ∙ h.behind,
    )

pub returns-in_default : goal.returns-in_default
returns-in_default c =
    let i = c.loop-word.word-index in
    let e = words_end c.args.section.now c.loop-word.rest.now i c.in_default.len_below c.loop-word.invariant.1 in
    set-get_or c.loop-word.words i 0 ∙ c.loop-word.invariant.0 ∙ laid_all (words_of c.args.section.now) c.args.words.now i (omega arith)
