use Rattle.std.proofs.Common.{◌∙◌, arith}
use Rattle.memory.proofs.Tables.{laid_none, laid_all, copied_more, not_refused}
use Rattle.memory.proofs.copying.copy_words.Goals as goal
use Rattle.memory.proofs.copying.copy_words.Goals.{in-Ok, in_default}

pub loop-address-init : goal.loop-address-init
loop-address-init g c = laid_none (g.M.Memory.meaning c.args.memory.now) c.args.words.now

pub loop-address-preserved : goal.loop-address-preserved
loop-address-preserved g c =
    elim c.match-read.branch [
      | in-Ok w ↦
          copied_more (g.M.Memory.meaning c.args.memory.now) c.args.words.now c.loop-address.words _ c.loop-address.address c.read.result w.in-Ok.word (omega arith) (omega arith) c.read.ensures w.in-Ok.is c.loop-address.invariant w.words-is
      | in_default w ↦
          absurd (not_refused (g.M.Memory.meaning c.args.memory.now) c.loop-address.address c.read.result (omega arith) c.read.ensures w.in_default.not-Ok)
    ]

pub returns : goal.returns
returns g c = c.loop-address.invariant ∙ laid_all (g.M.Memory.meaning c.args.memory.now) c.args.words.now c.loop-address.address (omega arith)
