use Rattle.std.proofs.Common.{sym, ◌∙◌}
use Rattle.std.proofs.lemmas.Result.{err_from_is_err_and}
use Rattle.layers.proofs.StacksLaws.{first_refused, second_refused, not_refused}
use Rattle.layers.proofs.stacks.swap_words.Goals as goal

pub returns-in_err-at_a-clause-answer : goal.returns-in_err-at_a-clause-answer
returns-in_err-at_a-clause-answer g c =
    let p = err_from_is_err_and c.from_residual.result c.from_residual.ensures.1 in
    rw (p.1, p.2) (first_refused (g.M.Memory.meaning c.args.memory.now) c.args.a c.args.b _ (sym c.in_err-at_a.was ∙ c.read.ensures))

pub returns-in_err-at_b-clause-answer : goal.returns-in_err-at_b-clause-answer
returns-in_err-at_b-clause-answer g c =
    let p = err_from_is_err_and c.from_residual-in_err-at_b.result c.from_residual-in_err-at_b.ensures.1 in
    rw (p.1, p.2) (second_refused (g.M.Memory.meaning c.args.memory.now) c.args.a c.args.b _ (sym c.in_err-at_b.was ∙ c.read-2.ensures))

pub returns-in_err-write : goal.returns-in_err-write
returns-in_err-write g c =
    let d = sym c.in_ok-at_a.was ∙ c.read.ensures in
    let e = sym c.in_err-write.was ∙ c.write.ensures.answer in
    absurd (not_refused (g.M.Memory.meaning c.args.memory.now) c.args.a _ _ d e)
