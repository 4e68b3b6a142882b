use Rattle.std.proofs.Common.{ap, sym, ◌∙◌}
use Rattle.run.specs.Steps.{unbound_by}
use Rattle.run.proofs.Binders.{binder_is}
use Rattle.run.proofs.checks.unbound.Goals as goal

pub returns-in-Some : goal.returns-in-Some
returns-in-Some g c = ap unbound_by (sym c.in-Some.is ∙ c.lowest_binder.ensures ∙ binder_is c.args.rows.now c.args.later)

pub returns-in-None : goal.returns-in-None
returns-in-None g c = ap unbound_by (sym c.in-None.is ∙ c.lowest_binder.ensures ∙ binder_is c.args.rows.now c.args.later)
