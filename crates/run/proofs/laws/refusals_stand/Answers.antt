use Rattle.run.proofs.Binders.{names_lowest}
use Rattle.run.proofs.laws.refusals_stand.Goals as goal

pub returns-clause-bound : goal.returns-clause-bound
returns-clause-bound g c = names_lowest _
