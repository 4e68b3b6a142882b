use Rattle.std.proofs.Common.{rules}
use Rattle.files.proofs.Numbers.{number_rest}
use Rattle.files.proofs.step.StepRecord.decode.Goals as goal

pub returns-clause-decoded : goal.returns-clause-decoded
returns-clause-decoded c =
    let p = number_rest c.args.row.now 4 0 in
    let w = number_rest c.args.row.now 4 4 in
    search rules
