use Rattle.std.proofs.Common.{rules}
use Rattle.files.proofs.Numbers.{number_rest}
use Rattle.files.proofs.records.CardEntryRecord.decode.Goals as goal

pub returns-in_err-entry-clause-decoded : goal.returns-in_err-entry-clause-decoded
returns-in_err-entry-clause-decoded c =
    let a = number_rest c.args.row.now 4 0 in
    let w = number_rest c.args.row.now 4 4 in
    search rules

pub returns-clause-decoded : goal.returns-clause-decoded
returns-clause-decoded c =
    let a = number_rest c.args.row.now 4 0 in
    let w = number_rest c.args.row.now 4 4 in
    search rules
