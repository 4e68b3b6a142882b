use Rattle.std.proofs.Common.{◌≡◌, List, take, Ok}
use Rattle.files.specs.Sections.{records_of}
use Rattle.memory.specs.Tables.{laid_over}
use Rattle.files.proofs.sections.records_into.Given as goal

abbrev pub invariant-loop-n : goal.invariant-loop-n
invariant-loop-n g l =
    (xs : List g.row.R.Denot) → records_of g.R.Record.decoded l.section l.count ≡ Ok xs
    → l.rows ≡ laid_over (take l.n xs) l.initial.rows
