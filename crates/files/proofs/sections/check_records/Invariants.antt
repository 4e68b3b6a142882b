use Rattle.std.proofs.Common.{◌≡◌, ◌-◌}
use Rattle.files.specs.Sections.{records_from, records_of, fault_in}
use Rattle.files.proofs.sections.check_records.Given as goal

abbrev pub invariant-loop-place : goal.invariant-loop-place
invariant-loop-place g l =
    fault_in (records_from g.R.Record.decoded l.section (l.count - l.place-counter) l.place-counter)
    ≡ fault_in (records_of g.R.Record.decoded l.section l.count)
