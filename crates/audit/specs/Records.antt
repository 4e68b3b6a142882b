-- What one record of a run file does to the run.
use Rattle.std.specs.Prelude.{ℕ, List, Some, None, Ok, Err, Result, nat_eq}
use Rattle.orders.specs.Chosen.{any_takes, any_before, any_after}
use Rattle.orders.specs.declared.chosen.AnyOrder.{AnyOrder}
use Rattle.run.specs.Drafts.{Drafted, added}
use Rattle.run.specs.Steps.{World, Outcome, performed, cached, written_back, purged}
use Rattle.run.specs.declared.fault.ProgramFault.{ProgramFault}
use Rattle.run.specs.declared.fault.StepFault.{StepFault}
use Rattle.files.specs.Records.{entry_at, step_at}
use Rattle.files.specs.declared.records.CardEntry.{CardEntry}
use Rattle.files.specs.declared.records.RecordFault.{RecordFault}
use Rattle.files.specs.declared.step.Step.{Step}
use Rattle.files.specs.declared.step.Step.TheVariants.{Perform, PerformRecorded, Cache, WriteBack, Purge}
use Rattle.audit.specs.declared.fault.RowFault.{RowFault}
use Rattle.audit.specs.declared.fault.RowFault.TheVariants as row
use Rattle.audit.specs.Turns.{Taken}

abbrev pub program_from : Result (Unit {0}) ProgramFault → Result (Unit {0}) RowFault
program_from (Ok u) = Ok u
program_from (Err f) = Err (row.Program f)

abbrev pub step_from : {X : Type 0} → Result X StepFault → Result (Unit {0}) RowFault
step_from (Ok x) = Ok tt
step_from (Err f) = Err (row.Step f)

abbrev pub entry_taken : AnyOrder → Drafted ℕ → Result CardEntry RecordFault → Taken (Drafted ℕ)
entry_taken o d (Err f) = record { answer = Err (row.Record f); after = d }
entry_taken o d (Ok e) = record {
  answer = program_from (added (any_takes o) (any_before o) (any_after o) d e.card e.entry).answer;
  after = (added (any_takes o) (any_before o) (any_after o) d e.card e.entry).after;
}

-- entry k of a section is added to the draft
abbrev pub entry_one : AnyOrder → List ℕ → ℕ → Drafted ℕ → Taken (Drafted ℕ)
entry_one o section k d = entry_taken o d (entry_at section k)

abbrev pub from_outcome : {X : Type 0} → Outcome X ℕ → Taken (World ℕ)
from_outcome o = record { answer = step_from o.answer; after = o.after }

abbrev pub stepped : World ℕ → Step → Taken (World ℕ)
stepped w (Perform c p) = from_outcome (performed nat_eq w c p None)
stepped w (PerformRecorded c p v) = from_outcome (performed nat_eq w c p (Some v))
stepped w (Cache c a) = from_outcome (cached w c a)
stepped w (WriteBack c a) = from_outcome (written_back w c a)
stepped w (Purge c a) = from_outcome (purged w c a)

abbrev pub step_taken : World ℕ → Result Step RecordFault → Taken (World ℕ)
step_taken w (Err f) = record { answer = Err (row.Record f); after = w }
step_taken w (Ok s) = stepped w s

-- step k of a section is taken by the run
abbrev pub step_one : List ℕ → ℕ → World ℕ → Taken (World ℕ)
step_one section k w = step_taken w (step_at section k)
