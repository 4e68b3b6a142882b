-- The verdict on a run file, by the audit over empty tables of full size.
use Rattle.std.specs.Prelude.{ℕ, cond, List, replicate, Err}
use Rattle.run.specs.Rows.{no_card, no_row, no_cell}
use Rattle.run.specs.declared.rows.StepRow.TheVariants.{Unused}
use Rattle.files.specs.Run.{sound_run}
use Rattle.files.specs.declared.header.HeaderFault.TheVariants.{Broken}
use Rattle.audit.specs.declared.fault.FileFault.TheVariants as file
use Rattle.audit.specs.Audit.{Tables, Verdict, tables, file_audited}

-- a row for everything that a run can have: 1,024 words, 8 cards of 256 instructions and 1,024 cells each, 4,096 steps
unfoldable pub fresh : Tables
fresh = tables (replicate 1024 0) (replicate 8 no_card) (replicate 2048 no_row) (replicate 8192 no_cell) (replicate 4096 Unused)

-- the header first, then record by record
abbrev pub verdict_of : List ℕ → Verdict
verdict_of bs = cond (sound_run bs) (file_audited bs fresh).verdict (Err (file.Header Broken))
