-- The audit of one run file.
use Rattle.std.specs.Prelude.{ℕ, ◌*◌, Bool, false, cond, ◌&&◌, List, length, Some, None, Option, Ok, Err, Result, nat_le}
use Rattle.orders.specs.declared.chosen.AnyOrder.{AnyOrder}
use Rattle.run.specs.Drafts.{Drafted}
use Rattle.run.specs.Rows.{no_card, no_cell, filled}
use Rattle.run.specs.Steps.{World}
use Rattle.run.specs.declared.rows.Cell.{Cell}
use Rattle.run.specs.declared.rows.CodeRow.{CodeRow}
use Rattle.run.specs.declared.rows.CardRecord.{CardRecord}
use Rattle.run.specs.declared.rows.StepRow.{StepRow}
use Rattle.run.specs.declared.rows.Tables.{Tables as Lent}
use Rattle.memory.specs.Bytes.{words_of}
use Rattle.files.specs.Header.{header_of, order_meant}
use Rattle.files.specs.Run.{sound_run, words_section, entries_section, steps_section}
use Rattle.memory.specs.Tables.{laid_over}
use Rattle.files.specs.declared.header.Header.{Header}
use Rattle.files.specs.declared.header.HeaderFault.TheVariants.{Broken}
use Rattle.audit.specs.declared.fault.FileFault.{FileFault}
use Rattle.audit.specs.declared.fault.FileFault.TheVariants as file
use Rattle.audit.specs.declared.verdict.AuditFault.{AuditFault}
use Rattle.audit.specs.declared.verdict.AuditFault.TheVariants as refusal
use Rattle.audit.specs.Turns.{Stop, worked}
use Rattle.audit.specs.Records.{entry_one, step_one}

-- what an audit comes to: the number of its steps, or the first refusal
abbrev pub Verdict : Type 0
Verdict = Result ℕ FileFault

-- the tables lent to an audit; `words` is the run's memory
pub record Tables : Type 0 where
  pub words : List ℕ
  pub cards : List CardRecord
  pub code : List (CodeRow ℕ)
  pub cells : List (Cell ℕ)
  pub steps : List (StepRow ℕ)

-- what records come to, and what they leave in the tables
pub record Audited : Type 0 where
  pub verdict : Verdict
  pub left : Tables

abbrev pub tables : List ℕ → List CardRecord → List (CodeRow ℕ) → List (Cell ℕ) → List (StepRow ℕ) → Tables
tables words cards code cells steps = record { words = words; cards = cards; code = code; cells = cells; steps = steps }

-- the run's memory, and the lent tables as they are now
abbrev pub tables_of : List ℕ → Lent ℕ → Tables
tables_of words t = tables words t.cards.now t.code.now t.cells.now t.steps.now

abbrev pub world_left : World ℕ → Tables
world_left w = tables w.memory w.cards w.code w.cells w.steps

-- after the steps: ok if none was refused
abbrev pub after_steps : World ℕ → Option Stop → Audited
after_steps w None = record { verdict = Ok w.used; left = world_left w }
after_steps w (Some s) = record { verdict = Err (file.Step s); left = world_left w }

-- the run right after starting: all cells absent, no step taken
abbrev pub started : Drafted ℕ → List (Cell ℕ) → List (StepRow ℕ) → World ℕ
started d cells steps = record {
  count = d.count;
  raw = d.raw;
  used = 0;
  memory = d.memory;
  cards = d.cards;
  code = d.code;
  cells = filled (d.count * length d.memory) no_cell cells;
  steps = steps;
}

abbrev pub steps_audited : List ℕ → ℕ → World ℕ → Audited
steps_audited section count w = after_steps (worked (step_one section) count 0 w).after (worked (step_one section) count 0 w).stopped

-- after the entries: the steps, if none was refused
abbrev pub after_entries : List ℕ → ℕ → List (Cell ℕ) → List (StepRow ℕ) → Drafted ℕ → Option Stop → Audited
after_entries section count cells steps d None = steps_audited section count (started d cells steps)
after_entries section count cells steps d (Some s) = record { verdict = Err (file.Entry s); left = tables d.memory d.cards d.code cells steps }

-- the entries and then the steps, from a draft on
abbrev pub draft_audited : AnyOrder → Header → List ℕ → List ℕ → Drafted ℕ → List (Cell ℕ) → List (StepRow ℕ) → Audited
draft_audited order h entries steps d cells rows =
    after_entries steps h.steps cells rows
    (worked (entry_one order entries) h.entries 0 d).after
    (worked (entry_one order entries) h.entries 0 d).stopped

-- the draft right after opening: no entry on any card
abbrev pub opened : ℕ → Tables → Drafted ℕ
opened count t = record { count = count; raw = false; memory = t.words; cards = filled count no_card t.cards; code = t.code }

-- the entries and then the steps of a file, over a memory that holds the initial words
abbrev pub records_audited : Header → List ℕ → List ℕ → Tables → Audited
records_audited h entries steps t = draft_audited (order_meant h.order) h entries steps (opened h.cards t) t.cells t.steps

-- tables of so many rows can hold the run that the header announces
abbrev pub roomy : Header → ℕ → ℕ → ℕ → ℕ → Bool
roomy h words cards code cells = nat_le h.size words && (nat_le h.cards cards && (nat_le (256 * h.cards) code && nat_le (h.cards * h.size) cells))

-- what an audit answers and leaves
pub record AuditOutcome : Type 0 where
  pub answer : Result Verdict AuditFault
  pub left : Tables

-- the run's words in the first rows of the table, and the other rows as they were
abbrev pub words_back : List ℕ → Audited → AuditOutcome
words_back old a = record {
  answer = Ok a.verdict;
  left = tables (laid_over a.left.words old) a.left.cards a.left.code a.left.cells a.left.steps;
}

-- the run over the initial words of the file
abbrev pub file_audited : List ℕ → Tables → Audited
file_audited bs t =
    records_audited (header_of bs) (entries_section bs) (steps_section bs)
    (tables (words_of (words_section bs)) t.cards t.code t.cells t.steps)

-- the audit of a file: the header first, then the tables, then record by record
abbrev pub audited : List ℕ → Tables → AuditOutcome
audited bs t =
    cond (sound_run bs)
    (cond (roomy (header_of bs) (length t.words) (length t.cards) (length t.code) (length t.cells))
    (words_back t.words (file_audited bs t))
    (record { answer = Err refusal.TooShort; left = t }))
    (record { answer = Ok (Err (file.Header Broken)); left = t })
