-- What the verdict ok says of a run file.
use Rattle.std.specs.Prelude.{◌≡◌, ℕ, true, List, None}
use Rattle.run.specs.Drafts.{Drafted}
use Rattle.run.specs.Steps.{World}
use Rattle.memory.specs.Bytes.{words_of}
use Rattle.files.specs.Header.{header_of, order_meant}
use Rattle.files.specs.Run.{sound_run, words_section, entries_section, steps_section}
use Rattle.audit.specs.Audit.{Tables, tables, opened, started}
use Rattle.audit.specs.Records.{entry_one, step_one}
use Rattle.audit.specs.Turns.{Worked, worked}

-- the entries of the file, added in turn to an empty draft over its initial words
abbrev pub entries_worked : List ℕ → Tables → Worked (Drafted ℕ)
entries_worked bs t =
    worked (entry_one (order_meant (header_of bs).order) (entries_section bs)) (header_of bs).entries 0
    (opened (header_of bs).cards (tables (words_of (words_section bs)) t.cards t.code t.cells t.steps))

-- its steps, taken in turn by the run that starts from there
abbrev pub steps_worked : List ℕ → Tables → Worked (World ℕ)
steps_worked bs t = worked (step_one (steps_section bs)) (header_of bs).steps 0 (started (entries_worked bs t).after t.cells t.steps)

-- the header is sound, no entry and no step is refused, and n is the number of all its step records, each an accepted step of the run
pub record Accepted (bs : List ℕ) (t : Tables) (n : ℕ) : Type 0 where
  pub sound : sound_run bs ≡ true
  pub entries : (entries_worked bs t).stopped ≡ None
  pub steps : (steps_worked bs t).stopped ≡ None
  pub all : n ≡ (header_of bs).steps
  pub taken : n ≡ (steps_worked bs t).after.used
