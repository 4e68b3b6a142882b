-- What reading a run file answers, and what it leaves in the tables.
use Rattle.std.specs.Prelude.{ℕ, Bool, cond, ◌&&◌, List, length, Some, None, Ok, Err, Option, Result, nat_le}
use Rattle.memory.specs.Bytes.{words_of}
use Rattle.files.specs.Faults.{Refusal}
use Rattle.files.specs.Header.{header_of}
use Rattle.files.specs.Records.{decode_entry, decode_step}
use Rattle.files.specs.Run.{sound_run, words_section, entries_section, steps_section}
use Rattle.files.specs.Sections.{records_of, fault_in}
use Rattle.memory.specs.Tables.{laid_over}
use Rattle.files.specs.declared.header.Header.{Header}
use Rattle.files.specs.declared.header.HeaderFault.TheVariants as of_header
use Rattle.files.specs.declared.read.ReadFault.{ReadFault}
use Rattle.files.specs.declared.read.ReadFault.TheVariants as of_read
use Rattle.files.specs.declared.records.BadRecord.{BadRecord}
use Rattle.files.specs.declared.records.CardEntry.{CardEntry}
use Rattle.files.specs.declared.records.RecordFault.{RecordFault}
use Rattle.files.specs.declared.step.Step.{Step}

-- what a run file says
pub record Reading : Type 0 where
  pub header : Header
  pub words : List ℕ
  pub entries : List CardEntry
  pub steps : List Step

-- tables of so many rows have room for what the header announces
abbrev pub has_room : Header → ℕ → ℕ → ℕ → Bool
has_room h words entries steps = nat_le h.size words && nat_le h.entries entries && nat_le h.steps steps

-- what the records come to: entries are read before steps
abbrev pub both_read : Header → List ℕ → Result (List CardEntry) (BadRecord RecordFault) → Result (List Step) (BadRecord RecordFault) → Result Reading ReadFault
both_read h ws (Ok es) (Ok ss) = Ok (record { header = h; words = ws; entries = es; steps = ss })
both_read h ws (Ok es) (Err b) = Err (of_read.Step b)
both_read h ws (Err b) steps = Err (of_read.Entry b)

-- a header and the three sections behind it
abbrev pub file_read : Header → List ℕ → List ℕ → List ℕ → Result Reading ReadFault
file_read h words entries steps =
    both_read h (words_of words) (records_of decode_entry entries h.entries) (records_of decode_step steps h.steps)

-- reading a file into tables: the header is tested first, then the tables, then record by record
abbrev pub reading : List ℕ → List ℕ → List CardEntry → List Step → Result Reading ReadFault
reading bs words entries steps =
    cond (sound_run bs)
    (cond (has_room (header_of bs) (length words) (length entries) (length steps))
    (file_read (header_of bs) (words_section bs) (entries_section bs) (steps_section bs))
    (Err of_read.TooShort))
    (Err (of_read.Header of_header.Broken))

-- the first record that is refused: 16, with its layer and place
abbrev pub record_refusal : Option (BadRecord RecordFault) → Option (BadRecord RecordFault) → Refusal
record_refusal (Some b) in-steps = record { number = 16; layer = 3; place = b.place }
record_refusal None (Some b) = record { number = 16; layer = 4; place = b.place }
record_refusal None None = record { number = 0; layer = 0; place = 0 }

-- what a refusal tells: 15 for the header, else 1 for a table, else the first record's
abbrev pub expected_refusal : List ℕ → List ℕ → List CardEntry → List Step → Refusal
expected_refusal bs words entries steps =
    cond (sound_run bs)
    (cond (has_room (header_of bs) (length words) (length entries) (length steps))
    (record_refusal
    (fault_in (records_of decode_entry (entries_section bs) (header_of bs).entries))
    (fault_in (records_of decode_step (steps_section bs) (header_of bs).steps)))
    (record { number = 1; layer = 0; place = 0 }))
    (record { number = 15; layer = 2; place = 0 })

-- what the call answers
abbrev pub header_read : Result Reading ReadFault → Result Header ReadFault
header_read (Ok x) = Ok x.header
header_read (Err f) = Err f

-- what the words' table holds after it; a refused call leaves each table as it was
abbrev pub words_after : Result Reading ReadFault → List ℕ → List ℕ
words_after (Ok x) old = laid_over x.words old
words_after (Err f) old = old

-- the entries' table
abbrev pub entries_after : Result Reading ReadFault → List CardEntry → List CardEntry
entries_after (Ok x) old = laid_over x.entries old
entries_after (Err f) old = old

-- the steps' table
abbrev pub steps_after : Result Reading ReadFault → List Step → List Step
steps_after (Ok x) old = laid_over x.steps old
steps_after (Err f) old = old
