-- What writing a run file answers, and what it leaves in the table of bytes.
use Rattle.std.specs.Prelude.{ℕ, ◌+◌, ◌*◌, Bool, cond, ◌&&◌, List, [], ◌∷◌, ◌++◌, length, take, drop, Some, None, Ok, Err, Option, Result, nat_le}
use Rattle.std.specs.List.{flat_map}
use Rattle.memory.specs.Tables.{laid_over}
use Rattle.orders.specs.Chosen.{code_of}
use Rattle.orders.specs.declared.chosen.AnyOrder.{AnyOrder}
use Rattle.files.specs.Encoding.{number_bytes, encode_entry, encode_step}
use Rattle.files.specs.Header.{in_bounds, file_end}
use Rattle.files.specs.declared.header.Fields.{Fields}
use Rattle.files.specs.declared.header.HeaderFault.TheVariants as of_header
use Rattle.files.specs.declared.records.CardEntry.{CardEntry}
use Rattle.files.specs.declared.step.Step.{Step}
use Rattle.files.specs.declared.write_fault.WriteFault.{WriteFault}
use Rattle.files.specs.declared.write_fault.WriteFault.TheVariants as of_write

-- the bytes of a table, with new ones put from byte `at` on
abbrev pub written_at : List ℕ → ℕ → List ℕ → List ℕ
written_at old at new = take at old ++ (new ++ drop (at + length new) old)

-- the code of the order that is handed, and 0 if none is
abbrev pub handed_code : Option AnyOrder → ℕ
handed_code (Some o) = code_of o
handed_code None = 0

-- the header of a file of so many words, entries and steps
abbrev pub fields_for : Option AnyOrder → ℕ → ℕ → ℕ → ℕ → Fields
fields_for order cards words entries steps = record {
  cards = cards;
  size = words;
  code = handed_code order;
  entries = entries;
  entries_at = 32 + 4 * words;
  steps = steps;
  steps_at = 32 + 4 * words + 12 * entries;
  words_at = 32;
}

-- the header is within its bounds, and the number of steps has 32 bits
abbrev pub writable : Fields → Bool
writable h = in_bounds h && nat_le h.steps 4294967295

-- the eight numbers of a header, in turn
abbrev pub field_numbers : Fields → List ℕ
field_numbers h = h.cards ∷ h.size ∷ h.code ∷ h.entries ∷ h.entries_at ∷ h.steps ∷ h.steps_at ∷ h.words_at ∷ []

-- the bytes of a run file: header, initial words, entries, steps
abbrev pub file_bytes : Option AnyOrder → ℕ → List ℕ → List CardEntry → List Step → List ℕ
file_bytes order cards words entries steps =
    flat_map number_bytes (field_numbers (fields_for order cards (length words) (length entries) (length steps)))
    ++ (flat_map number_bytes words ++ (flat_map encode_entry entries ++ flat_map encode_step steps))

-- what writing a file answers, by whether it is a legal one, its length and the table's: its length, else 15 before 1
abbrev pub written_if : Bool → ℕ → ℕ → Result ℕ WriteFault
written_if legal end len =
    cond legal (cond (nat_le end len) (Ok end) (Err of_write.TooShort)) (Err (of_write.Header of_header.Broken))

-- what writing a run file with this header answers
abbrev pub written_with : Fields → ℕ → Result ℕ WriteFault
written_with h len = written_if (writable h) (file_end h) len

-- what writing a run file answers
abbrev pub writing : Option AnyOrder → ℕ → List ℕ → List CardEntry → List Step → List ℕ → Result ℕ WriteFault
writing order cards words entries steps out =
    written_with (fields_for order cards (length words) (length entries) (length steps)) (length out)

-- the table after it: the file in the first bytes, the others as they were; a refused call leaves all of them
abbrev pub bytes_after : Result ℕ WriteFault → List ℕ → List ℕ → List ℕ
bytes_after (Ok n) file old = laid_over file old
bytes_after (Err f) file old = old

-- the number of a refusal, by whether the file is a legal one: 15 if it is not, else 1 for the table
abbrev pub expected_number : Bool → ℕ
expected_number legal = cond legal 1 15
