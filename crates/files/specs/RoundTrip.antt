-- Reading a run file undoes writing it, and writing it undoes reading it.
use Rattle.std.specs.Prelude.{◌≡◌, ℕ, ◌≤◌, true, List, length, take, Ok, Option}
use Rattle.std.specs.List.{AllByRecursion}
use Rattle.orders.specs.declared.chosen.AnyOrder.{AnyOrder}
use Rattle.files.specs.Encoding.{Byte, Number, CardEntryTyped, StepTyped}
use Rattle.files.specs.Reading.{Reading, reading}
use Rattle.files.specs.Writing.{fields_for, writable, file_bytes, writing, bytes_after}
use Rattle.files.specs.declared.records.CardEntry.{CardEntry}
use Rattle.files.specs.declared.step.Step.{Step}

-- what is handed to a writing call, as a reading call tells it
abbrev pub handed : Option AnyOrder → ℕ → List ℕ → List CardEntry → List Step → Reading
handed order cards words entries steps = record {
  header = record { cards = cards; size = length words; order = order; entries = length entries; steps = length steps };
  words = words;
  entries = entries;
  steps = steps;
}

-- what a reading call told has these bytes
abbrev pub told_bytes : Reading → List ℕ
told_bytes x = file_bytes x.header.order x.header.cards x.words x.entries x.steps

-- what makes a legal header, with the values that the code's types allow, is read from its file as it was handed, into tables of enough rows
abbrev pub RunReadsBack : Type 0
RunReadsBack =
    (order : Option AnyOrder) (cards : ℕ) (words : List ℕ) (entries : List CardEntry) (steps : List Step)
    (word_rows : List ℕ) (entry_rows : List CardEntry) (step_rows : List Step)
    → writable (fields_for order cards (length words) (length entries) (length steps)) ≡ true
    → AllByRecursion Number words → AllByRecursion CardEntryTyped entries → AllByRecursion StepTyped steps
    → length words ≤ length word_rows → length entries ≤ length entry_rows → length steps ≤ length step_rows
    → reading (file_bytes order cards words entries steps) word_rows entry_rows step_rows ≡ Ok (handed order cards words entries steps)

-- so is what an accepted writing call left in the first bytes of its table
abbrev pub WrittenReadsBack : Type 0
WrittenReadsBack =
    (order : Option AnyOrder) (cards : ℕ) (words : List ℕ) (entries : List CardEntry) (steps : List Step) (out : List ℕ) (n : ℕ)
    (word_rows : List ℕ) (entry_rows : List CardEntry) (step_rows : List Step)
    → writing order cards words entries steps out ≡ Ok n
    → AllByRecursion Number words → AllByRecursion CardEntryTyped entries → AllByRecursion StepTyped steps
    → length words ≤ length word_rows → length entries ≤ length entry_rows → length steps ≤ length step_rows
    → reading (take n (bytes_after (writing order cards words entries steps out) (file_bytes order cards words entries steps) out)) word_rows entry_rows step_rows
    ≡ Ok (handed order cards words entries steps)

-- what was read from bytes is written again, where there is room, and as the same bytes
abbrev pub RunWritesBack : Type 0
RunWritesBack =
    (bs : List ℕ) (word_rows : List ℕ) (entry_rows : List CardEntry) (step_rows : List Step) (x : Reading) (out : List ℕ)
    → AllByRecursion Byte bs → reading bs word_rows entry_rows step_rows ≡ Ok x → length bs ≤ length out
    → (writing x.header.order x.header.cards x.words x.entries x.steps out ≡ Ok (length bs)) × (told_bytes x ≡ bs)
