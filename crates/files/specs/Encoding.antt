-- The bytes of numbers, entries and steps, and that reading undoes writing and writing reading.
use Rattle.std.specs.Prelude.{◌≡◌, ℕ, ◌/◌, ◌%◌, ◌<◌, List, [], ◌∷◌, ◌++◌, Ok, Result}
use Rattle.std.specs.List.{AllByRecursion}
use Rattle.orders.specs.Marks.{mark_code}
use Rattle.orders.specs.declared.entries.Entry.{Entry}
use Rattle.orders.specs.declared.entries.Entry.TheVariants.{Load, Store, Barrier}
use Rattle.files.specs.declared.records.CardEntry.{CardEntry}
use Rattle.files.specs.declared.records.RecordFault.{RecordFault}
use Rattle.files.specs.declared.step.Step.{Step}
use Rattle.files.specs.declared.step.Step.TheVariants.{Perform, PerformRecorded, Cache, WriteBack, Purge}

-- the four bytes of a number, the lowest first
unfoldable pub number_bytes : ℕ → List ℕ
number_bytes n = (n % 256) ∷ (n / 256 % 256) ∷ (n / 65536 % 256) ∷ (n / 16777216 % 256) ∷ []

-- a record: four bytes and two numbers
abbrev pub record_bytes : ℕ → ℕ → ℕ → ℕ → ℕ → ℕ → List ℕ
record_bytes a b c d place word = a ∷ b ∷ c ∷ d ∷ (number_bytes place ++ number_bytes word)

-- the record of an entry: card, kind, mark, mask, address, word; an unused field is zero
abbrev pub entry_bytes : ℕ → Entry ℕ → List ℕ
entry_bytes c (Load m a) = record_bytes c 1 (mark_code m) 0 a 0
entry_bytes c (Store m a w) = record_bytes c 2 (mark_code m) 0 a w
entry_bytes c (Barrier mask) = record_bytes c 3 0 mask 0 0

-- the same, of an entry with its card
abbrev pub encode_entry : CardEntry → List ℕ
encode_entry e = entry_bytes e.card e.entry

-- the record of a step: kind, card, two zero bytes, position or address, word; an unused word is zero
abbrev pub encode_step : Step → List ℕ
encode_step (Perform c p) = record_bytes 1 c 0 0 p 0
encode_step (PerformRecorded c p w) = record_bytes 2 c 0 0 p w
encode_step (Cache c a) = record_bytes 3 c 0 0 a 0
encode_step (WriteBack c a) = record_bytes 4 c 0 0 a 0
encode_step (Purge c a) = record_bytes 5 c 0 0 a 0

-- what the code's types say of a byte
abbrev pub Byte : ℕ → Type 0
Byte n = n < 256

-- what they say of a number
abbrev pub Number : ℕ → Type 0
Number n = n < 4294967296

-- what they say of an entry
abbrev pub EntryTyped : Entry ℕ → Type 0
EntryTyped (Load m a) = Number a
EntryTyped (Store m a w) = Number a × Number w
EntryTyped (Barrier mask) = Byte mask

-- the same, of an entry with its card
abbrev pub CardEntryTyped : CardEntry → Type 0
CardEntryTyped e = Byte e.card × EntryTyped e.entry

-- what they say of a step
abbrev pub StepTyped : Step → Type 0
StepTyped (Perform c p) = Byte c × Number p
StepTyped (PerformRecorded c p w) = Byte c × Number p × Number w
StepTyped (Cache c a) = Byte c × Number a
StepTyped (WriteBack c a) = Byte c × Number a
StepTyped (Purge c a) = Byte c × Number a

-- what is written is read back, so that no value of the types is against the layout
abbrev pub ReadsBack : {R : Type 0} → (R → Type 0) → (R → List ℕ) → (List ℕ → Result R RecordFault) → Type 0
ReadsBack {R} Typed encode decode = (x : R) → Typed x → decode (encode x) ≡ Ok x

-- what is read is written again as the bytes that it was read from
abbrev pub WritesBack : {R : Type 0} → (R → List ℕ) → (List ℕ → Result R RecordFault) → Type 0
WritesBack {R} encode decode = (bs : List ℕ) (x : R) → AllByRecursion Byte bs → decode bs ≡ Ok x → encode x ≡ bs
