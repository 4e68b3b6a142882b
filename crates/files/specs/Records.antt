-- Records of 12 bytes: what each field may hold, and the entry or step that it makes.
use Rattle.std.specs.Prelude.{ℕ, ◌*◌, cond, ◌&&◌, List, length, Ok, Err, Result, ◌==◌, slice_index}
use Rattle.orders.specs.Marks.{mark_named}
use Rattle.orders.specs.declared.entries.Entry.{Entry}
use Rattle.orders.specs.declared.entries.Entry.TheVariants.{Load, Store, Barrier}
use Rattle.orders.specs.declared.entries.Mark.{Mark}
use Rattle.orders.specs.declared.entries.UnknownMark.{UnknownMark}
use Rattle.memory.specs.Bytes.{number_at}
use Rattle.files.specs.Bytes.{part}
use Rattle.files.specs.declared.records.CardEntry.{CardEntry}
use Rattle.files.specs.declared.records.RecordFault.{RecordFault}
use Rattle.files.specs.declared.records.RecordFault.TheVariants.{Field}
use Rattle.files.specs.declared.step.Step.{Step}
use Rattle.files.specs.declared.step.Step.TheVariants.{Perform, PerformRecorded, Cache, WriteBack, Purge}

-- a mark, where its code is one
abbrev pub known_mark : Result Mark UnknownMark → Result Mark RecordFault
known_mark (Ok m) = Ok m
known_mark (Err u) = Err Field

-- the mark of each code
abbrev pub mark_of : ℕ → Result Mark RecordFault
mark_of m = known_mark (mark_named m)

-- a load, where its mark is one
abbrev pub load_of : Result Mark RecordFault → ℕ → Result (Entry ℕ) RecordFault
load_of (Ok m) a = Ok (Load m a)
load_of (Err f) a = Err f

-- a store, where its mark is one
abbrev pub store_of : Result Mark RecordFault → ℕ → ℕ → Result (Entry ℕ) RecordFault
store_of (Ok m) a w = Ok (Store m a w)
store_of (Err f) a w = Err f

-- the entry that the fields make: kind, mark, mask, address, word; an unused field is zero
abbrev pub entry_of : ℕ → ℕ → ℕ → ℕ → ℕ → Result (Entry ℕ) RecordFault
entry_of kind mark mask a w =
    cond (kind == 1 && mask == 0 && w == 0) (load_of (mark_of mark) a)
    (cond (kind == 2 && mask == 0) (store_of (mark_of mark) a w)
    (cond (kind == 3 && mark == 0 && a == 0 && w == 0) (Ok (Barrier mask))
    (Err Field)))

-- an entry with its card
abbrev pub of_card : ℕ → Result (Entry ℕ) RecordFault → Result CardEntry RecordFault
of_card c (Ok e) = Ok (record { card = c; entry = e })
of_card c (Err f) = Err f

-- an entry record: card, kind, mark, mask, address, word
abbrev pub decode_entry : List ℕ → Result CardEntry RecordFault
decode_entry bs =
    cond (length bs == 12)
    (of_card (slice_index bs 0) (entry_of (slice_index bs 1) (slice_index bs 2) (slice_index bs 3) (number_at bs 4) (number_at bs 8)))
    (Err Field)

-- the step that the fields make: kind, card, position or address, word; an unused word is zero
abbrev pub step_of : ℕ → ℕ → ℕ → ℕ → Result Step RecordFault
step_of kind c p w =
    cond (kind == 1 && w == 0) (Ok (Perform c p))
    (cond (kind == 2) (Ok (PerformRecorded c p w))
    (cond (kind == 3 && w == 0) (Ok (Cache c p))
    (cond (kind == 4 && w == 0) (Ok (WriteBack c p))
    (cond (kind == 5 && w == 0) (Ok (Purge c p))
    (Err Field)))))

-- a step record: kind, card, two zero bytes, position or address, word
abbrev pub decode_step : List ℕ → Result Step RecordFault
decode_step bs =
    cond (length bs == 12 && slice_index bs 2 == 0 && slice_index bs 3 == 0)
    (step_of (slice_index bs 0) (slice_index bs 1) (number_at bs 4) (number_at bs 8))
    (Err Field)

-- entry n of a section; past the section's end the part is short, and refused
abbrev pub entry_at : List ℕ → ℕ → Result CardEntry RecordFault
entry_at section n = decode_entry (part section (12 * n) 12)

-- step n of a section, likewise
abbrev pub step_at : List ℕ → ℕ → Result Step RecordFault
step_at section n = decode_step (part section (12 * n) 12)
