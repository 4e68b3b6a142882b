-- The records of a section, in turn.
use Rattle.std.specs.Prelude.{ℕ, zero, suc, ◌+◌, ◌*◌, List, [], ◌∷◌, Some, None, Ok, Err, Option, Result}
use Rattle.files.specs.Bytes.{part}
use Rattle.files.specs.declared.records.BadRecord.{BadRecord}
use Rattle.files.specs.declared.records.RecordFault.{RecordFault}

-- record k, then the rest: a refused record keeps its place
abbrev pub and_then : {R : Type 0} → ℕ → Result R RecordFault → Result (List R) (BadRecord RecordFault) → Result (List R) (BadRecord RecordFault)
and_then k (Ok x) (Ok xs) = Ok (x ∷ xs)
and_then k (Ok x) (Err b) = Err b
and_then k (Err f) rest = Err (record { place = k; fault = f })

-- m records from record k on, as `decode` reads them: all of them, or the first that is refused
unfoldable pub records_from : {R : Type 0} → (List ℕ → Result R RecordFault) → List ℕ → ℕ → ℕ → Result (List R) (BadRecord RecordFault)
records_from decode section zero k = Ok []
records_from decode section (suc m) k = and_then k (decode (part section (12 * k) 12)) (records_from decode section m (k + 1))

-- the first `count` records of a section
abbrev pub records_of : {R : Type 0} → (List ℕ → Result R RecordFault) → List ℕ → ℕ → Result (List R) (BadRecord RecordFault)
records_of decode section count = records_from decode section count 0

-- the record that is refused, if any
abbrev pub fault_in : {R : Type 0} → Result (List R) (BadRecord RecordFault) → Option (BadRecord RecordFault)
fault_in (Ok xs) = None
fault_in (Err b) = Some b
