-- What writing a day file answers, what it leaves in the table of bytes, and that reading undoes it.
use Rattle.std.specs.Prelude.{◌≡◌, ℕ, zero, suc, ◌+◌, ◌*◌, ◌<◌, Bool, true, ◌&&◌, List, [], ◌∷◌, ◌++◌, length, Some, Result, nat_le, slice_index_or}
use Rattle.std.specs.List.{flat_map, AllByRecursion}
use Rattle.files.specs.Day.{run_count, sound_day, run_part, run_part_of}
use Rattle.files.specs.Encoding.{number_bytes, Byte}
use Rattle.files.specs.Writing.{written_if}
use Rattle.files.specs.declared.write_fault.WriteFault.{WriteFault}

-- the bytes of the runs, one behind the other
abbrev pub run_bytes : List (List ℕ) → List ℕ
run_bytes runs = flat_map (λ r. r) runs

-- where the runs start: behind the count and two numbers for each run
abbrev pub header_end : List (List ℕ) → ℕ
header_end runs = 4 + 8 * length runs

-- how many bytes the file has
abbrev pub day_length : List (List ℕ) → ℕ
day_length runs = header_end runs + length (run_bytes runs)

-- the offset and the length of each run, where the first starts at byte `at`
unfoldable pub run_places : ℕ → List (List ℕ) → List ℕ
run_places at [] = []
run_places at (r ∷ rs) = at ∷ length r ∷ run_places (at + length r) rs

-- the bytes of a day file
abbrev pub day_bytes : List (List ℕ) → List ℕ
day_bytes runs = flat_map number_bytes (length runs ∷ []) ++ (flat_map number_bytes (run_places (header_end runs) runs) ++ run_bytes runs)

-- at most 32 runs, and at most 65,536 bytes
abbrev pub day_writable : List (List ℕ) → Bool
day_writable runs = nat_le (length runs) 32 && nat_le (day_length runs) 65536

-- what writing a day file into a table of `len` bytes answers
abbrev pub writing_day : List (List ℕ) → ℕ → Result ℕ WriteFault
writing_day runs len = written_if (day_writable runs) (day_length runs) len

-- the k runs of a day file from run n on
unfoldable pub runs_from : List ℕ → ℕ → ℕ → List (List ℕ)
runs_from bs zero n = []
runs_from bs (suc k) n = run_part bs n ∷ runs_from bs k (n + 1)

-- the runs that a day file shows
abbrev pub runs_of : List ℕ → List (List ℕ)
runs_of bs = runs_from bs (run_count bs) 0

-- a day that was written is read part for part
pub record DayRead (runs : List (List ℕ)) : Type 0 where
  pub sound : sound_day (day_bytes runs) ≡ true
  pub count : run_count (day_bytes runs) ≡ length runs
  pub parts : (n : ℕ) → n < length runs → run_part_of (day_bytes runs) n ≡ Some (slice_index_or runs n [])

-- the same, of each day that can be written
abbrev pub DayReadsBack : Type 0
DayReadsBack = (runs : List (List ℕ)) → day_writable runs ≡ true → DayRead runs

-- the runs of a sound day file can be written, and make the same bytes
abbrev pub DayWritesBack : Type 0
DayWritesBack = (bs : List ℕ) → AllByRecursion Byte bs → sound_day bs ≡ true → (day_writable (runs_of bs) ≡ true) × (day_bytes (runs_of bs) ≡ bs)
