-- The records of a section, one after the other.
use Rattle.std.proofs.Common.{◌≡◌, ℕ, zero, suc, ◌+◌, ◌-◌, ◌*◌, ◌<◌, List, [], ◌∷◌, length, get_or, Some, None, Ok, Err, Result, refl, ap, zero-add, arith}
use Rattle.files.specs.Bytes.{part}
use Rattle.files.specs.Sections.{and_then, records_from, records_of, fault_in}
use Rattle.files.specs.declared.records.BadRecord.{BadRecord}
use Rattle.files.specs.declared.records.RecordFault.{RecordFault}

fault_behind : {R : Type 0} (k : ℕ) (x : R) (rest : Result (List R) (BadRecord RecordFault)) → fault_in (and_then k (Ok x) rest) ≡ fault_in rest
fault_behind k x (Ok xs) = refl
fault_behind k x (Err b) = refl

-- a record that is not refused
pub fault_next : {R : Type 0} (d : List ℕ → Result R RecordFault) (bs : List ℕ) (m k : ℕ) (x : R) → 0 < m → Ok x ≡ d (part bs (12 * k) 12)
    → fault_in (records_from d bs m k) ≡ fault_in (records_from d bs (m - 1) (k + 1))
unfolding records_from
fault_next d bs zero k x h e = absurd (omega arith)
fault_next d bs (suc m) k x h e =
    let s : suc m - 1 ≡ m = omega arith in
    rw (s, ← e) (fault_behind k x (records_from d bs m (k + 1)))

-- a record that is
pub fault_stop : {R : Type 0} (d : List ℕ → Result R RecordFault) (bs : List ℕ) (m k : ℕ) (f : RecordFault) → 0 < m → Err f ≡ d (part bs (12 * k) 12)
    → fault_in (records_from d bs m k) ≡ Some (record { place = k; fault = f })
unfolding records_from
fault_stop d bs zero k f h e = absurd (omega arith)
fault_stop d bs (suc m) k f h e = rw (← e)

pub fault_end : {R : Type 0} (d : List ℕ → Result R RecordFault) (bs : List ℕ) (m k : ℕ) → m ≡ 0 → fault_in (records_from d bs m k) ≡ None
unfolding records_from
fault_end d bs zero k e = refl
fault_end d bs (suc m) k e = absurd (omega arith)

-- the parts of a list of records
pub parts_of : {R : Type 0} (k : ℕ) (r : Result R RecordFault) (rest : Result (List R) (BadRecord RecordFault)) (x : R) (xs : List R) → and_then k r rest ≡ Ok (x ∷ xs) → (r ≡ Ok x) × (rest ≡ Ok xs)
parts_of k (Ok y) (Ok ys) x xs e = (cc, cc)
parts_of k (Ok y) (Err b) x xs e = cc
parts_of k (Err f) rest x xs e = cc

pub never_none : {R : Type 0} (k : ℕ) (r : Result R RecordFault) (rest : Result (List R) (BadRecord RecordFault)) → and_then k r rest ≡ Ok [] → ⊥
never_none k (Ok y) (Ok ys) e = cc
never_none k (Ok y) (Err b) e = cc
never_none k (Err f) rest e = cc

-- a list of m records has m of them
pub records_length : {R : Type 0} (d : List ℕ → Result R RecordFault) (bs : List ℕ) (m k : ℕ) (xs : List R) → records_from d bs m k ≡ Ok xs → length xs ≡ m
unfolding records_from
records_length d bs zero k [] e = refl
records_length d bs zero k (x ∷ xs) e = cc
records_length d bs (suc m) k [] e = absurd (never_none k (d (part bs (12 * k) 12)) (records_from d bs m (k + 1)) e)
records_length d bs (suc m) k (x ∷ xs) e =
    let p = parts_of k (d (part bs (12 * k) 12)) (records_from d bs m (k + 1)) x xs e in
    ap suc (records_length d bs m (k + 1) xs p.1)

-- and holds what each of them says
read_from : {R : Type 0} (d : List ℕ → Result R RecordFault) (bs : List ℕ) (m k : ℕ) (xs : List R) (j : ℕ) → records_from d bs m k ≡ Ok xs → j < m
    → (x : R) × (d (part bs (12 * (k + j)) 12) ≡ Ok x) × (x ≡ get_or xs j x)
unfolding records_from
read_from d bs zero k xs j e h = absurd (omega arith)
read_from d bs (suc m) k [] j e h = absurd (never_none k (d (part bs (12 * k) 12)) (records_from d bs m (k + 1)) e)
read_from d bs (suc m) k (x ∷ xs) zero e h =
    let p = parts_of k (d (part bs (12 * k) 12)) (records_from d bs m (k + 1)) x xs e in
    let s : k + 0 ≡ k = omega arith in
    (x, rw s p.0, refl)
read_from d bs (suc m) k (x ∷ xs) (suc j) e h =
    let p = parts_of k (d (part bs (12 * k) 12)) (records_from d bs m (k + 1)) x xs e in
    let s : k + suc j ≡ k + 1 + j = omega arith in
    rw s (read_from d bs m (k + 1) xs j p.1 (omega arith))

pub record_read : {R : Type 0} (d : List ℕ → Result R RecordFault) (bs : List ℕ) (m : ℕ) (xs : List R) (j : ℕ) → records_of d bs m ≡ Ok xs → j < m
    → (x : R) × (d (part bs (12 * j) 12) ≡ Ok x) × (x ≡ get_or xs j x)
record_read d bs m xs j e h = rw zero-add at (read_from d bs m 0 xs j e h)

-- where no record is refused there is such a list
pub records_there : {R : Type 0} (r : Result (List R) (BadRecord RecordFault)) → fault_in r ≡ None → (xs : List R) × (r ≡ Ok xs)
records_there (Ok xs) e = (xs, refl)
records_there (Err b) e = cc

-- and where one is, that one is answered
pub record_refused : {R : Type 0} (r : Result (List R) (BadRecord RecordFault)) (b : BadRecord RecordFault) → fault_in r ≡ Some b → r ≡ Err b
record_refused (Ok xs) b e = cc
record_refused (Err x) b e = cc
