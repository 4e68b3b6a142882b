-- Reading a record undoes writing it, and writing it undoes reading it.
use Rattle.std.proofs.Common.{◌≡◌, ℕ, ◌+◌, ◌*◌, ◌/◌, ◌%◌, ◌≤◌, Bool, true, false, cond, ◌&&◌, eqb, ◌⊎◌, List, [], ◌∷◌, ◌++◌, length, get_or, take, drop, Ok, Err, Result, sym, refl, ap, ◌∙◌, inl, inr, ⊎_elim, add-zero, add_assoc, arith, length-drop, take-append-drop, rules}
use Rattle.std.proofs.ByRecursion.{All-drop, All-get_or}
use Rattle.std.proofs.lemmas.List.{take_all, get_or-drop}
use Rattle.std.proofs.lemmas.Bool.{and_parts, eqb-true}
use Rattle.std.specs.List.{AllByRecursion}
use Rattle.memory.specs.Bytes.{four_bytes}
use Rattle.memory.proofs.Bytes.{four_bytes_of}
use Rattle.orders.specs.Marks.{mark_code}
use Rattle.orders.specs.declared.entries.Entry.{Entry}
use Rattle.orders.specs.declared.entries.Entry.TheVariants.{Load, Store, Barrier}
use Rattle.orders.specs.declared.entries.Mark.{Mark}
use Rattle.orders.specs.declared.entries.Mark.TheVariants.{Plain, Acquire, Release}
use Rattle.memory.specs.Bytes.{number_at}
use Rattle.files.specs.Bytes.{part}
use Rattle.files.specs.Encoding.{number_bytes, record_bytes, entry_bytes, encode_entry, encode_step, Byte, Number, EntryTyped, CardEntryTyped, StepTyped, ReadsBack, WritesBack}
use Rattle.files.specs.Records.{mark_of, load_of, store_of, entry_of, of_card, step_of, decode_entry, decode_step}
use Rattle.files.specs.declared.records.CardEntry.{CardEntry}
use Rattle.files.specs.declared.records.RecordFault.{RecordFault}
use Rattle.files.specs.declared.records.RecordFault.TheVariants.{Field}
use Rattle.files.specs.declared.step.Step.{Step}
use Rattle.files.specs.declared.step.Step.TheVariants.{Perform, PerformRecorded, Cache, WriteBack, Purge}

-- a number behind the first k bytes
pub number_after : (bs : List ℕ) (k i : ℕ) → number_at (drop k bs) i ≡ number_at bs (k + i)
unfolding number_at
number_after bs k i = simp (get_or-drop, add_assoc)

-- a number that was written is read back, whatever stands behind it
pub number_read : (n : ℕ) (rest : List ℕ) → Number n → number_at (number_bytes n ++ rest) 0 ≡ n
unfolding number_at number_bytes
number_read n rest h = four_bytes_of n h

-- and so is what stands behind it
pub number_next : (n : ℕ) (rest : List ℕ) (i : ℕ) → number_at (number_bytes n ++ rest) (4 + i) ≡ number_at rest i
unfolding number_bytes
number_next n rest i = sym (number_after (number_bytes n ++ rest) 4 i)

pub number_length : (n : ℕ) → length (number_bytes n) ≡ 4
unfolding number_bytes
number_length n = refl

-- the bytes of the number that four bytes make
pub bytes_back : (a b c d : ℕ) → Byte a → Byte b → Byte c → Byte d → number_bytes (four_bytes a b c d) ≡ a ∷ b ∷ c ∷ d ∷ []
unfolding number_bytes
bytes_back a b c d h i j k =
    let p : four_bytes a b c d % 256 ≡ a = omega arith in
    let e : four_bytes a b c d / 256 ≡ b + c * 256 + d * 65536 = omega arith in
    let f : four_bytes a b c d / 65536 ≡ c + d * 256 = omega arith in
    let g : four_bytes a b c d / 16777216 ≡ d = omega arith in
    let q : (b + c * 256 + d * 65536) % 256 ≡ b = omega arith in
    let r : (c + d * 256) % 256 ≡ c = omega arith in
    let s : d % 256 ≡ d = omega arith in
    rw (p, e, f, g, q, r, s)

-- the bytes of the first number
first_back : (bs : List ℕ) → AllByRecursion Byte bs → 4 ≤ length bs → number_bytes (number_at bs 0) ≡ take 4 bs
unfolding number_at
first_back [] h l = absurd (omega arith)
first_back (a ∷ []) h l = absurd (omega arith)
first_back (a ∷ b ∷ []) h l = absurd (omega arith)
first_back (a ∷ b ∷ c ∷ []) h l = absurd (omega arith)
first_back (a ∷ b ∷ c ∷ d ∷ rest) h l = bytes_back a b c d h.0 h.1.0 h.1.1.0 h.1.1.1.0

-- the bytes of the number that starts at byte i
pub number_back : (bs : List ℕ) (i : ℕ) → AllByRecursion Byte bs → i + 4 ≤ length bs → number_bytes (number_at bs i) ≡ part bs i 4
number_back bs i h l =
    let k : 4 ≤ length (drop i bs) = simp length-drop (omega arith) in
    ap number_bytes (ap (λ j. number_at bs j) (sym (add-zero i)) ∙ sym (number_after bs i 0)) ∙ first_back (drop i bs) (All-drop Byte i bs h) k

-- a number that stands in bytes fits its field
pub number_fits : (bs : List ℕ) (i : ℕ) → AllByRecursion Byte bs → i + 4 ≤ length bs → Number (number_at bs i)
unfolding number_at
number_fits bs i h l =
    let a = All-get_or Byte bs i 0 (omega arith) h in
    let b = All-get_or Byte bs (i + 1) 0 (omega arith) h in
    let c = All-get_or Byte bs (i + 2) 0 (omega arith) h in
    let d = All-get_or Byte bs (i + 3) 0 (omega arith) h in
    omega arith

-- the record of the fields that stand in a row
row_back : (bs : List ℕ) → length bs ≡ 12 → AllByRecursion Byte bs → record_bytes (get_or bs 0 0) (get_or bs 1 0) (get_or bs 2 0) (get_or bs 3 0) (number_at bs 4) (number_at bs 8) ≡ bs
row_back [] l h = absurd (omega arith)
row_back (a ∷ []) l h = absurd (omega arith)
row_back (a ∷ b ∷ []) l h = absurd (omega arith)
row_back (a ∷ b ∷ c ∷ []) l h = absurd (omega arith)
row_back (a ∷ b ∷ c ∷ d ∷ rest) l h =
    let p = number_back (a ∷ b ∷ c ∷ d ∷ rest) 4 h (omega arith) in
    let w = number_back (a ∷ b ∷ c ∷ d ∷ rest) 8 h (omega arith) in
    let t : take 4 (drop 4 rest) ≡ drop 4 rest = take_all 4 (drop 4 rest) (simp length-drop (omega arith)) in
    rw (p, w, t) (ap (λ xs. a ∷ b ∷ c ∷ d ∷ xs) (take-append-drop 4 rest))

entry_bytes_width : (c : ℕ) (e : Entry ℕ) → length (entry_bytes c e) ≡ 12
unfolding number_bytes
entry_bytes_width c (Load m a) = refl
entry_bytes_width c (Store m a w) = refl
entry_bytes_width c (Barrier mask) = refl

pub entry_width : (e : CardEntry) → length (encode_entry e) ≡ 12
entry_width e = entry_bytes_width e.card e.entry

pub step_width : (s : Step) → length (encode_step s) ≡ 12
unfolding number_bytes
step_width (Perform c p) = refl
step_width (PerformRecorded c p w) = refl
step_width (Cache c a) = refl
step_width (WriteBack c a) = refl
step_width (Purge c a) = refl

pub step_reads_back : ReadsBack StepTyped encode_step decode_step
unfolding number_at number_bytes
step_reads_back (Perform c p) h = rw (four_bytes_of p h.1)
step_reads_back (PerformRecorded c p w) h = rw (four_bytes_of p h.1, four_bytes_of w h.2)
step_reads_back (Cache c p) h = rw (four_bytes_of p h.1)
step_reads_back (WriteBack c p) h = rw (four_bytes_of p h.1)
step_reads_back (Purge c p) h = rw (four_bytes_of p h.1)

mark_back : (m : Mark) → mark_of (mark_code m) ≡ Ok m
mark_back Plain = refl
mark_back Acquire = refl
mark_back Release = refl

entry_back : (c : ℕ) (e : Entry ℕ) → EntryTyped e → decode_entry (entry_bytes c e) ≡ Ok (record { card = c; entry = e })
unfolding number_at number_bytes
entry_back c (Load m a) h = rw (four_bytes_of a h, mark_back m)
entry_back c (Store m a w) h = rw (four_bytes_of a h.0, four_bytes_of w h.1, mark_back m)
entry_back c (Barrier mask) h = refl

pub entry_reads_back : ReadsBack CardEntryTyped encode_entry decode_entry
entry_reads_back e h = entry_back e.card e.entry h.1

-- where a test guards what is answered
pub ok_parts : {R E : Type 0} (b : Bool) (x : Result R E) (f : E) (r : R) → cond b x (Err f) ≡ Ok r → (b ≡ true) × (x ≡ Ok r)
ok_parts true x f r e = (refl, e)
ok_parts false x f r e = cc

-- the step that fields make is written as those fields
step_made : (k c p w : ℕ) (s : Step) → step_of k c p w ≡ Ok s → encode_step s ≡ record_bytes k c 0 0 p w
step_made k c p w s e = search rules

pub step_writes_back : WritesBack encode_step decode_step
step_writes_back bs s h e =
    let p = ok_parts (eqb (length bs) 12 && eqb (get_or bs 2 0) 0 && eqb (get_or bs 3 0) 0) (step_of (get_or bs 0 0) (get_or bs 1 0) (number_at bs 4) (number_at bs 8)) Field s e in
    let q = and_parts (eqb (length bs) 12 && eqb (get_or bs 2 0) 0) (eqb (get_or bs 3 0) 0) p.0 in
    let r = and_parts (eqb (length bs) 12) (eqb (get_or bs 2 0) 0) q.0 in
    let y = eqb-true (get_or bs 2 0) 0 r.1 in
    let z = eqb-true (get_or bs 3 0) 0 q.1 in
    let m = step_made (get_or bs 0 0) (get_or bs 1 0) (number_at bs 4) (number_at bs 8) s p.1 in
    let b = row_back bs (eqb-true (length bs) 12 r.0) h in
    cc

mark_made : (code : ℕ) (m : Mark) → mark_of code ≡ Ok m → mark_code m ≡ code
mark_made code m e = search rules

-- the parts of an entry with its card
card_parts : (c : ℕ) (r : Result (Entry ℕ) RecordFault) (x : CardEntry) → of_card c r ≡ Ok x → (x.card ≡ c) × (r ≡ Ok x.entry)
card_parts c (Ok e) x h = (cc, cc)
card_parts c (Err f) x h = cc

load_made : (c : ℕ) (r : Result Mark RecordFault) (code a : ℕ) (e : Entry ℕ) → mark_of code ≡ r → load_of r a ≡ Ok e → entry_bytes c e ≡ record_bytes c 1 code 0 a 0
load_made c (Ok m) code a e q h =
    let k = mark_made code m q in
    let i : e ≡ Load m a = cc in rw (i, k)
load_made c (Err f) code a e q h = cc

store_made : (c : ℕ) (r : Result Mark RecordFault) (code a w : ℕ) (e : Entry ℕ) → mark_of code ≡ r → store_of r a w ≡ Ok e → entry_bytes c e ≡ record_bytes c 2 code 0 a w
store_made c (Ok m) code a w e q h =
    let k = mark_made code m q in
    let i : e ≡ Store m a w = cc in rw (i, k)
store_made c (Err f) code a w e q h = cc

-- which of two answers it is
either_way : {R : Type 0} (b : Bool) (x y : Result R RecordFault) (r : R) → cond b x y ≡ Ok r → ((b ≡ true) × (x ≡ Ok r)) ⊎ (y ≡ Ok r)
either_way true x y r e = inl (refl, e)
either_way false x y r e = inr e

-- the entry that fields make is written as those fields
entry_made : (c k m mask a w : ℕ) (e : Entry ℕ) → entry_of k m mask a w ≡ Ok e → entry_bytes c e ≡ record_bytes c k m mask a w
entry_made c k m mask a w e h =
    let load = eqb k 1 && eqb mask 0 && eqb w 0 in
    let store = eqb k 2 && eqb mask 0 in
    let barrier = eqb k 3 && eqb m 0 && eqb a 0 && eqb w 0 in
    ⊎_elim
    (λ (t : (load ≡ true) × (load_of (mark_of m) a ≡ Ok e)).
    let p = and_parts (eqb k 1 && eqb mask 0) (eqb w 0) t.0 in
    let q = and_parts (eqb k 1) (eqb mask 0) p.0 in
    let x = eqb-true k 1 q.0 in
    let y = eqb-true mask 0 q.1 in
    let z = eqb-true w 0 p.1 in
    let made = load_made c (mark_of m) m a e refl t.1 in cc)
    (λ (f : cond store (store_of (mark_of m) a w) (cond barrier (Ok (Barrier mask)) (Err Field)) ≡ Ok e).
    ⊎_elim
    (λ (t : (store ≡ true) × (store_of (mark_of m) a w ≡ Ok e)).
    let p = and_parts (eqb k 2) (eqb mask 0) t.0 in
    let x = eqb-true k 2 p.0 in
    let y = eqb-true mask 0 p.1 in
    let made = store_made c (mark_of m) m a w e refl t.1 in cc)
    (λ (g : cond barrier (Ok (Barrier mask)) (Err Field) ≡ Ok e).
    let t = ok_parts barrier (Ok (Barrier mask)) Field e g in
    let p = and_parts (eqb k 3 && eqb m 0 && eqb a 0) (eqb w 0) t.0 in
    let q = and_parts (eqb k 3 && eqb m 0) (eqb a 0) p.0 in
    let r = and_parts (eqb k 3) (eqb m 0) q.0 in
    let u = eqb-true k 3 r.0 in
    let v = eqb-true m 0 r.1 in
    let y = eqb-true a 0 q.1 in
    let z = eqb-true w 0 p.1 in
    let is : e ≡ Barrier mask = cc in
    rw (is, u, v, y, z))
    (either_way store (store_of (mark_of m) a w) (cond barrier (Ok (Barrier mask)) (Err Field)) e f))
    (either_way load (load_of (mark_of m) a) (cond store (store_of (mark_of m) a w) (cond barrier (Ok (Barrier mask)) (Err Field))) e h)

pub entry_writes_back : WritesBack encode_entry decode_entry
entry_writes_back bs x h e =
    let p = ok_parts (eqb (length bs) 12) (of_card (get_or bs 0 0) (entry_of (get_or bs 1 0) (get_or bs 2 0) (get_or bs 3 0) (number_at bs 4) (number_at bs 8))) Field x e in
    let q = card_parts (get_or bs 0 0) (entry_of (get_or bs 1 0) (get_or bs 2 0) (get_or bs 3 0) (number_at bs 4) (number_at bs 8)) x p.1 in
    let m = entry_made x.card (get_or bs 1 0) (get_or bs 2 0) (get_or bs 3 0) (number_at bs 4) (number_at bs 8) x.entry q.1 in
    let b = row_back bs (eqb-true (length bs) 12 p.0) h in
    let c = q.0 in
    cc
