-- What was read from a run file is written as the same bytes.
use Rattle.std.proofs.Common.{◌≡◌, ℕ, zero, suc, ◌+◌, ◌*◌, ◌%◌, ◌≤◌, true, cond, ◌&&◌, leb, List, [], ◌∷◌, ◌++◌, length, take, drop, Ok, Err, Result, sym, refl, ap, ◌∙◌, arith, take-add, rules}
use Rattle.std.proofs.ByRecursion.{All-take, All-drop}
use Rattle.std.proofs.lemmas.List.{take_all, drop-drop}
use Rattle.std.proofs.lemmas.Bool.{and_parts, and_from, le-leb}
use Rattle.std.specs.List.{flat_map, AllByRecursion}
use Rattle.memory.specs.Bytes.{words_of}
use Rattle.memory.proofs.Bytes.{length-words_of}
use Rattle.orders.specs.Chosen.{order_by_code}
use Rattle.memory.specs.Bytes.{number_at}
use Rattle.files.specs.Bytes.{part}
use Rattle.files.specs.Encoding.{number_bytes, encode_entry, encode_step, Byte, WritesBack}
use Rattle.files.specs.Header.{fields_of, header_of, entries_start, steps_start, file_end, in_bounds, laid_out}
use Rattle.files.specs.Reading.{Reading, has_room, both_read, file_read, reading}
use Rattle.files.specs.Records.{decode_entry, decode_step}
use Rattle.files.specs.RoundTrip.{told_bytes, RunWritesBack}
use Rattle.files.specs.Run.{has_header, sound_run, words_section, entries_section, steps_section}
use Rattle.files.specs.Sections.{records_from, records_of}
use Rattle.files.specs.Writing.{handed_code, fields_for, field_numbers, writable, writing}
use Rattle.files.specs.declared.header.Fields.{Fields}
use Rattle.files.specs.declared.header.Header.{Header}
use Rattle.files.specs.declared.header.HeaderFault.TheVariants as of_header
use Rattle.files.specs.declared.read.ReadFault.TheVariants as of_read
use Rattle.files.specs.declared.records.CardEntry.{CardEntry}
use Rattle.files.specs.declared.records.RecordFault.{RecordFault}
use Rattle.files.specs.declared.records.BadRecord.{BadRecord}
use Rattle.files.specs.declared.step.Step.{Step}
use Rattle.files.proofs.Laying.{bounded, placed, sized}
use Rattle.files.proofs.Putting.{writing_ok}
use Rattle.files.specs.Recording.{ok_parts, bytes_back, number_back, number_fits, entry_writes_back, step_writes_back}
use Rattle.files.proofs.Turns.{parts_of, never_none, records_length}

-- two parts that touch
pub parts_join : (bs : List ℕ) (i m n j : ℕ) → i + m ≡ j → part bs i m ++ part bs j n ≡ part bs i (m + n)
parts_join bs i m n j e =
    sym (take-add m n (drop i bs) ∙ ap (λ t. take m (drop i bs) ++ take n t) (drop-drop m i bs ∙ ap (λ k. drop k bs) e))

-- k numbers from byte i on
abbrev numbers_from : List ℕ → ℕ → ℕ → List ℕ
numbers_from bs zero i = []
numbers_from bs (suc k) i = number_at bs i ∷ numbers_from bs k (i + 4)

numbers_back : (bs : List ℕ) (k i : ℕ) → AllByRecursion Byte bs → i + 4 * k ≤ length bs → flat_map number_bytes (numbers_from bs k i) ≡ part bs i (4 * k)
numbers_back bs zero i h l = refl
numbers_back bs (suc k) i h l =
    let s : 4 * suc k ≡ 4 + 4 * k = omega arith in
    ap (λ t. t ++ flat_map number_bytes (numbers_from bs k (i + 4))) (number_back bs i h (omega arith))
    ∙ ap (λ t. part bs i 4 ++ t) (numbers_back bs k (i + 4) h (omega arith))
    ∙ parts_join bs i 4 (4 * k) (i + 4) refl ∙ ap (part bs i) (sym s)

words_back : (bs : List ℕ) → AllByRecursion Byte bs → length bs % 4 ≡ 0 → flat_map number_bytes (words_of bs) ≡ bs
unfolding words_of
words_back [] h l = refl
words_back (a ∷ []) h l = absurd (omega arith)
words_back (a ∷ b ∷ []) h l = absurd (omega arith)
words_back (a ∷ b ∷ c ∷ []) h l = absurd (omega arith)
words_back (a ∷ b ∷ c ∷ d ∷ rest) h l =
    ap (λ t. t ++ flat_map number_bytes (words_of rest)) (bytes_back a b c d h.0 h.1.0 h.1.1.0 h.1.1.1.0)
    ∙ ap (λ t. a ∷ b ∷ c ∷ d ∷ t) (words_back rest h.1.1.1.1 (omega arith))

-- m records from record k on
back_from : {R : Type 0} (enc : R → List ℕ) (d : List ℕ → Result R RecordFault) → WritesBack enc d → (bs : List ℕ) (m k : ℕ) (xs : List R) → AllByRecursion Byte bs
    → records_from d bs m k ≡ Ok xs → flat_map enc xs ≡ part bs (12 * k) (12 * m)
unfolding records_from
back_from enc d back bs zero k [] h e = refl
back_from enc d back bs zero k (x ∷ xs) h e = cc
back_from enc d back bs (suc m) k [] h e = absurd (never_none k (d (part bs (12 * k) 12)) (records_from d bs m (k + 1)) e)
back_from enc d back bs (suc m) k (x ∷ xs) h e =
    let p = parts_of k (d (part bs (12 * k) 12)) (records_from d bs m (k + 1)) x xs e in
    let here = back (part bs (12 * k) 12) x (All-take Byte 12 (drop (12 * k) bs) (All-drop Byte (12 * k) bs h)) p.0 in
    let s : 12 * suc m ≡ 12 + 12 * m = omega arith in
    ap (λ t. t ++ flat_map enc xs) here ∙ ap (λ t. part bs (12 * k) 12 ++ t) (back_from enc d back bs m (k + 1) xs h p.1)
    ∙ parts_join bs (12 * k) 12 (12 * m) (12 * (k + 1)) (omega arith) ∙ ap (part bs (12 * k)) (sym s)

-- a section that has just its records
records_back : {R : Type 0} (enc : R → List ℕ) (d : List ℕ → Result R RecordFault) → WritesBack enc d → (bs : List ℕ) (m : ℕ) (xs : List R) → AllByRecursion Byte bs → length bs ≡ 12 * m
    → records_of d bs m ≡ Ok xs → flat_map enc xs ≡ bs
records_back enc d back bs m xs h l e = back_from enc d back bs m 0 xs h e ∙ take_all (12 * m) bs (omega arith)

code_back : (c : ℕ) → c ≤ 6 → handed_code (order_by_code c) ≡ c
code_back c h = search rules

-- what a reading that is accepted was made of
both_parts : (h : Header) (ws : List ℕ) (es : Result (List CardEntry) (BadRecord RecordFault)) (ss : Result (List Step) (BadRecord RecordFault)) (x : Reading) → both_read h ws es ss ≡ Ok x
    → (x.header ≡ h) × (x.words ≡ ws) × (es ≡ Ok x.entries) × (ss ≡ Ok x.steps)
both_parts h ws (Ok es) (Ok ss) x e = (cc, cc, cc, cc)
both_parts h ws (Ok es) (Err b) x e = cc
both_parts h ws (Err b) ss x e = cc

-- a file is its four parts
whole_parts : (bs : List ℕ) (m n k : ℕ) → 32 + m + n + k ≡ length bs → part bs 0 32 ++ (part bs 32 m ++ (part bs (32 + m) n ++ part bs (32 + m + n) k)) ≡ bs
whole_parts bs m n k l =
    ap (λ t. part bs 0 32 ++ (part bs 32 m ++ t)) (parts_join bs (32 + m) n k (32 + m + n) refl)
    ∙ ap (λ t. part bs 0 32 ++ t) (parts_join bs 32 m (n + k) (32 + m) refl)
    ∙ parts_join bs 0 32 (m + (n + k)) 32 refl ∙ take_all (32 + (m + (n + k))) bs (omega arith)

four_same : (a b c d p q r s : List ℕ) → a ≡ p → b ≡ q → c ≡ r → d ≡ s → a ++ (b ++ (c ++ d)) ≡ p ++ (q ++ (r ++ s))
four_same a b c d p q r s e f g h = cc

-- the bounds look at four numbers only
bounds_same : (f h : Fields) → f.cards ≡ h.cards → f.size ≡ h.size → f.code ≡ h.code → f.entries ≡ h.entries → in_bounds f ≡ in_bounds h
bounds_same f h a b c d = cc

-- what a reading that is accepted says of the file
record Accepted (bs : List ℕ) (x : Reading) : Type 0 where
  sound : sound_run bs ≡ true
  cards : x.header.cards ≡ (fields_of bs).cards
  code : handed_code x.header.order ≡ (fields_of bs).code
  words : x.words ≡ words_of (words_section bs)
  entries : records_of decode_entry (entries_section bs) (fields_of bs).entries ≡ Ok x.entries
  steps : records_of decode_step (steps_section bs) (fields_of bs).steps ≡ Ok x.steps
  word_count : length x.words ≡ (fields_of bs).size
  entry_count : length x.entries ≡ (fields_of bs).entries
  step_count : length x.steps ≡ (fields_of bs).steps

accepted : (bs wr : List ℕ) (er : List CardEntry) (sr : List Step) (x : Reading) → reading bs wr er sr ≡ Ok x → Accepted bs x
accepted bs wr er sr x e =
    let h = fields_of bs in
    let file = file_read (header_of bs) (words_section bs) (entries_section bs) (steps_section bs) in
    let room = has_room (header_of bs) (length wr) (length er) (length sr) in
    let s = ok_parts (sound_run bs) (cond room file (Err of_read.TooShort)) (of_read.Header of_header.Broken) x e in
    let r = ok_parts room file of_read.TooShort x s.1 in
    let b = both_parts (header_of bs) (words_of (words_section bs)) (records_of decode_entry (entries_section bs) h.entries) (records_of decode_step (steps_section bs) h.steps) x r.1 in
    let z = sized bs s.0 in
    let w = length-words_of (words_section bs) in
    let v = ap length b.1 in
    record {
      sound = s.0;
      cards = ap (λ (t : Header). t.cards) b.0;
      code = ap (λ (t : Header). handed_code t.order) b.0 ∙ code_back h.code (bounded bs s.0).known_code;
      words = b.1;
      entries = b.2;
      steps = b.3;
      word_count = omega (arith, z.words);
      entry_count = records_length decode_entry (entries_section bs) h.entries 0 x.entries b.2;
      step_count = records_length decode_step (steps_section bs) h.steps 0 x.steps b.3;
    }

all_part : (bs : List ℕ) (i n : ℕ) → AllByRecursion Byte bs → AllByRecursion Byte (part bs i n)
all_part bs i n h = All-take Byte n (drop i bs) (All-drop Byte i bs h)

same_bytes : (bs : List ℕ) (x : Reading) → AllByRecursion Byte bs → Accepted bs x → told_bytes x ≡ bs
same_bytes bs x hb a =
    let h = fields_of bs in
    let p = placed bs a.sound in
    let z = sized bs a.sound in
    let numbers : field_numbers (fields_for x.header.order x.header.cards (length x.words) (length x.entries) (length x.steps)) ≡ field_numbers h = cc in
    four_same _ _ _ _ (part bs 0 32) (words_section bs) (entries_section bs) (steps_section bs)
    (ap (flat_map number_bytes) numbers ∙ numbers_back bs 8 0 hb (omega (arith, p.end)))
    (ap (flat_map number_bytes) a.words ∙ words_back (words_section bs) (all_part bs 32 (4 * h.size) hb) (omega (arith, z.words)))
    (records_back encode_entry decode_entry entry_writes_back (entries_section bs) h.entries x.entries (all_part bs (entries_start h) (12 * h.entries) hb) z.entries a.entries)
    (records_back encode_step decode_step step_writes_back (steps_section bs) h.steps x.steps (all_part bs (steps_start h) (12 * h.steps) hb) z.steps a.steps)
    ∙ whole_parts bs (4 * h.size) (12 * h.entries) (12 * h.steps) p.end

written_again : (bs : List ℕ) (x : Reading) (out : List ℕ) → AllByRecursion Byte bs → Accepted bs x → length bs ≤ length out
    → writing x.header.order x.header.cards x.words x.entries x.steps out ≡ Ok (length bs)
written_again bs x out hb a l =
    let h = fields_of bs in
    let f = fields_for x.header.order x.header.cards (length x.words) (length x.entries) (length x.steps) in
    let p = placed bs a.sound in
    let bounds = (and_parts (has_header bs) (in_bounds h) (and_parts (has_header bs && in_bounds h) (laid_out h (length bs)) a.sound).0).1 in
    let few = number_fits bs 20 hb (omega (arith, p.end)) in
    let end : length bs ≡ file_end f = omega (arith, p.end, a.word_count, a.entry_count, a.step_count) in
    let w = and_from (in_bounds f) (leb (length x.steps) 4294967295) (bounds_same f h a.cards a.word_count a.code a.entry_count ∙ bounds)
    (le-leb (length x.steps) 4294967295 (omega (arith, a.step_count))) in
    sym (writing_ok (writable f) (file_end f) (length out) (length bs) w (omega arith) end)

pub run_writes_back : RunWritesBack
run_writes_back bs wr er sr x out hb e l =
    let a = accepted bs wr er sr x e in
    (written_again bs x out hb a l, same_bytes bs x hb a)
