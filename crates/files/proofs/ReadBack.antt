-- A run file that was written is read as it was handed.
use Rattle.std.proofs.Common.{◌≡◌, ℕ, zero, suc, ◌+◌, ◌*◌, ◌<◌, ◌≤◌, true, cond, ◌&&◌, eqb, leb, List, [], ◌∷◌, ◌++◌, length, get_or, take, drop, Some, None, Ok, Err, Option, Result, sym, refl, ap, ◌∙◌, append_assoc, append-nil, arith, length-append}
use Rattle.std.proofs.lemmas.List.{take_at, take_all, drop_at}
use Rattle.std.proofs.lemmas.Bool.{and_parts, and_from, le-leb, leb-true, eq-eqb, cond-true}
use Rattle.std.specs.List.{flat_map, AllByRecursion}
use Rattle.memory.specs.Bytes.{words_of}
use Rattle.memory.specs.Tables.{laid_over}
use Rattle.memory.proofs.Bytes.{four_bytes_of}
use Rattle.orders.specs.Chosen.{order_by_code}
use Rattle.orders.specs.declared.chosen.AnyOrder.{AnyOrder}
use Rattle.orders.specs.declared.chosen.AnyOrder.TheVariants.{Sc, Tso, Pso, Rmo, Ibm370, Ia64}
use Rattle.memory.specs.Bytes.{number_at}
use Rattle.files.specs.Bytes.{part}
use Rattle.files.specs.Encoding.{number_bytes, encode_entry, encode_step, Number, CardEntryTyped, StepTyped, ReadsBack}
use Rattle.files.specs.Header.{fields_of, header_in, header_of, in_bounds, laid_out, entries_start, steps_start, file_end, words_placed, entries_placed, steps_placed}
use Rattle.files.specs.Reading.{has_room, both_read, reading}
use Rattle.files.specs.Records.{decode_entry, decode_step}
use Rattle.files.specs.RoundTrip.{handed, RunReadsBack, WrittenReadsBack}
use Rattle.files.specs.Run.{has_header, sound_run, words_section, entries_section, steps_section}
use Rattle.files.specs.Sections.{and_then, records_from, records_of}
use Rattle.files.specs.Writing.{handed_code, fields_for, field_numbers, writable, file_bytes, bytes_after}
use Rattle.files.specs.declared.header.Fields.{Fields}
use Rattle.files.specs.declared.header.Header.{Header}
use Rattle.files.specs.declared.header.HeaderFault.TheVariants as of_header
use Rattle.files.specs.declared.records.CardEntry.{CardEntry}
use Rattle.files.specs.declared.records.RecordFault.{RecordFault}
use Rattle.files.specs.declared.records.BadRecord.{BadRecord}
use Rattle.files.specs.declared.step.Step.{Step}
use Rattle.files.specs.declared.write_fault.WriteFault.{WriteFault}
use Rattle.files.specs.declared.write_fault.WriteFault.TheVariants as of_write
use Rattle.files.proofs.Laying.{bounded_from}
use Rattle.files.proofs.Putting.{number_widths, entry_widths, step_widths, sections_length}
use Rattle.files.specs.Recording.{ok_parts, number_read, number_next, entry_width, entry_reads_back, step_width, step_reads_back}

-- number i of those that stand in front
pub numbers_of : (ns rest : List ℕ) (i : ℕ) → AllByRecursion Number ns → i < length ns → number_at (flat_map number_bytes ns ++ rest) (4 * i) ≡ get_or ns i 0
numbers_of [] rest i h l = absurd (omega arith)
numbers_of (n ∷ ns) rest zero h l =
    ap (λ bs. number_at bs 0) (append_assoc (number_bytes n) (flat_map number_bytes ns) rest) ∙ number_read n (flat_map number_bytes ns ++ rest) h.0
numbers_of (n ∷ ns) rest (suc i) h l =
    let s : 4 * suc i ≡ 4 + 4 * i = omega arith in
    ap (λ bs. number_at bs (4 * suc i)) (append_assoc (number_bytes n) (flat_map number_bytes ns) rest)
    ∙ ap (number_at (number_bytes n ++ (flat_map number_bytes ns ++ rest))) s
    ∙ number_next n (flat_map number_bytes ns ++ rest) (4 * i) ∙ numbers_of ns rest i h.1 (omega arith)

words_read : (ws : List ℕ) → AllByRecursion Number ws → words_of (flat_map number_bytes ws) ≡ ws
unfolding words_of number_bytes
words_read [] h = refl
words_read (w ∷ ws) h =
    ap (λ x. x ∷ words_of (flat_map number_bytes ws)) (four_bytes_of w h.0) ∙ ap (λ xs. w ∷ xs) (words_read ws h.1)

-- a part between two others
pub part-between : (a b c : List ℕ) (i n : ℕ) → length a ≡ i → length b ≡ n → part (a ++ (b ++ c)) i n ≡ b
part-between a b c i n e f = ap (take n) (drop_at a (b ++ c) i e) ∙ take_at b c n f

-- records that were written behind k others
read_behind : {R : Type 0} (Typed : R → Type 0) (enc : R → List ℕ) (d : List ℕ → Result R RecordFault) → ((x : R) → length (enc x) ≡ 12) → ReadsBack Typed enc d
    → (pre : List ℕ) (xs : List R) (k : ℕ) → length pre ≡ 12 * k → AllByRecursion Typed xs → records_from d (pre ++ flat_map enc xs) (length xs) k ≡ Ok xs
unfolding records_from
read_behind Typed enc d width back pre [] k l h = refl
read_behind {R} Typed enc d width back pre (x ∷ xs) k l h =
    let bs = pre ++ (enc x ++ flat_map enc xs) in
    let here : d (part bs (12 * k) 12) ≡ Ok x = ap d (part-between pre (enc x) (flat_map enc xs) (12 * k) 12 l (width x)) ∙ back x h.0 in
    let w = width x in
    let longer : length (pre ++ enc x) ≡ 12 * (k + 1) = simp length-append (omega arith) in
    let rest : records_from d bs (length xs) (k + 1) ≡ Ok xs =
    ap (λ t. records_from d t (length xs) (k + 1)) (sym (append_assoc pre (enc x) (flat_map enc xs)))
    ∙ read_behind Typed enc d width back (pre ++ enc x) xs (k + 1) longer h.1 in
    ap (λ (r : Result R RecordFault). and_then k r (records_from d bs (length xs) (k + 1))) here ∙ ap (λ (r : Result (List R) (BadRecord RecordFault)). and_then k (Ok x) r) rest

records_read : {R : Type 0} (Typed : R → Type 0) (enc : R → List ℕ) (d : List ℕ → Result R RecordFault) → ((x : R) → length (enc x) ≡ 12) → ReadsBack Typed enc d
    → (xs : List R) → AllByRecursion Typed xs → records_of d (flat_map enc xs) (length xs) ≡ Ok xs
records_read Typed enc d width back xs h = read_behind Typed enc d width back [] xs 0 refl h

order_back : (order : Option AnyOrder) → order_by_code (handed_code order) ≡ order
order_back None = refl
order_back (Some Sc) = refl
order_back (Some Tso) = refl
order_back (Some Pso) = refl
order_back (Some Rmo) = refl
order_back (Some Ibm370) = refl
order_back (Some Ia64) = refl

-- the numbers of a legal header fit their fields
numbers_fit : (order : Option AnyOrder) (cards w e s : ℕ) → writable (fields_for order cards w e s) ≡ true → AllByRecursion Number (field_numbers (fields_for order cards w e s))
numbers_fit order cards w e s h =
    let p = and_parts (in_bounds (fields_for order cards w e s)) (leb s 4294967295) h in
    let b = bounded_from (fields_for order cards w e s) p.0 in
    let l = leb-true s 4294967295 p.1 in
    let few_cards : cards ≤ 8 = b.few_cards in
    let few_words : w ≤ 1024 = b.few_words in
    let few_entries : e ≤ 512 = b.few_entries in
    let known : handed_code order ≤ 6 = b.known_code in
    (omega arith, (omega arith, (omega arith, (omega arith, (omega arith, (omega arith, (omega arith, (omega arith, tt))))))))

file_length : (a b c d : List ℕ) → length (a ++ (b ++ (c ++ d))) ≡ length a + length b + length c + length d
file_length a b c d = simp length-append (omega arith)

-- the header of a file that was written
header_read : (f : Fields) (rest : List ℕ) → AllByRecursion Number (field_numbers f) → fields_of (flat_map number_bytes (field_numbers f) ++ rest) ≡ f
header_read f rest h =
    let ns = field_numbers f in
    let cards = numbers_of ns rest 0 h (omega arith) in
    let size = numbers_of ns rest 1 h (omega arith) in
    let code = numbers_of ns rest 2 h (omega arith) in
    let entries = numbers_of ns rest 3 h (omega arith) in
    let entries-at = numbers_of ns rest 4 h (omega arith) in
    let steps = numbers_of ns rest 5 h (omega arith) in
    let steps-at = numbers_of ns rest 6 h (omega arith) in
    let words-at = numbers_of ns rest 7 h (omega arith) in
    let made : fields_of (flat_map number_bytes ns ++ rest) ≡ record {
      cards = f.cards;
      size = f.size;
      code = f.code;
      entries = f.entries;
      entries_at = f.entries_at;
      steps = f.steps;
      steps_at = f.steps_at;
      words_at = f.words_at;
    } = cc in
    made

-- the offsets of a header that is written are those of the layout
placed_for : (order : Option AnyOrder) (cards w e s len : ℕ) → file_end (fields_for order cards w e s) ≡ len → laid_out (fields_for order cards w e s) len ≡ true
placed_for order cards w e s len h =
    let f = fields_for order cards w e s in
    and_from (words_placed f && entries_placed f && steps_placed f) (eqb (file_end f) len)
    (and_from (words_placed f && entries_placed f) (steps_placed f)
    (and_from (words_placed f) (entries_placed f) refl (eq-eqb (32 + 4 * w) (32 + 4 * w) refl))
    (eq-eqb (32 + 4 * w + 12 * e) (32 + 4 * w + 12 * e) refl))
    (eq-eqb (file_end f) len h)

-- the three parts behind the first
parts_read : (a b c d : List ℕ) (i m n k : ℕ) → length a ≡ i → length b ≡ m → length c ≡ n → length d ≡ k
    → (part (a ++ (b ++ (c ++ d))) i m ≡ b) × (part (a ++ (b ++ (c ++ d))) (i + m) n ≡ c) × (part (a ++ (b ++ (c ++ d))) (i + m + n) k ≡ d)
parts_read a b c d i m n k la lb lc ld =
    let two : a ++ (b ++ (c ++ d)) ≡ (a ++ b) ++ (c ++ d) = simp append_assoc in
    let three : a ++ (b ++ (c ++ d)) ≡ ((a ++ b) ++ c) ++ (d ++ []) = simp (append_assoc, append-nil) in
    let lab : length (a ++ b) ≡ i + m = simp length-append (omega arith) in
    let labc : length ((a ++ b) ++ c) ≡ i + m + n = simp length-append (omega arith) in (
      part-between a b (c ++ d) i m la lb,
      ap (λ bs. part bs (i + m) n) two ∙ part-between (a ++ b) c d (i + m) n lab lc,
      ap (λ bs. part bs (i + m + n) k) three ∙ part-between ((a ++ b) ++ c) d [] (i + m + n) k labc ld,
    )

-- a file is read by its parts
read_parts : (bs : List ℕ) (wr : List ℕ) (er : List CardEntry) (sr : List Step) (h : Header) (ws : List ℕ) (es : List CardEntry) (ss : List Step)
    → sound_run bs ≡ true → has_room (header_of bs) (length wr) (length er) (length sr) ≡ true
    → header_of bs ≡ h → words_of (words_section bs) ≡ ws
    → records_of decode_entry (entries_section bs) (header_of bs).entries ≡ Ok es → records_of decode_step (steps_section bs) (header_of bs).steps ≡ Ok ss
    → reading bs wr er sr ≡ Ok (record { header = h; words = ws; entries = es; steps = ss })
read_parts bs wr er sr h ws es ss sound room head words entries steps =
    cond-true (sound_run bs) _ _ sound ∙ cond-true (has_room (header_of bs) (length wr) (length er) (length sr)) _ _ room
    ∙ ap (λ (r : Result (List CardEntry) (BadRecord RecordFault)). both_read (header_of bs) (words_of (words_section bs)) r (records_of decode_step (steps_section bs) (header_of bs).steps)) entries
    ∙ ap (λ (r : Result (List Step) (BadRecord RecordFault)). both_read (header_of bs) (words_of (words_section bs)) (Ok es) r) steps
    ∙ ap (λ (k : Header). both_read k (words_of (words_section bs)) (Ok es) (Ok ss)) head
    ∙ ap (λ (t : List ℕ). both_read h t (Ok es) (Ok ss)) words

written_length : (order : Option AnyOrder) (cards : ℕ) (words : List ℕ) (entries : List CardEntry) (steps : List Step)
    → length (file_bytes order cards words entries steps) ≡ file_end (fields_for order cards (length words) (length entries) (length steps))
written_length order cards words entries steps =
    let f = fields_for order cards (length words) (length entries) (length steps) in
    file_length (flat_map number_bytes (field_numbers f)) (flat_map number_bytes words) (flat_map encode_entry entries) (flat_map encode_step steps)
    ∙ sections_length order cards words entries steps f (field_numbers f) refl refl

pub run_reads_back : RunReadsBack
run_reads_back order cards words entries steps wr er sr h hw he hs lw le ls =
    let f = fields_for order cards (length words) (length entries) (length steps) in
    let b = flat_map number_bytes words in
    let c = flat_map encode_entry entries in
    let d = flat_map encode_step steps in
    let bs = file_bytes order cards words entries steps in
    let same = header_read f (b ++ (c ++ d)) (numbers_fit order cards (length words) (length entries) (length steps) h) in
    let len = written_length order cards words entries steps in
    let bounds = (and_parts (in_bounds f) (leb (length steps) 4294967295) h).0 in
    let p = parts_read (flat_map number_bytes (field_numbers f)) b c d 32 (4 * length words) (12 * length entries) (12 * length steps)
    (number_widths (field_numbers f)) (number_widths words) (entry_widths entries) (step_widths steps) in
    let room : has_room (header_in f) (length wr) (length er) (length sr) ≡ true =
    and_from _ _ (and_from _ _ (le-leb (length words) (length wr) lw) (le-leb (length entries) (length er) le)) (le-leb (length steps) (length sr) ls) in
    read_parts bs wr er sr (handed order cards words entries steps).header words entries steps
    (and_from (has_header bs && in_bounds (fields_of bs)) (laid_out (fields_of bs) (length bs))
    (and_from (has_header bs) (in_bounds (fields_of bs)) (le-leb 32 (length bs) (omega arith)) (ap in_bounds same ∙ bounds))
    (ap (λ (k : Fields). laid_out k (length bs)) same ∙ placed_for order cards (length words) (length entries) (length steps) (length bs) (sym len)))
    (ap (λ (k : Fields). has_room (header_in k) (length wr) (length er) (length sr)) same ∙ room)
    (ap header_in same ∙ ap (λ (o : Option AnyOrder). record { cards = cards; size = length words; order = o; entries = length entries; steps = length steps }) (order_back order))
    (ap (λ (k : Fields). words_of (part bs 32 (4 * k.size))) same ∙ ap words_of p.0 ∙ words_read words hw)
    (ap (λ (k : Fields). records_of decode_entry (part bs (entries_start k) (12 * k.entries)) k.entries) same
    ∙ ap (λ (t : List ℕ). records_of decode_entry t (length entries)) p.1
    ∙ records_read CardEntryTyped encode_entry decode_entry entry_width entry_reads_back entries he)
    (ap (λ (k : Fields). records_of decode_step (part bs (steps_start k) (12 * k.steps)) k.steps) same
    ∙ ap (λ (t : List ℕ). records_of decode_step t (length steps)) p.2
    ∙ records_read StepTyped encode_step decode_step step_width step_reads_back steps hs)

same_ok : (m n : ℕ) → ◌≡◌ {A = Result ℕ WriteFault} (Ok m) (Ok n) → m ≡ n
same_ok m n e = cc

-- the first bytes of a table that a file was laid over
laid_first : (file old : List ℕ) (n : ℕ) → length file ≡ n → n ≤ length old → take n (laid_over file old) ≡ file
laid_first file old n e l =
    ap (λ t. take n (t ++ drop (length file) old)) (take_all (length old) file (omega arith)) ∙ take_at file (drop (length file) old) n e

pub written_reads_back : WrittenReadsBack
written_reads_back order cards words entries steps out n wr er sr e hw he hs lw le ls =
    let f = fields_for order cards (length words) (length entries) (length steps) in
    let file = file_bytes order cards words entries steps in
    let p = ok_parts (writable f) (cond (leb (file_end f) (length out)) (Ok (file_end f)) (Err of_write.TooShort)) (of_write.Header of_header.Broken) n e in
    let q = ok_parts (leb (file_end f) (length out)) (Ok (file_end f)) of_write.TooShort n p.1 in
    let fits = leb-true (file_end f) (length out) q.0 in
    let end : file_end f ≡ n = same_ok (file_end f) n q.1 in
    let len = written_length order cards words entries steps ∙ end in
    ap (λ (r : Result ℕ WriteFault). reading (take n (bytes_after r file out)) wr er sr) e
    ∙ ap (λ (bs : List ℕ). reading bs wr er sr) (laid_first file out n len (omega arith))
    ∙ run_reads_back order cards words entries steps wr er sr p.0 hw he hs lw le ls
