-- What the tests of a sound run file say.
use Rattle.std.proofs.Common.{◌≡◌, ℕ, ◌+◌, ◌-◌, ◌*◌, ◌≤◌, true, ◌&&◌, eqb, leb, List, length, take, drop, sym, refl, ap, ◌∙◌, subst, arith, length-drop, length-take}
use Rattle.std.proofs.lemmas.Bool.{and_parts, eqb-true, leb-true}
use Rattle.files.specs.Bytes.{part}
use Rattle.files.specs.Header.{fields_of, header_in, header_of, entries_start, steps_start, file_end, cards_fit, size_fits, order_known, entries_fit, in_bounds, words_placed, entries_placed, steps_placed, laid_out}
use Rattle.files.specs.Run.{has_header, sound_run, words_section, entries_section, steps_section}
use Rattle.files.specs.declared.header.Fields.{Fields}

-- the header's numbers are within their bounds
pub record Bounded (h : Fields) : Type 0 where
  pub some_card : 1 ≤ h.cards
  pub few_cards : h.cards ≤ 8
  pub some_word : 1 ≤ h.size
  pub few_words : h.size ≤ 1024
  pub known_code : h.code ≤ 6
  pub few_entries : h.entries ≤ 512

pub bounded_from : (h : Fields) → in_bounds h ≡ true → Bounded h
bounded_from h e =
    let p = and_parts (cards_fit h && size_fits h && order_known h) (entries_fit h) e in
    let q = and_parts (cards_fit h && size_fits h) (order_known h) p.0 in
    let r = and_parts (cards_fit h) (size_fits h) q.0 in
    let c = and_parts (leb 1 h.cards) (leb h.cards 8) r.0 in
    let s = and_parts (leb 1 h.size) (leb h.size 1024) r.1 in
    record {
      some_card = leb-true 1 h.cards c.0;
      few_cards = leb-true h.cards 8 c.1;
      some_word = leb-true 1 h.size s.0;
      few_words = leb-true h.size 1024 s.1;
      known_code = leb-true h.code 6 q.1;
      few_entries = leb-true h.entries 512 p.1;
    }

-- its offsets are those of the layout, in a file of `len` bytes
pub record Placed (h : Fields) (len : ℕ) : Type 0 where
  pub words : h.words_at ≡ 32
  pub entries : h.entries_at ≡ entries_start h
  pub steps : h.steps_at ≡ steps_start h
  pub end : file_end h ≡ len

placed_from : (h : Fields) (len : ℕ) → laid_out h len ≡ true → Placed h len
placed_from h len e =
    let p = and_parts (words_placed h && entries_placed h && steps_placed h) (eqb (file_end h) len) e in
    let q = and_parts (words_placed h && entries_placed h) (steps_placed h) p.0 in
    let r = and_parts (words_placed h) (entries_placed h) q.0 in
    record {
      words = eqb-true h.words_at 32 r.0;
      entries = eqb-true h.entries_at (entries_start h) r.1;
      steps = eqb-true h.steps_at (steps_start h) q.1;
      end = eqb-true (file_end h) len p.1;
    }

pub bounded : (bs : List ℕ) → sound_run bs ≡ true → Bounded (fields_of bs)
bounded bs e =
    let p = and_parts (has_header bs && in_bounds (fields_of bs)) (laid_out (fields_of bs) (length bs)) e in
    bounded_from (fields_of bs) (and_parts (has_header bs) (in_bounds (fields_of bs)) p.0).1

pub placed : (bs : List ℕ) → sound_run bs ≡ true → Placed (fields_of bs) (length bs)
placed bs e =
    placed_from (fields_of bs) (length bs) (and_parts (has_header bs && in_bounds (fields_of bs)) (laid_out (fields_of bs) (length bs)) e).1

-- a part by its ends is a part by its length
pub by_ends : (bs : List ℕ) (a e at n : ℕ) → a ≡ at → e ≡ at + n → take (e - a) (drop a bs) ≡ part bs at n
by_ends bs a e at n p q = let k : e - a ≡ n = omega arith in rw (k, p)

-- a part that lies inside has its length
pub length_part : (bs : List ℕ) (at n : ℕ) → at + n ≤ length bs → length (part bs at n) ≡ n
length_part bs at n h = simp (length-take, length-drop) (omega arith)

-- the lengths of the sections
pub record Sized (bs : List ℕ) : Type 0 where
  pub words : length (words_section bs) ≡ 4 * (fields_of bs).size
  pub entries : length (entries_section bs) ≡ 12 * (fields_of bs).entries
  pub steps : length (steps_section bs) ≡ 12 * (fields_of bs).steps

pub sized : (bs : List ℕ) → sound_run bs ≡ true → Sized bs
sized bs e =
    let h = fields_of bs in
    let p = placed bs e in
    record {
      words = length_part bs 32 (4 * h.size) (omega (arith, p.end));
      entries = length_part bs (entries_start h) (12 * h.entries) (omega (arith, p.end));
      steps = length_part bs (steps_start h) (12 * h.steps) (omega (arith, p.end));
    }

-- what opening such a file finds
pub record Opened (bs : List ℕ) (f : Fields) : Type 0 where
  pub bounds : Bounded f
  pub header : header_in f ≡ header_of bs
  pub words : take (f.entries_at - 32) (drop 32 bs) ≡ words_section bs
  pub entries : take (f.steps_at - f.entries_at) (drop f.entries_at bs) ≡ entries_section bs
  pub steps : take (length bs - f.steps_at) (drop f.steps_at bs) ≡ steps_section bs
  pub words_whole : length (take (f.entries_at - 32) (drop 32 bs)) ≡ 4 * f.size
  pub entries_whole : length (take (f.steps_at - f.entries_at) (drop f.entries_at bs)) ≡ 12 * f.entries
  pub steps_whole : length (take (length bs - f.steps_at) (drop f.steps_at bs)) ≡ 12 * f.steps

pub opened : (bs : List ℕ) (f : Fields) → sound_run bs ≡ true → f ≡ fields_of bs → Opened bs f
opened bs f e is =
    let p = placed bs e in
    let z = sized bs e in
    let h = fields_of bs in
    let words = by_ends bs 32 h.entries_at 32 (4 * h.size) refl p.entries in
    let entries = by_ends bs h.entries_at h.steps_at (entries_start h) (12 * h.entries) p.entries p.steps in
    let steps = by_ends bs h.steps_at (length bs) (steps_start h) (12 * h.steps) p.steps (sym p.end) in
    subst (λ (f : Fields). Opened bs f) (sym is) (record {
      bounds = bounded bs e;
      header = refl;
      words = words;
      entries = entries;
      steps = steps;
      words_whole = ap length words ∙ z.words;
      entries_whole = ap length entries ∙ z.entries;
      steps_whole = ap length steps ∙ z.steps;
    })
