-- The runs of a sound day file are written as the same bytes.
use Rattle.std.proofs.Common.{◌≡◌, ℕ, zero, suc, ◌+◌, ◌*◌, ◌≤◌, true, eqb, ltb, leb, List, [], ◌∷◌, ◌++◌, length, take, drop, sym, refl, ap, ◌∙◌, append-nil, arith, length-drop, take-append-drop}
use Rattle.std.proofs.lemmas.List.{drop_all, drop-drop}
use Rattle.std.proofs.lemmas.Bool.{and_parts, and_from, eqb-true, le-leb, le-ltb, cond-false}
use Rattle.std.specs.List.{flat_map, AllByRecursion}
use Rattle.memory.specs.Bytes.{number_at}
use Rattle.files.specs.Bytes.{part}
use Rattle.files.specs.Day.{run_count, runs_start, offset_of, length_of, gapless, run_part}
use Rattle.files.specs.DayWriting.{run_bytes, day_length, run_places, runs_from, runs_of, DayWritesBack}
use Rattle.files.specs.Encoding.{number_bytes, Byte}
use Rattle.files.proofs.Gapless.{begins_inside, sound}
use Rattle.files.proofs.Laying.{length_part}
use Rattle.files.specs.Recording.{number_back}
use Rattle.files.proofs.WrittenBack.{parts_join}

runs_count : (bs : List ℕ) (k n : ℕ) → length (runs_from bs k n) ≡ k
unfolding runs_from
runs_count bs zero n = refl
runs_count bs (suc k) n = ap suc (runs_count bs k (n + 1))

-- a part, and all behind it
part_rest : (bs : List ℕ) (i m : ℕ) → part bs i m ++ drop (i + m) bs ≡ drop i bs
part_rest bs i m = ap (λ t. take m (drop i bs) ++ t) (sym (drop-drop m i bs)) ∙ take-append-drop m (drop i bs)

-- where run n starts and ends in a file whose runs from there on lie without a gap
record Here (bs : List ℕ) (k n at : ℕ) : Type 0 where
  offset : offset_of bs n ≡ at
  size : length (run_part bs n) ≡ length_of bs n
  rest : gapless bs k (n + 1) (at + length_of bs n) ≡ true

here : (bs : List ℕ) (k n at : ℕ) → gapless bs (suc k) n at ≡ true → Here bs k n at
unfolding gapless
here bs k n at e =
    let p = and_parts (eqb (offset_of bs n) at) (gapless bs k (n + 1) (at + length_of bs n)) e in
    let o = eqb-true (offset_of bs n) at p.0 in
    let i = begins_inside bs k (n + 1) (at + length_of bs n) p.1 in
    record { offset = o; size = length_part bs (offset_of bs n) (length_of bs n) (omega arith); rest = p.1 }

-- such runs are all from there on
runs_back : (bs : List ℕ) (k n at : ℕ) → gapless bs k n at ≡ true → run_bytes (runs_from bs k n) ≡ drop at bs
unfolding runs_from gapless
runs_back bs zero n at e =
    let l = eqb-true at (length bs) e in
    sym (drop_all at bs (omega arith))
runs_back bs (suc k) n at e =
    let h = here bs k n at e in
    ap (λ t. run_part bs n ++ t) (runs_back bs k (n + 1) (at + length_of bs n) h.rest)
    ∙ ap (λ i. part bs i (length_of bs n) ++ drop (at + length_of bs n) bs) h.offset ∙ part_rest bs at (length_of bs n)

-- and their places are those of the header
places_back : (bs : List ℕ) (k n at : ℕ) → AllByRecursion Byte bs → 4 + 8 * (n + k) ≤ length bs → gapless bs k n at ≡ true
    → flat_map number_bytes (run_places at (runs_from bs k n)) ≡ part bs (4 + 8 * n) (8 * k)
unfolding runs_from run_places
places_back bs zero n at hb l e = refl
places_back bs (suc k) n at hb l e =
    let h = here bs k n at e in
    let rest = runs_from bs k (n + 1) in
    let s : 8 * suc k ≡ 4 + (4 + 8 * k) = omega arith in
    ap (λ m. number_bytes at ++ (number_bytes m ++ flat_map number_bytes (run_places (at + m) rest))) h.size
    ∙ ap (λ t. number_bytes at ++ (number_bytes (length_of bs n) ++ t)) (places_back bs k (n + 1) (at + length_of bs n) hb (omega arith) h.rest)
    ∙ ap (λ t. number_bytes at ++ (t ++ part bs (4 + 8 * (n + 1)) (8 * k))) (number_back bs (8 + 8 * n) hb (omega arith))
    ∙ ap (λ i. number_bytes i ++ (part bs (8 + 8 * n) 4 ++ part bs (4 + 8 * (n + 1)) (8 * k))) (sym h.offset)
    ∙ ap (λ t. t ++ (part bs (8 + 8 * n) 4 ++ part bs (4 + 8 * (n + 1)) (8 * k))) (number_back bs (4 + 8 * n) hb (omega arith))
    ∙ ap (λ t. part bs (4 + 8 * n) 4 ++ t) (parts_join bs (8 + 8 * n) 4 (8 * k) (4 + 8 * (n + 1)) (omega arith))
    ∙ parts_join bs (4 + 8 * n) 4 (4 + 8 * k) (8 + 8 * n) (omega arith) ∙ ap (part bs (4 + 8 * n)) (sym s)

pub day_writes_back : DayWritesBack
day_writes_back bs hb e =
    let s = sound bs e in
    let few = s.few in
    let fits = s.fits in
    let table = s.table in
    let count = run_count bs in
    let rs = runs_of bs in
    let l = runs_count bs count 0 in
    let first : count ≡ number_at bs 0 = cond-false (ltb (length bs) 4) 0 (number_at bs 0) (le-ltb (length bs) 4 (omega arith)) in
    let runs = runs_back bs count 0 (runs_start bs) s.runs in
    let len = ap length runs ∙ length-drop (runs_start bs) bs in
    let places = places_back bs count 0 (runs_start bs) hb (omega arith) s.runs in (
      and_from (leb (length rs) 32) (leb (day_length rs) 65536) (le-leb (length rs) 32 (omega arith)) (le-leb (day_length rs) 65536 (omega arith)),
      ap (λ n. flat_map number_bytes (n ∷ []) ++ (flat_map number_bytes (run_places (4 + 8 * n) rs) ++ run_bytes rs)) l
          ∙ ap (λ t. flat_map number_bytes (count ∷ []) ++ (t ++ run_bytes rs)) places
          ∙ ap (λ t. flat_map number_bytes (count ∷ []) ++ (part bs 4 (8 * count) ++ t)) runs
          ∙ ap (λ t. flat_map number_bytes (count ∷ []) ++ t) (part_rest bs 4 (8 * count))
          ∙ ap (λ t. t ++ drop 4 bs) (append-nil (number_bytes count) ∙ ap number_bytes first ∙ number_back bs 0 hb (omega arith))
          ∙ take-append-drop 4 bs,
    )
