-- A day file that was written is read part for part.
use Rattle.std.proofs.Common.{◌≡◌, ℕ, zero, suc, ◌+◌, ◌*◌, ◌<◌, ◌≤◌, true, ◌&&◌, eqb, ltb, leb, List, [], ◌∷◌, ◌++◌, length, get_or, take, drop, Some, None, sym, refl, ap, ◌∙◌, append_assoc, add-zero, arith, length-append, take-append-drop}
use Rattle.std.proofs.lemmas.Grind.{flat_map-append}
use Rattle.std.proofs.lemmas.List.{take_all, drop_more, get_or_default}
use Rattle.std.proofs.lemmas.Bool.{and_parts, and_from, leb-true, le-leb, le-ltb, lt-ltb, eq-eqb, cond-true, cond-false}
use Rattle.std.specs.List.{flat_map, AllByRecursion}
use Rattle.memory.specs.Bytes.{number_at}
use Rattle.files.specs.Bytes.{part}
use Rattle.files.specs.Day.{run_count, offset_of, length_of, runs_start, day_fits, count_fits, has_runs_table, gapless, has_run, run_part}
use Rattle.files.specs.DayWriting.{run_bytes, header_end, day_length, run_places, day_bytes, day_writable, DayReadsBack}
use Rattle.files.specs.Encoding.{number_bytes, Number}
use Rattle.files.proofs.Days.{places_length}
use Rattle.files.proofs.Putting.{joined_next, number_widths}
use Rattle.files.proofs.ReadBack.{numbers_of, part-between}

-- the numbers of the header
abbrev day_numbers : List (List ℕ) → List ℕ
day_numbers runs = length runs ∷ run_places (header_end runs) runs

bytes_shape : (runs : List (List ℕ)) → day_bytes runs ≡ flat_map number_bytes (day_numbers runs) ++ run_bytes runs
bytes_shape runs =
    let places = run_places (header_end runs) runs in
    sym (append_assoc (flat_map number_bytes (length runs ∷ [])) (flat_map number_bytes places) (run_bytes runs))
    ∙ ap (λ t. t ++ run_bytes runs) (sym (flat_map-append number_bytes (length runs ∷ []) places))

header_width : (runs : List (List ℕ)) → length (flat_map number_bytes (day_numbers runs)) ≡ header_end runs
header_width runs =
    let w = number_widths (day_numbers runs) in
    let l = places_length (header_end runs) runs in
    omega arith

places_fit : (at : ℕ) (rs : List (List ℕ)) → at + length (run_bytes rs) ≤ 65536 → AllByRecursion Number (run_places at rs)
unfolding run_places
places_fit at [] h = tt
places_fit at (r ∷ rs) h =
    let l = length-append r (run_bytes rs) in
    (omega arith, (omega arith, places_fit (at + length r) rs (omega arith)))

places_offset : (at : ℕ) (rs : List (List ℕ)) (n : ℕ) → n < length rs → get_or (run_places at rs) (2 * n) 0 ≡ at + length (run_bytes (take n rs))
unfolding run_places
places_offset at [] n h = absurd (omega arith)
places_offset at (r ∷ rs) zero h = sym (add-zero at)
places_offset at (r ∷ rs) (suc n) h =
    let s : 2 * suc n ≡ suc (suc (2 * n)) = omega arith in
    let l = length-append r (run_bytes (take n rs)) in
    let t = places_offset (at + length r) rs n (omega arith) in
    ap (λ k. get_or (run_places at (r ∷ rs)) k 0) s ∙ t ∙ omega arith

places_size : (at : ℕ) (rs : List (List ℕ)) (n : ℕ) → n < length rs → get_or (run_places at rs) (suc (2 * n)) 0 ≡ length (get_or rs n [])
unfolding run_places
places_size at [] n h = absurd (omega arith)
places_size at (r ∷ rs) zero h = refl
places_size at (r ∷ rs) (suc n) h =
    let s : 2 * suc n ≡ suc (suc (2 * n)) = omega arith in
    ap (λ k. get_or (run_places at (r ∷ rs)) (suc k) 0) s ∙ places_size (at + length r) rs n (omega arith)

-- what the header of such a file says
record Told (runs : List (List ℕ)) (bs : List ℕ) : Type 0 where
  few : length runs ≤ 32
  fits : day_length runs ≤ 65536
  len : length bs ≡ day_length runs
  count : run_count bs ≡ length runs
  offset : (n : ℕ) → n < length runs → offset_of bs n ≡ header_end runs + length (run_bytes (take n runs))
  size : (n : ℕ) → n < length runs → length_of bs n ≡ length (get_or runs n [])

told : (runs : List (List ℕ)) (bs : List ℕ) → day_writable runs ≡ true → bs ≡ flat_map number_bytes (day_numbers runs) ++ run_bytes runs → Told runs bs
told runs bs e is =
    let p = and_parts (leb (length runs) 32) (leb (day_length runs) 65536) e in
    let few = leb-true (length runs) 32 p.0 in
    let fits = leb-true (day_length runs) 65536 p.1 in
    let l = places_length (header_end runs) runs in
    let w = header_width runs in
    let len = ap length is ∙ length-append (flat_map number_bytes (day_numbers runs)) (run_bytes runs) in
    let small : AllByRecursion Number (day_numbers runs) = (omega arith, places_fit (header_end runs) runs fits) in
    let read : (i : ℕ) → i < length (day_numbers runs) → number_at bs (4 * i) ≡ get_or (day_numbers runs) i 0 =
    λ i h. ap (λ t. number_at t (4 * i)) is ∙ numbers_of (day_numbers runs) (run_bytes runs) i small h in
    record {
      few = few;
      fits = fits;
      len = omega arith;
      count = cond-false (ltb (length bs) 4) 0 (number_at bs 0) (le-ltb (length bs) 4 (omega arith)) ∙ read 0 (omega arith);
      offset = λ n h.
          let s : 4 + 8 * n ≡ 4 * suc (2 * n) = omega arith in
          ap (number_at bs) s ∙ read (suc (2 * n)) (omega arith) ∙ places_offset (header_end runs) runs n h;
      size = λ n h.
          let s : 8 + 8 * n ≡ 4 * suc (suc (2 * n)) = omega arith in
          ap (number_at bs) s ∙ read (suc (suc (2 * n))) (omega arith) ∙ places_size (header_end runs) runs n h;
    }

run_more : (runs : List (List ℕ)) (n : ℕ) → n < length runs → length (run_bytes (take (n + 1) runs)) ≡ length (run_bytes (take n runs)) + length (get_or runs n [])
run_more runs n h =
    let r = get_or runs n [] in
    ap length (joined_next (λ t. t) runs n r h (get_or_default runs n [] r h)) ∙ length-append (run_bytes (take n runs)) r

gapless_back : (runs : List (List ℕ)) (bs : List ℕ) (k n at : ℕ) → Told runs bs → n + k ≡ length runs → at ≡ header_end runs + length (run_bytes (take n runs)) → gapless bs k n at ≡ true
unfolding gapless
gapless_back runs bs zero n at t s e =
    let all = ap (λ rs. length (run_bytes rs)) (take_all n runs (omega arith)) in
    eq-eqb at (length bs) (omega (arith, t.len))
gapless_back runs bs (suc k) n at t s e =
    let o = t.offset n (omega arith) in
    let z = t.size n (omega arith) in
    let m = run_more runs n (omega arith) in
    and_from (eqb (offset_of bs n) at) (gapless bs k (n + 1) (at + length_of bs n)) (eq-eqb (offset_of bs n) at (o ∙ sym e))
    (gapless_back runs bs k (n + 1) (at + length_of bs n) t (omega arith) (omega arith))

-- the runs before run n, that run, and those behind it
runs_split : (runs : List (List ℕ)) (n : ℕ) → n < length runs → run_bytes runs ≡ run_bytes (take n runs) ++ (get_or runs n [] ++ run_bytes (drop (n + 1) runs))
runs_split runs n h =
    ap run_bytes (sym (take-append-drop n runs)) ∙ flat_map-append (λ t. t) (take n runs) (drop n runs)
    ∙ ap (λ rs. run_bytes (take n runs) ++ run_bytes rs) (drop_more runs n [] h)

run_back : (runs : List (List ℕ)) (bs : List ℕ) (n : ℕ) → bs ≡ flat_map number_bytes (day_numbers runs) ++ run_bytes runs → Told runs bs → n < length runs → run_part bs n ≡ get_or runs n []
run_back runs bs n is t h =
    let header = flat_map number_bytes (day_numbers runs) in
    let before = run_bytes (take n runs) in
    let behind = run_bytes (drop (n + 1) runs) in
    let w = header_width runs in
    let l = length-append header before in
    let shape : bs ≡ (header ++ before) ++ (get_or runs n [] ++ behind) =
    is ∙ ap (λ rb. header ++ rb) (runs_split runs n h) ∙ sym (append_assoc header before (get_or runs n [] ++ behind)) in
    ap (λ xs. part xs (offset_of bs n) (length_of bs n)) shape
    ∙ part-between (header ++ before) (get_or runs n []) behind (offset_of bs n) (length_of bs n) (omega (arith, t.offset n h)) (sym (t.size n h))

pub day_reads_back : DayReadsBack
day_reads_back runs e =
    let bs = day_bytes runs in
    let is = bytes_shape runs in
    let t = told runs bs e is in
    let few = t.few in
    let fits = t.fits in
    let len = t.len in
    let count = t.count in
    record {
      sound = and_from (day_fits bs && count_fits bs && has_runs_table bs) (gapless bs (run_count bs) 0 (runs_start bs))
          (and_from (day_fits bs && count_fits bs) (has_runs_table bs)
          (and_from (day_fits bs) (count_fits bs) (le-leb (length bs) 65536 (omega arith)) (le-leb (run_count bs) 32 (omega arith)))
          (le-leb (runs_start bs) (length bs) (omega arith)))
          (ap (λ k. gapless bs k 0 (4 + 8 * k)) count ∙ gapless_back runs bs (length runs) 0 (header_end runs) t (omega arith) (sym (add-zero (header_end runs))));
      count = count;
      parts = λ n h.
          let o = t.offset n h in
          let z = t.size n h in
          let s = ap length (runs_split runs n h) ∙ length-append (run_bytes (take n runs)) (get_or runs n [] ++ run_bytes (drop (n + 1) runs)) in
          let r = length-append (get_or runs n []) (run_bytes (drop (n + 1) runs)) in
          cond-true (has_run bs n) (Some (run_part bs n)) None
          (and_from (ltb n (run_count bs) && leb (12 + 8 * n) (length bs)) (leb (offset_of bs n + length_of bs n) (length bs))
          (and_from (ltb n (run_count bs)) (leb (12 + 8 * n) (length bs)) (lt-ltb n (run_count bs) (omega arith)) (le-leb (12 + 8 * n) (length bs) (omega arith)))
          (le-leb (offset_of bs n + length_of bs n) (length bs) (omega arith)))
          ∙ ap Some (run_back runs bs n is t h);
    }
