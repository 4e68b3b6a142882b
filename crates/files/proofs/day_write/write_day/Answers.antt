use Rattle.std.proofs.Common.{◌≡◌, ℕ, ◌+◌, ◌*◌, ◌≤◌, true, leb, List, [], ◌∷◌, ◌++◌, map, length, Result, sym, ap, ◌∙◌, append_assoc, arith, length-append, Bor}
use Rattle.std.proofs.lemmas.Bool.{and_parts, leb-true}
use Rattle.std.specs.List.{flat_map}
use Rattle.memory.specs.Tables.{laid_over}
use Rattle.files.specs.DayWriting.{header_end, run_places, day_length, day_writable, day_bytes}
use Rattle.files.specs.Encoding.{number_bytes}
use Rattle.files.specs.Writing.{bytes_after}
use Rattle.files.specs.declared.write_fault.WriteFault.{WriteFault}
use Rattle.files.proofs.Days.{runs_length, runs_joined, places_width}
use Rattle.files.proofs.Putting.{number_widths, put_behind, written_front, writing_ok}
use Rattle.files.proofs.day_write.write_day.Goals as goal

-- the lengths of a day that can be written, and of its parts
record Sized (xs : List (Bor (List ℕ))) : Type 0 where
  few : length xs ≤ 32
  fits : day_length (map (λ x. x.now) xs) ≤ 65536
  end : day_length (map (λ x. x.now) xs) ≡ 4 + 8 * length xs + length (flat_map (λ x. x.now) xs)
  count : length (flat_map number_bytes (length xs ∷ [])) ≡ 4
  places : length (flat_map number_bytes (run_places (header_end (map (λ x. x.now) xs)) (map (λ x. x.now) xs))) ≡ 8 * length xs

sized : (xs : List (Bor (List ℕ))) → day_writable (map (λ x. x.now) xs) ≡ true → Sized xs
sized xs e =
    let rs = map (λ x. x.now) xs in
    let p = and_parts (leb (length rs) 32) (leb (day_length rs) 65536) e in
    let l = runs_length xs in
    let j = ap length (runs_joined xs) in
    let w = places_width (header_end rs) rs in
    let few = leb-true (length rs) 32 p.0 in
    record {
      few = omega arith;
      fits = leb-true (day_length rs) 65536 p.1;
      end = omega arith;
      count = number_widths (length xs ∷ []);
      places = omega arith;
    }

pub overflow_cast-runs : goal.overflow_cast-runs
overflow_cast-runs c = let z = sized c.args.runs.now c.in_ok-end.ensures.0 in omega arith

pub put_all-places_at-requires : goal.put_all-places_at-requires
put_all-places_at-requires c =
    let e = c.in_ok-end.ensures in
    let z = sized c.args.runs.now e.0 in
    omega (arith, e.1)

pub put_places-runs_at-requires : goal.put_places-runs_at-requires
put_places-runs_at-requires c =
    let e = c.in_ok-end.ensures in
    let z = sized c.args.runs.now e.0 in
    (z.fits, omega (arith, e.1))

pub put_all-requires : goal.put_all-requires
put_all-requires c =
    let e = c.in_ok-end.ensures in
    let z = sized c.args.runs.now e.0 in
    omega (arith, e.1)

pub returns : goal.returns
returns c =
    let xs = c.args.runs.now in
    let rs = map (λ x. x.now) xs in
    let old = c.args.out.now in
    let e = c.in_ok-end.ensures in
    let z = sized xs e.0 in
    let end = e.1 in
    let count = flat_map number_bytes (length xs ∷ []) in
    let places = flat_map number_bytes (run_places (header_end rs) rs) in
    let two = put_behind old count places c.put_all-places_at.new.out c.put_places-runs_at.new.out 0 c.put_all-places_at.result
    (omega arith) c.put_all-places_at.ensures.put (omega arith) c.put_places-runs_at.ensures.put in
    let l = length-append count places in
    let three = put_behind old (count ++ places) (flat_map (λ x. x.now) xs) c.put_places-runs_at.new.out c.put_all.new.out 0 c.put_places-runs_at.result
    (omega arith) two (omega arith) c.put_all.ensures.put in
    let k = length-append (count ++ places) (flat_map (λ x. x.now) xs) in
    let all : (count ++ places) ++ flat_map (λ x. x.now) xs ≡ day_bytes rs =
    append_assoc count places (flat_map (λ x. x.now) xs) ∙ ap (λ n. flat_map number_bytes (n ∷ []) ++ (places ++ flat_map (λ x. x.now) xs)) (sym (runs_length xs))
    ∙ ap (λ t. flat_map number_bytes (length rs ∷ []) ++ (places ++ t)) (runs_joined xs) in
    let ok = writing_ok (day_writable rs) (day_length rs) (length old) c.put_all.result e.0 (omega arith) (omega arith) in
    record {
      answer = ok;
      out = three ∙ written_front old ((count ++ places) ++ flat_map (λ x. x.now) xs) (omega arith) ∙ ap (λ t. laid_over t old) all
          ∙ ap (λ (r : Result ℕ WriteFault). bytes_after r (day_bytes rs) old) ok;
      refusal = tt;
    }
