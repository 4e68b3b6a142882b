-- The runs of a day, one behind the other, and their places.
use Rattle.std.proofs.Common.{◌≡◌, ℕ, ◌+◌, ◌*◌, ◌<◌, ◌≤◌, List, [], ◌∷◌, ◌++◌, map, length, get_or, take, sym, refl, ap, ◌∙◌, add-zero, arith, length-append, Bor}
use lib.ListN.{length-map}
use Rattle.std.proofs.lemmas.List.Folds.{flat_map-map, length-flat_map-take}
use Rattle.std.proofs.lemmas.List.{take_more, get_or-map, length-take-le}
use Rattle.std.specs.List.{flat_map}
use Rattle.files.specs.DayWriting.{run_bytes, run_places}
use Rattle.files.specs.Encoding.{number_bytes}
use Rattle.files.proofs.Putting.{number_widths, joined_next}

-- a run that is read past the last one
abbrev pub no_run : Bor (List ℕ)
no_run = record { ref_ptr = (0, 0); now = [] }

pub runs_length : (xs : List (Bor (List ℕ))) → length (map (λ x. x.now) xs) ≡ length xs
runs_length xs = length-map xs (λ x. x.now)

pub run_here : (xs : List (Bor (List ℕ))) (n : ℕ) → n < length xs → (get_or xs n no_run).now ≡ get_or (map (λ x. x.now) xs) n (get_or xs n no_run).now
run_here xs n h = sym (get_or-map (λ x. x.now) xs n no_run (get_or xs n no_run).now h)

pub runs_joined : (xs : List (Bor (List ℕ))) → flat_map (λ x. x.now) xs ≡ run_bytes (map (λ x. x.now) xs)
runs_joined xs = sym (flat_map-map (λ r. r) (λ x. x.now) xs)

-- what run n adds, and the room for it
pub record Next (xs : List (Bor (List ℕ))) (n : ℕ) : Type 0 where
  pub more : length (run_bytes (take (n + 1) (map (λ x. x.now) xs))) ≡ length (run_bytes (take n (map (λ x. x.now) xs))) + length (get_or xs n no_run).now
  pub room : length (run_bytes (take n (map (λ x. x.now) xs))) + length (get_or xs n no_run).now ≤ length (run_bytes (map (λ x. x.now) xs))

pub next_run : (xs : List (Bor (List ℕ))) (n : ℕ) → n < length xs → Next xs n
next_run xs n h =
    let l = runs_length xs in
    let r = (get_or xs n no_run).now in
    record {
      more = ap length (joined_next (λ t. t) (map (λ x. x.now) xs) n r (omega arith) (run_here xs n h)) ∙ length-append (run_bytes (take n (map (λ x. x.now) xs))) r;
      room = rw (run_here xs n h) (length-flat_map-take (λ t. t) (map (λ x. x.now) xs) n r (omega arith));
    }

places_append : (at : ℕ) (xs ys : List (List ℕ)) → run_places at (xs ++ ys) ≡ run_places at xs ++ run_places (at + length (run_bytes xs)) ys
unfolding run_places
places_append at [] ys = ap (λ k. run_places k ys) (sym (add-zero at))
places_append at (x ∷ xs) ys =
    let l : at + length x + length (run_bytes xs) ≡ at + length (x ++ run_bytes xs) = simp length-append (omega arith) in
    ap (λ t. at ∷ length x ∷ t) (places_append (at + length x) xs ys ∙ ap (λ k. run_places (at + length x) xs ++ run_places k ys) l)

-- the place of run n
pub places_next : (at : ℕ) (rs : List (List ℕ)) (n : ℕ) (r : List ℕ) → n < length rs → r ≡ get_or rs n r
    → run_places at (take (n + 1) rs) ≡ run_places at (take n rs) ++ ((at + length (run_bytes (take n rs))) ∷ (length r ∷ []))
unfolding run_places
places_next at rs n r h e =
    ap (run_places at) (take_more rs n r h) ∙ places_append at (take n rs) (get_or rs n r ∷ [])
    ∙ ap (λ t. run_places at (take n rs) ++ ((at + length (run_bytes (take n rs))) ∷ (length t ∷ []))) (sym e)

pub places_length : (at : ℕ) (rs : List (List ℕ)) → length (run_places at rs) ≡ 2 * length rs
unfolding run_places
places_length at [] = refl
places_length at (r ∷ rs) = let l = places_length (at + length r) rs in omega arith

-- eight bytes a run
pub places_width : (at : ℕ) (rs : List (List ℕ)) → length (flat_map number_bytes (run_places at rs)) ≡ 8 * length rs
places_width at rs =
    let w = number_widths (run_places at rs) in
    let l = places_length at rs in
    omega arith

pub front_width : (at : ℕ) (rs : List (List ℕ)) (n : ℕ) → n ≤ length rs → length (flat_map number_bytes (run_places at (take n rs))) ≡ 8 * n
front_width at rs n h =
    let w = places_width at (take n rs) in
    let l = length-take-le n rs h in
    omega arith
