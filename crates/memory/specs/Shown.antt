-- Laws of the words that a memory shows.
use Rattle.std.specs.Prelude.{◌≡◌, ℕ, zero, suc, ◌<◌, ◌≤◌, min, List, [], ◌∷◌, length, take, nat_lt, slice_index_or, slice_set, refl}
use Rattle.std.proofs.Common.{sym, ap, ◌∙◌, arith, length-take}
use Rattle.std.proofs.lemmas.Bool.{cond_both, cond-true, ltb-true, lt-ltb}
use Rattle.std.proofs.lemmas.List.{get_or-take, take_all, set_past}
use Rattle.memory.specs.Meaning.{shown, rows_written}

-- a front keeps a write inside it, and a write past it does not show
pub take-set_any : {A : Type 0} (n : ℕ) (l : List A) (i : ℕ) (a : A) → take n (slice_set l i a) ≡ slice_set (take n l) i a
take-set_any zero l i a = refl
take-set_any (suc n) [] i a = refl
take-set_any (suc n) (x ∷ xs) zero a = refl
take-set_any (suc n) (x ∷ xs) (suc i) a = ap (λ r. x ∷ r) (take-set_any n xs i a)

pub shown-length : {W : Type 0} (ws : List W) → length (shown ws) ≡ min (length ws) 65536
unfolding shown
shown-length ws = length-take 65536 ws ∙ omega arith

pub shown_bounded : {W : Type 0} (ws : List W) → length (shown ws) ≤ 65536
shown_bounded ws = omega (arith, shown-length ws)

pub shown_read : {W : Type 0} (ws : List W) (i : ℕ) (d : W) → i < length (shown ws) → slice_index_or (shown ws) i d ≡ slice_index_or ws i d
unfolding shown
shown_read ws i d h = get_or-take 65536 ws i d (omega (arith, shown-length ws))

pub shown_write : {W : Type 0} (ws : List W) (i : ℕ) (a : W) → shown (slice_set ws i a) ≡ slice_set (shown ws) i a
unfolding shown
shown_write ws i a = take-set_any 65536 ws i a

-- a write past what is shown does not show
pub shown_past : {W : Type 0} (ws : List W) (i : ℕ) (a : W) → length (shown ws) ≤ i → shown ws ≡ slice_set (shown ws) i a
shown_past ws i a h = sym (set_past (shown ws) i a h)

pub shown_all : {W : Type 0} (ws : List W) → length ws ≤ 65536 → shown ws ≡ ws
unfolding shown
shown_all ws h = take_all 65536 ws h

-- the whole table after a write that is shown, and after one that is refused
pub rows_in : {W : Type 0} (ws : List W) (i : ℕ) (a : W) → i < length (shown ws) → slice_set ws i a ≡ rows_written ws i a
rows_in ws i a h = sym (cond-true (nat_lt i 65536) (slice_set ws i a) ws (lt-ltb i 65536 (omega (arith, shown-length ws))))

rows_by : {W : Type 0} (ws : List W) (i : ℕ) (a : W) (p : i < 65536 → length ws ≤ i) → ws ≡ rows_written ws i a
rows_by ws i a p = cond_both (nat_lt i 65536) (slice_set ws i a) ws (λ r. ws ≡ r) (λ t. sym (set_past ws i a (p (ltb-true i 65536 t)))) (λ f. refl)

pub rows_out : {W : Type 0} (ws : List W) (i : ℕ) (a : W) → length (shown ws) ≤ i → ws ≡ rows_written ws i a
rows_out ws i a h = rows_by ws i a (λ l. omega (arith, shown-length ws))

pub ruleset shows = (shown-length, shown_bounded, shown_read, shown_write, shown_past, rows_in, rows_out)
