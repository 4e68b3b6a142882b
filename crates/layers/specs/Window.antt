-- What a window shows, and what a write to it leaves below.
use Rattle.std.specs.Prelude.{◌≡◌, ℕ, ◌+◌, ◌-◌, ◌≤◌, min, cond, List, length, take, drop, nat_lt, slice_set}
use Rattle.std.proofs.Common.{arith, length-take, length-drop}

-- the n words from address f on, as far as there are any
unfoldable pub window_of : {W : Type 0} → ℕ → ℕ → List W → List W
window_of f n ms = take n (drop f ms)

-- the words below after a write at address a of the window: no other word of them changes
abbrev pub window_written : {W : Type 0} → ℕ → ℕ → List W → ℕ → W → List W
window_written f n ms a w = cond (nat_lt a (length (window_of f n ms))) (slice_set ms (f + a) w) ms

pub length-window_of : {W : Type 0} (f n : ℕ) (ms : List W) → length (window_of f n ms) ≡ min n (length ms - f)
unfolding window_of
length-window_of f n ms = simp (length-take, length-drop)

pub window_of_bounded : {W : Type 0} (f n : ℕ) (ms : List W) → length ms ≤ 65536 → length (window_of f n ms) ≤ 65536
window_of_bounded f n ms h = omega (arith, length-window_of f n ms)
