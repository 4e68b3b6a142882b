-- Reads and writes of a window, from those below.
use Rattle.std.proofs.Common.{◌≡◌, ℕ, ◌+◌, ◌<◌, List, length, get_or, take, drop, set, sym, ap, ◌∙◌, arith}
use Rattle.std.proofs.lemmas.List.{get_or-take, get_or-drop, drop-set-add}
use Rattle.memory.specs.Meaning.{read_of, write_of}
use Rattle.memory.specs.Shown.{take-set_any}
use Rattle.layers.specs.Window.{window_of, length-window_of}
use Rattle.layers.proofs.Reading.{read_same, write_same}

window_of_get : {W : Type 0} (f n : ℕ) (ms : List W) (a : ℕ) (d : W) → a < length (window_of f n ms) → get_or ms (f + a) d ≡ get_or (window_of f n ms) a d
unfolding window_of
window_of_get f n ms a d h = sym (get_or-take n (drop f ms) a d (omega (arith, length-window_of f n ms)) ∙ get_or-drop f ms a d)

pub window_inside : {W : Type 0} (f n : ℕ) (ms : List W) (a : ℕ) → a < length (window_of f n ms) → f + a < length ms
window_inside f n ms a h = omega (arith, length-window_of f n ms)

pub window_read : {W : Type 0} (f n : ℕ) (ms : List W) (a : ℕ) → a < length (window_of f n ms) → read_of ms (f + a) ≡ read_of (window_of f n ms) a
window_read f n ms a h = read_same ms (window_of f n ms) (f + a) a (window_inside f n ms a h) h (λ d. window_of_get f n ms a d h)

pub window_answer : {W : Type 0} (f n : ℕ) (ms : List W) (a : ℕ) → a < length (window_of f n ms) → write_of ms (f + a) ≡ write_of (window_of f n ms) a
window_answer f n ms a h = write_same ms (window_of f n ms) (f + a) a (window_inside f n ms a h) h

pub window_write : {W : Type 0} (f n : ℕ) (ms : List W) (a : ℕ) (w : W) → window_of f n (set ms (f + a) w) ≡ set (window_of f n ms) a w
unfolding window_of
window_write f n ms a w = ap (take n) (drop-set-add f ms a w) ∙ take-set_any n (drop f ms) a w
