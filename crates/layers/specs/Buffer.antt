-- What a write buffer means, and where a write to it goes.
use Rattle.std.specs.Prelude.{◌≡◌, ℕ, ◌≤◌, cond, List, length, Some, None, Option, ◌==◌, nat_lt, slice_set, refl}
use Rattle.std.proofs.Common.{arith}
use Rattle.std.proofs.lemmas.List.{length-set}
use Rattle.layers.specs.declared.held.HeldWord.{HeldWord}

-- the words below, with the held word counted
abbrev pub with_held : {W : Type 0} → Option (HeldWord W) → List W → List W
with_held None ms = ms
with_held (Some held) ms = slice_set ms held.address held.word

-- the word that is held for an address, if any
abbrev pub held_at : {W : Type 0} → Option (HeldWord W) → ℕ → Option W
held_at None a = None
held_at (Some held) a = cond (held.address == a) (Some held.word) None

-- the words below once a write at address a has come: a word held for another address is written there
abbrev pub sent_down : {W : Type 0} → Option (HeldWord W) → List W → ℕ → List W
sent_down None ms a = ms
sent_down (Some held) ms a = cond (held.address == a) ms (slice_set ms held.address held.word)

-- the words below, and what is held, after a write; an address that is not below the size changes neither
abbrev pub below_written : {W : Type 0} → Option (HeldWord W) → List W → ℕ → List W
below_written h ms a = cond (nat_lt a (length ms)) (sent_down h ms a) ms

abbrev pub held_written : {W : Type 0} → Option (HeldWord W) → List W → ℕ → W → Option (HeldWord W)
held_written h ms a w = cond (nat_lt a (length ms)) (Some (record { address = a; word = w })) h

pub length-with_held : {W : Type 0} (h : Option (HeldWord W)) (ms : List W) → length (with_held h ms) ≡ length ms
length-with_held None ms = refl
length-with_held (Some held) ms = length-set ms held.address held.word

pub with_held_bounded : {W : Type 0} (h : Option (HeldWord W)) (ms : List W) → length ms ≤ 65536 → length (with_held h ms) ≤ 65536
with_held_bounded h ms l = omega (arith, length-with_held h ms)
