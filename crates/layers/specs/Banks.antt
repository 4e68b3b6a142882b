-- What two banks show together, and what a write leaves in each.
use Rattle.std.specs.Prelude.{ℕ, ◌/◌, ◌%◌, ◌≤◌, cond, ◌&&◌, List, [], ◌∷◌, length, ◌==◌, nat_lt, slice_set}
use Rattle.memory.specs.Meaning.{shown}
use Rattle.memory.specs.Shown.{shown_bounded}

-- the words of two lists in turn, as long as both have one
unfoldable pub in_turn : {W : Type 0} → List W → List W → List W
in_turn [] os = []
in_turn (e ∷ es) [] = []
in_turn (e ∷ es) (o ∷ os) = e ∷ o ∷ in_turn es os

-- even addresses in the first, odd ones in the second, and no more than a memory shows
unfoldable pub banks_of : {W : Type 0} → List W → List W → List W
banks_of es os = shown (in_turn es os)

-- the words of a bank after a write at address a of the banks; its addresses there are those with the rest r at division by two
abbrev pub bank_written : {W : Type 0} → ℕ → List W → List W → ℕ → W → List W
bank_written r all bank a w = cond (nat_lt a (length all) && a % 2 == r) (slice_set bank (a / 2) w) bank

pub banks_of_bounded : {W : Type 0} (es os : List W) → length (banks_of es os) ≤ 65536
unfolding banks_of
banks_of_bounded es os = shown_bounded (in_turn es os)
