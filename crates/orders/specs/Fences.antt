-- Up to four fences, and the fences of a barrier.
use Rattle.std.specs.Prelude.{ℕ, Bool, cond, not, List, [], ◌∷◌, ◌++◌, ◌==◌, bit_and}
use Rattle.crf.specs.Fences.{Row, row_of, star_star}
use Rattle.crf.specs.declared.instruction.FenceKind.{FenceKind}
use Rattle.crf.specs.declared.instruction.FenceKind.TheVariants.{Rr, Rw, Wr, Ww}
use Rattle.orders.specs.declared.fences.Fences.{Fences}
use Rattle.orders.specs.declared.fences.Fences.TheVariants.{Zero, One, Two, Three, Four}

-- the fences in their order, as rows of their spans' ends
abbrev pub rows : Fences → List Row
rows Zero = []
rows (One a) = row_of a ∷ []
rows (Two a b) = row_of a ∷ row_of b ∷ []
rows (Three a b c) = row_of a ∷ row_of b ∷ row_of c ∷ []
rows (Four a b c d) = row_of a ∷ row_of b ∷ row_of c ∷ row_of d ∷ []

-- the mask has the bit
abbrev pub has : ℕ → ℕ → Bool
has m b = not (bit_and m b == 0)

abbrev pub if_has : ℕ → ℕ → FenceKind → List Row
if_has m b k = cond (has m b) (star_star k ∷ []) []

-- the fences of a barrier's mask: rr 1, rw 2, wr 4, ww 8, in that order, all between all addresses
abbrev pub by_mask : ℕ → List Row
by_mask m = ((if_has m 1 Rr ++ if_has m 2 Rw) ++ if_has m 4 Wr) ++ if_has m 8 Ww
