-- Fences, as the ends of their spans.
use Rattle.std.specs.Prelude.{ℕ}
use Rattle.crf.specs.Spans.{low_of, high_of}
use Rattle.crf.specs.declared.instruction.FenceKind.{FenceKind}
use Rattle.crf.specs.declared.instruction.Instruction.{Instruction}
use Rattle.crf.specs.declared.instruction.Instruction.TheVariants as instruction
use Rattle.crf.specs.declared.fence.Fence.{Fence}

-- a fence: its kind, and the ends of its first and second span
pub record Row : Type 0 where
  pub kind : FenceKind
  pub first_low : ℕ
  pub first_high : ℕ
  pub second_low : ℕ
  pub second_high : ℕ

abbrev pub row : FenceKind → ℕ → ℕ → ℕ → ℕ → Row
row k a b c d = record { kind = k; first_low = a; first_high = b; second_low = c; second_high = d }

abbrev pub row_of : Fence → Row
row_of f = row f.kind f.first.low f.first.high f.second.low f.second.high

-- a fence as an instruction
abbrev pub fence_row : {W : Type 0} → Row → Instruction W
fence_row r = instruction.Fence r.kind (record { low = r.first_low; high = r.first_high }) (record { low = r.second_low; high = r.second_high })

-- a fence of kind k between all addresses and a
abbrev pub star_to : FenceKind → ℕ → Row
star_to k a = row k 0 1023 (low_of a a) (high_of a a)

-- between a and all addresses
abbrev pub from_star : FenceKind → ℕ → Row
from_star k a = row k (low_of a a) (high_of a a) 0 1023

-- between a and a
abbrev pub at_at : FenceKind → ℕ → Row
at_at k a = row k (low_of a a) (high_of a a) (low_of a a) (high_of a a)

-- between all addresses and all addresses
abbrev pub star_star : FenceKind → Row
star_star k = row k 0 1023 0 1023
