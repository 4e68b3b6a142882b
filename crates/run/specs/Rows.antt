-- Rows of the tables.
use Rattle.std.specs.Prelude.{ℕ, ◌+◌, ◌-◌, min, true, false, List, [], ◌∷◌, ◌++◌, drop, replicate, slice_set}
use Rattle.crf.specs.declared.instruction.Instruction.{Instruction}
use Rattle.crf.specs.declared.instruction.Instruction.TheVariants.{Commit}
use Rattle.run.specs.declared.rows.Cell.{Cell}
use Rattle.run.specs.declared.rows.Cell.TheVariants.{Absent}
use Rattle.run.specs.declared.rows.CodeRow.{CodeRow}
use Rattle.run.specs.declared.rows.CardRecord.{CardRecord}

-- what is read past a table's end
abbrev pub no_card : CardRecord
no_card = record { entries = 0; length = 0; pending = 0 }

abbrev pub no_row : {W : Type 0} → CodeRow W
no_row = record { instruction = Commit 0; entry = 0; performed = true }

abbrev pub no_cell : {W : Type 0} → Cell W
no_cell = Absent

-- a pending instruction of an entry
abbrev pub pending_row : {W : Type 0} → ℕ → Instruction W → CodeRow W
pending_row n i = record { instruction = i; entry = n; performed = false }

abbrev pub pending_rows : {W : Type 0} → ℕ → List (Instruction W) → List (CodeRow W)
pending_rows n [] = []
pending_rows n (i ∷ is) = pending_row n i ∷ pending_rows n is

-- the first n rows are `row`, and the others are as they were
abbrev pub filled : {X : Type 0} → ℕ → X → List X → List X
filled n row rows = replicate n row ++ drop n rows

-- the rows put one after the other from a place on, and the others as they were
abbrev pub laid : {X : Type 0} → List X → ℕ → List X → List X
laid xs at [] = xs
laid xs at (r ∷ rs) = laid (slice_set xs at r) (at + 1) rs

-- one pending instruction fewer
abbrev pub spent : CardRecord → CardRecord
spent c = record { entries = c.entries; length = c.length; pending = c.pending - 1 }

-- more entries and instructions; what is past the bounds counts as the bound
abbrev pub grown : CardRecord → ℕ → ℕ → CardRecord
grown c entries n = record { entries = min c.entries 64 + entries; length = min c.length 256 + n; pending = min c.pending 256 + n }
