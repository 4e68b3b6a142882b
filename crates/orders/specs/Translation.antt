-- The translation of entries into instructions.
use Rattle.std.specs.Prelude.{◌≡◌, ℕ, Bool, true, false, List, [], ◌∷◌, ◌++◌, drop, map, Ok, Err, Result}
use Rattle.crf.specs.Fences.{Row, fence_row}
use Rattle.crf.specs.declared.instruction.Instruction.{Instruction}
use Rattle.crf.specs.declared.instruction.Instruction.TheVariants.{Loadl, Storel, Commit, Reconcile}
use Rattle.orders.specs.Fences.{rows}
use Rattle.orders.specs.declared.entries.Op.TheVariants.{Load as LoadOp, Store as StoreOp}
use Rattle.orders.specs.declared.entries.Entry.{Entry}
use Rattle.orders.specs.declared.entries.Entry.TheVariants.{Load as LoadEntry, Store as StoreEntry, Barrier as BarrierEntry}
use Rattle.orders.specs.declared.entries.Shape.{Shape}
use Rattle.orders.specs.declared.entries.Shape.TheVariants.{Access as AccessOf, Barrier}
use Rattle.orders.specs.declared.translation.Translation.{Translation}
use Rattle.orders.specs.declared.translation.Instructions.{Instructions}
use Rattle.orders.specs.declared.translation.TranslationFault.{TranslationFault}
use Rattle.orders.specs.declared.translation.TranslationFault.TheVariants.{NotTaken}

-- an entry without its word
abbrev pub shape_of : {W : Type 0} → Entry W → Shape
shape_of (LoadEntry m a) = AccessOf (record { op = LoadOp; mark = m; address = a })
shape_of (StoreEntry m a w) = AccessOf (record { op = StoreOp; mark = m; address = a })
shape_of (BarrierEntry m) = Barrier m

-- the instructions of an entry itself
abbrev pub core : {W : Type 0} → Entry W → List (Instruction W)
core (LoadEntry m a) = Reconcile a ∷ Loadl a ∷ []
core (StoreEntry m a w) = Storel a w ∷ Commit a ∷ []
core (BarrierEntry m) = []

-- an entry's instructions, under an order that sets these fences before it and after it
abbrev pub translated : {W : Type 0} → (Shape → List Row) → (Shape → List Row) → Entry W → List (Instruction W)
translated before after e = map fence_row (before (shape_of e)) ++ (core e ++ map fence_row (after (shape_of e)))

-- the instructions that a translation holds
abbrev pub instructions : {W : Type 0} → Translation W → List (Instruction W)
instructions t = map fence_row (rows t.before) ++ (core t.entry ++ map fence_row (rows t.after))

-- the instructions that are left to hand out
abbrev pub left : {W : Type 0} → Instructions W → List (Instruction W)
left s = drop s.at (instructions s.translation.now)

-- the number of each refusal
abbrev pub translation_fault_number : TranslationFault → ℕ
translation_fault_number NotTaken = 4

-- translating: the entry's instructions if the order takes it, else the refusal
abbrev pub Translates : {W : Type 0} → Bool → List (Instruction W) → Result (Translation W) TranslationFault → Type 0
Translates taken is (Ok t) = (taken ≡ true) × (instructions t ≡ is)
Translates taken is (Err f) = (taken ≡ false) × (translation_fault_number f ≡ 4)
