-- The address of an instruction.
use Rattle.std.specs.Prelude.{ℕ, Some, None, Option}
use Rattle.crf.specs.declared.instruction.Instruction.{Instruction}
use Rattle.crf.specs.declared.instruction.Instruction.TheVariants.{Loadl, Storel, Commit, Reconcile, Fence}

-- the address that an instruction names; a fence names none
abbrev pub address_named : {W : Type 0} → Instruction W → Option ℕ
address_named (Loadl a) = Some a
address_named (Storel a w) = Some a
address_named (Commit a) = Some a
address_named (Reconcile a) = Some a
address_named (Fence k f s) = None
