-- The refusal of a memory.
use Rattle.std.specs.Prelude.{ℕ}
use Rattle.memory.specs.declared.fault.MemoryFault.{MemoryFault}
use Rattle.memory.specs.declared.fault.MemoryFault.TheVariants.{NoSuchAddress}

-- the number of each refusal of a memory
abbrev pub memory_fault_number : MemoryFault → ℕ
memory_fault_number NoSuchAddress = 17
