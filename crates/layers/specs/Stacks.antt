-- Two words of a memory exchanged.
use Rattle.std.specs.Prelude.{ℕ, cond, ◌&&◌, List, length, Ok, Err, Result, nat_lt, slice_set}
use Rattle.memory.specs.declared.fault.MemoryFault.{MemoryFault}
use Rattle.memory.specs.declared.fault.MemoryFault.TheVariants.{NoSuchAddress}
use Rattle.memory.specs.Meaning.{read_of}

-- what an exchange answers: a refusal where either address is not below the size
abbrev pub swap_of : {W : Type 0} → List W → ℕ → ℕ → Result (Unit {0}) MemoryFault
swap_of ms a b = cond (nat_lt a (length ms) && nat_lt b (length ms)) (Ok tt) (Err NoSuchAddress)

-- the words after it, by what is read at the two addresses: nothing changes where either read is refused
abbrev pub exchanged : {W : Type 0} → Result W MemoryFault → Result W MemoryFault → List W → ℕ → ℕ → List W
exchanged (Ok x) (Ok y) ms a b = slice_set (slice_set ms a y) b x
exchanged (Ok x) (Err f) ms a b = ms
exchanged (Err f) y ms a b = ms

-- the words after an exchange of the words at a and b
abbrev pub swapped : {W : Type 0} → List W → ℕ → ℕ → List W
swapped ms a b = exchanged (read_of ms a) (read_of ms b) ms a b
