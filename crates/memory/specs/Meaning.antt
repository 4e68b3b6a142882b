-- What reading and writing answer, by the list of words that a memory means.
use Rattle.std.specs.Prelude.{ℕ, zero, suc, cond, List, [], ◌∷◌, length, take, Ok, Err, Result, nat_lt, slice_set}
use Rattle.memory.specs.declared.fault.MemoryFault.{MemoryFault}
use Rattle.memory.specs.declared.fault.MemoryFault.TheVariants.{NoSuchAddress}

-- the word at an address, or the refusal where the address is not below the size
abbrev pub read_of : {W : Type 0} → List W → ℕ → Result W MemoryFault
read_of [] a = Err NoSuchAddress
read_of (w ∷ ws) zero = Ok w
read_of (w ∷ ws) (suc a) = read_of ws a

-- what a write at an address answers; the words are then `slice_set ws a w`, which changes nothing where the address is not below the size
abbrev pub write_of : {W : Type 0} → List W → ℕ → Result (Unit {0}) MemoryFault
write_of ws a = cond (nat_lt a (length ws)) (Ok tt) (Err NoSuchAddress)

-- the words of a table that a memory shows: the first 65,536
unfoldable pub shown : {W : Type 0} → List W → List W
shown ws = take 65536 ws

-- a table of words after a write: rows past the 65,536 shown never change
abbrev pub rows_written : {W : Type 0} → List W → ℕ → W → List W
rows_written ws a w = cond (nat_lt a 65536) (slice_set ws a w) ws
