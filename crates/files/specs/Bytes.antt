-- Parts of a file.
use Rattle.std.specs.Prelude.{ℕ, List, take, drop}

-- the `len` bytes from byte `offset` on, or as many as there are
abbrev pub part : List ℕ → ℕ → ℕ → List ℕ
part bs offset len = take len (drop offset bs)
