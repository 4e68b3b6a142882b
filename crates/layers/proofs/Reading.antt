-- Two memories that answer the same, each at an address of its own.
use Rattle.std.proofs.Common.{◌≡◌, ℕ, ◌<◌, List, length, get_or, sym, ◌∙◌}
use Rattle.memory.specs.Meaning.{read_of, write_of}
use Rattle.memory.proofs.Meaning.{read_in, read_some, write_in}

-- where they have one word there, they read alike
pub read_same : {W : Type 0} (ms ns : List W) (a b : ℕ) → a < length ms → b < length ns → ((d : W) → get_or ms a d ≡ get_or ns b d) → read_of ms a ≡ read_of ns b
read_same ms ns a b h i e =
    let x = read_some ms a h in
    sym x.1 ∙ read_in ns b x.0 i (x.2 ∙ e x.0)

-- where both have the address, both take the write
pub write_same : {W : Type 0} (ms ns : List W) (a b : ℕ) → a < length ms → b < length ns → write_of ms a ≡ write_of ns b
write_same ms ns a b h i = sym (write_in ms a h) ∙ write_in ns b i
