-- The ways through an exchange of two words.
use Rattle.std.proofs.Common.{◌≡◌, ℕ, zero, suc, ◌<◌, ◌≤◌, false, ◌&&◌, ltb, List, [], ◌∷◌, length, Ok, Err, sym, ◌∙◌, arith}
use Rattle.std.proofs.lemmas.Bool.{cond-false, and_left, and_right, le-ltb}
use Rattle.memory.specs.declared.fault.MemoryFault.{MemoryFault}
use Rattle.memory.specs.declared.fault.MemoryFault.TheVariants.{NoSuchAddress}
use Rattle.memory.specs.Meaning.{read_of, write_of}
use Rattle.memory.proofs.Meaning.{write_in}
use Rattle.layers.specs.Stacks.{swap_of}

-- a word was read: the address is below the size
read_below : {W : Type 0} (ms : List W) (a : ℕ) (x : W) → Ok x ≡ read_of ms a → a < length ms
read_below [] a x e = let z : ◌≡◌ {A = ℕ} 0 1 = cc in absurd (omega arith)
read_below (w ∷ ws) zero x e = omega arith
read_below (w ∷ ws) (suc a) x e = omega (arith, read_below ws a x e)

refused_past : {W : Type 0} (ms : List W) (a : ℕ) (f : MemoryFault) → Err f ≡ read_of ms a → length ms ≤ a
refused_past [] a f e = omega arith
refused_past (w ∷ ws) zero f e = let z : ◌≡◌ {A = ℕ} 0 1 = cc in absurd (omega arith)
refused_past (w ∷ ws) (suc a) f e = omega (arith, refused_past ws a f e)

-- a refused read of either address refuses the exchange, which changes nothing
refusal : {W : Type 0} (ms : List W) (a b : ℕ) (f : MemoryFault) → (ltb a (length ms) && ltb b (length ms)) ≡ false → Err f ≡ swap_of ms a b
refusal ms a b NoSuchAddress e = sym (cond-false _ _ _ e)

pub first_refused : {W : Type 0} (ms : List W) (a b : ℕ) (f : MemoryFault) → Err f ≡ read_of ms a → Err f ≡ swap_of ms a b
first_refused ms a b f e = refusal ms a b f (and_left _ _ (le-ltb a (length ms) (refused_past ms a f e)))

pub second_refused : {W : Type 0} (ms : List W) (a b : ℕ) (f : MemoryFault) → Err f ≡ read_of ms b → Err f ≡ swap_of ms a b
second_refused ms a b f e = refusal ms a b f (and_right _ _ (le-ltb b (length ms) (refused_past ms b f e)))

-- where a word was read, the write is not refused
pub not_refused : {W : Type 0} (ms : List W) (a : ℕ) (x : W) (f : MemoryFault) → Ok x ≡ read_of ms a → Err f ≡ write_of ms a → ⊥
not_refused ms a x f d e =
    let t : Err f ≡ Ok tt = e ∙ sym (write_in ms a (read_below ms a x d)) in
    let z : ◌≡◌ {A = ℕ} 0 1 = cc in omega arith
