-- Laws of what reading and writing answer.
use Rattle.std.proofs.Common.{◌≡◌, ℕ, zero, suc, ◌<◌, ◌≤◌, List, [], ◌∷◌, length, get_or, Ok, Err, Result, IsErr, refl, ap, le_of_suc-le-suc, not-suc-le-zero, arith}
use Rattle.std.proofs.lemmas.Bool.Decides.{nat_tests}
use Rattle.memory.specs.declared.fault.MemoryFault.{MemoryFault}
use Rattle.memory.specs.declared.fault.MemoryFault.TheVariants.{NoSuchAddress}
use Rattle.memory.specs.Meaning.{read_of, write_of}

-- below the size, the word there
pub read_in : {W : Type 0} (ws : List W) (a : ℕ) (x : W) → a < length ws → x ≡ get_or ws a x → Ok x ≡ read_of ws a
read_in [] a x h e = absurd (not-suc-le-zero h)
read_in (w ∷ ws) zero x h e = ap Ok e
read_in (w ∷ ws) (suc a) x h e = read_in ws a x (le_of_suc-le-suc h) e

-- else the refusal
pub read_out : {W : Type 0} (ws : List W) (a : ℕ) → length ws ≤ a → Err NoSuchAddress ≡ read_of ws a
read_out [] a h = refl
read_out (w ∷ ws) zero h = absurd (not-suc-le-zero h)
read_out (w ∷ ws) (suc a) h = read_out ws a (le_of_suc-le-suc h)

-- the same for a refusal that was handed on
pub read_refused : {W : Type 0} (ws : List W) (a : ℕ) (r : Result W MemoryFault) → length ws ≤ a → IsErr r → r ≡ read_of ws a
read_refused ws a (Ok x) h e = cc
read_refused ws a (Err NoSuchAddress) h e = read_out ws a h

-- what there is to read below the size
pub read_some : {W : Type 0} (ws : List W) (a : ℕ) → a < length ws → (x : W) × (Ok x ≡ read_of ws a) × (x ≡ get_or ws a x)
read_some [] a h = absurd (not-suc-le-zero h)
read_some (w ∷ ws) zero h = (w, refl, refl)
read_some (w ∷ ws) (suc a) h = read_some ws a (le_of_suc-le-suc h)

pub write_in : {W : Type 0} (ws : List W) (a : ℕ) → a < length ws → Ok tt ≡ write_of ws a
write_in ws a h = grind (arith, nat_tests)

pub write_out : {W : Type 0} (ws : List W) (a : ℕ) → length ws ≤ a → Err NoSuchAddress ≡ write_of ws a
write_out ws a h = grind (arith, nat_tests)

pub ruleset answers = (read_in, read_out, read_refused, write_in, write_out)
