-- Rows laid over a table, one after the other.
use Rattle.std.proofs.Common.{◌≡◌, ℕ, zero, suc, ◌+◌, ◌<◌, ◌≤◌, min, List, [], ◌∷◌, length, get_or, take, set, Ok, Result, sym, refl, ap, ◌∙◌, add-one, arith}
use Rattle.memory.specs.declared.fault.MemoryFault.{MemoryFault}
use Rattle.memory.specs.Meaning.{read_of}
use Rattle.memory.specs.Tables.{laid_over}
use Rattle.memory.proofs.Meaning.{read_some}

laid_nothing : {A : Type 0} (old : List A) → laid_over [] old ≡ old
laid_nothing [] = refl
laid_nothing (y ∷ ys) = refl

laid_nowhere : {A : Type 0} (new : List A) → laid_over new [] ≡ []
laid_nowhere [] = refl
laid_nowhere (x ∷ xs) = refl

-- before the first row
pub laid_none : {A : Type 0} (new old : List A) → old ≡ laid_over (take 0 new) old
laid_none new old = sym (laid_nothing old)

-- one row more
laid-suc : {A : Type 0} (new old : List A) (i : ℕ) (x : A) → i < length new → i < length old → x ≡ get_or new i x
    → set (laid_over (take i new) old) i x ≡ laid_over (take (suc i) new) old
laid-suc [] old i x h l e = absurd (omega arith)
laid-suc (y ∷ ys) [] i x h l e = absurd (omega arith)
laid-suc (y ∷ ys) (z ∷ zs) zero x h l e = ap (λ a. a ∷ zs) e ∙ ap (λ rows. y ∷ rows) (sym (laid_nothing zs))
laid-suc (y ∷ ys) (z ∷ zs) (suc i) x h l e = ap (λ rows. y ∷ rows) (laid-suc ys zs i x (omega arith) (omega arith) e)

pub laid_more : {A : Type 0} (new old : List A) (i : ℕ) (x : A) → i < length new → i < length old → x ≡ get_or new i x
    → set (laid_over (take i new) old) i x ≡ laid_over (take (i + 1) new) old
laid_more new old i x h l e = rw add-one (laid-suc new old i x h l e)

-- after the last row that both have room for
pub laid_all : {A : Type 0} (new old : List A) (i : ℕ) → min (length old) (length new) ≤ i → laid_over (take i new) old ≡ laid_over new old
laid_all [] old zero h = refl
laid_all [] old (suc i) h = refl
laid_all (x ∷ xs) [] i h = laid_nowhere (take i (x ∷ xs))
laid_all (x ∷ xs) (y ∷ ys) zero h = absurd (omega arith)
laid_all (x ∷ xs) (y ∷ ys) (suc i) h = ap (λ rows. x ∷ rows) (laid_all xs ys i (omega arith))

-- one word of a memory more
pub copied_more : {W : Type 0} (ms old rows after : List W) (a : ℕ) (r : Result W MemoryFault) (x : W) → a < length ms → a < length old
    → r ≡ read_of ms a → r ≡ Ok x → rows ≡ laid_over (take a ms) old → after ≡ set rows a x → after ≡ laid_over (take (a + 1) ms) old
copied_more {W} ms old rows after a r x h l m n e f =
    let y = read_some ms a h in
    let s : Ok x ≡ Ok y.0 = sym n ∙ m ∙ sym y.1 in
    let t : x ≡ get_or ms a x = cc in
    f ∙ ap (λ (t : List W). set t a x) e ∙ laid_more ms old a x h l t

-- below the size a read is not refused
pub not_refused : {W : Type 0} (ms : List W) (a : ℕ) (r : Result W MemoryFault) → a < length ms → r ≡ read_of ms a → ((x : W) → r ≡ Ok x → ⊥) → ⊥
not_refused ms a r h m n = let y = read_some ms a h in n y.0 (m ∙ sym y.1)
