-- Reads and writes of a write buffer, from those below.
use Rattle.std.proofs.Common.{◌≡◌, ℕ, ◌<◌, eqb, List, length, get_or, set, Option, Some, None, Ok, sym, refl, ap, ◌∙◌, inl, inr, arith}
use Rattle.std.proofs.lemmas.List.{length-set, get_or-set_same, get_or-set_other, set-set}
use Rattle.std.proofs.lemmas.Bool.{cond-true, cond-false, cond_both, cases_Bool, eqb-true, eqb-false}
use Rattle.memory.specs.Meaning.{read_of}
use Rattle.memory.proofs.Meaning.{read_in}
use Rattle.layers.specs.declared.held.HeldWord.{HeldWord}
use Rattle.layers.specs.Buffer.{with_held, held_at, sent_down}
use Rattle.layers.proofs.Reading.{read_same}

-- a held word is read at its address, and the words below elsewhere
pub held_read : {W : Type 0} (h : Option (HeldWord W)) (ms : List W) (a : ℕ) (w : W) → Some w ≡ held_at h a → a < length (with_held h ms) → Ok w ≡ read_of (with_held h ms) a
held_read None ms a w e l = let z : ◌≡◌ {A = ℕ} 0 1 = cc in absurd (omega arith)
held_read (Some held) ms a w e l =
    let b = held.address in
    let x = held.word in
    elim (cases_Bool (eqb b a)) [
      | inl t ↦
          let i : b ≡ a = eqb-true b a t in
          let k : Some w ≡ Some x = e ∙ cond-true (eqb b a) (Some x) None t in
          let n : w ≡ x = cc in
          let m = get_or-set_same ms a x w (omega (arith, length-set ms b x)) in
          read_in (set ms b x) a w l (n ∙ sym m ∙ ap (λ q. get_or (set ms q x) a w) (sym i))
      | inr f ↦
          let k : Some w ≡ None = e ∙ cond-false (eqb b a) (Some x) None f in
          let z : ◌≡◌ {A = ℕ} 0 1 = cc in absurd (omega arith)
    ]

pub other_read : {W : Type 0} (h : Option (HeldWord W)) (ms : List W) (a : ℕ) → None ≡ held_at h a → a < length (with_held h ms) → read_of ms a ≡ read_of (with_held h ms) a
other_read None ms a e l = refl
other_read (Some held) ms a e l =
    let b = held.address in
    let x = held.word in
    elim (cases_Bool (eqb b a)) [
      | inl t ↦
          let k : None ≡ Some x = e ∙ cond-true (eqb b a) (Some x) None t in
          let z : ◌≡◌ {A = ℕ} 0 1 = cc in absurd (omega arith)
      | inr f ↦
          read_same ms (set ms b x) a a (omega (arith, length-set ms b x)) l
          (λ d. sym (get_or-set_other ms b a x d (λ i. eqb-false b a f (sym i))))
    ]

-- the word written now stands over whatever was held
pub over_held : {W : Type 0} (h : Option (HeldWord W)) (ms : List W) (a : ℕ) (w : W) → set (sent_down h ms a) a w ≡ set (with_held h ms) a w
over_held None ms a w = refl
over_held (Some held) ms a w =
    let b = held.address in
    let x = held.word in
    cond_both (eqb b a) ms (set ms b x) (λ t. set t a w ≡ set (set ms b x) a w)
    (λ e. sym (ap (λ k. set (set ms k x) a w) (eqb-true b a e) ∙ set-set ms a x w))
    (λ e. refl)
