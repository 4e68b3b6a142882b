-- The initial words of a run file as the run's memory.
use Rattle.std.proofs.Common.{◌≡◌, ℕ, ◌*◌, ◌≤◌, List, [], ◌∷◌, length, refl, ap, ◌∙◌, arith}
use Rattle.memory.specs.Bytes.{words_of}
use Rattle.memory.specs.Meaning.{shown}
use Rattle.memory.specs.Shown.{shown_all}
use Rattle.memory.specs.Tables.{laid_over}
use Rattle.memory.proofs.Bytes.{length-words_of}

laid_same : (new old : List ℕ) → length new ≡ length old → laid_over new old ≡ new
laid_same [] [] e = refl
laid_same [] (y ∷ ys) e = absurd (omega arith)
laid_same (x ∷ xs) [] e = absurd (omega arith)
laid_same (x ∷ xs) (y ∷ ys) e = ap (λ rows. x ∷ rows) (laid_same xs ys (omega arith))

module _ (section own : List ℕ) (size : ℕ) (o : length own ≡ size) (s : length section ≡ 4 * size) (b : size ≤ 1024) where
  pub initial_length : length (words_of section) ≡ size
  initial_length = omega (arith, length-words_of section)

  pub initial_words : (table : List ℕ) → table ≡ laid_over (words_of section) own → shown table ≡ words_of section
  initial_words table e =
      let l = initial_length in
      ap shown (e ∙ laid_same (words_of section) own (omega arith)) ∙ shown_all (words_of section) (omega arith)
