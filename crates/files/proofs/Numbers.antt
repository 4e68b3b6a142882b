-- Numbers in a part of a file.
use Rattle.std.proofs.Common.{◌≡◌, ℕ, suc, ◌+◌, ◌-◌, ◌<◌, ◌≤◌, List, [], ◌∷◌, length, get_or, take, drop, sym, refl, ap, ◌∙◌, arith, length-drop}
use Rattle.std.proofs.lemmas.List.{take_rest, drop_more}
use Rattle.memory.specs.Bytes.{number_at, words_of}
use Rattle.memory.proofs.Bytes.{length-words_of}
use Rattle.files.specs.Recording.{number_after}

-- the same in `&bytes[k..]`
pub number_rest : (bs : List ℕ) (k i : ℕ) → number_at (take (length bs - k) (drop k bs)) i ≡ number_at bs (k + i)
number_rest bs k i = ap (λ xs. number_at xs i) (take_rest bs k) ∙ number_after bs k i

-- the words of some bytes are the first number, and those behind its four bytes
word_first : (bs : List ℕ) → 4 ≤ length bs → words_of bs ≡ number_at bs 0 ∷ words_of (drop 4 bs)
unfolding words_of number_at
word_first [] h = absurd (omega arith)
word_first (a ∷ []) h = absurd (omega arith)
word_first (a ∷ b ∷ []) h = absurd (omega arith)
word_first (a ∷ b ∷ c ∷ []) h = absurd (omega arith)
word_first (a ∷ b ∷ c ∷ d ∷ rest) h = refl

-- one word more of those that stand behind the first i
pub record WordHere (bs rest : List ℕ) (i : ℕ) : Type 0 where
  pub there : i < length (words_of bs)
  pub word : number_at rest 0 ≡ get_or (words_of bs) i (number_at rest 0)
  pub behind : words_of (drop 4 rest) ≡ drop (i + 1) (words_of bs)

pub word_here : (bs rest : List ℕ) (i : ℕ) → 4 ≤ length rest → words_of rest ≡ drop i (words_of bs) → WordHere bs rest i
word_here bs rest i h e =
    let f = word_first rest h in
    let n : suc (length (words_of (drop 4 rest))) ≡ length (words_of bs) - i = sym (ap length f) ∙ ap length e ∙ length-drop i (words_of bs) in
    let there : i < length (words_of bs) = omega arith in
    let m = sym f ∙ e ∙ drop_more (words_of bs) i (number_at rest 0) there in
    record { there = there; word = cc; behind = cc }

-- fewer than four bytes have no word
pub words_end : (bs rest : List ℕ) (i : ℕ) → length rest < 4 → words_of rest ≡ drop i (words_of bs) → length (words_of bs) ≤ i
words_end bs rest i h e =
    let l = ap length e ∙ length-drop i (words_of bs) in
    let n = length-words_of rest in
    omega arith
