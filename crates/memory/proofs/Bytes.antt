-- Laws of words of four bytes.
use Rattle.std.proofs.Common.{◌≡◌, ℕ, zero, suc, ◌+◌, ◌*◌, ◌/◌, ◌%◌, ◌-◌, ◌<◌, ◌≤◌, ◌&&◌, min, ltb, List, [], ◌∷◌, length, get_or, take, drop, set, Ok, length-drop, sym, refl, ap, ◌∙◌, mod-eq_of_lt, arith}
use native.Mathlib.Nat.{div-div-eq-div-mul, mod-add-div'}
use Rattle.std.proofs.lemmas.Bool.{and_from, and_parts, cond_both, cond-true, ltb-true, lt-ltb}
use Rattle.std.proofs.lemmas.List.{take_all, get_or-drop, get_or_past}
use Rattle.memory.specs.Bytes.{four_bytes, number_at, words_of, four_put, word_put, bytes_written}
use borrow.Rule.Slice.PartMut.{put_mid}
use Rattle.std.specs.Int.{w32, to_le_bytes}
use Rattle.memory.specs.Meaning.{shown, read_of}
use Rattle.memory.specs.Shown.{shown-length, shown_read}
use Rattle.memory.proofs.Meaning.{read_in}

-- four times i, in a shape that computes along a list
abbrev quad : ℕ → ℕ
quad zero = zero
quad (suc i) = suc (suc (suc (suc (quad i))))

quad_is : (i : ℕ) → quad i ≡ 4 * i
quad_is zero = refl
quad_is (suc i) = omega (arith, quad_is i)

pub length-words_of : (bs : List ℕ) → length (words_of bs) ≡ length bs / 4
unfolding words_of
length-words_of [] = refl
length-words_of (a ∷ []) = refl
length-words_of (a ∷ b ∷ []) = refl
length-words_of (a ∷ b ∷ c ∷ []) = refl
length-words_of (a ∷ b ∷ c ∷ d ∷ rest) = omega (arith, length-words_of rest)

words_of_read : (bs : List ℕ) (i d : ℕ) → i < length bs / 4 → get_or (words_of bs) i d ≡ four_bytes (get_or bs (quad i) 0) (get_or bs (suc (quad i)) 0) (get_or bs (suc (suc (quad i))) 0) (get_or bs (suc (suc (suc (quad i)))) 0)
unfolding words_of
words_of_read [] i e h = absurd (omega arith)
words_of_read (a ∷ []) i e h = absurd (omega arith)
words_of_read (a ∷ b ∷ []) i e h = absurd (omega arith)
words_of_read (a ∷ b ∷ c ∷ []) i e h = absurd (omega arith)
words_of_read (a ∷ b ∷ c ∷ d ∷ rest) zero e h = refl
words_of_read (a ∷ b ∷ c ∷ d ∷ rest) (suc i) e h = words_of_read rest i e (omega arith)

words_of_write : (bs : List ℕ) (i p q r s : ℕ) → i < length bs / 4 → words_of (four_put bs (quad i) p q r s) ≡ set (words_of bs) i (four_bytes p q r s)
unfolding words_of
words_of_write [] i p q r s h = absurd (omega arith)
words_of_write (a ∷ []) i p q r s h = absurd (omega arith)
words_of_write (a ∷ b ∷ []) i p q r s h = absurd (omega arith)
words_of_write (a ∷ b ∷ c ∷ []) i p q r s h = absurd (omega arith)
words_of_write (a ∷ b ∷ c ∷ d ∷ rest) zero p q r s h = refl
words_of_write (a ∷ b ∷ c ∷ d ∷ rest) (suc i) p q r s h = ap (λ t. four_bytes a b c d ∷ t) (words_of_write rest i p q r s (omega arith))

-- the same in the terms of the code
bytes_read : (bs : List ℕ) (i w : ℕ) → i < length bs / 4 → w ≡ four_bytes (get_or bs (4 * i) 0) (get_or bs (4 * i + 1) 0) (get_or bs (4 * i + 2) 0) (get_or bs (4 * i + 3) 0) → (d : ℕ) → w ≡ get_or (words_of bs) i d
bytes_read bs i w h e d =
    let e0 : 4 * i ≡ quad i = omega (arith, quad_is i) in
    let e1 : 4 * i + 1 ≡ suc (quad i) = omega (arith, quad_is i) in
    let e2 : 4 * i + 2 ≡ suc (suc (quad i)) = omega (arith, quad_is i) in
    let e3 : 4 * i + 3 ≡ suc (suc (suc (quad i))) = omega (arith, quad_is i) in
    let r = words_of_read bs i d h in cc

pub bytes_answer : (bs : List ℕ) (i w : ℕ) → i < length (shown (words_of bs)) → w ≡ number_at bs (4 * i) → Ok w ≡ read_of (shown (words_of bs)) i
unfolding number_at
bytes_answer bs i w h e =
    let n = shown-length (words_of bs) in
    let m = length-words_of bs in
    read_in (shown (words_of bs)) i w h (bytes_read bs i w (omega arith) e w ∙ sym (shown_read (words_of bs) i w h))

joined : (w q1 q2 q3 r0 r1 r2 r3 : ℕ) → r0 + q1 * 256 ≡ w → r1 + q2 * 256 ≡ q1 → r2 + q3 * 256 ≡ q2 → r3 ≡ q3 → four_bytes r0 r1 r2 r3 ≡ w
joined w q1 q2 q3 r0 r1 r2 r3 a b c d = omega arith

-- a number of 32 bits is the number of its four bytes
pub four_bytes_of : (w : ℕ) → w < 4294967296 → four_bytes (w % 256) (w / 256 % 256) (w / 65536 % 256) (w / 16777216 % 256) ≡ w
four_bytes_of w h =
    let a : w / 256 / 256 ≡ w / 65536 = div-div-eq-div-mul w 256 256 in
    let b : w / 65536 / 256 ≡ w / 16777216 = div-div-eq-div-mul w 65536 256 in
    joined w (w / 256) (w / 65536) (w / 16777216) (w % 256) (w / 256 % 256) (w / 65536 % 256) (w / 16777216 % 256)
    (mod-add-div' w 256) (ap (λ t. w / 256 % 256 + t * 256) (sym a) ∙ mod-add-div' (w / 256) 256)
    (ap (λ t. w / 65536 % 256 + t * 256) (sym b) ∙ mod-add-div' (w / 65536) 256)
    (mod-eq_of_lt (omega arith))

pub bytes_write : (bs : List ℕ) (i w : ℕ) → i < length bs / 4 → w < 4294967296 → words_of (word_put bs (4 * i) w) ≡ set (words_of bs) i w
bytes_write bs i w h l =
    let e0 : 4 * i ≡ quad i = omega (arith, quad_is i) in
    let f = four_bytes_of w l in
    let r = words_of_write bs i (w % 256) (w / 256 % 256) (w / 65536 % 256) (w / 16777216 % 256) h in cc

-- the whole table after a write that is shown, and after one that is refused
pub table_in : (bs : List ℕ) (i w : ℕ) → i < length (shown (words_of bs)) → word_put bs (4 * i) w ≡ bytes_written bs i w
table_in bs i w h =
    let n = shown-length (words_of bs) in
    let m = length-words_of bs in
    sym (cond-true (ltb i 65536 && ltb (4 * i + 3) (length bs)) (word_put bs (4 * i) w) bs (and_from _ _ (lt-ltb i 65536 (omega arith)) (lt-ltb (4 * i + 3) (length bs) (omega arith))))

pub table_out : (bs : List ℕ) (i w : ℕ) → length (shown (words_of bs)) ≤ i → bs ≡ bytes_written bs i w
table_out bs i w h =
    let n = shown-length (words_of bs) in
    let m = length-words_of bs in
    cond_both (ltb i 65536 && ltb (4 * i + 3) (length bs)) (word_put bs (4 * i) w) bs (λ r. bs ≡ r)
    (λ t. let p = and_parts (ltb i 65536) (ltb (4 * i + 3) (length bs)) t in absurd (omega (arith, ltb-true i 65536 p.0, ltb-true (4 * i + 3) (length bs) p.1)))
    (λ f. refl)

four_placed : (bs : List ℕ) (i p q r s : ℕ) → i + 3 < length bs → put_mid i 4 bs (p ∷ q ∷ r ∷ s ∷ []) ≡ four_put bs i p q r s
four_placed [] i p q r s h = absurd (omega arith)
four_placed (a ∷ []) zero p q r s h = absurd (omega arith)
four_placed (a ∷ b ∷ []) zero p q r s h = absurd (omega arith)
four_placed (a ∷ b ∷ c ∷ []) zero p q r s h = absurd (omega arith)
four_placed (a ∷ b ∷ c ∷ d ∷ rest) zero p q r s h = refl
four_placed (x ∷ xs) (suc i) p q r s h = ap (λ t. x ∷ t) (four_placed xs i p q r s (omega arith))

-- the four bytes of a number, put into four places
pub number_put : (bs four : List ℕ) (i w n : ℕ) → i + 3 < length bs → four ≡ to_le_bytes w32 w → n ≡ 4 → put_mid i n bs four ≡ word_put bs i w
number_put bs four i w n h e k = rw (k, e) (four_placed bs i (w % 256) (w / 256 % 256) (w / 65536 % 256) (w / 16777216 % 256) h)

-- a byte of what follows place i
rest_byte : (bs : List ℕ) (i m k : ℕ) → m ≡ min i (length bs) → get_or (take (length bs - m) (drop m bs)) k 0 ≡ get_or bs (i + k) 0
rest_byte bs i m k e =
    let l = length-drop m bs in
    ap (λ t. get_or t k 0) (take_all (length bs - m) (drop m bs) (omega arith)) ∙ get_or-drop m bs k 0 ∙ grind (arith, get_or_past)

pub number_rest : (bs : List ℕ) (i m w p q r s : ℕ) → m ≡ min i (length bs)
    → p ≡ get_or (take (length bs - m) (drop m bs)) 0 0 → q ≡ get_or (take (length bs - m) (drop m bs)) 1 0
    → r ≡ get_or (take (length bs - m) (drop m bs)) 2 0 → s ≡ get_or (take (length bs - m) (drop m bs)) 3 0
    → w ≡ four_bytes p q r s → w ≡ number_at bs i
unfolding number_at
number_rest bs i m w p q r s e a b c d f =
    let a' : p ≡ get_or bs i 0 = a ∙ rest_byte bs i m 0 e ∙ ap (λ k. get_or bs k 0) (omega arith) in
    let b' = b ∙ rest_byte bs i m 1 e in
    let c' = c ∙ rest_byte bs i m 2 e in
    let d' = d ∙ rest_byte bs i m 3 e in cc
