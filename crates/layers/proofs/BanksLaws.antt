-- Reads and writes of two banks, from those of one bank.
use Rattle.std.proofs.Common.{◌≡◌, ℕ, zero, suc, ◌*◌, ◌/◌, ◌%◌, ◌<◌, ◌≤◌, min, List, [], ◌∷◌, length, get_or, set, sym, refl, ap, ◌∙◌, arith}
use Rattle.memory.specs.Meaning.{read_of, write_of, shown}
use Rattle.memory.specs.Shown.{shown-length, shown_read, shown_write}
use Rattle.layers.specs.Banks.{in_turn, banks_of}
use Rattle.layers.proofs.Reading.{read_same, write_same}

abbrev double : ℕ → ℕ
double zero = zero
double (suc k) = suc (suc (double k))

double_is : (k : ℕ) → double k ≡ 2 * k
double_is zero = refl
double_is (suc k) = omega (arith, double_is k)

length-in_turn : {W : Type 0} (es os : List W) → length (in_turn es os) ≡ 2 * min (length es) (length os)
unfolding in_turn
length-in_turn [] os = omega arith
length-in_turn (e ∷ es) [] = omega arith
length-in_turn (e ∷ es) (o ∷ os) = omega (arith, length-in_turn es os)

in_turn_even : {W : Type 0} (es os : List W) (k : ℕ) (d : W) → k < length es → k < length os → get_or (in_turn es os) (double k) d ≡ get_or es k d
unfolding in_turn
in_turn_even [] os k d h i = absurd (omega arith)
in_turn_even (e ∷ es) [] k d h i = absurd (omega arith)
in_turn_even (e ∷ es) (o ∷ os) zero d h i = refl
in_turn_even (e ∷ es) (o ∷ os) (suc k) d h i = in_turn_even es os k d (omega arith) (omega arith)

in_turn_odd : {W : Type 0} (es os : List W) (k : ℕ) (d : W) → k < length es → k < length os → get_or (in_turn es os) (suc (double k)) d ≡ get_or os k d
unfolding in_turn
in_turn_odd [] os k d h i = absurd (omega arith)
in_turn_odd (e ∷ es) [] k d h i = absurd (omega arith)
in_turn_odd (e ∷ es) (o ∷ os) zero d h i = refl
in_turn_odd (e ∷ es) (o ∷ os) (suc k) d h i = in_turn_odd es os k d (omega arith) (omega arith)

in_turn-set_even : {W : Type 0} (es os : List W) (k : ℕ) (w : W) → in_turn (set es k w) os ≡ set (in_turn es os) (double k) w
unfolding in_turn
in_turn-set_even [] os k w = refl
in_turn-set_even (e ∷ es) [] zero w = refl
in_turn-set_even (e ∷ es) [] (suc k) w = refl
in_turn-set_even (e ∷ es) (o ∷ os) zero w = refl
in_turn-set_even (e ∷ es) (o ∷ os) (suc k) w = ap (λ t. e ∷ o ∷ t) (in_turn-set_even es os k w)

in_turn-set_odd : {W : Type 0} (es os : List W) (k : ℕ) (w : W) → in_turn es (set os k w) ≡ set (in_turn es os) (suc (double k)) w
unfolding in_turn
in_turn-set_odd [] os k w = refl
in_turn-set_odd (e ∷ es) [] k w = refl
in_turn-set_odd (e ∷ es) (o ∷ os) zero w = refl
in_turn-set_odd (e ∷ es) (o ∷ os) (suc k) w = ap (λ t. e ∷ o ∷ t) (in_turn-set_odd es os k w)

pub length-banks_of : {W : Type 0} (es os : List W) → length (banks_of es os) ≡ min (2 * min (length es) (length os)) 65536
unfolding banks_of
length-banks_of es os = omega (arith, shown-length (in_turn es os), length-in_turn es os)

-- a word that stands in the turn at address a is read there
in_turn_read : {W : Type 0} (es os bank : List W) (a k : ℕ) → a < length (banks_of es os) → k < length bank → ((d : W) → get_or (in_turn es os) a d ≡ get_or bank k d) → read_of bank k ≡ read_of (banks_of es os) a
unfolding banks_of
in_turn_read es os bank a k h i e = read_same bank (banks_of es os) k a i h (λ d. sym (shown_read (in_turn es os) a d h ∙ e d))

pub even_read : {W : Type 0} (es os : List W) (a : ℕ) → a < length (banks_of es os) → a % 2 ≡ 0 → read_of es (a / 2) ≡ read_of (banks_of es os) a
even_read es os a h z =
    let l = length-banks_of es os in
    let e : a ≡ double (a / 2) = omega (arith, double_is (a / 2)) in
    in_turn_read es os es a (a / 2) h (omega arith) (λ d. ap (λ k. get_or (in_turn es os) k d) e ∙ in_turn_even es os (a / 2) d (omega arith) (omega arith))

pub odd_read : {W : Type 0} (es os : List W) (a : ℕ) → a < length (banks_of es os) → a % 2 ≡ 1 → read_of os (a / 2) ≡ read_of (banks_of es os) a
odd_read es os a h z =
    let l = length-banks_of es os in
    let e : a ≡ suc (double (a / 2)) = omega (arith, double_is (a / 2)) in
    in_turn_read es os os a (a / 2) h (omega arith) (λ d. ap (λ k. get_or (in_turn es os) k d) e ∙ in_turn_odd es os (a / 2) d (omega arith) (omega arith))

pub bank_answer : {W : Type 0} (es os bank : List W) (a : ℕ) → a < length (banks_of es os) → min (length es) (length os) ≤ length bank → write_of bank (a / 2) ≡ write_of (banks_of es os) a
bank_answer es os bank a h k = write_same bank (banks_of es os) (a / 2) a (omega (arith, length-banks_of es os)) h

pub even_write : {W : Type 0} (es os : List W) (a : ℕ) (w : W) → a % 2 ≡ 0 → banks_of (set es (a / 2) w) os ≡ set (banks_of es os) a w
unfolding banks_of
even_write es os a w z =
    let e : double (a / 2) ≡ a = omega (arith, double_is (a / 2)) in
    ap shown (in_turn-set_even es os (a / 2) w) ∙ shown_write (in_turn es os) (double (a / 2)) w ∙ ap (λ k. set (shown (in_turn es os)) k w) e

pub odd_write : {W : Type 0} (es os : List W) (a : ℕ) (w : W) → a % 2 ≡ 1 → banks_of es (set os (a / 2) w) ≡ set (banks_of es os) a w
unfolding banks_of
odd_write es os a w z =
    let e : suc (double (a / 2)) ≡ a = omega (arith, double_is (a / 2)) in
    ap shown (in_turn-set_odd es os (a / 2) w) ∙ shown_write (in_turn es os) (suc (double (a / 2))) w ∙ ap (λ k. set (shown (in_turn es os)) k w) e
