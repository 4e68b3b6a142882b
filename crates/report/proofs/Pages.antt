-- What adding to a page comes to.
use Rattle.std.proofs.Common.{◌≡◌, ℕ, ◌+◌, ◌-◌, ◌≤◌, true, List, [], ◌∷◌, ◌++◌, length, take, drop, sym, ap, ◌∙◌, append_assoc, add-zero, add_assoc, arith, length-append, length-drop, take-append-drop, length-take, length-take-le, drop-drop, take_at, drop_at, leb-true}
use Rattle.report.specs.Texts.{Page, added}
use Rattle.report.specs.Printing.{room_of, fits}

-- pages are equal whose tables and lengths are
same_page : {bs cs : List ℕ} {m n : ℕ} → bs ≡ cs → m ≡ n → ◌≡◌ {A = Page} (record { bytes = bs; len = m }) (record { bytes = cs; len = n })
same_page p q = λ i. record { bytes = p i; len = q i }

-- nothing added
pub added_none : (p : Page) → added p [] ≡ p
added_none p = same_page (ap (λ n. take p.len p.bytes ++ drop n p.bytes) (add-zero p.len) ∙ take-append-drop p.len p.bytes) (add-zero p.len)

-- what is added takes its room
pub room_added : (p : Page) (part : List ℕ) → room_of (added p part) ≡ room_of p - length part
room_added p part = simp (length-append, length-take, length-drop) (omega arith)

-- two parts, one after the other
pub added_twice : (p : Page) (a b : List ℕ) → fits (room_of p) a ≡ true → added (added p a) b ≡ added p (a ++ b)
added_twice p [] b h = ap (λ q. added q b) (added_none p)
added_twice p (x ∷ xs) b h =
    let a = x ∷ xs in
    let m = p.len in
    let bs = p.bytes in
    let fit = leb-true (length a) (room_of p) h in
    let within : m + length a ≤ length bs = omega arith in
    let front = length-take-le m bs (omega arith) in
    let head : length (take m bs ++ a) ≡ m + length a = length-append (take m bs) a ∙ ap (λ n. n + length a) front in
    let laid : take m bs ++ (a ++ drop (m + length a) bs) ≡ (take m bs ++ a) ++ drop (m + length a) bs = sym (append_assoc (take m bs) a _) in
    let taken : take (m + length a) (take m bs ++ (a ++ drop (m + length a) bs)) ≡ take m bs ++ a = ap (take (m + length a)) laid ∙ take_at _ _ _ head in
    let gone : drop (m + length a + length b) (take m bs ++ (a ++ drop (m + length a) bs)) ≡ drop (m + length (a ++ b)) bs =
    ap (drop (m + length a + length b)) laid
    ∙ sym (drop-drop (length b) (m + length a) _)
    ∙ ap (drop (length b)) (drop_at _ _ _ head)
    ∙ drop-drop (length b) (m + length a) bs
    ∙ ap (λ n. drop n bs) (add_assoc m (length a) (length b) ∙ ap (λ n. m + n) (sym (length-append a b))) in
    same_page
    ((λ i. taken i ++ (b ++ gone i)) ∙ append_assoc (take m bs) a _ ∙ ap (λ l. take m bs ++ l) (sym (append_assoc a b _)))
    (add_assoc m (length a) (length b) ∙ ap (λ n. m + n) (sym (length-append a b)))
