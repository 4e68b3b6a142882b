-- Lines printed one after another.
use Rattle.std.proofs.Common.{◌≡◌, ℕ, ◌<◌, ◌≤◌, Bool, true, false, leb, List, [], ◌∷◌, ◌++◌, length, IfErr, Ok, Err, Result, sym, refl, ap, ◌∙◌, inl, inr, append-nil, arith, length-append}
use Rattle.std.proofs.lemmas.Bool.{both_ways, cases_Bool, cond-false, cond-true, le-leb, leb-false, leb-true, lt-leb}
use Rattle.report.specs.declared.line.Line.{Line}
use Rattle.report.specs.declared.text.TextFault.{TextFault}
use Rattle.report.specs.Lines.{line_bytes, lines_bytes}
use Rattle.report.specs.Printing.{AllPrinted, Printed, Stopped, fits, fitting_lines, room_of}
use Rattle.report.specs.Texts.{Page, added, text_fault_number}
use Rattle.report.proofs.Pages.{added_none, added_twice, room_added}

-- whether the lines all fit
abbrev pub all_fit : Page → List Line → Bool
all_fit p lines = fits (room_of p) (lines_bytes lines)

-- what printing the lines comes to: the page that it leaves, and whether they are all there
abbrev pub outcome : Page → List Line → Page × Bool
outcome p lines = (added p (lines_bytes (fitting_lines (room_of p) lines)), all_fit p lines)

-- two tests are the same that hold together
same_leb : (a b c d : ℕ) → (a ≤ b → c ≤ d) → (b < a → d < c) → leb a b ≡ leb c d
same_leb a b c d h k = elim (cases_Bool (leb a b)) [
  | inl e ↦ e ∙ sym (le-leb c d (h (leb-true a b e)))
  | inr e ↦ e ∙ sym (lt-leb c d (k (leb-false a b e)))
]

-- no line
pub none_left : (p : Page) → outcome p [] ≡ (p, true)
unfolding fitting_lines
none_left p = λ i. (added_none p i, le-leb 0 (room_of p) (omega arith) i)

module _ (p after : Page) (l : Line) (rest : List Line) where
  -- a line that fits, and then the rest
  pub goes_on : fits (room_of p) (line_bytes l) ≡ true → after ≡ added p (line_bytes l) → outcome p (l ∷ rest) ≡ outcome after rest
  unfolding fitting_lines
  goes_on h e =
      let first = leb-true (length (line_bytes l)) (room_of p) h in
      let long = length-append (line_bytes l) (lines_bytes rest) in
      let room = room_added p (line_bytes l) in
      let all : all_fit p (l ∷ rest) ≡ all_fit (added p (line_bytes l)) rest = same_leb _ _ _ _ (λ k. omega arith) (λ k. omega arith) in
      let left =
      ap (λ lines. added p (lines_bytes lines)) (cond-true _ _ _ h)
      ∙ sym (added_twice p (line_bytes l) _ h)
      ∙ ap (λ n. added (added p (line_bytes l)) (lines_bytes (fitting_lines n rest))) (sym room) in
      (λ i. (left i, all i)) ∙ ap (λ q. outcome q rest) (sym e)

  -- a line that does not fit, whatever the rest is
  pub stops : fits (room_of p) (line_bytes l) ≡ false → after ≡ p → outcome p (l ∷ rest) ≡ (after, false)
  unfolding fitting_lines
  stops h e =
      let first = leb-false (length (line_bytes l)) (room_of p) h in
      let long = length-append (line_bytes l) (lines_bytes rest) in
      let all : all_fit p (l ∷ rest) ≡ false = lt-leb _ _ (omega arith) in
      let left = ap (λ lines. added p (lines_bytes lines)) (cond-false _ _ _ h) ∙ added_none p ∙ sym e in
      λ i. (left i, all i)

-- the first of lines that all fit
first_fits : (p : Page) (l : Line) (rest : List Line) → all_fit p (l ∷ rest) ≡ true → fits (room_of p) (line_bytes l) ≡ true
first_fits p l rest h =
    let all = leb-true (length (lines_bytes (l ∷ rest))) (room_of p) h in
    let long = length-append (line_bytes l) (lines_bytes rest) in
    le-leb _ _ (omega arith)

-- lines that all fit, and then others
pub goes_on_all : (p : Page) (ls ms : List Line) → all_fit p ls ≡ true → outcome p (ls ++ ms) ≡ outcome (added p (lines_bytes ls)) ms
goes_on_all p [] ms h = ap (λ q. outcome q ms) (sym (added_none p))
goes_on_all p (l ∷ ls) ms h =
    let first = first_fits p l ls h in
    let next = added p (line_bytes l) in
    goes_on p next l (ls ++ ms) first refl
    ∙ goes_on_all next ls ms (sym (ap (λ o. o.1) (goes_on p next l ls first refl)) ∙ h)
    ∙ ap (λ q. outcome q ms) (added_twice p (line_bytes l) (lines_bytes ls) first)

-- lines that do not all fit: what comes behind them does not matter
pub stops_among : (p : Page) (ls ms : List Line) → all_fit p ls ≡ false → outcome p (ls ++ ms) ≡ outcome p ls
stops_among p [] ms h = absurd (both_ways _ h (ap (λ o. o.1) (none_left p)))
stops_among p (l ∷ ls) ms h = elim (cases_Bool (fits (room_of p) (line_bytes l))) [
  | inl e ↦
      let next = added p (line_bytes l) in
      let here = goes_on p next l ls e refl in
      goes_on p next l (ls ++ ms) e refl ∙ stops_among next ls ms (sym (ap (λ o. o.1) here) ∙ h) ∙ sym here
  | inr e ↦ stops p p l (ls ++ ms) e refl ∙ sym (stops p p l ls e refl)
]

-- all lines are there
pub all_printed : {X : Type 0} (p after : Page) (lines : List Line) (x : X) → outcome p lines ≡ (after, true) → AllPrinted {X = X} p lines after (Ok x)
all_printed p after lines x e =
    let all : all_fit p lines ≡ true = ap (λ o. o.1) e in
    let whole = ap (outcome p) (sym (append-nil lines)) ∙ goes_on_all p lines [] all ∙ none_left (added p (lines_bytes lines)) in
    (all, ap (λ o. o.0) (sym e ∙ whole))

-- not all lines are there
pub cut_off : (X : Type 0) (p after : Page) (lines : List Line) (fault : TextFault) → outcome p lines ≡ (after, false) → text_fault_number fault ≡ 18 → AllPrinted {X = X} p lines after (Err fault)
cut_off X p after lines fault e n = (ap (λ o. o.1) e, ap (λ o. o.0) (sym e), n)

-- lines that are all printed, and then one more
pub then_one : {X : Type 0} (p mid after : Page) (ls : List Line) (l : Line) (r : Result X TextFault)
    → all_fit p ls ≡ true → mid ≡ added p (lines_bytes ls) → Printed mid l after r → AllPrinted p (ls ++ (l ∷ [])) after r
then_one p mid after ls l (Ok x) h e q =
    all_printed p after _ x (goes_on_all p ls (l ∷ []) h ∙ ap (λ m. outcome m (l ∷ [])) (sym e) ∙ goes_on mid after l [] q.0 q.1 ∙ none_left after)
then_one {X = X} p mid after ls l (Err f) h e q =
    cut_off X p after _ f (goes_on_all p ls (l ∷ []) h ∙ ap (λ m. outcome m (l ∷ [])) (sym e) ∙ stops mid after l [] q.0 q.1) q.2

-- where lines that do not all fit stop
stopped : (p after : Page) (lines : List Line) → outcome p lines ≡ (after, false) → Stopped p lines after
stopped p after [] e = absurd (both_ways _ (ap (λ o. o.1) e) (ap (λ o. o.1) (none_left p)))
stopped p after (l ∷ ls) e = elim (cases_Bool (fits (room_of p) (line_bytes l))) [
  | inl f ↦
      let next = added p (line_bytes l) in
      let s = stopped next after ls (sym (goes_on p next l ls f refl) ∙ e) in
      record {
        first = l ∷ s.first;
        next = s.next;
        rest = s.rest;
        in_turn = ap (λ x. l ∷ x) s.in_turn;
        whole = ap (λ o. o.1) (goes_on p next l s.first f refl) ∙ s.whole;
        there = s.there ∙ added_twice p (line_bytes l) (lines_bytes s.first) f;
        no_room = s.no_room;
      }
  | inr f ↦
      let same = ap (λ o. o.0) (sym e ∙ stops p p l ls f refl) in
      record {
        first = [];
        next = l;
        rest = ls;
        in_turn = refl;
        whole = ap (λ o. o.1) (none_left p);
        there = same ∙ sym (added_none p);
        no_room = ap (λ q. fits (room_of q) (line_bytes l)) same ∙ f;
      }
]

-- the same, by what printing answered
pub stops_by : {X : Type 0} (p after : Page) (lines : List Line) (r : Result X TextFault) → AllPrinted p lines after r → IfErr r (λ _. Stopped p lines after)
stops_by p after lines (Ok x) q = tt
stops_by p after lines (Err f) q = stopped p after lines (λ i. (sym q.1 i, q.0 i))
