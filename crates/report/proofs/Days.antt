-- The lines of a day's runs, printed one after another.
use Rattle.std.proofs.Common.{◌≡◌, ℕ, suc, ◌+◌, ◌≤◌, Bool, true, false, cond, is_ok, List, [], ◌∷◌, ◌++◌, Ok, Err, Result, sym, refl, ap, ◌∙◌, subst, arith}
use mir.Val.{bool_byte}
use Rattle.std.proofs.lemmas.Bool.{cond-false, cond-true}
use Rattle.audit.specs.Alone.{verdict_of}
use Rattle.files.specs.Day.{run_part, sound_day}
use Rattle.report.specs.declared.heading.Heading.{Heading}
use Rattle.report.specs.declared.line.Line.{Line}
use Rattle.report.specs.declared.text.TextFault.{TextFault}
use Rattle.report.specs.Printing.{AllPrinted, Printed}
use Rattle.report.specs.Reports.{broken_line, day_verdicts, ok_count, report_lines, run_line, run_lines, totals_line, verdicts}
use Rattle.report.specs.Texts.{Page}
use Rattle.report.proofs.Pages.{added_none}
use Rattle.report.proofs.Prints.{all_printed, cut_off, goes_on, none_left, outcome, stops, stops_among, then_one}

-- the line of run `n` of a day file, and whether that run is ok
abbrev pub nth_line : List ℕ → ℕ → Line
nth_line bytes n = run_line n (verdict_of (run_part bytes n))

abbrev pub nth_ok : List ℕ → ℕ → Bool
nth_ok bytes n = is_ok (verdict_of (run_part bytes n))

-- the lines of `k` runs from run `n` on, and how many of these are ok
abbrev lines_from : List ℕ → ℕ → ℕ → List Line
lines_from bytes k n = run_lines n (verdicts bytes k n)

abbrev oks_from : List ℕ → ℕ → ℕ → ℕ
oks_from bytes k n = ok_count (verdicts bytes k n)

lines_more : (bytes : List ℕ) (k n : ℕ) → lines_from bytes (suc k) n ≡ nth_line bytes n ∷ lines_from bytes k (n + 1)
unfolding run_lines verdicts
lines_more bytes k n = refl

oks_more : (bytes : List ℕ) (k n : ℕ) → oks_from bytes (suc k) n ≡ cond (nth_ok bytes n) 1 0 + oks_from bytes k (n + 1)
unfolding ok_count verdicts
oks_more bytes k n = refl

lines_none : (bytes : List ℕ) (n : ℕ) → lines_from bytes 0 n ≡ []
unfolding run_lines verdicts
lines_none bytes n = refl

oks_none : (bytes : List ℕ) (n : ℕ) → oks_from bytes 0 n ≡ 0
unfolding ok_count verdicts
oks_none bytes n = refl

-- with `k` runs left from run `n` on and `ok` runs ok so far: printing and counting what is left comes to what the whole comes to
pub record Underway (bytes : List ℕ) (start page : Page) (k n ok : ℕ) : Type 0 where
  pub prints : outcome page (lines_from bytes k n) ≡ outcome start (run_lines 0 (day_verdicts bytes))
  pub counts : ok + oks_from bytes k n ≡ ok_count (day_verdicts bytes)

module _ (bytes : List ℕ) (start page : Page) where
  -- a run's line is printed
  pub one_on : (after : Page) (k j n ok more : ℕ) → Underway bytes start page k n ok → k ≡ suc j
      → Printed page (nth_line bytes n) after (Ok (nth_ok bytes n)) → more ≡ ok + cond (nth_ok bytes n) 1 0 → Underway bytes start after j (n + 1) more
  one_on after k j n ok more u e q m =
      let lines = ap (λ i. lines_from bytes i n) e ∙ lines_more bytes j n in
      let sum : (one x y z : ℕ) → x ≡ one + y → more ≡ ok + one → ok + x ≡ z → more + y ≡ z = λ one x y z a b d. omega arith in
      record {
        prints = sym (goes_on page after _ (lines_from bytes j (n + 1)) q.0 q.1) ∙ ap (outcome page) (sym lines) ∙ u.prints;
        counts = sum _ _ _ _ (ap (λ i. oks_from bytes i n) e ∙ oks_more bytes j n) m u.counts;
      }

  -- a run's line is refused
  pub refused : (after : Page) (k j n ok : ℕ) (fault : TextFault) → Underway bytes start page k n ok → k ≡ suc j
      → Printed {X = Bool} page (nth_line bytes n) after (Err fault) → AllPrinted {X = ℕ} start (run_lines 0 (day_verdicts bytes)) after (Err fault)
  refused after k j n ok fault u e q =
      let lines = ap (λ i. lines_from bytes i n) e ∙ lines_more bytes j n in
      cut_off ℕ start after _ fault (sym u.prints ∙ ap (outcome page) lines ∙ stops page after _ (lines_from bytes j (n + 1)) q.0 q.1) q.2

  -- no run is left
  pub ended : (k n ok : ℕ) → Underway bytes start page k n ok → k ≡ 0
      → AllPrinted start (run_lines 0 (day_verdicts bytes)) page (Ok ok) × (ok ≡ ok_count (day_verdicts bytes))
  ended k n ok u e =
      let lines = ap (λ i. lines_from bytes i n) e ∙ lines_none bytes n in
      let none = ap (λ i. oks_from bytes i n) e ∙ oks_none bytes n in
      let sum : (x z : ℕ) → x ≡ 0 → ok + x ≡ z → ok ≡ z = λ x z a b. omega arith in
      (all_printed start page _ ok (sym u.prints ∙ ap (outcome page) lines ∙ none_left page), sum _ _ none u.counts)

-- a run adds one to those that are ok, or nothing
pub counted : (ok one : ℕ) (answer verdict : Bool) → one ≡ bool_byte answer → answer ≡ verdict → ok + one ≡ ok + cond verdict 1 0
counted ok one true verdict e a = ap (λ n. ok + n) (e ∙ ap (λ b. cond b 1 0) a)
counted ok one false verdict e a = ap (λ n. ok + n) (e ∙ ap (λ b. cond b 1 0) a)

pub counted_few : (ok n one : ℕ) (answer : Bool) → one ≡ bool_byte answer → ok ≤ n → ok + one ≤ n + 1
counted_few ok n one true e h = omega arith
counted_few ok n one false e h = omega arith

-- the report of a day whose header is broken
pub broken_report : {X : Type 0} (start page after : Page) (heading : Heading) (bytes : List ℕ) (line : Line) (r : Result X TextFault)
    → sound_day bytes ≡ false → page ≡ start → line ≡ broken_line heading → Printed page line after r → AllPrinted start (report_lines heading bytes) after r
broken_report {X = X} start page after heading bytes line r s e l q =
    let lines : line ∷ [] ≡ report_lines heading bytes = ap (λ x. x ∷ []) l ∙ sym (cond-false (sound_day bytes) _ _ s) in
    let P : List Line → Type 0 = λ ls. AllPrinted {X = X} start ls after r in
    subst P lines (then_one start page after [] line r (ap (λ o. o.1) (none_left start)) (e ∙ sym (added_none start)) q)

-- the lines of the report of a day file whose header is sound; `bytes` are the file, as its reader holds it
sound_lines : (heading : Heading) (bytes input : List ℕ) → bytes ≡ input → sound_day input ≡ true
    → run_lines 0 (day_verdicts bytes) ++ (totals_line heading bytes ∷ []) ≡ report_lines heading input
sound_lines heading bytes input e s = ap (λ l. run_lines 0 (day_verdicts l) ++ (totals_line heading l ∷ [])) e ∙ sym (cond-true (sound_day input) _ _ s)

module _ (start after : Page) (heading : Heading) (bytes input : List ℕ) (same : bytes ≡ input) (sound : sound_day input ≡ true) where
  -- a run's line is refused
  pub cut_report : (fault : TextFault) → AllPrinted {X = ℕ} start (run_lines 0 (day_verdicts bytes)) after (Err fault)
      → AllPrinted {X = Unit {0}} start (report_lines heading input) after (Err fault)
  cut_report fault q =
      let runs = run_lines 0 (day_verdicts bytes) in
      let here = stops_among start runs (totals_line heading bytes ∷ []) q.0 in
      cut_off (Unit {0}) start after _ fault (ap (outcome start) (sym (sound_lines heading bytes input same sound)) ∙ here ∙ λ i. (sym q.1 i, q.0 i)) q.2

  -- all runs' lines are printed, and then the day's
  pub sound_report : (mid page : Page) (ok : ℕ) (line : Line) (r : Result (Unit {0}) TextFault) → page ≡ mid → line ≡ totals_line heading bytes
      → AllPrinted start (run_lines 0 (day_verdicts bytes)) mid (Ok ok) → Printed page line after r → AllPrinted start (report_lines heading input) after r
  sound_report mid page ok line r e l p q =
      let runs = run_lines 0 (day_verdicts bytes) in
      let lines : runs ++ (line ∷ []) ≡ report_lines heading input = ap (λ x. runs ++ (x ∷ [])) l ∙ sound_lines heading bytes input same sound in
      let P : List Line → Type 0 = λ ls. AllPrinted {X = Unit {0}} start ls after r in
      subst P lines (then_one start page after runs line r p.0 (e ∙ p.1) q)
