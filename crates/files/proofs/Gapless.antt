-- Runs that lie without a gap.
use Rattle.std.proofs.Common.{◌≡◌, ℕ, zero, suc, ◌+◌, ◌-◌, ◌<◌, ◌≤◌, true, false, ◌&&◌, eqb, List, length, refl, subst, ⊎_elim, arith}
use Rattle.std.proofs.lemmas.Bool.{and_parts, eqb-true, eq-eqb, ne_eqb, leb-true, cases_eq}
use Rattle.files.specs.Day.{gapless, offset_of, length_of, run_count, runs_start, day_fits, count_fits, has_runs_table, sound_day}

-- a run that begins where it has to
pub gapless_next : (bs : List ℕ) (k n at : ℕ) → 0 < k → offset_of bs n ≡ at → gapless bs k n at ≡ gapless bs (k - 1) (n + 1) (at + length_of bs n)
unfolding gapless
gapless_next bs zero n at h e = absurd (omega arith)
gapless_next bs (suc k) n at h e =
    let s : suc k - 1 ≡ k = omega arith in
    rw (s, eq-eqb (offset_of bs n) at e)

-- a run that does not
pub gapless_stop : (bs : List ℕ) (k n at : ℕ) → 0 < k → (offset_of bs n ≡ at → ⊥) → gapless bs k n at ≡ false
unfolding gapless
gapless_stop bs zero n at h e = absurd (omega arith)
gapless_stop bs (suc k) n at h e = rw (ne_eqb (offset_of bs n) at e)

pub gapless_end : (bs : List ℕ) (k n at : ℕ) → k ≡ 0 → gapless bs k n at ≡ eqb at (length bs)
unfolding gapless
gapless_end bs zero n at e = refl
gapless_end bs (suc k) n at e = absurd (omega arith)

-- the runs begin inside the file
pub begins_inside : (bs : List ℕ) (k n at : ℕ) → gapless bs k n at ≡ true → at ≤ length bs
unfolding gapless
begins_inside bs zero n at e = let h = eqb-true at (length bs) e in omega arith
begins_inside bs (suc k) n at e =
    let p = and_parts (eqb (offset_of bs n) at) _ e in
    let h = begins_inside bs k (n + 1) (at + length_of bs n) p.1 in omega arith

past : (n j : ℕ) → n ≤ j → (n ≡ j → ⊥) → n + 1 ≤ j
past n j l q = omega (arith, q)

-- and each of them ends there
ends_inside : (bs : List ℕ) (k n at j : ℕ) → gapless bs k n at ≡ true → n ≤ j → j < n + k → offset_of bs j + length_of bs j ≤ length bs
unfolding gapless
ends_inside bs zero n at j e l h = absurd (omega arith)
ends_inside bs (suc k) n at j e l h =
    let p = and_parts (eqb (offset_of bs n) at) _ e in
    let o = eqb-true (offset_of bs n) at p.0 in
    let i = begins_inside bs k (n + 1) (at + length_of bs n) p.1 in
    let here : offset_of bs n + length_of bs n ≤ length bs = omega arith in
    ⊎_elim
    (λ (q : n ≡ j). subst (λ (m : ℕ). offset_of bs m + length_of bs m ≤ length bs) q here)
    (λ (q : n ≡ j → ⊥). ends_inside bs k (n + 1) (at + length_of bs n) j p.1 (past n j l q) (omega arith))
    (cases_eq n j)

-- what the tests of a sound day say
pub record Sound (bs : List ℕ) : Type 0 where
  pub fits : length bs ≤ 65536
  pub few : run_count bs ≤ 32
  pub table : runs_start bs ≤ length bs
  pub runs : gapless bs (run_count bs) 0 (runs_start bs) ≡ true

pub sound : (bs : List ℕ) → sound_day bs ≡ true → Sound bs
sound bs e =
    let p = and_parts (day_fits bs && count_fits bs && has_runs_table bs) _ e in
    let q = and_parts (day_fits bs && count_fits bs) (has_runs_table bs) p.0 in
    let r = and_parts (day_fits bs) (count_fits bs) q.0 in
    record {
      fits = leb-true (length bs) 65536 r.0;
      few = leb-true (run_count bs) 32 r.1;
      table = leb-true (runs_start bs) (length bs) q.1;
      runs = p.1;
    }

-- a run of a sound day lies inside the file
pub run_inside : (bs : List ℕ) (n : ℕ) → sound_day bs ≡ true → n < run_count bs → offset_of bs n + length_of bs n ≤ length bs
run_inside bs n e h = ends_inside bs (run_count bs) 0 (runs_start bs) n (sound bs e).runs (omega arith) (omega arith)
