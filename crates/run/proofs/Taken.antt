-- An accepted step fills one row of the step list.
use Rattle.std.proofs.Common.{◌≡◌, ℕ, ◌+◌, Bool, Ok, Err, Option, Result, slice_set, refl}
use Rattle.run.specs.declared.fault.StepFault.{StepFault}
use Rattle.run.specs.declared.rows.Cell.TheVariants.{Absent, Clean}
use Rattle.run.specs.declared.rows.StepRow.TheVariants.{Cached, WrittenBack, Purged}
use Rattle.run.specs.Steps.{World, Outcome, answered, applied, moved, performed, decided, cached, cacheable, written_back, writable, purged, purgeable}

-- if the call is accepted, one row more of the step list is used
abbrev pub OneMore : {X W : Type 0} → World W → Outcome X W → Type 0
OneMore {X = X} w o = (x : X) → o.answer ≡ Ok x → o.after.used ≡ w.used + 1

-- what the four steps have in common: a refusal leaves the run, an acceptance what the step makes of it
module _ {X Y W : Type 0} (w : World W) (answer : X → Y) (left : X → World W) where
  abbrev pub outcome : Result X StepFault → Outcome Y W
  outcome (Ok x) = record { answer = Ok (answer x); after = left x }
  outcome (Err f) = record { answer = Err f; after = w }

  pub one_more : ((x : X) → (left x).used ≡ w.used + 1) → (r : Result X StepFault) → OneMore w (outcome r)
  one_more u (Ok x) y h = u x
  one_more u (Err f) y h = cc

module _ {W : Type 0} (w : World W) (card place : ℕ) where
  pub performed_more : (alike : W → W → Bool) (recorded : Option W) → OneMore w (performed alike w card place recorded)
  performed_more alike recorded = one_more w (λ plan. answered plan.effect) (applied w card place) (λ plan. refl) (decided alike w card place recorded)

  pub cached_more : OneMore w (cached w card place)
  cached_more = one_more w (λ v. tt) (λ v. moved w card place (Clean v) (Cached card place) w.memory) (λ v. refl) (cacheable w card place)

  pub written_more : OneMore w (written_back w card place)
  written_more = one_more w (λ v. tt) (λ v. moved w card place (Clean v) (WrittenBack card place) (slice_set w.memory place v)) (λ v. refl) (writable w card place)

  pub purged_more : OneMore w (purged w card place)
  purged_more = one_more w (λ u. tt) (λ u. moved w card place Absent (Purged card place) w.memory) (λ u. refl) (purgeable w card place)
