-- What the definitions of the calls come to, in plain words.
use Rattle.std.specs.Prelude.{◌≡◌, ℕ, ◌<◌, Bool, true, false, List, length, Some, Err, Option, slice_index_or}
use Rattle.crf.specs.Fences.{Row}
use Rattle.crf.specs.declared.instruction.Instruction.{Instruction}
use Rattle.orders.specs.declared.entries.Entry.{Entry}
use Rattle.orders.specs.declared.entries.Shape.{Shape}
use Rattle.run.specs.declared.fault.ProgramFault.{ProgramFault}
use Rattle.run.specs.declared.fault.StepFault.{StepFault}
use Rattle.run.specs.declared.rows.CodeRow.{CodeRow}
use Rattle.run.specs.Drafts.{Drafted, added, raw_added}
use Rattle.run.specs.Rows.{no_row}
use Rattle.run.specs.Steps.{World, Outcome, performed, cached, written_back, purged, bound, binder}

-- a refused step leaves the run and every table as they were
abbrev pub StepRefused : {X W : Type 0} → World W → Outcome X W → Type 0
StepRefused w o = (e : StepFault) → o.answer ≡ Err e → o.after ≡ w

abbrev pub RefusedSteps : Type 0 → Type 0
RefusedSteps W =
    (alike : W → W → Bool) (w : World W) (card place : ℕ) (recorded : Option W) →
    StepRefused w (performed alike w card place recorded) × StepRefused w (cached w card place) × StepRefused w (written_back w card place) × StepRefused w (purged w card place)

-- a refused addition leaves the draft and its tables as they were
abbrev pub RefusedAdditions : Type 0 → Type 0
RefusedAdditions W =
    (takes : Shape → Bool) (before after : Shape → List Row) (d : Drafted W) (card : ℕ) (e : Entry W) (i : Instruction W) (why : ProgramFault) →
    ((added takes before after d card e).answer ≡ Err why → (added takes before after d card e).after ≡ d)
    × ((raw_added d card i).answer ≡ Err why → (raw_added d card i).after ≡ d)

-- the position that a bound instruction's refusal names is pending and binds it, and no lower one does
pub record Lowest (W : Type 0) (rows : List (CodeRow W)) (later : Instruction W) (p : ℕ) : Type 0 where
  pub inside : p < length rows
  pub binds : bound (slice_index_or rows p no_row) later ≡ true
  pub lowest : (k : ℕ) → k < p → bound (slice_index_or rows k no_row) later ≡ false

abbrev pub NamesLowest : Type 0 → Type 0
NamesLowest W = (rows : List (CodeRow W)) (later : Instruction W) (p : ℕ) → binder rows later 0 ≡ Some p → Lowest W rows later p
