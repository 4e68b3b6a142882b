-- The lowest row that binds is the first that a search finds, and the position that a refusal names.
use Rattle.std.proofs.Common.{◌≡◌, ℕ, ◌+◌, List, [], ◌∷◌, refl, sym, ◌∙◌}
use Rattle.std.specs.List.{position, position_from}
use Rattle.std.proofs.lemmas.Iterator.Adapters.{position_from-zero}
use Rattle.std.proofs.lemmas.List.Quantifiers.{position-Some}
use Rattle.crf.specs.declared.instruction.Instruction.{Instruction}
use Rattle.run.specs.declared.rows.CodeRow.{CodeRow}
use Rattle.run.specs.Laws.{NamesLowest}
use Rattle.run.specs.Rows.{no_row}
use Rattle.run.specs.Steps.{bound, binder}

binder_from : {W : Type 0} (rs : List (CodeRow W)) (later : Instruction W) (n : ℕ) → binder rs later n ≡ position_from (λ r. bound r later) n rs
binder_from [] later n = refl
binder_from (r ∷ rs) later n = rw (binder_from rs later (n + 1))

pub binder_is : {W : Type 0} (rs : List (CodeRow W)) (later : Instruction W) → position (λ r. bound r later) rs ≡ binder rs later 0
binder_is rs later = position_from-zero (λ r. bound r later) rs ∙ sym (binder_from rs later 0)

pub names_lowest : (W : Type 0) → NamesLowest W
names_lowest W rows later p h =
    let f = position-Some (λ r. bound r later) rows p no_row (binder_is rows later ∙ h) in
    record { inside = f.0; binds = f.1; lowest = f.2 }
