-- A run's states and the tables lent to a call, as one value.
use Rattle.std.specs.Prelude.{◌≡◌, List}
use Rattle.run.specs.declared.rows.CodeRow.{CodeRow}
use Rattle.run.specs.declared.rows.Tables.{Tables}
use Rattle.run.specs.declared.rows.CardRecord.{CardRecord}
use Rattle.run.specs.declared.states.Draft.{Draft}
use Rattle.run.specs.declared.states.Running.{Running}
use Rattle.run.specs.Drafts.{Drafted}
use Rattle.run.specs.Steps.{World}

-- `words` is what the memory means
abbrev pub draft_of : {W M O : Type 0} → (M → List W) → Draft M O → List CardRecord → List (CodeRow W) → Drafted W
draft_of words d cards code = record { count = d.count; raw = d.raw; memory = words d.memory; cards = cards; code = code }

abbrev pub world_of : {W M : Type 0} → (M → List W) → Running M → Tables W → World W
world_of words r t = record {
  count = r.count;
  raw = r.raw;
  used = r.used;
  memory = words r.memory;
  cards = t.cards.now;
  code = t.code.now;
  cells = t.cells.now;
  steps = t.steps.now;
}

-- a call that is lent the tables leaves in them the references that it found
pub record SameTables {W : Type 0} (old new : Tables W) : Type 0 where
  pub cards : old.cards.ghost_name ≡ new.cards.ghost_name
  pub code : old.code.ghost_name ≡ new.code.ghost_name
  pub cells : old.cells.ghost_name ≡ new.cells.ghost_name
  pub steps : old.steps.ghost_name ≡ new.steps.ghost_name
