-- The steps of a running run.
use Rattle.std.specs.Prelude.{ℕ, ◌+◌, ◌*◌, min, Bool, true, cond, not, ◌&&◌, List, [], ◌∷◌, length, take, drop, Some, None, Ok, Err, Option, Result, nat_le, nat_lt, slice_index_or, slice_set}
use Rattle.memory.specs.Meaning.{read_of}
use Rattle.memory.specs.declared.fault.MemoryFault.{MemoryFault}
use Rattle.crf.specs.Binding.{binding}
use Rattle.crf.specs.declared.instruction.Instruction.{Instruction}
use Rattle.crf.specs.declared.instruction.Instruction.TheVariants.{Loadl, Storel, Commit, Reconcile, Fence}
use Rattle.run.specs.declared.fault.StepFault.{StepFault}
use Rattle.run.specs.declared.fault.StepFault.TheVariants.{TooShort, NoSuchCard, NoSuchAddress, NoSuchPosition, AlreadyPerformed, Bound, CellUnfit, WordDiffers, StepsFull, Memory}
use Rattle.run.specs.declared.rows.Cell.{Cell}
use Rattle.run.specs.declared.rows.Cell.TheVariants.{Absent, Clean, Dirty}
use Rattle.run.specs.declared.rows.CodeRow.{CodeRow}
use Rattle.run.specs.declared.rows.CardRecord.{CardRecord}
use Rattle.run.specs.declared.rows.StepRow.{StepRow}
use Rattle.run.specs.declared.rows.StepRow.TheVariants.{Performed, Loaded, Cached, WrittenBack, Purged}
use Rattle.run.specs.declared.checks.Effect.{Effect}
use Rattle.run.specs.declared.checks.Effect.TheVariants.{Loads, Stores, Passes}
use Rattle.run.specs.declared.checks.Plan.{Plan}
use Rattle.run.specs.Chain.{and_then, need, pass}
use Rattle.run.specs.Rows.{no_card, no_row, no_cell, spent}

-- a run and the tables lent to its calls, as one value; `memory` is what its memory means
pub record World (W : Type 0) : Type 0 where
  pub count : ℕ
  pub raw : Bool
  pub used : ℕ
  pub memory : List W
  pub cards : List CardRecord
  pub code : List (CodeRow W)
  pub cells : List (Cell W)
  pub steps : List (StepRow W)

-- what a step answers, and the run that it leaves
pub record Outcome (X W : Type 0) : Type 0 where
  pub answer : Result X StepFault
  pub after : World W

-- the tables can hold the run
abbrev pub fitted : ℕ → ℕ → ℕ → ℕ → ℕ → Result (Unit {0}) StepFault
fitted count size cards code cells = pass (nat_le count cards && (nat_le (256 * count) code && nat_le (count * size) cells)) TooShort

-- there is such a card: its record
abbrev pub record_of : List CardRecord → ℕ → ℕ → Result CardRecord StepFault
record_of cards count card = need (nat_lt card count) (slice_index_or cards card no_card) NoSuchCard

abbrev pub card_known : {W : Type 0} → World W → ℕ → Result CardRecord StepFault
card_known w card =
    and_then (fitted w.count (length w.memory) (length w.cards) (length w.code) (length w.cells)) (λ _.
    record_of w.cards w.count card)

-- there is such a position, and it is pending: its row
abbrev pub not_yet : {W : Type 0} → CodeRow W → Result (CodeRow W) StepFault
not_yet row = cond row.performed (Err AlreadyPerformed) (Ok row)

abbrev pub row_of : {W : Type 0} → List (CodeRow W) → CardRecord → ℕ → ℕ → Result (CodeRow W) StepFault
row_of code held card position = cond (nat_lt position (min held.length 256)) (not_yet (slice_index_or code (256 * card + position) no_row)) (Err NoSuchPosition)

-- the row is pending and binds a later instruction
abbrev pub bound : {W : Type 0} → CodeRow W → Instruction W → Bool
bound row later = not row.performed && binding row.instruction later

-- the place, counted from n, of the first row that does
abbrev pub binder : {W : Type 0} → List (CodeRow W) → Instruction W → ℕ → Option ℕ
binder [] later n = None
binder (r ∷ rs) later n = cond (bound r later) (Some n) (binder rs later (n + 1))

abbrev pub unbound_by : Option ℕ → Result (Unit {0}) StepFault
unbound_by None = Ok tt
unbound_by (Some p) = Err (Bound p)

-- nothing earlier and pending of the card binds it
abbrev pub free : {W : Type 0} → List (CodeRow W) → ℕ → ℕ → Instruction W → Result (Unit {0}) StepFault
free code card position i = unbound_by (binder (take position (drop (256 * card) code)) i 0)

-- the row that may be performed next
abbrev pub row_ready : {W : Type 0} → List (CodeRow W) → CardRecord → ℕ → ℕ → Result (CodeRow W) StepFault
row_ready code held card position =
    and_then (row_of code held card position) (λ row.
    and_then (free code card position row.instruction) (λ _.
    Ok row))

abbrev pub chosen : {W : Type 0} → World W → ℕ → ℕ → Result (CodeRow W) StepFault
chosen w card position = and_then (card_known w card) (λ held. row_ready w.code held card position)

-- the address of an instruction
abbrev pub address_of : {W : Type 0} → Instruction W → ℕ
address_of (Loadl a) = a
address_of (Storel a w) = a
address_of (Commit a) = a
address_of (Reconcile a) = a
address_of (Fence k f s) = 0

-- a card's cell of an address; one that is not below the size has none
abbrev pub cell_at : {W : Type 0} → List (Cell W) → ℕ → ℕ → ℕ → Cell W
cell_at cells size card address = cond (nat_lt address size) (slice_index_or cells (card * size + address) no_cell) no_cell

-- what an instruction needs of its cell, and what it does
abbrev pub acted : {W : Type 0} → Instruction W → Cell W → Result (Effect W) StepFault
acted (Loadl a) Absent = Err CellUnfit
acted (Loadl a) (Clean w) = Ok (Loads w)
acted (Loadl a) (Dirty w) = Ok (Loads w)
acted (Storel a v) Absent = Err CellUnfit
acted (Storel a v) (Clean w) = Ok (Stores v)
acted (Storel a v) (Dirty w) = Ok (Stores v)
acted (Commit a) Absent = Ok Passes
acted (Commit a) (Clean w) = Ok Passes
acted (Commit a) (Dirty w) = Err CellUnfit
acted (Reconcile a) Absent = Ok Passes
acted (Reconcile a) (Clean w) = Err CellUnfit
acted (Reconcile a) (Dirty w) = Ok Passes
acted (Fence k f s) c = Ok Passes

-- a recorded word, if there is one, is the word loaded
abbrev pub agreed : {W : Type 0} → (W → W → Bool) → Option W → Effect W → Result (Unit {0}) StepFault
agreed alike None e = Ok tt
agreed alike (Some v) (Loads w) = pass (alike v w) WordDiffers
agreed alike (Some v) (Stores w) = Err WordDiffers
agreed alike (Some v) Passes = Err WordDiffers

-- the step list has a row for one more step
abbrev pub room_in : ℕ → ℕ → Result (Unit {0}) StepFault
room_in used rows = pass (nat_lt used (min rows 4096)) StepsFull

-- what performing the row would do
abbrev pub plan_of : {W : Type 0} → (W → W → Bool) → CodeRow W → Cell W → Option W → Result (Plan W) StepFault
plan_of alike row cell recorded =
    and_then (acted row.instruction cell) (λ effect.
    and_then (agreed alike recorded effect) (λ _.
    Ok (record { row = row; effect = effect })))

-- what performing at a position would do
abbrev pub weighed : {W : Type 0} → (W → W → Bool) → World W → ℕ → ℕ → Option W → Result (Plan W) StepFault
weighed alike w card position recorded =
    and_then (chosen w card position) (λ row.
    plan_of alike row (cell_at w.cells (length w.memory) card (address_of row.instruction)) recorded)

-- the same, if the step list has room
abbrev pub decided : {W : Type 0} → (W → W → Bool) → World W → ℕ → ℕ → Option W → Result (Plan W) StepFault
decided alike w card position recorded =
    and_then (weighed alike w card position recorded) (λ plan.
    and_then (room_in w.used (length w.steps)) (λ _.
    Ok plan))

-- the word that performing answers: that of a Loadl
abbrev pub answered : {W : Type 0} → Effect W → Option W
answered (Loads w) = Some w
answered (Stores w) = None
answered Passes = None

-- the row of the step list
abbrev pub step_of : {W : Type 0} → ℕ → ℕ → Effect W → StepRow W
step_of card position (Loads w) = Loaded card position w
step_of card position (Stores w) = Performed card position
step_of card position Passes = Performed card position

-- the cells afterwards: a Storel leaves its cell dirty with its word
abbrev pub cells_after : {W : Type 0} → List (Cell W) → ℕ → Effect W → List (Cell W)
cells_after cells at (Loads w) = cells
cells_after cells at (Stores w) = slice_set cells at (Dirty w)
cells_after cells at Passes = cells

abbrev pub row_performed : {W : Type 0} → CodeRow W → CodeRow W
row_performed row = record { instruction = row.instruction; entry = row.entry; performed = true }

abbrev pub applied : {W : Type 0} → World W → ℕ → ℕ → Plan W → World W
applied w card position plan = record {
  count = w.count;
  raw = w.raw;
  used = w.used + 1;
  memory = w.memory;
  cards = slice_set w.cards card (spent (slice_index_or w.cards card no_card));
  code = slice_set w.code (256 * card + position) (row_performed plan.row);
  cells = cells_after w.cells (card * length w.memory + address_of plan.row.instruction) plan.effect;
  steps = slice_set w.steps w.used (step_of card position plan.effect);
}

abbrev pub carried_out : {W : Type 0} → World W → ℕ → ℕ → Result (Plan W) StepFault → Outcome (Option W) W
carried_out w card position (Ok plan) = record { answer = Ok (answered plan.effect); after = applied w card position plan }
carried_out w card position (Err e) = record { answer = Err e; after = w }

-- performing, with a recorded word or without
abbrev pub performed : {W : Type 0} → (W → W → Bool) → World W → ℕ → ℕ → Option W → Outcome (Option W) W
performed alike w card position recorded = carried_out w card position (decided alike w card position recorded)

-- the cell of a card's address, in a memory of that size
abbrev pub cell_in : {W : Type 0} → List (Cell W) → ℕ → ℕ → ℕ → Result (Cell W) StepFault
cell_in cells size card address = need (nat_lt address size) (slice_index_or cells (card * size + address) no_cell) NoSuchAddress

-- what a background step asks before it looks at its cell: the cell
abbrev pub reached : {W : Type 0} → World W → ℕ → ℕ → Result (Cell W) StepFault
reached w card address = and_then (card_known w card) (λ held. cell_in w.cells (length w.memory) card address)

-- cache needs an absent cell; writeback a dirty one, and carries its word; purge a clean one
abbrev pub absent_in : {W : Type 0} → Cell W → Result (Unit {0}) StepFault
absent_in Absent = Ok tt
absent_in (Clean v) = Err CellUnfit
absent_in (Dirty v) = Err CellUnfit

abbrev pub dirty_in : {W : Type 0} → Cell W → Result W StepFault
dirty_in Absent = Err CellUnfit
dirty_in (Clean v) = Err CellUnfit
dirty_in (Dirty v) = Ok v

abbrev pub clean_in : {W : Type 0} → Cell W → Result (Unit {0}) StepFault
clean_in Absent = Err CellUnfit
clean_in (Clean v) = Ok tt
clean_in (Dirty v) = Err CellUnfit

-- a memory's refusal as a step's
abbrev pub from_memory : {X : Type 0} → Result X MemoryFault → Result X StepFault
from_memory (Ok x) = Ok x
from_memory (Err e) = Err (Memory e)

-- the run after a background step: one cell, one row of the step list, and the memory
abbrev pub moved : {W : Type 0} → World W → ℕ → ℕ → Cell W → StepRow W → List W → World W
moved w card address cell step words = record {
  count = w.count;
  raw = w.raw;
  used = w.used + 1;
  memory = words;
  cards = w.cards;
  code = w.code;
  cells = slice_set w.cells (card * length w.memory + address) cell;
  steps = slice_set w.steps w.used step;
}

-- the word that a cache step copies, from the cell on
abbrev pub to_cache : {W : Type 0} → List W → ℕ → Cell W → ℕ → ℕ → Result W StepFault
to_cache words address cell used rows =
    and_then (absent_in cell) (λ _.
    and_then (room_in used rows) (λ _.
    from_memory (read_of words address)))

abbrev pub cacheable : {W : Type 0} → World W → ℕ → ℕ → Result W StepFault
cacheable w card address = and_then (reached w card address) (λ cell. to_cache w.memory address cell w.used (length w.steps))

abbrev pub cache_done : {W : Type 0} → World W → ℕ → ℕ → Result W StepFault → Outcome (Unit {0}) W
cache_done w card address (Ok v) = record { answer = Ok tt; after = moved w card address (Clean v) (Cached card address) w.memory }
cache_done w card address (Err e) = record { answer = Err e; after = w }

abbrev pub cached : {W : Type 0} → World W → ℕ → ℕ → Outcome (Unit {0}) W
cached w card address = cache_done w card address (cacheable w card address)

-- the word that a writeback carries, from the cell on
abbrev pub to_write : {W : Type 0} → Cell W → ℕ → ℕ → Result W StepFault
to_write cell used rows =
    and_then (dirty_in cell) (λ v.
    and_then (room_in used rows) (λ _.
    Ok v))

abbrev pub writable : {W : Type 0} → World W → ℕ → ℕ → Result W StepFault
writable w card address = and_then (reached w card address) (λ cell. to_write cell w.used (length w.steps))

abbrev pub write_done : {W : Type 0} → World W → ℕ → ℕ → Result W StepFault → Outcome (Unit {0}) W
write_done w card address (Ok v) = record { answer = Ok tt; after = moved w card address (Clean v) (WrittenBack card address) (slice_set w.memory address v) }
write_done w card address (Err e) = record { answer = Err e; after = w }

abbrev pub written_back : {W : Type 0} → World W → ℕ → ℕ → Outcome (Unit {0}) W
written_back w card address = write_done w card address (writable w card address)

-- whether a purge may drop the copy, from the cell on
abbrev pub to_purge : {W : Type 0} → Cell W → ℕ → ℕ → Result (Unit {0}) StepFault
to_purge cell used rows = and_then (clean_in cell) (λ _. room_in used rows)

abbrev pub purgeable : {W : Type 0} → World W → ℕ → ℕ → Result (Unit {0}) StepFault
purgeable w card address = and_then (reached w card address) (λ cell. to_purge cell w.used (length w.steps))

abbrev pub purge_done : {W : Type 0} → World W → ℕ → ℕ → Result (Unit {0}) StepFault → Outcome (Unit {0}) W
purge_done w card address (Ok u) = record { answer = Ok tt; after = moved w card address Absent (Purged card address) w.memory }
purge_done w card address (Err e) = record { answer = Err e; after = w }

abbrev pub purged : {W : Type 0} → World W → ℕ → ℕ → Outcome (Unit {0}) W
purged w card address = purge_done w card address (purgeable w card address)
