-- Opening a draft, adding to it, starting it.
use Rattle.std.specs.Prelude.{ℕ, ◌+◌, ◌*◌, min, Bool, true, ◌&&◌, List, length, Ok, Err, Result, nat_le, nat_lt, slice_index_or, slice_set}
use Rattle.crf.specs.Fences.{Row}
use Rattle.crf.specs.declared.instruction.Instruction.{Instruction}
use Rattle.crf.specs.declared.instruction.Instruction.TheVariants.{Loadl, Storel, Commit, Reconcile, Fence}
use Rattle.orders.specs.Translation.{translated, shape_of}
use Rattle.orders.specs.declared.entries.Entry.{Entry}
use Rattle.orders.specs.declared.entries.Entry.TheVariants as entry
use Rattle.orders.specs.declared.entries.Shape.{Shape}
use Rattle.run.specs.declared.fault.LifeFault.{LifeFault}
use Rattle.run.specs.declared.fault.LifeFault.TheVariants as life
use Rattle.run.specs.declared.fault.ProgramFault.{ProgramFault}
use Rattle.run.specs.declared.fault.ProgramFault.TheVariants as program
use Rattle.run.specs.declared.rows.CodeRow.{CodeRow}
use Rattle.run.specs.declared.rows.CardRecord.{CardRecord}
use Rattle.run.specs.Chain.{and_then, need, pass}
use Rattle.run.specs.Rows.{no_card, pending_row, pending_rows, laid, grown, filled}

-- a draft and the tables lent to its calls, as one value; `memory` is what its memory means, the initial words
pub record Drafted (W : Type 0) : Type 0 where
  pub count : ℕ
  pub raw : Bool
  pub memory : List W
  pub cards : List CardRecord
  pub code : List (CodeRow W)

-- may a draft of that many cards over that many words be opened; a table of 8 card records is never too short
abbrev pub openable : ℕ → ℕ → ℕ → Result (Unit {0}) LifeFault
openable count size rows =
    and_then (pass (nat_le (min count 8) rows) life.TooShort) (λ _.
    pass ((nat_le 1 count && nat_le count 8) && (nat_le 1 size && nat_le size 1024)) life.OutOfBounds)

-- the card records after an opening that came out so
abbrev pub records_opened : ℕ → List CardRecord → Result (Unit {0}) LifeFault → List CardRecord
records_opened count cards (Ok u) = filled count no_card cards
records_opened count cards (Err e) = cards

-- the tables can hold the programs, and there is such a card: its record
abbrev pub card_held : {W : Type 0} → Drafted W → ℕ → Result CardRecord ProgramFault
card_held d card =
    and_then (pass (nat_le d.count (length d.cards) && nat_le (256 * d.count) (length d.code)) program.TooShort) (λ _.
    need (nat_lt card d.count) (slice_index_or d.cards card no_card) program.NoSuchCard)

-- the entry's address is below the size; a barrier has none
abbrev pub near : {W : Type 0} → ℕ → Entry W → Bool
near size (entry.Load m a) = nat_lt a size
near size (entry.Store m a w) = nat_lt a size
near size (entry.Barrier m) = true

-- the card has a place for one more entry of n instructions
abbrev pub room_for : CardRecord → ℕ → Bool
room_for c n = nat_lt c.entries 64 && nat_le (min c.length 256 + n) 256

-- may the entry go into the card's program: the card's record, or the first refusal that holds
abbrev pub placed : {W : Type 0} → (Shape → Bool) → (Shape → List Row) → (Shape → List Row) → ℕ → CardRecord → Entry W → Result CardRecord ProgramFault
placed takes before after size held e =
    and_then (pass (near size e) program.NoSuchAddress) (λ _.
    and_then (pass (takes (shape_of e)) program.NotTaken) (λ _.
    need (room_for held (length (translated before after e))) held program.NoPlace))

-- may the entry be added
abbrev pub addable : {W : Type 0} → (Shape → Bool) → (Shape → List Row) → (Shape → List Row) → Drafted W → ℕ → Entry W → Result CardRecord ProgramFault
addable takes before after d card e = and_then (card_held d card) (λ held. placed takes before after (length d.memory) held e)

-- what a call on a draft answers, and the draft that it leaves
pub record Adding (W : Type 0) : Type 0 where
  pub answer : Result (Unit {0}) ProgramFault
  pub after : Drafted W

-- the draft with more instructions on a card: the rows behind its program, of entry number `entries` of its record
abbrev pub extended : {W : Type 0} → Drafted W → ℕ → CardRecord → Bool → ℕ → List (Instruction W) → Drafted W
extended d card held raw entries is = record {
  count = d.count;
  raw = raw;
  memory = d.memory;
  cards = slice_set d.cards card (grown (slice_index_or d.cards card no_card) entries (length is));
  code = laid d.code (256 * card + min held.length 256) (pending_rows held.entries is);
}

abbrev pub entry_added : {W : Type 0} → Drafted W → ℕ → List (Instruction W) → Result CardRecord ProgramFault → Adding W
entry_added d card is (Ok held) = record { answer = Ok tt; after = extended d card held d.raw 1 is }
entry_added d card is (Err e) = record { answer = Err e; after = d }

-- adding an entry
abbrev pub added : {W : Type 0} → (Shape → Bool) → (Shape → List Row) → (Shape → List Row) → Drafted W → ℕ → Entry W → Adding W
added takes before after d card e = entry_added d card (translated before after e) (addable takes before after d card e)

-- the instruction's address is below the size; a fence has none
abbrev pub inside : {W : Type 0} → ℕ → Instruction W → Bool
inside size (Loadl a) = nat_lt a size
inside size (Storel a w) = nat_lt a size
inside size (Commit a) = nat_lt a size
inside size (Reconcile a) = nat_lt a size
inside size (Fence k f s) = true

-- may the raw instruction go into the card's program
abbrev pub raw_placed : {W : Type 0} → ℕ → CardRecord → Instruction W → Result CardRecord ProgramFault
raw_placed size held i =
    and_then (pass (inside size i) program.NoSuchAddress) (λ _.
    need (nat_lt held.length 256) held program.NoPlace)

-- may the raw instruction be added
abbrev pub raw_addable : {W : Type 0} → Drafted W → ℕ → Instruction W → Result CardRecord ProgramFault
raw_addable d card i = and_then (card_held d card) (λ held. raw_placed (length d.memory) held i)

abbrev pub raw_entered : {W : Type 0} → Drafted W → ℕ → Instruction W → Result CardRecord ProgramFault → Adding W
raw_entered d card i (Ok held) = record {
  answer = Ok tt;
  after = record {
    count = d.count;
    raw = true;
    memory = d.memory;
    cards = slice_set d.cards card (grown (slice_index_or d.cards card no_card) 0 1);
    code = slice_set d.code (256 * card + held.length) (pending_row held.entries i);
  };
}
raw_entered d card i (Err e) = record { answer = Err e; after = d }

-- adding a raw instruction
abbrev pub raw_added : {W : Type 0} → Drafted W → ℕ → Instruction W → Adding W
raw_added d card i = raw_entered d card i (raw_addable d card i)

-- may the draft be started: the table has a cell for each card and address
abbrev pub startable : ℕ → ℕ → ℕ → Result (Unit {0}) LifeFault
startable count size cells = pass (nat_le (count * size) cells) life.TooShort
