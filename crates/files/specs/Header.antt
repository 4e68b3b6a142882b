-- The header of a run file: eight numbers, their bounds, and where they put the sections.
use Rattle.std.specs.Prelude.{ℕ, ◌+◌, ◌*◌, Bool, ◌&&◌, List, Some, None, Option, ◌==◌, nat_le}
use Rattle.orders.specs.declared.chosen.AnyOrder.{AnyOrder}
use Rattle.orders.specs.declared.chosen.AnyOrder.TheVariants.{Tso}
use Rattle.orders.specs.Chosen.{order_by_code}
use Rattle.memory.specs.Bytes.{number_at}
use Rattle.files.specs.declared.header.Fields.{Fields}
use Rattle.files.specs.declared.header.Header.{Header}

-- the eight numbers of a header, in turn
abbrev pub fields_of : List ℕ → Fields
fields_of bs = record {
  cards = number_at bs 0;
  size = number_at bs 4;
  code = number_at bs 8;
  entries = number_at bs 12;
  entries_at = number_at bs 16;
  steps = number_at bs 20;
  steps_at = number_at bs 24;
  words_at = number_at bs 28;
}

-- where the entries start: behind the initial words, which start at byte 32 and have four bytes each
abbrev pub entries_start : Fields → ℕ
entries_start h = 32 + 4 * h.size

-- where the steps start: behind the entries, which have 12 bytes each
abbrev pub steps_start : Fields → ℕ
steps_start h = entries_start h + 12 * h.entries

-- where the file ends: behind the steps, which have 12 bytes each
abbrev pub file_end : Fields → ℕ
file_end h = steps_start h + 12 * h.steps

-- one to eight cards
abbrev pub cards_fit : Fields → Bool
cards_fit h = nat_le 1 h.cards && nat_le h.cards 8

-- a memory of 1 to 1,024 words
abbrev pub size_fits : Fields → Bool
size_fits h = nat_le 1 h.size && nat_le h.size 1024

-- the code of a memory order, or 0
abbrev pub order_known : Fields → Bool
order_known h = nat_le h.code 6

-- at most 512 entries; the steps are bounded by the file's length alone
abbrev pub entries_fit : Fields → Bool
entries_fit h = nat_le h.entries 512

-- all bounds
abbrev pub in_bounds : Fields → Bool
in_bounds h = cards_fit h && size_fits h && order_known h && entries_fit h

-- each offset is the place where its section starts
abbrev pub words_placed : Fields → Bool
words_placed h = h.words_at == 32

-- the entries' offset
abbrev pub entries_placed : Fields → Bool
entries_placed h = h.entries_at == entries_start h

-- the steps' offset
abbrev pub steps_placed : Fields → Bool
steps_placed h = h.steps_at == steps_start h

-- the layout of a file of `len` bytes
abbrev pub laid_out : Fields → ℕ → Bool
laid_out h len = words_placed h && entries_placed h && steps_placed h && file_end h == len

-- the memory order of a run: tso where none was handed
abbrev pub order_meant : Option AnyOrder → AnyOrder
order_meant (Some o) = o
order_meant None = Tso

-- what a header tells of the run; code 0 says that no memory order was handed
abbrev pub header_in : Fields → Header
header_in h = record { cards = h.cards; size = h.size; order = order_by_code h.code; entries = h.entries; steps = h.steps }

-- the same, from the file's bytes
abbrev pub header_of : List ℕ → Header
header_of bs = header_in (fields_of bs)
