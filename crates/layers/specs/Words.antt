-- What each memory means, by its parts.
use Rattle.std.specs.Prelude.{ℕ, List, ◌∷◌, ◌++◌}
use Rattle.memory.specs.declared.byte_table.ByteTable.{ByteTable}
use Rattle.memory.specs.declared.word_table.WordTable.{WordTable}
use Rattle.memory.specs.Bytes.{words_of}
use Rattle.memory.specs.Meaning.{shown}
use Rattle.layers.specs.declared.window.Window.{Window}
use Rattle.layers.specs.declared.banks.Banks.{Banks}
use Rattle.layers.specs.declared.write_buffer.WriteBuffer.{WriteBuffer}
use Rattle.layers.specs.Window.{window_of}
use Rattle.layers.specs.Banks.{banks_of}
use Rattle.layers.specs.Buffer.{with_held}

-- a layer's words, by what the memories below mean
abbrev pub window_words : {M W : Type 0} → (M → List W) → Window M → List W
window_words below m = window_of m.first m.count (below m.below)

abbrev pub banks_words : {E O W : Type 0} → (E → List W) → (O → List W) → Banks E O → List W
banks_words even odd m = banks_of (even m.even) (odd m.odd)

abbrev pub buffer_words : {M W : Type 0} → (M → List W) → WriteBuffer M W → List W
buffer_words below m = with_held m.held (below m.below)

-- what no call on a layer changes: its own numbers, and what no call changes below
abbrev pub window_fixed : {M : Type 0} → (M → List ℕ) → Window M → List ℕ
window_fixed below m = m.first ∷ m.count ∷ below m.below

abbrev pub banks_fixed : {E O : Type 0} → (E → List ℕ) → (O → List ℕ) → Banks E O → List ℕ
banks_fixed even odd m = even m.even ++ odd m.odd

-- the words that a table shows as a memory
abbrev pub table_words : {W : Type 0} → WordTable W → List W
table_words t = shown t.words.now

abbrev pub byte_words : ByteTable → List ℕ
byte_words t = shown (words_of t.bytes.now)

-- the ghost name of the lent table under a memory: the same name is the same table
abbrev pub table_name : {W : Type 0} → WordTable W → ℕ
table_name t = t.words.ghost_name

abbrev pub byte_name : ByteTable → ℕ
byte_name t = t.bytes.ghost_name
