-- Words of four bytes, the lowest byte first.
use Rattle.std.specs.Prelude.{ℕ, suc, ◌+◌, ◌*◌, ◌/◌, ◌%◌, cond, ◌&&◌, List, [], ◌∷◌, length, nat_lt, slice_index, slice_set}

-- the number in four bytes
abbrev pub four_bytes : ℕ → ℕ → ℕ → ℕ → ℕ
four_bytes a b c d = a + b * 256 + c * 65536 + d * 16777216

-- the number in the four bytes from place i on; a byte that is not there counts as 0
unfoldable pub number_at : List ℕ → ℕ → ℕ
number_at bs i = four_bytes (slice_index bs i) (slice_index bs (i + 1)) (slice_index bs (i + 2)) (slice_index bs (i + 3))

-- the words in a list of bytes; a tail of fewer than four bytes has none
unfoldable pub words_of : List ℕ → List ℕ
words_of [] = []
words_of (a ∷ []) = []
words_of (a ∷ b ∷ []) = []
words_of (a ∷ b ∷ c ∷ []) = []
words_of (a ∷ b ∷ c ∷ d ∷ rest) = four_bytes a b c d ∷ words_of rest

-- four bytes put from place k on
abbrev pub four_put : List ℕ → ℕ → ℕ → ℕ → ℕ → ℕ → List ℕ
four_put bs k a b c d = slice_set (slice_set (slice_set (slice_set bs k a) (suc k) b) (suc (suc k)) c) (suc (suc (suc k))) d

-- a number put from place k on
abbrev pub word_put : List ℕ → ℕ → ℕ → List ℕ
word_put bs k w = four_put bs k (w % 256) (w / 256 % 256) (w / 65536 % 256) (w / 16777216 % 256)

-- a table of bytes after a write: a tail of fewer than four bytes, and bytes past the 65,536 words shown, never change
abbrev pub bytes_written : List ℕ → ℕ → ℕ → List ℕ
bytes_written bs a w = cond (nat_lt a 65536 && nat_lt (4 * a + 3) (length bs)) (word_put bs (4 * a) w) bs
