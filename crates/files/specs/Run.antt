-- A run file: which bytes are one, and its sections.
use Rattle.std.specs.Prelude.{ℕ, ◌*◌, Bool, ◌&&◌, List, length, nat_le}
use Rattle.files.specs.Bytes.{part}
use Rattle.files.specs.Header.{fields_of, entries_start, steps_start, in_bounds, laid_out}

-- there is room for a header
abbrev pub has_header : List ℕ → Bool
has_header bs = nat_le 32 (length bs)

-- a run file's header is as the bounds and the layout say
abbrev pub sound_run : List ℕ → Bool
sound_run bs = has_header bs && in_bounds (fields_of bs) && laid_out (fields_of bs) (length bs)

-- the initial words
abbrev pub words_section : List ℕ → List ℕ
words_section bs = part bs 32 (4 * (fields_of bs).size)

-- the entries, right behind them
abbrev pub entries_section : List ℕ → List ℕ
entries_section bs = part bs (entries_start (fields_of bs)) (12 * (fields_of bs).entries)

-- the steps, right behind those
abbrev pub steps_section : List ℕ → List ℕ
steps_section bs = part bs (steps_start (fields_of bs)) (12 * (fields_of bs).steps)
