-- A day file: a count, then the offset and the length of each run, then the runs.
use Rattle.std.specs.Prelude.{◌≡◌, ℕ, zero, suc, ◌+◌, ◌*◌, ◌<◌, ◌≤◌, Bool, cond, ◌&&◌, List, length, Some, None, Option, ◌==◌, nat_le, nat_lt}
use Rattle.memory.specs.Bytes.{number_at}
use Rattle.files.specs.Bytes.{part}

-- how many runs the header announces: none where the file has no room for the count
abbrev pub run_count : List ℕ → ℕ
run_count bs = cond (nat_lt (length bs) 4) 0 (number_at bs 0)

-- where run n starts
abbrev pub offset_of : List ℕ → ℕ → ℕ
offset_of bs n = number_at bs (4 + 8 * n)

-- how many bytes run n has
abbrev pub length_of : List ℕ → ℕ → ℕ
length_of bs n = number_at bs (8 + 8 * n)

-- where the header ends, and the runs start
abbrev pub runs_start : List ℕ → ℕ
runs_start bs = 4 + 8 * run_count bs

-- at most 65,536 bytes
abbrev pub day_fits : List ℕ → Bool
day_fits bs = nat_le (length bs) 65536

-- at most 32 runs
abbrev pub count_fits : List ℕ → Bool
count_fits bs = nat_le (run_count bs) 32

-- there is room for the header
abbrev pub has_runs_table : List ℕ → Bool
has_runs_table bs = nat_le (runs_start bs) (length bs)

-- k runs from run n on lie without a gap from byte `at` to the file's end
unfoldable pub gapless : List ℕ → ℕ → ℕ → ℕ → Bool
gapless bs zero n at = at == length bs
gapless bs (suc k) n at = offset_of bs n == at && gapless bs k (n + 1) (at + length_of bs n)

-- a day file's header is as the layout and the bounds say
abbrev pub sound_day : List ℕ → Bool
sound_day bs = day_fits bs && count_fits bs && has_runs_table bs && gapless bs (run_count bs) 0 (runs_start bs)

-- the bytes of run n, where the file has them
abbrev pub run_part : List ℕ → ℕ → List ℕ
run_part bs n = part bs (offset_of bs n) (length_of bs n)

-- run n: it is announced, its offset and length stand in the file, and so do its bytes
abbrev pub has_run : List ℕ → ℕ → Bool
has_run bs n = nat_lt n (run_count bs) && nat_le (12 + 8 * n) (length bs) && nat_le (offset_of bs n + length_of bs n) (length bs)

-- the bytes of run n, for any file
abbrev pub run_part_of : List ℕ → ℕ → Option (List ℕ)
run_part_of bs n = cond (has_run bs n) (Some (run_part bs n)) None

-- `shown` is run n of a sound day, and `place` is its place
pub record RunOf (bs : List ℕ) (n : ℕ) (shown : List ℕ) (place : ℕ) : Type 0 where
  pub announced : n < run_count bs
  pub bytes : shown ≡ run_part bs n
  pub kept : place ≡ n
  pub fits : length shown ≤ 65536
