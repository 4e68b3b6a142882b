-- What a table holds after a write.
use Rattle.std.specs.Prelude.{List, ◌++◌, length, take, drop}

-- the new rows in the first places, as many as there is room for, and the old rows behind them
abbrev pub laid_over : {A : Type 0} → List A → List A → List A
laid_over new old = take (length old) new ++ drop (length new) old
