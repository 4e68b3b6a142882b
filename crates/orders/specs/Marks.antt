-- The codes of marks in files.
use Rattle.std.specs.Prelude.{ℕ, cond, Ok, Err, Result, ◌==◌}
use Rattle.orders.specs.declared.entries.Mark.{Mark}
use Rattle.orders.specs.declared.entries.Mark.TheVariants.{Plain, Acquire, Release}
use Rattle.orders.specs.declared.entries.UnknownMark.{UnknownMark}

-- the code of each mark
abbrev pub mark_code : Mark → ℕ
mark_code Plain = 0
mark_code Acquire = 1
mark_code Release = 2

-- the mark of a code, or that it is no mark's
abbrev pub mark_named : ℕ → Result Mark UnknownMark
mark_named c = cond (c == 0) (Ok Plain) (cond (c == 1) (Ok Acquire) (cond (c == 2) (Ok Release) (Err (record {}))))
