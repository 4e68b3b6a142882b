-- What printing answers and leaves.
use Rattle.std.specs.Prelude.{◌≡◌, ℕ, ◌+◌, ◌-◌, ◌*◌, ◌<◌, ◌≤◌, Bool, true, false, cond, List, [], ◌∷◌, ◌++◌, length, Ok, Err, Result, nat_le}
use Rattle.report.specs.declared.line.Line.{Line}
use Rattle.report.specs.declared.text.TextFault.{TextFault}
use Rattle.report.specs.Lines.{line_bytes, lines_bytes}
use Rattle.report.specs.Texts.{Page, added, text_fault_number}

-- how many bytes are free behind what is written; none where the length is past the table
abbrev pub room_of : Page → ℕ
room_of page = length page.bytes - page.len

-- so many bytes have room for `part`
abbrev pub fits : ℕ → List ℕ → Bool
fits room part = nat_le (length part) room

-- the first of the lines, as many as have room one after another: up to the first that has none
unfoldable pub fitting_lines : ℕ → List Line → List Line
fitting_lines room [] = []
fitting_lines room (first ∷ rest) = cond (fits room (line_bytes first)) (first ∷ fitting_lines (room - length (line_bytes first)) rest) []

-- one line: it is there whole, or it is refused 18 for want of room and all is as it was
abbrev pub Printed : {X : Type 0} → Page → Line → Page → Result X TextFault → Type 0
Printed before line after (Ok _) = (fits (room_of before) (line_bytes line) ≡ true) × (after ≡ added before (line_bytes line))
Printed before line after (Err fault) = (fits (room_of before) (line_bytes line) ≡ false) × (after ≡ before) × (text_fault_number fault ≡ 18)

-- several lines: all are there, or those that fit are, each whole, and the next is refused 18
abbrev pub AllPrinted : {X : Type 0} → Page → List Line → Page → Result X TextFault → Type 0
AllPrinted before lines after (Ok _) = (fits (room_of before) (lines_bytes lines) ≡ true) × (after ≡ added before (lines_bytes lines))
AllPrinted before lines after (Err fault) =
    (fits (room_of before) (lines_bytes lines) ≡ false)
    × (after ≡ added before (lines_bytes (fitting_lines (room_of before) lines)))
    × (text_fault_number fault ≡ 18)

-- the same in other words: printing stopped after some first lines, which fit whole, before the next, which has no room behind them
pub record Stopped (before : Page) (lines : List Line) (after : Page) : Type 0 where
  pub first : List Line
  pub next : Line
  pub rest : List Line
  pub in_turn : lines ≡ first ++ (next ∷ rest)
  pub whole : fits (room_of before) (lines_bytes first) ≡ true
  pub there : after ≡ added before (lines_bytes first)
  pub no_room : fits (room_of after) (line_bytes next) ≡ false

-- printing `count` lines of at most `most` bytes each: that much room suffices, and no more is used
abbrev pub Roomy : {X : Type 0} → ℕ → ℕ → Page → Page → Result X TextFault → Type 0
Roomy most count before after (Ok _) = room_of before ≤ room_of after + most * count
Roomy most count before after (Err fault) = room_of before < most * count

-- lines printed into a table: it holds them all in its first bytes, as many as are answered, or, with 18, the first lines that fit
abbrev pub TextPrinted : Page → List Line → List ℕ → Result ℕ TextFault → Type 0
TextPrinted before lines table (Ok n) = AllPrinted before lines (record { bytes = table; len = n }) (Ok n)
TextPrinted before lines table (Err fault) =
    (fits (room_of before) (lines_bytes lines) ≡ false)
    × (table ≡ (added before (lines_bytes (fitting_lines (room_of before) lines))).bytes)
    × (text_fault_number fault ≡ 18)
