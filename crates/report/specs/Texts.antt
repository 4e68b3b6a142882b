-- A text: what it holds, and what adding to it leaves.
use Rattle.std.specs.Prelude.{◌≡◌, ℕ, ◌+◌, Bool, true, false, List, ◌++◌, length, take, drop, Ok, Err, Result, nat_le}
use Rattle.report.specs.declared.text.Text.{Text}
use Rattle.report.specs.declared.text.TextFault.{TextFault}
use Rattle.report.specs.declared.text.TextFault.TheVariants.{Full}

-- the number of each refusal of a text
abbrev pub text_fault_number : TextFault → ℕ
text_fault_number Full = 18

-- a text as a value: its whole table, and how many of the first bytes are written
pub record Page : Type 0 where
  pub bytes : List ℕ
  pub len : ℕ

abbrev pub page_of : Text → Page
page_of t = record { bytes = t.bytes.now; len = t.len }

-- a table in which nothing is written yet
abbrev pub empty_page : List ℕ → Page
empty_page table = record { bytes = table; len = 0 }

-- the page with `part` behind what was written; the bytes past it are as they were
abbrev pub added : Page → List ℕ → Page
added page part = record {
  bytes = take page.len page.bytes ++ (part ++ drop (page.len + length part) page.bytes);
  len = page.len + length part;
}

-- `part`, put behind what is written, ends within the table
abbrev pub ends_within : Page → List ℕ → Bool
ends_within page part = nat_le (page.len + length part) (length page.bytes)

-- what appending answers and leaves: the part whole, or a refusal and all as it was
abbrev pub Appended : Page → List ℕ → Page → Result (Unit {0}) TextFault → Type 0
Appended before part after (Ok _) = (ends_within before part ≡ true) × (after ≡ added before part)
Appended before part after (Err fault) = (ends_within before part ≡ false) × (after ≡ before) × (text_fault_number fault ≡ 18)
