-- The report of a day file: its lines.
use Rattle.std.specs.Prelude.{ℕ, zero, suc, ◌+◌, cond, List, [], ◌∷◌, ◌++◌, Ok, Err, is_ok}
use Rattle.audit.specs.Alone.{verdict_of}
use Rattle.audit.specs.Faults.{file_fault_number, file_fault_layer, file_fault_place}
use Rattle.audit.specs.Audit.{Verdict}
use Rattle.files.specs.Day.{sound_day, run_count, run_part}
use Rattle.report.specs.declared.heading.Heading.{Heading}
use Rattle.report.specs.declared.heading.Heading.TheVariants.{Run}
use Rattle.report.specs.declared.line.Line.{Line}
use Rattle.report.specs.declared.line.Saying.{Saying}
use Rattle.report.specs.declared.line.Saying.TheVariants as saying

-- what a run's line says of its verdict
abbrev pub saying_of : Verdict → Saying
saying_of (Ok steps) = saying.Ok steps
saying_of (Err fault) = saying.No (file_fault_number fault) (file_fault_layer fault) (file_fault_place fault)

-- the line of run `n`
abbrev pub run_line : ℕ → Verdict → Line
run_line n verdict = record { heading = Run n; saying = saying_of verdict }

-- the verdicts on `k` runs of a day file, from run `n` on
unfoldable pub verdicts : List ℕ → ℕ → ℕ → List Verdict
verdicts bytes zero n = []
verdicts bytes (suc k) n = verdict_of (run_part bytes n) ∷ verdicts bytes k (n + 1)

-- their lines, of which the first is that of run `n`
unfoldable pub run_lines : ℕ → List Verdict → List Line
run_lines n [] = []
run_lines n (first ∷ rest) = run_line n first ∷ run_lines (n + 1) rest

-- how many of them are ok
unfoldable pub ok_count : List Verdict → ℕ
ok_count [] = 0
ok_count (first ∷ rest) = cond (is_ok first) 1 0 + ok_count rest

-- the verdicts on all runs of a day file
abbrev pub day_verdicts : List ℕ → List Verdict
day_verdicts bytes = verdicts bytes (run_count bytes) 0

-- the day's own line, under the heading that is open when the report begins
abbrev pub totals_line : Heading → List ℕ → Line
totals_line heading bytes = record { heading = heading; saying = saying.Totals (run_count bytes) (ok_count (day_verdicts bytes)) }

abbrev pub broken_line : Heading → Line
broken_line heading = record { heading = heading; saying = saying.Broken 15 }

-- a line for each run, then the day's; only the refusal of the header where that is broken
abbrev pub report_lines : Heading → List ℕ → List Line
report_lines heading bytes = cond (sound_day bytes) (run_lines 0 (day_verdicts bytes) ++ (totals_line heading bytes ∷ [])) (broken_line heading ∷ [])
