-- The lines of the report, byte for byte.
use Rattle.std.specs.Prelude.{ℕ, List, ◌++◌, codes, decimal}
use Rattle.std.specs.List.{flat_map}
use Rattle.report.specs.declared.heading.Heading.{Heading}
use Rattle.report.specs.declared.heading.Heading.TheVariants.{Day, Run}
use Rattle.report.specs.declared.line.Line.{Line}
use Rattle.report.specs.declared.line.Saying.{Saying}
use Rattle.report.specs.declared.line.Saying.TheVariants.{Ok, No, Totals, Broken}

-- `day` or `run N`
abbrev pub heading_bytes : Heading → List ℕ
heading_bytes Day = codes "day"
heading_bytes (Run n) = codes "run " ++ decimal n

-- `ok S`, `no R L P`, `N K` or `no R`
abbrev pub saying_bytes : Saying → List ℕ
saying_bytes (Ok steps) = codes "ok " ++ decimal steps
saying_bytes (No number layer place) = codes "no " ++ (decimal number ++ (codes " " ++ (decimal layer ++ (codes " " ++ decimal place))))
saying_bytes (Totals runs ok) = decimal runs ++ (codes " " ++ decimal ok)
saying_bytes (Broken number) = codes "no " ++ decimal number

-- the heading, a space, what is said, and a newline
abbrev pub line_bytes : Line → List ℕ
line_bytes x = heading_bytes x.heading ++ (codes " " ++ (saying_bytes x.saying ++ codes "\n"))

-- the lines, one after another
abbrev pub lines_bytes : List Line → List ℕ
lines_bytes lines = flat_map line_bytes lines
