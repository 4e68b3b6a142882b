use Rattle.std.proofs.Common.{leb, map, length, refl, arith}
use Rattle.std.proofs.lemmas.Bool.{and_right, lt-leb}
use Rattle.files.specs.DayWriting.{day_length}
use Rattle.files.proofs.Days.{next_run}
use Rattle.files.proofs.day_write.day_length.Goals as goal

pub returns-then-run-end : goal.returns-then-run-end
returns-then-run-end c =
    let rs = map (λ x. x.now) c.args.runs.now in
    let r = next_run c.args.runs.now c.loop-run.run-index (omega arith) in
    (and_right (leb (length rs) 32) (leb (day_length rs) 65536) (lt-leb (day_length rs) 65536 (omega arith)), refl)

pub loop-run-preserved : goal.loop-run-preserved
loop-run-preserved c =
    let r = next_run c.args.runs.now c.loop-run.run-index (omega arith) in
    (omega arith, omega arith)
