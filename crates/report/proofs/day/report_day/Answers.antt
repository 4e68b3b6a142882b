use Rattle.std.proofs.lemmas.Result.{err_from_is_err_and}
use Rattle.report.proofs.Days.{broken_report, cut_report, sound_report}
use Rattle.report.specs.Texts.{page_of}
use Rattle.report.proofs.Prints.{stops_by}
use Rattle.report.proofs.day.report_day.Goals as goal
use Rattle.report.proofs.day.report_day.Goals.{in-Err, in-Ok+in_ok-report_runs-in-Ok}

pub returns-in_err-report_runs-in-Ok-clause-printed : goal.returns-in_err-report_runs-in-Ok-clause-printed
returns-in_err-report_runs-in-Ok-clause-printed c =
    let o = c.in-Ok.ensures in
    let p = err_from_is_err_and c.from_residual.result c.from_residual.ensures.1 in
    rw (p.1, p.2) (cut_report _ _ c.args.kept.now.heading _ _ o.1 o.0 c.in_err-report_runs-in-Ok.field-0.0 c.in_err-report_runs-in-Ok.ensures.printed)

pub returns-in_err-report_runs-in-Ok-clause-stops : goal.returns-in_err-report_runs-in-Ok-clause-stops
returns-in_err-report_runs-in-Ok-clause-stops c = stops_by _ _ _ c.from_residual.result (returns-in_err-report_runs-in-Ok-clause-printed c)

pub returns-clause-printed : goal.returns-clause-printed
returns-clause-printed c = elim c.match-open.branch [
  | in-Err w ↦
      let o = w.in-Err.ensures in
      broken_report _ _ _ c.args.kept.now.heading c.args.input.now _ c.print.result o.0 (cc) (cc) c.print.ensures.printed
  | in-Ok+in_ok-report_runs-in-Ok w ↦
      let o = w.in-Ok.ensures in
      let e = w.in_ok-report_runs-in-Ok.ensures in
      sound_report _ _ c.args.kept.now.heading w.in-Ok.day.bytes.now _ o.1 o.0 (page_of w.report_runs.new.text) _ w.in_ok-report_runs-in-Ok.field-0 _ c.print.result (cc) (cc) e.printed c.print.ensures.printed
]

pub returns-clause-stops : goal.returns-clause-stops
returns-clause-stops c = stops_by _ _ _ c.print.result (returns-clause-printed c)
