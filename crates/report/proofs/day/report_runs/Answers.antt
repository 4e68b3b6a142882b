use Rattle.std.proofs.Common.{◌≡◌, suc, ◌+◌, ◌-◌, ◌∙◌, arith}
use Rattle.std.proofs.lemmas.Result.{err_from_is_err_and}
use Rattle.std.proofs.lemmas.Grind.{common_steps}
use Rattle.report.specs.Texts.{page_of}
use Rattle.report.proofs.Days.{counted, counted_few, ended, one_on, refused}
use Rattle.report.proofs.day.report_runs.Goals as goal

pub returns-in_err-report_nth-clause-printed : goal.returns-in_err-report_nth-clause-printed
returns-in_err-report_nth-clause-printed c =
    let p = err_from_is_err_and c.from_residual.result c.from_residual.ensures.1 in
    let left : c.count-n-end.result - c.loop-n.n ≡ suc (c.count-n-end.result - (c.loop-n.n + 1)) = omega arith in
    rw (p.1, p.2) (refused c.args.day.now.bytes.now _ (page_of c.loop-n.text) _ _ _ c.loop-n.n _ _ c.loop-n.invariant.underway left c.in_err-report_nth.ensures.printed)

pub loop-n-preserved : goal.loop-n-preserved
loop-n-preserved c =
    let e = c.in_ok-report_nth.ensures in
    let i = c.loop-n.invariant in
    let left : c.count-n-end.result - c.loop-n.n ≡ suc (c.count-n-end.result - (c.loop-n.n + 1)) = omega arith in
    record {
      underway = one_on c.args.day.now.bytes.now _ (page_of c.loop-n.text) _ _ _ c.loop-n.n _ _ i.underway left e.printed (counted _ _ _ _ c.from.ensures e.ok);
      few = counted_few _ _ _ _ c.from.ensures i.few;
      heading = e.heading ∙ i.heading;
      same = e.same ∙ i.same;
      room = grind (arith, common_steps);
    }

pub returns-clause-printed : goal.returns-clause-printed
returns-clause-printed c = (ended c.args.day.now.bytes.now _ (page_of c.loop-n.text) _ _ _ c.loop-n.invariant.underway (omega arith)).0

pub returns-clause-ok : goal.returns-clause-ok
returns-clause-ok c = (ended c.args.day.now.bytes.now _ (page_of c.loop-n.text) _ _ _ c.loop-n.invariant.underway (omega arith)).1
