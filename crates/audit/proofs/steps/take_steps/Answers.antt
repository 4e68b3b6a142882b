use Rattle.std.proofs.Common.{◌≡◌, ◌+◌, ◌-◌, Ok, Err, sym, ◌∙◌, arith, rules}
use Rattle.audit.specs.declared.fault.RowFault.{RowFault}
use Rattle.audit.specs.Records.{step_one}
use Rattle.audit.proofs.Turns.{worked_next, worked_stop, worked_end}
use Rattle.audit.proofs.steps.take_steps.Goals as goal

pub returns-in_err-map_err-clause-worked : goal.returns-in_err-map_err-clause-worked
returns-in_err-map_err-clause-worked g c =
    let n = c.loop-n.n-counter in
    let f = c.args.file.now in
    let s = λ (x : RowFault) (e : c.take_step.result ≡ Err x). sym (worked_stop (step_one f.steps.now) (f.header.steps - n) n _ _ _ (omega arith) c.take_step.ensures.taken x e) ∙ c.loop-n.invariant.left in
    search rules

pub loop-n-preserved : goal.loop-n-preserved
loop-n-preserved g c =
    let n = c.loop-n.n-counter in
    let f = c.args.file.now in
    let a : c.take_step.result ≡ Ok tt = search rules in
    let k : f.header.steps - n - 1 ≡ f.header.steps - (n + 1) = omega arith in
    record {
      left = rw (← k) (sym (worked_next (step_one f.steps.now) (f.header.steps - n) n _ _ _ (omega arith) c.take_step.ensures.taken a) ∙ c.loop-n.invariant.left);
      same = search rules;
    }

pub returns-clause-worked : goal.returns-clause-worked
returns-clause-worked g c =
    let f = c.args.file.now in
    sym (worked_end (step_one f.steps.now) (f.header.steps - c.loop-n.n-counter) c.loop-n.n-counter _ (omega arith)) ∙ c.loop-n.invariant.left
