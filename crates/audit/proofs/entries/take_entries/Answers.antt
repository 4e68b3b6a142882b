use Rattle.std.proofs.Common.{◌≡◌, ◌+◌, ◌-◌, Ok, Err, sym, ap, ◌∙◌, arith, rules}
use Rattle.run.specs.Runs.{draft_of}
use Rattle.audit.specs.declared.fault.RowFault.{RowFault}
use Rattle.audit.specs.Records.{entry_one}
use Rattle.audit.proofs.Turns.{worked_next, worked_stop, worked_end}
use Rattle.audit.proofs.entries.take_entries.Goals as goal

pub returns-in_err-map_err-clause-worked : goal.returns-in_err-map_err-clause-worked
returns-in_err-map_err-clause-worked g c =
    let n = c.loop-n.n-counter in
    let f = c.args.file.now in
    let d = draft_of g.M.Memory.meaning c.loop-n.draft c.loop-n.cards c.loop-n.code in
    let q = c.take_entry.ensures.taken ∙ ap (λ o. entry_one o f.entries.now n d) (ap (λ x. x.order) c.loop-n.invariant.same) in
    let s = λ (x : RowFault) (e : c.take_entry.result ≡ Err x). sym (worked_stop (entry_one c.args.draft.now.order f.entries.now) (f.header.entries - n) n d _ _ (omega arith) q x e) ∙ c.loop-n.invariant.left in
    search rules

pub loop-n-preserved : goal.loop-n-preserved
loop-n-preserved g c =
    let n = c.loop-n.n-counter in
    let f = c.args.file.now in
    let d = draft_of g.M.Memory.meaning c.loop-n.draft c.loop-n.cards c.loop-n.code in
    let q = c.take_entry.ensures.taken ∙ ap (λ o. entry_one o f.entries.now n d) (ap (λ x. x.order) c.loop-n.invariant.same) in
    let a : c.take_entry.result ≡ Ok tt = search rules in
    let k : f.header.entries - n - 1 ≡ f.header.entries - (n + 1) = omega arith in
    record {
      left = rw (← k) (sym (worked_next (entry_one c.args.draft.now.order f.entries.now) (f.header.entries - n) n d _ _ (omega arith) q a) ∙ c.loop-n.invariant.left);
      same = c.take_entry.ensures.same ∙ c.loop-n.invariant.same;
    }

pub returns-clause-worked : goal.returns-clause-worked
returns-clause-worked g c =
    let f = c.args.file.now in
    sym (worked_end (entry_one c.args.draft.now.order f.entries.now) (f.header.entries - c.loop-n.n-counter) c.loop-n.n-counter _ (omega arith)) ∙ c.loop-n.invariant.left
