use Rattle.std.proofs.Common.{◌≡◌, get_or, set, ap, ◌∙◌, arith}
use Rattle.memory.proofs.Tables.{laid_more, laid_all}
use Rattle.files.proofs.Turns.{records_length, record_read}
use Rattle.files.proofs.sections.records_into.Goals as goal
use Rattle.files.proofs.sections.records_into.Goals.{in-Ok, in_default}

pub loop-n-preserved : goal.loop-n-preserved
loop-n-preserved g c xs e =
    let n = c.loop-n.n in
    let l = records_length g.R.Record.decoded c.args.section.now c.args.count 0 xs e in
    let p = record_read g.R.Record.decoded c.args.section.now c.args.count xs n e (omega arith) in
    elim c.match-record_at.branch [
      | in-Ok w ↦
          let is : w.in-Ok.record ≡ p.0 = cc in
          let here : w.in-Ok.record ≡ get_or xs n w.in-Ok.record = cc in
          w.rows-is ∙ ap (λ rows. set rows n w.in-Ok.record) (c.loop-n.invariant xs e)
          ∙ laid_more xs c.args.rows.now n w.in-Ok.record (omega arith) (omega arith) here
      | in_default w ↦ cc
    ]

pub returns : goal.returns
returns g c xs e =
    let l = records_length g.R.Record.decoded c.args.section.now c.args.count 0 xs e in
    c.loop-n.invariant xs e ∙ laid_all xs c.args.rows.now c.loop-n.n (omega arith)
