use Rattle.std.proofs.Common.{◌≡◌, ◌+◌, ◌-◌, ◌*◌, ◌<◌, Err, Result, sym, ◌∙◌, arith, rules}
use Rattle.files.specs.Bytes.{part}
use Rattle.files.specs.declared.records.RecordFault.{RecordFault}
use Rattle.files.proofs.Turns.{fault_next, fault_stop, fault_end}
use Rattle.files.proofs.sections.check_records.Goals as goal

pub returns-in_err-map_err : goal.returns-in_err-map_err
returns-in_err-map_err g c =
    let n = c.loop-place.place-counter in
    let k : 0 < c.args.count - n = omega arith in
    let s = λ (f : RecordFault) (e : ◌≡◌ {A = Result g.row.R.Denot RecordFault} (Err f) (g.R.Record.decoded (part c.args.section.now (12 * n) 12))).
    sym c.loop-place.invariant ∙ fault_stop g.R.Record.decoded c.args.section.now (c.args.count - n) n f k e in
    search rules

pub loop-place-preserved : goal.loop-place-preserved
loop-place-preserved g c =
    let n = c.loop-place.place-counter in
    let k : c.args.count - n - 1 ≡ c.args.count - (n + 1) = omega arith in
    let s = fault_next g.R.Record.decoded c.args.section.now (c.args.count - n) n c.in_ok-map_err.field-0 (omega arith) (search rules) in
    rw (← k) (sym s ∙ c.loop-place.invariant)

pub returns : goal.returns
returns g c =
    let n = c.loop-place.place-counter in
    sym c.loop-place.invariant ∙ fault_end g.R.Record.decoded c.args.section.now (c.args.count - n) n (omega arith)
