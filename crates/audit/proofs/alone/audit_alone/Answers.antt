use Rattle.std.proofs.Common.{◌≡◌, Ok, sym, ◌∙◌, rules}
use Rattle.audit.specs.Alone.{verdict_of}
use Rattle.audit.specs.Audit.{AuditOutcome, tables_of}
use Rattle.audit.proofs.Fresh.{alone, alone_ok, fresh_by}
use Rattle.audit.proofs.alone.audit_alone.Goals as goal

pub unwrap-requires : goal.unwrap-requires
unwrap-requires c =
    let o : AuditOutcome = record { answer = c.audit_run.result; left = tables_of c.audit_run.new.words c.audit_run.new.tables } in
    let e : c.audit_run.result ≡ Ok (verdict_of c.args.bytes.now) = alone c.args.bytes.now _ o (fresh_by c.empty-code.result c.empty-code.ensures) c.audit_run.ensures.audited in
    rw e

pub returns-clause-verdict : goal.returns-clause-verdict
returns-clause-verdict c =
    let o : AuditOutcome = record { answer = c.audit_run.result; left = tables_of c.audit_run.new.words c.audit_run.new.tables } in
    let e : c.audit_run.result ≡ Ok (verdict_of c.args.bytes.now) = alone c.args.bytes.now _ o (fresh_by c.empty-code.result c.empty-code.ensures) c.audit_run.ensures.audited in
    search rules

pub returns-clause-ok : goal.returns-clause-ok
returns-clause-ok c = λ n h. alone_ok c.args.bytes.now n (sym (returns-clause-verdict c) ∙ h)
