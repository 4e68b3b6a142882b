use Rattle.std.proofs.Common.{Ok, rules}
use Rattle.audit.specs.Audit.{tables_of}
use Rattle.audit.proofs.Oks.{ok_by}
use Rattle.audit.proofs.audit.audit_run.Goals as goal

pub returns-clause-ok : goal.returns-clause-ok
returns-clause-ok c = λ n h. ok_by _ _ (record { answer = Ok c.audit_over.result; left = tables_of c.audit_over.new.words c.audit_over.new.tables }) n (search rules) h
