-- What the verdict ok comes from.
use Rattle.std.proofs.Common.{◌≡◌, ℕ, zero, suc, ◌+◌, Bool, true, false, cond, eqb, List, length, Some, None, Ok, Err, Option, Result, sym, refl, ap, ◌∙◌, add-zero, arith}
use Rattle.run.specs.Drafts.{Drafted}
use Rattle.run.specs.Steps.{World, Outcome, performed, cached, written_back, purged}
use Rattle.run.proofs.Taken.{OneMore, performed_more, cached_more, written_more, purged_more}
use Rattle.run.specs.declared.fault.StepFault.{StepFault}
use Rattle.files.specs.Header.{header_of}
use Rattle.files.specs.Records.{step_at}
use Rattle.files.specs.Run.{sound_run, steps_section}
use Rattle.files.specs.declared.records.RecordFault.{RecordFault}
use Rattle.files.specs.declared.step.Step.{Step}
use Rattle.files.specs.declared.step.Step.TheVariants.{Perform, PerformRecorded, Cache, WriteBack, Purge}
use Rattle.audit.specs.declared.fault.RowFault.{RowFault}
use Rattle.audit.specs.declared.verdict.AuditFault.{AuditFault}
use Rattle.audit.specs.Audit.{Tables, AuditOutcome, Verdict, after_entries, after_steps, audited, roomy, started, steps_audited, words_back, file_audited}
use Rattle.audit.specs.Accepted.{Accepted, entries_worked, steps_worked}
use Rattle.audit.specs.Records.{step_from, stepped, step_one, step_taken}
use Rattle.audit.specs.Turns.{Stop, Taken, worked, worked_by}

-- an accepted step fills one row
abbrev Fills : World ℕ → Taken (World ℕ) → Type 0
Fills w t = t.answer ≡ Ok tt → t.after.used ≡ w.used + 1

by_outcome : {X : Type 0} (w : World ℕ) (r : Result X StepFault) (after : World ℕ) → ((x : X) → r ≡ Ok x → after.used ≡ w.used + 1) → step_from r ≡ Ok tt → after.used ≡ w.used + 1
by_outcome w (Ok x) after m h = m x refl
by_outcome w (Err f) after m h = cc

fills : {X : Type 0} (w : World ℕ) (o : Outcome X ℕ) → OneMore w o → step_from o.answer ≡ Ok tt → o.after.used ≡ w.used + 1
fills w o m h = by_outcome w o.answer o.after m h

stepped_more : (w : World ℕ) (s : Step) → Fills w (stepped w s)
stepped_more w (Perform c p) h = fills w (performed eqb w c p None) (performed_more w c p eqb None) h
stepped_more w (PerformRecorded c p v) h = fills w (performed eqb w c p (Some v)) (performed_more w c p eqb (Some v)) h
stepped_more w (Cache c a) h = fills w (cached w c a) (cached_more w c a) h
stepped_more w (WriteBack c a) h = fills w (written_back w c a) (written_more w c a) h
stepped_more w (Purge c a) h = fills w (purged w c a) (purged_more w c a) h

taken_more : (w : World ℕ) (r : Result Step RecordFault) → Fills w (step_taken w r)
taken_more w (Ok s) h = stepped_more w s h
taken_more w (Err f) h = cc

-- as many rows are used as records were worked, where none was refused
by_answer : (section : List ℕ) (m k : ℕ) (w : World ℕ) (a : Result (Unit {0}) RowFault) (after : World ℕ)
    → (a ≡ Ok tt → after.used ≡ w.used + 1)
    → ((v : World ℕ) → (worked (step_one section) m (k + 1) v).stopped ≡ None → (worked (step_one section) m (k + 1) v).after.used ≡ v.used + m)
    → (worked_by (worked (step_one section) m (k + 1)) k a after).stopped ≡ None
    → (worked_by (worked (step_one section) m (k + 1)) k a after).after.used ≡ w.used + suc m
by_answer section m k w (Ok u) after one rest h =
    let a = one refl in
    let b = rest after h in
    let sum : (x y z : ℕ) → x ≡ y + 1 → z ≡ x + m → z ≡ y + suc m = λ x y z p q. omega arith in
    sum after.used w.used (worked (step_one section) m (k + 1) after).after.used a b
by_answer section m k w (Err f) after one rest h = cc

used_all : (section : List ℕ) (m k : ℕ) (w : World ℕ) → (worked (step_one section) m k w).stopped ≡ None → (worked (step_one section) m k w).after.used ≡ w.used + m
unfolding worked
used_all section zero k w h = sym (add-zero w.used)
used_all section (suc m) k w h = by_answer section m k w (step_one section k w).answer (step_one section k w).after (taken_more w (step_at section k)) (used_all section m (k + 1)) h

-- an ok is of steps none of which was refused
steps_ok : (w : World ℕ) (s : Option Stop) (n : ℕ) → (after_steps w s).verdict ≡ Ok n → (s ≡ None) × (n ≡ w.used)
steps_ok w None n h = (refl, cc)
steps_ok w (Some s) n h = cc

-- and of entries none of which was refused
entries_ok : (section : List ℕ) (count : ℕ) (t : Tables) (d : Drafted ℕ) (s : Option Stop) (n : ℕ)
    → (after_entries section count t.cells t.steps d s).verdict ≡ Ok n
    → (s ≡ None) × ((steps_audited section count (started d t.cells t.steps)).verdict ≡ Ok n)
entries_ok section count t d None n h = (refl, h)
entries_ok section count t d (Some s) n h = cc

file_ok : (bs : List ℕ) (t : Tables) (n : ℕ) → sound_run bs ≡ true → (file_audited bs t).verdict ≡ Ok n → Accepted bs t n
file_ok bs t n s h =
    let e = entries_ok (steps_section bs) (header_of bs).steps t (entries_worked bs t).after (entries_worked bs t).stopped n h in
    let p = steps_ok (steps_worked bs t).after (steps_worked bs t).stopped n e.1 in
    let u = used_all (steps_section bs) (header_of bs).steps 0 (started (entries_worked bs t).after t.cells t.steps) p.0 in
    record { sound = s; entries = e.0; steps = p.0; all = p.1 ∙ u ∙ zero_more (header_of bs).steps; taken = p.1 }
  where
    zero_more : (m : ℕ) → 0 + m ≡ m
    zero_more m = omega arith

by_tests : (bs : List ℕ) (t : Tables) (s r : Bool) (x : AuditOutcome) (y z : Result Verdict AuditFault) (n : ℕ)
    → sound_run bs ≡ s → x.answer ≡ Ok (file_audited bs t).verdict → (y ≡ Ok (Ok n) → ⊥) → (z ≡ Ok (Ok n) → ⊥)
    → (cond s (cond r x (record { answer = y; left = t })) (record { answer = z; left = t })).answer ≡ Ok (Ok n) → Accepted bs t n
by_tests bs t true true x y z n e p q u h = file_ok bs t n e (cc)
by_tests bs t true false x y z n e p q u h = absurd (q h)
by_tests bs t false r x y z n e p q u h = absurd (u h)

pub ok_accepted : (bs : List ℕ) (t : Tables) (n : ℕ) → (audited bs t).answer ≡ Ok (Ok n) → Accepted bs t n
ok_accepted bs t n h =
    by_tests bs t (sound_run bs) (roomy (header_of bs) (length t.words) (length t.cards) (length t.code) (length t.cells)) (words_back t.words (file_audited bs t)) _ _ n refl refl (λ c. cc) (λ c. cc) h

-- the same of what an audit answered and left
pub ok_by : (bs : List ℕ) (t : Tables) (o : AuditOutcome) (n : ℕ) → o ≡ audited bs t → o.answer ≡ Ok (Ok n) → Accepted bs t n
ok_by bs t o n e h = ok_accepted bs t n (ap (λ (x : AuditOutcome). x.answer) (sym e) ∙ h)
