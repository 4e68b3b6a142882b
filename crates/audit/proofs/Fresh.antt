-- An audit over empty tables of full size is not refused.
use Rattle.std.proofs.Common.{◌≡◌, ℕ, ◌*◌, Bool, true, false, cond, List, length, replicate, Ok, refl, ap, ◌∙◌, mul-le-mul, arith}
use lib.ListN.{length-replicate}
use Rattle.std.proofs.lemmas.Bool.{and_from, le-leb}
use Rattle.files.specs.Header.{header_of, fields_of}
use Rattle.files.specs.Run.{sound_run}
use Rattle.files.proofs.Laying.{bounded}
use Rattle.run.specs.Rows.{no_card, no_row, no_cell}
use Rattle.run.specs.declared.rows.CodeRow.{CodeRow}
use Rattle.run.specs.declared.rows.StepRow.TheVariants.{Unused}
use Rattle.audit.specs.Accepted.{Accepted}
use Rattle.audit.proofs.Oks.{ok_accepted}
use Rattle.audit.specs.Audit.{Tables, AuditOutcome, Verdict, tables, roomy, audited}
use Rattle.audit.specs.Alone.{fresh, verdict_of}

-- the bounds of a header leave room for the run
room_for : (bs : List ℕ) → sound_run bs ≡ true → roomy (header_of bs) 1024 8 2048 8192 ≡ true
room_for bs s =
    let b = bounded bs s in
    let h = fields_of bs in
    and_from _ _ (le-leb h.size 1024 b.few_words)
    (and_from _ _ (le-leb h.cards 8 b.few_cards)
    (and_from _ _ (le-leb (256 * h.cards) 2048 (omega (arith, b.few_cards))) (le-leb (h.cards * h.size) 8192 (mul-le-mul b.few_cards b.few_words))))

fresh_room : (bs : List ℕ) → sound_run bs ≡ true → roomy (header_of bs) (length fresh.words) (length fresh.cards) (length fresh.code) (length fresh.cells) ≡ true
unfolding fresh
fresh_room bs s = simp length-replicate (room_for bs s)

-- the tables that an audit without lent tables makes; `row` is its empty row
pub fresh_by : (row : CodeRow ℕ) → row ≡ no_row → tables (replicate 1024 0) (replicate 8 no_card) (replicate 2048 row) (replicate 8192 no_cell) (replicate 4096 Unused) ≡ fresh
unfolding fresh
fresh_by row e = ap (λ r. tables (replicate 1024 0) (replicate 8 no_card) (replicate 2048 r) (replicate 8192 no_cell) (replicate 4096 Unused)) e

by_tests : (s r : Bool) (x y z : AuditOutcome) (v w : Verdict) → (s ≡ true → r ≡ true) → x.answer ≡ Ok v → z.answer ≡ Ok w → (cond s (cond r x y) z).answer ≡ Ok (cond s v w)
by_tests true true x y z v w h p q = p
by_tests true false x y z v w h p q = let e = h refl in cc
by_tests false r x y z v w h p q = q

pub alone : (bs : List ℕ) (t : Tables) (o : AuditOutcome) → t ≡ fresh → o ≡ audited bs t → o.answer ≡ Ok (verdict_of bs)
alone bs t o f e =
    ap (λ (x : AuditOutcome). x.answer) (e ∙ ap (audited bs) f)
    ∙ by_tests (sound_run bs) (roomy (header_of bs) (length fresh.words) (length fresh.cards) (length fresh.code) (length fresh.cells)) _ _ _ _ _ (fresh_room bs) refl refl

pub alone_ok : (bs : List ℕ) (n : ℕ) → verdict_of bs ≡ Ok n → Accepted bs fresh n
alone_ok bs n h = ok_accepted bs fresh n (alone bs fresh (audited bs fresh) refl refl ∙ ap Ok h)
