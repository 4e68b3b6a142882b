use Rattle.std.proofs.Common.{ℕ, ◌*◌, ◌/◌, ◌<◌, ◌≤◌, List, length, sym, arith, length-drop, length-take}
use Rattle.files.specs.Bytes.{part}
use Rattle.files.proofs.sections.record_at.Goals as goal

-- past the last whole record fewer than 12 bytes are left
short_part : (bs : List ℕ) (n : ℕ) → length bs / 12 ≤ n → length (part bs (12 * n) 12) < 12
short_part bs n h = simp (length-take, length-drop) (omega arith)

pub returns-then-n-section-clause-decoded : goal.returns-then-n-section-clause-decoded
returns-then-n-section-clause-decoded g c =
    let h = short_part c.args.section.now c.args.n c.if-n-section.true in
    sym (g.met.R.Record.twelve (part c.args.section.now (12 * c.args.n) 12) (λ e. omega arith))
