use Rattle.std.proofs.Common.{ℕ, List, ◌++◌, length, Result, ap, ◌∙◌, arith}
use Rattle.std.specs.List.{flat_map}
use Rattle.memory.specs.Tables.{laid_over}
use Rattle.files.specs.Encoding.{number_bytes, encode_entry, encode_step}
use Rattle.files.specs.Header.{file_end}
use Rattle.files.specs.Writing.{fields_for, field_numbers, writable, file_bytes, bytes_after}
use Rattle.files.specs.declared.write_fault.WriteFault.{WriteFault}
use Rattle.files.proofs.Putting.{Widths, four_parts_put, writing_ok, written_widths}
use Rattle.files.proofs.write.write_run.Goals as goal
use Rattle.files.proofs.write.write_run.Goals.{After-from-header}

-- the parts of the file
parts : (c : After-from-header) → Widths (file_end c.in_ok-fields.fields) (length (flat_map number_bytes c.from-header.result)) (length (flat_map number_bytes c.args.words.now))
    (length (flat_map encode_entry c.args.entries.now)) (length (flat_map encode_step c.args.steps.now))
parts c = written_widths c.args.order c.args.cards c.args.words.now c.args.entries.now c.args.steps.now c.in_ok-fields.fields c.from-header.result c.in_ok-fields.ensures.1 c.from-header.ensures

pub put_all-words_at-requires : goal.put_all-words_at-requires
put_all-words_at-requires c = let w = parts (goal.at.put_all-words_at-requires c).After-from-header in omega arith

pub put_all-entries_at-requires : goal.put_all-entries_at-requires
put_all-entries_at-requires c = let w = parts (goal.at.put_all-entries_at-requires c).After-from-header in omega arith

pub put_all-steps_at-requires : goal.put_all-steps_at-requires
put_all-steps_at-requires c = let w = parts (goal.at.put_all-steps_at-requires c).After-from-header in omega arith

pub put_all-requires : goal.put_all-requires
put_all-requires c = let w = parts (goal.at.put_all-requires c).After-from-header in omega arith

pub returns : goal.returns
returns c =
    let w = parts (goal.at.returns c).After-from-header in
    let words = c.args.words.now in
    let entries = c.args.entries.now in
    let steps = c.args.steps.now in
    let old = c.args.out.now in
    let header = c.in_ok-fields.ensures in
    let file = file_bytes c.args.order c.args.cards words entries steps in
    let rest = flat_map number_bytes words ++ (flat_map encode_entry entries ++ flat_map encode_step steps) in
    let f = fields_for c.args.order c.args.cards (length words) (length entries) (length steps) in
    let end = ap file_end header.1 in
    let ok = writing_ok (writable f) (file_end f) (length old) c.put_all.result header.0 (omega arith) (omega arith) in
    let numbers = c.from-header.ensures ∙ ap field_numbers header.1 in
    let put = four_parts_put old (flat_map number_bytes c.from-header.result) (flat_map number_bytes words) (flat_map encode_entry entries) (flat_map encode_step steps)
    c.put_all-words_at.new.out c.put_all-entries_at.new.out c.put_all-steps_at.new.out c.put_all.new.out
    c.put_all-words_at.result c.put_all-entries_at.result c.put_all-steps_at.result (omega arith)
    c.put_all-words_at.ensures.put c.put_all-words_at.ensures.end c.put_all-entries_at.ensures.put c.put_all-entries_at.ensures.end
    c.put_all-steps_at.ensures.put c.put_all-steps_at.ensures.end c.put_all.ensures.put in
    record {
      answer = ok;
      out = put ∙ ap (λ (xs : List ℕ). laid_over (flat_map number_bytes xs ++ rest) old) numbers ∙ ap (λ (r : Result ℕ WriteFault). bytes_after r file old) ok;
      refusal = tt;
    }
