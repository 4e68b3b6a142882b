use Rattle.std.proofs.Common.{◌≡◌, ◌-◌}
use Rattle.run.specs.Runs.{draft_of}
use Rattle.audit.specs.Records.{entry_one}
use Rattle.audit.specs.Turns.{worked}
use Rattle.audit.proofs.entries.take_entries.Given as goal

-- working what is left gives what working all gives from the start
abbrev pub invariant-loop-n : goal.invariant-loop-n
invariant-loop-n g l =
    let words = g.M.Memory.meaning in
    let one = entry_one l.initial.draft.order l.file.entries.now in
    let count = l.file.header.entries in record {
      left : worked one (count - l.n-counter) l.n-counter (draft_of words l.draft l.cards l.code) ≡ worked one count 0 (draft_of words l.initial.draft l.initial.cards l.initial.code);
      same : l.draft ≡ l.initial.draft;
    }
