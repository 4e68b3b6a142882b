use Rattle.std.proofs.Common.{◌≡◌, ◌-◌}
use Rattle.run.specs.Runs.{SameTables, world_of}
use Rattle.audit.specs.Records.{step_one}
use Rattle.audit.specs.Turns.{worked}
use Rattle.audit.proofs.steps.take_steps.Given as goal

-- working what is left gives what working all gives from the start
abbrev pub invariant-loop-n : goal.invariant-loop-n
invariant-loop-n g l =
    let words = g.M.Memory.meaning in
    let one = step_one l.file.steps.now in
    let count = l.file.header.steps in record {
      left : worked one (count - l.n-counter) l.n-counter (world_of words l.run l.tables) ≡ worked one count 0 (world_of words l.initial.run l.initial.tables);
      same : SameTables l.initial.tables l.tables;
    }
