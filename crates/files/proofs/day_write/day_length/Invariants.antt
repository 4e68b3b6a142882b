use Rattle.std.proofs.Common.{◌≡◌, ◌+◌, ◌≤◌, map, length, take}
use Rattle.files.specs.DayWriting.{header_end, run_bytes}
use Rattle.files.proofs.day_write.day_length.Given as goal

abbrev pub invariant-loop-run : goal.invariant-loop-run
invariant-loop-run l =
    (l.end ≡ header_end (map (λ x. x.now) l.runs) + length (run_bytes (take l.run-index (map (λ x. x.now) l.runs))))
    × (l.end ≤ 65536)
