use Rattle.std.proofs.Common.{◌≡◌, ◌+◌, ◌*◌, map, length, take}
use Rattle.std.specs.List.{flat_map}
use Rattle.files.specs.DayWriting.{header_end, run_bytes, run_places}
use Rattle.files.specs.Encoding.{number_bytes}
use Rattle.files.specs.Writing.{written_at}
use Rattle.files.proofs.day_write.put_places.Given as goal

abbrev pub invariant-loop-run : goal.invariant-loop-run
invariant-loop-run l =
    (l.next ≡ l.at + 8 * l.run-index)
    × (l.start ≡ header_end (map (λ x. x.now) l.runs) + length (run_bytes (take l.run-index (map (λ x. x.now) l.runs))))
    × (l.out ≡ written_at l.initial.out l.at (flat_map number_bytes (run_places (header_end (map (λ x. x.now) l.runs)) (take l.run-index (map (λ x. x.now) l.runs)))))
