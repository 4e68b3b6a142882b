use Rattle.std.proofs.Common.{◌≡◌, ◌+◌, ◌-◌, ◌*◌}
use Rattle.files.specs.Day.{gapless}
use Rattle.files.proofs.day.is_gapless.Given as goal

abbrev pub invariant-loop-n : goal.invariant-loop-n
invariant-loop-n l = gapless l.bytes (l.count - l.n) l.n l.next ≡ gapless l.bytes l.count 0 (4 + 8 * l.count)
