use Rattle.std.proofs.Common.{◌≡◌, ◌+◌, length, take}
use Rattle.std.specs.List.{flat_map}
use Rattle.files.specs.Writing.{written_at}
use Rattle.files.proofs.put.put_all.Given as goal

abbrev pub invariant-loop-row : goal.invariant-loop-row
invariant-loop-row g l =
    (l.next ≡ l.at + length (flat_map g.R.Written.encoded (take l.row-index l.rows)))
    × (l.out ≡ written_at l.initial.out l.at (flat_map g.R.Written.encoded (take l.row-index l.rows)))
