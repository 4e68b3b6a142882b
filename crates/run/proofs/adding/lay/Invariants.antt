use Rattle.std.proofs.Common.{◌≡◌, ◌+◌, ◌≤◌, length}
use Rattle.orders.specs.Translation.{instructions, left}
use Rattle.run.specs.Rows.{laid, pending_rows}
use Rattle.run.proofs.adding.lay.Given as goal

-- laying what is left gives what laying all gives from the start
abbrev pub invariant-loop-k : goal.invariant-loop-k
invariant-loop-k g l =
    (goal.iterator-loop-k g).can_next l.k-iterator
    × (goal.iterator-loop-k g).is_finite l.k-iterator
    × (laid l.code (l.at + l.k-iterator.count) (pending_rows l.number (left l.k-iterator.iter)) ≡ laid l.initial.code l.at (pending_rows l.number (instructions l.translation)))
    × (l.at + l.k-iterator.count + length (left l.k-iterator.iter) ≤ 4096)
