use Rattle.std.proofs.Common.{◌≡◌, ◌+◌, ◌-◌, ◌*◌, ◌≤◌}
use Rattle.report.specs.Printing.{room_of}
use Rattle.report.specs.Texts.{page_of}
use Rattle.report.proofs.Days.{Underway}
use Rattle.report.proofs.day.report_runs.Given as goal

abbrev pub invariant-loop-n : goal.invariant-loop-n
invariant-loop-n l = record {
  underway : Underway l.day.bytes.now (page_of l.initial.text) (page_of l.text) (l.n-end - l.n) l.n l.ok;
  few : l.ok ≤ l.n;
  heading : l.kept.heading ≡ l.initial.kept.heading;
  same : l.text.bytes.ghost_name ≡ l.initial.text.bytes.ghost_name;
  room : room_of (page_of l.initial.text) ≤ room_of (page_of l.text) + 64 * l.n;
}
