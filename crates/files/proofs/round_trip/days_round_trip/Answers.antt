use Rattle.files.proofs.DayReadBack.{day_reads_back}
use Rattle.files.proofs.DayWrittenBack.{day_writes_back}
use Rattle.files.proofs.round_trip.days_round_trip.Goals as goal

pub returns : goal.returns
returns c = record { reads = day_reads_back; writes = day_writes_back }
