use Rattle.files.specs.Recording.{entry_reads_back, entry_writes_back, step_reads_back, step_writes_back}
use Rattle.files.proofs.round_trip.records_round_trip.Goals as goal

pub returns : goal.returns
returns c = record { reads = (entry_reads_back, step_reads_back); writes = (entry_writes_back, step_writes_back) }
