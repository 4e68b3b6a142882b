use Rattle.files.proofs.ReadBack.{run_reads_back, written_reads_back}
use Rattle.files.proofs.WrittenBack.{run_writes_back}
use Rattle.files.proofs.round_trip.runs_round_trip.Goals as goal

pub returns : goal.returns
returns c = record { reads = run_reads_back; written = written_reads_back; writes = run_writes_back }
