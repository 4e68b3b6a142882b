-- Records worked in turn, up to the first that is refused.
use Rattle.std.specs.Prelude.{ℕ, zero, suc, ◌+◌, Some, None, Ok, Err, Option, Result}
use Rattle.audit.specs.declared.fault.RowFault.{RowFault}
use Rattle.files.specs.declared.records.BadRecord.{BadRecord}

-- a record that is refused, with its place
abbrev pub Stop : Type 0
Stop = BadRecord RowFault

-- one record: whether it is accepted, and what it leaves
pub record Taken (D : Type 0) : Type 0 where
  pub answer : Result (Unit {0}) RowFault
  pub after : D

-- all of them: what they leave, and the first refused, if any
pub record Worked (D : Type 0) : Type 0 where
  pub after : D
  pub stopped : Option Stop

abbrev pub worked_by : {D : Type 0} → (D → Worked D) → ℕ → Result (Unit {0}) RowFault → D → Worked D
worked_by rest k (Ok u) d = rest d
worked_by rest k (Err f) d = record { after = d; stopped = Some (record { place = k; fault = f }) }

-- m records from record k on; `one` works record k
unfoldable pub worked : {D : Type 0} → (ℕ → D → Taken D) → ℕ → ℕ → D → Worked D
worked one zero k d = record { after = d; stopped = None }
worked one (suc m) k d = worked_by (worked one m (k + 1)) k (one k d).answer (one k d).after

-- the refusal in an answer
abbrev pub stop_in : Result (Unit {0}) Stop → Option Stop
stop_in (Ok u) = None
stop_in (Err s) = Some s
