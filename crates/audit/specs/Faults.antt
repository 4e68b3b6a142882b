-- The number, the layer and the place of each refusal.
use Rattle.std.specs.Prelude.{ℕ}
use Rattle.files.specs.Faults.{header_fault_number, record_fault_number}
use Rattle.run.specs.Faults.{program_fault_number, step_fault_number}
use Rattle.audit.specs.declared.fault.RowFault.{RowFault}
use Rattle.audit.specs.declared.fault.RowFault.TheVariants as row
use Rattle.audit.specs.declared.fault.FileFault.{FileFault}
use Rattle.audit.specs.declared.fault.FileFault.TheVariants as file
use Rattle.audit.specs.declared.verdict.AuditFault.{AuditFault}
use Rattle.audit.specs.declared.verdict.AuditFault.TheVariants as audit

-- a fault keeps the number that it has in the layer below
abbrev pub row_fault_number : RowFault → ℕ
row_fault_number (row.Record f) = record_fault_number f
row_fault_number (row.Program f) = program_fault_number f
row_fault_number (row.Step f) = step_fault_number f

abbrev pub file_fault_number : FileFault → ℕ
file_fault_number (file.Header f) = header_fault_number f
file_fault_number (file.Entry s) = row_fault_number s.fault
file_fault_number (file.Step s) = row_fault_number s.fault

-- 2 the header, 3 an entry, 4 a step
abbrev pub file_fault_layer : FileFault → ℕ
file_fault_layer (file.Header f) = 2
file_fault_layer (file.Entry s) = 3
file_fault_layer (file.Step s) = 4

abbrev pub file_fault_place : FileFault → ℕ
file_fault_place (file.Header f) = 0
file_fault_place (file.Entry s) = s.place
file_fault_place (file.Step s) = s.place

abbrev pub audit_fault_number : AuditFault → ℕ
audit_fault_number audit.TooShort = 1
