-- What each refusal tells: its number, its layer and its place.
use Rattle.std.specs.Prelude.{◌≡◌, ℕ, Ok, Err, Result}
use Rattle.files.specs.declared.header.HeaderFault.{HeaderFault}
use Rattle.files.specs.declared.header.HeaderFault.TheVariants as of_header
use Rattle.files.specs.declared.read.ReadFault.{ReadFault}
use Rattle.files.specs.declared.read.ReadFault.TheVariants as of_read
use Rattle.files.specs.declared.records.RecordFault.{RecordFault}
use Rattle.files.specs.declared.records.RecordFault.TheVariants as of_record
use Rattle.files.specs.declared.write_fault.WriteFault.{WriteFault}
use Rattle.files.specs.declared.write_fault.WriteFault.TheVariants as of_write

-- a header is against the layout or the bounds
abbrev pub header_fault_number : HeaderFault → ℕ
header_fault_number of_header.Broken = 15

-- a record's field is against the layout
abbrev pub record_fault_number : RecordFault → ℕ
record_fault_number of_record.Field = 16

-- reading a run file: its header, a table too short, or one of its records
abbrev pub read_fault_number : ReadFault → ℕ
read_fault_number (of_read.Header f) = header_fault_number f
read_fault_number of_read.TooShort = 1
read_fault_number (of_read.Entry b) = record_fault_number b.fault
read_fault_number (of_read.Step b) = record_fault_number b.fault

-- its layer: 2 the header, 3 an entry, 4 a step, 0 none
abbrev pub read_fault_layer : ReadFault → ℕ
read_fault_layer (of_read.Header f) = 2
read_fault_layer of_read.TooShort = 0
read_fault_layer (of_read.Entry b) = 3
read_fault_layer (of_read.Step b) = 4

-- its place: that of the entry or the step, else 0
abbrev pub read_fault_place : ReadFault → ℕ
read_fault_place (of_read.Header f) = 0
read_fault_place of_read.TooShort = 0
read_fault_place (of_read.Entry b) = b.place
read_fault_place (of_read.Step b) = b.place

-- writing a file: what is handed makes no legal header, or a table too short
abbrev pub write_fault_number : WriteFault → ℕ
write_fault_number (of_write.Header f) = header_fault_number f
write_fault_number of_write.TooShort = 1

-- all that a refusal tells
pub record Refusal : Type 0 where
  pub number : ℕ
  pub layer : ℕ
  pub place : ℕ

-- what a fault in reading a run file tells
abbrev pub read_refusal : ReadFault → Refusal
read_refusal f = record { number = read_fault_number f; layer = read_fault_layer f; place = read_fault_place f }

-- where a call is refused, its fault tells t
abbrev pub RefusedWith : {X E T : Type 0} → (E → T) → T → Result X E → Type 0
RefusedWith told t (Ok x) = Unit {0}
RefusedWith told t (Err e) = told e ≡ t
