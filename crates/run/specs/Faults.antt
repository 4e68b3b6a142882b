-- The numbers of the refusals.
use Rattle.std.specs.Prelude.{ℕ}
use Rattle.memory.specs.Fault.{memory_fault_number}
use Rattle.run.specs.declared.fault.LifeFault.{LifeFault}
use Rattle.run.specs.declared.fault.LifeFault.TheVariants as life
use Rattle.run.specs.declared.fault.ProgramFault.{ProgramFault}
use Rattle.run.specs.declared.fault.ProgramFault.TheVariants as program
use Rattle.run.specs.declared.fault.StepFault.{StepFault}
use Rattle.run.specs.declared.fault.StepFault.TheVariants as step

abbrev pub life_fault_number : LifeFault → ℕ
life_fault_number life.TooShort = 1
life_fault_number life.OutOfBounds = 12

abbrev pub program_fault_number : ProgramFault → ℕ
program_fault_number program.TooShort = 1
program_fault_number program.NoSuchCard = 2
program_fault_number program.NoSuchAddress = 3
program_fault_number program.NotTaken = 4
program_fault_number program.NoPlace = 5

abbrev pub step_fault_number : StepFault → ℕ
step_fault_number step.TooShort = 1
step_fault_number step.NoSuchCard = 2
step_fault_number step.NoSuchAddress = 3
step_fault_number step.NoSuchPosition = 6
step_fault_number step.AlreadyPerformed = 7
step_fault_number (step.Bound p) = 8
step_fault_number step.CellUnfit = 9
step_fault_number step.WordDiffers = 10
step_fault_number step.StepsFull = 11
step_fault_number (step.Memory m) = memory_fault_number m
