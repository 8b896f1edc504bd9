-- The number and the layer of each fault of a carrier; the place is 0.
use Rattle.std.specs.Prelude.{ℕ}
use Rattle.refusals.specs.declared.layer.Layer.{Layer}
use Rattle.refusals.specs.declared.layer.Layer.TheVariants.{Word, Sheet}
use Rattle.refusals.specs.declared.report.Report.{Report}
use Rattle.carriers.specs.declared.faults.StepFault.{StepFault}
use Rattle.carriers.specs.declared.faults.StepFault.TheVariants.{Letter, Reach}
use Rattle.carriers.specs.declared.faults.OpenFault.{OpenFault}
use Rattle.carriers.specs.declared.faults.OpenFault.TheVariants.{Short, Kind}

-- the number by which a refused step is known
abbrev pub step_number : StepFault → ℕ
step_number Letter = 7
step_number Reach = 11

-- what is reported of a refused step
abbrev pub step_report : StepFault → Report
step_report f = record { number = step_number f; place = 0; layer = Word }

-- the number by which a refused opening is known
abbrev pub open_number : OpenFault → ℕ
open_number Short = 9
open_number Kind = 6

-- the layer in which a refused opening arose
abbrev pub open_layer : OpenFault → Layer
open_layer Short = Word
open_layer Kind = Sheet

-- what is reported of a refused opening
abbrev pub open_report : OpenFault → Report
open_report f = record { number = open_number f; place = 0; layer = open_layer f }
