-- What is reported of a line's fault.
use Rattle.std.specs.Prelude.{ℕ}
use Rattle.refusals.specs.declared.layer.Layer.TheVariants as layer
use Rattle.refusals.specs.declared.report.Report.{Report}
use Rattle.lines.specs.declared.faults.LineFault.{LineFault}
use Rattle.lines.specs.declared.faults.LineFault.TheVariants.{Unfinished, Unexpected}

-- the number by which the fault is known
abbrev pub line_number : LineFault → ℕ
line_number (Unfinished n) = 1
line_number Unexpected = 2

-- the place in the line: its length where it is unfinished, else its first byte
abbrev pub line_place : LineFault → ℕ
line_place (Unfinished n) = n
line_place Unexpected = 0

-- what is reported of the fault
abbrev pub line_report : LineFault → Report
line_report f = record { number = line_number f; place = line_place f; layer = layer.Line }
