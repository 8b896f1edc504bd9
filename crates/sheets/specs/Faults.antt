-- What is reported of a sheet's fault.
use Rattle.std.specs.Prelude.{ℕ}
use Rattle.refusals.specs.declared.layer.Layer.{Layer}
use Rattle.refusals.specs.declared.layer.Layer.TheVariants as layer
use Rattle.refusals.specs.declared.report.Report.{Report}
use Rattle.lines.specs.Faults.{line_number, line_place}
use Rattle.sheets.specs.declared.faults.SheetFault.{SheetFault}
use Rattle.sheets.specs.declared.faults.SheetFault.TheVariants.{Line, Rank, Row, Entry, Kind}

-- the number by which the fault is known
abbrev pub sheet_number : SheetFault → ℕ
sheet_number (Line f) = line_number f
sheet_number Rank = 3
sheet_number (Row at) = 4
sheet_number (Entry at) = 5
sheet_number Kind = 6

-- the place in the line, from 0; rank and kind are refused behind their =
abbrev pub sheet_place : SheetFault → ℕ
sheet_place (Line f) = line_place f
sheet_place Rank = 5
sheet_place (Row at) = at
sheet_place (Entry at) = at
sheet_place Kind = 5

-- the layer where the fault arose
abbrev pub sheet_layer : SheetFault → Layer
sheet_layer (Line f) = layer.Line
sheet_layer Rank = layer.Sheet
sheet_layer (Row at) = layer.Sheet
sheet_layer (Entry at) = layer.Sheet
sheet_layer Kind = layer.Sheet

-- what is reported of the fault
abbrev pub sheet_report : SheetFault → Report
sheet_report f = record { number = sheet_number f; place = sheet_place f; layer = sheet_layer f }
