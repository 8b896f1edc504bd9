-- The number, the place and the layer of a job's fault: those of the fault that it holds.
use Rattle.std.specs.Prelude.{ℕ}
use Rattle.refusals.specs.declared.report.Report.{Report}
use Rattle.refusals.specs.declared.layer.Layer.{Layer}
use Rattle.refusals.specs.declared.layer.Layer.TheVariants as layer
use Rattle.lines.specs.Faults.{line_number, line_place}
use Rattle.words.specs.Faults.{word_number, word_place}
use Rattle.jobs.specs.declared.faults.JobFault.{JobFault}
use Rattle.jobs.specs.declared.faults.JobFault.TheVariants.{Line, Word}

-- the number by which the fault is known
abbrev pub job_number : JobFault → ℕ
job_number (Line f) = line_number f
job_number (Word f) = word_number f

-- the place: a byte of the line, or an index in the word
abbrev pub job_place : JobFault → ℕ
job_place (Line f) = line_place f
job_place (Word f) = word_place f

-- the layer where the fault arose
abbrev pub job_layer : JobFault → Layer
job_layer (Line f) = layer.Line
job_layer (Word f) = layer.Word

-- what is reported of the fault
abbrev pub job_report : JobFault → Report
job_report f = record { number = job_number f; place = job_place f; layer = job_layer f }
