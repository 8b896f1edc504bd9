use Rattle.std.proofs.Common.{length}
use Rattle.sheets.specs.Drafts.{rows_stage}
use Rattle.sheets.specs.Reading.{Leads}
use Rattle.sheets.proofs.reading.rows.Given as goal

-- the lines so far led from the first draft to this one
abbrev pub invariant-loop-line : goal.invariant-loop-line
invariant-loop-line l = Leads (rows_stage l.initial.draft) l.initial.reader (rows_stage l.draft) l.reader

abbrev pub decreases-loop-line : goal.decreases-loop-line
decreases-loop-line l = length l.reader.rest.now
