use Rattle.std.proofs.Common.{rules}
use Rattle.sheets.specs.Drafts.{kind_stage, Checked}
use Rattle.sheets.specs.Reading.{KindRead}
use Rattle.sheets.proofs.ReadingSteps.{leads_nowhere, kind_reached, refused_unfinished, line_answer}
use Rattle.sheets.proofs.reading.kind.Goals as goal

pub returns-in_err-line : goal.returns-in_err-line
returns-in_err-line c =
    let refused = refused_unfinished (leads_nowhere (kind_stage c.args.draft) c.args.reader.now (kind_reached c.args.draft)) c.in_err-line.ensures.line in
    search (rules, refused)

pub returns : goal.returns
returns c =
    let next = c.in_ok-line.ensures.line in
    line_answer (leads_nowhere (kind_stage c.args.draft) c.args.reader.now (kind_reached c.args.draft)) next c.kind.result (Checked c.args.draft c.in_ok-line.line.bytes.now) (KindRead c.args.draft c.args.reader.now c.next_line.new.reader) c.at.ensures c.kind.ensures
    (λ k h. record { line = _; cut = next.cut; checked = h; count = next.counted; input = next.input })
