use Rattle.std.proofs.Common.{rules}
use Rattle.sheets.specs.Drafts.{draft_stage}
use Rattle.sheets.proofs.ReadingSteps.{leads_nowhere, draft_reached, refused_unfinished, stage_answer}
use Rattle.sheets.proofs.reading.rows.Goals as goal

pub loop-line-init : goal.loop-line-init
loop-line-init c = leads_nowhere _ _ (draft_reached c.args.draft)

pub loop-line-preserved : goal.loop-line-preserved
loop-line-preserved c =
    let answer = stage_answer c.loop-line.invariant c.in_ok-line.ensures.line c.row.result draft_stage c.at.ensures c.row.ensures in
    search (rules, answer)

pub returns-in-Kind : goal.returns-in-Kind
returns-in-Kind c =
    let answer = stage_answer c.loop-line.invariant c.in_ok-line.ensures.line c.row.result draft_stage c.at.ensures c.row.ensures in
    search (rules, answer)

pub returns-in_err-line : goal.returns-in_err-line
returns-in_err-line c =
    let refused = refused_unfinished c.loop-line.invariant c.in_err-line.ensures.line in
    search (rules, refused)

pub returns-in_err-more : goal.returns-in_err-more
returns-in_err-more c =
    let answer = stage_answer c.loop-line.invariant c.in_ok-line.ensures.line c.row.result draft_stage c.at.ensures c.row.ensures in
    search (rules, answer)
