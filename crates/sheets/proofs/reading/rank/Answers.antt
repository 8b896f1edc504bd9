use Rattle.std.proofs.Common.{rules}
use Rattle.sheets.specs.Stages.{rank_due}
use Rattle.sheets.specs.Drafts.{rows_stage}
use Rattle.sheets.proofs.ReadingSteps.{leads_nowhere, refused_unfinished, stage_answer}
use Rattle.sheets.proofs.reading.rank.Goals as goal

pub returns-in_err-line : goal.returns-in_err-line
returns-in_err-line c =
    let refused = refused_unfinished (leads_nowhere rank_due c.args.reader.now tt) c.in_err-line.ensures.line in
    search (rules, refused)

pub returns : goal.returns
returns c = stage_answer (leads_nowhere rank_due c.args.reader.now tt) c.in_ok-line.ensures.line c.open.result rows_stage c.at.ensures c.open.ensures
