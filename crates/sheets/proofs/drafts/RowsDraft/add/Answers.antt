use Rattle.std.proofs.Common.{◌≡◌, ◌≤◌, length, take, subst, arith, rules, length-take}
use Rattle.sheets.specs.Fitting.{AllExponentsFit}
use Rattle.sheets.proofs.Columns.{place_short}
use Rattle.sheets.proofs.StageSteps.{row_added, row_unspelled, row_misfit}
use Rattle.sheets.proofs.drafts.RowsDraft.add.Goals as goal

pub returns-in_err-row : goal.returns-in_err-row
returns-in_err-row c =
    let h = c.in_err-row.ensures in
    let stopped = row_unspelled c.args.self.rank c.args.self.done c.args.self.rows c.args.value.now h.0 h.2 in
    search (rules, stopped)

pub overflow_add-result : goal.overflow_add-result
overflow_add-result c =
    let m = c.in-Some.ensures in
    omega (arith, m.at, m.inside, place_short (take c.args.self.rank c.in_ok-row.row) m.column, length-take c.args.self.rank c.in_ok-row.row)

pub returns-in-Some : goal.returns-in-Some
returns-in-Some c =
    let long : c.args.self.rank ≤ length c.in_ok-row.row = omega arith in
    row_misfit _ _ _ _ _ _ c.args.self.left (simp length-take (omega arith)) c.in_ok-row.ensures c.in-Some.ensures

pub with_row-requires : goal.with_row-requires
with_row-requires c =
    let d = c.args.self in
    let row = take d.rank c.in_ok-row.row in
    let wide : length row ≡ d.rank = simp length-take (omega arith) in
    record { writable = c.in_ok-row.ensures.writable; fit = subst (AllExponentsFit d.rows d.done row) wide c.in-None.ensures }

pub returns-in-None : goal.returns-in-None
returns-in-None c = row_added _ _ _ _ _ _ c.in_ok-row.ensures.spelled c.with_row.ensures
