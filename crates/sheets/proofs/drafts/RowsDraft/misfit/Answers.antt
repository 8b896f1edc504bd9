use Rattle.std.proofs.Common.{rules, ◌<◌, get_or, length}
use Rattle.sheets.specs.Fitting.{Fits, AllExponentsFit}
use Rattle.sheets.proofs.Columns.{misfit_at}
use Rattle.sheets.proofs.drafts.RowsDraft.misfit.Goals as goal

pub returns : goal.returns
returns c =
    let row = c.args.row.now in
    let rows = c.args.self.now.rows in
    let r = c.args.self.now.done in
    let inside : c.in_ok-c.c < length row = search rules in
    let before : AllExponentsFit rows r row c.in_ok-c.c = search rules in
    let wrong : Fits rows r c.in_ok-c.c (get_or row c.in_ok-c.c 0) → ⊥ = search rules in
    let found = misfit_at rows r row c.in_ok-c.c inside before wrong in
    search (rules, found)
