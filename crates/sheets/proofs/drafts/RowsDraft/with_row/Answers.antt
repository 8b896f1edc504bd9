use Rattle.std.proofs.Common.{◌≡◌, ◌+◌, set, subst, arith}
use Rattle.sheets.specs.Filling.{Filled}
use Rattle.sheets.proofs.TableRows.{filled_lawful}
use Rattle.sheets.proofs.StageSteps.{next_filled, next_rows, next_kind}
use Rattle.sheets.proofs.drafts.RowsDraft.with_row.Goals as goal

pub invariant_of-result : goal.invariant_of-result
invariant_of-result c =
    let d = c.args.self in
    record { some = d.some; few = d.few; left = c.if-done-rank.true; filled = ∣ next_filled d c.args.row (omega arith) (omega arith) c.requires ∣₁ }

pub make-requires : goal.make-requires
make-requires c =
    let d = c.args.self in
    let full : d.done + 1 ≡ d.rank = omega arith in
    let rows = set d.rows d.done c.args.row in
    let filled : Filled d.rank d.rank rows = subst (λ k. Filled d.rank k rows) full (next_filled d c.args.row (omega arith) (omega arith) c.requires) in
    record { lawful = filled_lawful d.rank rows d.some d.few filled }

pub returns-then-done-rank : goal.returns-then-done-rank
returns-then-done-rank c = next_rows c.args.self c.args.row (omega arith) (omega arith) c.requires c.if-done-rank.true

pub returns-else-done-rank : goal.returns-else-done-rank
returns-else-done-rank c = next_kind c.args.self c.args.row (omega arith) (omega arith) c.requires _ (omega arith) c.make.ensures.told
