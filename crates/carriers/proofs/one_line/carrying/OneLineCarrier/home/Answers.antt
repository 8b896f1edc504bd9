use Rattle.std.proofs.Common.{◌+◌, drop, refl, ◌++◌, ◌∙◌, arith}
use Rattle.std.proofs.lemmas.List.{get_or_append_left, length-take-le}
use Rattle.coxeter.specs.Matrices.{matrix}
use Rattle.carriers.specs.CarrierLaws.{matrix_rank}
use Rattle.carriers.proofs.Exchanges.{home_stands}
use Rattle.carriers.specs.CarrierLaws.{line_laws}
use Rattle.carriers.proofs.one_line.carrying.OneLineCarrier.home.Goals as goal

pub returns-clause-home : goal.returns-clause-home
returns-clause-home c =
    let x = c.args.self.now in
    let n = c.rank-n.result + 1 in
    let front = c.set_rising.new.row in
    let rest = drop n x.row.now in
    let w = x.wide in
    let r = matrix_rank x.group in
    let e = length-take-le n x.row.now (omega arith) in
    record {
      same = refl;
      here = home_stands (matrix x.group) (front ++ rest) (λ i h. get_or_append_left front rest 0 i (omega arith) ∙ c.set_rising.ensures i (omega arith));
    }

pub returns-clause-laws : goal.returns-clause-laws
returns-clause-laws c = line_laws c.args.self.now.group _
