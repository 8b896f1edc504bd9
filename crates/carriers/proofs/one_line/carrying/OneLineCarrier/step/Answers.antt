use Rattle.std.proofs.Common.{◌+◌, [], ◌∷◌, ◌++◌, length, refl, arith}
use Rattle.coxeter.specs.Matrices.{matrix}
use Rattle.coxeter.proofs.Matrices.{letter_within}
use Rattle.carriers.specs.CarrierLaws.{letters_tested}
use Rattle.carriers.proofs.Standing.{letters_snoc}
use Rattle.carriers.proofs.Exchanges.{path_of, exchanged_stands, exchanged_beyond}
use Rattle.carriers.specs.CarrierLaws.{line_laws}
use Rattle.carriers.proofs.one_line.carrying.OneLineCarrier.step.Goals as goal

pub swap-requires-clause-a_in_bounds : goal.swap-requires-clause-a_in_bounds
swap-requires-clause-a_in_bounds c =
    let x = c.args.self.now in let w = x.wide in omega (arith, letter_within x.group.rank x.group.rows c.args.s (c.has_letter.ensures.0 c.if-not-has_letter.false))

pub swap-requires-clause-b_in_bounds : goal.swap-requires-clause-b_in_bounds
swap-requires-clause-b_in_bounds c =
    let x = c.args.self.now in let w = x.wide in omega (arith, letter_within x.group.rank x.group.rows c.args.s (c.has_letter.ensures.0 c.if-not-has_letter.false))

pub returns-clause-told : goal.returns-clause-told
returns-clause-told c =
    let x = c.args.self.now in
    let g = matrix x.group in
    let k = c.has_letter.ensures.0 c.if-not-has_letter.false in
    record {
      same = refl;
      took = (
        k,
        λ w h. (
          letters_tested g (w ++ (c.args.s ∷ [])) (letters_snoc g w c.args.s h.shows.letters k),
          exchanged_stands g (path_of g x.path) c.args.s k x.row.now c.swap.new.self c.swap.ensures.by_index w h,
        ),
      );
    }

pub returns-clause-beyond : goal.returns-clause-beyond
returns-clause-beyond c =
    let x = c.args.self.now in
    let g = matrix x.group in
    let k = c.has_letter.ensures.0 c.if-not-has_letter.false in
    let i = k.to_rank in exchanged_beyond g (path_of g x.path) c.args.s k x.row.now c.swap.new.self c.swap.ensures.by_index (length g + 1) (omega arith)

pub returns-then-not-has_letter-clause-laws : goal.returns-then-not-has_letter-clause-laws
returns-then-not-has_letter-clause-laws c = line_laws c.args.self.now.group _

pub returns-clause-laws : goal.returns-clause-laws
returns-clause-laws c = line_laws c.args.self.now.group _
