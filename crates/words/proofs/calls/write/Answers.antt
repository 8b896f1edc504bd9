use Rattle.std.proofs.Common.{◌≤◌, length, sym, ap, ◌∙◌, arith}
use Rattle.std.proofs.lemmas.List.{length-take-le}
use Rattle.words.proofs.Answering.{read_fits, read_letters}
use Rattle.words.proofs.calls.write.Given.{Over}
use Rattle.words.proofs.calls.write.Goals as goal
use Rattle.words.proofs.calls.write.Goals.{After-len-2}

-- the buffer has room for the letters
fits : (g : Over) (c : After-len-2 g) → c.len-2.result ≤ length c.args.out.now
fits g c = omega (arith, read_fits (g.met.C.Carrier.laws c.args.carrier.now).lawful c.read_form.new.letters.items (length c.args.out.now) (read_letters c.in_ok-read_form.ensures.read) (omega arith))

pub slice_bounds-form-end : goal.slice_bounds-form-end
slice_bounds-form-end g c = fits g c

pub slice_bounds-form-end-2 : goal.slice_bounds-form-end-2
slice_bounds-form-end-2 g c = sym (length-take-le c.len-2.result c.args.out.now (fits g (goal.at.slice_bounds-form-end-2 g c).After-len-2))

pub copy_from_slice-requires : goal.copy_from_slice-requires
copy_from_slice-requires g c =
    let f = fits g (goal.at.copy_from_slice-requires g c).After-len-2 in
    length-take-le c.len-2.result c.args.out.now f ∙ c.len-2.ensures.value ∙ ap length (sym c.as_slice.ensures.value)
