-- What a walk tells by moves.
use Rattle.std.proofs.Common.{◌≡◌, ℕ, ◌≤◌, min, List, ◌++◌, reverse, length, take, drop, Ok, Err, Result, sym, ap, ◌∙◌, subst, arith, take_at}
use Rattle.std.proofs.lemmas.List.{length-reverse, reverse-reverse}
use Rattle.coxeter.specs.Groups.{Lawful}
use Rattle.coxeter.specs.Moves.{Word, Letters, Joined, none}
use Rattle.coxeter.specs.Lengths.{LengthOf}
use Rattle.coxeter.proofs.Joining.{letters_front, letters_rest}
use Rattle.coxeter.proofs.Forms.{joined_form, forms_decide}
use Rattle.coxeter.proofs.Lengths.{forms_measure}
use Rattle.coxeter.proofs.Inverses.{letters_reverse, distances_decide}
use Rattle.carriers.specs.Frames.{Frame}
use Rattle.words.specs.declared.faults.WordFault.{WordFault}
use Rattle.words.specs.Outcomes.{Passed, Measured, Written}
use Rattle.words.specs.Promises.{FormTold, LengthTold, DistanceTold}
use Rattle.words.specs.Reading.{Read}

pub told_of : {f : Frame} → Lawful f.group → {w : Word} {before after : List ℕ} {r : Result ℕ WordFault} → Written f w before after r → FormTold f.group w after r
told_of {f = f} law {w = w} {before = before} {after = after} {r = Ok n} h =
    let p = h.wrote.2 in
    let e : take n after ≡ h.wrote.0 = ap (λ (z : List ℕ). take n z) h.wrote.4 ∙ take_at h.wrote.0 (drop n before) n (sym h.wrote.3) in
    record {
      told = (
        subst (λ (z : Word). Joined f.group w z) (sym e) (joined_form f.group law w h.wrote.0 p.entered.letters p.formed),
        subst (λ (m : ℕ). LengthOf f.group w m) (sym h.wrote.3) (forms_measure f.group law w h.wrote.0 p.entered.letters p.formed),
        λ u k i j. let d = forms_decide f.group law w u h.wrote.0 k p.entered.letters i p.formed j in (λ x. d.0 (sym e ∙ x), λ x. e ∙ d.1 x),
      );
    }
told_of law {r = Err e} h = record { told = tt }

pub lengths_of : {f : Frame} → Lawful f.group → {w : Word} {r : Result ℕ WordFault} → Measured f w r → LengthTold f.group w r
lengths_of {f = f} law {w = w} {r = Ok n} h =
    let p = h.sized.1 in
    record { told = subst (λ (m : ℕ). LengthOf f.group w m) (sym h.sized.2) (forms_measure f.group law w h.sized.0 p.entered.letters p.formed) }
lengths_of law {r = Err e} h = record { told = tt }

pub apart_of : {f : Frame} → Lawful f.group → (u v : Word) {r : Result ℕ WordFault} → Measured f (reverse u ++ v) r → DistanceTold f.group u v r
apart_of {f = f} law u v {r = Ok n} h =
    let k = h.sized.1.entered.letters in
    let i : Letters f.group u = subst (Letters f.group) (reverse-reverse u) (letters_reverse f.group (reverse u) (letters_front f.group (reverse u) v k)) in
    let l = (lengths_of law h).told in
    record { told = (l, distances_decide f.group law u v n i (letters_rest f.group (reverse u) v k) l) }
apart_of law u v {r = Err e} h = record { told = tt }

-- the letters that a vector keeps are those of the form
pub read_letters : {f : Frame} {w letters : Word} → Read f w (λ t. letters ≡ t) (Ok tt) → Passed f w (reverse letters)
read_letters {f = f} {w = w} r = subst (λ t. Passed f w (reverse t)) (sym r.told.1) r.told.2

-- the letters read off fit a buffer that has room for the word
pub read_fits : {f : Frame} → Lawful f.group → {w : Word} (letters : Word) (n : ℕ) → Passed f w (reverse letters) → min (length w) 4096 ≤ n → length letters ≤ n
read_fits {f = f} law {w = w} letters n p room =
    let few = p.entered.few in
    omega (arith, (forms_measure f.group law w (reverse letters) p.entered.letters p.formed).least w none, length-reverse letters)
