-- A carrier's way down a form, by taking off the least descending letter.
use Rattle.std.proofs.Common.{◌≡◌, ℕ, ◌+◌, ◌-◌, ◌<◌, ◌≤◌, true, false, [], ◌∷◌, ◌++◌, reverse, length, take, Some, None, Ok, Err, Option, Result, sym, refl, ap, ◌∙◌, subst, inr, ⊎_elim, append_assoc, append-nil, arith, length-append, take_all, take_at}
use Rattle.std.specs.Option.{MatchOption}
use Rattle.std.specs.Result.{is_ok}
use Rattle.std.proofs.lemmas.List.{reverse-append, length-reverse}
use Rattle.std.proofs.lemmas.Bool.{cases_eq, cases_Bool, both_ways}
use Rattle.coxeter.specs.Numbers.{negative}
use Rattle.coxeter.specs.Groups.{Matrix, Letter, rank}
use Rattle.coxeter.specs.Moves.{Word, Letters, Joined}
use Rattle.coxeter.specs.Points.{Point, start, stepped, point, Least, Reads, home, back, Form}
use Rattle.coxeter.specs.Lengths.{Descends}
use Rattle.coxeter.specs.Theorems.{Formed}
use Rattle.coxeter.proofs.Walks.{walked_append}
use Rattle.coxeter.proofs.Joining.{join_back, letters_append}
use Rattle.coxeter.proofs.Readings.{least_same}
use Rattle.coxeter.proofs.Forms.{joined_form, forms_exist}
use Rattle.coxeter.proofs.Lengths.{signs_descend}
use Rattle.carriers.specs.Frames.{Frame}
use Rattle.carriers.specs.Carriers.{Laws, Stepped}
use Rattle.carriers.specs.declared.faults.StepFault.{StepFault}
use Rattle.carriers.specs.declared.faults.StepFault.TheVariants.{Letter as NoLetter, Reach as OutOfReach}
use Rattle.words.specs.declared.faults.WordFault.{WordFault}
use Rattle.words.specs.declared.faults.WordFault.TheVariants.{Reach}
use Rattle.words.specs.Outcomes.{Entered, Passed, Stranded}
use Rattle.words.specs.Reading.{Bare, LowestLetter, Found, Read}

-- ---- the least descending letter
-- the letter s descends at the element of w
abbrev pub Falls : Frame → Word → ℕ → Type 0
Falls f w s = Letter f.group s × Descends f.group w s

-- the search for the least descending letter among n
pub lowest : (f : Frame) (at : Word → Type 0) → Laws f at → (w : Word) → at w → (n : ℕ) → n ≡ rank f.group → (r : Option ℕ)
    → MatchOption r ((k : ℕ) → 1 ≤ k → k < n + 1 → ¬ Falls f w k) (λ x. (1 ≤ x) × (x < n + 1) × Falls f w x × ((k : ℕ) → 1 ≤ k → k < x → ¬ Falls f w k)) → LowestLetter f.group w r
lowest f at law w here n e r h = by r h
  where
    flat : (a : ℕ) → Letter f.group a → ¬ Falls f w a → negative (point f.group w a) ≡ false
    flat a l d = ⊎_elim (λ (k : negative (point f.group w a) ≡ true). absurd (d (l, (signs_descend f.group law.lawful w (law.letters w (law.within w here)) a l).0 k))) (λ k. k) (cases_Bool (negative (point f.group w a)))

    by : (r : Option ℕ) → MatchOption r ((k : ℕ) → 1 ≤ k → k < n + 1 → ¬ Falls f w k) (λ x. (1 ≤ x) × (x < n + 1) × Falls f w x × ((k : ℕ) → 1 ≤ k → k < x → ¬ Falls f w k)) → LowestLetter f.group w r
    by None h = λ a l. flat a l (h a l.from_one (let i = l.to_rank in omega arith))
    by (Some s) h =
        let d = h.2 in
        record { letter = d.0; below = (signs_descend f.group law.lawful w (law.letters w (law.within w here)) s d.0).1 d.1; first = λ a l i. flat a l (h.3 a l.from_one i) }

-- ---- down the form
-- the letters t were taken off; what is left of the form h is `rest`
pub record Leaving (f : Frame) (w h t : Word) : Type 0 where
  pub rest : Word
  pub whole : rest ++ reverse t ≡ h
  pub reads : Form f.group (w ++ t) rest
  pub held : (i : ℕ) → i ≤ length t → f.reach (take (length h - i) h) ≡ true

prefix_of : (r x h : Word) (n : ℕ) → r ++ x ≡ h → length x ≡ n → take (length h - n) h ≡ r
prefix_of r x h n e d =
    let a : length (r ++ x) ≡ length h = ap length e in
    let b : length r ≡ length h - n = omega (arith, length-append r x) in
    ap (λ z. take (length h - n) z) (sym e) ∙ take_at r x (length h - n) b

peel : (g : Matrix) {v : Point} {r : Word} → Reads g v r → (s : ℕ) → Least g v s → (q : Word) × (r ≡ q ++ (s ∷ [])) × Reads g (stepped g s v) q
peel g {v} (home i) s m = absurd (both_ways (negative (v s)) (i s m.letter) m.below)
peel g {v} (back {f = f} {s = t} n q) s m =
    let e = least_same g v t s n m in
    (f, ap (λ x. f ++ (x ∷ [])) e, subst (λ x. Reads g (stepped g x v) f) e q)

bare : (g : Matrix) {v : Point} {r : Word} → Reads g v r → ((a : ℕ) → Letter g a → negative (v a) ≡ false) → r ≡ []
bare g (home i) h = refl
bare g {v} (back {s = t} n q) h = absurd (both_ways (negative (v t)) (h t n.letter) n.below)

pub leave_none : (f : Frame) (at : Word → Type 0) → Laws f at → (w h : Word) → at w → Formed f.group w h → Leaving f w h []
leave_none f at law w h here k = record {
  rest = h;
  whole = append-nil h;
  reads = subst (λ z. Form f.group z h) (sym (append-nil w)) k.form;
  held = λ i j.
      let e : length h ≤ length h - i = omega arith in
      subst (λ z. f.reach z ≡ true) (sym (take_all (length h - i) h e)) (law.reach_joined w h k.joined (law.within w here));
}

module _ (f : Frame) (at : Word → Type 0) (law : Laws f at) (w h t : Word) (s : ℕ) (here : at (w ++ t)) (leaving : Leaving f w h t) (least : Least f.group (point f.group (w ++ t)) s) where
  part : (q : Word) × (leaving.rest ≡ q ++ (s ∷ [])) × Reads f.group (stepped f.group s (point f.group (w ++ t))) q
  part = peel f.group leaving.reads s least

  part_whole : part.0 ++ reverse (t ++ (s ∷ [])) ≡ h
  part_whole = ap (λ z. part.0 ++ z) (reverse-append t (s ∷ [])) ∙ sym (append_assoc part.0 (s ∷ []) (reverse t)) ∙ ap (λ z. z ++ reverse t) (sym part.1) ∙ leaving.whole

  part_reads : Form f.group ((w ++ t) ++ (s ∷ [])) part.0
  part_reads = subst (λ v. Reads f.group v part.0) (sym (walked_append f.group (w ++ t) (s ∷ []) start)) part.2

  part_letters : Letters f.group ((w ++ t) ++ (s ∷ []))
  part_letters = letters_append f.group (w ++ t) (s ∷ []) (law.letters (w ++ t) (law.within (w ++ t) here)) (least.letter, tt)

  part_joined : Joined f.group ((w ++ t) ++ (s ∷ [])) part.0
  part_joined = joined_form f.group law.lawful ((w ++ t) ++ (s ∷ [])) part.0 part_letters part_reads

  taken_count : length (reverse (t ++ (s ∷ []))) ≡ length t + 1
  taken_count = omega (arith, length-reverse (t ++ (s ∷ [])), length-append t (s ∷ []))

  part_prefix : take (length h - (length t + 1)) h ≡ part.0
  part_prefix = prefix_of part.0 (reverse (t ++ (s ∷ []))) h (length t + 1) part_whole taken_count

  -- there is a letter to take off
  pub leave_room : length t < length h
  leave_room = omega (arith, ap length part_whole, length-append part.0 (reverse (t ++ (s ∷ []))), taken_count)

  pub leave_more : f.reach ((w ++ t) ++ (s ∷ [])) ≡ true → Leaving f w h (t ++ (s ∷ []))
  leave_more r = record {
    rest = part.0;
    whole = part_whole;
    reads = subst (λ z. Form f.group z part.0) (append_assoc w t (s ∷ [])) part_reads;
    held = λ i j.
        let c = length-append t (s ∷ []) in
        ⊎_elim (λ (q : i ≡ length t + 1). subst (λ n. f.reach (take (length h - n) h) ≡ true) (sym q) (subst (λ z. f.reach z ≡ true) (sym part_prefix) (law.reach_joined _ _ part_joined r)))
        (λ q. leaving.held i (omega arith)) (cases_eq i (length t + 1));
  }

  pub leave_fails : Entered f w → Form f.group w h → f.reach ((w ++ t) ++ (s ∷ [])) ≡ false → Stranded f w (length t)
  leave_fails e k r = record {
    entered = e;
    form = h;
    formed = k;
    below = leave_room;
    held = leaving.held;
    beyond = let d : length h - length t - 1 ≡ length h - (length t + 1) = omega arith in
        ap (λ n. f.reach (take n h)) d ∙ ap f.reach part_prefix ∙ ⊎_elim (λ (e : f.reach part.0 ≡ true). absurd (both_ways (f.reach ((w ++ t) ++ (s ∷ []))) r (law.reach_joined _ _ (join_back law.lawful part_joined) e))) (λ e. e) (cases_Bool (f.reach part.0));
  }

pub leave_done : (f : Frame) (w h t : Word) → Entered f w → Form f.group w h → Leaving f w h t → Bare f.group (w ++ t) → Passed f w (reverse t)
leave_done f w h t n k l b =
    let e : reverse t ≡ h = ap (λ z. z ++ reverse t) (sym (bare f.group l.reads b)) ∙ l.whole in
    let c : length t ≡ length h = sym (length-reverse t) ∙ ap length e in
    subst (λ z. Passed f w z) (sym e) (record {
      entered = n;
      formed = k;
      held = λ i j. let d : length h - (length h - i) ≡ i = omega arith in subst (λ n. f.reach (take n h) ≡ true) d (l.held (length h - i) (omega arith));
    })

-- the carrier x stands at w with the letters t of its form taken off
pub record Taking {X : Type 0} (frame : X → Frame) (at : X → Word → Type 0) (f : Frame) (w : Word) (x : X) (t : Word) : Type 0 where
  pub same : frame x ≡ f
  pub here : at x (w ++ t)
  pub form : Word
  pub formed : Formed f.group w form
  pub leaving : Leaving f w form t

module _ {X : Type 0} {frame : X → Frame} {at : X → Word → Type 0} {f : Frame} {w : Word} where
  pub take_none : {x : X} → Laws (frame x) (at x) → frame x ≡ f → at x w → Taking frame at f w x []
  take_none {x = x} raw e here =
      let law : Laws f (at x) = subst (λ (h : Frame). Laws h (at x)) e raw in
      let r = forms_exist f.group law.lawful w (law.letters w (law.within w here)) in
      record { same = e; here = subst (λ z. at x z) (sym (append-nil w)) here; form = r.0; formed = r.1; leaving = leave_none f (at x) law w r.0 here r.1 }

  module _ {x : X} {t : Word} (now : Taking frame at f w x t) (raw : Laws (frame x) (at x)) where
    law : Laws f (at x)
    law = subst (λ (h : Frame). Laws h (at x)) now.same raw

    module _ {s : ℕ} (found : Found (frame x).group (at x) (Some s)) where
      least : Least f.group (point f.group (w ++ t)) s
      least = subst (λ (h : Frame). Least h.group (point h.group (w ++ t)) s) now.same (found.found (w ++ t) now.here)

      pub take_room : length t < length w
      take_room = omega (arith, leave_room f (at x) law w now.form t s now.here now.leaving least, now.formed.no_longer)

      pub take_more : {y : X} {r : Result (Unit {0}) StepFault} → Stepped frame at x y s r → is_ok r ≡ true → Taking frame at f w y (t ++ (s ∷ []))
      take_more {y = y} {r = Ok _} c o =
          let m = c.took.1 (w ++ t) now.here in
          let i : f.reach ((w ++ t) ++ (s ∷ [])) ≡ true = subst (λ (h : Frame). h.reach ((w ++ t) ++ (s ∷ [])) ≡ true) now.same m.0 in
          record {
            same = c.same ∙ now.same;
            here = subst (λ z. at y z) (append_assoc w t (s ∷ [])) m.1;
            form = now.form;
            formed = now.formed;
            leaving = leave_more f (at x) law w now.form t s now.here now.leaving least i;
          }
      take_more {r = Err e} c o = absurd (both_ways false refl o)

      -- a step by a letter of the group is refused by the reach alone
      pub take_fails : Entered f w → {y : X} {r : Result (Unit {0}) StepFault} {kept : Word → Type 0} {q : Result (Unit {0}) WordFault} → Stepped frame at x y s r → is_ok r ≡ false → q ≡ Err (Reach (length w + length t)) → Read f w kept q
      take_fails n {r = Ok _} c o e = absurd (both_ways true o refl)
      take_fails n {r = Err NoLetter} c o e = absurd (c.took.1 (subst (λ (h : Frame). Letter h.group s) (sym now.same) least.letter))
      take_fails n {r = Err OutOfReach} {kept = kept} c o e =
          let i : f.reach ((w ++ t) ++ (s ∷ [])) ≡ false = subst (λ (h : Frame). h.reach ((w ++ t) ++ (s ∷ [])) ≡ false) now.same (c.took.2 (w ++ t) now.here) in
          subst (λ z. Read f w kept z) (sym e) (record { told = inr (length t, refl, leave_fails f (at x) law w now.form t s now.here now.leaving least n now.formed.form i) })

    pub take_done : Entered f w → Found (frame x).group (at x) None → Passed f w (reverse t)
    take_done n found = leave_done f w now.form t n now.formed.form now.leaving (subst (λ (h : Frame). Bare h.group (w ++ t)) now.same (found.found (w ++ t) now.here))
