-- A carrier's way through a word.
use Rattle.std.proofs.Common.{◌≡◌, ℕ, zero, suc, ◌+◌, ◌<◌, ◌≤◌, ◌≢◌, ◌⊎◌, true, false, [], ◌∷◌, ◌++◌, length, get_or, take, drop, Some, None, Ok, Err, Option, Result, sym, refl, ap, ◌∙◌, subst, ⊎_elim, arith, take_all}
use Rattle.std.specs.List.{AllWithin, HoldsAt}
use Rattle.std.specs.Option.{MatchOption}
use Rattle.std.specs.Result.{is_ok}
use Rattle.std.proofs.lemmas.List.{take_more, drop_more, length-drop}
use Rattle.std.proofs.lemmas.Bool.{cases_eq, both_ways}
use Rattle.coxeter.specs.Groups.{Matrix, Letter, rank}
use Rattle.coxeter.specs.Moves.{Word, Letters}
use Rattle.carriers.specs.Frames.{Frame}
use Rattle.carriers.specs.Carriers.{Laws, BroughtHome, Stepped}
use Rattle.carriers.specs.declared.faults.StepFault.{StepFault}
use Rattle.carriers.specs.declared.faults.StepFault.TheVariants.{Letter as NoLetter, Reach as OutOfReach}
use Rattle.words.specs.declared.faults.WordFault.{WordFault}
use Rattle.words.specs.declared.faults.WordFault.TheVariants.{Reach}
use Rattle.words.specs.Outcomes.{Prefixes}
use Rattle.words.specs.Stepping.{Outsides, Arrived}

-- ---- letters
pub letters_at : (g : Matrix) (w : Word) (k : ℕ) → Letters g w → k < length w → Letter g (get_or w k 0)
letters_at g [] k h i = absurd (omega arith)
letters_at g (s ∷ w) zero h i = h.0
letters_at g (s ∷ w) (suc k) h i = letters_at g w k h.1 (omega arith)

pub letters_all : (g : Matrix) (w : Word) → ((k : ℕ) → k < length w → Letter g (get_or w k 0)) → Letters g w
letters_all g [] h = tt
letters_all g (s ∷ w) h = (h 0 (omega arith), letters_all g w (λ k i. h (suc k) (omega arith)))

-- s is none of n letters, or one of them
abbrev pub Beyond : ℕ → ℕ → Type 0
Beyond n s = (s ≡ 0) ⊎ (n < s)

abbrev pub Within : ℕ → ℕ → Type 0
Within n s = (s ≢ 0) × (s ≤ n)

-- the search for the first letter outside, by its index
pub first_outside_of : (g : Matrix) (w : Word) (n : ℕ) (r : Option ℕ) → n ≡ rank g
    → MatchOption r (AllWithin (Within n) w 0 (length w)) (λ i. (i < length w) × HoldsAt (Beyond n) w i × AllWithin (Within n) w 0 i) → Outsides g w r
first_outside_of g w n r e h = by r h
  where
    letter : (s : ℕ) → Within n s → Letter g s
    letter s d = let a = d.0 in let b = d.1 in record { from_one = omega arith; to_rank = omega arith }

    by : (r : Option ℕ) → MatchOption r (AllWithin (Within n) w 0 (length w)) (λ i. (i < length w) × HoldsAt (Beyond n) w i × AllWithin (Within n) w 0 i) → Outsides g w r
    by None h = letters_all g w (λ k i. letter _ (h k 0 (omega arith) i))
    by (Some k) h = record {
      below = h.0;
      outside = λ l. let a = l.from_one in let b = l.to_rank in ⊎_elim (λ (z : get_or w k 0 ≡ 0). absurd (omega arith)) (λ z. absurd (omega arith)) (h.1 0);
      first = λ i j. letter _ (h.2 i 0 (omega arith) j);
    }

-- ---- up the word
-- the carrier x has k letters of w behind it and `rest` ahead
pub record Passing {X : Type 0} (frame : X → Frame) (at : X → Word → Type 0) (f : Frame) (w : Word) (x : X) (k : ℕ) (rest : Word) : Type 0 where
  pub same : frame x ≡ f
  pub here : at x (take k w)
  pub entered : Prefixes f.reach w k
  pub ahead : rest ≡ drop k w

module _ {X : Type 0} {frame : X → Frame} {at : X → Word → Type 0} {f : Frame} {w : Word} where
  pub pass_none : {x y : X} {k : ℕ} {rest : Word} → Laws (frame y) (at y) → BroughtHome frame at x y → frame x ≡ f → k ≡ 0 → rest ≡ w → Passing frame at f w y k rest
  pass_none {y = y} {rest = rest} law h e q d =
      let r : f.reach [] ≡ true = subst (λ (z : Frame). z.reach [] ≡ true) (h.same ∙ e) law.identity in
      subst (λ n. Passing frame at f w y n rest) (sym q) (record { same = h.same ∙ e; here = h.here; entered = λ i j. subst (λ n. f.reach (take n w) ≡ true) (let z : 0 ≡ i = omega arith in z) r; ahead = d })

  module _ {x : X} {k s : ℕ} {rest more : Word} (p : Passing frame at f w x k rest) (e : rest ≡ s ∷ more) where
    below : k < length w
    below = omega (arith, length-drop k w, ap length (sym p.ahead ∙ e))

    now : (get_or w k 0 ≡ s) × (drop (k + 1) w ≡ more)
    now = let h : get_or w k 0 ∷ drop (k + 1) w ≡ s ∷ more = sym (drop_more w k 0 below) ∙ sym p.ahead ∙ e in ((cc), (cc))

    next : take k w ++ (s ∷ []) ≡ take (k + 1) w
    next = ap (λ z. take k w ++ (z ∷ [])) (sym now.0) ∙ sym (take_more w k 0 below)

    pub pass_on : {y : X} {r : Result (Unit {0}) StepFault} {j : ℕ} → Stepped frame at x y s r → is_ok r ≡ true → j ≡ k + 1 → Passing frame at f w y j more
    pass_on {y = y} {r = Ok _} t o q =
        let m = t.took.1 (take k w) p.here in
        let r : f.reach (take (k + 1) w) ≡ true = subst (λ v. f.reach v ≡ true) next (subst (λ (h : Frame). h.reach (take k w ++ (s ∷ [])) ≡ true) p.same m.0) in
        subst (λ n. Passing frame at f w y n more) (sym q) (record {
          same = t.same ∙ p.same;
          here = subst (λ v. at y v) next m.1;
          entered = λ i h. ⊎_elim (λ (d : i ≡ k + 1). subst (λ n. f.reach (take n w) ≡ true) (sym d) r) (λ d. p.entered i (omega arith)) (cases_eq i (k + 1));
          ahead = sym now.1;
        })
    pass_on {r = Err e} t o q = absurd (both_ways false refl o)

    -- a step by a letter of the group is refused by the reach alone
    pub pass_out : length w ≤ 4096 → Letters f.group w → {y : X} {r : Result (Unit {0}) StepFault} {j : ℕ} {q : Result (Unit {0}) WordFault} → Stepped frame at x y s r → is_ok r ≡ false → j ≡ k → q ≡ Err (Reach j) → Arrived f (at y) w q
    pass_out few l {r = Ok _} t o h d = absurd (both_ways true o refl)
    pass_out few l {r = Err NoLetter} t o h d = absurd (t.took.1 (subst (λ (h : Frame). Letter h.group s) (sym p.same) (subst (λ z. Letter f.group z) now.0 (letters_at f.group w k l below))))
    pass_out few l {y = y} {r = Err OutOfReach} t o h d = subst (λ z. Arrived f (at y) w z) (sym (d ∙ ap (λ n. Err (Reach n)) h)) (record {
      told = (
        few,
        record {
          letters = l;
          below = below;
          entered = p.entered;
          beyond = subst (λ v. f.reach v ≡ false) next (subst (λ (h : Frame). h.reach (take k w ++ (s ∷ [])) ≡ false) p.same (t.took.2 (take k w) p.here));
        },
      );
    })

  pub pass_done : {x : X} {k : ℕ} {rest : Word} → Passing frame at f w x k rest → rest ≡ [] → length w ≤ 4096 → Letters f.group w → Arrived f (at x) w (Ok tt)
  pass_done {x = x} {k = k} p d few letters =
      let e : length w ≤ k = omega (arith, length-drop k w, ap length (sym p.ahead ∙ d)) in
      record {
        told = (record { few = few; letters = letters; prefixes = λ i j. p.entered i (omega arith) }, subst (λ v. at x v) (take_all k w e) p.here);
      }
