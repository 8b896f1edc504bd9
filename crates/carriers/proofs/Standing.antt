-- A row that shows the point of a word, and a step of it.
use Rattle.std.proofs.Common.{◌≡◌, ℕ, zero, suc, ◌-◌, ◌≤◌, Bool, true, false, ◌↔◌, List, [], ◌∷◌, ◌++◌, Decides, sym, refl, ap, ◌∙◌, subst, ⊎_elim, arith}
use Rattle.std.proofs.lemmas.Bool.{and_left, and_right, cases_eq}
use Rattle.coxeter.specs.Numbers.{Exact, minus, times, negative}
use Rattle.coxeter.specs.Groups.{Matrix, Lawful, Letter, rank}
use Rattle.coxeter.specs.Moves.{Word, Letters}
use Rattle.coxeter.specs.Points.{Point, start, stepped, walked, point, coefficient}
use Rattle.coxeter.specs.Lengths.{Descends}
use Rattle.coxeter.proofs.Lengths.{signs_descend}
use Rattle.numbers.specs.declared.coefficient.Coefficient.{Coefficient}
use Rattle.carriers.specs.Frames.{Frame}
use Rattle.carriers.specs.Rows.{fitting_frame, full_frame, numbers, all_fit, letters_test, fitting, Shows}
use Rattle.carriers.specs.Steps.{taken_off, Moved, Stuck}
use Rattle.carriers.specs.Tables.{Column}
use Rattle.carriers.specs.CarrierLaws.{letters_from, letters_tested, all_fit_at, fitting_parts, fitting_from}

pub walked_snoc : (g : Matrix) (w : Word) (s : ℕ) (v : Point) → walked g (w ++ (s ∷ [])) v ≡ stepped g s (walked g w v)
walked_snoc g [] s v = refl
walked_snoc g (t ∷ w) s v = walked_snoc g w s (stepped g t v)

pub letters_snoc : (g : Matrix) (w : Word) (s : ℕ) → Letters g w → Letter g s → Letters g (w ++ (s ∷ []))
letters_snoc g [] s h k = (k, tt)
letters_snoc g (t ∷ w) s h k = (h.0, letters_snoc g w s h.1 k)

-- a test of the letter's number decides whether the letter descends
pub descent_told : (g : Matrix) (v : Point) (w : Word) (s : ℕ) (r : Bool) → Lawful g → Letter g s → Shows g v w → r ≡ negative (v s) → Decides r (Letter g s × Descends g w s)
descent_told g v w s r law l h e =
    let k = signs_descend g law w h.letters s l in
    let d : r ≡ negative (point g w s) = e ∙ ap negative (h.shown s l) in
    (λ t. (l, k.0 (sym d ∙ t)), λ p. d ∙ k.1 p.1)

pub stepped_shown : (g : Matrix) (s : ℕ) (v : Point) (w : Word) → Letter g s → Shows g v w → (a : ℕ) → Letter g a → stepped g s v a ≡ point g (w ++ (s ∷ [])) a
stepped_shown g s v w k h a j =
    let p : v a ≡ point g w a = h.shown a j in
    let q : v s ≡ point g w s = h.shown s k in
    let m : stepped g s v a ≡ stepped g s (point g w) a = (λ i. minus (p i) (times (coefficient g a s) (q i))) in
    m ∙ ap (λ (u : Point). u a) (sym (walked_snoc g w s start))

-- a point that is stepped on the letters shows the next word
pub step_shows : (g : Matrix) (s : ℕ) (v u : Point) (w : Word) → Letter g s → ((a : ℕ) → Letter g a → u a ≡ stepped g s v a) → Shows g v w → Shows g u (w ++ (s ∷ []))
step_shows g s v u w k h j = record {
  letters = letters_snoc g w s j.letters k;
  shown = λ a i. h a i ∙ stepped_shown g s v w k j a i;
}

pub all_fit_not : (fits : Exact → Bool) (v : Point) (n a : ℕ) → 1 ≤ a → a ≤ n → fits (v a) ≡ false → all_fit fits v n ≡ false
all_fit_not fits v zero a h k e = absurd (omega arith)
all_fit_not fits v (suc n) a h k e =
    ⊎_elim (λ (q : a ≡ suc n). and_left (fits (v (suc n))) (all_fit fits v n) (subst (λ b. fits (v b) ≡ false) q e))
    (λ q. and_right (fits (v (suc n))) (all_fit fits v n) (all_fit_not fits v n a h (omega arith) e)) (cases_eq a (suc n))

-- ---- a step in a row, by a column of coefficients
module _ (g : Matrix) (n s : ℕ) (same : rank g ≡ n) (column : List Coefficient) (k : Column g s column) (l : List Exact) where
  -- what is written for the letter a is its stepped number
  taken_stepped : (a : ℕ) → Letter g a → taken_off column (numbers l s) l (a - 1) ≡ stepped g s (numbers l) a
  taken_stepped a i = ap (λ (c : Exact). minus (numbers l a) (times c (numbers l s))) (k a i)

  pub moved_shows : (m : List Exact) (w : Word) → Letter g s → Moved n column (numbers l s) l m → Shows g (numbers l) w → Shows g (numbers m) (w ++ (s ∷ []))
  moved_shows m w j h p =
      step_shows g s (numbers l) (numbers m) w j (λ a i. let b = i.from_one in let c = i.to_rank in h (a - 1) (omega arith) ∙ taken_stepped a i) p

  -- where a number does not fit, the word is out of reach
  pub stuck_unfit : (fits : Exact → Bool) (w : Word) → Letter g s → Stuck fits n column (numbers l s) l → Shows g (numbers l) w → fitting fits g (w ++ (s ∷ [])) ≡ false
  stuck_unfit fits w j h p =
      let a : ℕ = suc h.at in
      let b = h.below in
      let i : Letter g a = record { from_one = omega arith; to_rank = omega arith } in
      let q : a - 1 ≡ h.at = omega arith in
      let e : fits (taken_off column (numbers l s) l (a - 1)) ≡ false = subst (λ x. fits (taken_off column (numbers l s) l x) ≡ false) (sym q) h.misfit in
      let d : fits (point g (w ++ (s ∷ [])) a) ≡ false = subst (λ z. fits z ≡ false) (taken_stepped a i ∙ stepped_shown g s (numbers l) w j p a i) e in
      and_right (letters_test g (w ++ (s ∷ []))) _ (all_fit_not fits (point g (w ++ (s ∷ []))) (rank g) a i.from_one i.to_rank d)

-- the reach of a chamber whose frame is that of the group g, in full
pub fitting_exactly : (fits : Exact → Bool) (g h : Matrix) → fitting_frame fits h ≡ fitting_frame fits g → (w : Word) → (fitting fits h w ≡ true) ↔ (Letters g w × ((a : ℕ) → Letter g a → fits (point g w a) ≡ true))
fitting_exactly fits g h e w =
    subst (λ (f : Frame). (f.reach w ≡ true) ↔ (Letters g w × ((a : ℕ) → Letter g a → fits (point g w a) ≡ true))) (sym e)
    (λ h. let p = fitting_parts fits g w h in (p.0, λ a k. all_fit_at fits (point g w) (rank g) a k.from_one k.to_rank p.1), λ h. fitting_from fits g w h.0 h.1)

-- the reach of one-line notation whose frame is that of the group g, in full
pub full_exactly : (g h : Matrix) → full_frame h ≡ full_frame g → (w : Word) → (letters_test h w ≡ true) ↔ Letters g w
full_exactly g h e w = subst (λ (f : Frame). (f.reach w ≡ true) ↔ Letters g w) (sym e) (letters_from g w, letters_tested g w)
