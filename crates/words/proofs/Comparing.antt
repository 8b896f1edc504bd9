-- Groups of two carriers, elements of two words.
use Rattle.std.proofs.Common.{◌≡◌, ℕ, ◌+◌, ◌-◌, ◌<◌, ◌≤◌, Bool, true, false, ◌↔◌, [], reverse, length, get_or, Ok, Decides, sym, refl, ap, ◌∙◌, subst, arith, ext_get_or}
use Rattle.std.specs.Bool.{MatchBool}
use Rattle.std.proofs.lemmas.List.{reverse-reverse}
use Rattle.std.proofs.lemmas.Bool.{both_ways}
use Rattle.std.proofs.lemmas.Bool.Decides.{nat_tests}
use Rattle.coxeter.specs.Groups.{Matrix, Lawful, Letter, rank, exponent, answered_exponent}
use Rattle.coxeter.specs.Moves.{Word, Letters, Joined}
use Rattle.coxeter.specs.Points.{Form}
use Rattle.coxeter.proofs.Forms.{forms_decide}
use Rattle.carriers.specs.Frames.{Frame}
use Rattle.words.specs.declared.elements.Comparison.TheVariants.{Same, Unlike}
use Rattle.words.specs.Promises.{Compared}
use Rattle.words.specs.Reading.{Read}
use Rattle.words.proofs.Answering.{read_letters}

-- ---- groups
pub answered_is : (g : Matrix) (s t : ℕ) → Letter g s → Letter g t → answered_exponent g s t ≡ exponent g s t
answered_is g s t h k = let a = h.from_one in let b = h.to_rank in let c = k.from_one in let d = k.to_rank in grind (arith, nat_tests)

pub same_matrix : (g h : Matrix) → Lawful g → Lawful h → rank g ≡ rank h → ((a b : ℕ) → Letter g a → Letter g b → exponent g a b ≡ exponent h a b) → g ≡ h
same_matrix g h p q e k = ext_get_or [] g h e row
  where
    row : (i : ℕ) → i < length g → get_or g i [] ≡ get_or h i []
    row i l = ext_get_or 255 (get_or g i []) (get_or h i []) (long ∙ e ∙ sym long') cell
      where
        z : i + 1 - 1 ≡ i
        z = omega arith

        letter : Letter g (i + 1)
        letter = record { from_one = omega arith; to_rank = omega arith }

        letter' : Letter h (i + 1)
        letter' = record { from_one = omega arith; to_rank = omega arith }

        long : length (get_or g i []) ≡ rank g
        long = subst (λ j. length (get_or g j []) ≡ rank g) z (p.square (i + 1) letter)

        long' : length (get_or h i []) ≡ rank h
        long' = subst (λ j. length (get_or h j []) ≡ rank h) z (q.square (i + 1) letter')

        cell : (j : ℕ) → j < length (get_or g i []) → get_or (get_or g i []) j 255 ≡ get_or (get_or h i []) j 255
        cell j d =
            let y : j + 1 - 1 ≡ j = omega arith in
            let s = long in
            let m : Letter g (j + 1) = record { from_one = omega arith; to_rank = omega arith } in
            (λ v. get_or (get_or g (sym z v) []) (sym y v) 255) ∙ k (i + 1) (j + 1) letter m ∙ (λ v. get_or (get_or h (z v) []) (y v) 255)

-- the test of all letters, of n numbers, decides what it tests
pub letters_decided : (g : Matrix) (n : ℕ) (P : ℕ → Type 0) (r : Bool) → n ≡ rank g → MatchBool r ((k : ℕ) → 1 ≤ k → k ≤ n → P k) ((k : ℕ) × (1 ≤ k) × (k ≤ n) × ¬ P k) → Decides r ((s : ℕ) → Letter g s → P s)
letters_decided g n P true e h = (λ q s l. h s l.from_one (let i = l.to_rank in omega arith), λ q. refl)
letters_decided g n P false e h = ((λ q. absurd (both_ways false refl q)), λ q. absurd (h.3 (q h.0 (let i = h.1 in let j = h.2 in record { from_one = omega arith; to_rank = omega arith }))))

-- two groups of one rank are one where all exponents agree
pub group_decided : (g h : Matrix) → Lawful g → Lawful h → rank g ≡ rank h → (r : Bool) → Decides r ((s : ℕ) → Letter g s → (t : ℕ) → Letter g t → answered_exponent g s t ≡ answered_exponent h s t) → Decides r (g ≡ h)
group_decided g h p q e r d = (
  λ k. same_matrix g h p q e (λ a b i j.
      sym (answered_is g a b i j) ∙ d.0 k a i b j ∙ answered_is h a b (over a i) (over b j)),
  λ k. d.1 (λ s i t j. ap (λ (m : Matrix). answered_exponent m s t) k),
)
  where
    over : (s : ℕ) → Letter g s → Letter h s
    over s l = let x = l.from_one in let y = l.to_rank in record { from_one = omega arith; to_rank = omega arith }

-- ---- elements
module _ (e f : Frame) (law : Lawful e.group) (same : e.group ≡ f.group) (u v a b : Word) (x : Read e u (λ t. a ≡ t) (Ok tt)) (y : Read f v (λ t. b ≡ t) (Ok tt)) where
  -- the letters read off are equal exactly when the words are joined
  both : (a ≡ b) ↔ Joined e.group u v
  both =
      let p = read_letters x in
      let q = read_letters y in
      let k = forms_decide e.group law u v (reverse a) (reverse b) p.entered.letters (subst (λ (g : Matrix). Letters g v) (sym same) q.entered.letters) p.formed (subst (λ (g : Matrix). Form g v (reverse b)) (sym same) q.formed) in
      (λ t. k.0 (ap reverse t), λ j. sym (reverse-reverse a) ∙ ap reverse (k.1 j) ∙ reverse-reverse b)

  pub compared_same : a ≡ b → Compared e f u v (Ok Same)
  compared_same d = record { compares = (same, (reverse a, read_letters x), (reverse b, read_letters y), both.0 d) }

  pub compared_unlike : ¬ (a ≡ b) → Compared e f u v (Ok Unlike)
  compared_unlike d = record { compares = (same, (reverse a, read_letters x), (reverse b, read_letters y), λ j. d (both.1 j)) }
