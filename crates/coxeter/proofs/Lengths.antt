-- A letter descends where its number is negative; the form's letter count is the length.
use Rattle.std.proofs.Common.{◌≡◌, ℕ, true, ◌↔◌, [], ◌∷◌, ◌++◌, sym, refl, ap, ◌∙◌, arith}
use Rattle.coxeter.specs.Numbers.{negated, Negative, negative}
use Rattle.coxeter.specs.Groups.{Matrix, Letter, Lawful}
use Rattle.coxeter.specs.Moves.{Word, Letters}
use Rattle.coxeter.specs.Points.{Point, start, walked, point}
use Rattle.coxeter.specs.Theorems.{Formed, Shortens, SignsTellDescents, FormsMeasure}
use Rattle.coxeter.specs.Lengths.{Descends}
use Rattle.coxeter.proofs.Exacts.{nought}
use Rattle.coxeter.proofs.Positives.{positive_nonzero}
use Rattle.coxeter.proofs.Signs.{positive_rule, negative_rule, signs_agree_lem, above_positive}
use Rattle.coxeter.proofs.Walks.{joined_walk}
use Rattle.coxeter.proofs.Joining.{join_then, join_back, join_before, join_letters, letters_append, struck}
use Rattle.coxeter.proofs.KeyLemma.{Everywhere, Ends, over, under, ends, positive_turned_over}
use Rattle.coxeter.proofs.Forms.{start_positive, forms_exist, forms_shortest, joined_form}
use Rattle.std.proofs.lemmas.Bool.{both_ways}

module _ (g : Matrix) (law : Lawful g) (v : Point) (e : Everywhere g v) where
  -- the number is negative: from the form, the element times s has a shorter word
  under_descends : (w : Word) → Letters g w → (s : ℕ) → Letter g s → negative (walked g w v s) ≡ true → Descends g w s
  under_descends w k s l n = by (ends g law v e r.0 r.1.letters s l)
    where
      r : (f : Word) × Formed g w f
      r = forms_exist g law w k

      same : walked g w v s ≡ walked g r.0 v s
      same = ap (λ u. u s) (joined_walk g law r.1.joined v)

      by : Ends g v r.0 s → Descends g w s
      by (over p) = absurd (both_ways (negative (walked g r.0 v s)) (positive_rule (walked g r.0 v s) p) (ap negative (sym same) ∙ n))
      by (under p x j d) = record {
        shorter = x;
        joined = join_then (join_before (s ∷ []) r.1.joined) j;
        below = λ u i. omega (arith, d, forms_shortest g law w r.0 u k r.1.form i);
      }

  -- the number is positive: then that of w s is negative, so s descends at w s and not at w
  descends_under : (w : Word) → Letters g w → (s : ℕ) → Letter g s → Descends g w s → negative (walked g w v s) ≡ true
  descends_under w k s l d = by (ends g law v e w k s l)
    where
      by : Ends g v w s → negative (walked g w v s) ≡ true
      by (under p x j h) = negative_rule (walked g w v s) p
      by (over p) = absurd (omega (arith, there.below d.shorter d.joined, d.below there.shorter (join_then (join_back law (struck w s l)) there.joined)))
        where
          there : Descends g (w ++ (s ∷ [])) s
          there = under_descends (w ++ (s ∷ [])) (letters_append g w (s ∷ []) k (l, tt)) s l
              (negative_rule (walked g (w ++ (s ∷ [])) v s) (positive_turned_over g law w s l v p))

  never_zero : (w : Word) → Letters g w → (s : ℕ) → Letter g s → ¬ (walked g w v s ≡ nought)
  never_zero w k s l = by (ends g law v e w k s l)
    where
      by : Ends g v w s → ¬ (walked g w v s ≡ nought)
      by (over p) = positive_nonzero (walked g w v s) p
      by (under p w' j d) = λ z. positive_nonzero (negated (walked g w v s)) p (ap negated z)

  shortens : (w : Word) → Letters g w → (s : ℕ) → Letter g s → negative (walked g w v s) ≡ true → Shortens g w s
  shortens w k s l r = by (ends g law v e w k s l)
    where
      by : Ends g v w s → Shortens g w s
      by (over p) = absurd (both_ways (negative (walked g w v s)) (positive_rule (walked g w v s) p) r)
      by (under p w' j d) = record { word = w'; joined = j; letters = join_letters g j (letters_append g w (s ∷ []) k (l, tt)); fewer = d }

pub signs_tell_descents_lem : SignsTellDescents
signs_tell_descents_lem g law v o w k s l = record {
  never_zero = never_zero g law v e w k s l;
  descent = (λ n. under_descends g law v e w k s l (sign.1 n), λ d. sign.0 (descends_under g law v e w k s l d));
  shortening = λ n. shortens g law v e w k s l (sign.1 n);
}
  where
    e : Everywhere g v
    e a i = above_positive (v a) (o a i)

    sign : (negative (walked g w v s) ≡ true) ↔ Negative (walked g w v s)
    sign = signs_agree_lem (walked g w v s)

-- the same at the point of a word, by the tests of the sign
pub signs_descend : (g : Matrix) → Lawful g → (w : Word) → Letters g w → (s : ℕ) → Letter g s → (negative (point g w s) ≡ true) ↔ Descends g w s
signs_descend g law w k s l = (under_descends g law start (start_positive g) w k s l, descends_under g law start (start_positive g) w k s l)

pub forms_measure : FormsMeasure
forms_measure g law w f k p = record { shortest = f; joined = joined_form g law w f k p; size = refl; least = λ v j. forms_shortest g law w f v k p j }
