-- The form of a word: there is exactly one, it is computed, it tells which words are joined, and it is a shortest word.
use Rattle.std.proofs.Common.{◌≡◌, ℕ, zero, suc, ◌<◌, ◌≤◌, [], ◌∷◌, ◌++◌, length, Some, None, Option, sym, refl, ap, ◌∙◌, subst, le_refl, arith}
use mathlib.Core.Logic.Dec
use mathlib.Core.List.{List-discrete}
use native.Mathlib.Decide.{ℕ_discrete}
use Rattle.coxeter.specs.Numbers.{negative}
use Rattle.coxeter.specs.Groups.{Matrix, Letter, Lawful, rank}
use Rattle.coxeter.specs.Moves.{Word, Letters, Joined, none}
use Rattle.coxeter.specs.Points.{start, point, Least, Reads, home, back, Form}
use Rattle.coxeter.specs.Forms.{least_negative, form_of}
use Rattle.coxeter.specs.Theorems.{Formed, JoinedWordsMeet, OneForm, FormsComputed, FormsDecide, JoiningDecided, PointsDecide}
use Rattle.coxeter.proofs.Positives.{natural_positive}
use Rattle.coxeter.proofs.Signs.{positive_rule, negative_rule}
use Rattle.std.proofs.lemmas.List.{length_push}
use Rattle.coxeter.proofs.Words.{Last, nothing, ending, last}
use Rattle.coxeter.proofs.Walks.{walked_append, joined_walk}
use Rattle.coxeter.proofs.Joining.{join_then, join_same, join_back, join_before, join_letters, letters_append, letters_front, letters_rest, struck}
use Rattle.coxeter.proofs.KeyLemma.{Everywhere, Ends, over, under, ends, positive_turned_over}
use Rattle.coxeter.proofs.Readings.{NoneNegative, reads_unique, letters_suffice_lem, Found, found, reads_computed}
use Rattle.std.proofs.lemmas.Bool.{both_ways}

pub joined_words_meet_lem : JoinedWordsMeet
joined_words_meet_lem g law u w j v a = ap (λ f. f a) (joined_walk g law j v)

-- ---- a word has one form at most
pub forms_unique : (g : Matrix) (w f h : Word) → Form g w f → Form g w h → f ≡ h
forms_unique g w f h p q = reads_unique g p q

-- ---- it has one
pub start_positive : (g : Matrix) → Everywhere g start
start_positive g a l = natural_positive (start a) 1 0 refl refl (omega arith)

-- every shorter word has a form
abbrev Rest : Matrix → Word → Type 0
Rest g w = (u : Word) → length u < length w → Letters g u → (f : Word) × Formed g u f

-- the letter s has a negative number: the form ends in it
form_by_descent : (g : Matrix) → Lawful g → (w : Word) → Letters g w → Rest g w → (s : ℕ) → Least g (point g w) s → Ends g start w s → (f : Word) × Formed g w f
form_by_descent g law w k rest s m (over p) = absurd (both_ways (negative (point g w s)) (positive_rule (point g w s) p) m.below)
form_by_descent g law w k rest s m (under p w' j d) = (
  r.0 ++ (s ∷ []),
  record {
    form = back m (subst (λ z. Reads g z r.0) (sym (joined_walk g law j start) ∙ walked_append g w (s ∷ []) start) r.1.form);
    joined = join_then (join_back law (struck w s m.letter)) (join_then (join_before (s ∷ []) j) (join_before (s ∷ []) r.1.joined));
    letters = letters_append g r.0 (s ∷ []) r.1.letters (m.letter, tt);
    no_longer = omega (arith, length_push r.0 s, r.1.no_longer);
  },
)
  where
    r : (f : Word) × Formed g w' f
    r = rest w' d (join_letters g j (letters_append g w (s ∷ []) k (m.letter, tt)))

-- no letter has: the word is empty, or its last letter is not needed
form_without_descent : (g : Matrix) → Lawful g → (w : Word) → Letters g w → Rest g w → NoneNegative g (point g w) → Last w → (f : Word) × Formed g w f
form_without_descent g law w k rest f nothing = ([], record { form = home f; joined = none; letters = tt; no_longer = le_refl 0 })
form_without_descent g law w k rest f (ending u s) = by (ends g law start (start_positive g) u (letters_front g u (s ∷ []) k) s l)
  where
    l : Letter g s
    l = (letters_rest g u (s ∷ []) k).0

    by : Ends g start u s → (f : Word) × Formed g (u ++ (s ∷ [])) f
    by (over p) = absurd (both_ways (negative (point g (u ++ (s ∷ [])) s)) (f s l)
        (negative_rule (point g (u ++ (s ∷ [])) s) (positive_turned_over g law u s l start p)))
    by (under p u' j d) = (
      r.0,
      record {
        form = subst (λ z. Reads g z r.0) (sym (joined_walk g law j start)) r.1.form;
        joined = join_then j r.1.joined;
        letters = r.1.letters;
        no_longer = omega (arith, length_push u s, r.1.no_longer);
      },
    )
      where
        r : (f : Word) × Formed g u' f
        r = rest u' (omega (arith, length_push u s)) (join_letters g j k)

formed_by : (g : Matrix) → Lawful g → (w : Word) → Letters g w → Rest g w → (f : Word) × Formed g w f
formed_by g law w k rest = by (least_negative (point g w) (rank g) 1) (found g (point g w))
  where
    by : (o : Option ℕ) → Found g (point g w) o → (f : Word) × Formed g w f
    by (Some s) m = form_by_descent g law w k rest s m (ends g law start (start_positive g) w k s m.letter)
    by None f = form_without_descent g law w k rest f (last w)

formed_upto : (g : Matrix) → Lawful g → (n : ℕ) (w : Word) → length w ≤ n → Letters g w → (f : Word) × Formed g w f
formed_upto g law zero w h k = formed_by g law w k (λ u d i. absurd (omega arith))
formed_upto g law (suc n) w h k = formed_by g law w k (λ u d i. formed_upto g law n u (omega arith) i)

pub forms_exist : (g : Matrix) → Lawful g → (w : Word) → Letters g w → (f : Word) × Formed g w f
forms_exist g law w k = formed_upto g law (length w) w (le_refl (length w)) k

pub one_form : OneForm
one_form g law w k = (r.0, (r.1, λ h q. forms_unique g w h r.0 q r.1.form))
  where
    r : (f : Word) × Formed g w f
    r = forms_exist g law w k

pub forms_computed : FormsComputed
forms_computed g law w f k = (λ p. computed ∙ forms_unique g w r.0 f r.1.form p, λ e. subst (Form g w) (sym computed ∙ e) r.1.form)
  where
    r : (f : Word) × Formed g w f
    r = forms_exist g law w k

    computed : form_of g w ≡ r.0
    computed = reads_computed g (length w) r.1.form r.1.no_longer

-- ---- forms decide which words are joined, and are shortest
pub joined_form : (g : Matrix) → Lawful g → (w f : Word) → Letters g w → Form g w f → Joined g w f
joined_form g law w f k p = subst (Joined g w) (forms_unique g w r.0 f r.1.form p) r.1.joined
  where
    r : (h : Word) × Formed g w h
    r = forms_exist g law w k

pub same_form : (g : Matrix) → Lawful g → (u v f h : Word) → Form g u f → Form g v h → Joined g u v → f ≡ h
same_form g law u v f h p q j = forms_unique g v f h (subst (λ z. Reads g z f) (joined_walk g law j start) p) q

pub forms_decide : FormsDecide
forms_decide g law u v f h k i p q = (forth, λ j. same_form g law u v f h p q j)
  where
    forth : f ≡ h → Joined g u v
    forth e = join_then (joined_form g law u f k p) (join_then (join_same e) (join_back law (joined_form g law v h i q)))

pub forms_shortest : (g : Matrix) → Lawful g → (w f u : Word) → Letters g w → Form g w f → Joined g w u → length f ≤ length u
forms_shortest g law w f u k p j = subst (λ z. length z ≤ length u) (sym (same_form g law w u f r.0 p r.1.form j)) r.1.no_longer
  where
    r : (h : Word) × Formed g u h
    r = forms_exist g law u (join_letters g j k)

-- ---- points decide it too
pub points_decide : PointsDecide
points_decide g law u w k i = (forth, λ j a l. joined_words_meet_lem g law u w j start a)
  where
    p : (f : Word) × Formed g u f
    p = forms_exist g law u k

    q : (f : Word) × Formed g w f
    q = forms_exist g law w i

    forth : ((a : ℕ) → Letter g a → point g u a ≡ point g w a) → Joined g u w
    forth e = (forms_decide g law u w p.0 q.0 k i p.1.form q.1.form).0
        (forms_unique g w p.0 q.0 (letters_suffice_lem g (point g u) (point g w) p.0 e p.1.form) q.1.form)

pub joining_decided : JoiningDecided
joining_decided g law u w k i = Dec.of_iff (forms_decide g law u w p.0 q.0 k i p.1.form q.1.form) (List-discrete ℕ_discrete p.0 q.0)
  where
    p : (f : Word) × Formed g u f
    p = forms_exist g law u k

    q : (f : Word) × Formed g w f
    q = forms_exist g law w i
