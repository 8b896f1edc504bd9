-- The key lemma: where a walk from positive numbers makes the number of a letter negative, the word followed by that letter is joined to a shorter word.
use Rattle.std.proofs.Common.{◌≡◌, ℕ, zero, suc, ◌<◌, ◌≤◌, ◌≢◌, ◌⊎◌, [], ◌∷◌, ◌++◌, length, sym, ap, ◌∙◌, subst, inl, inr, append_assoc, append-nil, le_refl, arith, length-append}
use Rattle.coxeter.specs.Numbers.{negated}
use Rattle.coxeter.specs.Groups.{Matrix, Letter, Lawful, exponent}
use Rattle.coxeter.specs.Moves.{Word, Letters, alternating, Joined}
use Rattle.coxeter.specs.Points.{Point, walked}
use Rattle.coxeter.proofs.Exacts.{negated_negated}
use Rattle.coxeter.proofs.Positives.{Positive}
use Rattle.std.proofs.lemmas.List.{length_push}
use Rattle.coxeter.proofs.Words.{Last, nothing, ending, last, in_turn, alternating_more, length_alternating, turn_of}
use Rattle.coxeter.proofs.Walks.{walked_append, walked_more, joined_walk}
use Rattle.coxeter.proofs.Joining.{join_then, join_same, join_before, join_letters, letters_front, letters_rest, struck}
use Rattle.coxeter.proofs.TwoLetters.{Two, Within, within_or_full, turn_positive}
use Rattle.coxeter.proofs.Splits.{Split, Smaller, first_under, split_braided, second_under, split_at_last}
use Rattle.std.proofs.lemmas.Bool.{cases_eq}

-- every letter has a positive number
abbrev pub Everywhere : Matrix → Point → Type 0
Everywhere g v = (a : ℕ) → Letter g a → Positive (v a)

-- what the walk over w makes of the letter s: positive, or negative and then w s is joined to a word shorter than w
pub data Ends (g : Matrix) (v : Point) (w : Word) (s : ℕ) : Type 0 where
  over : Positive (walked g w v s) → Ends g v w s
  under : Positive (negated (walked g w v s)) → (w' : Word) → Joined g (w ++ (s ∷ [])) w' → length w' < length w → Ends g v w s

-- ---- shorten the front until both letters are positive on it
record Reduced (g : Matrix) (v : Point) (w : Word) (s : ℕ) : Type 0 where
  front : Word
  turns : ℕ
  a : ℕ
  b : ℕ
  split : Split g w s front turns a b
  a_over : Positive (walked g front v a)
  b_over : Positive (walked g front v b)

-- the lemma for words of at most n letters
abbrev Ended : Matrix → Point → ℕ → Type 0
Ended g v n = (x : Word) → length x ≤ n → Letters g x → (r : ℕ) → Letter g r → Ends g v x r

module _ (g : Matrix) (law : Lawful g) (v : Point) (w : Word) (s : ℕ) where
  -- by the signs of the two letters: done, or go on with a shorter front
  reduce_step : (x : Word) (k a b : ℕ) → Split g w s x k a b → Ends g v x a → Ends g v x b → (Smaller g w s (length x) → Reduced g v w s) → Reduced g v w s
  reduce_step x k a b p (over i) (over j) rest = record { front = x; turns = k; a = a; b = b; split = p; a_over = i; b_over = j }
  reduce_step x k a b p (over i) (under j x' c d) rest = rest (second_under g law w s x k a b p x' c d)
  reduce_step x k a b p (under i x' c d) e rest = rest (first_under g law w s x k a b p x' c d)

  front_letters : (x : Word) (k a b : ℕ) → Split g w s x k a b → Letters g w → Letters g x
  front_letters x k a b p h = letters_front g x (alternating k a b) (join_letters g p.joined h)

  reduce : (n : ℕ) → Ended g v n → Letters g w → (fuel : ℕ) (x : Word) (k a b : ℕ) → Split g w s x k a b → length x ≤ fuel → length x ≤ n → Reduced g v w s
  reduce n ended h zero x k a b p i j =
      reduce_step x k a b p (ended x j (front_letters x k a b p h) a p.two.left) (ended x j (front_letters x k a b p h) b p.two.right)
      (λ q. absurd (omega (arith, q.fewer)))
  reduce n ended h (suc fuel) x k a b p i j =
      reduce_step x k a b p (ended x j (front_letters x k a b p h) a p.two.left) (ended x j (front_letters x k a b p h) b p.two.right)
      (λ q. reduce n ended h fuel q.front q.turns q.a q.b q.split (omega (arith, q.fewer)) (omega (arith, q.fewer)))

-- a step by s turns a positive number of s negative
pub positive_turned_over : (g : Matrix) → Lawful g → (u : Word) (s : ℕ) → Letter g s → (v : Point) → Positive (walked g u v s) → Positive (negated (walked g (u ++ (s ∷ [])) v s))
positive_turned_over g law u s l v p = subst Positive (sym (ap negated (walked_more g law u s l v) ∙ negated_negated (walked g u v s))) p

-- w ~ u s, where the walk over u leaves s positive
ends_under : (g : Matrix) → Lawful g → (v : Point) (w u : Word) (s : ℕ) → Letter g s → Joined g w (u ++ (s ∷ [])) → length u < length w → Positive (walked g u v s) → Ends g v w s
ends_under g law v w u s l j d p =
    under (subst (λ f. Positive (negated (f s))) (sym (joined_walk g law j v)) (positive_turned_over g law u s l v p))
    u (join_then (join_before (s ∷ []) j) (struck u s l)) d

-- ---- after a front on which both letters are positive, the sign shows in the letters in turn
module _ (g : Matrix) (law : Lawful g) (v : Point) (w : Word) (s : ℕ) (l : Letter g s) (x : Word) where
  turn_over : (k a b : ℕ) → Two g a b → Positive (walked g x v a) → Positive (walked g x v b) → Within g a b (suc k) → in_turn k a b ≡ s → Positive (walked g (x ++ alternating k a b) v s)
  turn_over k a b t p q h e =
      subst Positive (ap (walked g (alternating k a b) (walked g x v)) e ∙ ap (λ f. f s) (sym (walked_append g x (alternating k a b) v)))
      (turn_positive g law a b t k h (walked g x v) p q)

  -- it was the turn of s
  last_turn : (k a b : ℕ) → Split g w s x k a b → Positive (walked g x v a) → Positive (walked g x v b) → in_turn k b a ≡ s → Ends g v w s
  last_turn zero a b t p q e =
      over (subst Positive (ap (walked g x v) e ∙ ap (λ f. f s) (sym (joined_walk g law t.joined v ∙ ap (λ z. walked g z v) (append-nil x)))) q)
  last_turn (suc k) a b t p q e =
      ends_under g law v w (x ++ alternating k a b) s l
      (subst (Joined g w) (ap (λ z. x ++ z) (alternating_more k a b ∙ ap (λ z. alternating k a b ++ (z ∷ [])) e) ∙ sym (append_assoc x (alternating k a b) (s ∷ []))) t.joined)
      (omega (arith, t.no_longer, length-append x (alternating k a b), length_alternating k a b))
      (turn_over k a b t.two p q t.limit e)

  -- it is the turn of s; past the exponent, a braid makes it that it was
  next_turn : (k a b : ℕ) → Split g w s x k a b → Positive (walked g x v a) → Positive (walked g x v b) → in_turn k a b ≡ s → Ends g v w s
  next_turn k a b t p q e = by (within_or_full g a b k t.limit)
    where
      by : Within g a b (suc k) ⊎ ((exponent g a b ≡ k) × (k ≢ 0)) → Ends g v w s
      by (inl h) = over (subst Positive (ap (λ f. f s) (sym (joined_walk g law t.joined v))) (turn_over k a b t.two p q h e))
      by (inr f) = last_turn k b a (split_braided g law w s x k a b t f.0 f.1) q p e

reduced_ends : (g : Matrix) → Lawful g → (v : Point) (w : Word) (s : ℕ) → Letter g s → Reduced g v w s → Ends g v w s
reduced_ends g law v w s l r = by (turn_of r.turns r.split.one_of)
  where
    by : (in_turn r.turns r.a r.b ≡ s) ⊎ (in_turn r.turns r.b r.a ≡ s) → Ends g v w s
    by (inl e) = next_turn g law v w s l r.front r.turns r.a r.b r.split r.a_over r.b_over e
    by (inr e) = last_turn g law v w s l r.front r.turns r.a r.b r.split r.a_over r.b_over e

-- ---- the key lemma, by induction on the length
ends_step : (g : Matrix) → Lawful g → (v : Point) → Everywhere g v → (n : ℕ) → Ended g v n → (w : Word) → Last w → length w ≤ suc n → Letters g w → (s : ℕ) → Letter g s → Ends g v w s
ends_step g law v e n ended w nothing h k s l = over (e s l)
ends_step g law v e n ended w (ending u t) h k s l = by (cases_eq t s)
  where
    u_letters : Letters g u
    u_letters = letters_front g u (t ∷ []) k

    t_letter : Letter g t
    t_letter = (letters_rest g u (t ∷ []) k).0

    u_short : length u ≤ n
    u_short = omega (arith, length_push u t)

    same : t ≡ s → Ends g v u s → Ends g v (u ++ (t ∷ [])) s
    same f (over p) = ends_under g law v (u ++ (t ∷ [])) u s l (join_same (ap (λ z. u ++ (z ∷ [])) f)) (omega (arith, length_push u t)) p
    same f (under p w' j d) = over (subst Positive (sym (ap (λ z. walked g (u ++ (z ∷ [])) v s) f ∙ walked_more g law u s l v)) p)

    by : (t ≡ s) ⊎ (t ≡ s → ⊥) → Ends g v (u ++ (t ∷ [])) s
    by (inl f) = same f (ended u u_short u_letters s l)
    by (inr f) =
        reduced_ends g law v (u ++ (t ∷ [])) s l
        (reduce g law v (u ++ (t ∷ [])) s n ended k (length u) u 1 t s (split_at_last g law u s t (record { left = t_letter; right = l; apart = f })) (le_refl (length u)) u_short)

ends_upto : (g : Matrix) → Lawful g → (v : Point) → Everywhere g v → (n : ℕ) → Ended g v n
ends_upto g law v e zero [] h k s l = over (e s l)
ends_upto g law v e zero (a ∷ w) h k s l = absurd (omega arith)
ends_upto g law v e (suc n) w h k s l = ends_step g law v e n (ends_upto g law v e n) w (last w) h k s l

pub ends : (g : Matrix) → Lawful g → (v : Point) → Everywhere g v → (w : Word) → Letters g w → (s : ℕ) → Letter g s → Ends g v w s
ends g law v e w k s l = ends_upto g law v e (length w) w (le_refl (length w)) k s l
