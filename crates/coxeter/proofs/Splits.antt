-- A word as a front followed by two letters in turn, and how the front is shortened.
use Rattle.std.proofs.Common.{◌≡◌, ℕ, zero, suc, ◌+◌, ◌<◌, ◌≤◌, ◌≢◌, ◌⊎◌, [], ◌∷◌, ◌++◌, length, refl, subst, inl, inr, append_assoc, arith}
use mathlib.Core.Logic.{⊎_swap}
use Rattle.coxeter.specs.Groups.{Matrix, Letter, Lawful, exponent}
use Rattle.coxeter.specs.Moves.{Word, alternating, insert, Joined, none}
use Rattle.std.proofs.lemmas.List.{length_push}
use Rattle.coxeter.proofs.Joining.{join, join_then, join_behind, join_before}
use Rattle.coxeter.proofs.TwoLetters.{Two, swapped, Within, within_less, within_swapped, within_one, within_or_full, braid_joined}

-- ---- joining at a letter
-- x a ~ x', so x a y ~ x' y
taken_in : {g : Matrix} (x y : Word) (a : ℕ) {x' : Word} → Joined g (x ++ (a ∷ [])) x' → Joined g (x ++ (a ∷ y)) (x' ++ y)
taken_in {g} x y a {x'} j = subst (λ z. Joined g z (x' ++ y)) (append_assoc x (a ∷ []) y) (join_before y j)

-- x a ~ x', so x y ~ x' a y
given_out : {g : Matrix} (x y : Word) (a : ℕ) {x' : Word} → Letter g a → Joined g (x ++ (a ∷ [])) x' → Joined g (x ++ y) (x' ++ (a ∷ y))
given_out x y a l j = join_then (join (insert x y a l)) (taken_in x (a ∷ y) a j)

-- ---- the word w as a front x and then k letters a b a .., of which s is one
pub record Split (g : Matrix) (w : Word) (s : ℕ) (x : Word) (k a b : ℕ) : Type 0 where
  pub two : Two g a b
  pub one_of : (s ≡ a) ⊎ (s ≡ b)
  pub joined : Joined g w (x ++ alternating k a b)
  pub no_longer : length x + k ≤ length w
  pub limit : Within g a b k

-- some such split, with a front of fewer than n letters
pub record Smaller (g : Matrix) (w : Word) (s n : ℕ) : Type 0 where
  pub front : Word
  pub turns : ℕ
  pub a : ℕ
  pub b : ℕ
  pub split : Split g w s front turns a b
  pub fewer : length front < n

module _ (g : Matrix) (law : Lawful g) (w : Word) (s : ℕ) where
  -- the front makes the first letter's number negative: it takes that letter in, or, if there is none in turn yet, gives it out
  pub first_under : (x : Word) (k a b : ℕ) → Split g w s x k a b → (x' : Word) → Joined g (x ++ (a ∷ [])) x' → length x' < length x → Smaller g w s (length x)
  first_under x zero a b p x' j d = record {
    front = x';
    turns = 1;
    a = a;
    b = b;
    fewer = d;
    split = record {
      two = p.two;
      one_of = p.one_of;
      joined = join_then p.joined (given_out x [] a p.two.left j);
      no_longer = omega (arith, p.no_longer);
      limit = within_one g law a b p.two;
    };
  }
  first_under x (suc k) a b p x' j d = record {
    front = x';
    turns = k;
    a = b;
    b = a;
    fewer = d;
    split = record {
      two = swapped p.two;
      one_of = ⊎_swap p.one_of;
      joined = join_then p.joined (taken_in x (alternating k b a) a j);
      no_longer = omega (arith, p.no_longer);
      limit = within_swapped g law a b k p.two (within_less g a b k (suc k) (omega arith) p.limit);
    };
  }

  -- the front gives its last letter out to the letters in turn
  longer : (x : Word) (k a b : ℕ) → Split g w s x k a b → (x' : Word) → Joined g (x ++ (b ∷ [])) x' → length x' < length x → Within g a b (suc k) → Smaller g w s (length x)
  longer x k a b p x' j d h = record {
    front = x';
    turns = suc k;
    a = b;
    b = a;
    fewer = d;
    split = record {
      two = swapped p.two;
      one_of = ⊎_swap p.one_of;
      joined = join_then p.joined (given_out x (alternating k a b) b p.two.right j);
      no_longer = omega (arith, p.no_longer);
      limit = within_swapped g law a b (suc k) p.two h;
    };
  }

  -- at the full exponent, a braid exchanges the two letters
  pub split_braided : (x : Word) (k a b : ℕ) → Split g w s x k a b → exponent g a b ≡ k → k ≢ 0 → Split g w s x k b a
  split_braided x k a b p e z = record {
    two = swapped p.two;
    one_of = ⊎_swap p.one_of;
    joined = join_then p.joined (join_behind x (braid_joined a b p.two k e z));
    no_longer = p.no_longer;
    limit = within_swapped g law a b k p.two p.limit;
  }

  -- the front makes the second letter's number negative: it gives that letter out, or takes it in after a braid
  pub second_under : (x : Word) (k a b : ℕ) → Split g w s x k a b → (x' : Word) → Joined g (x ++ (b ∷ [])) x' → length x' < length x → Smaller g w s (length x)
  second_under x k a b p x' j d = by (within_or_full g a b k p.limit)
    where
      by : Within g a b (suc k) ⊎ ((exponent g a b ≡ k) × (k ≢ 0)) → Smaller g w s (length x)
      by (inl h) = longer x k a b p x' j d h
      by (inr e) = first_under x k b a (split_braided x k a b p e.0 e.1) x' j d

-- u t, of which t is the part in turn
pub split_at_last : (g : Matrix) → Lawful g → (u : Word) (s t : ℕ) → Two g t s → Split g (u ++ (t ∷ [])) s u 1 t s
split_at_last g law u s t d = record { two = d; one_of = inr refl; joined = none; no_longer = omega (arith, length_push u t); limit = within_one g law t s d }
