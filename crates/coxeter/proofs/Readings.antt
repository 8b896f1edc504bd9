-- Reading a form off a point: it is determined, the numbers of the letters alone matter, and it is computed.
use Rattle.std.proofs.Common.{◌≡◌, ℕ, zero, suc, ◌+◌, ◌<◌, ◌≤◌, Bool, true, false, cond, ◌⊎◌, [], ◌∷◌, ◌++◌, length, Some, None, Option, sym, refl, ap, ◌∙◌, subst, ap₂, inl, inr, arith}
use Rattle.coxeter.specs.Numbers.{negative, minus, times}
use Rattle.coxeter.specs.Groups.{Matrix, Letter, rank}
use Rattle.coxeter.specs.Moves.{Word}
use Rattle.coxeter.specs.Points.{Point, stepped, Least, Reads, home, back, coefficient}
use Rattle.coxeter.specs.Forms.{least_negative, read_on, read_off}
use Rattle.coxeter.specs.Theorems.{LettersSuffice}
use Rattle.std.proofs.lemmas.List.{length_push}
use Rattle.std.proofs.lemmas.Bool.{cases_order, cases_eq, both_ways}

-- no letter's number is negative
abbrev pub NoneNegative : Matrix → Point → Type 0
NoneNegative g v = (a : ℕ) → Letter g a → negative (v a) ≡ false

-- ---- it is determined
pub least_same : (g : Matrix) (v : Point) (s t : ℕ) → Least g v s → Least g v t → s ≡ t
least_same g v s t h k = by (cases_order s t)
  where
    by : (s ≡ t) ⊎ ((s < t) ⊎ (t < s)) → s ≡ t
    by (inl e) = e
    by (inr (inl d)) = absurd (both_ways (negative (v s)) (k.first s h.letter d) h.below)
    by (inr (inr d)) = absurd (both_ways (negative (v t)) (h.first t k.letter d) k.below)

least_or_none : (g : Matrix) (v : Point) (s : ℕ) → Least g v s → NoneNegative g v → ⊥
least_or_none g v s m i = both_ways (negative (v s)) (i s m.letter) m.below

pub reads_unique : (g : Matrix) {v : Point} {f h : Word} → Reads g v f → Reads g v h → f ≡ h
reads_unique g (home i) (home j) = refl
reads_unique g (home i) (back {v = v} {s = s} m r) = absurd (least_or_none g v s m i)
reads_unique g (back {v = v} {s = s} m r) (home i) = absurd (least_or_none g v s m i)
reads_unique g (back {v = v} {f = f} {s = s} m r) (back {f = h} {s = t} n q) =
    ap₂ (λ x y. x ++ (y ∷ [])) (reads_unique g r (subst (λ z. Reads g (stepped g z v) h) (sym (least_same g v s t m n)) q)) (least_same g v s t m n)

-- ---- the numbers of the letters alone matter
least_by : (g : Matrix) (u v : Point) (s : ℕ) → ((a : ℕ) → Letter g a → u a ≡ v a) → Least g u s → Least g v s
least_by g u v s e m = record { letter = m.letter; below = ap negative (sym (e s m.letter)) ∙ m.below; first = λ a l d. ap negative (sym (e a l)) ∙ m.first a l d }

stepped_by : (g : Matrix) (u v : Point) (s : ℕ) → Letter g s → ((a : ℕ) → Letter g a → u a ≡ v a) → (a : ℕ) → Letter g a → stepped g s u a ≡ stepped g s v a
stepped_by g u v s l e a k = ap₂ (λ x y. minus x (times (coefficient g a s) y)) (e a k) (e s l)

reads_by : (g : Matrix) (v : Point) {u : Point} {f : Word} → ((a : ℕ) → Letter g a → u a ≡ v a) → Reads g u f → Reads g v f
reads_by g v e (home i) = home (λ a l. ap negative (sym (e a l)) ∙ i a l)
reads_by g v e (back {v = u} {s = s} m r) = back (least_by g u v s e m) (reads_by g (stepped g s v) (stepped_by g u v s m.letter e) r)

pub letters_suffice_lem : LettersSuffice
letters_suffice_lem g u v f e r = reads_by g v e r

-- ---- the least letter is found
-- what the search answers
abbrev pub Found : Matrix → Point → Option ℕ → Type 0
Found g v None = NoneNegative g v
Found g v (Some s) = Least g v s

-- n letters are left, from s on
search_least : (g : Matrix) (v : Point) (n s : ℕ) → 1 ≤ s → n + s ≡ suc (rank g) → ((a : ℕ) → Letter g a → a < s → negative (v a) ≡ false) → Found g v (least_negative v n s)
search_least g v zero s h e f = λ a l. f a l (omega (arith, l.to_rank))
search_least g v (suc n) s h e f = by (negative (v s)) refl (search_least g v n (suc s) (omega arith) (omega arith))
  where
    by : (t : Bool) → negative (v s) ≡ t → (((a : ℕ) → Letter g a → a < suc s → negative (v a) ≡ false) → Found g v (least_negative v n (suc s)))
        → Found g v (cond t (Some s) (least_negative v n (suc s)))
    by true d rest = record { letter = record { from_one = h; to_rank = omega arith }; below = d; first = f }
    by false d rest = rest (λ a l i. at a l i (cases_eq a s))
      where
        at : (a : ℕ) → Letter g a → a < suc s → (a ≡ s) ⊎ (a ≡ s → ⊥) → negative (v a) ≡ false
        at a l i (inl z) = ap (λ (k : ℕ). negative (v k)) z ∙ d
        at a l i (inr z) = f a l (omega arith)

pub found : (g : Matrix) (v : Point) → Found g v (least_negative v (rank g) 1)
found g v = search_least g v (rank g) 1 (omega arith) (omega arith) (λ a l d. absurd (omega (arith, l.from_one)))

-- ---- what is read is computed, given as many letters at least
read_nothing : (g : Matrix) (rest : Point → Word) (v : Point) (o : Option ℕ) → Found g v o → NoneNegative g v → read_on g rest v o ≡ []
read_nothing g rest v None i j = refl
read_nothing g rest v (Some s) m j = absurd (least_or_none g v s m j)

read_letter : (g : Matrix) (rest : Point → Word) (v : Point) (o : Option ℕ) (s : ℕ) → Found g v o → Least g v s → read_on g rest v o ≡ rest (stepped g s v) ++ (s ∷ [])
read_letter g rest v None s i m = absurd (least_or_none g v s m i)
read_letter g rest v (Some t) s n m = ap (λ (z : ℕ). rest (stepped g z v) ++ (z ∷ [])) (least_same g v t s n m)

pub reads_computed : (g : Matrix) (n : ℕ) {v : Point} {f : Word} → Reads g v f → length f ≤ n → read_off g n v ≡ f
reads_computed g zero (home i) h = refl
reads_computed g (suc n) (home {v = v} i) h = read_nothing g (read_off g n) v (least_negative v (rank g) 1) (found g v) i
reads_computed g zero (back {f = f} {s = s} m r) h = absurd (omega (arith, length_push f s))
reads_computed g (suc n) (back {v = v} {f = f} {s = s} m r) h =
    read_letter g (read_off g n) v (least_negative v (rank g) 1) s (found g v) m
    ∙ ap (λ z. z ++ (s ∷ [])) (reads_computed g n r (omega (arith, length_push f s)))
