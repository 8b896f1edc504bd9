-- Chains of moves: one after another, backwards, inside a longer word, and what they do to letters.
use Rattle.std.proofs.Common.{◌≡◌, ℕ, zero, suc, [], ◌∷◌, ◌++◌, sym, ap, ◌∙◌, subst, subst₂, append_assoc, append-nil}
use Rattle.coxeter.specs.Groups.{Matrix, Letter, Lawful, exponent}
use Rattle.coxeter.specs.Moves.{Word, Letters, alternating, Move, strike, insert, braid, Joined, none, then}

-- ---- one after another, and backwards
pub join : {g : Matrix} {u v : Word} → Move g u v → Joined g u v
join m = then m none

pub join_then : {g : Matrix} {u v w : Word} → Joined g u v → Joined g v w → Joined g u w
join_then none k = k
join_then (then m j) k = then m (join_then j k)

pub join_same : {g : Matrix} {u v : Word} → u ≡ v → Joined g u v
join_same {g} {u} e = subst (Joined g u) e none

move_back : {g : Matrix} {u v : Word} → Lawful g → Move g u v → Move g v u
move_back law (strike x y s l) = insert x y s l
move_back law (insert x y s l) = strike x y s l
move_back {g} law (braid x y s t l k n e) =
    subst₂ (λ i j. Move g (x ++ (alternating i t s ++ y)) (x ++ (alternating j s t ++ y))) turned turned (braid x y t s k l (λ p. n (sym p)) (λ p. e (sym turned ∙ p)))
  where
    turned : exponent g t s ≡ exponent g s t
    turned = law.mirrored t s k l

pub join_back : {g : Matrix} {u v : Word} → Lawful g → Joined g u v → Joined g v u
join_back law none = none
join_back law (then m j) = join_then (join_back law j) (join (move_back law m))

-- ---- inside a longer word
move_behind : {g : Matrix} {u v : Word} (a : ℕ) → Move g u v → Move g (a ∷ u) (a ∷ v)
move_behind a (strike x y s l) = strike (a ∷ x) y s l
move_behind a (insert x y s l) = insert (a ∷ x) y s l
move_behind a (braid x y s t l k n e) = braid (a ∷ x) y s t l k n e

join_one : {g : Matrix} {u v : Word} (a : ℕ) → Joined g u v → Joined g (a ∷ u) (a ∷ v)
join_one a none = none
join_one a (then m j) = then (move_behind a m) (join_one a j)

pub join_behind : {g : Matrix} {u v : Word} (x : Word) → Joined g u v → Joined g (x ++ u) (x ++ v)
join_behind [] j = j
join_behind (a ∷ x) j = join_one a (join_behind x j)

move_before : {g : Matrix} {u v : Word} (z : Word) → Move g u v → Move g (u ++ z) (v ++ z)
move_before {g} z (strike x y s l) =
    subst₂ (Move g) (sym (append_assoc x (s ∷ (s ∷ y)) z)) (sym (append_assoc x y z)) (strike x (y ++ z) s l)
move_before {g} z (insert x y s l) =
    subst₂ (Move g) (sym (append_assoc x y z)) (sym (append_assoc x (s ∷ (s ∷ y)) z)) (insert x (y ++ z) s l)
move_before {g} z (braid x y s t l k n e) =
    subst₂ (Move g) (sym (side s t)) (sym (side t s)) (braid x (y ++ z) s t l k n e)
  where
    side : (a b : ℕ) → x ++ (alternating (exponent g s t) a b ++ y) ++ z ≡ x ++ (alternating (exponent g s t) a b ++ (y ++ z))
    side a b = append_assoc x (alternating (exponent g s t) a b ++ y) z ∙ ap (λ r. x ++ r) (append_assoc (alternating (exponent g s t) a b) y z)

pub join_before : {g : Matrix} {u v : Word} (z : Word) → Joined g u v → Joined g (u ++ z) (v ++ z)
join_before z none = none
join_before z (then m j) = then (move_before z m) (join_before z j)

-- u s s ~ u
pub struck : {g : Matrix} (u : Word) (s : ℕ) → Letter g s → Joined g ((u ++ (s ∷ [])) ++ (s ∷ [])) u
struck {g} u s l = subst₂ (Joined g) (sym (append_assoc u (s ∷ []) (s ∷ []))) (append-nil u) (join (strike u [] s l))

-- ---- letters
pub letters_append : (g : Matrix) (x y : Word) → Letters g x → Letters g y → Letters g (x ++ y)
letters_append g [] y h k = k
letters_append g (s ∷ x) y h k = (h.0, letters_append g x y h.1 k)

pub letters_front : (g : Matrix) (x y : Word) → Letters g (x ++ y) → Letters g x
letters_front g [] y h = tt
letters_front g (s ∷ x) y h = (h.0, letters_front g x y h.1)

pub letters_rest : (g : Matrix) (x y : Word) → Letters g (x ++ y) → Letters g y
letters_rest g [] y h = h
letters_rest g (s ∷ x) y h = letters_rest g x y h.1

pub letters_alternating : (g : Matrix) (k s t : ℕ) → Letter g s → Letter g t → Letters g (alternating k s t)
letters_alternating g zero s t l k' = tt
letters_alternating g (suc k) s t l l' = (l, letters_alternating g k t s l' l)

move_letters : (g : Matrix) {u v : Word} → Move g u v → Letters g u → Letters g v
move_letters g (strike x y s l) h = letters_append g x y (letters_front g x (s ∷ (s ∷ y)) h) (letters_rest g x (s ∷ (s ∷ y)) h).1.1
move_letters g (insert x y s l) h = letters_append g x (s ∷ (s ∷ y)) (letters_front g x y h) (l, (l, letters_rest g x y h))
move_letters g (braid x y s t l k n e) h =
    letters_append g x (alternating m t s ++ y) (letters_front g x (alternating m s t ++ y) h)
    (letters_append g (alternating m t s) y (letters_alternating g m t s k l) (letters_rest g (alternating m s t) y (letters_rest g x (alternating m s t ++ y) h)))
  where
    m : ℕ
    m = exponent g s t

pub join_letters : (g : Matrix) {u v : Word} → Joined g u v → Letters g u → Letters g v
join_letters g none h = h
join_letters g (then m j) h = join_letters g j (move_letters g m h)
