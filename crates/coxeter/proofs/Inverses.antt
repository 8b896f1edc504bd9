-- A word and its reverse strike each other out; the distance of two words is 0 exactly when they are joined.
use Rattle.std.proofs.Common.{◌≡◌, [], ◌∷◌, ◌++◌, reverse, sym, ap, ◌∙◌, subst, append_assoc, append-nil, arith}
use Rattle.std.proofs.lemmas.List.{reverse-append, reverse-reverse, nil_from_length}
use Rattle.coxeter.specs.Groups.{Matrix}
use Rattle.coxeter.specs.Moves.{Word, Letters, Joined, none, strike}
use Rattle.coxeter.specs.Theorems.{DistancesDecide}
use Rattle.coxeter.proofs.Joining.{join, join_then, join_same, join_back, join_behind, join_before, letters_append}

pub letters_reverse : (g : Matrix) (u : Word) → Letters g u → Letters g (reverse u)
letters_reverse g [] h = tt
letters_reverse g (s ∷ u) h = subst (Letters g) (sym (reverse-append (s ∷ []) u)) (letters_append g (reverse u) (s ∷ []) (letters_reverse g u h.1) (h.0, tt))

pub cancelled : (g : Matrix) (u : Word) → Letters g u → Joined g (u ++ reverse u) []
cancelled g [] h = none
cancelled g (s ∷ u) h =
    join_then (join_same (ap (λ z. s ∷ (u ++ z)) (reverse-append (s ∷ []) u) ∙ ap (λ z. s ∷ z) (sym (append_assoc u (reverse u) (s ∷ [])))))
    (join_then (join_behind (s ∷ []) (join_before (s ∷ []) (cancelled g u h.1))) (join (strike [] [] s h.0)))

pub cancelled_back : (g : Matrix) (u : Word) → Letters g u → Joined g (reverse u ++ u) []
cancelled_back g u h = subst (λ z. Joined g (reverse u ++ z) []) (reverse-reverse u) (cancelled g (reverse u) (letters_reverse g u h))

pub distances_decide : DistancesDecide
distances_decide g law u v n k i l = (forth, back)
  where
    forth : n ≡ 0 → Joined g u v
    forth e = join_then (join_same (sym (append-nil u))) (join_then (join_behind u (join_back law whole)) (join_then (join_same (sym (append_assoc u (reverse u) v))) (join_before v (cancelled g u k))))
      where
        whole : Joined g (reverse u ++ v) []
        whole = join_then l.joined (join_same (nil_from_length l.shortest (l.size ∙ e)))

    back : Joined g u v → n ≡ 0
    back j = let h = l.least [] (join_then (join_behind (reverse u) (join_back law j)) (cancelled_back g u k)) in omega arith
