-- Facts about cuts: a text has one at most, and none where it is free of the byte.
use Rattle.std.proofs.Common.{◌≡◌, ℕ, suc, ◌<◌, List, [], ◌∷◌, ◌++◌, length, get_or, sym, refl, ap, ◌∙◌, suc-le-suc, arith, length-append}
use Rattle.std.proofs.lemmas.List.{get_or_at}
use Rattle.lines.specs.Cuts.{Cut, Free}

-- a text with a cut is not free of the byte
pub not_free : {b : ℕ} {bs front back : List ℕ} → Cut b bs front back → Free b bs → ⊥
not_free {b} {bs} {front} {back} h f =
    f (length front) (omega (arith, ap length h.whole, length-append front (b ∷ back))) (ap (λ l. get_or l (length front) 0) (sym h.whole) ∙ get_or_at front b back 0 (length front) refl)

-- the empty text is free of every byte
pub free_none : (b : ℕ) → Free b []
free_none b k h e = omega arith

-- what is free of a byte is so without its first byte
pub free_tail : (b x : ℕ) (xs : List ℕ) → Free b (x ∷ xs) → Free b xs
free_tail b x xs f = λ k h e. f (suc k) (suc-le-suc h) e

-- where both parts of a text in front of a b are free of b, they are the same
pub one_cut : (b : ℕ) (p q p' q' : List ℕ) → Free b p → Free b p' → p ++ b ∷ q ≡ p' ++ b ∷ q' → (p ≡ p') × (q ≡ q')
one_cut b [] q [] q' f f' e = (refl, cc)
one_cut b [] q (x ∷ p') q' f f' e = absurd (f' 0 (omega arith) cc)
one_cut b (x ∷ p) q [] q' f f' e = absurd (f 0 (omega arith) cc)
one_cut b (x ∷ p) q (y ∷ p') q' f f' e =
    let r = one_cut b p q p' q' (free_tail b x p f) (free_tail b y p' f') cc in
    let head : x ≡ y = cc in
    ((λ i. head i ∷ r.0 i), r.1)

-- there is one cut at most
pub same_cut : {b : ℕ} {bs front back front' back' : List ℕ} → Cut b bs front back → Cut b bs front' back' → (front ≡ front') × (back ≡ back')
same_cut {b} {bs} {front} {back} {front'} {back'} h k = one_cut b front back front' back' h.none k.none (h.whole ∙ sym k.whole)

-- what stands behind a cut is shorter than the text
pub cut_shorter : {b : ℕ} {bs front back : List ℕ} → Cut b bs front back → length back < length bs
cut_shorter {b} {bs} {front} {back} h = omega (arith, ap length h.whole, length-append front (b ∷ back))
