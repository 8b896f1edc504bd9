-- Tests by which a written matrix is seen to be lawful, and a written word to be of its letters.
use Rattle.std.proofs.Common.{◌≡◌, ℕ, ◌+◌, ◌-◌, Bool, true, cond, not, ◌&&◌, eqb, leb, [], ◌∷◌, length, get_or, subst, arith}
use Rattle.coxeter.specs.Groups.{Matrix, Letter, Lawful, rank, exponent}
use Rattle.coxeter.specs.Moves.{Word, Letters}
use Rattle.coxeter.specs.Pairs.{IsLawfulPair}
use Rattle.coxeter.proofs.Tests.{every, every_one}
use Rattle.coxeter.proofs.Matrices.{lawful_from_pairs}
use Rattle.std.proofs.lemmas.Bool.{and_parts, leb-true, eqb-true}
use Rattle.std.proofs.lemmas.Bool.Decides.{nat_tests}

-- does the test pass at every letter?
abbrev at_letters : Matrix → (ℕ → Bool) → Bool
at_letters g f = every (λ i. f (i + 1)) (rank g)

at_letter : (g : Matrix) (f : ℕ → Bool) → at_letters g f ≡ true → (s : ℕ) → Letter g s → f s ≡ true
at_letter g f e s l =
    subst (λ (k : ℕ). f k ≡ true) (omega (arith, l.from_one)) (every_one (λ i. f (i + 1)) (rank g) (s - 1) e (omega (arith, l.from_one, l.to_rank)))

-- is the row of s as long as the rank?
abbrev row_test : Matrix → ℕ → Bool
row_test g s = eqb (length (get_or g (s - 1) [])) (rank g)

-- is the pair s, t a lawful one?
abbrev pair_test : Matrix → ℕ → ℕ → Bool
pair_test g s t = eqb (exponent g s t) (exponent g t s) && cond (eqb s t) (eqb (exponent g s t) 1) (not (eqb (exponent g s t) 1) && leb (exponent g s t) 6)

-- is the matrix a lawful one?
abbrev pub lawful_test : Matrix → Bool
lawful_test g = (leb 1 (rank g) && leb (rank g) 8) && (at_letters g (row_test g) && at_letters g (λ s. at_letters g (pair_test g s)))

pair_by_test : (g : Matrix) (s t : ℕ) → pair_test g s t ≡ true → IsLawfulPair s t (exponent g s t) (exponent g t s)
pair_by_test g s t e = record { mirror = grind (arith, nat_tests); like = λ h. grind (arith, nat_tests); unlike = λ h. (λ o. grind (arith, nat_tests), grind (arith, nat_tests)) }

pub lawful_by_test : (g : Matrix) → lawful_test g ≡ true → Lawful g
lawful_by_test g e = lawful_from_pairs g (leb-true 1 (rank g) size.0) (leb-true (rank g) 8 size.1)
    (λ s l. eqb-true (length (get_or g (s - 1) [])) (rank g) (at_letter g (row_test g) rows.0 s l))
    (λ s t l k. pair_by_test g s t (at_letter g (pair_test g s) (at_letter g (λ a. at_letters g (pair_test g a)) rows.1 s l) t k))
  where
    parts : ((leb 1 (rank g) && leb (rank g) 8) ≡ true) × ((at_letters g (row_test g) && at_letters g (λ s. at_letters g (pair_test g s))) ≡ true)
    parts = and_parts (leb 1 (rank g) && leb (rank g) 8) (at_letters g (row_test g) && at_letters g (λ s. at_letters g (pair_test g s))) e

    size : (leb 1 (rank g) ≡ true) × (leb (rank g) 8 ≡ true)
    size = and_parts (leb 1 (rank g)) (leb (rank g) 8) parts.0

    rows : (at_letters g (row_test g) ≡ true) × (at_letters g (λ s. at_letters g (pair_test g s)) ≡ true)
    rows = and_parts (at_letters g (row_test g)) (at_letters g (λ s. at_letters g (pair_test g s))) parts.1

-- are all letters of the word letters of the group?
abbrev pub letters_test : Matrix → Word → Bool
letters_test g [] = true
letters_test g (s ∷ w) = (leb 1 s && leb s (rank g)) && letters_test g w

pub letters_by_test : (g : Matrix) (w : Word) → letters_test g w ≡ true → Letters g w
letters_by_test g [] e = tt
letters_by_test g (s ∷ w) e = (
  record { from_one = leb-true 1 s bounds.0; to_rank = leb-true s (rank g) bounds.1 },
  letters_by_test g w (and_parts (leb 1 s && leb s (rank g)) (letters_test g w) e).1,
)
  where
    bounds : (leb 1 s ≡ true) × (leb s (rank g) ≡ true)
    bounds = and_parts (leb 1 s) (leb s (rank g)) (and_parts (leb 1 s && leb s (rank g)) (letters_test g w) e).0
