-- The worked examples, by computing.
use Rattle.std.proofs.Common.{◌≡◌, ℕ, true, [], ◌∷◌, ◌++◌, reverse, length, refl, subst, arith}
use Rattle.coxeter.specs.Groups.{Matrix, Lawful}
use Rattle.coxeter.specs.Moves.{Word, none, strike}
use Rattle.coxeter.specs.Points.{Form}
use Rattle.coxeter.specs.Forms.{form_of}
use Rattle.coxeter.specs.Lengths.{LengthOf}
use Rattle.coxeter.specs.Examples.{word, two_letters, path, ExamplesHold}
use Rattle.coxeter.proofs.LawfulTests.{lawful_test, lawful_by_test, letters_test, letters_by_test}
use Rattle.coxeter.proofs.Joining.{join}
use Rattle.coxeter.proofs.Forms.{forms_computed}
use Rattle.coxeter.proofs.Lengths.{forms_measure}

-- ---- forms and lengths by computing
formed : (g : Matrix) (w f : Word) → lawful_test g ≡ true → letters_test g w ≡ true → form_of g w ≡ f → Lawful g × Form g w f
formed g w f e k p = (law, (forms_computed g law w f (letters_by_test g w k)).1 p)
  where
    law : Lawful g
    law = lawful_by_test g e

measured : (g : Matrix) (w : Word) (n : ℕ) → lawful_test g ≡ true → letters_test g w ≡ true → length (form_of g w) ≡ n → Lawful g × LengthOf g w n
measured g w n e k p = (
  law,
  subst (LengthOf g w) p (forms_measure g law w (form_of g w) (letters_by_test g w k) ((forms_computed g law w (form_of g w) (letters_by_test g w k)).1 refl)),
)
  where
    law : Lawful g
    law = lawful_by_test g e

-- ---- the empty word and 1 1, in any group
empty_length : (g : Matrix) → Lawful g → LengthOf g [] 0
empty_length g law = record { shortest = []; joined = none; size = refl; least = λ v j. omega arith }

pair_length : (g : Matrix) → Lawful g → LengthOf g (1 ∷ (1 ∷ [])) 0
pair_length g law = record { shortest = []; joined = join (strike [] [] 1 (record { from_one = omega arith; to_rank = law.some })); size = refl; least = λ v j. omega arith }

pub examples_hold_lem : ExamplesHold
examples_hold_lem = (
  empty_length,
  (
    pair_length,
    (
      formed (two_letters 2) (word "12") (word "21") refl refl refl,
      (
        formed (two_letters 3) (word "212") (word "121") refl refl refl,
        (
          formed (two_letters 4) (word "1212") (word "2121") refl refl refl,
          (
            formed (two_letters 5) (word "21212") (word "12121") refl refl refl,
            (
              formed (two_letters 6) (word "121212") (word "212121") refl refl refl,
              (
                formed (two_letters 0) (word "1212") (word "1212") refl refl refl,
                (
                  (lawful_by_test (two_letters 4) refl, refl),
                  (
                    measured (two_letters 3) (reverse (word "12") ++ word "21") 2 refl refl refl,
                    (
                      measured (two_letters 4) (reverse (word "12") ++ word "21") 4 refl refl refl,
                      (
                        formed (path 3) (word "3123") (word "1232") refl refl refl,
                        tt,
                      ),
                    ),
                  ),
                ),
              ),
            ),
          ),
        ),
      ),
    ),
  ),
)
