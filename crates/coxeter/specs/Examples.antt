-- Worked examples.
use Rattle.std.specs.Prelude.{◌≡◌, ℕ, ◌-◌, List, [], ◌∷◌, map, pos, negsuc, codes}
use Prim.Native.String.{String}
use Rattle.std.specs.List.{range_with_len, AllByRecursion}
use Rattle.coxeter.specs.Numbers.{Exact, integer}
use Rattle.coxeter.specs.Groups.{Matrix, Lawful, rank}
use Rattle.coxeter.specs.Moves.{Word}
use Rattle.coxeter.specs.Points.{point, Form}
use Rattle.coxeter.specs.Lengths.{LengthOf, DistanceOf}
use Rattle.coxeter.specs.Pairs.{path_exponent}

-- the word whose letters are the digits of a text
abbrev pub word : String → Word
word digits = map (λ c. c - 48) (codes digits)

-- two letters with exponent m
abbrev pub two_letters : ℕ → Matrix
two_letters m = (1 ∷ (m ∷ [])) ∷ ((m ∷ (1 ∷ [])) ∷ [])

-- n letters in a path: 3 between neighbours, 2 between other unlike letters
abbrev pub path : ℕ → Matrix
path n = map (λ s. map (path_exponent s) (range_with_len 1 n)) (range_with_len 1 n)

-- what an example may be about
pub data Example : Type 0 where
  length_anywhere : Word → ℕ → Example
  form : Matrix → Word → Word → Example
  numbers : Matrix → Word → List Exact → Example
  distance : Matrix → Word → Word → ℕ → Example

-- what it says
abbrev pub Holds : Example → Type 0
Holds (length_anywhere w n) = (g : Matrix) → Lawful g → LengthOf g w n
Holds (form g w f) = Lawful g × Form g w f
Holds (numbers g w vs) = Lawful g × (map (point g w) (range_with_len 1 (rank g)) ≡ vs)
Holds (distance g u v n) = Lawful g × DistanceOf g u v n

-- the examples; inf is 0
abbrev pub examples : List Example
examples =
    length_anywhere (word "") 0
    ∷ length_anywhere (word "11") 0
    ∷ form (two_letters 2) (word "12") (word "21")
    ∷ form (two_letters 3) (word "212") (word "121")
    ∷ form (two_letters 4) (word "1212") (word "2121")
    ∷ form (two_letters 5) (word "21212") (word "12121")
    ∷ form (two_letters 6) (word "121212") (word "212121")
    ∷ form (two_letters 0) (word "1212") (word "1212")
    ∷ numbers (two_letters 4) (word "12") (integer (pos 2) ∷ integer (negsuc 2) ∷ [])
    ∷ distance (two_letters 3) (word "12") (word "21") 2
    ∷ distance (two_letters 4) (word "12") (word "21") 4
    ∷ form (path 3) (word "3123") (word "1232")
    ∷ []

-- the definitions yield each of them
abbrev pub ExamplesHold : Type 0
ExamplesHold = AllByRecursion Holds examples
