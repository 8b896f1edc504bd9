-- The lines that the program prints.
use Rattle.std.specs.Prelude.{◌≡◌, ℕ, Bool, true, false, List, ◌++◌, length, codes, decimal, Decides}
use Rattle.std.specs.List.{flat_map}
use Rattle.refusals.specs.Layers.{layer_name}
use Rattle.refusals.specs.declared.layer.Layer.{Layer}
use Rattle.coxeter.specs.Groups.{Matrix, rank}
use Rattle.coxeter.specs.Pairs.{AllFinite}
use Rattle.words.specs.Sets.{letters_in, LeastIn}

-- a refusal: its number, line, place and layer
abbrev pub refusal_text : ℕ → ℕ → ℕ → Layer → List ℕ
refusal_text number line place layer =
    codes "refused=" ++ (decimal number ++ (codes " line=" ++ (decimal line ++ (codes " at=" ++ (decimal place ++ (codes " layer=" ++ (layer_name layer ++ codes "\n")))))))

-- the group's line, with the word that says whether it is finite
abbrev pub group_text : ℕ → List ℕ → List ℕ
group_text n finite = codes "group=" ++ (decimal n ++ (codes " finite=" ++ (finite ++ codes "\n")))

-- the answer to a question
abbrev pub yes_no : Bool → List ℕ
yes_no true = codes "yes"
yes_no false = codes "no"

-- the text answers for a group: its rank, and whether no exponent is inf
pub record GroupAnswer (m : Matrix) (text : List ℕ) : Type 0 where
  pub finite : Bool
  pub told : Decides finite (AllFinite m)
  pub line : text ≡ group_text (rank m) (yes_no finite)

-- the descents' line: how many letters descend, and the least
abbrev pub descents_text : ℕ → ℕ → List ℕ
descents_text count least = codes "descents=" ++ (decimal count ++ (codes " least=" ++ (decimal least ++ codes "\n")))

-- the text answers for a set of letters
pub record DescentsAnswer (bits : ℕ) (text : List ℕ) : Type 0 where
  pub least : ℕ
  pub told : LeastIn bits least
  pub line : text ≡ descents_text (length (letters_in bits)) least

-- the letters of a word, each by its number: a digit, since there are at most 8
abbrev pub letters_text : List ℕ → List ℕ
letters_text = flat_map decimal

-- the line of a job that is answered by a form
abbrev pub form_text : List ℕ → List ℕ → List ℕ
form_text key w = (key ++ codes "=") ++ (letters_text w ++ codes "\n")

-- the line of a job that is answered by a number
abbrev pub number_text : List ℕ → ℕ → List ℕ
number_text key n = key ++ (codes "=" ++ (decimal n ++ codes "\n"))
