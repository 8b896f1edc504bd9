-- What is proved of words, moves, points and forms. Each statement is the contract of a function of the crate.
use Rattle.std.specs.Prelude.{◌≡◌, ℕ, ◌<◌, ◌≤◌, true, ◌↔◌, [], ◌∷◌, ◌++◌, length, pos}
use Rattle.coxeter.specs.Numbers.{Exact, integer, Negative, AboveZero, negative}
use Rattle.coxeter.specs.Groups.{Matrix, Letter, Lawful}
use Rattle.coxeter.specs.Moves.{Word, Letters, Joined}
use Rattle.coxeter.specs.Points.{Point, walked, point, Reads, Form}
use Rattle.coxeter.specs.Forms.{form_of}
use Rattle.coxeter.specs.Lengths.{Descends, LengthOf, DistanceOf}

-- the tests of the sign decide the rule of the sign
abbrev pub SignsAgree : Type 0
SignsAgree = (x : Exact) → (negative x ≡ true) ↔ Negative x

-- joined words lead from any point to the same point
abbrev pub JoinedWordsMeet : Type 0
JoinedWordsMeet = (g : Matrix) → Lawful g → (u w : Word) → Joined g u w → (v : Point) (a : ℕ) → walked g u v a ≡ walked g w v a

-- w followed by s is joined to a word of fewer letters than w has
pub record Shortens (g : Matrix) (w : Word) (s : ℕ) : Type 0 where
  pub word : Word
  pub joined : Joined g (w ++ (s ∷ [])) word
  pub letters : Letters g word
  pub fewer : length word < length w

-- what the number of s after the walk over w from v tells
pub record SignTells (g : Matrix) (v : Point) (w : Word) (s : ℕ) : Type 0 where
  pub never_zero : ¬ (walked g w v s ≡ integer (pos 0))
  pub descent : Negative (walked g w v s) ↔ Descends g w s
  pub shortening : Negative (walked g w v s) → Shortens g w s

-- the key lemma: from any point whose numbers are all above zero, signs tell the descents
abbrev pub SignsTellDescents : Type 0
SignsTellDescents = (g : Matrix) → Lawful g → (v : Point) → ((a : ℕ) → Letter g a → AboveZero (v a)) → (w : Word) → Letters g w → (s : ℕ) → Letter g s → SignTells g v w s

-- f is a form of w, is joined to it and has no more letters
pub record Formed (g : Matrix) (w f : Word) : Type 0 where
  pub form : Form g w f
  pub joined : Joined g w f
  pub letters : Letters g f
  pub no_longer : length f ≤ length w

-- every word has exactly one form; it is joined to the word and has no more letters
abbrev pub OneForm : Type 0
OneForm = (g : Matrix) → Lawful g → (w : Word) → Letters g w → (f : Word) × (Formed g w f × ((h : Word) → Form g w h → h ≡ f))

-- the function that computes the form agrees with the relation
abbrev pub FormsComputed : Type 0
FormsComputed = (g : Matrix) → Lawful g → (w f : Word) → Letters g w → Form g w f ↔ (form_of g w ≡ f)

-- words are joined if and only if their forms are the same
abbrev pub FormsDecide : Type 0
FormsDecide = (g : Matrix) → Lawful g → (u v f h : Word) → Letters g u → Letters g v → Form g u f → Form g v h → (f ≡ h) ↔ Joined g u v

-- so it is decided whether words are joined
abbrev pub JoiningDecided : Type 0
JoiningDecided = (g : Matrix) → Lawful g → (u w : Word) → Letters g u → Letters g w → Dec (Joined g u w)

-- the form's letter count is the length
abbrev pub FormsMeasure : Type 0
FormsMeasure = (g : Matrix) → Lawful g → (w f : Word) → Letters g w → Form g w f → LengthOf g w (length f)

-- the distance of u and v is 0 if and only if u and v are joined
abbrev pub DistancesDecide : Type 0
DistancesDecide = (g : Matrix) → Lawful g → (u v : Word) (n : ℕ) → Letters g u → Letters g v → DistanceOf g u v n → (n ≡ 0) ↔ Joined g u v

-- what is read off a point depends on the numbers of the letters alone
abbrev pub LettersSuffice : Type 0
LettersSuffice = (g : Matrix) (u v : Point) (f : Word) → ((a : ℕ) → Letter g a → u a ≡ v a) → Reads g u f → Reads g v f

-- words are joined if and only if their points agree on the letters
abbrev pub PointsDecide : Type 0
PointsDecide = (g : Matrix) → Lawful g → (u w : Word) → Letters g u → Letters g w → ((a : ℕ) → Letter g a → point g u a ≡ point g w a) ↔ Joined g u w
