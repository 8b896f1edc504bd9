-- Rules that every pair of letters of a matrix may keep.
use Rattle.std.specs.Prelude.{◌≡◌, ℕ, ◌+◌, ◌≤◌, Bool, true, false, cond, ◌||◌, ◌≢◌, ◌==◌, MatchBool}
use Rattle.coxeter.specs.Groups.{Matrix, Letter, exponent}

-- s keeps the rule with every letter t, by their exponent and that of t and s
abbrev pub EveryWith : (ℕ → ℕ → ℕ → ℕ → Type 0) → Matrix → ℕ → Type 0
EveryWith keeps g s = (t : ℕ) → Letter g t → keeps s t (exponent g s t) (exponent g t s)

-- every pair of letters keeps the rule
abbrev pub EveryPair : (ℕ → ℕ → ℕ → ℕ → Type 0) → Matrix → Type 0
EveryPair keeps g = (s t : ℕ) → Letter g s → Letter g t → keeps s t (exponent g s t) (exponent g t s)

-- s breaks the rule with some letter t
pub record SomeWith (breaks : ℕ → ℕ → ℕ → ℕ → Type 0) (g : Matrix) (s : ℕ) : Type 0 where
  pub other : ℕ
  pub letter : Letter g other
  pub broken : breaks s other (exponent g s other) (exponent g other s)

-- some pair of letters breaks the rule
pub record SomePair (breaks : ℕ → ℕ → ℕ → ℕ → Type 0) (g : Matrix) : Type 0 where
  pub one : ℕ
  pub letter : Letter g one
  pub row : SomeWith breaks g one

-- what the answer r tells of s and every letter, by what is said of each pair
pub record TellsWith (says : ℕ → ℕ → ℕ → ℕ → Bool → Type 0) (g : Matrix) (s : ℕ) (r : Bool) : Type 0 where
  pub told : MatchBool r (EveryWith (λ a b m back. says a b m back true) g s) (SomeWith (λ a b m back. says a b m back false) g s)

-- what the answer r tells of every pair of letters
pub record TellsPairs (says : ℕ → ℕ → ℕ → ℕ → Bool → Type 0) (g : Matrix) (r : Bool) : Type 0 where
  pub told : MatchBool r (EveryPair (λ a b m back. says a b m back true) g) (SomePair (λ a b m back. says a b m back false) g)

-- the pair is as a Coxeter matrix has it: the mirror is equal; 1 on the diagonal; elsewhere 0 (inf) or 2 to 6
pub record IsLawfulPair (s t m back : ℕ) : Type 0 where
  pub mirror : m ≡ back
  pub like : s ≡ t → m ≡ 1
  pub unlike : s ≢ t → (m ≢ 1) × (m ≤ 6)

-- no exponent is inf
abbrev pub AllFinite : Matrix → Type 0
AllFinite g = (s t : ℕ) → Letter g s → Letter g t → exponent g s t ≢ 0

-- no exponent is 5
abbrev pub WithoutFive : Matrix → Type 0
WithoutFive g = (s t : ℕ) → Letter g s → Letter g t → exponent g s t ≢ 5

-- 1 on the diagonal, 3 beside it, 2 elsewhere
abbrev pub path_exponent : ℕ → ℕ → ℕ
path_exponent s t = cond (s == t) 1 (cond (s == t + 1 || t == s + 1) 3 2)

-- the matrix of type A: 3 between s and s + 1, 2 between all other unlike letters, so that the diagram is a path
abbrev pub Path : Matrix → Type 0
Path g = (s t : ℕ) → Letter g s → Letter g t → exponent g s t ≡ path_exponent s t
