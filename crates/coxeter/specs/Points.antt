-- The point of a word, and the form that is read off it.
use Rattle.std.specs.Prelude.{◌≡◌, ℕ, zero, suc, ◌<◌, Bool, true, false, cond, [], ◌∷◌, ◌++◌, pos, negsuc, nat_lt, refl}
use Rattle.coxeter.specs.Numbers.{Exact, integer, minus, times, negative}
use Rattle.coxeter.specs.Groups.{Matrix, Letter, exponent}
use Rattle.coxeter.specs.Moves.{Word}

-- c by the exponent (0 for inf), and by whether the first letter is the smaller
abbrev pub coefficient_of : ℕ → Bool → Exact
coefficient_of zero up = integer (negsuc 1)
coefficient_of (suc zero) up = integer (pos 2)
coefficient_of (suc (suc zero)) up = integer (pos 0)
coefficient_of (suc (suc (suc zero))) up = integer (negsuc 0)
coefficient_of (suc (suc (suc (suc zero)))) up = cond up (integer (negsuc 0)) (integer (negsuc 1))
coefficient_of (suc (suc (suc (suc (suc zero))))) up = record { whole = pos 0; golden = negsuc 0 }
coefficient_of (suc (suc (suc (suc (suc (suc n)))))) up = cond up (integer (negsuc 0)) (integer (negsuc 2))

-- at 4 and at 6 the greater letter is the one that takes more off; at 0, which is inf, both take two
check_four : (coefficient_of 4 true ≡ integer (negsuc 0)) × (coefficient_of 4 false ≡ integer (negsuc 1))
check_four = (refl, refl)

check_six : (coefficient_of 6 true ≡ integer (negsuc 0)) × (coefficient_of 6 false ≡ integer (negsuc 2))
check_six = (refl, refl)

check_inf : (coefficient_of 0 true ≡ integer (negsuc 1)) × (coefficient_of 0 false ≡ integer (negsuc 1))
check_inf = (refl, refl)

-- c(s, t)
abbrev pub coefficient : Matrix → ℕ → ℕ → Exact
coefficient g s t = coefficient_of (exponent g s t) (nat_lt s t)

-- a number for each letter
abbrev pub Point : Type 0
Point = ℕ → Exact

-- 1 everywhere
abbrev pub start : Point
start a = integer (pos 1)

-- the step by s takes c(a, s) v(s) off each v(a)
abbrev pub stepped : Matrix → ℕ → Point → Point
stepped g s v a = minus (v a) (times (coefficient g a s) (v s))

-- steps by the letters of a word, in order
abbrev pub walked : Matrix → Word → Point → Point
walked g [] v = v
walked g (s ∷ w) v = walked g w (stepped g s v)

-- the point of a word is reached from the start
abbrev pub point : Matrix → Word → Point
point g w = walked g w start

-- s is the least letter whose number is negative
pub record Least (g : Matrix) (v : Point) (s : ℕ) : Type 0 where
  pub letter : Letter g s
  pub below : negative (v s) ≡ true
  pub first : (a : ℕ) → Letter g a → a < s → negative (v a) ≡ false

-- what is read off the point v: nothing where no number is negative; else the least such letter is the last one, and the rest is read off after the step by it
pub data Reads (g : Matrix) : Point → Word → Type 0 where
  home : {v : Point} → ((a : ℕ) → Letter g a → negative (v a) ≡ false) → Reads g v []
  back : {v : Point} {f : Word} {s : ℕ} → Least g v s → Reads g (stepped g s v) f → Reads g v (f ++ (s ∷ []))

-- f is the form of w
abbrev pub Form : Matrix → Word → Word → Type 0
Form g w f = Reads g (point g w) f
