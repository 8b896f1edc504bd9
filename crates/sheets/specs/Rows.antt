-- How a row of exponents is written. An exponent is a number from 1 to 6, or 0, which stands for inf.
use Rattle.std.specs.Prelude.{◌≡◌, ℕ, zero, suc, ◌+◌, ◌<◌, ◌≤◌, List, [], ◌∷◌, ◌++◌, length, take, codes, ◌≢◌}

-- the bytes of an exponent: a digit, or inf
abbrev pub exponent_text : ℕ → List ℕ
exponent_text zero = codes "inf"
exponent_text (suc n) = (48 + suc n) ∷ []

-- the bytes of the exponents behind the first, each behind one space
abbrev pub after_text : List ℕ → List ℕ
after_text [] = []
after_text (e ∷ es) = 32 ∷ (exponent_text e ++ after_text es)

-- the bytes of a row: its exponents with one space between
abbrev pub row_text : List ℕ → List ℕ
row_text [] = []
row_text (e ∷ es) = exponent_text e ++ after_text es

-- every exponent of the list can be written
abbrev pub Writable : List ℕ → Type 0
Writable [] = Unit {0}
Writable (e ∷ es) = (e ≤ 6) × Writable es

-- the bytes spell the exponents, by one of the two texts above
pub record Spells (text : List ℕ → List ℕ) (bs es : List ℕ) : Type 0 where
  pub spelled : bs ≡ text es
  pub writable : Writable es

-- the bytes begin a list of n exponents: they spell one with some bytes more
abbrev pub Begins : (List ℕ → List ℕ) → ℕ → List ℕ → Type 0
Begins text n bs = (es : List ℕ) × (u : List ℕ) × (length es ≡ n) × Spells text (bs ++ u) es

-- the bytes spell no list of n exponents, and k is the length of their longest front that begins one
pub record Stops (text : List ℕ → List ℕ) (n : ℕ) (bs : List ℕ) (k : ℕ) : Type 0 where
  pub within : k ≤ length bs
  pub good : Begins text n (take k bs)
  pub bad : (j : ℕ) → k < j → j ≤ length bs → Begins text n (take j bs) → ⊥
  pub wrong : (es : List ℕ) → length es ≡ n → Spells text bs es → ⊥

-- the bytes are the exponent e and then rest
pub record Opens (bs : List ℕ) (e : ℕ) (rest : List ℕ) : Type 0 where
  pub whole : bs ≡ exponent_text e ++ rest
  pub small : e ≤ 6

-- the bytes begin with no exponent, and k is the length of their longest front that begins one
pub record Halts (bs : List ℕ) (k : ℕ) : Type 0 where
  pub within : k ≤ length bs
  pub good : (e : ℕ) × (u : List ℕ) × (e ≤ 6) × (take k bs ++ u ≡ exponent_text e)
  pub bad : (j : ℕ) → k < j → j ≤ length bs → (e : ℕ) → e ≤ 6 → (u v : List ℕ) → take j bs ++ u ≢ exponent_text e ++ v
  pub wrong : (e : ℕ) → e ≤ 6 → (v : List ℕ) → bs ≢ exponent_text e ++ v

-- the place, in the bytes of a row, of the exponent in column c from 0
abbrev pub column_place : List ℕ → ℕ → ℕ
column_place [] c = 0
column_place (e ∷ es) zero = 0
column_place (e ∷ es) (suc c) = length (exponent_text e) + 1 + column_place es c
