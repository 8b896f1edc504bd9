-- Which numbers fit each kind, and what an exact answer of a kind is.
use Rattle.std.specs.Prelude.{◌≡◌, ℕ, Bool, false, ◌&&◌, ℤ, pos, neg_ℤ, ◌≤ℤ◌, Some, None, Option, int_le}
use Rattle.coxeter.specs.Numbers.{Exact}

-- the number φ itself
abbrev pub phi : Exact
phi = record { whole = pos 0; golden = pos 1 }

-- a is at most n, either way
pub record Small (n : ℕ) (a : ℤ) : Type 0 where
  pub low : neg_ℤ (pos n) ≤ℤ a
  pub high : a ≤ℤ pos n

-- the test of it
abbrev pub within : ℕ → ℤ → Bool
within n a = int_le (neg_ℤ (pos n)) a && int_le a (pos n)

-- a + b φ is a whole number, b = 0, of at most 10¹²
abbrev pub fits_whole : Exact → Bool
fits_whole x = within 1000000000000 x.whole && within 0 x.golden

-- both parts of a + b φ are at most 10⁸
abbrev pub fits_golden : Exact → Bool
fits_golden x = within 100000000 x.whole && within 100000000 x.golden

-- a number of the value z, or none where z does not fit
abbrev pub Held : {N : Type 0} → (N → Exact) → (Exact → Bool) → Exact → Option N → Type 0
Held value fits z None = fits z ≡ false
Held value fits z (Some x) = value x ≡ z

-- the answer r to the question for the exact number z
pub record Fitted {N : Type 0} (value : N → Exact) (fits : Exact → Bool) (z : Exact) (r : Option N) : Type 0 where
  pub told : Held value fits z r
