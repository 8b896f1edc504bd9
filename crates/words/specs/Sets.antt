-- A set of letters in a byte: letter s is worth 2 to the power s - 1.
use Rattle.std.specs.Prelude.{◌≡◌, ℕ, zero, suc, ◌-◌, ◌/◌, ◌%◌, ◌^◌, ◌<◌, ◌≤◌, Bool, true, cond, List, [], ◌∷◌, Decides, ◌==◌}
use Rattle.coxeter.specs.Groups.{Matrix, Letter}
use Rattle.coxeter.specs.Moves.{Word}
use Rattle.coxeter.specs.Lengths.{Descends}

-- is the letter s in the set?
abbrev pub has : ℕ → ℕ → Bool
has bits s = bits / 2 ^ (s - 1) % 2 == 1

-- the letters of the set among the n from s on, rising
abbrev pub letters_from : ℕ → ℕ → ℕ → List ℕ
letters_from bits zero s = []
letters_from bits (suc n) s = cond (has bits s) (s ∷ letters_from bits n (suc s)) (letters_from bits n (suc s))

-- the letters of the set, rising
abbrev pub letters_in : ℕ → List ℕ
letters_in bits = letters_from bits 8 1

-- r is the least letter of the set, or 0 where the set is empty
pub record LeastIn (bits r : ℕ) : Type 0 where
  pub member : 1 ≤ r → (r ≤ 8) × (has bits r ≡ true)
  pub least : (s : ℕ) → 1 ≤ s → s ≤ 8 → has bits s ≡ true → (1 ≤ r) × (r ≤ s)

-- the set is exactly the letters that descend at the element of w
pub record Descending (g : Matrix) (w : Word) (bits : ℕ) : Type 0 where
  pub byte : bits < 256
  pub exactly : (s : ℕ) → 1 ≤ s → s ≤ 8 → Decides (has bits s) (Letter g s × Descends g w s)
