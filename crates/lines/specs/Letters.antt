-- The letter of a byte.
use Rattle.std.specs.Prelude.{ℕ, ◌-◌, cond, ◌&&◌, nat_le}

-- a digit stands for its number, any other byte for letter 0
abbrev pub letter_of : ℕ → ℕ
letter_of b = cond (nat_le 48 b && nat_le b 57) (b - 48) 0
