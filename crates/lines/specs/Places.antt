-- Where the lines of an input stand.
use Rattle.std.specs.Prelude.{ℕ, zero, suc, ◌-◌, cond, List, [], ◌∷◌, ◌==◌}
use Rattle.lines.specs.Cuts.{Cut}

-- what stands behind the first byte 10, nothing where there is none
abbrev pub past_newline : List ℕ → List ℕ
past_newline [] = []
past_newline (b ∷ bs) = cond (b == 10) bs (past_newline bs)

-- what stands behind the n-th byte 10
abbrev pub behind : ℕ → List ℕ → List ℕ
behind zero bs = bs
behind (suc n) bs = past_newline (behind n bs)

-- line n of the input, from 1: the bytes between its (n - 1)-th and its n-th byte 10
abbrev pub LineAt : List ℕ → ℕ → List ℕ → Type 0
LineAt input n bytes = Cut 10 (behind (n - 1) input) bytes (behind n input)
