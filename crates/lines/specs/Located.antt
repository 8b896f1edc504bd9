-- Faults with the number of their line.
use Rattle.std.specs.Prelude.{ℕ, Ok, Err, Result}
use Rattle.lines.specs.declared.located.Located.{Located}

-- the answer found at line n: a fault gets the line's number
abbrev pub located : {T F : Type 0} → ℕ → Result T F → Result T (Located F)
located n (Ok t) = Ok t
located n (Err f) = Err (record { line = n; fault = f })
