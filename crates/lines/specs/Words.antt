-- The words of a value, with slashes between them.
use Rattle.std.specs.Prelude.{◌≡◌, ℕ, List}
use Rattle.lines.specs.Cuts.{Cut, Free}

-- the value is the one word w: it has no slash
pub record OneWord (value w : List ℕ) : Type 0 where
  pub whole : w ≡ value
  pub plain : Free 47 value

-- the value is the words u and v, with its only slash between them
pub record TwoWords (value u v : List ℕ) : Type 0 where
  pub cut : Cut 47 value u v
  pub plain : Free 47 v
