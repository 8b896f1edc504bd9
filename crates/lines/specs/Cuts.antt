-- Cutting a text of bytes at the first byte of a kind.
use Rattle.std.specs.Prelude.{◌≡◌, ℕ, ◌<◌, List, ◌∷◌, ◌++◌, length, ◌≢◌, slice_index}

-- no byte of bs is b
abbrev pub Free : ℕ → List ℕ → Type 0
Free b bs = (k : ℕ) → k < length bs → slice_index bs k ≢ b

-- bs is front, then the first b, then back
pub record Cut (b : ℕ) (bs front back : List ℕ) : Type 0 where
  pub whole : front ++ b ∷ back ≡ bs
  pub none : Free b front
