-- What a carrier keeps for good.
use Rattle.std.specs.Prelude.{Bool}
use Rattle.coxeter.specs.Groups.{Matrix}
use Rattle.coxeter.specs.Moves.{Word}

-- its group, and its reach: the words whose elements it can stand at
pub record Frame : Type 0 where
  pub group : Matrix
  pub reach : Word → Bool
