-- Length, descent and distance, by moves alone.
use Rattle.std.specs.Prelude.{◌≡◌, ℕ, ◌<◌, ◌≤◌, [], ◌∷◌, ◌++◌, reverse, length}
use Rattle.coxeter.specs.Groups.{Matrix}
use Rattle.coxeter.specs.Moves.{Word, Joined}

-- the element of w times s is shorter than that of w: some word of it has fewer letters than every word joined to w
pub record Descends (g : Matrix) (w : Word) (s : ℕ) : Type 0 where
  pub shorter : Word
  pub joined : Joined g (w ++ (s ∷ [])) shorter
  pub below : (v : Word) → Joined g w v → length shorter < length v

-- the length of w's element is n: some word joined to w has n letters, and none has fewer
pub record LengthOf (g : Matrix) (w : Word) (n : ℕ) : Type 0 where
  pub shortest : Word
  pub joined : Joined g w shortest
  pub size : length shortest ≡ n
  pub least : (v : Word) → Joined g w v → n ≤ length v

-- the distance of u and v is n: the length of u reversed, followed by v
abbrev pub DistanceOf : Matrix → Word → Word → ℕ → Type 0
DistanceOf g u v n = LengthOf g (reverse u ++ v) n
