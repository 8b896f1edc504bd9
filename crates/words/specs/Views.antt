-- The letters of the word that a call forms.
use Rattle.std.specs.Prelude.{◌++◌, reverse}
use Rattle.coxeter.specs.Moves.{Word}
use Rattle.words.specs.declared.view.Formed.{Formed}
use Rattle.words.specs.declared.view.Formed.TheVariants.{Plain, Reversed, Joined, Between}

-- the word formed
abbrev pub letters_of : Formed → Word
letters_of (Plain a) = a.now
letters_of (Reversed a) = reverse a.now
letters_of (Joined a b) = a.now ++ b.now
letters_of (Between a b) = reverse a.now ++ b.now
