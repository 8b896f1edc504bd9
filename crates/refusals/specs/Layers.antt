-- The names of the layers.
use Rattle.std.specs.Prelude.{List, ℕ, codes}
use Rattle.refusals.specs.declared.layer.Layer.{Layer}
use Rattle.refusals.specs.declared.layer.Layer.TheVariants.{Line, Sheet, Word, Register}

-- the bytes by which a layer is printed
abbrev pub layer_name : Layer → List ℕ
layer_name Line = codes "line"
layer_name Sheet = codes "sheet"
layer_name Word = codes "word"
layer_name Register = codes "register"
