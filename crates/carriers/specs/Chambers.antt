-- What a chamber means.
use Rattle.std.specs.Prelude.{Bool, List, map, drop}
use Rattle.coxeter.specs.Numbers.{Exact}
use Rattle.coxeter.specs.Groups.{rank}
use Rattle.coxeter.specs.Matrices.{matrix}
use Rattle.coxeter.specs.Moves.{Word}
use Rattle.carriers.specs.Frames.{Frame}
use Rattle.carriers.specs.Rows.{numbers, Shows, fitting_frame}
use Rattle.carriers.specs.declared.chamber.Chamber.{Chamber}

-- its group, and as its reach every element whose point fits the kind of number
abbrev pub chamber_frame : {N : Type 0} → (Exact → Bool) → Chamber N → Frame
chamber_frame fits x = fitting_frame fits (matrix x.group)

-- it stands at the element of w: the row is the point of w
abbrev pub chamber_at : {N : Type 0} → (N → Exact) → Chamber N → Word → Type 0
chamber_at value x w = Shows (matrix x.group) (numbers (map value x.row.now)) w

-- what stands in the row beyond the numbers of the letters
abbrev pub chamber_beyond : {N : Type 0} → Chamber N → List N
chamber_beyond x = drop (rank (matrix x.group)) x.row.now
