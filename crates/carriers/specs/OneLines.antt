-- What one-line notation means.
use Rattle.std.specs.Prelude.{ℕ, ◌+◌, List, drop}
use Rattle.coxeter.specs.Groups.{rank}
use Rattle.coxeter.specs.Matrices.{matrix}
use Rattle.coxeter.specs.Moves.{Word}
use Rattle.carriers.specs.Frames.{Frame}
use Rattle.carriers.specs.Rows.{full_frame}
use Rattle.carriers.specs.Lines.{Stands}
use Rattle.carriers.specs.declared.one_line.OneLine.{OneLine}

-- its group, all of which is in reach
abbrev pub line_frame : OneLine → Frame
line_frame x = full_frame (matrix x.group)

-- it stands at the element of w: the row is the one-line notation of w
abbrev pub line_at : OneLine → Word → Type 0
line_at x w = Stands (matrix x.group) x.row.now w

-- what stands in the row beyond the entries
abbrev pub line_beyond : OneLine → List ℕ
line_beyond x = drop (rank (matrix x.group) + 1) x.row.now
