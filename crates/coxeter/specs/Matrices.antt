-- The matrix of the code's group.
use Rattle.coxeter.specs.Groups.{Matrix}
use Rattle.coxeter.specs.Tables.{cut}
use Rattle.coxeter.specs.declared.group.Group.{Group}

-- as many rows and columns of the table as the rank says
abbrev pub matrix : Group → Matrix
matrix g = cut g.rank g.rows
