-- The values of the coefficients.
use Rattle.std.specs.Prelude.{pos}
use Rattle.coxeter.specs.Numbers.{Exact}
use Rattle.numbers.specs.declared.coefficient.Coefficient.{Coefficient}

-- the exact number that a coefficient stands for
abbrev pub worth : Coefficient → Exact
worth c = record { whole = c.whole; golden = c.golden }

-- the coefficient 0
abbrev pub zero : Coefficient
zero = record { whole = pos 0; golden = pos 0 }
