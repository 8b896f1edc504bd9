-- The kinds of carrier: their names, and which groups each can carry.
use Rattle.std.specs.Prelude.{◌≡◌, ◌≢◌, ℕ, List, Result, MatchResult, codes}
use Rattle.coxeter.specs.Groups.{Matrix}
use Rattle.coxeter.specs.Pairs.{WithoutFive, Path}
use Rattle.sheets.specs.declared.kinds.Kind.{Kind}
use Rattle.sheets.specs.declared.kinds.Kind.TheVariants.{Whole, Golden, Line}
use Rattle.sheets.specs.declared.faults.SheetFault.{SheetFault}
use Rattle.sheets.specs.declared.faults.SheetFault.TheVariants as fault

-- the bytes that name a kind
abbrev pub kind_name : Kind → List ℕ
kind_name Whole = codes "whole"
kind_name Golden = codes "golden"
kind_name Line = codes "line"

-- what the bytes are answered: the kind that they name, or the refusal that they name none
abbrev pub Named : List ℕ → Result Kind SheetFault → Type 0
Named bs r = MatchResult r (λ k. bs ≡ kind_name k) (λ e. (e ≡ fault.Kind) × ((k : Kind) → bs ≢ kind_name k))

-- whole numbers have no multiples of the golden ratio, which exponent 5 asks for; one-line notation is for type A
abbrev pub Carries : Kind → Matrix → Type 0
Carries Whole m = WithoutFive m
Carries Golden m = Unit {0}
Carries Line m = Path m
