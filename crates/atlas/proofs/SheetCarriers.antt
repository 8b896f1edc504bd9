-- What a sheet says of the group that its kind carries.
use Rattle.std.proofs.Common.{◌≡◌, subst}
use mathlib.Core.Logic.{∥∥₁_elim}
use native.Mathlib.Nat.{ℕ_set}
use Rattle.coxeter.specs.Groups.{Matrix}
use Rattle.coxeter.specs.Pairs.{Path}
use Rattle.sheets.specs.Kinds.{Carries}
use Rattle.sheets.specs.declared.kinds.Kind.{Kind as SheetKind}
use Rattle.sheets.specs.declared.kinds.Kind.TheVariants.{Line}

pub line_carries : (m : Matrix) (k : SheetKind) → k ≡ Line → ∥ Carries k m ∥₁ → Path m
line_carries m k e c =
    ∥∥₁_elim (subst (λ x. ∥ Carries x m ∥₁) e c) (λ p q i s t h l. ℕ_set _ _ (p s t h l) (q s t h l) i) (λ x. x)
