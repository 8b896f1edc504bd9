-- A step of a chamber, from the step of the front of its row.
use Rattle.std.proofs.Common.{◌≡◌, ℕ, ◌-◌, ◌≤◌, Bool, true, List, [], ◌∷◌, ◌++◌, map, length, get_or, sym, refl, ap, ◌∙◌, subst, Ok, Err, Result, MutBor, arith}
use Rattle.std.proofs.lemmas.List.{map-append, length-map, get_or_append_left}
use mathlib.Core.Logic.{∥∥₁_elim, ∥∥₁_prop}
use mathlib.Core.HLevel.{Π_prop, is_prop→PathP}
use native.Mathlib.Bridge.{le_prop}
use lib.IntN.{ℤ_set}
use borrow.Rule.Slice.Mut.{set_vals}
use Rattle.coxeter.specs.Numbers.{Exact}
use Rattle.coxeter.specs.Groups.{Matrix, Letter, rank}
use Rattle.coxeter.specs.Moves.{Word}
use Rattle.coxeter.specs.Matrices.{matrix}
use Rattle.coxeter.specs.Tables.{cut}
use Rattle.numbers.specs.declared.coefficient.Coefficient.{Coefficient}
use Rattle.carriers.specs.declared.chamber.Chamber.{Chamber}
use Rattle.carriers.specs.declared.faults.StepFault.{StepFault}
use Rattle.carriers.specs.Rows.{nought, numbers, Shows}
use Rattle.carriers.specs.Steps.{Advanced}
use Rattle.carriers.specs.Tables.{Column, Table}
use Rattle.carriers.specs.Carriers.{Took, Stepped}
use Rattle.carriers.specs.CarrierLaws.{matrix_rank, shows_fitting}
use Rattle.carriers.specs.Chambers.{chamber_frame, chamber_at}
use Rattle.carriers.proofs.Standing.{moved_shows, stuck_unfit}

-- two exact numbers are equal in one way
exact_set : (x y : Exact) (p q : x ≡ y) → p ≡ q
exact_set x y p q i j = record {
  whole = ℤ_set x.whole y.whole (λ k. (p k).whole) (λ k. (q k).whole) i j;
  golden = ℤ_set x.golden y.golden (λ k. (p k).golden) (λ k. (q k).golden) i j;
}

table_from : (g : Matrix) (columns : List (List Coefficient)) → ∥ Table g columns ∥₁ → Table g columns
table_from g columns h = ∥∥₁_elim h (Π_prop λ s. Π_prop λ l. Π_prop λ a. Π_prop λ k. exact_set _ _) (λ x. x)

-- a chamber whose row is as it was is the chamber that it was
pub chamber_same : {N : Type 0} (x : Chamber N) (r : MutBor (List N)) (w : x.group.rank ≤ length r.now) (t : ∥ Table (cut x.group.rank x.group.rows) x.coefficients.columns ∥₁) → r ≡ x.row
    → ◌≡◌ {A = Chamber N} (record { group = x.group; coefficients = x.coefficients; row = r; wide = w; table = t }) x
chamber_same x r w t e i = record {
  group = x.group;
  coefficients = x.coefficients;
  row = e i;
  wide = is_prop→PathP (λ j. x.group.rank ≤ length (e j).now) (λ j. le_prop) w x.wide i;
  table = ∥∥₁_prop t x.table i;
}

-- ---- the front of a row, where the letters have their numbers
module _ {N : Type 0} (value : N → Exact) (g : Matrix) (front rest : List N) (long : rank g ≤ length front) where
  front_number : (a : ℕ) → Letter g a → numbers (map value (front ++ rest)) a ≡ numbers (map value front) a
  front_number a k =
      let i = k.from_one in let j = k.to_rank in let m = length-map front value in
      ap (λ (l : List Exact). get_or l (a - 1) nought) (map-append value front rest) ∙ get_or_append_left (map value front) (map value rest) nought (a - 1) (omega (arith, m))

  shows_front : (w : Word) → Shows g (numbers (map value (front ++ rest))) w → Shows g (numbers (map value front)) w
  shows_front w h = record { letters = h.letters; shown = λ a k. sym (front_number a k) ∙ h.shown a k }

  shows_whole : (w : Word) → Shows g (numbers (map value front)) w → Shows g (numbers (map value (front ++ rest))) w
  shows_whole w h = record { letters = h.letters; shown = λ a k. front_number a k ∙ h.shown a k }

-- ---- a chamber x whose row has another front
module _ {N : Type 0} (value : N → Exact) (fits : Exact → Bool) (within : (z : N) → fits (value z) ≡ true) (x : Chamber N) (s : ℕ) (k : Letter (matrix x.group) s)
    (old rest front : List N) (apart : old ++ rest ≡ x.row.now) (n : length old ≡ x.group.rank) (l : length front ≡ length old)
    (w : x.group.rank ≤ length (front ++ rest)) (t : ∥ Table (cut x.group.rank x.group.rows) x.coefficients.columns ∥₁) where
  abbrev pub after : Chamber N
  after = record { group = x.group; coefficients = x.coefficients; row = set_vals (front ++ rest) x.row; wide = w; table = t }

  after_same : front ≡ old → after ≡ x
  after_same e = chamber_same x (set_vals (front ++ rest) x.row) w t (ap (λ q. set_vals q x.row) (ap (λ l. l ++ rest) e ∙ apart))

  -- what the step of the front says of the chamber
  pub chamber_steps : (r : Result (Unit {0}) StepFault) → Advanced value fits (get_or x.coefficients.columns (s - 1) []) s old front r → Stepped (chamber_frame fits) (chamber_at value) x after s r
  chamber_steps r h = record { same = refl; took = took r h }
    where
      g : Matrix
      g = matrix x.group

      same : rank g ≡ length old
      same = matrix_rank x.group ∙ sym n

      column : List Coefficient
      column = get_or x.coefficients.columns (s - 1) []

      t' : Column g s column
      t' = table_from g x.coefficients.columns x.table s k

      front_shows : (v : Word) → chamber_at value x v → Shows g (numbers (map value old)) v
      front_shows v h = shows_front value g old rest (omega (arith, same)) v (subst (λ (q : List N). Shows g (numbers (map value q)) v) (sym apart) h)

      took : (r : Result (Unit {0}) StepFault) → Advanced value fits column s old front r → Took (chamber_frame fits) (chamber_at value) x after s r
      took (Ok u) m = (
        k,
        λ v h.
            let p = shows_whole value g front rest (omega (arith, same)) (v ++ (s ∷ [])) (moved_shows g (length old) s same column t' (map value old) (map value front) v k m (front_shows v h)) in
            (shows_fitting value x.group (front ++ rest) w fits within (v ++ (s ∷ [])) p, p),
      )
      took (Err f) m = subst (λ (q : StepFault). Took (chamber_frame fits) (chamber_at value) x after s (Err q)) (sym m.0) (
        after_same m.1,
        k,
        λ v h. stuck_unfit g (length old) s same column t' (map value old) fits v k m.2 (front_shows v h),
      )
