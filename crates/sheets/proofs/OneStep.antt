-- A line has one answer at a stage: it leads on in one way, or is refused for one fault.
use Rattle.std.proofs.Common.{◌≡◌, ℕ, ◌+◌, List, [], ◌∷◌, ◌++◌, length, codes, sym, refl, ap, ◌∙◌, subst, append-nil, arith, length-append}
use Rattle.coxeter.specs.Groups.{Matrix}
use Rattle.lines.specs.Cuts.{Cut}
use Rattle.lines.specs.declared.faults.LineFault.TheVariants.{Unfinished, Unexpected}
use Rattle.lines.proofs.Cutting.{free_none, not_free, same_cut}
use Rattle.sheets.specs.Rows.{row_text, Spells, Stops}
use Rattle.sheets.specs.Fitting.{Misfit}
use Rattle.sheets.specs.Kinds.{kind_name, Carries}
use Rattle.sheets.specs.Texts.{keyed, ended}
use Rattle.sheets.specs.Stages.{Stage, rank_due, row_due, kind_due, read_text, key_due, Reached, Advances, Refuses}
use Rattle.sheets.specs.Theorems.{LinesAnsweredOnce}
use Rattle.sheets.specs.declared.kinds.Kind.{Kind}
use Rattle.sheets.specs.declared.faults.SheetFault.{SheetFault}
use Rattle.sheets.specs.declared.faults.SheetFault.TheVariants as fault
use Rattle.sheets.proofs.Spelling.{rows_spell_once_lem, one_stop, one_misfit, one_value}
use Rattle.sheets.proofs.LineCounts.{one_line}
use Rattle.sheets.proofs.StageTexts.{Right, Met, one, nearer, farther, meet}

-- ---- a line is refused for one fault at most
module _ (g : Stage) (line : List ℕ) where
  -- the value of the line is one
  value_once : (v w : List ℕ) → line ≡ keyed (key_due g) v → line ≡ keyed (key_due g) w → v ≡ w
  value_once v w p q = one_value (key_due g) v w (sym p ∙ q)

  row_row : (p q : ℕ) → Refuses g line (fault.Row p) → Refuses g line (fault.Row q) → p ≡ q
  row_row p q a b =
      let rank : b.rank ≡ a.rank = cc (a.stage, b.stage) in
      let value = value_once b.value a.value b.keyed_so a.keyed_so in
      let stops : Stops row_text a.rank a.value b.right =
      subst (λ v. Stops row_text a.rank v b.right) value (subst (λ n. Stops row_text n b.value b.right) rank b.stops) in
      a.place ∙ ap (λ k. 5 + k) (one_stop a.stops stops) ∙ sym b.place

  row_entry : (p q : ℕ) → Refuses g line (fault.Row p) → Refuses g line (fault.Entry q) → ⊥
  row_entry p q a b =
      let rank : b.rank ≡ a.rank = cc (a.stage, b.stage) in
      let value = value_once b.spelled.0 a.value b.spelled.1 a.keyed_so in
      a.stops.wrong b.exponents (b.size ∙ rank) (subst (λ v. Spells row_text v b.exponents) value b.spelled.2)

  entry_entry : (p q : ℕ) → Refuses g line (fault.Entry p) → Refuses g line (fault.Entry q) → p ≡ q
  entry_entry p q a b =
      let rows : b.rows ≡ a.rows = cc (a.stage, b.stage) in
      let value = value_once b.spelled.0 a.spelled.0 b.spelled.1 a.spelled.1 in
      let exponents = rows_spell_once_lem a.spelled.0 b.exponents a.exponents (subst (λ v. Spells row_text v b.exponents) value b.spelled.2) a.spelled.2 in
      let misfit : Misfit a.rows (length a.rows) a.exponents b.right =
      subst (λ es. Misfit a.rows (length a.rows) es b.right) exponents (subst (λ r. Misfit r (length r) b.exponents b.right) rows b.misfit) in
      a.place ∙ ap (λ k. 5 + k) (one_misfit a.misfit misfit) ∙ sym b.place

pub one_fault : (g : Stage) (line : List ℕ) (e f : SheetFault) → Refuses g line e → Refuses g line f → e ≡ f
one_fault g line (fault.Line (Unfinished n)) f a b = absurd a
one_fault g line (fault.Line Unexpected) (fault.Line (Unfinished n)) a b = absurd b
one_fault g line (fault.Line Unexpected) (fault.Line Unexpected) a b = refl
one_fault g line (fault.Line Unexpected) fault.Rank a b = absurd (a b.value b.keyed_so)
one_fault g line (fault.Line Unexpected) (fault.Row q) a b = absurd (a b.value b.keyed_so)
one_fault g line (fault.Line Unexpected) (fault.Entry q) a b = absurd (a b.spelled.0 b.spelled.1)
one_fault g line (fault.Line Unexpected) fault.Kind a b = absurd (a b.value b.keyed_so)
one_fault g line fault.Rank (fault.Line (Unfinished n)) a b = absurd b
one_fault g line fault.Rank (fault.Line Unexpected) a b = absurd (b a.value a.keyed_so)
one_fault g line fault.Rank fault.Rank a b = refl
one_fault g line fault.Rank (fault.Row q) a b = cc (a.stage, b.stage)
one_fault g line fault.Rank (fault.Entry q) a b = cc (a.stage, b.stage)
one_fault g line fault.Rank fault.Kind a b = cc (a.stage, b.stage)
one_fault g line (fault.Row p) (fault.Line (Unfinished n)) a b = absurd b
one_fault g line (fault.Row p) (fault.Line Unexpected) a b = absurd (b a.value a.keyed_so)
one_fault g line (fault.Row p) fault.Rank a b = cc (a.stage, b.stage)
one_fault g line (fault.Row p) (fault.Row q) a b = ap fault.Row (row_row g line p q a b)
one_fault g line (fault.Row p) (fault.Entry q) a b = absurd (row_entry g line p q a b)
one_fault g line (fault.Row p) fault.Kind a b = cc (a.stage, b.stage)
one_fault g line (fault.Entry p) (fault.Line (Unfinished n)) a b = absurd b
one_fault g line (fault.Entry p) (fault.Line Unexpected) a b = absurd (b a.spelled.0 a.spelled.1)
one_fault g line (fault.Entry p) fault.Rank a b = cc (a.stage, b.stage)
one_fault g line (fault.Entry p) (fault.Row q) a b = absurd (row_entry g line q p b a)
one_fault g line (fault.Entry p) (fault.Entry q) a b = ap fault.Entry (entry_entry g line p q a b)
one_fault g line (fault.Entry p) fault.Kind a b = cc (a.stage, b.stage)
one_fault g line fault.Kind (fault.Line (Unfinished n)) a b = absurd b
one_fault g line fault.Kind (fault.Line Unexpected) a b = absurd (b a.value a.keyed_so)
one_fault g line fault.Kind fault.Rank a b = cc (a.stage, b.stage)
one_fault g line fault.Kind (fault.Row q) a b = cc (a.stage, b.stage)
one_fault g line fault.Kind (fault.Entry q) a b = cc (a.stage, b.stage)
one_fault g line fault.Kind fault.Kind a b = refl

-- ---- a right line is not refused
rank_line : (line : List ℕ) (f : SheetFault) → Right rank_due line → Refuses rank_due line f → ⊥
rank_line line (fault.Line (Unfinished n)) r b = b
rank_line line (fault.Line Unexpected) r b = b _ r.3
rank_line line fault.Rank r b = b.wrong r.0 r.1 r.2 (one_value (codes "rank") b.value _ (sym b.keyed_so ∙ r.3))
rank_line line (fault.Row p) r b = let z : ◌≡◌ {A = ℕ} 0 1 = cc b.stage in omega arith
rank_line line (fault.Entry p) r b = let z : ◌≡◌ {A = ℕ} 0 1 = cc b.stage in omega arith
rank_line line fault.Kind r b = let z : ◌≡◌ {A = ℕ} 0 1 = cc b.stage in omega arith

row_line : (n : ℕ) (rows : List (List ℕ)) (line : List ℕ) (f : SheetFault) → Right (row_due n rows) line → Refuses (row_due n rows) line f → ⊥
row_line n rows line (fault.Line (Unfinished k)) r b = b
row_line n rows line (fault.Line Unexpected) r b = b r.spelled.0 r.spelled.1
row_line n rows line fault.Rank r b = let z : ◌≡◌ {A = ℕ} 0 1 = cc b.stage in omega arith
row_line n rows line (fault.Row p) r b =
    let rank : n ≡ b.rank = cc b.stage in
    let value = value_once (row_due n rows) line r.spelled.0 b.value r.spelled.1 b.keyed_so in
    b.stops.wrong r.row (r.size ∙ rank) (subst (λ v. Spells row_text v r.row) value r.spelled.2)
row_line n rows line (fault.Entry p) r b =
    let same : b.rows ≡ rows = cc b.stage in
    let rank : b.rank ≡ n = cc b.stage in
    let value = value_once (row_due n rows) line b.spelled.0 r.spelled.0 b.spelled.1 r.spelled.1 in
    let row = rows_spell_once_lem r.spelled.0 b.exponents r.row (subst (λ v. Spells row_text v b.exponents) value b.spelled.2) r.spelled.2 in
    let misfit : Misfit rows (length rows) r.row b.right =
    subst (λ es. Misfit rows (length rows) es b.right) row (subst (λ x. Misfit x (length x) b.exponents b.right) same b.misfit) in
    misfit.wrong (r.fits misfit.column (omega (arith, misfit.inside, r.size)))
row_line n rows line fault.Kind r b = let z : ◌≡◌ {A = ℕ} 0 1 = cc b.stage in omega arith

pub right_line : (g : Stage) (line : List ℕ) (f : SheetFault) → Right g line → Refuses g line f → ⊥
right_line rank_due line f r b = rank_line line f r b
right_line (row_due n rows) line f r b = row_line n rows line f r b
right_line (kind_due m) line f r b = r

-- where the kind's line is right it is not refused
pub kind_line : (g : Stage) (m : Matrix) (k : Kind) (line : List ℕ) (f : SheetFault) → g ≡ kind_due m → line ≡ keyed (codes "kind") (kind_name k) → Carries k m → Refuses g line f → ⊥
kind_line g m k line (fault.Line (Unfinished n)) e is c b = b
kind_line g m k line (fault.Line Unexpected) e is c b = b (kind_name k) (is ∙ ap (λ h. keyed (key_due h) (kind_name k)) (sym e))
kind_line g m k line fault.Rank e is c b = let z : ◌≡◌ {A = ℕ} 0 1 = cc (e, b.stage) in omega arith
kind_line g m k line (fault.Row p) e is c b = let z : ◌≡◌ {A = ℕ} 0 1 = cc (e, b.stage) in omega arith
kind_line g m k line (fault.Entry p) e is c b = let z : ◌≡◌ {A = ℕ} 0 1 = cc (e, b.stage) in omega arith
kind_line g m k line fault.Kind e is c b =
    let same : m ≡ b.matrix = cc (e, b.stage) in
    b.wrong k (value_once g line b.value (kind_name k) b.keyed_so (is ∙ ap (λ h. keyed (key_due h) (kind_name k)) (sym e))) (subst (Carries k) same c)

-- ---- the theorems
no_cut : (line back : List ℕ) → Cut 10 [] line back → ⊥
no_cut line back c = not_free c (free_none 10)

-- a line that leads on is right
advance_right : (g h : Stage) (line : List ℕ) → Reached g → Advances g line h → Right g line
advance_right g h line r a = by (meet g h (ended line) [] r a.reached (sym a.text ∙ sym (append-nil (read_text h))))
  where
    by : Met g (ended line) h [] → Right g line
    by (one p q) = let z : length (ended line) ≡ 0 = ap length q in absurd (omega (arith, length-append line (10 ∷ [])))
    by (nearer o) = subst (Right g) (same_cut o.cut (record { whole = refl; none = one_line g h line a })).0 o.right
    by (farther o) = absurd (no_cut o.line o.back o.cut)

-- the lines that were read tell the stage
one_stage : (h k : Stage) → Reached h → Reached k → read_text h ≡ read_text k → h ≡ k
one_stage h k r s e = by (meet h k [] [] r s (ap (λ t. t ++ []) e))
  where
    by : Met h [] k [] → h ≡ k
    by (one p q) = p
    by (nearer o) = absurd (no_cut o.line o.back o.cut)
    by (farther o) = absurd (no_cut o.line o.back o.cut)

pub lines_answered_once_lem : LinesAnsweredOnce
lines_answered_once_lem g r line = record {
  onward = λ h k a b. one_stage h k a.reached b.reached (a.text ∙ sym b.text);
  refusal = λ e f a b. one_fault g line e f a b;
  either = λ h f a b. right_line g line f (advance_right g h line r a) b;
}
