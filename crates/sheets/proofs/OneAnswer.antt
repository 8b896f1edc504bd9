-- A sheet has one answer: it is read in one way, or refused at one line for one fault.
use Rattle.std.proofs.Common.{◌≡◌, ℕ, ◌+◌, List, ◌∷◌, ◌++◌, length, codes, sym, refl, ap, ◌∙◌, subst, arith}
use Rattle.coxeter.specs.Groups.{Matrix}
use Rattle.coxeter.specs.Matrices.{matrix}
use Rattle.coxeter.proofs.Matrices.{lawful_of}
use Rattle.lines.specs.Cuts.{Cut, Free}
use Rattle.lines.specs.declared.faults.LineFault.TheVariants.{Unfinished}
use Rattle.lines.specs.declared.located.Located.{Located}
use Rattle.lines.specs.declared.reader.Reader.{Reader}
use Rattle.lines.proofs.Cutting.{not_free, same_cut}
use Rattle.sheets.specs.Kinds.{kind_name, Carries}
use Rattle.sheets.specs.Texts.{keyed}
use Rattle.sheets.specs.Stages.{Stage, kind_due, read_text, lines_read, Reached, Refuses}
use Rattle.sheets.specs.Reading.{SheetRead, SheetRefused, RefusesNext, unfinished, refused}
use Rattle.sheets.specs.Theorems.{OneSheet, ReadOrRefused, OneRefusal}
use Rattle.sheets.specs.declared.drafts.Sheet.{Sheet}
use Rattle.sheets.specs.declared.kinds.Kind.{Kind}
use Rattle.sheets.specs.declared.faults.SheetFault.{SheetFault}
use Rattle.sheets.specs.declared.faults.SheetFault.TheVariants as fault
use Rattle.sheets.proofs.Spelling.{one_value, one_name, kind_free}
use Rattle.sheets.proofs.OneStep.{one_fault, right_line, kind_line}
use Rattle.sheets.proofs.ReadingSteps.{cut_ended}
use Rattle.sheets.proofs.StageTexts.{Right, GoesOn, Met, one, nearer, farther, meet}

-- ---- what a sheet is answered, and where the reader is left
-- a matrix, a kind and the rest; or the lines before the refusal, the lines handed out, the fault and the rest
data Answer : Type 0 where
  accepted : Matrix → Kind → List ℕ → Answer
  denied : ℕ → ℕ → SheetFault → List ℕ → Answer

-- at the stage g, before rest, the next line ends the sheet
data Ends (g : Stage) (rest : List ℕ) (x : Answer) : Type 0 where
  none : Free 10 rest → x ≡ denied (lines_read g) (lines_read g) (fault.Line (Unfinished (length rest))) rest → Ends g rest x
  wrong : (line back : List ℕ) (f : SheetFault) → Cut 10 rest line back → Refuses g line f → x ≡ denied (lines_read g) (lines_read g + 1) f back → Ends g rest x
  named : (m : Matrix) (k : Kind) (back : List ℕ) → g ≡ kind_due m → Cut 10 rest (keyed (codes "kind") (kind_name k)) back → Carries k m → x ≡ accepted m k back → Ends g rest x

goes_on_or_ends : (g : Stage) (rest : List ℕ) (x : Answer) → GoesOn g rest → Ends g rest x → ⊥
goes_on_or_ends g rest x o (none f e) = not_free o.cut f
goes_on_or_ends g rest x o (wrong line back f c r e) = right_line g line f (subst (Right g) (same_cut o.cut c).0 o.right) r
goes_on_or_ends g rest x o (named m k back is c v e) = subst (λ h. Right h o.line) is o.right

one_end : (g : Stage) (rest : List ℕ) (x y : Answer) → Ends g rest x → Ends g rest y → x ≡ y
one_end g rest x y (none f p) (none h q) = p ∙ sym q
one_end g rest x y (none f p) (wrong line back h c r q) = absurd (not_free c f)
one_end g rest x y (none f p) (named m k back is c v q) = absurd (not_free c f)
one_end g rest x y (wrong line back e c r p) (none f q) = absurd (not_free c f)
one_end g rest x y (wrong line back e c r p) (wrong line' back' e' c' r' q) =
    let cut = same_cut c c' in
    let fault = one_fault g line' e e' (subst (λ l. Refuses g l e) cut.0 r) r' in
    p ∙ (λ i. denied (lines_read g) (lines_read g + 1) (fault i) (cut.1 i)) ∙ sym q
one_end g rest x y (wrong line back e c r p) (named m k back' is c' v q) = absurd (kind_line g m k line e is (same_cut c c').0 v r)
one_end g rest x y (named m k back is c v p) (none f q) = absurd (not_free c f)
one_end g rest x y (named m k back is c v p) (wrong line back' e c' r q) = absurd (kind_line g m k line e is (same_cut c' c).0 v r)
one_end g rest x y (named m k back is c v p) (named m' k' back' is' c' v' q) =
    let cut = same_cut c c' in
    let group : m ≡ m' = cc (is, is') in
    let kind = one_name k k' (one_value (codes "kind") (kind_name k) (kind_name k') cut.0) in
    p ∙ (λ i. accepted (group i) (kind i) (cut.1 i)) ∙ sym q

-- the text is answered by x
record Answered (text : List ℕ) (x : Answer) : Type 0 where
  stage : Stage
  rest : List ℕ
  reached : Reached stage
  begins : text ≡ read_text stage ++ rest
  ends : Ends stage rest x

one_answer : (text : List ℕ) (x y : Answer) → Answered text x → Answered text y → x ≡ y
one_answer text x y a b = by (meet a.stage b.stage a.rest b.rest a.reached b.reached (sym a.begins ∙ b.begins))
  where
    by : Met a.stage a.rest b.stage b.rest → x ≡ y
    by (one g t) = one_end b.stage b.rest x y (subst (λ r. Ends b.stage r x) t (subst (λ s. Ends s a.rest x) g a.ends)) b.ends
    by (nearer o) = absurd (goes_on_or_ends a.stage a.rest x o a.ends)
    by (farther o) = absurd (goes_on_or_ends b.stage b.rest y o b.ends)

-- ---- the answers of a reader
read_answered : (before after : Reader) (s : Sheet) → SheetRead before after s → Answered before.rest.now (accepted (matrix s.group) s.kind after.rest.now)
read_answered before after s r =
    let cut : Cut 10 (keyed (codes "kind") (kind_name s.kind) ++ 10 ∷ after.rest.now) (keyed (codes "kind") (kind_name s.kind)) after.rest.now =
    record { whole = refl; none = kind_free s.kind } in
    record {
      stage = kind_due (matrix s.group);
      rest = keyed (codes "kind") (kind_name s.kind) ++ 10 ∷ after.rest.now;
      reached = lawful_of (matrix s.group) s.group.lawful;
      begins = r.text ∙ sym (cut_ended (read_text (kind_due (matrix s.group))) cut);
      ends = named (matrix s.group) s.kind after.rest.now refl cut r.carried refl;
    }

-- the number of lines up to the refusal and the number that the reader has handed out, from where it stood
record RefusedSo (before after : Reader) (e : Located SheetFault) : Type 0 where
  lines : ℕ
  gone : ℕ
  line : e.line ≡ before.lines + lines + 1
  left : after.lines ≡ before.lines + gone
  answered : Answered before.rest.now (denied lines gone e.fault after.rest.now)

refused_so : (before after : Reader) (e : Located SheetFault) → SheetRefused before after e → RefusedSo before after e
refused_so before after e r = by r.fault
  where
    by : RefusesNext r.stage r.rest r.lines after e.fault → RefusedSo before after e
    by (unfinished free is kept count) = record {
      lines = lines_read r.stage;
      gone = lines_read r.stage;
      line = omega (arith, r.line, r.count);
      left = omega (arith, r.count, count);
      answered = record { stage = r.stage; rest = r.rest; reached = r.reached; begins = r.text; ends = none free (λ i. denied (lines_read r.stage) (lines_read r.stage) (is i) (kept i)) };
    }
    by (refused line cut f count) = record {
      lines = lines_read r.stage;
      gone = lines_read r.stage + 1;
      line = omega (arith, r.line, r.count);
      left = omega (arith, r.count, count);
      answered = record { stage = r.stage; rest = r.rest; reached = r.reached; begins = r.text; ends = wrong line after.rest.now e.fault cut f refl };
    }

-- ---- the theorems
pub one_sheet_lem : OneSheet
one_sheet_lem before a b s t r q =
    let e = one_answer before.rest.now _ _ (read_answered before a s r) (read_answered before b t q) in
    let group : matrix s.group ≡ matrix t.group = cc in
    let kind : s.kind ≡ t.kind = cc in
    let rest : a.rest.now ≡ b.rest.now = cc in
    (record { group = group; kind = kind }, record { rest = rest; lines = omega (arith, r.count, q.count, ap length group); input = r.input ∙ sym q.input })

pub read_or_refused_lem : ReadOrRefused
read_or_refused_lem before a b s e r q =
    let f = one_answer before.rest.now _ _ (read_answered before a s r) (refused_so before b e q).answered in
    let z : ◌≡◌ {A = ℕ} 0 1 = cc in
    omega arith

pub one_refusal_lem : OneRefusal
one_refusal_lem before a b e f r q =
    let x = refused_so before a e r in
    let y = refused_so before b f q in
    let same = one_answer before.rest.now _ _ x.answered y.answered in
    let lines : x.lines ≡ y.lines = cc in
    let gone : x.gone ≡ y.gone = cc in
    let fault : e.fault ≡ f.fault = cc in
    let rest : a.rest.now ≡ b.rest.now = cc in
    let line : e.line ≡ f.line = omega (arith, x.line, y.line) in
    ((λ i. record { line = line i; fault = fault i }), record { rest = rest; lines = omega (arith, x.left, y.left); input = r.input ∙ sym q.input })
