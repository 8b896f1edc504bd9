-- From line to line of a sheet: what the lines so far led to, and where they are refused.
use Rattle.std.proofs.Common.{◌≡◌, ℕ, List, [], ◌∷◌, ◌++◌, length, Ok, Err, Result, sym, refl, ap, ◌∙◌, subst, append_assoc, arith, MatchResult}
use Rattle.coxeter.specs.Matrices.{matrix}
use Rattle.coxeter.proofs.Matrices.{lawful_of}
use Rattle.lines.specs.Cuts.{Cut}
use Rattle.lines.specs.Reading.{Next}
use Rattle.lines.specs.Located.{located}
use Rattle.lines.specs.declared.located.Located.{Located}
use Rattle.lines.specs.declared.reader.Numbered.{Numbered}
use Rattle.lines.specs.declared.reader.Reader.{Reader}
use Rattle.sheets.specs.Texts.{ended, sheet_text}
use Rattle.sheets.specs.Kinds.{Carries}
use Rattle.sheets.specs.Stages.{Stage, rank_due, read_text, Reached, Advances, Refuses}
use Rattle.sheets.specs.Drafts.{rows_stage, kind_stage}
use Rattle.sheets.specs.Reading.{Leads, RefusedFrom, unfinished, refused, NoSheetLine, KindRead, SheetRead}
use Rattle.sheets.specs.declared.drafts.RowsDraft.{RowsDraft}
use Rattle.sheets.specs.declared.drafts.KindDraft.{KindDraft}
use Rattle.sheets.specs.declared.drafts.CheckedDraft.{CheckedDraft}
use Rattle.sheets.specs.declared.faults.SheetFault.{SheetFault}
use Rattle.sheets.proofs.TableRows.{filled_of}
use Rattle.sheets.proofs.StageSteps.{drafted_rows}

-- ---- no line yet
pub leads_nowhere : (g : Stage) (r : Reader) → Reached g → Leads g r g r
leads_nowhere g r h = record { text = refl; count = refl; reached = h; input = refl }

pub draft_reached : (d : RowsDraft) → Reached (rows_stage d)
draft_reached d = (drafted_rows d.rank d.done d.rows d.some d.few d.left (filled_of d.rank d.done d.rows d.filled)).reached

pub kind_reached : (d : KindDraft) → Reached (kind_stage d)
kind_reached d = lawful_of (matrix d.group) d.group.lawful

-- a line and what follows it
pub cut_ended : {bs line rest : List ℕ} (front : List ℕ) → Cut 10 bs line rest → front ++ bs ≡ (front ++ ended line) ++ rest
cut_ended {bs} {line} {rest} front c =
    ap (λ l. front ++ l) (sym c.whole ∙ sym (append_assoc line (10 ∷ []) rest)) ∙ sym (append_assoc front (ended line) rest)

-- ---- one line more
module _ {g h : Stage} {a b c : Reader} (so_far : Leads g a h b) where
  leads_more : {l : Numbered} {k : Stage} → Next b c l → Advances h l.bytes.now k → Leads g a k c
  leads_more {l} {k} n s = record {
    text = so_far.text ∙ cut_ended (read_text h) n.cut ∙ ap (λ t. t ++ c.rest.now) (sym s.text);
    count = omega (arith, so_far.count, n.counted, s.count);
    reached = s.reached;
    input = n.input ∙ so_far.input;
  }

  -- a line is refused
  refused_there : {l : Numbered} {e : Located SheetFault} → Next b c l → e.line ≡ l.number → Refuses h l.bytes.now e.fault → RefusedFrom g a c e
  refused_there {l} {e} n same f = record {
    stage = h;
    reached = so_far.reached;
    lines = b.lines;
    rest = b.rest.now;
    text = so_far.text;
    count = so_far.count;
    line = same ∙ n.number;
    fault = refused l.bytes.now n.cut f n.counted;
    input = n.input ∙ so_far.input;
  }

  -- no line is left
  pub refused_unfinished : {e : Located SheetFault} → NoSheetLine b c e → RefusedFrom g a c e
  refused_unfinished n = record {
    stage = h;
    reached = so_far.reached;
    lines = b.lines;
    rest = b.rest.now;
    text = so_far.text;
    count = so_far.count;
    line = n.line;
    fault = unfinished n.free n.fault (ap (λ r. r.rest.now) n.kept) (ap (λ r. r.lines) n.kept);
    input = ap (λ r. r.input.now) n.kept ∙ so_far.input;
  }

-- ---- some lines, and then more
module _ {g h : Stage} {a b : Reader} (first : Leads g a h b) where
  pub leads_on : {k : Stage} {c : Reader} → Leads h b k c → Leads g a k c
  leads_on l = record {
    text = first.text ∙ l.text;
    count = omega (arith, first.count, l.count);
    reached = l.reached;
    input = l.input ∙ first.input;
  }

-- ---- the kind's line
pub sheet_read : {a b c : Reader} (d : KindDraft) (k : CheckedDraft) → Leads rank_due a (kind_stage d) b → KindRead d b c k → SheetRead a c k.sheet
sheet_read {a} {b} {c} d k so_far r =
    let group : matrix k.sheet.group ≡ matrix d.group = ap matrix r.checked.group in
    let whole : a.rest.now ≡ sheet_text (matrix d.group) k.sheet.kind ++ c.rest.now =
    so_far.text ∙ cut_ended (read_text (kind_stage d)) r.cut ∙ ap (λ t. (read_text (kind_stage d) ++ ended t) ++ c.rest.now) r.checked.text in
    record {
      text = whole ∙ (λ i. sheet_text (sym group i) k.sheet.kind ++ c.rest.now);
      carried = subst (Carries k.sheet.kind) (sym group) r.checked.carried;
      count = omega (arith, so_far.count, r.count, ap length group);
      input = r.input ∙ so_far.input;
    }

-- ---- an answer that was found at a line
located_cases : {T F : Type 0} (P P' : T → Type 0) (Q : F → Type 0) (Q' : Located F → Type 0) (n : ℕ) (r : Result T F) {s : Result T (Located F)} → s ≡ located n r → MatchResult r P Q → ((x : T) → P x → P' x) → ((e : Located F) → e.line ≡ n → Q e.fault → Q' e) → MatchResult s P' Q'
located_cases P P' Q Q' n (Ok x) e h f k = subst (λ z. MatchResult z P' Q') (sym e) (f x h)
located_cases P P' Q Q' n (Err y) e h f k = subst (λ z. MatchResult z P' Q') (sym e) (k (record { line = n; fault = y }) refl h)

-- it leads on from there, or the line is refused
module _ {T : Type 0} {g h : Stage} {a b c : Reader} {l : Numbered} (so_far : Leads g a h b) (next : Next b c l) (r : Result T SheetFault) where
  pub line_answer : (P P' : T → Type 0) {s : Result T (Located SheetFault)} → s ≡ located l.number r → MatchResult r P (Refuses h l.bytes.now) → ((x : T) → P x → P' x) → MatchResult s P' (RefusedFrom g a c)
  line_answer P P' e answer f = located_cases P P' (Refuses h l.bytes.now) (RefusedFrom g a c) l.number r e answer f (λ e same q. refused_there so_far next same q)

  pub stage_answer : (to : T → Stage) {s : Result T (Located SheetFault)} → s ≡ located l.number r → MatchResult r (λ d. Advances h l.bytes.now (to d)) (Refuses h l.bytes.now) → MatchResult s (λ d. Leads g a (to d) c) (RefusedFrom g a c)
  stage_answer to e answer = line_answer (λ d. Advances h l.bytes.now (to d)) (λ d. Leads g a (to d) c) e answer (λ d x. leads_more so_far next x)
