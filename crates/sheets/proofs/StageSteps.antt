-- From one stage of a sheet to the next.
use Rattle.std.proofs.Common.{◌≡◌, ℕ, ◌+◌, ◌<◌, ◌≤◌, List, [], ◌∷◌, ◌++◌, length, take, set, sym, refl, ap, ◌∙◌, subst, arith, length-append}
use Rattle.coxeter.specs.Groups.{Matrix}
use Rattle.coxeter.specs.Tables.{cut}
use Rattle.lines.specs.Lines.{row_key_bytes}
use Rattle.sheets.specs.Rows.{row_text, Spells, Stops}
use Rattle.sheets.specs.Fitting.{Misfit}
use Rattle.sheets.specs.Filling.{part, Filled}
use Rattle.sheets.specs.Texts.{keyed, ended, draft_text}
use Rattle.sheets.specs.Stages.{Stage, row_due, kind_due, Advances, Drafted, WrongRow, WrongEntry, key_due}
use Rattle.sheets.specs.Drafts.{FitsNext}
use Rattle.sheets.specs.declared.drafts.RowsDraft.{RowsDraft}
use Rattle.sheets.proofs.TableRows.{part_length, part_wide, part_more, filled_of, filled_more, filled_part, filled_lawful, misfit_part}
use Rattle.sheets.proofs.SheetTexts.{draft_more}

-- ---- the stage of a table of rows
pub drafted_rows : (n k : ℕ) (rows : List (List ℕ)) → 1 ≤ n → n ≤ 8 → k < n → Filled n k rows → Drafted n (part n k rows) (row_due n (part n k rows))
drafted_rows n k rows low high lt f = record {
  text = refl;
  count = refl;
  reached = record {
    some = low;
    few = high;
    left = omega (arith, part_length n k rows);
    wide = λ r h. part_wide n k rows r (omega (arith, part_length n k rows));
    filled = subst (λ m. Filled n m (part n k rows)) (sym (part_length n k rows)) (filled_part n k rows (omega arith) f);
  };
}

pub drafted_kind : (n k : ℕ) (rows : List (List ℕ)) (m : Matrix) → 1 ≤ n → n ≤ 8 → k ≡ n → m ≡ cut n rows → Filled n k rows → Drafted n (part n k rows) (kind_due m)
drafted_kind n k rows m low high same is f =
    subst (λ x. Drafted n (part n k rows) (kind_due x)) (sym is)
    (subst (λ x. Drafted n (part n x rows) (kind_due (cut n rows))) (sym same) (record {
      text = ap (λ x. draft_text x (cut n rows)) (part_length n n rows);
      count = refl;
      reached = filled_lawful n rows low high (subst (λ x. Filled n x rows) same f);
    }))

-- ---- a draft with its next row
module _ (d : RowsDraft) (row : List ℕ) (long : d.rank ≤ length row) (inside : d.done < length d.rows) (next : FitsNext d (take d.rank row)) where
  pub next_filled : Filled d.rank (d.done + 1) (set d.rows d.done row)
  next_filled = filled_more d.rank d.done d.rows row long d.left inside (filled_of d.rank d.done d.rows d.filled) next.writable next.fit

  next_part : part d.rank (d.done + 1) (set d.rows d.done row) ≡ part d.rank d.done d.rows ++ take d.rank row ∷ []
  next_part = part_more d.rank d.done d.rows row long d.left inside

  pub next_rows : d.done + 1 < d.rank → Drafted d.rank (part d.rank d.done d.rows ++ take d.rank row ∷ []) (row_due d.rank (part d.rank (d.done + 1) (set d.rows d.done row)))
  next_rows lt =
      subst (λ rows. Drafted d.rank rows (row_due d.rank (part d.rank (d.done + 1) (set d.rows d.done row)))) next_part
      (drafted_rows d.rank (d.done + 1) (set d.rows d.done row) d.some d.few lt next_filled)

  pub next_kind : (m : Matrix) → d.done + 1 ≡ d.rank → m ≡ cut d.rank (set d.rows d.done row) → Drafted d.rank (part d.rank d.done d.rows ++ take d.rank row ∷ []) (kind_due m)
  next_kind m full is =
      subst (λ rows. Drafted d.rank rows (kind_due m)) next_part
      (drafted_kind d.rank (d.done + 1) (set d.rows d.done row) m d.some d.few full is next_filled)

-- ---- a row's line
module _ (n k : ℕ) (rows : List (List ℕ)) (value : List ℕ) where
  same_key : keyed (row_key_bytes (k + 1)) value ≡ keyed (row_key_bytes (length (part n k rows) + 1)) value
  same_key = ap (λ x. keyed (row_key_bytes (x + 1)) value) (sym (part_length n k rows))

  pub row_added : (new : List ℕ) (h : Stage) → value ≡ row_text new → Drafted n (part n k rows ++ new ∷ []) h → Advances (row_due n (part n k rows)) (keyed (row_key_bytes (k + 1)) value) h
  row_added new h spelled d = record {
    text =
        d.text ∙ draft_more n (part n k rows) new
        ∙ ap (λ v. draft_text n (part n k rows) ++ ended v) (ap (keyed (row_key_bytes (length (part n k rows) + 1))) (sym spelled) ∙ sym same_key);
    count = omega (arith, d.count, length-append (part n k rows) (new ∷ []));
    reached = d.reached;
  }

  pub row_unspelled : (right : ℕ) → Stops row_text n value right → WrongRow (row_due n (part n k rows)) (keyed (row_key_bytes (k + 1)) value) (5 + right)
  row_unspelled right s = record {
    rank = n;
    rows = part n k rows;
    value = value;
    right = right;
    stage = refl;
    keyed_so = same_key;
    stops = s;
    place = refl;
  }

  pub row_misfit : (es : List ℕ) (right : ℕ) → k < n → length es ≡ n → Spells row_text value es → Misfit rows k es right → WrongEntry (row_due n (part n k rows)) (keyed (row_key_bytes (k + 1)) value) (5 + right)
  row_misfit es right lt size s m = record {
    rank = n;
    rows = part n k rows;
    exponents = es;
    right = right;
    stage = refl;
    size = size;
    spelled = (value, same_key, s);
    misfit = subst (λ x. Misfit (part n k rows) x es right) (sym (part_length n k rows)) (misfit_part n k rows es right lt m);
    place = refl;
  }

pub row_unexpected : (n k : ℕ) (rows : List (List ℕ)) (line : List ℕ) → ((v : List ℕ) → line ≡ keyed (row_key_bytes (k + 1)) v → ⊥) → (v : List ℕ) → line ≡ keyed (key_due (row_due n (part n k rows))) v → ⊥
row_unexpected n k rows line none v e = none v (e ∙ ap (λ x. keyed (row_key_bytes (x + 1)) v) (part_length n k rows))
