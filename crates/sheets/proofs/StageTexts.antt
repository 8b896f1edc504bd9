-- Two stages whose texts begin the same input: they are one, or the next line at the nearer one is right.
use Rattle.std.proofs.Common.{◌≡◌, ℕ, suc, ◌+◌, ◌<◌, ◌≤◌, ◌⊎◌, List, [], ◌∷◌, ◌++◌, length, get_or, codes, sym, refl, ap, ◌∙◌, subst, inl, inr, arith, length-append}
use Rattle.std.proofs.lemmas.List.{get_or_at, get_or_append_left}
use Rattle.coxeter.specs.Groups.{Matrix}
use Rattle.coxeter.specs.Tables.{place}
use Rattle.lines.specs.Cuts.{Cut}
use Rattle.lines.specs.Lines.{row_key_bytes}
use Rattle.lines.proofs.Cutting.{one_cut}
use Rattle.sheets.specs.Rows.{row_text, Writable, Spells}
use Rattle.sheets.specs.Fitting.{Fits, AllExponentsFit}
use Rattle.sheets.specs.Filling.{Filled}
use Rattle.sheets.specs.Texts.{keyed, digit, rows_text, draft_text}
use Rattle.sheets.specs.Stages.{Stage, rank_due, row_due, kind_due, read_text, Reached}
use Rattle.sheets.proofs.TableRows.{fits_elsewhere}
use Rattle.sheets.proofs.Spelling.{rank_free}
use Rattle.sheets.proofs.LawfulRows.{lawful_wide, lawful_filled}
use Rattle.sheets.proofs.RowTexts.{Written, Extends, Compared, same, shorter, longer, regroup, compare}

-- ---- a rank and some rows that were read
-- a rank from 1 to 8 and at most as many rows, all right
record Begun (n : ℕ) (rows : List (List ℕ)) : Type 0 where
  some : 1 ≤ n
  few : n ≤ 8
  within : length rows ≤ n
  wide : (r : ℕ) → r < length rows → length (get_or rows r []) ≡ n
  filled : Filled n (length rows) rows

writable : (es : List ℕ) → ((c : ℕ) → c < length es → get_or es c 0 ≤ 6) → Writable es
writable [] h = tt
writable (e ∷ es) h = (h 0 (omega arith), writable es (λ c l. h (suc c) (omega arith)))

written : (rows : List (List ℕ)) → ((r : ℕ) → r < length rows → Writable (get_or rows r [])) → Written rows
written [] h = tt
written (es ∷ rows) h = (h 0 (omega arith), written rows (λ r l. h (suc r) (omega arith)))

begun_row : (n : ℕ) (rows : List (List ℕ)) → Begun n rows → (r : ℕ) → r < length rows → Writable (get_or rows r [])
begun_row n rows b r h = writable (get_or rows r []) (λ c l. b.filled.small r c h (omega (arith, b.wide r h)))

begun_written : (n : ℕ) (rows : List (List ℕ)) → Begun n rows → Written rows
begun_written n rows b = written rows (begun_row n rows b)

-- the drafts of two texts that begin the same bytes have one rank
digit_once : (n n' : ℕ) → keyed (codes "rank") (digit n) ≡ keyed (codes "rank") (digit n') → n ≡ n'
digit_once n n' e = let d : 48 + n ≡ 48 + n' = cc in omega arith

draft_cut : (n : ℕ) (rows : List (List ℕ)) (tail : List ℕ) → Cut 10 (draft_text n rows ++ tail) (keyed (codes "rank") (digit n)) (rows_text 0 rows ++ tail)
draft_cut n rows tail = record { whole = sym (regroup (keyed (codes "rank") (digit n)) (rows_text 0 rows) tail); none = rank_free n }

-- ---- the right lines at a stage, behind which the sheet goes on
-- the line of a row of n exponents that may stand below these rows
pub record RightRow (n : ℕ) (rows : List (List ℕ)) (line : List ℕ) : Type 0 where
  pub row : List ℕ
  pub size : length row ≡ n
  pub fits : AllExponentsFit rows (length rows) row n
  pub spelled : (value : List ℕ) × (line ≡ keyed (row_key_bytes (length rows + 1)) value) × Spells row_text value row

-- the line is right and not the last one
abbrev pub Right : Stage → List ℕ → Type 0
Right rank_due line = (n : ℕ) × (1 ≤ n) × (n ≤ 8) × (line ≡ keyed (codes "rank") (digit n))
Right (row_due n rows) line = RightRow n rows line
Right (kind_due m) line = ⊥

-- rest begins with a right line
pub record GoesOn (g : Stage) (rest : List ℕ) : Type 0 where
  pub line : List ℕ
  pub back : List ℕ
  pub cut : Cut 10 rest line back
  pub right : Right g line

-- the row behind rows may stand there
extends_right : (n : ℕ) (rows : List (List ℕ)) (tail : List ℕ) (rows' : List (List ℕ)) → Begun n rows' → Extends 0 rows tail rows' → GoesOn (row_due n rows) tail
extends_right n rows tail rows' b x = record {
  line = keyed (row_key_bytes x.number) (row_text x.row);
  back = x.back;
  cut = x.cut;
  right = record {
    row = x.row;
    size = ap length (sym here) ∙ b.wide (length rows) inside;
    fits = λ c h.
        fits_elsewhere rows' rows (length rows) c (get_or x.row c 0) (λ l. above c l)
        (subst (λ es. Fits rows' (length rows) c (get_or es c 0)) here (b.filled.fits (length rows) c inside h));
    spelled = (
      row_text x.row,
      ap (λ k. keyed (row_key_bytes k) (row_text x.row)) (omega (arith, x.numbered)),
      record { spelled = refl; writable = subst Writable here (begun_row n rows' b (length rows) inside) },
    );
  };
}
  where
    inside : length rows < length rows'
    inside = omega (arith, ap length x.longer, length-append rows (x.row ∷ x.more))

    here : get_or rows' (length rows) [] ≡ x.row
    here = ap (λ l. get_or l (length rows) []) x.longer ∙ get_or_at rows x.row x.more [] (length rows) refl

    above : (c : ℕ) → c < length rows → place rows' c (length rows) ≡ place rows c (length rows)
    above c l = ap (λ (r : List ℕ). get_or r (length rows) 0) (ap (λ z. get_or z c []) x.longer ∙ get_or_append_left rows (x.row ∷ x.more) [] c l)

-- ---- stages behind a rank and some rows
-- the stage h is that of the rank n and these rows
record Drafting (h : Stage) (n : ℕ) (rows : List (List ℕ)) : Type 0 where
  begun : Begun n rows
  text : read_text h ≡ draft_text n rows
  due : ((h ≡ row_due n rows) × (length rows < n)) ⊎ ((h ≡ kind_due rows) × (length rows ≡ n))

drafting_row : (n : ℕ) (rows : List (List ℕ)) → Reached (row_due n rows) → Drafting (row_due n rows) n rows
drafting_row n rows r = record {
  begun = record { some = r.some; few = r.few; within = omega (arith, r.left); wide = r.wide; filled = r.filled };
  text = refl;
  due = inl (refl, r.left);
}

drafting_kind : (m : Matrix) → Reached (kind_due m) → Drafting (kind_due m) (length m) m
drafting_kind m law = record {
  begun = record { some = law.some; few = law.few; within = omega arith; wide = lawful_wide m law; filled = lawful_filled m law };
  text = refl;
  due = inr (refl, refl);
}

-- ---- two stages
-- they are one, or the next line at one of them is right
pub data Met (g : Stage) (t : List ℕ) (h : Stage) (u : List ℕ) : Type 0 where
  one : g ≡ h → t ≡ u → Met g t h u
  nearer : GoesOn g t → Met g t h u
  farther : GoesOn h u → Met g t h u

goes_on_rank : (n : ℕ) (rows : List (List ℕ)) (h : Stage) (t u : List ℕ) → Drafting h n rows → t ≡ read_text h ++ u → GoesOn rank_due t
goes_on_rank n rows h t u d e = record {
  line = keyed (codes "rank") (digit n);
  back = rows_text 0 rows ++ u;
  cut = subst (λ x. Cut 10 x (keyed (codes "rank") (digit n)) (rows_text 0 rows ++ u)) (sym (e ∙ ap (λ x. x ++ u) d.text)) (draft_cut n rows u);
  right = (n, d.begun.some, d.begun.few, refl);
}

goes_on_row : (n : ℕ) (rows rows' : List (List ℕ)) (g h : Stage) (t : List ℕ) → Drafting g n rows → Drafting h n rows' → Extends 0 rows t rows' → GoesOn g t
goes_on_row n rows rows' g h t d d' x = by d.due
  where
    by : ((g ≡ row_due n rows) × (length rows < n)) ⊎ ((g ≡ kind_due rows) × (length rows ≡ n)) → GoesOn g t
    by (inl (is, _)) = subst (λ y. GoesOn y t) (sym is) (extends_right n rows t rows' d'.begun x)
    by (inr (is, full)) = absurd (omega (arith, d'.begun.within, ap length x.longer, length-append rows (x.row ∷ x.more)))

due_once : (n : ℕ) (rows : List (List ℕ)) (g h : Stage) → Drafting g n rows → Drafting h n rows → g ≡ h
due_once n rows g h d d' = by d.due d'.due
  where
    by : ((g ≡ row_due n rows) × (length rows < n)) ⊎ ((g ≡ kind_due rows) × (length rows ≡ n)) → ((h ≡ row_due n rows) × (length rows < n)) ⊎ ((h ≡ kind_due rows) × (length rows ≡ n)) → g ≡ h
    by (inl (p, _)) (inl (q, _)) = p ∙ sym q
    by (inl (p, l)) (inr (q, e)) = absurd (omega arith)
    by (inr (p, e)) (inl (q, l)) = absurd (omega arith)
    by (inr (p, _)) (inr (q, _)) = p ∙ sym q

met_rows : (n : ℕ) (rows rows' : List (List ℕ)) (g h : Stage) (t u : List ℕ) → Drafting g n rows → Drafting h n rows' → Compared 0 rows t rows' u → Met g t h u
met_rows n rows rows' g h t u d d' (same p q) = one (due_once n rows g h d (subst (Drafting h n) (sym p) d')) q
met_rows n rows rows' g h t u d d' (shorter x) = nearer (goes_on_row n rows rows' g h t d d' x)
met_rows n rows rows' g h t u d d' (longer x) = farther (goes_on_row n rows' rows h g u d' d x)

met_drafts : (n n' : ℕ) (rows rows' : List (List ℕ)) (g h : Stage) (t u : List ℕ) → Drafting g n rows → Drafting h n' rows' → read_text g ++ t ≡ read_text h ++ u → Met g t h u
met_drafts n n' rows rows' g h t u d d' e =
    let c = draft_cut n rows t in
    let c' = draft_cut n' rows' u in
    let both = ap (λ x. x ++ t) (sym d.text) ∙ e ∙ ap (λ x. x ++ u) d'.text in
    let cut = one_cut 10 (keyed (codes "rank") (digit n)) (rows_text 0 rows ++ t) (keyed (codes "rank") (digit n')) (rows_text 0 rows' ++ u) (rank_free n) (rank_free n') (c.whole ∙ both ∙ sym c'.whole) in
    let rank = digit_once n n' cut.0 in
    met_rows n rows rows' g h t u d (subst (λ x. Drafting h x rows') (sym rank) d')
    (compare 0 rows rows' t u (begun_written n rows d.begun) (begun_written n' rows' d'.begun) cut.1)

pub meet : (g h : Stage) (t u : List ℕ) → Reached g → Reached h → read_text g ++ t ≡ read_text h ++ u → Met g t h u
meet rank_due rank_due t u r s e = one refl e
meet rank_due (row_due n rows) t u r s e = nearer (goes_on_rank n rows (row_due n rows) t u (drafting_row n rows s) e)
meet rank_due (kind_due m) t u r s e = nearer (goes_on_rank (length m) m (kind_due m) t u (drafting_kind m s) e)
meet (row_due n rows) rank_due t u r s e = farther (goes_on_rank n rows (row_due n rows) u t (drafting_row n rows r) (sym e))
meet (kind_due m) rank_due t u r s e = farther (goes_on_rank (length m) m (kind_due m) u t (drafting_kind m r) (sym e))
meet (row_due n rows) (row_due n' rows') t u r s e = met_drafts n n' rows rows' (row_due n rows) (row_due n' rows') t u (drafting_row n rows r) (drafting_row n' rows' s) e
meet (row_due n rows) (kind_due m) t u r s e = met_drafts n (length m) rows m (row_due n rows) (kind_due m) t u (drafting_row n rows r) (drafting_kind m s) e
meet (kind_due m) (row_due n rows) t u r s e = met_drafts (length m) n m rows (kind_due m) (row_due n rows) t u (drafting_kind m r) (drafting_row n rows s) e
meet (kind_due m) (kind_due k) t u r s e = met_drafts (length m) (length k) m k (kind_due m) (kind_due k) t u (drafting_kind m r) (drafting_kind k s) e
