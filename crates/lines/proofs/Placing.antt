-- A reader's place in its input.
use Rattle.std.proofs.Common.{◌≡◌, ℕ, ◌+◌, eqb, List, [], ◌∷◌, ◌++◌, sym, refl, ap, ◌∙◌, add-one, arith}
use Rattle.std.proofs.lemmas.Bool.{cond-false, ne_eqb}
use Rattle.lines.specs.Cuts.{Cut, Free}
use Rattle.lines.specs.Places.{past_newline, behind}
use Rattle.lines.proofs.Cutting.{free_tail}

-- behind a text free of byte 10 and a byte 10 stands the rest
past_free : (front back : List ℕ) → Free 10 front → past_newline (front ++ 10 ∷ back) ≡ back
past_free [] back f = refl
past_free (x ∷ front) back f =
    cond-false (eqb x 10) _ _ (ne_eqb x 10 (f 0 (omega arith))) ∙ past_free front back (free_tail 10 x front f)

-- what a cut at byte 10 leaves is what stands behind that byte
pub past_cut : {bs front back : List ℕ} → Cut 10 bs front back → back ≡ past_newline bs
past_cut {bs} {front} {back} h = sym (past_free front back h.none) ∙ ap past_newline h.whole

-- one line on in the input
pub one_more : {rest front back : List ℕ} (n : ℕ) (input : List ℕ) → rest ≡ behind n input → Cut 10 rest front back → back ≡ behind (n + 1) input
one_more n input e h = rw add-one (past_cut h ∙ ap past_newline e)
