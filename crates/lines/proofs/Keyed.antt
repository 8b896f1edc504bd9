-- Reading a line by its key and value.
use Rattle.std.proofs.Common.{◌≡◌, ℕ, List, Bor, Option, Some, None, MatchOption, sym, subst, subst₂}
use Rattle.lines.specs.Cuts.{Cut, Free}
use Rattle.lines.specs.Lines.{IsLine, NoLine, NoReading, Reads}
use Rattle.lines.specs.declared.line.Due.{Due}
use Rattle.lines.specs.declared.line.Line.{Line}
use Rattle.lines.proofs.Cutting.{not_free, same_cut}

-- where its key and value spell no line, the bytes are none
pub no_reading : {d : Due} {bs k v : List ℕ} → Cut 61 bs k v → NoLine d k v → NoReading d bs
no_reading {d} c none l r =
    let same = same_cut r.cut c in
    none l (subst₂ (λ x y. IsLine d x y l) same.0 same.1 r.is)

-- a line without = is none
pub no_key : {d : Due} {bs : List ℕ} → Free 61 bs → NoReading d bs
no_key f l r = not_free r.cut f

-- what is read of a line, from its cut and what is read of its key and value
pub reading : (d : Due) (bs : List ℕ) (line : Option Line) (parts : Option (Bor (List ℕ) × Bor (List ℕ))) → MatchOption parts (Free 61 bs) (λ p. Cut 61 bs p.0.now p.1.now) → MatchOption parts (line ≡ None) (λ p. MatchOption line (NoLine d p.0.now p.1.now) (IsLine d p.0.now p.1.now)) → MatchOption line (NoReading d bs) (Reads d bs)
reading d bs line None free e = subst (λ o. MatchOption o (NoReading d bs) (Reads d bs)) (sym e) (no_key free)
reading d bs None (Some p) c none = no_reading c none
reading d bs (Some l) (Some p) c is = record { key = _; value = _; cut = c; is = is }
