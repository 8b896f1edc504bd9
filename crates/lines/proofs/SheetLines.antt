-- The bytes that are read as no line of a sheet, where one is due.
use Rattle.std.proofs.Common.{◌≡◌, ℕ, zero, suc, ◌+◌, ◌≤◌, List, [], ◌∷◌, ◌++◌, codes, sym, refl, arith, Bor}
use Rattle.lines.specs.Cuts.{Free}
use Rattle.lines.specs.Lines.{IsLine, NoReading, row_key_bytes}
use Rattle.lines.specs.declared.line.Due.{Due}
use Rattle.lines.specs.declared.line.Due.TheVariants as due
use Rattle.lines.specs.declared.line.Line.{Line}
use Rattle.lines.specs.declared.line.Line.TheVariants as line

-- some reference to a text
abbrev to : List ℕ → Bor (List ℕ)
to v = record { ref_ptr = (0, 0); now = v }

-- a key of four bytes without = is free of it
four_free : (a b c d : ℕ) → (a ≡ 61 → ⊥) → (b ≡ 61 → ⊥) → (c ≡ 61 → ⊥) → (d ≡ 61 → ⊥) → Free 61 (a ∷ b ∷ c ∷ d ∷ [])
four_free a b c d p q r s zero h e = p e
four_free a b c d p q r s (suc zero) h e = q e
four_free a b c d p q r s (suc (suc zero)) h e = r e
four_free a b c d p q r s (suc (suc (suc zero))) h e = s e
four_free a b c d p q r s (suc (suc (suc (suc k)))) h e = omega arith

-- where no line is read, the bytes do not begin with a key free of =, and =, that spell one
none_begins : (d : Due) (l : Line) (key v : List ℕ) {bs : List ℕ} → NoReading d bs → Free 61 key → IsLine d key v l → bs ≡ key ++ 61 ∷ v → ⊥
none_begins d l key v none f i e = none l (record { key = _; value = _; cut = record { whole = sym e; none = f }; is = i })

-- where no rank line is read, the bytes do not begin with rank=
pub no_rank : {bs : List ℕ} → NoReading due.Rank bs → (v : List ℕ) → bs ≡ codes "rank" ++ 61 ∷ v → ⊥
no_rank none v =
    none_begins due.Rank (line.Rank (to v)) (codes "rank") v none
    (four_free 114 97 110 107 (λ p. omega arith) (λ p. omega arith) (λ p. omega arith) (λ p. omega arith)) (refl, refl, refl)

-- where no line of row n is read, the bytes do not begin with its key and =
pub no_row : (n : ℕ) {bs : List ℕ} → 1 ≤ n → n ≤ 8 → NoReading (due.Row n) bs → (v : List ℕ) → bs ≡ row_key_bytes n ++ 61 ∷ v → ⊥
no_row n low high none v =
    none_begins (due.Row n) (line.Row n (to v)) (row_key_bytes n) v none
    (four_free 114 111 119 (48 + n) (λ p. omega arith) (λ p. omega arith) (λ p. omega arith) (λ p. omega arith)) (refl, low, high, refl, refl)

-- where no kind line is read, the bytes do not begin with kind=
pub no_kind : {bs : List ℕ} → NoReading due.Kind bs → (v : List ℕ) → bs ≡ codes "kind" ++ 61 ∷ v → ⊥
no_kind none v =
    none_begins due.Kind (line.Kind (to v)) (codes "kind") v none
    (four_free 107 105 110 100 (λ p. omega arith) (λ p. omega arith) (λ p. omega arith) (λ p. omega arith)) (refl, refl, refl)
