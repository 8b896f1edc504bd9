-- Tests over the numbers below a bound.
use Rattle.std.proofs.Common.{◌≡◌, ℕ, zero, suc, ◌<◌, Bool, true, false, ◌&&◌, Decides, refl}
use Rattle.std.proofs.lemmas.Bool.{false≢true}
use Rattle.std.proofs.lemmas.Bool.Decides.{Decides-below_and}

-- does the test pass at every number below n?
abbrev pub every : (ℕ → Bool) → ℕ → Bool
every f zero = true
every f (suc n) = f n && every f n

pub every_one : (f : ℕ → Bool) (n k : ℕ) → every f n ≡ true → k < n → f k ≡ true
every_one f n k e h = (Decides-below_and f (λ i. f i ≡ true) (every f) (λ i. (λ p. p, λ p. p)) refl (λ i. refl) n).0 e k h

-- the answer no, where it is not so
pub decides_false : {P : Type 0} → (P → ⊥) → Decides false P
decides_false h = (λ e. absurd (false≢true e), λ p. absurd (h p))
