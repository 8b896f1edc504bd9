-- The values of a row, after a write and at a read.
use Rattle.std.proofs.Common.{◌≡◌, ℕ, ◌+◌, ◌-◌, ◌<◌, ◌≢◌, List, map, length, get_or, set, sym, ap, ◌∙◌, arith, below_more}
use Rattle.std.proofs.lemmas.List.{map-set, length-map, get_or-map, get_or-set_same, get_or-set_other}
use Rattle.coxeter.specs.Numbers.{Exact, minus, times}
use Rattle.numbers.specs.Coefficients.{worth, zero}
use Rattle.numbers.specs.declared.coefficient.Coefficient.{Coefficient}

module _ {N : Type 0} (value : N → Exact) (e : Exact) where
  -- a write at the index i after writes at all below it
  pub written_more : (want : ℕ → Exact) (l : List N) (i : ℕ) (x : N) → i < length l → ((k : ℕ) → k < i → get_or (map value l) k e ≡ want k) → value x ≡ want i
      → (k : ℕ) → k < i + 1 → get_or (map value (set l i x)) k e ≡ want k
  written_more want l i x h below here =
      let m = map-set value l i x in
      let long : i < length (map value l) = rw (length-map l value) h in
      below_more _ _
      (λ k j. let ne : k ≢ i = omega arith in ap (λ (q : List Exact). get_or q k e) m ∙ get_or-set_other (map value l) i k (value x) e ne ∙ below k j)
      (ap (λ (q : List Exact). get_or q i e) m ∙ get_or-set_same (map value l) i (value x) e long ∙ here)

  pub value_read : (l : List N) (i : ℕ) (x : N) → i < length l → x ≡ get_or l i x → value x ≡ get_or (map value l) i e
  value_read l i x h r = ap value r ∙ sym (get_or-map value l i x e h)

  -- a number of the row, less its coefficient times the number of the letter s, written after those before it
  pub taken_more : (row fresh : List N) (column : List Coefficient) (s i : ℕ) (x by y : N) → i < length row → s - 1 < length row → i < length fresh → x ≡ get_or row i x → by ≡ get_or row (s - 1) by
      → value y ≡ minus (value x) (times (worth (get_or column i zero)) (value by))
      → ((k : ℕ) → k < i → get_or (map value fresh) k e ≡ minus (get_or (map value row) k e) (times (worth (get_or column k zero)) (get_or (map value row) (s - 1) e)))
      → (k : ℕ) → k < i + 1 → get_or (map value (set fresh i y)) k e ≡ minus (get_or (map value row) k e) (times (worth (get_or column k zero)) (get_or (map value row) (s - 1) e))
  taken_more row fresh column s i x by y h k l p q told below =
      let u = value_read row i x h p in
      let v = value_read row (s - 1) by k q in
      written_more (λ k. minus (get_or (map value row) k e) (times (worth (get_or column k zero)) (get_or (map value row) (s - 1) e))) fresh i y l below
      (told ∙ (λ j. minus (u j) (times (worth (get_or column i zero)) (v j))))
