-- What length, distance and the forms answer is determined by the frame, the word and the buffer.
use Rattle.std.proofs.Common.{◌≡◌, ℕ, ◌+◌, ◌-◌, ◌<◌, ◌≤◌, min, false, ◌⊎◌, List, ◌++◌, length, take, drop, Ok, Err, Result, sym, refl, ap, ◌∙◌, subst, inl, inr, arith}
use Rattle.std.proofs.lemmas.Bool.{both_ways}
use Rattle.coxeter.specs.Moves.{Word}
use Rattle.coxeter.proofs.Forms.{forms_unique}
use Rattle.carriers.specs.Frames.{Frame}
use Rattle.words.specs.declared.faults.WordFault.{WordFault}
use Rattle.words.specs.declared.faults.WordFault.TheVariants.{Short, TooLong, Letter as NoLetter, Reach as OutOfReach}
use Rattle.words.specs.Outcomes.{Barred, Stranded, Passed, Refused, Sized, Wrote}
use Rattle.words.specs.Theorems.{MeasuresAreDetermined, FormsAreDetermined}
use Rattle.words.proofs.Determined.{one_of, entered_barred, barred_one}

-- the form's prefix where one strands is not in reach
stranded_out : (f : Frame) (w h : Word) (j : ℕ) (m : Stranded f w j) → m.form ≡ h → f.reach (take (length h - (j + 1)) h) ≡ false
stranded_out f w h j m e =
    let d : length h - (j + 1) ≡ length h - j - 1 = omega arith in
    ap (λ n. f.reach (take n h)) d ∙ subst (λ (z : Word). f.reach (take (length z - j - 1) z) ≡ false) e m.beyond

stranded_below : (f : Frame) (w : Word) (i k : ℕ) → Stranded f w i → Stranded f w k → i < k → ⊥
stranded_below f w i k m n d =
    both_ways (f.reach (take (length n.form - (i + 1)) n.form)) (stranded_out f w n.form i m (forms_unique f.group w m.form n.form m.formed n.formed)) (n.held (i + 1) (omega arith))

stranded_one : (f : Frame) (w : Word) (i k : ℕ) → Stranded f w i → Stranded f w k → i ≡ k
stranded_one f w i k m n = one_of i k (stranded_below f w i k m n) (stranded_below f w k i n m)

passed_stranded : (f : Frame) (w h : Word) (j : ℕ) → Passed f w h → Stranded f w j → ⊥
passed_stranded f w h j p m =
    both_ways (f.reach (take (length h - (j + 1)) h)) (stranded_out f w h j m (forms_unique f.group w m.form h m.formed p.formed)) (p.held (length h - (j + 1)) (omega arith))

-- the word is barred, or the way down leaves the reach
abbrev Stopped : Frame → Word → WordFault → Type 0
Stopped f w e = Barred f w e ⊎ ((j : ℕ) × (e ≡ OutOfReach (length w + j)) × Stranded f w j)

stopped : (f : Frame) (w : Word) (e : WordFault) → Refused f w e → Stopped f w e
stopped f w Short r = absurd r
stopped f w TooLong r = inl r
stopped f w (NoLetter k) r = inl r
stopped f w (OutOfReach k) (inl r) = inl r
stopped f w (OutOfReach k) (inr (j, e, m)) = inr (j, ap OutOfReach e, m)

passed_refused : (f : Frame) (w h : Word) (e : WordFault) → Passed f w h → Refused f w e → ⊥
passed_refused f w h e p r = by (stopped f w e r)
  where
    by : Stopped f w e → ⊥
    by (inl b) = entered_barred f w e p.entered b
    by (inr (j, d, m)) = passed_stranded f w h j p m

refused_one : (f : Frame) (w : Word) (x y : WordFault) → Refused f w x → Refused f w y → x ≡ y
refused_one f w x y r q = by (stopped f w x r) (stopped f w y q)
  where
    by : Stopped f w x → Stopped f w y → x ≡ y
    by (inl b) (inl c) = barred_one f w x y b c
    by (inl b) (inr (j, d, m)) = absurd (entered_barred f w x m.entered b)
    by (inr (j, d, m)) (inl b) = absurd (entered_barred f w y m.entered b)
    by (inr (j, d, m)) (inr (k, e, n)) = d ∙ ap (λ i. OutOfReach (length w + i)) (stranded_one f w j k m n) ∙ sym e

sized_one : (f : Frame) (w : Word) (r s : Result ℕ WordFault) → Sized f w r → Sized f w s → r ≡ s
sized_one f w (Ok n) (Ok m) (h, p, e) (k, q, d) = ap Ok (e ∙ ap length (forms_unique f.group w h k p.formed q.formed) ∙ sym d)
sized_one f w (Ok n) (Err y) (h, p, e) r = absurd (passed_refused f w h y p r)
sized_one f w (Err x) (Ok m) r (h, p, e) = absurd (passed_refused f w h x p r)
sized_one f w (Err x) (Err y) r q = ap Err (refused_one f w x y r q)

pub measures_determined : MeasuresAreDetermined
measures_determined f w r s p q = sized_one f w r s p.sized q.sized

-- the buffer is too short, or the word decides
sorted : (f : Frame) (w : Word) (before after : List ℕ) (r : Result ℕ WordFault) → Wrote f w before after r → ((length before < min (length w) 4096) × (r ≡ Err Short)) ⊎ ((min (length w) 4096 ≤ length before) × Sized f w r)
sorted f w before after (Ok n) (h, m, p, e, d) = inr (m, (h, p, e))
sorted f w before after (Err Short) r = inl (r.0, refl)
sorted f w before after (Err TooLong) r = inr (r.0, r.1)
sorted f w before after (Err (NoLetter k)) r = inr (r.0, r.1)
sorted f w before after (Err (OutOfReach k)) r = inr (r.0, r.1)

buffer_one : (f : Frame) (w : Word) (before after after' : List ℕ) (r : Result ℕ WordFault) → Wrote f w before after r → Wrote f w before after' r → after ≡ after'
buffer_one f w before after after' (Ok n) (h, m, p, e, d) (h', m', p', e', d') = d ∙ ap (λ (z : Word). z ++ drop n before) (forms_unique f.group w h h' p.formed p'.formed) ∙ sym d'
buffer_one f w before after after' (Err Short) r s = r.1 ∙ sym s.1
buffer_one f w before after after' (Err TooLong) r s = r.2 ∙ sym s.2
buffer_one f w before after after' (Err (NoLetter k)) r s = r.2 ∙ sym s.2
buffer_one f w before after after' (Err (OutOfReach k)) r s = r.2 ∙ sym s.2

pub forms_determined : FormsAreDetermined
forms_determined f w before after after' r s p q =
    let e : r ≡ s = by (sorted f w before after r p.wrote) (sorted f w before after' s q.wrote) in
    (e, buffer_one f w before after after' s (subst (λ (z : Result ℕ WordFault). Wrote f w before after z) e p.wrote) q.wrote)
  where
    by : ((length before < min (length w) 4096) × (r ≡ Err Short)) ⊎ ((min (length w) 4096 ≤ length before) × Sized f w r) → ((length before < min (length w) 4096) × (s ≡ Err Short)) ⊎ ((min (length w) 4096 ≤ length before) × Sized f w s) → r ≡ s
    by (inl (a, d)) (inl (b, e)) = d ∙ sym e
    by (inl (a, d)) (inr (b, e)) = absurd (omega arith)
    by (inr (a, d)) (inl (b, e)) = absurd (omega arith)
    by (inr (a, d)) (inr (b, e)) = sized_one f w r s d e
