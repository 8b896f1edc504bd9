-- A row is its first exponent and what follows; what follows is a space and a row.
use Rattle.std.proofs.Common.{◌≡◌, ℕ, zero, suc, ◌+◌, ◌-◌, ◌<◌, ◌≤◌, ◌≢◌, List, [], ◌∷◌, ◌++◌, length, get_or, take, drop, set, replicate, sym, refl, ap, ◌∙◌, subst, append_assoc, append-nil, arith, length-append, length-drop, length-set}
use mathlib.Core.List.{head-eq_of_cons-eq, tail-eq_of_cons-eq}
use borrow.Rule.Slice.PartMut.{put_mid}
use Rattle.std.proofs.lemmas.List.{take_rest, drop_all, length-replicate}
use Rattle.std.proofs.Math.Seq.{take-append-add}
use Rattle.sheets.specs.Rows.{exponent_text, after_text, row_text, Writable, Opens, Halts, Spells, Begins, Stops}
use Rattle.sheets.proofs.FirstExponent.{front}

-- no exponent begins another
pub one_exponent : (e f : ℕ) → e ≤ 6 → f ≤ 6 → (a b : List ℕ) → exponent_text e ++ a ≡ exponent_text f ++ b → (e ≡ f) × (a ≡ b)
one_exponent (suc d) (suc g) ve vf a b h =
    let same : 48 + suc d ≡ 48 + suc g = head-eq_of_cons-eq h in
    (omega arith, tail-eq_of_cons-eq h)
one_exponent (suc d) zero ve vf a b h = let same : 48 + suc d ≡ 105 = head-eq_of_cons-eq h in absurd (omega arith)
one_exponent zero (suc g) ve vf a b h = let same : 105 ≡ 48 + suc g = head-eq_of_cons-eq h in absurd (omega arith)
one_exponent zero zero ve vf a b h = (refl, cc)

-- exponents to go on with
abbrev spare : ℕ → List ℕ
spare n = replicate n 0

spare_writable : (n : ℕ) → Writable (spare n)
spare_writable zero = tt
spare_writable (suc n) = (omega arith, spare_writable n)

pub put_front : (xs ys : List ℕ) (e : ℕ) → 0 < length xs → put_mid 1 (length (set xs 0 e) - 1) (set xs 0 e) ys ≡ e ∷ ys
put_front [] ys e h = absurd (omega arith)
put_front (x ∷ xs) ys e h = ap (λ l. e ∷ (ys ++ l)) (drop_all (length (e ∷ xs) - 1) xs (omega arith)) ∙ ap (λ l. e ∷ l) (append-nil ys)

pub row_ok : (s rest : List ℕ) (e : ℕ) (es : List ℕ) → Opens s e rest → Spells after_text rest es → Spells row_text s (e ∷ es)
row_ok s rest e es o t = record { spelled = o.whole ∙ ap (λ l. exponent_text e ++ l) t.spelled; writable = (o.small, t.writable) }

pub row_halt : (m : ℕ) (s : List ℕ) (k : ℕ) → 0 < m → Halts s k → Stops row_text m s k
row_halt zero s k h t = absurd (omega arith)
row_halt (suc m) s k h t = record {
  within = t.within;
  good = (
    t.good.0 ∷ spare m,
    t.good.1 ++ after_text (spare m),
    ap suc (length-replicate m 0),
    record {
      spelled = sym (append_assoc (take k s) t.good.1 (after_text (spare m))) ∙ ap (λ l. l ++ after_text (spare m)) t.good.3;
      writable = (t.good.2, spare_writable m);
    },
  );
  bad = bad;
  wrong = wrong;
}
  where
    bad : (j : ℕ) → k < j → j ≤ length s → Begins row_text (suc m) (take j s) → ⊥
    bad j lt le ([], u, n, sp) = omega arith
    bad j lt le (e ∷ es, u, n, sp) = t.bad j lt le e sp.writable.0 u (after_text es) sp.spelled

    wrong : (es : List ℕ) → length es ≡ suc m → Spells row_text s es → ⊥
    wrong [] n sp = omega arith
    wrong (e ∷ es) n sp = t.wrong e sp.writable.0 (after_text es) sp.spelled

-- past the first exponent
module _ (m : ℕ) (rest : List ℕ) (k : ℕ) (e : ℕ) (ve : e ≤ 6) (t : Stops after_text m rest k) where
  step_good : Begins row_text (suc m) (take (length (exponent_text e) + k) (exponent_text e ++ rest))
  step_good = (
    e ∷ t.good.0,
    t.good.1,
    ap suc t.good.2,
    record {
      spelled = ap (λ l. l ++ t.good.1) (take-append-add (exponent_text e) rest k) ∙ append_assoc (exponent_text e) (take k rest) t.good.1 ∙ ap (λ l. exponent_text e ++ l) t.good.3.spelled;
      writable = (ve, t.good.3.writable);
    },
  )

  step_bad : (j : ℕ) → length (exponent_text e) + k < j → j ≤ length (exponent_text e ++ rest) → (es : List ℕ) (u : List ℕ) → length es ≡ suc m → Spells row_text (take j (exponent_text e ++ rest) ++ u) es → ⊥
  step_bad j lt le [] u n sp = omega arith
  step_bad j lt le (f ∷ es) u n sp =
      let i : ℕ = j - length (exponent_text e) in
      let back : j ≡ length (exponent_text e) + i = omega arith in
      let whole : exponent_text e ++ (take i rest ++ u) ≡ exponent_text f ++ after_text es =
      sym (append_assoc (exponent_text e) (take i rest) u) ∙ ap (λ l. l ++ u) (sym (take-append-add (exponent_text e) rest i) ∙ ap (λ n. take n (exponent_text e ++ rest)) (sym back)) ∙ sp.spelled in
      let same = one_exponent e f ve sp.writable.0 (take i rest ++ u) (after_text es) whole in
      t.bad i (omega arith) (omega (arith, length-append (exponent_text e) rest)) (es, u, omega arith, record { spelled = same.1; writable = sp.writable.1 })

  step_wrong : (es : List ℕ) → length es ≡ suc m → Spells row_text (exponent_text e ++ rest) es → ⊥
  step_wrong [] n sp = omega arith
  step_wrong (f ∷ es) n sp =
      let same = one_exponent e f ve sp.writable.0 rest (after_text es) sp.spelled in
      t.wrong es (omega arith) (record { spelled = same.1; writable = sp.writable.1 })

  step_stops : Stops row_text (suc m) (exponent_text e ++ rest) (length (exponent_text e) + k)
  step_stops = record {
    within = omega (arith, length-append (exponent_text e) rest, t.within);
    good = step_good;
    bad = λ j lt le b. step_bad j lt le b.0 b.1 b.2 b.3;
    wrong = step_wrong;
  }

pub row_step : (n : ℕ) (s rest : List ℕ) (e : ℕ) (k : ℕ) → 0 < n → Opens s e rest → Stops after_text (n - 1) rest k → Stops row_text n s (length s - length rest + k)
row_step n s rest e k h o t =
    let size : length s ≡ length (exponent_text e) + length rest = ap length o.whole ∙ length-append (exponent_text e) rest in
    let at : length (exponent_text e) + k ≡ length s - length rest + k = omega arith in
    let count : suc (n - 1) ≡ n = omega arith in
    subst (λ x. Stops row_text x s (length s - length rest + k)) count (subst (λ x. Stops row_text (suc (n - 1)) s x) at (subst (λ x. Stops row_text (suc (n - 1)) x (length (exponent_text e) + k)) (sym o.whole) (step_stops (n - 1) rest k e o.small t)))

-- a tail that is done
pub tail_none : Spells after_text [] []
tail_none = record { spelled = refl; writable = tt }

tail_more : (s : List ℕ) → 0 < length s → Stops after_text 0 s 0
tail_more [] h = absurd (omega arith)
tail_more (x ∷ s) h = record {
  within = omega arith;
  good = ([], [], refl, tail_none);
  bad = λ j lt le b. bad j lt b.0 b.1 b.2 b.3;
  wrong = wrong;
}
  where
    bad : (j : ℕ) → 0 < j → (es : List ℕ) (u : List ℕ) → length es ≡ 0 → Spells after_text (take j (x ∷ s) ++ u) es → ⊥
    bad zero lt es u n sp = omega arith
    bad (suc j) lt [] u n sp = let z = ap length sp.spelled in omega arith
    bad (suc j) lt (e ∷ es) u n sp = omega arith

    wrong : (es : List ℕ) → length es ≡ 0 → Spells after_text (x ∷ s) es → ⊥
    wrong [] n sp = let z = ap length sp.spelled in omega arith
    wrong (e ∷ es) n sp = omega arith

-- a tail that lacks its space
tail_space : (m : ℕ) (s : List ℕ) → 0 < m → (0 < length s → get_or s 0 0 ≢ 32) → Stops after_text m s 0
tail_space m s h gap = record {
  within = omega arith;
  good = (spare m, after_text (spare m), length-replicate m 0, record { spelled = refl; writable = spare_writable m });
  bad = λ j lt le b. bad j lt le b.0 b.1 b.2 b.3;
  wrong = wrong;
}
  where
    bad : (j : ℕ) → 0 < j → j ≤ length s → (es : List ℕ) (u : List ℕ) → length es ≡ m → Spells after_text (take j s ++ u) es → ⊥
    bad j lt le [] u n sp = omega arith
    bad j lt le (e ∷ es) u n sp = gap (omega arith) (front s u (after_text (e ∷ es)) j 0 lt le sp.spelled)

    wrong : (es : List ℕ) → length es ≡ m → Spells after_text s es → ⊥
    wrong [] n sp = omega arith
    wrong (e ∷ es) n sp = gap (omega (arith, ap length sp.spelled)) (ap (λ l. get_or l 0 0) sp.spelled)

-- a tail that is neither done nor begins with its space
pub tail_stop : (m : ℕ) (s : List ℕ) → (m ≡ 0 → 0 < length s) → (0 < m → 0 < length s → get_or s 0 0 ≢ 32) → Stops after_text m s 0
tail_stop zero s more gap = tail_more s (more refl)
tail_stop (suc m) s more gap = tail_space (suc m) s (omega arith) (gap (omega arith))

pub tail_ok : (s : List ℕ) (es : List ℕ) → 0 < length s → get_or s 0 0 ≡ 32 → 0 < length es → Spells row_text (take (length s - 1) (drop 1 s)) es → Spells after_text s es
tail_ok [] es h a n sp = absurd (omega arith)
tail_ok (x ∷ s) [] h a n sp = absurd (omega arith)
tail_ok (x ∷ s) (e ∷ es) h a n sp = record {
  spelled = λ i. a i ∷ (sym (take_rest (x ∷ s) 1) ∙ sp.spelled) i;
  writable = sp.writable;
}

-- after the space
module _ (m : ℕ) (s : List ℕ) (k : ℕ) (h : 0 < m) (t : Stops row_text m s k) where
  after_good : (es : List ℕ) (u : List ℕ) → length es ≡ m → Spells row_text (take k s ++ u) es → Begins after_text m (take (suc k) (32 ∷ s))
  after_good [] u n sp = absurd (omega arith)
  after_good (e ∷ es) u n sp = (e ∷ es, u, n, record { spelled = ap (λ l. 32 ∷ l) sp.spelled; writable = sp.writable })

  after_bad : (j : ℕ) → suc k < j → j ≤ length (32 ∷ s) → (es : List ℕ) (u : List ℕ) → length es ≡ m → Spells after_text (take j (32 ∷ s) ++ u) es → ⊥
  after_bad zero lt le es u n sp = omega arith
  after_bad (suc j) lt le [] u n sp = omega arith
  after_bad (suc j) lt le (e ∷ es) u n sp =
      t.bad j (omega arith) (omega arith) (e ∷ es, u, n, record { spelled = tail-eq_of_cons-eq sp.spelled; writable = sp.writable })

  after_wrong : (es : List ℕ) → length es ≡ m → Spells after_text (32 ∷ s) es → ⊥
  after_wrong [] n sp = omega arith
  after_wrong (e ∷ es) n sp = t.wrong (e ∷ es) n (record { spelled = tail-eq_of_cons-eq sp.spelled; writable = sp.writable })

  after_space : Stops after_text m (32 ∷ s) (suc k)
  after_space = record {
    within = omega (arith, t.within);
    good = after_good t.good.0 t.good.1 t.good.2 t.good.3;
    bad = λ j lt le b. after_bad j lt le b.0 b.1 b.2 b.3;
    wrong = after_wrong;
  }

pub tail_err : (m : ℕ) (s : List ℕ) (k : ℕ) → 0 < m → 0 < length s → get_or s 0 0 ≡ 32 → Stops row_text m (take (length s - 1) (drop 1 s)) k → Stops after_text m s (1 + k)
tail_err m [] k h g a t = absurd (omega arith)
tail_err m (x ∷ s) k h g a t =
    let at : suc k ≡ 1 + k = omega arith in
    let b : Stops row_text m s k = subst (λ l. Stops row_text m l k) (take_rest (x ∷ s) 1) t in
    subst (λ n. Stops after_text m (x ∷ s) n) at (subst (λ y. Stops after_text m (y ∷ s) (suc k)) (sym a) (after_space m s k h b))

pub part_length : (xs : List ℕ) (e : ℕ) → length (take (length (set xs 0 e) - 1) (drop 1 (set xs 0 e))) ≡ length xs - 1
part_length xs e = ap length (take_rest (set xs 0 e) 1) ∙ length-drop 1 (set xs 0 e) ∙ ap (λ n. n - 1) (length-set xs 0 e)
