-- The laws of a carrier hold of every chamber and of every one-line notation.
use Rattle.std.proofs.Common.{◌≡◌, ℕ, zero, suc, ◌-◌, ◌<◌, ◌≤◌, Bool, true, ◌&&◌, leb, List, [], ◌∷◌, map, length, get_or, pos, sym, refl, ◌∙◌, subst, ⊎_elim, arith}
use Rattle.std.proofs.lemmas.Bool.{and_parts, and_from, le-leb, leb-true, cases_eq}
use Rattle.coxeter.specs.declared.group.Group.{Group}
use Rattle.coxeter.specs.Numbers.{Exact, integer}
use Rattle.coxeter.specs.Groups.{Matrix, Lawful, Letter, rank}
use Rattle.coxeter.specs.Moves.{Word, Letters, Joined}
use Rattle.coxeter.specs.Points.{Point, start, point}
use Rattle.coxeter.specs.Matrices.{matrix}
use Rattle.coxeter.proofs.Matrices.{cut_rank, lawful_of}
use Rattle.coxeter.proofs.Joining.{join_letters}
use Rattle.coxeter.proofs.Forms.{joined_words_meet_lem, points_decide}
use Rattle.carriers.specs.Rows.{nought, numbers, all_fit, letters_test, fitting, Shows, fitting_frame, full_frame}
use Rattle.carriers.specs.Lines.{gaps, Stands}
use Rattle.carriers.specs.Carriers.{Laws}

pub letters_tested : (g : Matrix) (w : Word) → Letters g w → letters_test g w ≡ true
letters_tested g [] h = refl
letters_tested g (s ∷ w) h = let a = le-leb 1 s h.0.from_one in let b = le-leb s (rank g) h.0.to_rank in let c = letters_tested g w h.1 in simp (a, b, c)

pub letters_from : (g : Matrix) (w : Word) → letters_test g w ≡ true → Letters g w
letters_from g [] h = tt
letters_from g (s ∷ w) h =
    let p = and_parts (leb 1 s && leb s (rank g)) (letters_test g w) h in
    let q = and_parts (leb 1 s) (leb s (rank g)) p.0 in
    (record { from_one = leb-true 1 s q.0; to_rank = leb-true s (rank g) q.1 }, letters_from g w p.1)

pub all_fit_from : (fits : Exact → Bool) (v : Point) (n : ℕ) → ((a : ℕ) → 1 ≤ a → a ≤ n → fits (v a) ≡ true) → all_fit fits v n ≡ true
all_fit_from fits v zero h = refl
all_fit_from fits v (suc n) h = and_from (fits (v (suc n))) (all_fit fits v n) (h (suc n) (omega arith) (omega arith)) (all_fit_from fits v n (λ a i j. h a i (omega arith)))

pub all_fit_at : (fits : Exact → Bool) (v : Point) (n a : ℕ) → 1 ≤ a → a ≤ n → all_fit fits v n ≡ true → fits (v a) ≡ true
all_fit_at fits v zero a h k e = absurd (omega arith)
all_fit_at fits v (suc n) a h k e =
    let p = and_parts (fits (v (suc n))) (all_fit fits v n) e in
    ⊎_elim (λ (q : a ≡ suc n). subst (λ b. fits (v b) ≡ true) (sym q) p.0) (λ q. all_fit_at fits v n a h (omega arith) p.1) (cases_eq a (suc n))

pub fitting_parts : (fits : Exact → Bool) (g : Matrix) (w : Word) → fitting fits g w ≡ true → Letters g w × (all_fit fits (point g w) (rank g) ≡ true)
fitting_parts fits g w h = let p = and_parts (letters_test g w) (all_fit fits (point g w) (rank g)) h in (letters_from g w p.0, p.1)

pub fitting_from : (fits : Exact → Bool) (g : Matrix) (w : Word) → Letters g w → ((a : ℕ) → Letter g a → fits (point g w a) ≡ true) → fitting fits g w ≡ true
fitting_from fits g w h k = and_from (letters_test g w) (all_fit fits (point g w) (rank g)) (letters_tested g w h) (all_fit_from fits (point g w) (rank g) (λ a i j. k a (record { from_one = i; to_rank = j })))

pub fitting_joined : (fits : Exact → Bool) (g : Matrix) (u v : Word) → Lawful g → Joined g u v → fitting fits g u ≡ true → fitting fits g v ≡ true
fitting_joined fits g u v l j h =
    let p = fitting_parts fits g u h in
    fitting_from fits g v (join_letters g j p.0) (λ a k. subst (λ z. fits z ≡ true) (joined_words_meet_lem g l u v j start a) (all_fit_at fits (point g u) (rank g) a k.from_one k.to_rank p.1))

pub shows_joined : (g : Matrix) (l : Point) (u v : Word) → Lawful g → Joined g u v → Shows g l u → Shows g l v
shows_joined g l u v f j h = record { letters = join_letters g j h.letters; shown = λ a k. h.shown a k ∙ joined_words_meet_lem g f u v j start a }

pub shows_one : (g : Matrix) (l : Point) (u v : Word) → Lawful g → Shows g l u → Shows g l v → Joined g u v
shows_one g l u v f h k = (points_decide g f u v h.letters k.letters).0 (λ a j. sym (h.shown a j) ∙ k.shown a j)

-- what holds of each number's value holds of each value of a row
pub all_values : {N : Type 0} (value : N → Exact) (d : Exact) (P : Exact → Type 0) → ((x : N) → P (value x)) → (row : List N) (i : ℕ) → i < length row → P (get_or (map value row) i d)
all_values value d P h [] i k = absurd (omega arith)
all_values value d P h (x ∷ row) zero k = h x
all_values value d P h (x ∷ row) (suc i) k = all_values value d P h row i (omega arith)

pub matrix_rank : (gr : Group) → rank (matrix gr) ≡ gr.rank
matrix_rank gr = cut_rank gr.rank gr.rows

pub full_laws : (gr : Group) (v : Point) → Laws (full_frame (matrix gr)) (λ w. Shows (matrix gr) v w)
full_laws gr v =
    let f : Lawful (matrix gr) = lawful_of (matrix gr) gr.lawful in
    record {
      lawful = f;
      letters = λ w h. letters_from (matrix gr) w h;
      identity = refl;
      reach_joined = λ u w j h. letters_tested (matrix gr) w (join_letters (matrix gr) j (letters_from (matrix gr) u h));
      within = λ w h. letters_tested (matrix gr) w h.letters;
      at_joined = λ u w j h. shows_joined (matrix gr) v u w f j h;
      one_element = λ u w h k. shows_one (matrix gr) v u w f h k;
    }

module _ {N : Type 0} (value : N → Exact) (gr : Group) (row : List N) (wide : gr.rank ≤ length row) where
  -- what stands in a row of numbers that fit is in reach
  pub shows_fitting : (fits : Exact → Bool) → ((x : N) → fits (value x) ≡ true) → (w : Word) → Shows (matrix gr) (numbers (map value row)) w → fitting fits (matrix gr) w ≡ true
  shows_fitting fits h w k =
      fitting_from fits (matrix gr) w k.letters
      (λ a j.
      let r = matrix_rank gr in let b = j.from_one in let c = j.to_rank in
      let i : a - 1 < length row = omega arith in
      subst (λ z. fits z ≡ true) (k.shown a j) (all_values value nought (λ z. fits z ≡ true) h row (a - 1) i))

  pub chamber_laws : (fits : Exact → Bool) → fits (integer (pos 1)) ≡ true → ((n : N) → fits (value n) ≡ true)
      → Laws (fitting_frame fits (matrix gr)) (λ w. Shows (matrix gr) (numbers (map value row)) w)
  chamber_laws fits unit within =
      let f : Lawful (matrix gr) = lawful_of (matrix gr) gr.lawful in
      record {
        lawful = f;
        letters = λ w h. (fitting_parts fits (matrix gr) w h).0;
        identity = fitting_from fits (matrix gr) [] tt (λ a k. unit);
        reach_joined = λ u v j h. fitting_joined fits (matrix gr) u v f j h;
        within = λ w h. shows_fitting fits within w h;
        at_joined = λ u v j h. shows_joined (matrix gr) (numbers (map value row)) u v f j h;
        one_element = λ u v h k. shows_one (matrix gr) (numbers (map value row)) u v f h k;
      }

pub line_laws : (gr : Group) (row : List ℕ) → Laws (full_frame (matrix gr)) (λ w. Stands (matrix gr) row w)
line_laws gr row =
    let l = full_laws gr (gaps row) in
    record {
      lawful = l.lawful;
      letters = l.letters;
      identity = l.identity;
      reach_joined = l.reach_joined;
      within = λ w h. l.within w h.shows;
      at_joined = λ u w j h. record { arranged = h.arranged; shows = l.at_joined u w j h.shows };
      one_element = λ u w h k. l.one_element u w h.shows k.shows;
    }
