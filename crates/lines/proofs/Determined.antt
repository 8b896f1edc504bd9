-- Proofs of the laws of reading.
use Rattle.std.proofs.Common.{◌≡◌, ℕ, List, [], ◌∷◌, sym, refl, ◌∙◌, subst}
use Rattle.lines.specs.Cuts.{Free}
use Rattle.lines.specs.Words.{OneWord, TwoWords}
use Rattle.lines.specs.Lines.{IsJob, IsLine}
use Rattle.lines.specs.Laws.{OneReading, job_parts, line_parts}
use Rattle.lines.specs.declared.line.Due.{Due}
use Rattle.lines.specs.declared.line.Due.TheVariants as due
use Rattle.lines.specs.declared.line.Job.{Job}
use Rattle.lines.specs.declared.line.Job.TheVariants as job
use Rattle.lines.specs.declared.line.Line.{Line}
use Rattle.lines.specs.declared.line.Line.TheVariants as line
use Rattle.lines.proofs.Cutting.{free_none, not_free, same_cut}

-- ws are the words of the value v of a job
data Worded : List ℕ → List (List ℕ) → Type 0 where
  one : {v : List ℕ} → Free 47 v → Worded v (v ∷ [])
  two : {v u w : List ℕ} → TwoWords v u w → Worded v (u ∷ w ∷ [])

-- a value has one list of words
one_wording : {v : List ℕ} {ws xs : List (List ℕ)} → Worded v ws → Worded v xs → ws ≡ xs
one_wording (one f) (one g) = refl
one_wording (one f) (two t) = absurd (not_free t.cut f)
one_wording (two t) (one g) = absurd (not_free t.cut g)
one_wording (two t) (two s) = let e = same_cut t.cut s.cut in λ i. e.0 i ∷ e.1 i ∷ []

-- where d is due, ws are the parts of the value v behind the key
abbrev Behind : Due → List ℕ → List (List ℕ) → Type 0
Behind due.Rank v ws = ws ≡ v ∷ []
Behind (due.Row n) v ws = ws ≡ v ∷ []
Behind due.Kind v ws = ws ≡ v ∷ []
Behind due.Job v ws = Worded v ws

one_behind : (d : Due) (v : List ℕ) {ws xs : List (List ℕ)} → Behind d v ws → Behind d v xs → ws ≡ xs
one_behind due.Rank v p q = p ∙ sym q
one_behind (due.Row n) v p q = p ∙ sym q
one_behind due.Kind v p q = p ∙ sym q
one_behind due.Job v p q = one_wording p q

-- parts are the key k and the words of v
abbrev Told : List ℕ → List ℕ → List (List ℕ) → Type 0
Told k v parts = (ws : List (List ℕ)) × (parts ≡ k ∷ ws) × Worded v ws

of_one : {k key v w : List ℕ} → k ≡ key → OneWord v w → Told k v (key ∷ w ∷ [])
of_one {v = v} e h = (v ∷ [], (λ i. sym e i ∷ h.whole i ∷ []), one h.plain)

of_two : {k key v u w : List ℕ} → k ≡ key → TwoWords v u w → Told k v (key ∷ u ∷ w ∷ [])
of_two {u = u} {w = w} e h = (u ∷ w ∷ [], (λ i. sym e i ∷ u ∷ w ∷ []), two h)

job_told : (k v : List ℕ) (j : Job) → IsJob k v j → Told k v (job_parts j)
job_told k v (job.Form w) h = of_one h.0 h.1
job_told k v (job.Inverse w) h = of_one h.0 h.1
job_told k v (job.Length w) h = of_one h.0 h.1
job_told k v (job.Descents w) h = of_one h.0 h.1
job_told k v (job.File w) h = of_one h.0 h.1
job_told k v (job.Withdraw w) h = of_one h.0 h.1
job_told k v (job.Tally w) h = of_one h.0 h.1
job_told k v (job.Product u w) h = of_two h.0 h.1
job_told k v (job.Distance u w) h = of_two h.0 h.1
job_told k v job.Sum h = of_one h.0 (record { whole = sym h.1; plain = subst (Free 47) (sym h.1) (free_none 47) })

line_told : (d : Due) (k v : List ℕ) (l : Line) → IsLine d k v l → (ws : List (List ℕ)) × (line_parts l ≡ k ∷ ws) × Behind d v ws
line_told d k v (line.Rank w) h = (v ∷ [], (λ i. sym h.1 i ∷ h.2 i ∷ []), subst (λ x. Behind x v (v ∷ [])) (sym h.0) refl)
line_told d k v (line.Row n w) h = (v ∷ [], (λ i. sym h.3 i ∷ h.4 i ∷ []), subst (λ x. Behind x v (v ∷ [])) (sym h.0) refl)
line_told d k v (line.Kind w) h = (v ∷ [], (λ i. sym h.1 i ∷ h.2 i ∷ []), subst (λ x. Behind x v (v ∷ [])) (sym h.0) refl)
line_told d k v (line.Job j) h =
    let t = job_told k v j h.1 in
    (t.0, t.1, subst (λ x. Behind x v t.0) (sym h.0) t.2)

pub one_reading : OneReading
one_reading d bs l m r s =
    let same = same_cut r.cut s.cut in
    let t = line_told d r.key r.value l r.is in
    let u = line_told d s.key s.value m s.is in
    let words : t.0 ≡ u.0 = one_behind d s.value (subst (λ v. Behind d v t.0) same.1 t.2) u.2 in
    t.1 ∙ (λ i. same.0 i ∷ words i) ∙ sym u.1
