-- What calls over words answer, as the answers of jobs.
use Rattle.std.proofs.Common.{◌≡◌, ℕ, List, length, drop, take, string_bytes, Ok, Err, Result, String, refl, sym, ap, ◌∙◌, subst, arith}
use Rattle.std.specs.Result.{IsErrAnd}
use Rattle.std.proofs.lemmas.List.{take_at}
use Rattle.coxeter.specs.Moves.{Word}
use Rattle.carriers.specs.Frames.{Frame}
use Rattle.words.specs.Outcomes.{DescentsTold, Measured, Passed, Refused, Written}
use Rattle.words.specs.declared.descents.Descents.{Descents}
use Rattle.words.specs.declared.faults.WordFault.{WordFault}
use Rattle.words.specs.declared.faults.WordFault.TheVariants.{Short, TooLong, Letter, Reach}
use Rattle.answers.specs.Texts.{DescentsAnswer, form_text, number_text}
use Rattle.jobs.specs.WordJobs.{DescentsJob, FormJob, NumberJob}
use Rattle.jobs.specs.Answering.{Answered, ByWord}
use Rattle.jobs.specs.declared.errors.JobError.{JobError}
use Rattle.jobs.specs.declared.errors.JobError.TheVariants as error
use Rattle.jobs.specs.declared.faults.JobFault.TheVariants as fault

-- a word's fault that a `?` hands on
refused_by_word : {Z : Type 0} (P : Result (String Z) WordFault → Type 0) (r : Result (String Z) JobError) (e : WordFault) → IsErrAnd r (λ x. x ≡ error.Refused (fault.Word e)) → P (Err e) → Answered (ByWord P) r
refused_by_word P (Ok x) e is p = absurd is
refused_by_word P (Err x) e is p =
    subst (λ y. Answered (ByWord P) (Err y)) (sym is) (record { answer = Err e; told = p; same = refl })

refused_form : (f : Frame) (w : Word) (before after : List ℕ) (e : WordFault) → length before ≡ 4096 → Written f w before after (Err e) → Refused f w e
refused_form f w before after Short room x = omega (arith, room, x.wrote.0)
refused_form f w before after TooLong room x = x.wrote.1
refused_form f w before after (Letter k) room x = x.wrote.1
refused_form f w before after (Reach k) room x = x.wrote.1

-- the job of a call that writes a form into 4,096 bytes, where the call refuses, and where it answers
pub form_refused : {Z : Type 0} {f : Frame} {v w : Word} {before after : List ℕ} {e : WordFault} (key : List ℕ) (r : Result (String Z) JobError) → v ≡ w → length before ≡ 4096 → Written f v before after (Err e) → IsErrAnd r (λ x. x ≡ error.Refused (fault.Word e)) → Answered (ByWord (FormJob key f w)) r
form_refused {f = f} {v = v} {before = before} {after = after} {e = e} key r word room x is =
    refused_by_word (FormJob key f _) r e is (subst (λ u. Refused f u e) word (refused_form f v before after e room x))

-- the line of the buffer's front is the line of the form
pub form_line_lem : {f : Frame} {w : Word} {before after : List ℕ} {n : ℕ} (key text : List ℕ) → Written f w before after (Ok n) → text ≡ form_text key (take n after) → (h : Word) × Passed f w h × (text ≡ form_text key h)
form_line_lem {before = before} {n = n} key text x told =
    let y = x.wrote in
    (y.0, y.2, told ∙ ap (form_text key) (ap (take n) y.4 ∙ take_at y.0 (drop n before) n (sym y.3)))

pub form_answered : {Z : Type 0} {f : Frame} {v w : Word} {before after : List ℕ} {n : ℕ} {s : String Z} (key : List ℕ) → v ≡ w → Written f v before after (Ok n) → string_bytes s ≡ form_text key (take n after) → ByWord (FormJob key f w) (Ok s)
form_answered {f = f} {s = s} key word x text =
    subst (λ u. ByWord (FormJob key f u) (Ok s)) word (record { answer = Ok s; told = form_line_lem key (string_bytes s) x text; same = refl })

-- the job of a call that counts the letters of a form
pub number_refused : {Z : Type 0} {f : Frame} {v w : Word} {e : WordFault} (key : List ℕ) (r : Result (String Z) JobError) → v ≡ w → Measured f v (Err e) → IsErrAnd r (λ x. x ≡ error.Refused (fault.Word e)) → Answered (ByWord (NumberJob key f w)) r
number_refused {f = f} {e = e} key r word x is =
    refused_by_word (NumberJob key f _) r e is (subst (λ u. Refused f u e) word x.sized)

pub number_answered : {Z : Type 0} {f : Frame} {v w : Word} {n : ℕ} {s : String Z} (key : List ℕ) → v ≡ w → Measured f v (Ok n) → string_bytes s ≡ number_text key n → ByWord (NumberJob key f w) (Ok s)
number_answered {f = f} {s = s} key word x text =
    let y = x.sized in
    subst (λ u. ByWord (NumberJob key f u) (Ok s)) word (record { answer = Ok s; told = (y.0, y.1, text ∙ ap (number_text key) y.2); same = refl })

-- the job of a call that answers the letters that descend
pub descents_refused : {Z : Type 0} {f : Frame} {v w : Word} {e : WordFault} (r : Result (String Z) JobError) → v ≡ w → DescentsTold f v (Err e) → IsErrAnd r (λ x. x ≡ error.Refused (fault.Word e)) → Answered (ByWord (DescentsJob f w)) r
descents_refused {f = f} {e = e} r word x is =
    refused_by_word (DescentsJob f _) r e is (subst (λ u. DescentsTold f u (Err e)) word x)

pub descents_answered : {Z : Type 0} {f : Frame} {v w : Word} {d : Descents} {s : String Z} → v ≡ w → DescentsTold f v (Ok d) → DescentsAnswer d.bits (string_bytes s) → ByWord (DescentsJob f w) (Ok s)
descents_answered {f = f} {d = d} {s = s} word x text =
    subst (λ u. ByWord (DescentsJob f u) (Ok s)) word (record { answer = Ok s; told = (d, x, text); same = refl })
