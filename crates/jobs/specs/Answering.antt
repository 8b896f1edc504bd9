-- The answer to a job: f is the carrier's frame.
use Rattle.std.specs.Prelude.{◌≡◌, ℕ, ◌⊎◌, List, ◌++◌, map, reverse, Ok, Err, codes, Result, String}
use Rattle.std.specs.Borrow.{Bor}
use Rattle.carriers.specs.Frames.{Frame}
use Rattle.carriers.specs.Carriers.{BroughtHome}
use Rattle.lines.specs.Letters.{letter_of}
use Rattle.lines.specs.Lines.{Reads, NoReading}
use Rattle.lines.specs.declared.faults.LineFault.TheVariants.{Unexpected}
use Rattle.lines.specs.declared.line.Due.TheVariants as due
use Rattle.lines.specs.declared.line.Job.{Job}
use Rattle.lines.specs.declared.line.Job.TheVariants as job
use Rattle.lines.specs.declared.line.Line.TheVariants as line
use Rattle.words.specs.declared.faults.WordFault.{WordFault}
use Rattle.coxeter.specs.Moves.{Word}
use Rattle.jobs.specs.WordJobs.{DescentsJob, FormJob, NumberJob}
use Rattle.jobs.specs.declared.faults.JobFault.{JobFault}
use Rattle.jobs.specs.declared.faults.JobFault.TheVariants as fault
use Rattle.jobs.specs.declared.errors.JobError.{JobError}
use Rattle.jobs.specs.declared.errors.JobError.TheVariants.{Refused, Memory}

-- the letters of a word that stands in the input
abbrev pub letters : Bor (List ℕ) → Word
letters w = map letter_of w.now

-- the answer of a call over words, as a job's
abbrev pub as_job : {S : Type 0} → Result S WordFault → Result S JobFault
as_job (Ok s) = Ok s
as_job (Err e) = Err (fault.Word e)

-- r is the answer of a call over words that answers as P says
pub record ByWord {Z : Type 0} (P : Result (String Z) WordFault → Type 0) (r : Result (String Z) JobFault) : Type 0 where
  pub answer : Result (String Z) WordFault
  pub told : P answer
  pub same : r ≡ as_job answer

-- P holds of the answer, a text or a fault; nothing is said where memory ran out
abbrev pub Answered : {S : Type 0} → (Result S JobFault → Type 0) → Result S JobError → Type 0
Answered P (Ok s) = P (Ok s)
Answered P (Err (Refused e)) = P (Err e)
Answered P (Err (Memory e)) = Unit {0}

-- y is the carrier x after a job with the answer r: brought home by the call over its word, untouched where the line is refused; where memory ran out, one of the two
abbrev pub Leaves : {X S : Type 0} → (X → Frame) → (X → Word → Type 0) → X → X → Result S JobError → Type 0
Leaves frame at x y (Ok s) = BroughtHome frame at x y
Leaves frame at x y (Err (Refused (fault.Word e))) = BroughtHome frame at x y
Leaves frame at x y (Err (Refused (fault.Line e))) = y ≡ x
Leaves frame at x y (Err (Memory e)) = BroughtHome frame at x y ⊎ (y ≡ x)

-- r is the answer to a job; one whose call is not there yet is refused as a line that is not due
abbrev pub JobAnswer : {Z : Type 0} → Frame → Job → Result (String Z) JobFault → Type 0
JobAnswer f (job.Form w) r = ByWord (FormJob (codes "form") f (letters w)) r
JobAnswer f (job.Inverse w) r = ByWord (FormJob (codes "inverse") f (reverse (letters w))) r
JobAnswer f (job.Length w) r = ByWord (NumberJob (codes "length") f (letters w)) r
JobAnswer f (job.Descents w) r = ByWord (DescentsJob f (letters w)) r
JobAnswer f (job.Product u w) r = ByWord (FormJob (codes "product") f (letters u ++ letters w)) r
JobAnswer f (job.Distance u w) r = ByWord (NumberJob (codes "distance") f (reverse (letters u) ++ letters w)) r
JobAnswer f (job.File w) r = r ≡ Err (fault.Line Unexpected)
JobAnswer f (job.Withdraw w) r = r ≡ Err (fault.Line Unexpected)
JobAnswer f (job.Tally w) r = r ≡ Err (fault.Line Unexpected)
JobAnswer f job.Sum r = r ≡ Err (fault.Line Unexpected)

-- r is the answer to a job's line: to the job that it spells, or that it spells none
abbrev pub LineAnswer : {Z : Type 0} → Frame → List ℕ → Result (String Z) JobFault → Type 0
LineAnswer f bs r = ((j : Job) × Reads due.Job bs (line.Job j) × JobAnswer f j r) ⊎ (NoReading due.Job bs × (r ≡ Err (fault.Line Unexpected)))
