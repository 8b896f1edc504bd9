-- Laws of reading: the relations of the contracts leave one answer.
use Rattle.std.specs.Prelude.{◌≡◌, ℕ, List, [], ◌∷◌, codes}
use Rattle.lines.specs.Places.{LineAt}
use Rattle.lines.specs.Lines.{Reads, row_key_bytes}
use Rattle.lines.specs.declared.line.Due.{Due}
use Rattle.lines.specs.declared.line.Job.{Job}
use Rattle.lines.specs.declared.line.Job.TheVariants as job
use Rattle.lines.specs.declared.line.Line.{Line}
use Rattle.lines.specs.declared.line.Line.TheVariants as line

-- a job's key and its words; the value of sum is the empty word
abbrev pub job_parts : Job → List (List ℕ)
job_parts (job.Form w) = codes "form" ∷ w.now ∷ []
job_parts (job.Inverse w) = codes "inverse" ∷ w.now ∷ []
job_parts (job.Length w) = codes "length" ∷ w.now ∷ []
job_parts (job.Descents w) = codes "descents" ∷ w.now ∷ []
job_parts (job.File w) = codes "file" ∷ w.now ∷ []
job_parts (job.Withdraw w) = codes "withdraw" ∷ w.now ∷ []
job_parts (job.Tally w) = codes "tally" ∷ w.now ∷ []
job_parts (job.Product u w) = codes "product" ∷ u.now ∷ w.now ∷ []
job_parts (job.Distance u w) = codes "distance" ∷ u.now ∷ w.now ∷ []
job_parts job.Sum = codes "sum" ∷ [] ∷ []

-- a line's key, and its value or its words
abbrev pub line_parts : Line → List (List ℕ)
line_parts (line.Rank w) = codes "rank" ∷ w.now ∷ []
line_parts (line.Row n w) = row_key_bytes n ∷ w.now ∷ []
line_parts (line.Kind w) = codes "kind" ∷ w.now ∷ []
line_parts (line.Job j) = job_parts j

-- an input has one line at most of each number
abbrev pub OneLine : Type 0
OneLine = (input : List ℕ) (n : ℕ) (a b : List ℕ) → LineAt input n a → LineAt input n b → a ≡ b

-- where a line is due, bytes are read in one way at most: one key, the same words
abbrev pub OneReading : Type 0
OneReading = (d : Due) (bs : List ℕ) (l m : Line) → Reads d bs l → Reads d bs m → line_parts l ≡ line_parts m
