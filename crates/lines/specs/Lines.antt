-- How the lines are written, and where each is due.
use Rattle.std.specs.Prelude.{◌≡◌, ℕ, ◌+◌, ◌≤◌, List, [], ◌∷◌, codes}
use Rattle.lines.specs.Cuts.{Cut}
use Rattle.lines.specs.Words.{OneWord, TwoWords}
use Rattle.lines.specs.declared.line.Due.{Due}
use Rattle.lines.specs.declared.line.Due.TheVariants as due
use Rattle.lines.specs.declared.line.Job.{Job}
use Rattle.lines.specs.declared.line.Job.TheVariants as job
use Rattle.lines.specs.declared.line.Line.{Line}
use Rattle.lines.specs.declared.line.Line.TheVariants as line

-- the job that the key k and the value v spell
abbrev pub IsJob : List ℕ → List ℕ → Job → Type 0
IsJob k v (job.Form w) = (k ≡ codes "form") × OneWord v w.now
IsJob k v (job.Inverse w) = (k ≡ codes "inverse") × OneWord v w.now
IsJob k v (job.Length w) = (k ≡ codes "length") × OneWord v w.now
IsJob k v (job.Descents w) = (k ≡ codes "descents") × OneWord v w.now
IsJob k v (job.File w) = (k ≡ codes "file") × OneWord v w.now
IsJob k v (job.Withdraw w) = (k ≡ codes "withdraw") × OneWord v w.now
IsJob k v (job.Tally w) = (k ≡ codes "tally") × OneWord v w.now
IsJob k v (job.Product u w) = (k ≡ codes "product") × TwoWords v u.now w.now
IsJob k v (job.Distance u w) = (k ≡ codes "distance") × TwoWords v u.now w.now
IsJob k v job.Sum = (k ≡ codes "sum") × (v ≡ [])

-- the key and the value spell no job
abbrev pub NoJob : List ℕ → List ℕ → Type 0
NoJob k v = (j : Job) → IsJob k v j → ⊥

-- the key of row n: row, and the digit of n
abbrev pub row_key_bytes : ℕ → List ℕ
row_key_bytes n = 114 ∷ 111 ∷ 119 ∷ (48 + n) ∷ []

-- the line that the key k and the value v spell where d is due
abbrev pub IsLine : Due → List ℕ → List ℕ → Line → Type 0
IsLine d k v (line.Rank w) = (d ≡ due.Rank) × (k ≡ codes "rank") × (w.now ≡ v)
IsLine d k v (line.Row n w) = (d ≡ due.Row n) × (1 ≤ n) × (n ≤ 8) × (k ≡ row_key_bytes n) × (w.now ≡ v)
IsLine d k v (line.Kind w) = (d ≡ due.Kind) × (k ≡ codes "kind") × (w.now ≡ v)
IsLine d k v (line.Job j) = (d ≡ due.Job) × IsJob k v j

-- the key and the value spell no line that is due
abbrev pub NoLine : Due → List ℕ → List ℕ → Type 0
NoLine d k v = (l : Line) → IsLine d k v l → ⊥

-- the bytes are the line l, which is due at d: its key, the first =, and its value
pub record Reads (d : Due) (bs : List ℕ) (l : Line) : Type 0 where
  pub key : List ℕ
  pub value : List ℕ
  pub cut : Cut 61 bs key value
  pub is : IsLine d key value l

-- no line that is due at d is written so
abbrev pub NoReading : Due → List ℕ → Type 0
NoReading d bs = (l : Line) → Reads d bs l → ⊥
