-- What a call over a word answers, by the carrier's frame and the word formed alone.
use Rattle.std.specs.Prelude.{◌≡◌, ℕ, ◌+◌, ◌-◌, ◌<◌, ◌≤◌, min, Bool, true, false, ◌⊎◌, List, ◌++◌, length, take, drop, Ok, Err, Result, slice_index}
use Rattle.coxeter.specs.Groups.{Matrix, Letter}
use Rattle.coxeter.specs.Moves.{Word, Letters}
use Rattle.coxeter.specs.Points.{Form}
use Rattle.carriers.specs.Frames.{Frame}
use Rattle.words.specs.Sets.{Descending}
use Rattle.words.specs.declared.faults.WordFault.{WordFault}
use Rattle.words.specs.declared.faults.WordFault.TheVariants.{Short, TooLong, Letter as NoLetter, Reach as OutOfReach}
use Rattle.words.specs.declared.descents.Descents.{Descents}

-- every prefix of at most k letters is in reach
abbrev pub Prefixes : (Word → Bool) → Word → ℕ → Type 0
Prefixes reach w k = (i : ℕ) → i ≤ k → reach (take i w) ≡ true

-- k is the least index whose letter is none of the group's
pub record Misread (g : Matrix) (w : Word) (k : ℕ) : Type 0 where
  pub below : k < length w
  pub outside : ¬ Letter g (slice_index w k)
  pub first : (i : ℕ) → i < k → Letter g (slice_index w i)

-- every prefix of at most k letters is in reach, that of k + 1 letters is not
pub record Overstepped (f : Frame) (w : Word) (k : ℕ) : Type 0 where
  pub letters : Letters f.group w
  pub below : k < length w
  pub entered : Prefixes f.reach w k
  pub beyond : f.reach (take (k + 1) w) ≡ false

-- w has at most 4,096 letters, all of them the group's, and every prefix of it is in reach
pub record Entered (f : Frame) (w : Word) : Type 0 where
  pub few : length w ≤ 4096
  pub letters : Letters f.group w
  pub prefixes : Prefixes f.reach w (length w)

-- why w is not entered; the checks run in this order: its length, its letters, its prefixes
abbrev pub Barred : Frame → Word → WordFault → Type 0
Barred f w Short = ⊥
Barred f w TooLong = 4096 < length w
Barred f w (NoLetter k) = (length w ≤ 4096) × Misread f.group w k
Barred f w (OutOfReach k) = (length w ≤ 4096) × Overstepped f w k

-- on the way down: the form's prefixes of all its letters, of one less, .., of j less are in reach, the next shorter is not
pub record Stranded (f : Frame) (w : Word) (j : ℕ) : Type 0 where
  pub entered : Entered f w
  pub form : Word
  pub formed : Form f.group w form
  pub below : j < length form
  pub held : (i : ℕ) → i ≤ j → f.reach (take (length form - i) form) ≡ true
  pub beyond : f.reach (take (length form - j - 1) form) ≡ false

-- all the way up and down: h is the form of w, and every prefix of both is in reach
pub record Passed (f : Frame) (w h : Word) : Type 0 where
  pub entered : Entered f w
  pub formed : Form f.group w h
  pub held : Prefixes f.reach h (length h)

-- why the form of w is not given: w is barred, or the way down leaves the reach after j letters
abbrev pub Refused : Frame → Word → WordFault → Type 0
Refused f w Short = ⊥
Refused f w TooLong = Barred f w TooLong
Refused f w (NoLetter k) = Barred f w (NoLetter k)
Refused f w (OutOfReach k) = Barred f w (OutOfReach k) ⊎ ((j : ℕ) × (k ≡ length w + j) × Stranded f w j)

-- the answer is the letter count of the form
abbrev pub Sized : Frame → Word → Result ℕ WordFault → Type 0
Sized f w (Ok n) = (h : Word) × Passed f w h × (n ≡ length h)
Sized f w (Err e) = Refused f w e

-- r is the answer of a call that counts the letters of the form
pub record Measured (f : Frame) (w : Word) (r : Result ℕ WordFault) : Type 0 where
  pub sized : Sized f w r

-- the buffer is as long as the word formed, or 4,096 bytes long
abbrev pub Roomy : Word → List ℕ → Type 0
Roomy w buffer = min (length w) 4096 ≤ length buffer

-- the form stands at the front of the buffer, and later bytes are as they were; a refusal leaves the whole buffer as it was
abbrev pub Wrote : Frame → Word → List ℕ → List ℕ → Result ℕ WordFault → Type 0
Wrote f w before after (Ok n) = (h : Word) × Roomy w before × Passed f w h × (n ≡ length h) × (after ≡ h ++ drop n before)
Wrote f w before after (Err Short) = (length before < min (length w) 4096) × (after ≡ before)
Wrote f w before after (Err TooLong) = Roomy w before × Refused f w TooLong × (after ≡ before)
Wrote f w before after (Err (NoLetter k)) = Roomy w before × Refused f w (NoLetter k) × (after ≡ before)
Wrote f w before after (Err (OutOfReach k)) = Roomy w before × Refused f w (OutOfReach k) × (after ≡ before)

-- r is the answer of a call that writes the form, and `after` the buffer behind it
pub record Written (f : Frame) (w : Word) (before after : List ℕ) (r : Result ℕ WordFault) : Type 0 where
  pub wrote : Wrote f w before after r

-- the answer of descents: the letters that descend at the element of w
abbrev pub AnswersDescents : Frame → Word → Result Descents WordFault → Type 0
AnswersDescents f w (Ok d) = Entered f w × Descending f.group w d.bits
AnswersDescents f w (Err e) = Barred f w e

-- r is the answer of descents
pub record DescentsTold (f : Frame) (w : Word) (r : Result Descents WordFault) : Type 0 where
  pub told : AnswersDescents f w r
