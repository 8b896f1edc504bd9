-- A call's answer is determined by the frame and the word.
use Rattle.std.proofs.Common.{◌≡◌, ℕ, ◌+◌, ◌<◌, ◌⊎◌, length, take, Ok, Err, Result, refl, ap, inl, inr, arith}
use Rattle.std.proofs.lemmas.Bool.{cases_order, both_ways}
use Rattle.std.proofs.lemmas.Bool.Decides.{same_from_decides}
use Rattle.coxeter.specs.Groups.{Matrix}
use Rattle.coxeter.specs.Moves.{Word, Letters}
use Rattle.carriers.specs.Frames.{Frame}
use Rattle.words.specs.declared.faults.WordFault.{WordFault}
use Rattle.words.specs.declared.faults.WordFault.TheVariants.{Short, TooLong, Letter as NoLetter, Reach as OutOfReach}
use Rattle.words.specs.declared.descents.Descents.{Descents}
use Rattle.words.specs.Sets.{has, Descending}
use Rattle.words.specs.Outcomes.{Prefixes, Misread, Overstepped, Entered, Barred, AnswersDescents}
use Rattle.words.specs.Theorems.{DescentsAreDetermined}
use Rattle.words.proofs.Ways.{letters_at}
use Rattle.words.proofs.Bits.{same_letters}

letters_misread : (g : Matrix) (w : Word) (k : ℕ) → Letters g w → Misread g w k → ⊥
letters_misread g w k l m = m.outside (letters_at g w k l m.below)

-- of two numbers of which neither is below the other
pub one_of : (i k : ℕ) → (i < k → ⊥) → (k < i → ⊥) → i ≡ k
one_of i k f h = by (cases_order i k)
  where
    by : (i ≡ k) ⊎ ((i < k) ⊎ (k < i)) → i ≡ k
    by (inl e) = e
    by (inr (inl d)) = absurd (f d)
    by (inr (inr d)) = absurd (h d)

misread_one : (g : Matrix) (w : Word) (i k : ℕ) → Misread g w i → Misread g w k → i ≡ k
misread_one g w i k m n = one_of i k (λ d. m.outside (n.first i d)) (λ d. n.outside (m.first k d))

overstepped_below : (f : Frame) (w : Word) (i n : ℕ) → Overstepped f w i → Prefixes f.reach w n → i < n → ⊥
overstepped_below f w i n m p d = both_ways (f.reach (take (i + 1) w)) m.beyond (p (i + 1) (omega arith))

overstepped_one : (f : Frame) (w : Word) (i k : ℕ) → Overstepped f w i → Overstepped f w k → i ≡ k
overstepped_one f w i k m n = one_of i k (overstepped_below f w i k m n.entered) (overstepped_below f w k i n m.entered)

-- a word that is entered is not barred, and it is barred for one reason
pub entered_barred : (f : Frame) (w : Word) (e : WordFault) → Entered f w → Barred f w e → ⊥
entered_barred f w Short p r = r
entered_barred f w TooLong p r = let l = p.few in omega arith
entered_barred f w (NoLetter k) p r = letters_misread f.group w k p.letters r.1
entered_barred f w (OutOfReach k) p r = overstepped_below f w k (length w) r.1 p.prefixes r.1.below

pub barred_one : (f : Frame) (w : Word) (x y : WordFault) → Barred f w x → Barred f w y → x ≡ y
barred_one f w Short y r q = absurd r
barred_one f w TooLong Short r q = absurd q
barred_one f w TooLong TooLong r q = refl
barred_one f w TooLong (NoLetter k) r q = let a = q.0 in absurd (omega arith)
barred_one f w TooLong (OutOfReach k) r q = let a = q.0 in absurd (omega arith)
barred_one f w (NoLetter i) Short r q = absurd q
barred_one f w (NoLetter i) TooLong r q = let a = r.0 in absurd (omega arith)
barred_one f w (NoLetter i) (NoLetter k) r q = ap NoLetter (misread_one f.group w i k r.1 q.1)
barred_one f w (NoLetter i) (OutOfReach k) r q = absurd (letters_misread f.group w i q.1.letters r.1)
barred_one f w (OutOfReach i) Short r q = absurd q
barred_one f w (OutOfReach i) TooLong r q = let a = r.0 in absurd (omega arith)
barred_one f w (OutOfReach i) (NoLetter k) r q = absurd (letters_misread f.group w k r.1.letters q.1)
barred_one f w (OutOfReach i) (OutOfReach k) r q = ap OutOfReach (overstepped_one f w i k r.1 q.1)

-- the set of the descending letters is one byte
pub descending_one : (g : Matrix) (w : Word) (d e : Descents) → Descending g w d.bits → Descending g w e.bits → d ≡ e
descending_one g w d e h k =
    let p : d.bits ≡ e.bits = same_letters d.bits e.bits h.byte k.byte (λ s i j. same_from_decides (has d.bits s) (has e.bits s) (h.exactly s i j) (k.exactly s i j)) in
    λ i. record { bits = p i }

answers_one : (f : Frame) (w : Word) (r s : Result Descents WordFault) → AnswersDescents f w r → AnswersDescents f w s → r ≡ s
answers_one f w (Ok d) (Ok e) h k = ap Ok (descending_one f.group w d e h.1 k.1)
answers_one f w (Ok d) (Err y) h k = absurd (entered_barred f w y h.0 k)
answers_one f w (Err x) (Ok e) h k = absurd (entered_barred f w x k.0 h)
answers_one f w (Err x) (Err y) h k = ap Err (barred_one f w x y h k)

pub descents_determined : DescentsAreDetermined
descents_determined f w r s h k = answers_one f w r s h.told k.told
