-- Values that are not two words, and keys and values that spell no job.
use Rattle.std.proofs.Common.{◌≡◌, ℕ, List, [], codes, refl, subst, sym, ◌∙◌}
use Rattle.lines.specs.Cuts.{Cut, Free}
use Rattle.lines.specs.Words.{OneWord, TwoWords}
use Rattle.lines.specs.Lines.{NoJob}
use Rattle.lines.specs.declared.line.Job.TheVariants.{Form, Inverse, Length, Descents, File, Withdraw, Tally, Product, Distance, Sum}
use Rattle.lines.proofs.Cutting.{free_none, not_free, same_cut}

-- a value without a slash is not two words
pub no_slash : {v : List ℕ} → Free 47 v → (u w : List ℕ) → TwoWords v u w → ⊥
no_slash f u w h = not_free h.cut f

-- nor is one with more than one word behind its first slash
pub no_second : {v front back : List ℕ} → Cut 47 v front back → ((w : List ℕ) → OneWord back w → ⊥) → (u w : List ℕ) → TwoWords v u w → ⊥
no_second c none u w h = none _ (record { whole = refl; plain = subst (Free 47) (same_cut h.cut c).1 h.plain })

-- the empty value is one word
none_word : (v : List ℕ) → v ≡ [] → OneWord v v
none_word v e = subst (λ x. OneWord x x) (sym e) (record { whole = refl; plain = free_none 47 })

-- a value that is not one word, behind the key of another job than these two
pub no_one_word : {k v : List ℕ} (name : List ℕ) → k ≡ name → (name ≡ codes "product" → ⊥) → (name ≡ codes "distance" → ⊥) → ((w : List ℕ) → OneWord v w → ⊥) → NoJob k v
no_one_word name e p d none (Form w) i = none _ i.1
no_one_word name e p d none (Inverse w) i = none _ i.1
no_one_word name e p d none (Length w) i = none _ i.1
no_one_word name e p d none (Descents w) i = none _ i.1
no_one_word name e p d none (File w) i = none _ i.1
no_one_word name e p d none (Withdraw w) i = none _ i.1
no_one_word name e p d none (Tally w) i = none _ i.1
no_one_word name e p d none (Product u w) i = p (sym e ∙ i.0)
no_one_word name e p d none (Distance u w) i = d (sym e ∙ i.0)
no_one_word name e p d none Sum i = none _ (none_word _ i.1)

-- a key that is that of no job of one word
pub no_job : {k v : List ℕ} → (k ≡ codes "form" → ⊥) → (k ≡ codes "inverse" → ⊥) → (k ≡ codes "length" → ⊥) → (k ≡ codes "descents" → ⊥) → (k ≡ codes "file" → ⊥) → (k ≡ codes "withdraw" → ⊥) → (k ≡ codes "tally" → ⊥) → (k ≡ codes "product" → (u w : List ℕ) → TwoWords v u w → ⊥) → (k ≡ codes "distance" → (u w : List ℕ) → TwoWords v u w → ⊥) → (k ≡ codes "sum" → v ≡ [] → ⊥) → NoJob k v
no_job a b c d e f g p q s (Form w) i = a i.0
no_job a b c d e f g p q s (Inverse w) i = b i.0
no_job a b c d e f g p q s (Length w) i = c i.0
no_job a b c d e f g p q s (Descents w) i = d i.0
no_job a b c d e f g p q s (File w) i = e i.0
no_job a b c d e f g p q s (Withdraw w) i = f i.0
no_job a b c d e f g p q s (Tally w) i = g i.0
no_job a b c d e f g p q s (Product u w) i = p i.0 _ _ i.1
no_job a b c d e f g p q s (Distance u w) i = q i.0 _ _ i.1
no_job a b c d e f g p q s Sum i = s i.0 i.1
