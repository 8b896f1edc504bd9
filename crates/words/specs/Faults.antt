-- The number and the place of each fault of a word call; the layer is that of words.
use Rattle.std.specs.Prelude.{ℕ}
use Rattle.refusals.specs.declared.layer.Layer.TheVariants.{Word}
use Rattle.refusals.specs.declared.report.Report.{Report}
use Rattle.words.specs.declared.faults.WordFault.{WordFault}
use Rattle.words.specs.declared.faults.WordFault.TheVariants.{Short, TooLong, Letter, Reach}

-- the number by which the refusal is known
abbrev pub word_number : WordFault → ℕ
word_number Short = 9
word_number TooLong = 8
word_number (Letter k) = 7
word_number (Reach k) = 11

-- the place: the limit where the word is too long, an index in the word formed, or what stands behind it
abbrev pub word_place : WordFault → ℕ
word_place Short = 0
word_place TooLong = 4096
word_place (Letter k) = k
word_place (Reach k) = k

-- what is reported of the refusal
abbrev pub word_report : WordFault → Report
word_report f = record { number = word_number f; place = word_place f; layer = Word }
