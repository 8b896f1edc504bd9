use Rattle.coxeter.proofs.Forms.{joined_words_meet_lem}
use Rattle.coxeter.proofs.theorems.joined_words_meet.Goals as goal

pub returns : goal.returns
returns c = joined_words_meet_lem
