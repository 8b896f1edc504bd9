use Rattle.words.proofs.Bits.{has_more}
use Rattle.words.proofs.descents.Descents.with.Goals as goal

pub returns-clause-told : goal.returns-clause-told
returns-clause-told c = λ t h. has_more c.args.self.bits c.args.s t c.requires.0 c.requires.1 h
