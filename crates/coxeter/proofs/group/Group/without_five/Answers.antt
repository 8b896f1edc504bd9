use Rattle.std.proofs.Common.{◌≢◌, rules}
use Rattle.coxeter.specs.Matrices.{matrix}
use Rattle.coxeter.proofs.PairRules.{decided}
use Rattle.coxeter.proofs.group.Group.without_five.Goals as goal

pub returns : goal.returns
returns c = decided c.every_pair.ensures (λ s t m back. m ≢ 5) (matrix c.args.self.now) c.table.ensures (λ s t m back e. search rules) (λ s t m back e k. search rules)
