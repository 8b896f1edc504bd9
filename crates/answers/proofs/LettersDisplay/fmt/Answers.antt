use Rattle.std.proofs.Common.{rules, [], ◌∙◌, ap, sym, decimal}
use Rattle.std.proofs.lemmas.List.{flat_map_more, take_more}
use Rattle.std.specs.List.{flat_map}
use Rattle.std.proofs.Output.{has_written_append, has_written_of_eq}
use Rattle.answers.proofs.LettersDisplay.fmt.Goals as goal

-- one letter more
pub loop-s-preserved : goal.loop-s-preserved
loop-s-preserved g c p =
    has_written_of_eq _ _ _ _ _ (flat_map_more decimal [] _ _ ∙ ap (flat_map decimal) (sym (take_more c.args.self.now.0.now c.loop-s.s-index 0 c.loop-s-test.true))) (has_written_append _ _ _ _ _ _ (c.loop-s.invariant p) (search rules))
