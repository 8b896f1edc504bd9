use Rattle.std.proofs.Common.{codes, sym, ◌∙◌, append_assoc}
use Rattle.std.proofs.lemmas.Result.{IfOk-weaker}
use Rattle.answers.proofs.form.Goals as goal

pub returns : goal.returns
returns c =
    IfOk-weaker c.format.result _ _ (λ s e. e ∙ sym (append_assoc c.args.key.now (codes "=") _)) c.format.ensures.ok
