use Rattle.std.proofs.Common.{refl}
use Rattle.jobs.proofs.CallAnswers.{form_answered}
use Rattle.jobs.proofs.word_jobs.by_form.Goals as goal

pub returns-clause-answered : goal.returns-clause-answered
returns-clause-answered g c w x =
    form_answered c.args.key.now refl (x _ _ _ _ _ c.in_ok-n.ensures) c.in_ok-form.ensures
