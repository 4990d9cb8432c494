use Rattle.std.proofs.Common.{sym, subst, ◌∙◌}
use Rattle.hp_init.specs.Initialised.{IsInitialised}
use Rattle.hp_init.proofs.AnswerLaws.{accepted-law}
use Rattle.hp_init.proofs.init.Goals as goal

pub returns-clause-accepted : goal.returns-clause-accepted
returns-clause-accepted c = λ h. accepted-law c.deref.result.now c.check_items.result c.check_items.ensures.late (subst IsInitialised (sym (c.deref.ensures.value ∙ c.program.view_is)) h)
