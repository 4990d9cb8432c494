use Rattle.std.proofs.Common.{sym, subst, ◌∙◌}
use Rattle.hp_cause.specs.Ordering.{AllNodesCausal}
use Rattle.hp_cause.proofs.AnswerLaws.{only_memory}
use Rattle.hp_cause.proofs.order.Goals as goal

pub returns-in-Err-clause-accepted : goal.returns-in-Err-clause-accepted
returns-in-Err-clause-accepted c = λ h. only_memory c.deref.result.now c.in-Err.error (subst AllNodesCausal (sym (c.deref.ensures.value ∙ c.program.view_is)) h) c.in-Err.ensures.named
