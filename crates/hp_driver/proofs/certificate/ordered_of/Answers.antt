use Rattle.hp_cause.specs.Answers.{lists}
use Rattle.hp_driver.proofs.certificate.ordered_of.Goals as goal

pub returns-in-Ok-clause-ordered : goal.returns-in-Ok-clause-ordered
returns-in-Ok-clause-ordered c =
    let found = c.in-Ok.ensures.arranged in
    record { program = found.0; judged = found.1; only = found.2; ranks = lists c.in-Ok.ordered.ranks.items; arranged = found.3 }

pub returns-in-Err-clause-none : goal.returns-in-Err-clause-none
returns-in-Err-clause-none c = λ differs program judged arrangeable. differs (c.in-Err.ensures.accepted program judged arrangeable)
