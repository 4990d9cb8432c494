use Rattle.hp_cause.specs.Answers.{lists}
use Rattle.hp_compile.proofs.OneCauseLaws.{named_of}
use Rattle.hp_compile.proofs.arranging.front.Goals as goal

pub returns-clause-exact : goal.returns-clause-exact
returns-clause-exact c = λ cause h.
    named_of c.args.text.now cause h c.program_or_refusal.result (λ o. o.program) (λ o. lists o.ranks.items) c.program_or_refusal.ensures.arranged c.program_or_refusal.ensures.refused
