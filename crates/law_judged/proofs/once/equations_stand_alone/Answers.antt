use Rattle.law_judged.proofs.OnceLemmas.Judged.{singly, once}
use Rattle.law_judged.proofs.once.equations_stand_alone.Goals as goal

pub returns-clause-singly : goal.returns-clause-singly
returns-clause-singly c = singly

pub returns-clause-once : goal.returns-clause-once
returns-clause-once c = once
