use Rattle.law_judged.proofs.NamedLemmas.Judged.{scoped}
use Rattle.law_judged.proofs.NamedLemmas.Declared.{named}
use Rattle.law_judged.proofs.named.judged_names_are_in_scope.Goals as goal

pub returns-clause-scoped : goal.returns-clause-scoped
returns-clause-scoped c = scoped

pub returns-clause-named : goal.returns-clause-named
returns-clause-named c = named
