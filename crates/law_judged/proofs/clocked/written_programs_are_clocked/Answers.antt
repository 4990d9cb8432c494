use Rattle.law_judged.proofs.ClockedLemmas.Clocked.{named, clocked}
use Rattle.law_judged.proofs.clocked.written_programs_are_clocked.Goals as goal

pub returns-clause-named : goal.returns-clause-named
returns-clause-named c = named

pub returns-clause-clocked : goal.returns-clause-clocked
returns-clause-clocked c = clocked
