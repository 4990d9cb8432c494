use Rattle.law_choices.proofs.OnClocksLemmas.Programs.{clocks_law, compilable_law, own_clocks_law}
use Rattle.law_choices.proofs.on_clocks.variables_have_clocks.Goals as goal

pub returns-clause-clocks : goal.returns-clause-clocks
returns-clause-clocks c = clocks_law

pub returns-clause-own : goal.returns-clause-own
returns-clause-own c = own_clocks_law

pub returns-clause-compilable : goal.returns-clause-compilable
returns-clause-compilable c = compilable_law
