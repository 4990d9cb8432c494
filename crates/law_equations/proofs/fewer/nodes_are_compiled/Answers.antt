use Rattle.law_equations.proofs.fewer.nodes_are_compiled.Goals as goal
use Rattle.law_equations.proofs.FewerLemmas.KindedForms.{kinds_law}
use Rattle.law_equations.proofs.FewerLemmas.NormalLaws.{passed_law}
use Rattle.law_equations.proofs.FewerLemmas.CompiledLaws.{compiled_law}

pub returns-clause-kinds : goal.returns-clause-kinds
returns-clause-kinds c = kinds_law

pub returns-clause-nodes : goal.returns-clause-nodes
returns-clause-nodes c = passed_law

pub returns-clause-programs : goal.returns-clause-programs
returns-clause-programs c = compiled_law
