use Rattle.law_wellmade.proofs.LetteredLemmas.Joined.{machine_names, machine_types}
use Rattle.law_wellmade.proofs.lettered.machines_are_spelled.Goals as goal

pub returns-clause-names : goal.returns-clause-names
returns-clause-names c = machine_names

pub returns-clause-types : goal.returns-clause-types
returns-clause-types c = machine_types
