use Rattle.law_wellmade.proofs.LetteredLemmas.Joined.{text_names, replaced_names, clocked_names, lowered_names, made_names}
use Rattle.law_wellmade.proofs.lettered.names_are_spelled.Goals as goal

pub returns-clause-text : goal.returns-clause-text
returns-clause-text c = text_names

pub returns-clause-replaced : goal.returns-clause-replaced
returns-clause-replaced c = replaced_names

pub returns-clause-clocked : goal.returns-clause-clocked
returns-clause-clocked c = clocked_names

pub returns-clause-lowered : goal.returns-clause-lowered
returns-clause-lowered c = lowered_names

pub returns-clause-made : goal.returns-clause-made
returns-clause-made c = made_names
