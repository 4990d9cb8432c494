use Rattle.law_choices.proofs.StreamsLemmas.Uncontrolled.{uncontrolled_programs, no_choice_law}
use Rattle.law_choices.proofs.streams.uncontrolled_programs_choose_nothing.Goals as goal

pub returns-clause-meaning : goal.returns-clause-meaning
returns-clause-meaning c = uncontrolled_programs c.programs_have_one_meaning_under_each_choice.ensures.uncontrolled

pub returns-clause-nothing : goal.returns-clause-nothing
returns-clause-nothing c = no_choice_law
