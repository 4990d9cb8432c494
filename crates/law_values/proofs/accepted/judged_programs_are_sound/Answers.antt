use Rattle.law_values.proofs.AcceptedLemmas.Laws.{sound, replaced_sound}
use Rattle.law_values.proofs.accepted.judged_programs_are_sound.Goals as goal

pub returns-clause-judged : goal.returns-clause-judged
returns-clause-judged c = sound

pub returns-clause-replaced : goal.returns-clause-replaced
returns-clause-replaced c = replaced_sound
