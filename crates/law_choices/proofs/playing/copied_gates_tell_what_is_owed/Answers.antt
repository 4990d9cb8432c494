use Rattle.law_choices.proofs.PlayingLemmas.Owed.{drawn_owed_law}
use Rattle.law_choices.proofs.playing.copied_gates_tell_what_is_owed.Goals as goal

pub returns : goal.returns
returns c = drawn_owed_law c.nothing_else_is_owed.ensures
