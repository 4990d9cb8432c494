use Rattle.law_games.proofs.forced.choices_are_on_memories.Goals as goal
use Rattle.law_games.proofs.ForcedLemmas.Choices.{choices}

pub returns : goal.returns
returns c = choices
