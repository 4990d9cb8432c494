use Rattle.law_games.proofs.mirror.choices_are_kept.Goals as goal
use Rattle.law_games.proofs.MirrorLemmas.SameChoices.{same_memory_permitted, same_memory_choice, some_memory_choice}

pub returns-clause-permitted : goal.returns-clause-permitted
returns-clause-permitted c = same_memory_permitted

pub returns-clause-chosen : goal.returns-clause-chosen
returns-clause-chosen c = same_memory_choice

pub returns-clause-some : goal.returns-clause-some
returns-clause-some c = some_memory_choice
