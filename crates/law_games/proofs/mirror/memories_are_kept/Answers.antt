use Rattle.law_games.proofs.mirror.memories_are_kept.Goals as goal
use Rattle.law_games.proofs.MirrorLemmas.SameMemories.{same_memory_game, same_memory_safe, same_memory_at_first}

pub returns-clause-forced : goal.returns-clause-forced
returns-clause-forced c = same_memory_game

pub returns-clause-safe : goal.returns-clause-safe
returns-clause-safe c = same_memory_safe

pub returns-clause-at_first : goal.returns-clause-at_first
returns-clause-at_first c = same_memory_at_first
