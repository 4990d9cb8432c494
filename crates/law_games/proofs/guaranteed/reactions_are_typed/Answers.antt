use Rattle.law_games.proofs.GuaranteedLemmas.Apart.{ready_apart}
use Rattle.law_games.proofs.GuaranteedLemmas.Kept.{typed}
use Rattle.law_games.proofs.guaranteed.reactions_are_typed.Goals as goal

pub returns-clause-apart : goal.returns-clause-apart
returns-clause-apart c = ready_apart

pub returns-clause-typed : goal.returns-clause-typed
returns-clause-typed c = typed
