use Rattle.law_games.proofs.wires.one_wiring.Goals as goal
use Rattle.law_games.proofs.WiresLemmas.OneWiring.{one_wiring}

pub returns : goal.returns
returns c = one_wiring
