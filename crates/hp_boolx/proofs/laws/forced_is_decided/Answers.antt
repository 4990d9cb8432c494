use Rattle.hp_boolx.proofs.GameLaws.{forced-told, stops}
use Rattle.hp_boolx.proofs.laws.forced_is_decided.Goals as goal

pub returns-clause-forced : goal.returns-clause-forced
returns-clause-forced c = forced-told

pub returns-clause-stop : goal.returns-clause-stop
returns-clause-stop c = stops
