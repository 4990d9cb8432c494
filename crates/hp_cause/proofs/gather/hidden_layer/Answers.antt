use Rattle.hp_cause.specs.Told.{names_seen}
use Rattle.hp_cause.proofs.EntryLaws.{said-listed}
use Rattle.hp_cause.proofs.gather.hidden_layer.Goals as goal

pub returns-clause-listed : goal.returns-clause-listed
returns-clause-listed c = said-listed c.in_ok-layer.layer (names_seen c.args.names.now) c.in_ok-layer.ensures
