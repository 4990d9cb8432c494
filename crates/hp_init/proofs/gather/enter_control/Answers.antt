use Rattle.std.proofs.Common.{ap, ◌∙◌}
use Rattle.hp_tree.specs.BlockView.{eqn_seen}
use Rattle.hp_tables.specs.Defining.Layers.{sight}
use Rattle.hp_init.proofs.EntryLaws.{sight-within}
use Rattle.hp_init.proofs.gather.enter_control.Goals as goal

pub returns-clause-seen : goal.returns-clause-seen
returns-clause-seen c = ap sight c.in_ok-push.ensures.items ∙ sight-within c.args.values.now.items c.in_ok-hidden.hidden (eqn_seen c.args.eqn.now) c.in_ok-hidden.ensures
