use Rattle.std.proofs.Common.{ap, ◌∙◌}
use Rattle.hp_clocks.specs.Putting.{rights_seen}
use Rattle.hp_clocks.proofs.NamedLaws.{rights_push}
use Rattle.hp_clocks.proofs.solve.add_right.Goals as goal

pub returns : goal.returns
returns c = ap rights_seen c.in_ok-push.ensures.items ∙ rights_push c.args.rights.now.items c.args.clock c.args.expr
