use Rattle.std.proofs.Common.{ap, ◌∙◌}
use Rattle.hp_init.proofs.table.Locals.of.Goals as goal

pub returns : goal.returns
returns c = c.find.ensures ∙ ap (λ f. f c.args.name.now) c.args.self.now.known
