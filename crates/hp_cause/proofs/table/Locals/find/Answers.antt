use Rattle.std.proofs.Common.{ap, ◌∙◌}
use Rattle.hp_cause.proofs.table.Locals.find.Goals as goal

pub returns : goal.returns
returns c = c.of.ensures ∙ ap (λ f. f c.args.name.now) c.args.self.now.known
