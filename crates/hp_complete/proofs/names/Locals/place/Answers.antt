use Rattle.std.proofs.Common.{ap, ◌∙◌}
use Rattle.hp_complete.proofs.names.Locals.place.Goals as goal

pub returns : goal.returns
returns c = c.find.ensures ∙ ap (λ f. f c.args.name.now) c.args.self.now.known
