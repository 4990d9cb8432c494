use Rattle.std.proofs.Common.{ap, ◌∙◌}
use Rattle.hp_typing.specs.Uses.{how, pairwise, worsened}
use Rattle.hp_typing.proofs.UseMaps.{pair_law}
use Rattle.hp_typing.proofs.uses.Uses.add_pair.Goals as goal

pub returns : goal.returns
returns c =
    let a = c.args.first.now in
    let b = c.args.second.now in
    c.in_ok-worsen-2.ensures ∙ ap (λ f. worsened b f (pairwise (how a) (how b))) c.in_ok-worsen.ensures ∙ pair_law a b (how c.args.self.now)
