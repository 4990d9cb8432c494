use Rattle.std.proofs.Common.{sym, ap, ◌∙◌}
use Rattle.hp_init.specs.Asks.{unmet}
use Rattle.hp_init.specs.Spreading.{valued}
use Rattle.hp_init.proofs.AnswerLaws.{node-found}
use Rattle.hp_init.proofs.init_node.Goals as goal

pub returns : goal.returns
returns c =
    let second = c.in_ok-second.second.items in
    node-found c.args.node.now c.deref.result.now second c.first_unmet.result (c.deref.ensures.value ∙ c.in_ok-asks.ensures) c.in_ok-second.ensures.obeys c.in_ok-second.ensures.least
    (c.first_unmet.ensures ∙ ap (λ s. unmet (valued s) c.deref-2.result.now) c.deref-3.ensures.value ∙ ap (unmet (valued second)) (c.deref-2.ensures.value ∙ sym c.deref.ensures.value))
