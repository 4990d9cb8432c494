use Rattle.std.proofs.Common.{ap, ◌∙◌}
use Rattle.hp_automata.specs.Names.{is_name}
use Rattle.hp_automata.specs.Lists.{names_seen}
use Rattle.hp_automata.specs.Held.{frame_seen, said}
use Rattle.hp_automata.proofs.LayerLaws.{said-inner}
use Rattle.hp_automata.proofs.blocks.push_layer.Goals as goal

pub returns-clause-said : goal.returns-clause-said
returns-clause-said c =
    let layer = c.in_ok-layer.ensures in
    ap said c.in_ok-push.ensures.items
    ∙ said-inner c.args.layers.now.items c.in_ok-layer.layer (frame_seen c.args.frame.now) c.args.number (layer.names ∙ ap (λ xs. is_name (names_seen xs)) c.deref.ensures.value) layer.depth layer.state
