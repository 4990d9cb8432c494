use Rattle.std.proofs.Common.{map, ap, ◌∙◌}
use Rattle.hp_tree.specs.Blocks.{eqns_of}
use Rattle.hp_tree.specs.BlockView.{eqn_seen}
use Rattle.hp_tables.specs.Defining.Names.{names_in}
use Rattle.hp_clocks.specs.Layers.{says, says_names, says_locals, says_by}
use Rattle.hp_clocks.proofs.DefinedLaws.{if_map}
use Rattle.hp_clocks.proofs.layer.layer_by.Goals as goal

pub returns-clause-says : goal.returns-clause-says
returns-clause-says c =
    let f = says c.args.controls.now in
    let g = says c.args.numbers.now in
    let es = eqns_of (map eqn_seen c.block.inside.eqns.items) in
    if_map c.defined_layer.result
    (λ layer h.
    h
    ∙ ap (λ eqns. says_names (names_in (eqns_of (map eqn_seen eqns))) (says c.in_ok-locals.locals)) c.deref-3.ensures.value
    ∙ ap (λ k. says_names (names_in es) k) (c.in_ok-locals.ensures ∙ ap (says_locals f g) c.deref-2.ensures.value)
    ∙ ap (λ b. says_by f g b) c.block.view_is)
    c.defined_layer.ensures
