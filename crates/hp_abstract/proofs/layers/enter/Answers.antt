use Rattle.std.proofs.Common.{map, ◌∙◌}
use Rattle.hp_tree.specs.Blocks.{eqns_of}
use Rattle.hp_tree.specs.BlockView.{eqn_seen}
use Rattle.hp_drawing.specs.Scopes.{add_lasts}
use Rattle.hp_drawing.specs.Seen.{sketch_of}
use Rattle.hp_abstract.specs.Seen.{layer_of, scope_of, told_in}
use Rattle.hp_abstract.proofs.BlockLaws.{entered}
use Rattle.hp_abstract.proofs.layers.enter.Goals as goal

pub returns-clause-sketch : goal.returns-clause-sketch
returns-clause-sketch c =
    let es = eqns_of (map eqn_seen c.block.inside.eqns.items) in
    let ds = c.block.inside.locals.items in
    let t = told_in c.args.tables.now in
    let place = c.args.place in
    let own = layer_of c.in_ok-layer.layer in
    let l0 = layer_of c.new-lasts.result in
    let s1 = sketch_of c.own_layer.new.draft in
    let made =
    entered t (scope_of c.args.scope.now) (scope_of c.push.new.self) (scope_of c.push_lasts.new.self) place ds es c.args.block.now (sketch_of c.args.draft.now) s1 (sketch_of c.add_lasts.new.draft) own l0 (layer_of c.add_lasts.new.lasts)
    c.new-lasts.ensures c.in_ok-layer.ensures.sketch c.in_ok-layer.ensures.layer (c.in_ok-add_lasts.ensures.sketch ∙ (λ j. (add_lasts t place (c.deref.ensures.value j) own l0 s1).1)) (c.in_ok-add_lasts.ensures.layer ∙ (λ j. (add_lasts t place (c.deref.ensures.value j) own l0 s1).0))
    c.in_ok-push.ensures c.in_ok-push_lasts.ensures c.block.view_is in
    made.1

pub returns-clause-scope : goal.returns-clause-scope
returns-clause-scope c =
    let es = eqns_of (map eqn_seen c.block.inside.eqns.items) in
    let ds = c.block.inside.locals.items in
    let t = told_in c.args.tables.now in
    let place = c.args.place in
    let own = layer_of c.in_ok-layer.layer in
    let l0 = layer_of c.new-lasts.result in
    let s1 = sketch_of c.own_layer.new.draft in
    let made =
    entered t (scope_of c.args.scope.now) (scope_of c.push.new.self) (scope_of c.push_lasts.new.self) place ds es c.args.block.now (sketch_of c.args.draft.now) s1 (sketch_of c.add_lasts.new.draft) own l0 (layer_of c.add_lasts.new.lasts)
    c.new-lasts.ensures c.in_ok-layer.ensures.sketch c.in_ok-layer.ensures.layer (c.in_ok-add_lasts.ensures.sketch ∙ (λ j. (add_lasts t place (c.deref.ensures.value j) own l0 s1).1)) (c.in_ok-add_lasts.ensures.layer ∙ (λ j. (add_lasts t place (c.deref.ensures.value j) own l0 s1).0))
    c.in_ok-push.ensures c.in_ok-push_lasts.ensures c.block.view_is in
    made.0
