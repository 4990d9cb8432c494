use Rattle.std.proofs.Common.{◌≡◌, map, ap, ◌∙◌}
use Rattle.hp_tree.specs.Blocks.{eqns_of}
use Rattle.hp_tree.specs.BlockView.{eqn_seen}
use Rattle.hp_drawing.specs.Scopes.{names_of_eqns, put_locals}
use Rattle.hp_drawing.specs.Seen.{sketch_of}
use Rattle.hp_abstract.specs.Seen.{layer_of, now_of, scope_of, told_in}
use Rattle.hp_abstract.proofs.BlockLaws.{own-made}
use Rattle.hp_abstract.proofs.NameLaws.{names-same}
use Rattle.hp_abstract.proofs.layers.own_layer.Goals as goal

pub returns-clause-sketch : goal.returns-clause-sketch
returns-clause-sketch c =
    let es = eqns_of (map eqn_seen c.block.inside.eqns.items) in
    let ds = c.block.inside.locals.items in
    let t = told_in c.args.tables.now in
    let s = sketch_of c.args.draft.now in
    let l0 = layer_of c.new-layer.result in
    let names : map now_of c.deref-3.result.now ≡ names_of_eqns es =
    ap (map now_of) c.deref-3.ensures.value ∙ c.in_ok-names.ensures ∙ names-same (eqns_of (map eqn_seen c.deref.result.now)) ∙ (λ j. names_of_eqns (eqns_of (map eqn_seen (c.deref.ensures.value j)))) in
    let made =
    own-made t (scope_of c.args.scope.now) ds es c.args.block.now s (sketch_of c.put_locals.new.draft) (sketch_of c.put_names.new.draft) l0 (layer_of c.put_locals.new.layer) (layer_of c.put_names.new.layer) (map now_of c.deref-3.result.now)
    c.new-layer.ensures names (c.in_ok-put_locals.ensures.sketch ∙ (λ j. (put_locals t 0 (c.deref-2.ensures.value j) l0 s).1)) (c.in_ok-put_locals.ensures.layer ∙ (λ j. (put_locals t 0 (c.deref-2.ensures.value j) l0 s).0))
    c.in_ok-put_names.ensures.sketch c.in_ok-put_names.ensures.layer c.block.view_is in
    made.1

pub returns-clause-layer : goal.returns-clause-layer
returns-clause-layer c =
    let es = eqns_of (map eqn_seen c.block.inside.eqns.items) in
    let ds = c.block.inside.locals.items in
    let t = told_in c.args.tables.now in
    let s = sketch_of c.args.draft.now in
    let l0 = layer_of c.new-layer.result in
    let names : map now_of c.deref-3.result.now ≡ names_of_eqns es =
    ap (map now_of) c.deref-3.ensures.value ∙ c.in_ok-names.ensures ∙ names-same (eqns_of (map eqn_seen c.deref.result.now)) ∙ (λ j. names_of_eqns (eqns_of (map eqn_seen (c.deref.ensures.value j)))) in
    let made =
    own-made t (scope_of c.args.scope.now) ds es c.args.block.now s (sketch_of c.put_locals.new.draft) (sketch_of c.put_names.new.draft) l0 (layer_of c.put_locals.new.layer) (layer_of c.put_names.new.layer) (map now_of c.deref-3.result.now)
    c.new-layer.ensures names (c.in_ok-put_locals.ensures.sketch ∙ (λ j. (put_locals t 0 (c.deref-2.ensures.value j) l0 s).1)) (c.in_ok-put_locals.ensures.layer ∙ (λ j. (put_locals t 0 (c.deref-2.ensures.value j) l0 s).0))
    c.in_ok-put_names.ensures.sketch c.in_ok-put_names.ensures.layer c.block.view_is in
    made.0
