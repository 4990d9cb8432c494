use Rattle.std.proofs.Common.{◌≡◌, map, ap, ◌∙◌}
use Rattle.hp_tree.specs.BlockView.{eqn_seen}
use Rattle.hp_drawing.specs.Scopes.{hide_names, names_of_eqn}
use Rattle.hp_abstract.specs.Seen.{now_of, scope_of}
use Rattle.hp_abstract.proofs.NameLaws.{name-same}
use Rattle.hp_abstract.proofs.layers.hidden_layer.Goals as goal

pub returns : goal.returns
returns c =
    let eqn = eqn_seen c.args.eqn.now in
    let names : map now_of c.deref.result.now ≡ names_of_eqn eqn = ap (map now_of) c.deref.ensures.value ∙ c.in_ok-names.ensures ∙ name-same eqn in
    c.in_ok-hide_names.ensures ∙ (λ j. hide_names (scope_of c.args.scope.now) (names j) (c.new-hidden.ensures j))
