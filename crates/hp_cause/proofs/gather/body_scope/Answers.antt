use Rattle.std.proofs.Common.{◌≡◌, [], ◌∷◌, ◌++◌, length, ap, ◌∙◌}
use Rattle.hp_tree.specs.Meaning.{controls_of, names_of as declared_names}
use Rattle.hp_tables.specs.Defining.Layers.{numbered, says, says_numbers}
use Rattle.hp_cause.specs.Gathering.{own_sight, seen_controls, seen_in}
use Rattle.hp_cause.specs.Vertices.{first_of_body}
use Rattle.hp_cause.proofs.TableLaws.{body-own, body-seen}
use Rattle.hp_cause.proofs.gather.body_scope.Goals as goal

pub returns-clause-seen : goal.returns-clause-seen
returns-clause-seen c =
    let guide = c.in_ok-controls.controls in
    let own = c.in_ok-own.own in
    let ds = controls_of c.node.inside.contract in
    let b = c.node.inside.body in
    let j = c.controls_layer.new.notes.next in
    let says_guide : says guide ≡ says_numbers 0 (declared_names ds) = c.in_ok-controls.ensures.layer ∙ ap (λ decls. says_numbers 0 (declared_names decls)) c.controls_of.ensures in
    let count : j ≡ length ds = c.in_ok-controls.ensures.next ∙ ap length c.controls_of.ensures in
    body-seen c.push-2.new.self.items c.push.new.self.items guide own ds j b c.in_ok-push-2.ensures.items (c.in_ok-push.ensures.items ∙ ap (λ ls. ls ++ guide ∷ []) c.new-values.ensures.items) says_guide c.in_ok-own.ensures.own
    ∙ ap (λ k. seen_in k b (numbered 0 (declared_names ds))) count
    ∙ ap (λ n. seen_in (first_of_body n) n.body (seen_controls n)) c.node.view_is

pub returns-clause-own : goal.returns-clause-own
returns-clause-own c =
    let guide = c.in_ok-controls.controls in
    let own = c.in_ok-own.own in
    let ds = controls_of c.node.inside.contract in
    let b = c.node.inside.body in
    let j = c.controls_layer.new.notes.next in
    let count : j ≡ length ds = c.in_ok-controls.ensures.next ∙ ap length c.controls_of.ensures in
    body-own c.push-2.new.self.items c.push.new.self.items guide own j b c.in_ok-push-2.ensures.items (c.in_ok-push.ensures.items ∙ ap (λ ls. ls ++ guide ∷ []) c.new-values.ensures.items) c.in_ok-own.ensures.own
    ∙ ap (λ k. own_sight k b) count
    ∙ ap (λ n. own_sight (first_of_body n) n.body) c.node.view_is
