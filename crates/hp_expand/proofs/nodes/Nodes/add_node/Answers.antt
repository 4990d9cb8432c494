use Rattle.std.proofs.Common.{◌≡◌, ◌++◌, length, arith, [], ◌∷◌, ℕ, List, if◌then◌else◌, Some, sym, ap, ◌∙◌}
use Rattle.std.specs.Str.{bytes_eq}
use Rattle.hp_tree.specs.declared.program.Item.{Item}
use Rattle.hp_tree.specs.declared.program.Item.TheVariants.{NodeItem}
use Rattle.hp_expand.specs.Numbering.{with_node}
use Rattle.hp_expand.specs.Places.{place_of, node_at}
use Rattle.hp_expand.specs.NodeTables.{node_in}
use Rattle.hp_expand.proofs.PlaceLaws.{node-put}
use Rattle.hp_expand.proofs.nodes.Nodes.add_node.Goals as goal

pub returns-clause-nodes : goal.returns-clause-nodes
returns-clause-nodes c =
    let old = c.args.self.now in
    let node = c.args.node in
    let items = old.items.items in
    let names = c.note.new.names in
    let name_is : c.bytes.result.now ≡ node.name = c.bytes.ensures.bytes ∙ sym c.requires in
    let place : c.len-place.result ≡ length items = omega (arith, c.len-place.ensures) in
    let one : (x : List ℕ) → node_at c.push.new.self.items x (place_of names x) ≡ with_node (node_in old) node x =
    λ x. ap (λ (is : List Item). node_at is x (place_of names x)) c.in_ok-push.ensures.items
    ∙ ap (node_at (items ++ NodeItem node ∷ []) x) (c.in_ok-note.ensures.put x)
    ∙ (λ j. node_at (items ++ NodeItem node ∷ []) x (if bytes_eq (name_is j) x then Some (place j) else place_of old.names x))
    ∙ node-put items node (place_of old.names) old.within x in
    λ j x. one x j
