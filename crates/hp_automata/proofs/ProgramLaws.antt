-- Nodes without automata.
use Rattle.std.proofs.Common.{◌≡◌, List, [], length, option_map, ◌∙◌, ap}
use Rattle.hp_tree.specs.Programs.{Contract, Node}
use Rattle.hp_automata.specs.declared.around.Layer.{Layer}
use Rattle.hp_automata.specs.Lowering.{Types, Enumerations, lowered_block, lowered_contract, lowered_node, types_of}
use Rattle.hp_automata.specs.Held.{said}

module _ (enums : Enumerations) (n other : Node) (ls kept : List Layer) (types known : Types) (none : ls ≡ []) (all : types ≡ types_of n) (same : kept ≡ ls) (still : known ≡ types) where
  pub node-made : other.name ≡ n.name → other.span ≡ n.span → other.inputs ≡ n.inputs → other.outputs ≡ n.outputs
      → other.contract ≡ option_map (lowered_contract enums types) n.contract → other.body ≡ lowered_block enums (said kept) known (length kept) n.span [] n.body → other ≡ lowered_node enums n
  node-made name span inputs outputs contract body =
      let observer : other.contract ≡ option_map (lowered_contract enums (types_of n)) n.contract = contract ∙ ap (λ t. option_map (lowered_contract enums t) n.contract) all in
      let layers = same ∙ none in
      let around = still ∙ all in
      let inner = body ∙ (λ j. lowered_block enums (said (layers j)) (around j) (length (layers j)) n.span [] n.body) in
      λ j. record { name = name j; span = span j; inputs = inputs j; outputs = outputs j; contract = observer j; body = inner j }

pub contract-made : (enums : Enumerations) (types : Types) (n other : Contract) (ls : List Layer) → ls ≡ [] → other.body ≡ lowered_block enums (said ls) types (length ls) n.span [] n.body
    → other.assume ≡ n.assume → other.enforce ≡ n.enforce → other.controls ≡ n.controls → other.span ≡ n.span → other ≡ lowered_contract enums types n
contract-made enums types n other ls none body assume enforce controls span =
    let inner = body ∙ ap (λ more. lowered_block enums (said more) types (length more) n.span [] n.body) none in
    λ j. record { body = inner j; assume = assume j; enforce = enforce j; controls = controls j; span = span j }
