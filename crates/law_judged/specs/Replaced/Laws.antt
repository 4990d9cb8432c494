-- What is proved of names where inlined calls are replaced.
use Rattle.std.specs.Prelude.{ℕ, ◌≡◌, ◌≤◌, ◌+◌, ⊤, false, IsTrue, List, [], ◌∷◌}
use Rattle.hp_tree.specs.declared.program.Item.{Item}
use Rattle.hp_tree.specs.declared.program.Item.TheVariants.{TypeItem, NodeItem}
use Rattle.hp_tree.specs.Programs.{Node}
use Rattle.hp_tree.specs.Meaning.{controls_of}
use Rattle.hp_meaning.specs.Causal.Points.{NamesDeclared}
use Rattle.hp_meaning.specs.Clocking.Clocking.{NodeNamed}
use Rattle.hp_expand.specs.NewNames.{is_new}
use Rattle.hp_expand.specs.Replacing.{in_block, in_contract, in_node}
use Rattle.hp_expand.specs.Numbering.{new_in_block, behind, numbered, replaced_node, with_node, no_node, replaced}
use Rattle.law_judged.specs.Named.Scoped.{also, interface, NodeScoped, EachNode}
use Rattle.law_judged.specs.Replaced.Fitting.{IsPlain, NodeNames, NodeFits, IsReady}

-- A node has no more new variables than there are numbers.
abbrev pub FewVariables : Node → Type 0
FewVariables n = behind n.contract + new_in_block n.body ≤ 1000000

-- No input, output or controllable variable is new.
abbrev pub PlainInterface : Node → Type 0
PlainInterface n = (x : List ℕ) → IsTrue (also (interface n) (controls_of n.contract) x) → is_new x ≡ false

-- Where new variables get their numbers, names stay in their scopes.
abbrev pub NumberedLaw : Type 0
NumberedLaw = (n : Node) → FewVariables n → PlainInterface n → NodeScoped n → NodeScoped (numbered n)

-- There are marks for all inlined calls of a node.
abbrev pub FewCalls : (List ℕ → Node) → Node → Type 0
FewCalls nodes n = (in_block nodes (in_contract nodes 1 n.contract).next n.body).next ≤ 1000000

-- What is asked of a node whose calls are replaced, where it is known what the nodes before it became.
pub record CanBeReplaced (nodes : List ℕ → Node) (n : Node) : Type 0 where
  pub scoped : NodeScoped n
  pub plain : NodeNames IsPlain n
  pub fits : NodeFits nodes n
  pub few_calls : FewCalls nodes n
  pub few_variables : FewVariables (in_node nodes n)

-- Then names stay in their scopes, and its own calls can be replaced.
abbrev pub ReplacedNodeLaw : Type 0
ReplacedNodeLaw = (nodes : List ℕ → Node) → ((f : List ℕ) → IsReady (nodes f)) → (n : Node) → CanBeReplaced nodes n → IsReady (replaced_node nodes n)

abbrev pub AllCanBeReplaced : (List ℕ → Node) → List Item → Type 0
AllCanBeReplaced nodes [] = ⊤
AllCanBeReplaced nodes (TypeItem t ∷ items) = AllCanBeReplaced nodes items
AllCanBeReplaced nodes (NodeItem n ∷ items) = CanBeReplaced nodes n × AllCanBeReplaced (with_node nodes (replaced_node nodes n)) items

-- In the replaced program names are in their scopes; so each local is declared once and has an equation, and what control equations define is declared.
abbrev pub ReplacedLaw : Type 0
ReplacedLaw = (program : List Item) → AllCanBeReplaced no_node program → EachNode (λ n. NodeScoped n × NodeNamed n × NamesDeclared n) (replaced program)
