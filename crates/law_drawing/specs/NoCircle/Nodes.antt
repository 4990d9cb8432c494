-- What is asked of a node that is drawn, and of the contracts of those that it calls, so that its wires read each other in no circle.
-- Source: own. It is so in each node of an accepted program.
use Rattle.std.specs.Prelude.{ℕ, ◌≡◌, List, [], Option, Some}
use Rattle.hp_tree.specs.Programs.{TypeDecl, Node}
use Rattle.hp_typing.specs.Scopes.{inside_node}
use Rattle.law_judged.specs.Typed.Scopes.{Scope as TypeScope}
use Rattle.law_values.specs.Valued.Judged.{HaveOwnTypes, ContractSound, NodeSound, lasts_in, no_lasts}
use Rattle.hp_meaning.specs.Causal.Causality.{Ranked}
use Rattle.hp_drawing.specs.Told.{Told}
use Rattle.law_drawing.specs.Steered.Asked.{ContractFits}
use Rattle.law_drawing.specs.Steered.Nodes.{NodeFits}
use Rattle.law_drawing.specs.NoCircle.Asked.{BlockApart, ContractApart}

-- The contract of a node that may be called has types, its calls fit, and each of its places stands above what it reads.
pub record ContractAsked (types : List TypeDecl) (t : Told) (n : Node) : Type 0 where
  pub among : List ℕ → Option Node
  pub known : (f : List ℕ) (m : Node) → among f ≡ Some m → t.nodes f ≡ Some m
  pub scope : TypeScope
  pub alone : scope.variables ≡ []
  pub inputs : HaveOwnTypes types among (inside_node scope n) n.inputs
  pub outputs : HaveOwnTypes types among (inside_node scope n) n.outputs
  pub sound : ContractSound types among (inside_node scope n) (lasts_in n.outputs no_lasts) n.contract
  pub fits : ContractFits t n.contract
  pub apart : ContractApart n.contract
  pub ranked : Ranked n

-- So it is with a node, and with the contracts of all nodes that it may call.
pub record NodeAsked (types : List TypeDecl) (t : Told) (n : Node) : Type 0 where
  pub among : List ℕ → Option Node
  pub known : (f : List ℕ) (m : Node) → among f ≡ Some m → t.nodes f ≡ Some m
  pub scope : TypeScope
  pub alone : scope.variables ≡ []
  pub sound : NodeSound types among scope n
  pub fits : NodeFits t n
  pub body_apart : BlockApart n.body
  pub contract_apart : ContractApart n.contract
  pub ranked : Ranked n
  pub callees : (f : List ℕ) (m : Node) → t.nodes f ≡ Some m → ContractAsked types t m
