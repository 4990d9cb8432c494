-- Where nodes are sound, and each name has one equation in its block, calls fit and so does all that is asked of a node that is drawn.
-- Source: own.
use Rattle.std.specs.Prelude.{ℕ, ◌≡◌, ⊤, List, Option, None, Some}
use Rattle.hp_tree.specs.Blocks.{Block, block, Eqns, no_eqn, more_eqns, Eqn, define, switch, reset, automaton, Arms, no_arm, more_arms, States, no_state, more_states}
use Rattle.hp_tree.specs.Programs.{TypeDecl, Contract, Node}
use Rattle.law_judged.specs.Typed.Scopes.{Scope}
use Rattle.law_values.specs.Valued.Judged.{Lasts, ContractSound, NodeSound}
use Rattle.hp_drawing.specs.Told.{Told}
use Rattle.law_drawing.specs.Steered.Asked.{IsDefinedOnce, ContractFits}
use Rattle.law_drawing.specs.Steered.Nodes.{NodeFits}

-- each name has one equation in its block, and so in all inner blocks
abbrev mutual
  pub IsOnce : Block → Type 0
  IsOnce (block ds es) = AllOnce es

  pub AllOnce : Eqns → Type 0
  AllOnce no_eqn = ⊤
  AllOnce (more_eqns e es) = IsDefinedOnce e es × OneOnce e × AllOnce es

  pub OneOnce : Eqn → Type 0
  OneOnce (define q xs e) = ⊤
  OneOnce (switch q e arms) = ArmsOnce arms
  OneOnce (reset q b e) = IsOnce b
  OneOnce (automaton q ss) = StatesOnce ss

  pub ArmsOnce : Arms → Type 0
  ArmsOnce no_arm = ⊤
  ArmsOnce (more_arms c b q arms) = IsOnce b × ArmsOnce arms

  pub StatesOnce : States → Type 0
  StatesOnce no_state = ⊤
  StatesOnce (more_states f b until unless q ss) = IsOnce b × StatesOnce ss

abbrev pub ContractOnce : Option Contract → Type 0
ContractOnce None = ⊤
ContractOnce (Some c) = IsOnce c.body

-- Where the tables have the nodes that are declared before, a sound contract fits,
abbrev pub ContractFitsLaw : Type 0
ContractFitsLaw =
    (types : List TypeDecl) (among : List ℕ → Option Node) (t : Told) → ((f : List ℕ) (n : Node) → among f ≡ Some n → t.nodes f ≡ Some n)
    → (s : Scope) (lasts : Lasts) (c : Option Contract) → ContractSound types among s lasts c → ContractOnce c → ContractFits t c

-- and so does a sound node, where the contracts of all nodes do.
abbrev pub NodeFitsLaw : Type 0
NodeFitsLaw =
    (types : List TypeDecl) (among : List ℕ → Option Node) (t : Told) → ((f : List ℕ) (n : Node) → among f ≡ Some n → t.nodes f ≡ Some n)
    → (s : Scope) (n : Node) → NodeSound types among s n → ContractOnce n.contract → IsOnce n.body → ((f : List ℕ) (m : Node) → t.nodes f ≡ Some m → ContractFits t m.contract) → NodeFits t n
