-- What the places of a node depend on, of what the node is given, and that the variables which stand for them depend on no more.
-- Source: own. Dependences are those by which causality is decided: what is read, and the names of clocks.
use Rattle.std.specs.Prelude.{ℕ, ◌≡◌, Bool, true, false, List, [], ◌∷◌}
use Rattle.hp_base.specs.declared.value.Value.{Value}
use Rattle.hp_tree.specs.Blocks.{Block, block, Eqns, more_eqns, Eqn, define, switch, reset}
use Rattle.hp_tree.specs.declared.program.Item.{Item}
use Rattle.hp_tree.specs.Programs.{TypeDecl, Node}
use Rattle.hp_tree.specs.Instant.{Body, Equations, Head, Tail, Right, Test, Place}
use Rattle.hp_tree.specs.Meaning.{declares, controls_of}
use Rattle.hp_meaning.specs.Causal.Sources.{only, IsSource}
use Rattle.hp_meaning.specs.Causal.Causality.{Ranked}
use Rattle.hp_meaning.specs.Causal.Clocked.{ClocksRight}
use Rattle.hp_meaning.specs.Causal.InputDependence.{sources_with_inputs}
use Rattle.hp_meaning.specs.Causal.Points.{NamesDeclared}
use Rattle.hp_meaning.specs.Contract.FreePlaces.{IsEarly}
use Rattle.hp_automata.specs.Lowering.{Enumerations, lowered_node}
use Rattle.law_automata.specs.Lowered.OldNames.{IsOld}
use Rattle.law_automata.specs.Lowered.Removable.{NodeOk}
use Rattle.hp_flat.specs.Nodes.{FlatNode}
use Rattle.law_equations.specs.Flattened.Flatten.{At, Input}
use Rattle.law_equations.specs.Made.Making.{Known}
use Rattle.law_equations.specs.Made.Laws.{Stands}
use Rattle.law_choices.specs.Independent.Dependence.{given_in}
use Rattle.law_choices.specs.Independent.Laws.{IsApart}
use Rattle.law_choices.specs.Depending.Dependence.{DependsOn}

-- A chain of dependences, where an input is a place too: each place of the list depends on the next, and the last one on the end.
abbrev pub DependsByWithInputs : Node → Place → List Place → Place → Type 0
DependsByWithInputs n p [] end = IsSource end (sources_with_inputs n p)
DependsByWithInputs n p (q ∷ qs) end = IsSource q (sources_with_inputs n p) × DependsByWithInputs n q qs end

-- A place depends on what is given under a name.
abbrev pub PlaceDependsOnGiven : Node → Place → List ℕ → Type 0
PlaceDependsOnGiven n p x = (q : Place) × (given_in n x ≡ only q) × (between : List Place) × DependsByWithInputs n p between q

-- ---- places of the outermost block, outside of all blocks and automata in it: those of right sides, and of what control equations test

abbrev pub in_own_equation : Eqn → Place → Bool
in_own_equation (define s ys e) (Right ∷ p) = true
in_own_equation (switch s e arms) (Test ∷ p) = true
in_own_equation (reset s b e) (Test ∷ p) = true
in_own_equation e p = false

abbrev pub in_own_equations : Eqns → Place → Bool
in_own_equations (more_eqns e es) (Head ∷ p) = in_own_equation e p
in_own_equations (more_eqns e es) (Tail ∷ p) = in_own_equations es p
in_own_equations es p = false

abbrev pub is_outermost : Block → Place → Bool
is_outermost (block ds es) (Equations ∷ p) = in_own_equations es p
is_outermost b p = false

-- ---- laws

-- Let a place stand in the outermost block of a node. What it does not depend on, of inputs and controllable variables, no variable that stands for it depends on in clocked equations of the node without its automata.
abbrev pub PlaceLaw : Type 0
PlaceLaw =
    (types : List TypeDecl) (outputs : List ℕ → List (List ℕ)) (k : Known) (fill : Place → Value) (enums : Enumerations) (n : Node) (f : FlatNode) (s : Stands types outputs k fill (lowered_node enums n) f) (p : Place) (x : List ℕ)
    → NodeOk n → NamesDeclared n → ClocksRight n → Ranked n → IsOld x → IsApart n x → is_outermost n.body p ≡ true → (PlaceDependsOnGiven n (Body ∷ p) x → ⊥)
    → (v w : ℕ) → s.means v ≡ At (Body ∷ p) → s.means w ≡ Input x → DependsOn f.eqns v w → ⊥

-- So the variable of an early place there depends on no controllable variable.
abbrev pub EarlyPlaceLaw : Type 0
EarlyPlaceLaw =
    (types : List TypeDecl) (outputs : List ℕ → List (List ℕ)) (k : Known) (fill : Place → Value) (enums : Enumerations) (program : List Item) (n : Node) (f : FlatNode) (s : Stands types outputs k fill (lowered_node enums n) f) (p : Place) (x : List ℕ)
    → NodeOk n → NamesDeclared n → ClocksRight n → Ranked n → IsOld x → IsApart n x → declares (controls_of n.contract) x ≡ true → is_outermost n.body p ≡ true → IsEarly program n (Body ∷ p)
    → (v w : ℕ) → s.means v ≡ At (Body ∷ p) → s.means w ≡ Input x → DependsOn f.eqns v w → ⊥
