-- Clocked equations depend on no more of what a node is given than the node does.
use Rattle.std.specs.Prelude.{ℕ, ◌≡◌, List, [], ◌∷◌, ◌++◌, slice_get, Some}
use Rattle.hp_base.specs.declared.value.Value.{Value}
use Rattle.hp_tree.specs.Programs.{TypeDecl, Node}
use Rattle.hp_tree.specs.Instant.{Body, Named, Place}
use Rattle.hp_tree.specs.Meaning.{controls_of}
use Rattle.hp_meaning.specs.Causal.Causality.{IsCausal}
use Rattle.hp_meaning.specs.Causal.Clocked.{ClocksRight, own_clock}
use Rattle.hp_meaning.specs.Causal.Points.{NamesDeclared}
use Rattle.hp_automata.specs.Lowering.{Enumerations, lowered_node}
use Rattle.law_automata.specs.Lowered.OldNames.{IsOld}
use Rattle.law_automata.specs.Lowered.Removable.{NodeOk}
use Rattle.hp_flat.specs.Nodes.{FlatNode}
use Rattle.law_equations.specs.Flattened.Flatten.{At, Input}
use Rattle.law_equations.specs.Made.Making.{Known}
use Rattle.law_equations.specs.Made.Laws.{names, Stands}
use Rattle.law_choices.specs.Independent.Dependence.{IsOwn, DependsOnGiven}
use Rattle.law_choices.specs.Independent.Laws.{IsApart}
use Rattle.law_choices.specs.Depending.Dependence.{DependsOn}

-- In a node whose names are declared, whose clocks are right and that is causal, let a name of the body be on the base clock. Where it does not depend on
-- something that is given, no variable of equations that stand for the node depends so on the variable of what is given.
abbrev pub NodeLaw : Type 0
NodeLaw =
    (types : List TypeDecl) (outputs : List ℕ → List (List ℕ)) (k : Known) (fill : Place → Value) (n : Node) (f : FlatNode) (s : Stands types outputs k fill n f) (y x : List ℕ)
    → NamesDeclared n → ClocksRight n → IsCausal n → IsApart n x → own_clock n.body y ≡ [] → (DependsOnGiven n y x → ⊥)
    → (v w : ℕ) → s.means v ≡ At (Body ∷ Named y ∷ []) → s.means w ≡ Input x → DependsOn f.eqns v w → ⊥

-- So it is with equations that stand for a node without its automata: what an output or a local of the node before does not depend on, its variable does not.
abbrev pub BothLaw : Type 0
BothLaw =
    (types : List TypeDecl) (outputs : List ℕ → List (List ℕ)) (k : Known) (fill : Place → Value) (enums : Enumerations) (n : Node) (f : FlatNode) (s : Stands types outputs k fill (lowered_node enums n) f) (y x : List ℕ)
    → NodeOk n → NamesDeclared n → ClocksRight n → IsCausal n → IsOld x → IsApart n x → IsOwn n y → own_clock n.body y ≡ [] → (DependsOnGiven n y x → ⊥)
    → (v w : ℕ) → s.means v ≡ At (Body ∷ Named y ∷ []) → s.means w ≡ Input x → DependsOn f.eqns v w → ⊥

-- In such equations the variable of each output stands for its name in the body, and the first variables for what is given: inputs, and controllable variables behind them.
abbrev pub VariablesLaw : Type 0
VariablesLaw =
    (types : List TypeDecl) (outputs : List ℕ → List (List ℕ)) (k : Known) (fill : Place → Value) (n : Node) (f : FlatNode) (s : Stands types outputs k fill n f)
    → ((i v : ℕ) (y : List ℕ) → slice_get (names n.outputs) i ≡ Some y → slice_get f.outputs i ≡ Some v → s.means v ≡ At (Body ∷ Named y ∷ []))
    × ((w : ℕ) (x : List ℕ) → slice_get (names n.inputs ++ names (controls_of n.contract)) w ≡ Some x → s.means w ≡ Input x)
