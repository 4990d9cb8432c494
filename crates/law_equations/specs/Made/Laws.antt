-- The equations that are made of a node stand for its flat names.
use Rattle.std.specs.Prelude.{◌≡◌, ℕ, ◌+◌, true, List, [], ◌∷◌, ◌++◌, length, map}
use Rattle.hp_base.specs.declared.value.Value.{Value}
use Rattle.hp_tree.specs.Blocks.{Decl}
use Rattle.hp_tree.specs.Programs.{TypeDecl, Node}
use Rattle.hp_tree.specs.Instant.{Named, Place}
use Rattle.hp_tree.specs.Meaning.{declares, block_defines, controls_of}
use Rattle.hp_flat.specs.Equations.{FlatEqn}
use Rattle.hp_flat.specs.Nodes.{FlatNode}
use Rattle.law_equations.specs.Flattened.Flatten.{FlatName, At, flatten}
use Rattle.law_equations.specs.Flattened.Lifted.{in_body}
use Rattle.law_equations.specs.Flattened.Numbered.{AreEquationsFor}
use Rattle.law_equations.specs.Made.Labels.{events, AreMadeAt, block_labels}
use Rattle.law_equations.specs.Made.Making.{Known, Seen, Body, base_site, unknown, over, outputs_of, numbers_from, signature, remember_all, sketch_node}
use Rattle.law_equations.specs.Made.Blocks.{DeclaredOnce, IsPlain, ReadyBlock}
use Rattle.law_equations.specs.Made.Standing.{Knows}

-- the variables around the body of a node, with what is remembered of outputs
abbrev pub around_body : Known → Node → Seen
around_body k n = remember_all k base_site unknown n.outputs (signature k n)

-- What is asked of a node: no automaton is left, names are declared once, the body defines the outputs and what it declares, and the first value of each register is that of its type.
pub record NodeReady (k : Known) (fill : Place → Value) (n : Node) : Type 0 where
  pub inputs : DeclaredOnce n.inputs
  pub controls : DeclaredOnce (controls_of n.contract)
  pub outputs : DeclaredOnce n.outputs
  pub plain : IsPlain n.body
  pub defined : (x : List ℕ) → declares n.outputs x ≡ true → block_defines n.body x ≡ true
  pub nothing_else : (x : List ℕ) → block_defines n.body x ≡ true → declares n.outputs x ≡ true
  pub first_values : ReadyBlock k fill Body (over (around_body k n).0 unknown) base_site n.body in_body (around_body k n).1

abbrev pub names : List Decl → List (List ℕ)
names ds = map (λ (d : Decl). d.name) ds

-- an equation, whatever its place is
abbrev pub unplaced : FlatEqn → FlatEqn
unplaced e = record e { at = 0 }

-- the name of the body for an output
abbrev pub body_name : List ℕ → FlatName
body_name o = At (in_body (Named o ∷ []))

-- The equations of a node stand for its flat names, and its outputs for the body's names of the node's outputs.
pub record Stands (types : List TypeDecl) (outputs : List ℕ → List (List ℕ)) (k : Known) (fill : Place → Value) (n : Node) (f : FlatNode) : Type 0 where
  pub means : ℕ → FlatName
  pub equations : AreEquationsFor means (flatten types outputs fill n) (names n.inputs ++ names (controls_of n.contract)) (λ g. length (outputs_of (k.nodes g))) f
  pub outputs_are : map means f.outputs ≡ map body_name (names n.outputs)

-- Each variable then stands for a flat name, such that the equations made of the node stand for those of these names. Its first variables are the inputs, the controllable variables and the outputs; where its equations stand does not matter.
abbrev pub MadeLaw : Type 0
MadeLaw =
    (types : List TypeDecl) (outputs : List ℕ → List (List ℕ)) (k : Known) (fill : Place → Value) (n : Node) (f : FlatNode) → Knows types outputs k → NodeReady k fill n
    → f.inputs ≡ length n.inputs + length (controls_of n.contract) → f.outputs ≡ numbers_from (length n.inputs + length (controls_of n.contract)) n.outputs
    → map unplaced f.eqns ≡ map unplaced (sketch_node k n).eqns
    → Stands types outputs k fill n f

-- The equations that compare or call are, moreover, one by one in their order those of the comparisons and calls of the body, and their variables stand for the places of these.
abbrev pub MadePlacesLaw : Type 0
MadePlacesLaw =
    (types : List TypeDecl) (outputs : List ℕ → List (List ℕ)) (k : Known) (fill : Place → Value) (n : Node) (f : FlatNode) → Knows types outputs k → NodeReady k fill n
    → f.inputs ≡ length n.inputs + length (controls_of n.contract) → f.outputs ≡ numbers_from (length n.inputs + length (controls_of n.contract)) n.outputs
    → map unplaced f.eqns ≡ map unplaced (sketch_node k n).eqns
    → (s : Stands types outputs k fill n f) × AreMadeAt s.means (events f.eqns) (block_labels outputs n.body in_body [])
