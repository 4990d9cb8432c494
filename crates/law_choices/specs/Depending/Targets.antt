-- The names of a node's body are defined by its clocked equations.
use Rattle.std.specs.Prelude.{ℕ, ◌≡◌, true, List, [], ◌∷◌, Contains}
use Rattle.hp_base.specs.declared.value.Value.{Value}
use Rattle.hp_tree.specs.Programs.{TypeDecl, Node}
use Rattle.hp_tree.specs.Instant.{Body, Named, Place}
use Rattle.hp_meaning.specs.Causal.WhatIsRead.{has_equation}
use Rattle.hp_flat.specs.Equations.{FlatEqn}
use Rattle.hp_flat.specs.Nodes.{FlatNode}
use Rattle.law_equations.specs.Flattened.Flatten.{At}
use Rattle.law_equations.specs.Made.Blocks.{IsPlain}
use Rattle.law_equations.specs.Made.Making.{Known}
use Rattle.law_equations.specs.Made.Laws.{Stands}

-- A variable that stands for a name which the body of a node defines is a target of an equation; so is that of each output.
abbrev pub TargetsLaw : Type 0
TargetsLaw =
    (types : List TypeDecl) (outputs : List ℕ → List (List ℕ)) (k : Known) (fill : Place → Value) (n : Node) (f : FlatNode) (s : Stands types outputs k fill n f) → IsPlain n.body
    → (y : List ℕ) → has_equation n.body y ≡ true → (v : ℕ) → s.means v ≡ At (Body ∷ Named y ∷ []) → (e : FlatEqn) × Contains f.eqns e × Contains e.targets v
