-- Instants of the abstraction that fit: of a node, and of the nodes that it calls, whose contracts alone are there.
-- Source: own.
use Rattle.std.specs.Prelude.{◌≡◌, ⊤, ℕ, Bool, false, IsFalse, if◌then◌else◌, List, [], ◌∷◌}
use Rattle.std.specs.Str.{bytes_eq}
use Rattle.hp_base.specs.declared.value.Value.{Value}
use Rattle.hp_base.specs.declared.value.Value.TheVariants.{Absent, B}
use Rattle.hp_tree.specs.declared.program.Item.{Item}
use Rattle.hp_tree.specs.declared.program.Item.TheVariants.{TypeItem, NodeItem}
use Rattle.hp_tree.specs.Programs.{TypeDecl, Node}
use Rattle.hp_tree.specs.Instant.{Inputs, Named, Fresh, Instant, part}
use Rattle.hp_tree.specs.Meaning.{Names, declares, input_of}
use Rattle.hp_tree.specs.Reaction.{row_of}
use Rattle.hp_typing.specs.Scopes.{inside_node}
use Rattle.law_judged.specs.Typed.Scopes.{Scope}
use Rattle.hp_init.specs.Classes.{Assignment}
use Rattle.law_values.specs.Valued.Classed.{seen_in_node}
use Rattle.law_values.specs.Valued.Values.{scope_behind, either_of, Classing, class_here, class_behind}
use Rattle.law_games.specs.Wiretyped.Typed.{AreWires}
use Rattle.law_games.specs.Wiretyped.Kept.{OutputsGiven}
use Rattle.law_games.specs.Abstracted.Fitting.{OutputsFit, ContractFits, NodeFits}
use Rattle.law_games.specs.Abstracted.Given.{ContractGiven, NodeGiven}

-- No node is called in the contract of a called node.
abbrev pub none_fits : List ℕ → Instant → Type 0
none_fits f i = ⊥

abbrev pub any_given : List ℕ → Instant → Type 0
any_given f i = ⊤

-- what the contract of an instance reads: its outputs and inputs
abbrev pub read_names : Node → Instant → Names
read_names n i x = if declares n.outputs x then i (Named x ∷ []) else input_of n.inputs (row_of n.inputs (part Inputs i)) (λ y. Absent) x

module _ (types : List TypeDecl) (nils : Bool) where
  -- an instance: its outputs, its inputs, and the places of its contract
  abbrev pub InstanceFits : Scope → Assignment → Node → Instant → Type 0
  InstanceFits s class n i =
      OutputsFit types n.outputs i
      × (AreWires types n.inputs (row_of n.inputs (part Inputs i))
      × ((i (Fresh ∷ []) ≡ B false)
      × (((x : List ℕ) → IsFalse (declares n.outputs x) → i (Named x ∷ []) ≡ Absent) × ContractFits types nils none_fits (inside_node s n) class (read_names n i) n.contract i)))

  -- of the node of a name among some items, the last one first
  abbrev pub CalledFits : Classing → List Item → List ℕ → Instant → Type 0
  CalledFits class [] f i = ⊤
  CalledFits class (TypeItem t ∷ earlier) f i = CalledFits class earlier f i
  CalledFits class (NodeItem n ∷ earlier) f i =
      either_of (bytes_eq n.name f) (InstanceFits (scope_behind earlier) (seen_in_node (class_here class) n) n i) (CalledFits (class_behind class) earlier f i)

  -- an instant of a node behind some items
  abbrev pub AbstractFits : Classing → List Item → Node → Instant → Type 0
  AbstractFits class earlier n i = NodeFits types nils (CalledFits (class_behind class) earlier) (scope_behind earlier) (seen_in_node (class_here class) n) n i

module _ (types : List TypeDecl) (nils : Bool) (u : Value → Value) where
  -- what is given to these
  abbrev pub InstanceGiven : Scope → Node → Instant → Type 0
  InstanceGiven s n i = OutputsGiven types n.outputs i × ContractGiven types nils u any_given (inside_node s n) n.contract i

  abbrev pub CalledGiven : List Item → List ℕ → Instant → Type 0
  CalledGiven [] f i = ⊤
  CalledGiven (TypeItem t ∷ earlier) f i = CalledGiven earlier f i
  CalledGiven (NodeItem n ∷ earlier) f i = either_of (bytes_eq n.name f) (InstanceGiven (scope_behind earlier) n i) (CalledGiven earlier f i)

  abbrev pub AbstractGiven : List Item → Node → Instant → Type 0
  AbstractGiven earlier n i = NodeGiven types nils u (CalledGiven earlier) (scope_behind earlier) n i
