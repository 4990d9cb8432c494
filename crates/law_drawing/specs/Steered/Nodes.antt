-- What is drawn of a node, and what its free slots stand for: which of them read a controllable variable.
-- Source: own.
use Rattle.std.specs.Prelude.{ℕ, ◌≡◌, ◌<◌, ◌⊎◌, ⊤, Bool, true, List, ◌∷◌, length, Option, None, Some}
use Rattle.hp_tree.specs.Instant.{Body, Controls, Place}
use Rattle.hp_tree.specs.Meaning.{declares}
use Rattle.hp_tree.specs.Programs.{Contract, Node}
use Rattle.hp_meaning.specs.Causal.Sources.{only, below}
use Rattle.hp_meaning.specs.Causal.WhatIsRead.{has_equation}
use Rattle.hp_meaning.specs.Causal.Causality.{Chain}
use Rattle.hp_circuit.specs.declared.circuit.Role.TheVariants as role
use Rattle.hp_circuit.specs.Forms.{slot_at}
use Rattle.hp_circuit.specs.Reading.{edges_of, IsSteered}
use Rattle.hp_drawing.specs.Told.{Told}
use Rattle.hp_drawing.specs.Sketch.{Sketch, empty}
use Rattle.hp_drawing.specs.Places.{top_place}
use Rattle.hp_drawing.specs.Scopes.{Scope}
use Rattle.hp_drawing.specs.DrawnNodes.{contracts, node_scope, node_rows, with_controls, drawn_observer, body_layer, body_scope, drawn_node}
use Rattle.law_drawing.specs.Steered.Marks.{Steering}
use Rattle.law_drawing.specs.Steered.Placed.{contracts_held, ContractPlaced, BlockPlaced}
use Rattle.law_drawing.specs.Steered.Stands.{NodeStands}
use Rattle.law_drawing.specs.Steered.Asked.{BlockFits, ContractFits}

-- A place depends on a controllable variable where it is that of one, or reads one by some chain.
abbrev pub Depends : Node → Place → Type 0
Depends n p = ((q : Place) × (p ≡ Controls ∷ q)) ⊎ ((between : List Place) × (q : Place) × Chain n p between (Controls ∷ q))

-- where each slot has a place
abbrev pub steering_of : Node → (ℕ → Place) → Steering
steering_of n place = record { places = Depends n; slots = λ i. only (place i) }

-- In a node, and in the contracts of those that it calls, calls fit and each name is defined once; and the body defines the outputs.
pub record NodeFits (t : Told) (n : Node) : Type 0 where
  pub body : BlockFits t n.body
  pub outputs : (x : List ℕ) → declares n.outputs x ≡ true → has_equation n.body x ≡ true
  pub contract : ContractFits t n.contract
  pub callees : (f : List ℕ) (m : Node) → t.nodes f ≡ Some m → ContractFits t m.contract

module _ (steers : Steering) where
  abbrev pub ObserverPlaced : Told → Scope → Option Contract → Sketch → Type 0
  ObserverPlaced t z None s = ⊤
  ObserverPlaced t z (Some c) s = ContractPlaced steers t contracts (contracts_held steers t) z top_place c only s

  -- the slots of a node stand for its places
  abbrev pub NodePlaced : Told → Node → Type 0
  NodePlaced t n =
      let z = node_scope t n empty in
      let s = with_controls t n z.1 in
      let rows = node_rows t n empty z.1 in
      let g = drawn_observer t z.0 n.contract s in
      ObserverPlaced t z.0 n.contract s × BlockPlaced steers t contracts (contracts_held steers t) (body_scope (body_layer t n rows.inputs rows.controls) z.0) top_place n.body (below Body only) g.1

-- Where the free slots of a node stand for its places by the plan of its slots, one whose wire in what is drawn reads a controllable variable is that of a place that depends on one.
abbrev pub NodeMarksLaw : Type 0
NodeMarksLaw =
    (t : Told) (n : Node) (place : ℕ → Place) → NodeFits t n → NodeStands (steering_of n place) t n
    → let s = drawn_node t n in
    (i : ℕ) → i < length s.slots → (early : Bool) → (slot_at s.slots i).role ≡ role.Free early → IsSteered s.slots (edges_of s.wires s.reads) (slot_at s.slots i).wire → Depends n (place i)
