-- When the assumption of a node reads a controllable variable at its own instant.
-- Source: own. Such a node has no machine: what is assumed of an instant is told before its controllable variables are chosen.
use Rattle.std.specs.Prelude.{ℕ, ◌≡◌, ◌↔◌, List, [], ◌∷◌, Some}
use Rattle.hp_tree.specs.Expressions.{Expr}
use Rattle.hp_tree.specs.Instant.{Assume, Controls, Place}
use Rattle.hp_tree.specs.Programs.{Contract, Node}
use Rattle.hp_meaning.specs.Causal.Causality.{Chain}
use Rattle.hp_meaning.specs.Causal.Sources.{only, below}
use Rattle.hp_meaning.specs.Causal.WhatIsRead.{control_in}
use Rattle.hp_circuit.specs.declared.circuit.Circuit.{Circuit}
use Rattle.hp_circuit.specs.Machines as circuit
use Rattle.hp_drawing.specs.DrawnNodes.{drawn_node}
use Rattle.hp_drawing.specs.Seen.{IsOf}
use Rattle.hp_drawing.specs.Told.{told_of}
use Rattle.law_games.specs.Forced.Laws.{OfReadyNodes}

-- The contract of a node assumes something, and the assumption reads a controllable variable of the contract at its own instant:
-- a chain of places, each of which reads the next one at that instant, leads from the assumption to the place of the variable.
pub record AssumesControl (n : Node) : Type 0 where
  pub contract : Contract
  pub is : n.contract ≡ Some contract
  pub assumption : Expr
  pub assumed : contract.assume ≡ Some assumption
  -- a name that is chosen, and its place
  pub name : List ℕ
  pub control : Place
  pub chosen : control_in contract.controls (below Controls only) name ≡ only control
  pub between : List Place
  pub chain : Chain n (Assume ∷ []) between control

-- In the circuit that is drawn of a node of a ready program the wire of the assumption reads a controllable variable exactly where the assumption of the node does.
abbrev pub AssumeLaw : Type 0
AssumeLaw = OfReadyNodes (λ after earlier n. (c : Circuit) → IsOf c (drawn_node (told_of after) n) → circuit.AssumesControl c ↔ AssumesControl n)
