-- The law of the form of drawn circuits: in a ready program what is drawn of a node is a circuit.
-- Source: own.
use Rattle.hp_circuit.specs.declared.circuit.Circuit.{Circuit}
use Rattle.hp_circuit.specs.Forms.{IsCircuit}
use Rattle.hp_drawing.specs.DrawnNodes.{drawn_node}
use Rattle.hp_drawing.specs.Seen.{IsOf}
use Rattle.hp_drawing.specs.Told.{told_of}
use Rattle.law_games.specs.Forced.Laws.{OfReadyNodes}

-- Of each node of a ready program: each circuit that has the lists of what is drawn of the node is a circuit. Its numbers name wires and slots, and what each wire and each register reads has the right shape.
abbrev pub FormLaw : Type 0
FormLaw = OfReadyNodes (λ after earlier n. (c : Circuit) → IsOf c (drawn_node (told_of after) n) → IsCircuit c)
