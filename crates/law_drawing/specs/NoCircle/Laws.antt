-- The wires that are drawn of a node read each other in no circle.
-- Source: own. Each wire has a mark, which is above those of the wires that it reads: of the places of a node by their ranks, and of the steps of drawing within a place. A wire that stays open would be a copy of itself, so this says too that each one is said.
use Rattle.std.specs.Prelude.{ℕ, List}
use Rattle.hp_tree.specs.Programs.{TypeDecl, Node}
use Rattle.hp_graph.specs.Graphs.{IsCycle}
use Rattle.hp_circuit.specs.Reading.{edges_of}
use Rattle.law_games.specs.Forced.Laws.{OfReadyNodes}
use Rattle.hp_drawing.specs.DrawnNodes.{drawn_node}
use Rattle.hp_drawing.specs.Told.{Told, told_of}
use Rattle.law_drawing.specs.NoCircle.Nodes.{NodeAsked}

-- So it is of each node that is as it is asked of nodes,
abbrev pub NodeCircleLaw : Type 0
NodeCircleLaw = (types : List TypeDecl) (t : Told) (n : Node) → NodeAsked types t n → let s = drawn_node t n in (wires : List ℕ) → IsCycle (edges_of s.wires s.reads) wires → ⊥

-- and so of each node of a ready program.
abbrev pub NoCircleLaw : Type 0
NoCircleLaw = OfReadyNodes (λ after earlier n. let s = drawn_node (told_of after) n in (wires : List ℕ) → IsCycle (edges_of s.wires s.reads) wires → ⊥)
