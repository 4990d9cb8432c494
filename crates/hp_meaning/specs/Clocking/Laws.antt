-- What is proved of clocks.
use Rattle.std.specs.Prelude.{◌≡◌}
use Rattle.hp_tree.specs.Programs.{Node}
use Rattle.hp_meaning.specs.Causal.Clocked.{ClocksRight}
use Rattle.hp_meaning.specs.Clocking.Terms.{IsShortest}
use Rattle.hp_meaning.specs.Clocking.Clocking.{Assignment, node_units, node_sights, AreClocks, IsAllowed, node_with_clocks, NodeNamed, NodeWritten, clocks_of_node}
use Rattle.hp_meaning.specs.Clocking.Solving.{Told, NodeVerdict}

-- Solving the units of a node in their order names the first one such that the units up to it allow no clocks; where there is none it gives the shortest clocks that are allowed.
abbrev pub JudgedLaw : Type 0
JudgedLaw = (n : Node) → Told (AreClocks (node_sights n)) (node_units n) (NodeVerdict n)

-- There is at most one shortest assignment.
abbrev pub OneShortestLaw : Type 0
OneShortestLaw = (n : Node) (at other : Assignment) → IsShortest (IsAllowed n) at → IsShortest (IsAllowed n) other → at ≡ other

-- Where an assignment is allowed, the clocks of the node in which it is written are right.
abbrev pub WrittenLaw : Type 0
WrittenLaw = (n : Node) (at : Assignment) → NodeNamed n → IsAllowed n at → ClocksRight (node_with_clocks at n)

-- Then each clock is written.
abbrev pub AllWrittenLaw : Type 0
AllWrittenLaw = (n : Node) (at : Assignment) → NodeWritten (node_with_clocks at n)

-- Where the clocks of a node are right, read as it stands, they are an allowed assignment.
abbrev pub RightLaw : Type 0
RightLaw = (n : Node) → NodeNamed n → ClocksRight n → IsAllowed n (clocks_of_node n)

-- Where each clock is written, writing an allowed assignment changes nothing; so clocks are right exactly where some assignment is allowed.
abbrev pub KeptLaw : Type 0
KeptLaw = (n : Node) (at : Assignment) → NodeWritten n → IsAllowed n at → node_with_clocks at n ≡ n

abbrev pub InstanceLaw : Type 0
InstanceLaw = (n : Node) → NodeNamed n → NodeWritten n → (ClocksRight n → (at : Assignment) × IsAllowed n at) × ((at : Assignment) × IsAllowed n at → ClocksRight n)

-- The clocks that the meaning reads in the program in which the shortest clocks are written are the shortest ones, at each local and each equation.
abbrev pub PassedLaw : Type 0
PassedLaw = (n : Node) (at : Assignment) → NodeNamed n → IsShortest (IsAllowed n) at → clocks_of_node (node_with_clocks at n) ≡ at
