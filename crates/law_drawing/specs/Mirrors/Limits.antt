-- How many bits of each kind the contract of a node has, and when they pass a limit.
-- Source: own. A circuit that has too many bits has no machine; these are the bits of the node that it is drawn of.
use Rattle.std.specs.Prelude.{ℕ, ◌≡◌, ◌↔◌, Bool, List, map, sum}
use Rattle.hp_base.specs.declared.limit.Limit.{Limit}
use Rattle.hp_tree.specs.declared.program.Item.{Item}
use Rattle.hp_tree.specs.Instant.{Place}
use Rattle.hp_tree.specs.Meaning.{types_of}
use Rattle.hp_tree.specs.Programs.{Node}
use Rattle.hp_meaning.specs.Contract.Slots.{width_of, slots_of_node, registers}
use Rattle.hp_circuit.specs.declared.kind.Kind.{Kind}
use Rattle.hp_circuit.specs.declared.kind.Kind.TheVariants.{Registers, Early, Control, Late}
use Rattle.hp_circuit.specs.Kinds.{bits_of}
use Rattle.hp_circuit.specs.Machines.{IsFirstPassed}
use Rattle.law_games.specs.Mirror.Mirrored.{widths_at, early_among, controls_among, late_among}
use Rattle.law_drawing.specs.Mirroring.Carried.{AreEarly}
use Rattle.law_drawing.specs.Mirrors.Drawn.{OfDrawnNodes}

-- the bits of the registers of a node, of its inputs and early places, of its controllable variables, and of all other places that are given
abbrev pub node_bits : List Item → Node → (Place → Bool) → Kind → ℕ
node_bits program n early Registers = sum (map (λ r. width_of r.1) (registers program n))
node_bits program n early Early = sum (widths_at (types_of program) (early_among early (slots_of_node program n)))
node_bits program n early Control = sum (widths_at (types_of program) (controls_among (slots_of_node program n)))
node_bits program n early Late = sum (widths_at (types_of program) (late_among early (slots_of_node program n)))

-- The bits of a node pass a limit, where exactly its early places are told to be early.
pub record IsOver (program : List Item) (n : Node) (limit : Limit) : Type 0 where
  pub early : Place → Bool
  pub are_early : AreEarly program n early
  pub passed : IsFirstPassed (node_bits program n early) limit

-- The circuit that is drawn of a node of a ready program has as many bits of each kind as the node, where it is told of each wire whether it reads a controllable variable.
abbrev pub BitsLaw : Type 0
BitsLaw = OfDrawnNodes (λ after earlier n c steered. (early : Place → Bool) → AreEarly after n early → (kind : Kind) → bits_of steered kind c.slots.items ≡ node_bits after n early kind)

-- So its bits pass a limit where those of the node do, and nowhere else.
abbrev pub LimitLaw : Type 0
LimitLaw = OfDrawnNodes (λ after earlier n c steered. (limit : Limit) → IsFirstPassed (λ kind. bits_of steered kind c.slots.items) limit ↔ IsOver after n limit)
