-- What the game of a contract is played with fits wires: inputs, choices, and the outputs of calls.
-- Source: own.
use Rattle.std.specs.Prelude.{List, map, All}
use Rattle.hp_base.specs.declared.value.Value.{Value}
use Rattle.hp_tree.specs.declared.program.Item.{Item}
use Rattle.hp_tree.specs.Blocks.{Decl}
use Rattle.hp_tree.specs.Programs.{TypeDecl, Node}
use Rattle.hp_tree.specs.Operators.{marked}
use Rattle.hp_tree.specs.Instant.{Instant}
use Rattle.hp_tree.specs.Meaning.{types_of, controls_of}
use Rattle.hp_meaning.specs.Causal.Points.{Placed}
use Rattle.hp_meaning.specs.Contract.FreePlaces.{InputsFit, OutputFits, instance_at}
use Rattle.hp_meaning.specs.Contract.Game.{Choice, IsChoiceOf, at_controls}
use Rattle.law_games.specs.Wiretyped.Typed.{AreWires}
use Rattle.law_games.specs.Wiretyped.Kept.{RowGiven, OutputsGiven}

-- Inputs of the abstraction, where an integer counts as its mark.
abbrev pub InputsLaw : Type 0
InputsLaw = (types : List TypeDecl) (ds : List Decl) (vs : List Value) → InputsFit types ds vs → AreWires types ds (map marked vs)

-- The values of a choice at their places.
abbrev pub ChoiceLaw : Type 0
ChoiceLaw = (program : List Item) (n : Node) (c : Choice) → IsChoiceOf program n c → RowGiven (types_of program) (controls_of n.contract) (at_controls c)

-- What is given for the outputs of a call.
abbrev pub OutputsLaw : Type 0
OutputsLaw = (types : List TypeDecl) (c : Placed) (free : Instant) (ds : List Decl) → All (OutputFits types c free) ds → OutputsGiven types ds (instance_at c free)
