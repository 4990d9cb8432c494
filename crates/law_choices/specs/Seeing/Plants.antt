-- The reactions of nodes that define their controllable variables themselves, in the variables of the nodes in which these are inputs.
-- Source: own; a plant and its closed loop, after Ramadge and Wonham (The control of discrete event systems, Proceedings of the IEEE, 1989).
use Rattle.std.specs.Prelude.{◌≡◌, ℕ, true, List, length, map}
use Rattle.std.specs.List.{AllByRecursion}
use Rattle.hp_base.specs.Kinds.{KindData, AreOfKinds}
use Rattle.hp_base.specs.declared.value.Value.{Value}
use Rattle.hp_obc.specs.Steps.{Names}
use Rattle.hp_tree.specs.declared.program.Item.{Item}
use Rattle.hp_tree.specs.Programs.{Node}
use Rattle.hp_flat.specs.Equations.{FlatEqn}
use Rattle.law_equations.specs.Meaning.Instants.{Instant}
use Rattle.law_equations.specs.Meaning.Reactions.{Answers, Reaction}
use Rattle.hp_controller.specs.Extending.{Extends, cut}
use Rattle.law_choices.specs.Answered.Loops.{Loop, IsItsChoice}
use Rattle.law_choices.specs.Choosing.Choices.{Choices, ReactionUnder}
use Rattle.law_choices.specs.Flat.Names.{is_body_name}
use Rattle.law_choices.specs.Streams.Names.{HasVariableUnder, KeepsNames}

-- a reaction of the closed node, in the variables of the plant
abbrev pub in_plant : Loop → List Instant → List Instant
in_plant l instants = map (cut (length l.plant.variables)) instants

-- The equations of the plant stay, and those behind them define the controllable variables and new ones. What is chosen is what the closed node has.
pub record IsClosedBy (answers : Answers) (takes : Names (List KindData)) (choices : Choices) (controls : ℕ) (l : Loop) : Type 0 where
  pub more : List FlatEqn
  pub extends_it : Extends l.plant l.closed controls more
  pub its : IsItsChoice answers (takes l.plant.name) controls l.closed (choices l.plant.name)

-- Then each reaction of the closed node over inputs of the kinds is, in the variables of the plant, a reaction of the plant in which the values are chosen.
abbrev pub PlantReactionLaw : Type 0
PlantReactionLaw =
    (answers : Answers) (takes : Names (List KindData)) (choices : Choices) (controls : ℕ) (l : Loop) → IsClosedBy answers takes choices controls l → (rows : List (List Value)) (instants : List Instant) → AllByRecursion (AreOfKinds (takes l.plant.name)) rows
    → Reaction answers l.closed rows instants → ReactionUnder choices answers l.plant rows (in_plant l instants)

-- So the names of the node's body have their values in it, wherever these are not Nil: those of the one reaction of the program in which the values are chosen.
abbrev pub PlantNamesLaw : Type 0
PlantNamesLaw =
    (program : List Item) (n : Node) (answers : Answers) (takes : Names (List KindData)) (choices : Choices) (controls : ℕ) (l : Loop) → IsClosedBy answers takes choices controls l → (rows : List (List Value)) (instants : List Instant) → AllByRecursion (AreOfKinds (takes l.plant.name)) rows
    → Reaction answers l.closed rows instants → (kept : KeepsNames choices program answers n l.plant rows) → (x : List ℕ) → is_body_name n x ≡ true → HasVariableUnder program n kept.answered.one.before.past (in_plant l instants) x
