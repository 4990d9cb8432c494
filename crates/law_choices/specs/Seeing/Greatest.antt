-- In a node of which the controller sees values of the free places the controllable variables have the greatest permitted values.
-- Source: own; the controller of Delaval, Marchand and Rutten (LCTES 2010).
use Rattle.std.specs.Prelude.{◌≡◌, ℕ, List, [], reverse, Some}
use Rattle.std.specs.List.{AllByRecursion}
use Rattle.hp_base.specs.Kinds.{AreOfKinds}
use Rattle.hp_base.specs.declared.value.Value.{Value}
use Rattle.hp_tree.specs.declared.program.Item.{Item}
use Rattle.hp_tree.specs.Programs.{Node}
use Rattle.hp_tree.specs.Instant.{Past}
use Rattle.hp_tree.specs.Meaning.{types_of, node_among}
use Rattle.hp_meaning.specs.Contract.Guarantee.{Through}
use Rattle.law_equations.specs.Made.Types.{obc_types}
use Rattle.law_games.specs.ReadyGames.Laws.{IsInOrder}
use Rattle.law_wellmade.specs.Timely.Kinds.{kinds_of_decls}
use Rattle.hp_watch.specs.Watching.{Observing}
use Rattle.law_choices.specs.InTurn.Laws.{IsAllowed, IsChoosing}
use Rattle.law_choices.specs.InTurn.Nodes.{Made}
use Rattle.law_choices.specs.Playing.Greatest.{AreMirrored, ChoosesGreatest}
use Rattle.law_choices.specs.Runs.Chosen.{ChosenReaction}
use Rattle.law_choices.specs.Seeing.Held.{SeesOwn}

-- So it is throughout each reaction of such a node, over inputs of its kinds, in which the values are those that the nodes that choose have. That the equations hold the values of the reaction is a premise.
abbrev pub SeenGreatestLaw : Type 0
SeenGreatestLaw =
    (program after : List Item) (ranks : List (List ℕ)) (observers : Observing) (ms : List Made) → IsInOrder program after ranks → IsChoosing program after observers ms → AreMirrored (obc_types (types_of after)) observers after [] after ms
    → (allowed : IsAllowed after ms) (f : List ℕ) (n : Node) (inputs : List (List Value)) (past : Past) → node_among (reverse after) f ≡ Some n → AllByRecursion (AreOfKinds (kinds_of_decls (types_of after) n.inputs)) inputs
    → ChosenReaction (allowed.allowed).choices after f inputs past → SeesOwn (obc_types (types_of after)) observers after ms n (allowed.one).answers inputs past → Through (ChoosesGreatest after n) past
