-- In a node of which nothing is free but the inputs the controllable variables have the greatest permitted values, in each reaction that the nodes that choose answer with.
-- Source: own; the controller of Delaval, Marchand and Rutten (LCTES 2010).
use Rattle.std.specs.Prelude.{◌≡◌, ◌⊎◌, ⊤, ℕ, List, [], ◌∷◌, map, reverse, Some}
use Rattle.std.specs.List.{AllByRecursion}
use Rattle.hp_base.specs.Kinds.{AreOfKinds}
use Rattle.hp_base.specs.declared.value.Value.{Value}
use Rattle.hp_obc.specs.Machines.{ObcType}
use Rattle.hp_tree.specs.declared.program.Item.{Item}
use Rattle.hp_tree.specs.declared.program.Item.TheVariants.{TypeItem, NodeItem}
use Rattle.hp_tree.specs.Programs.{Node}
use Rattle.hp_tree.specs.Instant.{Inputs, Instant, Past, part}
use Rattle.hp_tree.specs.Meaning.{types_of, node_among, controls_of}
use Rattle.hp_tree.specs.Reaction.{Reaction, controls_at, outputs_at, row_of}
use Rattle.hp_meaning.specs.Contract.Forgetting.{erase}
use Rattle.hp_meaning.specs.Contract.Game.{IsChosen}
use Rattle.hp_meaning.specs.Contract.Guarantee.{Through}
use Rattle.law_equations.specs.Followed.Programs.{all_answers}
use Rattle.law_equations.specs.Made.Types.{obc_types}
use Rattle.law_games.specs.ReadyGames.Laws.{IsInOrder}
use Rattle.law_wellmade.specs.Timely.Kinds.{kinds_of_decls}
use Rattle.hp_watch.specs.Watching.{Observing}
use Rattle.law_choices.specs.Runs.Chosen.{ChosenReaction}
use Rattle.law_choices.specs.InTurn.Laws.{IsAllowed, IsChoosing}
use Rattle.law_choices.specs.InTurn.Nodes.{Made, plain, contracted}
use Rattle.law_choices.specs.Playing.Inputs.{HasInputsAlone}
use Rattle.law_choices.specs.Playing.Mirrored.{IsMirrored}

-- Of what is made of some items, in order, each node with a contract asks a machine that mirrors it; the items before them are given with the last one first.
abbrev pub AreMirrored : List ObcType → Observing → List Item → List Item → List Item → List Made → Type 0
AreMirrored types observers after earlier [] ms = ⊤
AreMirrored types observers after earlier (TypeItem t ∷ items) ms = AreMirrored types observers after (TypeItem t ∷ earlier) items ms
AreMirrored types observers after earlier (NodeItem n ∷ items) [] = ⊤
AreMirrored types observers after earlier (NodeItem n ∷ items) (plain f ∷ ms) = AreMirrored types observers after (NodeItem n ∷ earlier) items ms
AreMirrored types observers after earlier (NodeItem n ∷ items) (contracted c ∷ ms) = IsMirrored types observers after earlier n c × AreMirrored types observers after (NodeItem n ∷ earlier) items ms

-- The controllable variables of a node have the greatest permitted values at an instant after a past, over the inputs that it holds.
abbrev pub ChoosesGreatest : List Item → Node → Past → Instant → Type 0
ChoosesGreatest program n past now = IsChosen program n (erase past) (row_of n.inputs (part Inputs now)) now (controls_at n now)

-- A node has no controllable variable, or nothing is free in it but the inputs.
abbrev pub KnowsAll : List Item → Node → Type 0
KnowsAll program n = (controls_of n.contract ≡ []) ⊎ HasInputsAlone program n

-- So it is throughout each reaction of such a node, over inputs of its kinds, in which the values are those that the nodes that choose have.
abbrev pub GreatestLaw : Type 0
GreatestLaw =
    (program after : List Item) (ranks : List (List ℕ)) (observers : Observing) (ms : List Made) → IsInOrder program after ranks → IsChoosing program after observers ms → AreMirrored (obc_types (types_of after)) observers after [] after ms
    → (allowed : IsAllowed after ms) (f : List ℕ) (n : Node) (inputs : List (List Value)) (past : Past) → node_among (reverse after) f ≡ Some n → KnowsAll after n
    → AllByRecursion (AreOfKinds (kinds_of_decls (types_of after) n.inputs)) inputs → ChosenReaction (allowed.allowed).choices after f inputs past → Through (ChoosesGreatest after n) past

-- What is said over inputs, newest first, are the outputs of a reaction of the program in which the node has the greatest permitted values at each instant.
pub record IsGreatestRun (program : List Item) (f : List ℕ) (n : Node) (inputs said : List (List Value)) : Type 0 where
  pub past : Past
  pub reaction : Reaction program f inputs past past
  pub greatest : Through (ChoosesGreatest program n) past
  pub outputs : map (outputs_at program f) past ≡ said

-- So it is of what each such node answers on inputs of its kinds.
abbrev pub GreatestRunLaw : Type 0
GreatestRunLaw =
    (program after : List Item) (ranks : List (List ℕ)) (observers : Observing) (ms : List Made) → IsInOrder program after ranks → IsChoosing program after observers ms → AreMirrored (obc_types (types_of after)) observers after [] after ms
    → (allowed : IsAllowed after ms) (f : List ℕ) (n : Node) (inputs : List (List Value)) → node_among (reverse after) f ≡ Some n → KnowsAll after n → AllByRecursion (AreOfKinds (kinds_of_decls (types_of after) n.inputs)) inputs
    → IsGreatestRun after f n inputs (all_answers ((allowed.one).answers f) inputs)
