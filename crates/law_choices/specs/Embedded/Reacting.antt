-- The contract's part of a reaction of a node is a reaction of the contract's observer.
-- Source: own; what a contract sees are the inputs and outputs of its node (Delaval, Marchand, Rutten, LCTES 2010).
use Rattle.std.specs.Prelude.{◌≡◌, ℕ, List, length, reverse, Some}
use Rattle.std.specs.List.{AllByRecursion}
use Rattle.hp_base.specs.declared.value.Value.{Value}
use Rattle.hp_tree.specs.declared.program.Item.{Item}
use Rattle.hp_tree.specs.Instant.{Past}
use Rattle.hp_tree.specs.Meaning.{node_among}
use Rattle.hp_tree.specs.Programs.{Contract, Node}
use Rattle.hp_meaning.specs.Contract.Forgetting.{ContractsCallNothing}
use Rattle.law_automata.specs.Lowered.Standing.{Along}
use Rattle.law_games.specs.ReadyGames.Laws.{IsInOrder}
use Rattle.law_judged.specs.Named.Scoped.{EachNode}
use Rattle.hp_watch.specs.Observing.{observers}
use Rattle.law_choices.specs.Choosing.Choices.{Choices}
use Rattle.law_choices.specs.Embedded.Observed.{IsObserved, observed_rows}
use Rattle.law_choices.specs.Observed.Contracts.{IsObservable}
use Rattle.law_choices.specs.Runs.Chosen.{ChosenReaction}

-- A reaction of the observer over the inputs and outputs of a reaction of its node, which holds at each instant what the contract's part holds.
pub record ObserverReacts (others : Choices) (after : List Item) (n : Node) (c : Contract) (rows : List (List Value)) (past : Past) : Type 0 where
  pub instants : Past
  pub reaction : ChosenReaction others (observers after) n.name (observed_rows n.outputs rows past) instants
  pub same : Along (IsObserved c) past instants

-- There is one beside each reaction of a node with a contract over rows that have a value for each input. An observer has no controllable variables, so it does not matter how it chooses.
abbrev pub ObserverReactsLaw : Type 0
ObserverReactsLaw =
    (program after : List Item) (ranks : List (List ℕ)) → IsInOrder program after ranks → ContractsCallNothing after → EachNode IsObservable after
    → (choices others : Choices) (f : List ℕ) (n : Node) (c : Contract) (rows : List (List Value)) (past : Past) → node_among (reverse after) f ≡ Some n → n.contract ≡ Some c
    → AllByRecursion (λ (row : List Value). length row ≡ length n.inputs) rows → ChosenReaction choices after f rows past
    → ObserverReacts others after n c rows past
