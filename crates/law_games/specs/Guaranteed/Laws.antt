-- The runs of a ready program keep its contracts.
-- Source: own. Where no violation of any contract is ever forced in its game, each instance in a run keeps its contract, at every depth: while its assumption has held, what it enforces holds.
use Rattle.std.specs.Prelude.{◌≡◌, ℕ, true, IsTrue, List, ◌∷◌, map, reverse, Some}
use Rattle.hp_base.specs.declared.value.Value.{Value}
use Rattle.hp_base.specs.declared.value.Value.TheVariants.{Nil}
use Rattle.hp_tree.specs.declared.program.Item.{Item}
use Rattle.hp_tree.specs.Programs.{Node}
use Rattle.hp_tree.specs.Instant.{Instant, Past}
use Rattle.hp_tree.specs.Meaning.{types_of, node_among}
use Rattle.hp_tree.specs.Reaction.{Reaction, Each, NodeReaction, IsRun, outputs_at}
use Rattle.hp_tree.specs.Values.{AreOf}
use Rattle.hp_meaning.specs.Causal.Runs.{NoControls}
use Rattle.hp_meaning.specs.Contract.ChosenRuns.{ControlledThroughout, NamesApart}
use Rattle.hp_meaning.specs.Contract.Duties.{enforces}
use Rattle.hp_meaning.specs.Contract.Game.{IsAllowed}
use Rattle.hp_meaning.specs.Contract.Guarantee.{Through, AllAssumed, TypedAll, Guaranteed, AllSafe}
use Rattle.law_values.specs.Valued.Values.{GivenFits}
use Rattle.law_values.specs.Accepted.Laws.{IsReady}
use Rattle.law_games.specs.ReadyGames.Laws.{IsInOrder}

-- A law of each reaction of a node of a ready program, over inputs of the types of the node's, with values of their types given for the controllable variables.
abbrev pub OfReactions : (List Item → List ℕ → Past → Type 0) → Type 0
OfReactions law =
    (program after : List Item) (ranks : List (List ℕ)) → IsInOrder program after ranks
    → (f : List ℕ) (n : Node) (inputs : List (List Value)) (frees : List Instant) (past : Past) → node_among (reverse after) f ≡ Some n
    → Each (AreOf (types_of after) n.inputs) inputs → Each (GivenFits (types_of after) true (λ given. Nil) (reverse after) f) frees → Reaction after f inputs frees past
    → law after f past

-- No two nodes of a ready program have one name.
abbrev pub ApartLaw : Type 0
ApartLaw = (program after : List Item) → IsReady program after → NamesApart (reverse after)

-- Each instant of the node and of each instance, at every depth, has values of the types that the guarantee of a run asks for.
abbrev pub TypedLaw : Type 0
TypedLaw = OfReactions (λ after f past. Through (λ older now. TypedAll after (reverse after) f now) past)

-- So where no violation is ever forced, and the controllable variables have choices that are permitted wherever some are, each instance keeps its contract.
abbrev pub ChoicesKeepContractsLaw : Type 0
ChoicesKeepContractsLaw = OfReactions (λ after f past. AllSafe after (reverse after) → ControlledThroughout (IsAllowed after) (reverse after) f past → Through (Guaranteed (reverse after) f) past)

-- Without controllable variables each reaction does, whatever is given.
abbrev pub RunsKeepContractsLaw : Type 0
RunsKeepContractsLaw =
    (program after : List Item) (ranks : List (List ℕ)) → IsInOrder program after ranks → NoControls after → AllSafe after (reverse after)
    → (f : List ℕ) (n : Node) (inputs : List (List Value)) (frees : List Instant) (past : Past) → node_among (reverse after) f ≡ Some n
    → Each (AreOf (types_of after) n.inputs) inputs → Reaction after f inputs frees past
    → Through (Guaranteed (reverse after) f) past

-- In the words of runs: each reaction over the inputs of a run gives its outputs, and keeps these contracts.
abbrev pub NodeRunsKeepContractsLaw : Type 0
NodeRunsKeepContractsLaw =
    (program after : List Item) (ranks : List (List ℕ)) → IsInOrder program after ranks → NoControls after → AllSafe after (reverse after)
    → (f : List ℕ) (inputs outputs : List (List Value)) (frees : List Instant) (past : Past) → IsRun after f inputs outputs → NodeReaction after f (reverse inputs) frees past
    → (reverse (map (outputs_at after f) past) ≡ outputs) × Through (Guaranteed (reverse after) f) past

-- And so the node itself keeps its own: at each instant of the run at which its assumption holds, and held at all instants before, what it enforces holds.
abbrev pub OwnContractLaw : Type 0
OwnContractLaw =
    (program after : List Item) (ranks : List (List ℕ)) → IsInOrder program after ranks → NoControls after → AllSafe after (reverse after)
    → (f : List ℕ) (inputs : List (List Value)) (frees : List Instant) (past : Past) → NodeReaction after f inputs frees past
    → Through (λ older now. AllAssumed (now ∷ older) → IsTrue (enforces now)) past
