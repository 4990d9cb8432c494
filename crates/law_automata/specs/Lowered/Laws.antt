-- Removing automata keeps reactions, right clocks and ranks.
use Rattle.std.specs.Prelude.{ℕ, ◌≡◌, ⊤, List, [], ◌∷◌, map}
use Rattle.hp_base.specs.declared.value.Value.{Value}
use Rattle.hp_base.specs.declared.value.Value.TheVariants.{Nil}
use Rattle.hp_tree.specs.declared.program.Item.{Item}
use Rattle.hp_tree.specs.declared.program.Item.TheVariants.{TypeItem, NodeItem}
use Rattle.hp_tree.specs.Programs.{Node}
use Rattle.hp_tree.specs.Instant.{Instant, Past}
use Rattle.hp_tree.specs.Meaning.{meaning}
use Rattle.hp_tree.specs.Reaction.{Reaction, Each, outputs_at}
use Rattle.hp_meaning.specs.Causal.Causality.{Ranked, IsRanked}
use Rattle.hp_meaning.specs.Causal.Clocked.{ClocksRight}
use Rattle.hp_meaning.specs.Causal.OneReaction.{ReactionOf}
use Rattle.hp_meaning.specs.Causal.Runs.{NoControls}
use Rattle.hp_automata.specs.Lowering.{Enumerations, lowered_node, lowered_program}
use Rattle.law_automata.specs.Lowered.Removable.{NodeOk, IsRemovable}
use Rattle.law_automata.specs.Lowered.Standing.{Along, Stands}
use Rattle.law_automata.specs.Lowered.Giving.{reading, SameGiven}
use Rattle.law_automata.specs.Lowered.Deciding.{IsDecided}

-- Whatever a `pre` without a past gives: each reaction of a node in which conditions of transitions have truth values gives a reaction
-- of the program without automata, over the same inputs, which stands for it.
abbrev pub ReadLaw : Type 0
ReadLaw =
    (u : Value → Value) (program : List Item) → IsRemovable program → (f : List ℕ) (inputs : List (List Value)) (frees frees' : List Instant) (past : Past) → ReactionOf (meaning (reading u) program f) inputs frees past
    → Along (SameGiven u program f) frees frees' → Each (IsDecided program f) past
    → (past' : Past) × ReactionOf (meaning (reading u) (lowered_program program) f) inputs frees' past' × Along (Stands program f) past past'

-- what is given to controllable variables is the same
abbrev pub SameControls : List Item → List ℕ → Instant → Instant → Type 0
SameControls program f = SameGiven (λ given. Nil) program f

-- So in the language itself.
abbrev pub RealLaw : Type 0
RealLaw =
    (program : List Item) → IsRemovable program → (f : List ℕ) (inputs : List (List Value)) (frees frees' : List Instant) (past : Past) → Reaction program f inputs frees past
    → Along (SameControls program f) frees frees' → Each (IsDecided program f) past
    → (past' : Past) × Reaction (lowered_program program) f inputs frees' past' × Along (Stands program f) past past'

-- Where the program without automata has ranks, each of its reactions stands for the one of the program.
abbrev pub OnlyLaw : Type 0
OnlyLaw =
    (program : List Item) → IsRemovable program → IsRanked (lowered_program program) → (f : List ℕ) (inputs : List (List Value)) (frees frees' : List Instant) (past past' : Past) → Reaction program f inputs frees past
    → Along (SameControls program f) frees frees' → Each (IsDecided program f) past → Reaction (lowered_program program) f inputs frees' past' → Along (Stands program f) past past'

-- Instants that stand for others give the same outputs.
abbrev pub OutputsLaw : Type 0
OutputsLaw = (program : List Item) → IsRemovable program → (f : List ℕ) (past past' : Past) → Along (Stands program f) past past' → map (outputs_at (lowered_program program) f) past' ≡ map (outputs_at program f) past

-- Where there are no controllable variables, it does not matter what is given.
abbrev pub UncontrolledLaw : Type 0
UncontrolledLaw = (program : List Item) → NoControls program → (f : List ℕ) (free free' : Instant) → SameControls program f free free'

-- Right clocks are kept.
abbrev pub ClocksLaw : Type 0
ClocksLaw = (enums : Enumerations) (n : Node) → NodeOk n → ClocksRight n → ClocksRight (lowered_node enums n)

abbrev pub AllClocksRight : List Item → Type 0
AllClocksRight [] = ⊤
AllClocksRight (TypeItem t ∷ items) = AllClocksRight items
AllClocksRight (NodeItem n ∷ items) = ClocksRight n × AllClocksRight items

abbrev pub AllRightLaw : Type 0
AllRightLaw = (program : List Item) → IsRemovable program → AllClocksRight program → AllClocksRight (lowered_program program)

-- Ranks are kept: where each place of a node depends on places of less rank alone, so it is without automata.
abbrev pub NodeRanksLaw : Type 0
NodeRanksLaw = (enums : Enumerations) (n : Node) → NodeOk n → Ranked n → Ranked (lowered_node enums n)

abbrev pub RanksLaw : Type 0
RanksLaw = (program : List Item) → IsRemovable program → IsRanked program → IsRanked (lowered_program program)
