-- Runs in which the controllable variables of every instance, at every depth, have the values that a function chooses.
-- Source: the controller of Delaval, Marchand and Rutten (LCTES 2010), as any function of what is known before it chooses.
use Rattle.std.specs.Prelude.{ℕ, ◌≡◌, List, [], ◌∷◌, ⊤, length, map, reverse, if◌then◌else◌}
use Rattle.std.specs.Str.{bytes_eq}
use Rattle.hp_base.specs.declared.value.Value.{Value}
use Rattle.hp_tree.specs.declared.program.Item.{Item}
use Rattle.hp_tree.specs.declared.program.Item.TheVariants.{TypeItem, NodeItem}
use Rattle.hp_tree.specs.Programs.{TypeDecl, Node}
use Rattle.hp_tree.specs.Operators.{real}
use Rattle.hp_tree.specs.Instant.{Place, Instant, Past, Given, alone, nothing, in_row}
use Rattle.hp_tree.specs.Meaning.{Nodes, no_nodes, names_of, types_of, controls_of, node}
use Rattle.hp_tree.specs.Reaction.{Reaction, row_of}
use Rattle.hp_meaning.specs.Causal.Causality.{IsRanked}
use Rattle.hp_meaning.specs.Causal.Clocked.{ClocksRight}
use Rattle.hp_meaning.specs.Causal.OneReaction.{ReactionOf, OneReactionOf}
use Rattle.hp_meaning.specs.Causal.Steering.{steered_by}
use Rattle.hp_meaning.specs.Contract.Forgetting.{erase, ContractsCallNothing}
use Rattle.hp_meaning.specs.Contract.FreePlaces.{IsEarly}
use Rattle.hp_meaning.specs.Contract.Game.{Choice, at_controls}
use Rattle.hp_meaning.specs.Contract.ChosenRuns.{ChoiceRule, ControlledThroughout}

-- a choice for a node, by its own abstract history, its inputs and an instant of early values
abbrev pub Strategy : Type 0
Strategy = Node → Past → List Value → Instant → Choice

-- It gives a value to each variable, and looks at nothing but these: of the instant at early places alone.
pub record IsStrategy (program : List Item) (s : Strategy) : Type 0 where
  pub one_each : (n : Node) (history : Past) (inputs : List Value) (early : Instant) → length (s n history inputs early) ≡ length (controls_of n.contract)
  pub early_alone : (n : Node) (history : Past) (inputs : List Value) (early other : Instant) → ((p : Place) → IsEarly program n p → early p ≡ other p) → s n history inputs early ≡ s n history inputs other

-- the rule to choose so
abbrev pub Follows : Strategy → ChoiceRule
Follows s n history inputs early c = c ≡ s n history inputs early

-- what the nodes of a program do where each one chooses so, at the instant itself; the nodes are given the last one first
abbrev pub steered : Strategy → List TypeDecl → List Item → Nodes
steered s types [] = no_nodes
steered s types (TypeItem t ∷ earlier) = steered s types earlier
steered s types (NodeItem n ∷ earlier) =
    let N = steered s types earlier in
    record {
      outputs = λ f. if bytes_eq n.name f then names_of n.outputs else N.outputs f;
      instant = λ f inputs g now.
          if bytes_eq n.name f
          then node types real N n inputs (record { past = g.past; free = steered_by nothing (at_controls (s n (erase g.past) (row_of n.inputs (in_row (map alone inputs))) now)) }) now
          else N.instant f inputs g now;
    }

abbrev pub steered_meaning : Strategy → List Item → List ℕ → List Value → Given → Instant → Instant
steered_meaning s program f inputs g now = (steered s (types_of program) (reverse program)).instant f inputs g now

-- clocks are right in each node
abbrev pub AllClocksRight : List Item → Type 0
AllClocksRight [] = ⊤
AllClocksRight (TypeItem t ∷ items) = AllClocksRight items
AllClocksRight (NodeItem n ∷ items) = ClocksRight n × AllClocksRight items

-- A reaction of the program in which each instance that is there, at every depth, keeps a rule.
abbrev pub ReactsBy : List Item → ChoiceRule → List ℕ → List (List Value) → Past → Type 0
ReactsBy program rule f inputs past = (frees : List Instant) × Reaction program f inputs frees past × ControlledThroughout rule (reverse program) f past

-- ---- the laws

-- Over each list of inputs there is exactly one reaction in which each instance at every depth has the values that the function chooses.
abbrev pub OneReactionByLaw : Type 0
OneReactionByLaw =
    (program : List Item) (s : Strategy) (f : List ℕ) (inputs : List (List Value))
    → IsRanked program → AllClocksRight program → ContractsCallNothing program → IsStrategy program s
    → OneReactionOf (ReactsBy program (Follows s) f inputs)

-- Of the instants at which each node chooses so there is exactly one reaction, whatever is given.
abbrev pub OneSteeredLaw : Type 0
OneSteeredLaw =
    (program : List Item) (s : Strategy) (f : List ℕ) (inputs : List (List Value)) (frees : List Instant)
    → IsRanked program → AllClocksRight program → IsStrategy program s → length frees ≡ length inputs
    → OneReactionOf (ReactionOf (steered_meaning s program f) inputs frees)

-- It is a reaction of the program, in which what is given is what its own instants hold, and in which each instance that is there, at every depth, has the values that are chosen so.
abbrev pub SteeredLaw : Type 0
SteeredLaw =
    (program : List Item) (s : Strategy) (f : List ℕ) (inputs : List (List Value)) (frees : List Instant) (past : Past)
    → ContractsCallNothing program → IsStrategy program s → ReactionOf (steered_meaning s program f) inputs frees past
    → Reaction program f inputs past past × ControlledThroughout (Follows s) (reverse program) f past

-- Each reaction of the program in which the instances have the values that are chosen so is that one.
abbrev pub ChosenReactionLaw : Type 0
ChosenReactionLaw =
    (program : List Item) (s : Strategy) (f : List ℕ) (inputs : List (List Value)) (frees : List Instant) (past : Past)
    → IsStrategy program s → Reaction program f inputs frees past → ControlledThroughout (Follows s) (reverse program) f past
    → ReactionOf (steered_meaning s program f) inputs frees past
