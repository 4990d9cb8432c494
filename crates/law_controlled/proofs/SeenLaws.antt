-- In a reaction of the nodes that choose, over inputs of its kinds, a node that sees all has the greatest permitted values.
use Rattle.std.proofs.Common.{◌≡◌, ℕ, inl, inr, List, reverse, Some}
use Rattle.std.specs.List.{AllByRecursion}
use Rattle.hp_base.specs.Kinds.{AreOfKinds}
use Rattle.hp_base.specs.declared.value.Value.{Value}
use Rattle.hp_obc.specs.Machines.{Obc}
use Rattle.hp_tree.specs.declared.program.Item.{Item}
use Rattle.hp_tree.specs.Instant.{Past}
use Rattle.hp_tree.specs.Meaning.{types_of, node_among}
use Rattle.hp_tree.specs.Programs.{Node}
use Rattle.hp_meaning.specs.Contract.Guarantee.{Through}
use Rattle.law_games.specs.ReadyGames.Laws.{IsInOrder}
use Rattle.law_wellmade.specs.Timely.Kinds.{kinds_of_decls}
use Rattle.law_choices.specs.Playing.Greatest.{ChoosesGreatest}
use Rattle.law_choices.specs.Runs.Chosen.{ChosenReaction}
use Rattle.law_controlled.specs.Allowed.{RunsAllowed}
use Rattle.law_controlled.specs.AtDepth.{SeesAll}
use Rattle.law_controlled.proofs.DutyLaws.{SteeringLaws}

module _ (laws : SteeringLaws) (program after : List Item) (ranks : List (List ℕ)) (order : IsInOrder program after ranks) (o : Obc) (r : RunsAllowed program after o) where
  abbrev Kinds : Node → List (List Value) → Type 0
  Kinds n inputs = AllByRecursion (AreOfKinds (kinds_of_decls (types_of after) n.inputs)) inputs

  abbrev Reacts : List ℕ → List (List Value) → Past → Type 0
  Reacts f inputs past = ChosenReaction ((r.allowed).allowed).choices after f inputs past

  pub greatest_of : (f : List ℕ) (n : Node) (inputs : List (List Value)) (past : Past) → node_among (reverse after) f ≡ Some n → Kinds n inputs → Reacts f inputs past → SeesAll after n → Through (ChoosesGreatest after n) past
  greatest_of f n inputs past e kinds reacts (inl none) = laws.greatest program after ranks r.observers r.all order r.chooses r.mirrored r.allowed f n inputs past e (inl none) kinds reacts
  greatest_of f n inputs past e kinds reacts (inr sees) =
      laws.seen program after ranks r.observers r.all order r.chooses r.mirrored r.allowed f n inputs past e kinds reacts
      (laws.own program after ranks r.observers r.all order r.chooses r.silent r.observable r.own r.allowed f n inputs past e sees kinds reacts)
