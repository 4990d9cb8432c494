-- That the machines of the program of a text give its stream history.
use Rattle.std.specs.Prelude.{◌≡◌, ◌≤◌, ℕ, List, reverse, Some}
use Rattle.std.specs.List.{AllByRecursion}
use Rattle.hp_base.specs.Kinds.{AreOfKinds}
use Rattle.hp_base.specs.declared.value.Value.{Value}
use Rattle.hp_lexer.specs.Lexing.{AreTokensOf}
use Rattle.hp_lexer.specs.declared.token.Token.{Token}
use Rattle.hp_parser.specs.Lexemes.{lexemes}
use Rattle.hp_parser.specs.Programs.{IsProgram}
use Rattle.hp_tree.specs.declared.program.Item.{Item}
use Rattle.hp_tree.specs.Programs.{Node}
use Rattle.hp_tree.specs.Meaning.{types_of, node_among}
use Rattle.hp_tree.specs.Reaction.{IsRun}
use Rattle.hp_meaning.specs.Causal.RanksOfPoints.{AllFall}
use Rattle.hp_meaning.specs.Causal.Runs.{NoControls}
use Rattle.hp_names.specs.Rules.{WellNamed}
use Rattle.hp_typing.specs.Rules.{WellTyped}
use Rattle.hp_typing.specs.DefinitionRules.{WellDefined}
use Rattle.hp_init.specs.Initialised.{IsInitialised}
use Rattle.hp_clocks.specs.Writing.{AreWritten}
use Rattle.hp_clocks.specs.Answers.{IsClocked}
use Rattle.hp_expand.specs.Refusals.{IsFormed}
use Rattle.hp_expand.specs.Numbering.{replaced}
use Rattle.hp_obc.specs.Form.{machine_named}
use Rattle.hp_obc.specs.Kinded.{kinds_in}
use Rattle.hp_obc.specs.Machines.{Machine, Obc}
use Rattle.hp_obc.specs.Steps.{machine_behaviour, run}
use Rattle.law_wellmade.specs.Timely.Kinds.{kinds_of_decls}
use Rattle.hp_machines.specs.Machined.{AreMachinesOf}
use Rattle.hp_machines.specs.NotBuilt.{HasNoMachines}
use Rattle.hp_exec.specs.Bounds.{most_chained, most_instances, longest_chain, instance_count}

-- The machine of a name runs a node of a program: it takes and gives the same kinds, and over each list of inputs of these kinds, oldest first, it gives the outputs of the node's one run.
pub record RunsNode (program : List Item) (o : Obc) (f : List ℕ) (m : Machine) : Type 0 where
  pub node : Node
  pub is_node : node_among (reverse program) f ≡ Some node
  pub inputs : kinds_in o.types m.inputs ≡ kinds_of_decls (types_of program) node.inputs
  pub outputs : kinds_in o.types m.outputs ≡ kinds_of_decls (types_of program) node.outputs
  pub runs : (inputs : List (List Value)) → AllByRecursion (AreOfKinds (kinds_in o.types m.inputs)) inputs → IsRun program f inputs (run (machine_behaviour o f) inputs)

-- The program of a text that the judgements accept, which has no controllable variables. It is arranged: inlined calls are replaced, clocks are written, and its points have ranks.
pub record IsAccepted (text : List ℕ) (tokens : List Token) (program after : List Item) (ranks : List (List ℕ)) : Type 0 where
  pub spelled : AreTokensOf text tokens
  pub read : IsProgram (lexemes text tokens) program
  pub named : WellNamed program
  pub typed : WellTyped program
  pub defined : WellDefined program
  pub formed : IsFormed program
  pub initialised : IsInitialised (replaced program)
  pub clocks : AreWritten IsClocked (replaced program) after
  pub fall : AllFall after ranks
  pub uncontrolled : NoControls program

-- The machines of such a program run its nodes.
abbrev pub TextLaw : Type 0
TextLaw =
    (text : List ℕ) (tokens : List Token) (program after : List Item) (ranks : List (List ℕ)) (o : Obc) → IsAccepted text tokens program after ranks → AreMachinesOf after o
    → (f : List ℕ) (m : Machine) → machine_named o.machines f ≡ Some m → RunsNode after o f m

-- Nothing is in the way of them,
abbrev pub BuiltLaw : Type 0
BuiltLaw = (text : List ℕ) (tokens : List Token) (program after : List Item) (ranks : List (List ℕ)) → IsAccepted text tokens program after ranks → HasNoMachines after → ⊥

-- and each of them is within the limits of what is executed: so many machines on a chain of instances, and so many instances.
abbrev pub WithinLaw : Type 0
WithinLaw =
    (text : List ℕ) (tokens : List Token) (program after : List Item) (ranks : List (List ℕ)) (o : Obc) → IsAccepted text tokens program after ranks → AreMachinesOf after o
    → (f : List ℕ) → (longest_chain o.machines f ≤ most_chained) × (instance_count o.machines f ≤ most_instances)
