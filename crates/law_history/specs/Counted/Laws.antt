-- Instances of machines are no more than the calls that are counted of a program, so its machines are within the executor's limits.
use Rattle.std.specs.Prelude.{ℕ, ◌+◌, max, ◌≤◌, List}
use Rattle.hp_base.specs.declared.limit.Limit.{Limit}
use Rattle.hp_lexer.specs.Lexing.{AreTokensOf}
use Rattle.hp_lexer.specs.declared.token.Token.{Token}
use Rattle.hp_parser.specs.Lexemes.{lexemes}
use Rattle.hp_parser.specs.Programs.{IsProgram}
use Rattle.hp_tree.specs.declared.program.Item.{Item}
use Rattle.hp_tree.specs.Programs.{Node}
use Rattle.hp_names.specs.Rules.{WellNamed}
use Rattle.hp_typing.specs.Rules.{WellTyped}
use Rattle.hp_typing.specs.DefinitionRules.{WellDefined}
use Rattle.hp_init.specs.Initialised.{IsInitialised}
use Rattle.hp_clocks.specs.Writing.{AreWritten}
use Rattle.hp_clocks.specs.Answers.{IsClocked}
use Rattle.hp_expand.specs.Refusals.{IsFormed}
use Rattle.hp_expand.specs.Numbering.{replaced}
use Rattle.hp_automata.specs.Lowering.{Enumerations, lowered_node}
use Rattle.law_equations.specs.Made.Making.{Known, sketch_node}
use Rattle.hp_flat.specs.Nodes.{FlatNode}
use Rattle.hp_obc.specs.Machines.{ObcType, Machine, Obc}
use Rattle.hp_machines.specs.Making.{IsMachineOf}
use Rattle.hp_machines.specs.Machined.{AreMachinesOf}
use Rattle.hp_exec.specs.Bounds.{longest_chain, instance_count}
use Rattle.hp_exec.specs.Answers.{IsPassed}
use Rattle.law_history.specs.Counted.Counted.{Joins, in_block, in_flat, in_instances}

-- The equations of a node call what its tree calls, and no more.
abbrev pub MadeLaw : Type 0
MadeLaw = (join : ℕ → ℕ → ℕ) → Joins join → (known : List ℕ → ℕ) (k : Known) (n : Node) → in_flat join known (sketch_node k n).eqns ≤ in_block join known n.body

-- Removing automata brings no calls.
abbrev pub LoweredLaw : Type 0
LoweredLaw =
    (join : ℕ → ℕ → ℕ) → Joins join → (known : List ℕ → ℕ) (enums : Enumerations) (n : Node) → in_block join known (lowered_node enums n).body ≤ in_block join known n.body

-- The instances of a machine are calls of the equations that it is made of: their sum is no more, nor is the greatest of them.
abbrev pub MachineLaw : Type 0
MachineLaw =
    (known : List ℕ → ℕ) (types : List ObcType) (n : FlatNode) (m : Machine) → IsMachineOf types n m
    → (in_instances (λ a b. a + b) known m.insts ≤ in_flat (λ a b. a + b) known n.eqns) × (in_instances max known m.insts ≤ in_flat max known n.eqns)

-- So of the machines of the program of a text that the judgements accept, and that is arranged, no chain has more than 64, and no machine
-- more than 100,000 instances, itself counted.
abbrev pub FewLaw : Type 0
FewLaw =
    (text : List ℕ) (tokens : List Token) (program after : List Item) (o : Obc) → AreTokensOf text tokens → IsProgram (lexemes text tokens) program
    → WellNamed program → WellTyped program → WellDefined program → IsFormed program → IsInitialised (replaced program) → AreWritten IsClocked (replaced program) after
    → AreMachinesOf after o → (f : List ℕ) → (longest_chain o.machines f ≤ 64) × (instance_count o.machines f ≤ 100000)

-- No limit of the executor is passed.
abbrev pub NeverLaw : Type 0
NeverLaw =
    (text : List ℕ) (tokens : List Token) (program after : List Item) (o : Obc) → AreTokensOf text tokens → IsProgram (lexemes text tokens) program
    → WellNamed program → WellTyped program → WellDefined program → IsFormed program → IsInitialised (replaced program) → AreWritten IsClocked (replaced program) after
    → AreMachinesOf after o → (f : List ℕ) (l : Limit) → IsPassed o f l → ⊥
