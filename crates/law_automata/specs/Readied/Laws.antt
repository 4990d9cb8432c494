-- What a program without automata has of the program that it was made of.
use Rattle.std.specs.Prelude.{◌≡◌, ℕ, true, List}
use Rattle.hp_tree.specs.declared.program.Item.{Item}
use Rattle.hp_tree.specs.Programs.{Node}
use Rattle.hp_tree.specs.Meaning.{declares, block_defines, controls_of}
use Rattle.law_judged.specs.Named.Scoped.{NodeScoped, EachNode}
use Rattle.law_values.specs.Accepted.Laws.{IsReady}
use Rattle.hp_automata.specs.Lowering.{Enumerations, lowered_node, lowered_program}
use Rattle.law_automata.specs.Lowered.Removable.{NodeOk, IsRemovable}
use Rattle.law_equations.specs.Flattened.Timely.{Lowered}
use Rattle.law_equations.specs.Made.Blocks.{DeclaredOnce, IsPlain}
use Rattle.law_automata.specs.Readied.Single.{NodeSingle}

-- No automaton is left.
abbrev pub LoweredLaw : Type 0
LoweredLaw = (enums : Enumerations) (n : Node) → Lowered (lowered_node enums n).body

-- Names are declared once, what is declared is defined, and each name has one equation in its block and stands once on its left.
abbrev pub PlainLaw : Type 0
PlainLaw = (enums : Enumerations) (n : Node) → NodeOk n → NodeSingle n → IsPlain (lowered_node enums n).body

-- The body defines the outputs, and nothing else.
abbrev pub Defines : Node → Type 0
Defines n = (x : List ℕ) → declares n.outputs x ≡ true → block_defines n.body x ≡ true

abbrev pub DefinesNoOther : Node → Type 0
DefinesNoOther n = (x : List ℕ) → block_defines n.body x ≡ true → declares n.outputs x ≡ true

abbrev pub OutputsLaw : Type 0
OutputsLaw = (enums : Enumerations) (n : Node) → NodeScoped n → NodeOk n → Defines (lowered_node enums n) × DefinesNoOther (lowered_node enums n)

-- In a ready program each name is declared once in its block, and stands once on a left side.
abbrev pub SingleLaw : Type 0
SingleLaw = (program after : List Item) → IsReady program after → EachNode NodeSingle after

-- a node without automata, whose names are declared and defined once
pub record IsWhole (n : Node) : Type 0 where
  pub inputs : DeclaredOnce n.inputs
  pub controls : DeclaredOnce (controls_of n.contract)
  pub outputs : DeclaredOnce n.outputs
  pub lowered : Lowered n.body
  pub plain : IsPlain n.body
  pub defined : Defines n
  pub nothing_else : DefinesNoOther n

-- So is each node of a ready program without its automata.
abbrev pub WholeLaw : Type 0
WholeLaw = (program after : List Item) → IsReady program after → IsRemovable after → EachNode IsWhole (lowered_program after)
