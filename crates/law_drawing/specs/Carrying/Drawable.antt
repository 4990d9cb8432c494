-- What is asked of blocks that are drawn, beside their types: declarations, states and the names on a left side have names of their own, each name is defined by one equation of its block, and constructors of clocks and arms are of the types of what they are compared with.
-- Source: own. It is so in each program that is accepted.
use Rattle.std.specs.Prelude.{⊤, ℕ, Bool, false, ◌||◌, IsTrue, IsFalse, List, [], ◌∷◌, Option, None, Some}
use Rattle.std.specs.Str.{bytes_eq}
use Rattle.hp_base.specs.declared.span.Span.{Span}
use Rattle.hp_base.specs.declared.ty.Ty.{Ty}
use Rattle.hp_tree.specs.Blocks.{Decl, Block, block, Eqns, no_eqn, more_eqns, Eqn, define, switch, reset, automaton, Arms, no_arm, more_arms, States, no_state, more_states}
use Rattle.hp_tree.specs.Meaning.{is_among, declares, defines, some_defines}
use Rattle.hp_tree.specs.Programs.{Contract, Node}
use Rattle.law_values.specs.Valued.Judged.{body_scope}
use Rattle.hp_typing.specs.Scopes.{with_variables, inside_node}
use Rattle.hp_typing.specs.Types.{type_of, agrees, cons_type}
use Rattle.law_judged.specs.Typed.Scopes.{Scope}
use Rattle.law_games.specs.Mirror.Memories.{AreApart}
use Rattle.hp_drawing.specs.DrawnBlocks.{path_or}
use Rattle.law_drawing.specs.Carrying.Typing.{PathFits}

-- the clocks of declarations
abbrev pub PathsFit : Scope → List Decl → Type 0
PathsFit s [] = ⊤
PathsFit s (d ∷ ds) = PathFits s (path_or d.clock) × PathsFit s ds

abbrev pub LeftsApart : List (List ℕ × Span) → Type 0
LeftsApart [] = ⊤
LeftsApart (y ∷ ys) = IsFalse (is_among ys y.0) × LeftsApart ys

abbrev pub ArmsFit : Scope → Option Ty → Arms → Type 0
ArmsFit s t no_arm = ⊤
ArmsFit s t (more_arms c b at arms) = IsTrue (agrees t (cons_type s c)) × ArmsFit s t arms

abbrev pub is_state : States → List ℕ → Bool
is_state no_state x = false
is_state (more_states f b until unless at ss) x = bytes_eq f x || is_state ss x

abbrev pub StatesApart : States → Type 0
StatesApart no_state = ⊤
StatesApart (more_states f b until unless at ss) = IsFalse (is_state ss f) × StatesApart ss

abbrev mutual
  pub BlockDrawable : Scope → Block → Type 0
  BlockDrawable s (block ds es) = AreApart ds × (PathsFit (with_variables s ds) ds × EqnsDrawable (with_variables s ds) es)

  -- a name that an equation defines none behind it does
  pub EqnsDrawable : Scope → Eqns → Type 0
  EqnsDrawable s no_eqn = ⊤
  EqnsDrawable s (more_eqns e es) = ((x : List ℕ) → IsTrue (defines e x) → IsFalse (some_defines es x)) × (EqnDrawable s e × EqnsDrawable s es)

  pub EqnDrawable : Scope → Eqn → Type 0
  EqnDrawable s (define at ys e) = LeftsApart ys
  EqnDrawable s (switch at e arms) = ArmsFit s (type_of s e) arms × ArmsDrawable s arms
  EqnDrawable s (reset at b e) = BlockDrawable s b
  EqnDrawable s (automaton at ss) = StatesApart ss × StatesDrawable s ss

  pub ArmsDrawable : Scope → Arms → Type 0
  ArmsDrawable s no_arm = ⊤
  ArmsDrawable s (more_arms c b at arms) = BlockDrawable s b × ArmsDrawable s arms

  pub StatesDrawable : Scope → States → Type 0
  StatesDrawable s no_state = ⊤
  StatesDrawable s (more_states f b until unless at ss) = BlockDrawable s b × StatesDrawable s ss

-- ---- contracts and nodes

abbrev pub ContractDrawable : Scope → Option Contract → Type 0
ContractDrawable s None = ⊤
ContractDrawable s (Some c) = BlockDrawable s c.body

-- Outputs have names of their own, which no input has.
pub record NodeDrawable (s : Scope) (n : Node) : Type 0 where
  pub outputs : AreApart n.outputs
  pub inputs : (x : List ℕ) → IsTrue (declares n.inputs x) → IsFalse (declares n.outputs x)
  pub body : BlockDrawable (body_scope s n) n.body
  pub contract : ContractDrawable (inside_node s n) n.contract
