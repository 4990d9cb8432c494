-- What removing automata asks of a program.
use Rattle.std.specs.Prelude.{ℕ, ◌+◌, ◌<◌, ◌≡◌, Bool, true, false, ◌||◌, List, [], ◌∷◌, length, Option, None, Some, ⊤}
use Rattle.std.specs.Str.{bytes_eq}
use Rattle.hp_base.specs.declared.span.Span.{Span}
use Rattle.hp_tree.specs.declared.block.Trans.{Trans}
use Rattle.hp_tree.specs.declared.decl.Cons.{Cons}
use Rattle.hp_tree.specs.declared.program.Item.{Item}
use Rattle.hp_tree.specs.declared.program.Item.TheVariants.{TypeItem, NodeItem}
use Rattle.hp_tree.specs.Expressions.{Expr, constant, variable, last_of, one, two, choose}
use Rattle.hp_tree.specs.Blocks.{Decl, Block, block, Eqns, no_eqn, more_eqns, Eqn, define, switch, reset, automaton, Arms, no_arm, more_arms, States, no_state, more_states}
use Rattle.hp_tree.specs.Programs.{Contract, Node}
use Rattle.hp_tree.specs.Meaning.{defines, some_defines}
use Rattle.hp_automata.specs.Lowering.{count_of}
use Rattle.law_automata.specs.Lowered.OldNames.{IsOld, OldPath, OldExpr}

-- An expression remembers nothing, and calls no node.
abbrev pub Plain : Expr → Type 0
Plain (constant s c) = ⊤
Plain (variable s x) = ⊤
Plain (last_of s x) = ⊤
Plain (one s o a) = Plain a
Plain (two s o a b) = Plain a × Plain b
Plain (choose s a b c) = Plain a × Plain b × Plain c
Plain e = ⊥

-- whether a state has this name
abbrev pub is_state : States → List ℕ → Bool
is_state no_state x = false
is_state (more_states f b until unless s ss) x = bytes_eq f x || is_state ss x

-- Transitions go to states, and their conditions are plain.
abbrev pub TransitionsOk : States → List Trans → Type 0
TransitionsOk all [] = ⊤
TransitionsOk all (t ∷ ts) = (OldExpr t.cond × Plain t.cond × (is_state all t.target ≡ true)) × TransitionsOk all ts

-- New names have room for so many automata within one another, and for so many states and transitions.
abbrev pub deepest : ℕ
deepest = 100

abbrev pub most : ℕ
most = 999999

-- some names
abbrev pub Known : Type 0
Known = List ℕ → Bool

-- and those that an equation defines
abbrev pub and_defined : Eqn → Known → Known
and_defined e names x = defines e x || names x

abbrev pub OldClock : Option (List (Cons × List ℕ)) → Type 0
OldClock None = ⊤
OldClock (Some path) = OldPath path

abbrev pub AllOld : List (List ℕ × Span) → Type 0
AllOld [] = ⊤
AllOld (y ∷ ys) = IsOld y.0 × AllOld ys

-- Each name that is declared has an equation there, and is none of those that the control equations around define.
abbrev pub DeclsOk : Known → Eqns → List Decl → Type 0
DeclsOk outer es [] = ⊤
DeclsOk outer es (d ∷ ds) = (IsOld d.name × (outer d.name ≡ false) × (some_defines es d.name ≡ true) × OldClock d.clock) × DeclsOk outer es ds

-- A block with so many automata around, where the control equations around define these names.
abbrev mutual
  pub BlockOk : Known → ℕ → Block → Type 0
  BlockOk outer d (block ds es) = DeclsOk outer es ds × EqnsOk outer d es

  -- each name has one equation
  pub EqnsOk : Known → ℕ → Eqns → Type 0
  EqnsOk outer d no_eqn = ⊤
  EqnsOk outer d (more_eqns e es) = ((x : List ℕ) → defines e x ≡ true → some_defines es x ≡ false) × EqnOk outer d e × EqnsOk outer d es

  pub EqnOk : Known → ℕ → Eqn → Type 0
  EqnOk outer d (define s ys e) = AllOld ys × OldExpr e
  EqnOk outer d (switch s e arms) = OldExpr e × ArmsOk (and_defined (switch s e arms) outer) d arms
  EqnOk outer d (reset s b e) = OldExpr e × BlockOk (and_defined (reset s b e) outer) d b
  EqnOk outer d (automaton s ss) = (d < deepest) × (0 < count_of ss) × (count_of ss < most) × StatesOk ss (and_defined (automaton s ss) outer) (d + 1) ss

  pub ArmsOk : Known → ℕ → Arms → Type 0
  ArmsOk outer d no_arm = ⊤
  ArmsOk outer d (more_arms c b s arms) = BlockOk outer d b × ArmsOk outer d arms

  pub StatesOk : States → Known → ℕ → States → Type 0
  StatesOk all outer d no_state = ⊤
  StatesOk all outer d (more_states f b until unless s ss) =
      (BlockOk outer d b × (TransitionsOk all until × (length until < most)) × (TransitionsOk all unless × (length unless < most))) × StatesOk all outer d ss

-- at the outermost block of a node, and of its contract
abbrev pub none_known : Known
none_known x = false

abbrev pub ConditionOk : Option Expr → Type 0
ConditionOk None = ⊤
ConditionOk (Some e) = OldExpr e

abbrev pub ContractOk : Option Contract → Type 0
ContractOk None = ⊤
ContractOk (Some c) = BlockOk none_known 0 c.body × ConditionOk c.assume × ConditionOk c.enforce

abbrev pub AllOldDecls : List Decl → Type 0
AllOldDecls [] = ⊤
AllOldDecls (d ∷ ds) = IsOld d.name × AllOldDecls ds

pub record NodeOk (n : Node) : Type 0 where
  pub outputs : AllOldDecls n.outputs
  pub contract : ContractOk n.contract
  pub body : BlockOk none_known 0 n.body

-- All its nodes are so.
abbrev pub IsRemovable : List Item → Type 0
IsRemovable [] = ⊤
IsRemovable (TypeItem t ∷ items) = IsRemovable items
IsRemovable (NodeItem n ∷ items) = NodeOk n × IsRemovable items
