-- Programs without inlined calls, and those in which no name of a variable holds the sign of new ones.
use Rattle.std.specs.Prelude.{◌≡◌, false, List, [], ◌∷◌, Option, None, Some}
use Rattle.hp_tree.specs.declared.program.Item.{Item}
use Rattle.hp_tree.specs.declared.program.Item.TheVariants.{TypeItem, NodeItem}
use Rattle.hp_tree.specs.Expressions.{Expr, constant, variable, last_of, one, two, choose, pre, fby, arrow, when_is, merge, call, Exprs, no_expr, more_exprs, Parts, no_part, more_parts}
use Rattle.hp_tree.specs.Blocks.{Decl, Block, block, Eqns, no_eqn, more_eqns, Eqn, define, switch, reset, automaton, Arms, no_arm, more_arms, States, no_state, more_states}
use Rattle.hp_tree.specs.Programs.{Contract, Node}
use Rattle.hp_expand.specs.NewNames.{is_new}
use Rattle.hp_expand.specs.Numbering.{replaced}

-- no inlined call is in an expression
abbrev mutual
  pub IsPlain : Expr → Type 0
  IsPlain (constant at c) = Unit {0}
  IsPlain (variable at x) = Unit {0}
  IsPlain (last_of at x) = Unit {0}
  IsPlain (one at op a) = IsPlain a
  IsPlain (two at op a b) = IsPlain a × IsPlain b
  IsPlain (choose at a b c) = IsPlain a × (IsPlain b × IsPlain c)
  IsPlain (pre at a) = IsPlain a
  IsPlain (fby at a b) = IsPlain a × IsPlain b
  IsPlain (arrow at a b) = IsPlain a × IsPlain b
  IsPlain (when_is at a c x) = IsPlain a
  IsPlain (merge at x ps) = PartsArePlain ps
  IsPlain (call at f inlined es) = (inlined ≡ false) × AllArePlain es

  pub AllArePlain : Exprs → Type 0
  AllArePlain no_expr = Unit {0}
  AllArePlain (more_exprs e es) = IsPlain e × AllArePlain es

  pub PartsArePlain : Parts → Type 0
  PartsArePlain no_part = Unit {0}
  PartsArePlain (more_parts c e ps) = IsPlain e × PartsArePlain ps

abbrev mutual
  pub BlockIsPlain : Block → Type 0
  BlockIsPlain (block ds es) = EqnsArePlain es

  pub EqnsArePlain : Eqns → Type 0
  EqnsArePlain no_eqn = Unit {0}
  EqnsArePlain (more_eqns e es) = EqnIsPlain e × EqnsArePlain es

  pub EqnIsPlain : Eqn → Type 0
  EqnIsPlain (define s xs e) = IsPlain e
  EqnIsPlain (switch s e arms) = IsPlain e × ArmsArePlain arms
  EqnIsPlain (reset s b e) = BlockIsPlain b × IsPlain e
  EqnIsPlain (automaton s qs) = StatesArePlain qs

  pub ArmsArePlain : Arms → Type 0
  ArmsArePlain no_arm = Unit {0}
  ArmsArePlain (more_arms c b at arms) = BlockIsPlain b × ArmsArePlain arms

  pub StatesArePlain : States → Type 0
  StatesArePlain no_state = Unit {0}
  StatesArePlain (more_states x b until unless at qs) = BlockIsPlain b × StatesArePlain qs

abbrev pub ConditionIsPlain : Option Expr → Type 0
ConditionIsPlain None = Unit {0}
ConditionIsPlain (Some e) = IsPlain e

abbrev pub ContractIsPlain : Option Contract → Type 0
ContractIsPlain None = Unit {0}
ContractIsPlain (Some c) = BlockIsPlain c.body × (ConditionIsPlain c.assume × ConditionIsPlain c.enforce)

abbrev pub NodeIsPlain : Node → Type 0
NodeIsPlain n = ContractIsPlain n.contract × BlockIsPlain n.body

-- but for transitions, which hold no call
abbrev pub ItemsArePlain : List Item → Type 0
ItemsArePlain [] = Unit {0}
ItemsArePlain (TypeItem t ∷ items) = ItemsArePlain items
ItemsArePlain (NodeItem n ∷ items) = NodeIsPlain n × ItemsArePlain items

-- ---- no declared name is that of a new variable

abbrev pub AllAreOld : List Decl → Type 0
AllAreOld [] = Unit {0}
AllAreOld (d ∷ ds) = (is_new d.name ≡ false) × AllAreOld ds

abbrev mutual
  pub BlockIsOld : Block → Type 0
  BlockIsOld (block ds es) = AllAreOld ds × EqnsAreOld es

  pub EqnsAreOld : Eqns → Type 0
  EqnsAreOld no_eqn = Unit {0}
  EqnsAreOld (more_eqns e es) = EqnIsOld e × EqnsAreOld es

  pub EqnIsOld : Eqn → Type 0
  EqnIsOld (define s xs e) = Unit {0}
  EqnIsOld (switch s e arms) = ArmsAreOld arms
  EqnIsOld (reset s b e) = BlockIsOld b
  EqnIsOld (automaton s qs) = StatesAreOld qs

  pub ArmsAreOld : Arms → Type 0
  ArmsAreOld no_arm = Unit {0}
  ArmsAreOld (more_arms c b at arms) = BlockIsOld b × ArmsAreOld arms

  pub StatesAreOld : States → Type 0
  StatesAreOld no_state = Unit {0}
  StatesAreOld (more_states x b until unless at qs) = BlockIsOld b × StatesAreOld qs

abbrev pub ContractIsOld : Option Contract → Type 0
ContractIsOld None = Unit {0}
ContractIsOld (Some c) = BlockIsOld c.body

abbrev pub ItemsAreOld : List Item → Type 0
ItemsAreOld [] = Unit {0}
ItemsAreOld (TypeItem t ∷ items) = ItemsAreOld items
ItemsAreOld (NodeItem n ∷ items) = (ContractIsOld n.contract × BlockIsOld n.body) × ItemsAreOld items

-- ---- what is shown

-- no inlined call is left
abbrev pub NoneIsLeft : Type 0
NoneIsLeft = (program : List Item) → ItemsArePlain (replaced program)

-- a program without one stays as it is
abbrev pub PlainStays : Type 0
PlainStays = (program : List Item) → ItemsArePlain program → ItemsAreOld program → replaced program ≡ program
