-- Declarations, equations and programs that may be read: what a text can have.
use Rattle.std.proofs.Common.{ℕ, suc, max, ◌<◌, ◌≤◌, ℤ, pos, negsuc, Bool, true, false, List, [], ◌∷◌, length, Option, None, Some}
use Rattle.hp_base.specs.declared.ty.Const.{Const}
use Rattle.hp_base.specs.declared.ty.Const.TheVariants as constant
use Rattle.hp_lexer.specs.Spelling.{greatest_number}
use Rattle.hp_tree.specs.declared.block.Trans.{Trans}
use Rattle.hp_tree.specs.declared.decl.Cons.{Cons}
use Rattle.hp_tree.specs.Expressions.{Expr}
use Rattle.hp_tree.specs.Blocks.{Decl, Block, Eqns, Eqn, Arms, States, block, no_eqn, more_eqns, define, switch, reset, automaton, no_arm, more_arms, no_state, more_states}
use Rattle.hp_tree.specs.Programs.{Contract, Node}
use Rattle.hp_tree.specs.declared.program.Item.{Item}
use Rattle.hp_tree.specs.declared.program.Item.TheVariants.{TypeItem, NodeItem}
use Rattle.hp_parser.specs.declared.mode.Mode.{Mode}
use Rattle.hp_parser.specs.declared.mode.Mode.TheVariants.{Whole, Plain}
use Rattle.hp_print.proofs.Heights.{height, Good}

-- an expression of at most so many levels
abbrev pub GoodIn : ℕ → Mode → Expr → Type 0
GoodIn d mode e = Good mode e × (height e < d)

-- an integer that may be written, with a minus or without
abbrev pub IsInteger : ℤ → Type 0
IsInteger (pos n) = n ≤ greatest_number
IsInteger (negsuc n) = suc n ≤ greatest_number

abbrev pub GoodConstant : Const → Type 0
GoodConstant (constant.B b) = Unit {0}
GoodConstant (constant.I n) = IsInteger n
GoodConstant (constant.E x) = Unit {0}

abbrev pub Path : Type 0
Path = List (Cons × List ℕ)

-- a local declaration: one with a first value has no clock, and a clock that is written has a step
abbrev pub GoodParts : Option Const → Option Path → Type 0
GoodParts None None = Unit {0}
GoodParts None (Some []) = ⊥
GoodParts None (Some (s ∷ path)) = Unit {0}
GoodParts (Some c) None = GoodConstant c
GoodParts (Some c) (Some path) = ⊥

abbrev pub GoodLocal : Decl → Type 0
GoodLocal d = GoodParts d.last d.clock

-- a parameter has no clock, and where `last` may not stand no first value
abbrev pub GoodParameterParts : Bool → Option Const → Option Path → Type 0
GoodParameterParts may None None = Unit {0}
GoodParameterParts true (Some c) None = GoodConstant c
GoodParameterParts false (Some c) None = ⊥
GoodParameterParts may last (Some path) = ⊥

abbrev pub GoodParameter : Bool → Decl → Type 0
GoodParameter may d = GoodParameterParts may d.last d.clock

abbrev pub Each : {A : Type 0} → (A → Type 0) → List A → Type 0
Each P [] = Unit {0}
Each P (x ∷ xs) = P x × Each P xs

abbrev pub GoodTransition : ℕ → Trans → Type 0
GoodTransition d t = GoodIn d Plain t.cond

abbrev pub SomeArms : Arms → Type 0
SomeArms no_arm = ⊥
SomeArms (more_arms c b s arms) = Unit {0}

abbrev pub SomeStates : States → Type 0
SomeStates no_state = ⊥
SomeStates (more_states x b until unless s qs) = Unit {0}

module _ (d : ℕ) where
  abbrev mutual
    pub GoodBlock : Block → Type 0
    GoodBlock (block ds es) = Each GoodLocal ds × GoodEqns es

    pub GoodEqns : Eqns → Type 0
    GoodEqns no_eqn = Unit {0}
    GoodEqns (more_eqns e es) = GoodEqn e × GoodEqns es

    pub GoodEqn : Eqn → Type 0
    GoodEqn (define s xs e) = GoodIn d Whole e
    GoodEqn (switch s e arms) = GoodIn d Whole e × SomeArms arms × GoodArms arms
    GoodEqn (reset s b e) = GoodBlock b × GoodIn d Whole e
    GoodEqn (automaton s qs) = SomeStates qs × GoodStates qs

    pub GoodArms : Arms → Type 0
    GoodArms no_arm = Unit {0}
    GoodArms (more_arms c b s arms) = GoodBlock b × GoodArms arms

    pub GoodStates : States → Type 0
    GoodStates no_state = Unit {0}
    GoodStates (more_states x b until unless s qs) = GoodBlock b × Each (GoodTransition d) until × Each (GoodTransition d) unless × GoodStates qs

-- how many blocks stand in each other in equations
abbrev mutual
  pub nest_block : Block → ℕ
  nest_block (block ds es) = nest_eqns es

  pub nest_eqns : Eqns → ℕ
  nest_eqns no_eqn = 0
  nest_eqns (more_eqns e es) = max (nest_eqn e) (nest_eqns es)

  pub nest_eqn : Eqn → ℕ
  nest_eqn (define s xs e) = 0
  nest_eqn (switch s e arms) = suc (nest_arms arms)
  nest_eqn (reset s b e) = suc (nest_block b)
  nest_eqn (automaton s qs) = suc (nest_states qs)

  pub nest_arms : Arms → ℕ
  nest_arms no_arm = 0
  nest_arms (more_arms c b s arms) = max (nest_block b) (nest_arms arms)

  pub nest_states : States → ℕ
  nest_states no_state = 0
  nest_states (more_states x b until unless s qs) = max (nest_block b) (nest_states qs)

-- ---- programs

abbrev pub GoodCondition : ℕ → Option Expr → Type 0
GoodCondition d None = Unit {0}
GoodCondition d (Some e) = GoodIn d Whole e

-- a contract has a clause
abbrev pub SomeClause : Option Expr → Option Expr → List Decl → Type 0
SomeClause None None [] = ⊥
SomeClause None None (d ∷ ds) = Unit {0}
SomeClause None (Some e) ds = Unit {0}
SomeClause (Some a) enforce ds = Unit {0}

abbrev pub GoodContract : (d nested : ℕ) → Contract → Type 0
GoodContract d nested c =
    (GoodBlock d c.body × (nest_block c.body < nested)) × GoodCondition d c.assume × GoodCondition d c.enforce × Each (GoodParameter false) c.controls × SomeClause c.assume c.enforce c.controls

abbrev pub GoodOptional : (d nested : ℕ) → Option Contract → Type 0
GoodOptional d nested None = Unit {0}
GoodOptional d nested (Some c) = GoodContract d nested c

-- so many may be taken of a number
abbrev pub Enough : Option ℕ → ℕ → Type 0
Enough None n = Unit {0}
Enough (Some k) n = n ≤ k

abbrev pub GoodNode : (d nested : ℕ) (inputs outputs : Option ℕ) → Node → Type 0
GoodNode d nested inputs outputs n =
    (Each (GoodParameter false) n.inputs × Enough inputs (length n.inputs)) × (Each (GoodParameter true) n.outputs × Enough outputs (length n.outputs))
    × GoodOptional d nested n.contract × GoodBlock d n.body × (nest_block n.body < nested)

abbrev pub GoodConstructors : Option ℕ → List (List ℕ) → Type 0
GoodConstructors more [] = ⊥
GoodConstructors more (x ∷ xs) = Enough more (length xs)

abbrev pub GoodItem : (d nested : ℕ) (inputs outputs more : Option ℕ) → Item → Type 0
GoodItem d nested inputs outputs more (TypeItem t) = GoodConstructors more t.cons
GoodItem d nested inputs outputs more (NodeItem n) = GoodNode d nested inputs outputs n

-- how many types there are
abbrev pub count_types : List Item → ℕ
count_types [] = 0
count_types (TypeItem t ∷ items) = suc (count_types items)
count_types (NodeItem n ∷ items) = count_types items

abbrev pub GoodProgram : (d nested : ℕ) (types inputs outputs more : Option ℕ) → List Item → Type 0
GoodProgram d nested types inputs outputs more items = Each (GoodItem d nested inputs outputs more) items × Enough types (count_types items)
