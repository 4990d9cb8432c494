-- Classes that are right for the parts of a node, part by part: they follow the definitions, what is wanted First is, and so is each name that has to be.
use Rattle.std.specs.Prelude.{⊤, ℕ, false, IsTrue, if◌then◌else◌, List, [], ◌∷◌, Option, None, Some}
use Rattle.hp_tree.specs.declared.decl.Cons.{Cons}
use Rattle.hp_tree.specs.declared.block.Trans.{Trans}
use Rattle.hp_tree.specs.Expressions.{Expr}
use Rattle.hp_tree.specs.Blocks.{Decl, Block, block, Eqns, no_eqn, more_eqns, Eqn, define, switch, reset, automaton, Arms, no_arm, more_arms, States, no_state, more_states}
use Rattle.hp_tree.specs.Programs.{Contract}
use Rattle.hp_tree.specs.Instant.{Body, Observer, Named, Equations, Head, Tail, Arms as ArmsOf, States as StatesOf}
use Rattle.hp_tree.specs.Meaning.{declares, some_defines}
use Rattle.hp_init.specs.Classes.{Classes, Assignment, is_second, Known, or_first, known_in, known_within, LeftsFollow}
use Rattle.hp_init.specs.Wants.{is_first, path_first, definition_met}
use Rattle.law_values.specs.Valued.Classed.{LastsFirst, OthersFirst}

-- the names of a written clock are First
abbrev pub ClockFirst : Classes → Option (List (Cons × List ℕ)) → Type 0
ClockFirst second None = ⊤
ClockFirst second (Some path) = IsTrue (path_first second path)

-- and so are those of the clocks of all these declarations
abbrev pub ClocksFirst : Classes → List Decl → Type 0
ClocksFirst second [] = ⊤
ClocksFirst second (d ∷ ds) = ClockFirst second d.clock × ClocksFirst second ds

-- the conditions of some transitions are First
abbrev pub TestsFirst : Classes → List Trans → Type 0
TestsFirst second [] = ⊤
TestsFirst second (t ∷ ts) = IsTrue (is_first second t.cond) × TestsFirst second ts

-- an expression of a contract is, where there is one
abbrev pub ToldFirst : Classes → Option Expr → Type 0
ToldFirst second None = ⊤
ToldFirst second (Some e) = IsTrue (is_first second e)

-- The classes of a part are right, where this is known of names around it.
abbrev mutual
  pub BlockGood : Known → Assignment → Block → Type 0
  BlockGood k class (block ds es) =
      LastsFirst class ds
      × (OthersFirst k ds es × (ClocksFirst (known_in (block ds es) class k).values ds × EqnsGood (known_in (block ds es) class k) ds (λ p. class (Equations ∷ p)) es))

  pub EqnsGood : Known → List Decl → Assignment → Eqns → Type 0
  EqnsGood k ds class no_eqn = ⊤
  EqnsGood k ds class (more_eqns e es) = EqnGood k ds (λ p. class (Head ∷ p)) e × EqnsGood k ds (λ p. class (Tail ∷ p)) es

  pub EqnGood : Known → List Decl → Assignment → Eqn → Type 0
  EqnGood k ds class (define at ys e) = LeftsFollow k.variables ys (is_second k.values e) × IsTrue (definition_met k.values ds ys e)
  EqnGood k ds class (switch at e arms) = IsTrue (is_first k.values e) × ArmsGood (known_within (switch at e arms) k) (λ p. class (ArmsOf ∷ p)) arms
  EqnGood k ds class (reset at b e) = IsTrue (is_first k.values e) × BlockGood (known_within (reset at b e) k) (λ p. class (Body ∷ p)) b
  EqnGood k ds class (automaton at ss) = StatesGood k (known_within (automaton at ss) k) (λ p. class (StatesOf ∷ p)) ss

  pub ArmsGood : Known → Assignment → Arms → Type 0
  ArmsGood k class no_arm = ⊤
  ArmsGood k class (more_arms c b at arms) = BlockGood k (λ p. class (Head ∷ p)) b × ArmsGood k (λ p. class (Tail ∷ p)) arms

  -- `out` is what is known outside of the automaton
  pub StatesGood : Known → Known → Assignment → States → Type 0
  StatesGood out k class no_state = ⊤
  StatesGood out k class (more_states f b until unless at ss) =
      BlockGood k (λ p. class (Head ∷ Body ∷ p)) b
      × (TestsFirst (known_in b (λ p. class (Head ∷ Body ∷ p)) k).values until × (TestsFirst out.values unless × StatesGood out k (λ p. class (Tail ∷ p)) ss))

-- those of a contract, whose expressions are read in its block
abbrev pub ContractGood : Known → Assignment → Option Contract → Type 0
ContractGood k class None = ⊤
ContractGood k class (Some c) =
    BlockGood k class c.body × (ToldFirst (known_in c.body class k).values c.assume × ToldFirst (known_in c.body class k).values c.enforce)

-- what is known in a block with these declarations and equations, whose variables have these classes
abbrev pub known_of : List Decl → Eqns → Classes → Known → Known
known_of ds es own k =
    record {
      variables = λ x. if declares ds x then Some (own x) else k.variables x;
      values = λ x. if some_defines es x then or_first (if declares ds x then Some (own x) else k.variables x) else k.values x;
    }

-- the classes of the variables of a block; any other name that is declared there is First
abbrev pub own_classes : List Decl → Assignment → Classes
own_classes ds class x = if declares ds x then class (Named x ∷ []) else false

-- ---- classes of a part, of those of its parts

-- of a part without parts
abbrev pub no_class : Assignment
no_class p = false

-- of a block whose variables have the first ones, and its equations the others
abbrev pub in_block : Classes → Assignment → Assignment
in_block own class (Named x ∷ []) = own x
in_block own class (Equations ∷ p) = class p
in_block own class p = false

-- of a row, of its first part and of the others
abbrev pub in_row : Assignment → Assignment → Assignment
in_row first others (Head ∷ p) = first p
in_row first others (Tail ∷ p) = others p
in_row first others p = false

-- of an equation, of its block
abbrev pub in_body : Assignment → Assignment
in_body class (Body ∷ p) = class p
in_body class p = false

-- and of its arms
abbrev pub in_arms : Assignment → Assignment
in_arms class (ArmsOf ∷ p) = class p
in_arms class p = false

-- of a node, of its outputs, the block of its contract and its body
abbrev pub in_node : Assignment → Assignment → Assignment → Assignment
in_node outputs observer body (Named x ∷ []) = outputs (Named x ∷ [])
in_node outputs observer body (Observer ∷ p) = observer p
in_node outputs observer body (Body ∷ p) = body p
in_node outputs observer body p = false
