-- Tests that fit among the names around them, each with its types: a judgement that says nothing of the types of expressions, so that replacing inlined calls keeps it.
use Rattle.std.specs.Prelude.{◌≡◌, ◌⊎◌, ⊤, ℕ, List, [], ◌∷◌, Option, None, Some}
use Rattle.hp_base.specs.declared.ty.Ty.{Ty}
use Rattle.hp_tree.specs.declared.decl.Cons.{Cons}
use Rattle.hp_tree.specs.Blocks.{Decl, Block, block, Eqns, no_eqn, more_eqns, Eqn, define, switch, reset, automaton, Arms, no_arm, more_arms, States, no_state, more_states}
use Rattle.hp_tree.specs.Programs.{Contract, Node}
use Rattle.hp_tree.specs.Instant.{Clock}
use Rattle.hp_tree.specs.Meaning.{controls_of}
use Rattle.hp_typing.specs.Types.{cons_type}
use Rattle.law_judged.specs.Typed.Scopes.{Scope}
use Rattle.law_values.specs.Valued.Judged.{of_arms}
use Rattle.law_wellmade.specs.Timely.Tested.{AreApart}
use Rattle.law_wellmade.specs.Tested.Apart.{ConditionApart}
use Rattle.law_wellmade.specs.Tested.Fits.{ExprApart, TestsApart}

-- which names have which types
abbrev pub Around : Type 1
Around = List ℕ → Ty → Type 0

abbrev pub nobody : Around
nobody x t = ⊥

abbrev pub Declares : List Decl → Around
Declares [] x t = ⊥
Declares (d ∷ ds) x t = ((d.name ≡ x) × (d.ty ≡ t)) ⊎ Declares ds x t

abbrev pub among : Around → List Decl → Around
among G ds x t = Declares ds x t ⊎ G x t

-- the inputs and outputs of a node
abbrev pub interface_of : Node → Around
interface_of n = among (among nobody n.inputs) n.outputs

-- where `known` knows all constructors
module _ (known : Scope) where
  abbrev pub AllConses : Ty → List Cons → Type 0
  AllConses t [] = ⊤
  AllConses t (c ∷ cs) = (cons_type known c ≡ Some t) × AllConses t cs

  -- the arms of a `switch` are apart, and of one type
  abbrev pub OneType : Arms → Type 0
  OneType arms = (t : Ty) × (AllConses t (of_arms arms) × AreApart (of_arms arms))

  abbrev pub PathAround : Around → Clock → Type 0
  PathAround G [] = ⊤
  PathAround G (step ∷ path) = ((t : Ty) × (G step.1 t × (cons_type known step.0 ≡ Some t))) × PathAround G path

  abbrev pub WrittenAround : Around → Option Clock → Type 0
  WrittenAround G None = ⊤
  WrittenAround G (Some path) = PathAround G path

  abbrev pub DeclsAround : Around → List Decl → Type 0
  DeclsAround G [] = ⊤
  DeclsAround G (d ∷ ds) = WrittenAround G d.clock × DeclsAround G ds

  abbrev mutual
    pub BlockAround : Around → Block → Type 0
    BlockAround G (block ds es) = DeclsAround (among G ds) ds × EqnsAround (among G ds) es

    pub EqnsAround : Around → Eqns → Type 0
    EqnsAround G no_eqn = ⊤
    EqnsAround G (more_eqns e es) = EqnAround G e × EqnsAround G es

    pub EqnAround : Around → Eqn → Type 0
    EqnAround G (define a ys e) = ExprApart e
    EqnAround G (switch a e arms) = ExprApart e × (OneType arms × ArmsAround G arms)
    EqnAround G (reset a b e) = ExprApart e × BlockAround G b
    EqnAround G (automaton a ss) = StatesAround G ss

    pub ArmsAround : Around → Arms → Type 0
    ArmsAround G no_arm = ⊤
    ArmsAround G (more_arms c b a arms) = BlockAround G b × ArmsAround G arms

    pub StatesAround : Around → States → Type 0
    StatesAround G no_state = ⊤
    StatesAround G (more_states f b until unless a ss) = BlockAround G b × (TestsApart until × (TestsApart unless × StatesAround G ss))

  -- a node: what is said of its inputs and outputs, and its body
  abbrev pub NodeAround : Node → Type 0
  NodeAround n = (DeclsAround (interface_of n) n.inputs × DeclsAround (interface_of n) n.outputs) × BlockAround (among (interface_of n) (controls_of n.contract)) n.body

  -- a contract, which sees the inputs and outputs of its node
  abbrev pub ContractAround : Around → Option Contract → Type 0
  ContractAround G None = ⊤
  ContractAround G (Some c) = BlockAround G c.body × (ConditionApart c.assume × ConditionApart c.enforce)
