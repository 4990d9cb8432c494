-- The same of instants of the past, without the values of names: for each block some clocks are there.
use Rattle.std.specs.Prelude.{◌≡◌, ⊤, ℕ, Bool, false, List, [], ◌∷◌, Option, None, Some}
use Rattle.hp_base.specs.declared.value.Value.TheVariants.{B}
use Rattle.hp_tree.specs.Expressions.{Expr}
use Rattle.hp_tree.specs.Blocks.{Decl, Block, block, Eqns, no_eqn, more_eqns, Eqn, define, switch, reset, automaton, Arms, no_arm, more_arms, States, no_state, more_states}
use Rattle.hp_tree.specs.Programs.{TypeDecl, Contract, Node}
use Rattle.hp_tree.specs.Instant.{Body, Observer, Assume, Enforce, Fresh, Equations, Head, Tail, Right, Test, Arms as ArmsOf, States as StatesOf, Until, Unless, Active, Next, Instant, part}
use Rattle.hp_tree.specs.Meaning.{clock_of, controls_of}
use Rattle.hp_typing.specs.Scopes.{with_variables, inside, inside_node}
use Rattle.law_judged.specs.Typed.Scopes.{Scope}
use Rattle.hp_init.specs.Classes.{Classes, Assignment}
use Rattle.law_values.specs.Valued.Classed.{classes_in, classes_within, classes_of, none_second}
use Rattle.law_values.specs.Valued.Fitting.{Presence, IsPresence, IsThere, ExprFits, TestsFit, NamesFit, OutputsFit, IsStateWord, ToldFits}

module _ (types : List TypeDecl) (nils : Bool) (callee : List ℕ → Instant → Type 0) where
  -- A block that is there: some clocks are, and its names and all its equations fit them.
  abbrev mutual
    pub BlockLoose : Scope → Classes → Assignment → Block → Instant → Type 0
    BlockLoose s second class (block ds es) i =
        (there : Presence) × (IsPresence there
        × (NamesFit types nils callee ds es (with_variables s ds) class there i
        × EqnsLoose ds (with_variables s ds) (classes_in es second class) (λ p. class (Equations ∷ p)) there es (part Equations i)))

    pub EqnsLoose : List Decl → Scope → Classes → Assignment → Presence → Eqns → Instant → Type 0
    EqnsLoose ds s second class there no_eqn i = ⊤
    EqnsLoose ds s second class there (more_eqns e es) i =
        EqnLoose ds s second (λ p. class (Head ∷ p)) there e (part Head i) × EqnsLoose ds s second (λ p. class (Tail ∷ p)) there es (part Tail i)

    pub EqnLoose : List Decl → Scope → Classes → Assignment → Presence → Eqn → Instant → Type 0
    EqnLoose ds s second class there (define at ys e) i = ExprFits types nils callee s second there e (clock_of ds ys e) (part Right i)
    EqnLoose ds s second class there (switch at e arms) i =
        ExprFits types nils callee s second there e [] (part Test i)
        × ArmsLoose s (classes_within (switch at e arms) second) (λ p. class (ArmsOf ∷ p)) arms (part ArmsOf i)
    EqnLoose ds s second class there (reset at b e) i =
        ExprFits types nils callee s second there e [] (part Test i)
        × BlockLoose s (classes_within (reset at b e) second) (λ p. class (Body ∷ p)) b (part Body i)
    EqnLoose ds s second class there (automaton at ss) i =
        IsStateWord types nils callee ss (i (Active ∷ [])) × (IsStateWord types nils callee ss (i (Next ∷ []))
        × StatesLoose s second (classes_within (automaton at ss) second) (λ p. class (StatesOf ∷ p)) there ss (part StatesOf i))

    -- an arm is there, or not
    pub ArmsLoose : Scope → Classes → Assignment → Arms → Instant → Type 0
    ArmsLoose s second class no_arm i = ⊤
    ArmsLoose s second class (more_arms c b at arms) i =
        ((d : Bool) × IsThere d (BlockLoose s second (λ p. class (Head ∷ p)) b) (part Head i)) × ArmsLoose s second (λ p. class (Tail ∷ p)) arms (part Tail i)

    -- a state is there with its weak conditions, or not; strong conditions of all states are there
    pub StatesLoose : Scope → Classes → Classes → Assignment → Presence → States → Instant → Type 0
    StatesLoose s out second class there no_state i = ⊤
    StatesLoose s out second class there (more_states f b until unless at ss) i =
        (((d : Bool) × (IsThere d (BlockLoose s second (λ p. class (Head ∷ Body ∷ p)) b) (part Body (part Head i))
        × IsThere d (λ j. (w : Presence) × (IsPresence w × TestsFit types nils callee (inside s b) (classes_of b second (λ p. class (Head ∷ Body ∷ p))) w until j)) (part Until (part Head i))))
        × TestsFit types nils callee s out there unless (part Unless (part Head i)))
        × StatesLoose s out second (λ p. class (Tail ∷ p)) there ss (part Tail i)

  -- ---- nodes

  -- a block with its clocks
  abbrev pub BlockAt : Scope → Classes → Assignment → Presence → Block → Instant → Type 0
  BlockAt s second class there (block ds es) i =
      NamesFit types nils callee ds es (with_variables s ds) class there i × EqnsLoose ds (with_variables s ds) (classes_in es second class) (λ p. class (Equations ∷ p)) there es (part Equations i)

  -- A contract's block never begins anew; what it assumes and enforces stands on the clocks of the block.
  abbrev pub ContractAt : Scope → Assignment → Block → Option Expr → Option Expr → Instant → Type 0
  ContractAt s class b assume enforce i =
      (there : Presence) × (IsPresence there
      × (BlockAt s none_second (λ p. class (Observer ∷ p)) there b (part Observer i)
      × ((i (Observer ∷ Fresh ∷ []) ≡ B false)
      × (ToldFits types nils callee (inside s b) (classes_of b none_second (λ p. class (Observer ∷ p))) there assume (part Assume i)
      × ToldFits types nils callee (inside s b) (classes_of b none_second (λ p. class (Observer ∷ p))) there enforce (part Enforce i)))))

  abbrev pub ContractLoose : Scope → Assignment → Option Contract → Instant → Type 0
  ContractLoose s class None i = ⊤
  ContractLoose s class (Some c) i = ContractAt s class c.body c.assume c.enforce i

  -- an instant of a node: its outputs and the places of its body
  abbrev pub BodyLoose : Scope → Assignment → Node → Instant → Type 0
  BodyLoose s class n i =
      OutputsFit types n.outputs i
      × BlockLoose (with_variables (inside_node s n) (controls_of n.contract)) none_second (λ p. class (Body ∷ p)) n.body (part Body i)

  -- and those of its contract
  abbrev pub NodeLoose : Scope → Assignment → Node → Instant → Type 0
  NodeLoose s class n i = BodyLoose s class n i × ContractLoose (inside_node s n) class n.contract i
