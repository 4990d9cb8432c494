-- Values that fit: each place of an instant has a value exactly where its clock is there, of its type, and not Nil where it is of class First.
use Rattle.std.specs.Prelude.{◌≡◌, ⊤, ℕ, suc, ◌<◌, nat_eq, Bool, true, false, ◌&&◌, IsTrue, IsFalse, if◌then◌else◌, List, [], ◌∷◌, Option, None, Some}
use Rattle.hp_base.specs.declared.ty.Ty.{Ty}
use Rattle.hp_base.specs.declared.value.Value.{Value}
use Rattle.hp_base.specs.declared.value.Value.TheVariants.{Absent, Nil, B}
use Rattle.hp_tree.specs.declared.decl.Cons.{Cons}
use Rattle.hp_tree.specs.declared.block.Trans.{Trans}
use Rattle.hp_tree.specs.Expressions.{Expr, constant, variable, last_of, one, two, choose, pre, fby, arrow, when_is, merge, call, Exprs, no_expr, more_exprs, Parts, no_part, more_parts}
use Rattle.hp_tree.specs.Blocks.{Decl, Block, block, Eqns, no_eqn, more_eqns, Eqn, define, switch, reset, automaton, Arms, no_arm, more_arms, States, no_state, more_states}
use Rattle.hp_tree.specs.Programs.{TypeDecl, Contract, Node}
use Rattle.hp_tree.specs.Operators.{is_cons}
use Rattle.hp_tree.specs.Values.{IsOf, AreOf}
use Rattle.hp_tree.specs.Instant.{Inputs, Controls, Body, Observer, Assume, Enforce, Named, Fresh, Equations, Head, Tail, Right, Test, Arms as ArmsOf, States as StatesOf, Until, Unless, Active, Next, Pending, First, Second, Third, Args, Instance, Instant, Place, part, top, Clock, holds, without}
use Rattle.hp_tree.specs.Meaning.{Names, declares, some_defines, inside as inside_names, within, input_of, clock_in, clock_of, state_word, state_of, controls_of}
use Rattle.hp_tree.specs.Reaction.{row_of}
use Rattle.hp_base.specs.Known.Known.{lookup}
use Rattle.hp_typing.specs.Scopes.{with_variables, inside, inside_node}
use Rattle.hp_typing.specs.Types.{type_of, input_type}
use Rattle.law_judged.specs.Typed.Scopes.{Scope}
use Rattle.hp_init.specs.Classes.{Classes, Assignment, is_second}
use Rattle.law_values.specs.Valued.Judged.{body_scope}
use Rattle.law_values.specs.Valued.Classed.{classes_in, classes_within, classes_of, none_second}

-- a value that is there: of its type, or Nil where it may be
abbrev pub HasValue : List TypeDecl → Ty → Bool → Value → Type 0
HasValue types t nil Nil = IsTrue nil
HasValue types t nil v = IsOf types t v

-- a value where its clock is there, and else none; what has no type is never there
abbrev pub Fits : List TypeDecl → Bool → Option Ty → Bool → Value → Type 0
Fits types true (Some t) nil v = HasValue types t nil v
Fits types there t nil v = v ≡ Absent

-- Which clocks of a block are there at an instant: the base clock, and with a clock each one that it is made of.
abbrev pub Presence : Type 0
Presence = Clock → Bool

pub record IsPresence (there : Presence) : Type 0 where
  pub base : there [] ≡ true
  pub shorter : (clock : Clock) → IsTrue (there clock) → IsTrue (there (without clock))

-- the type of the value of an expression; of a call that of its first output
abbrev pub first_output : Option Node → Option Ty
first_output None = None
first_output (Some n) = input_type n.outputs

abbrev pub value_type : Scope → Expr → Option Ty
value_type s (call at f i es) = first_output (lookup s.nodes f)
value_type s e = type_of s e

-- the number of states
abbrev pub count : States → ℕ
count no_state = 0
count (more_states f b until unless at ss) = suc (count ss)

-- all places of a part fit, or none is there
abbrev pub IsThere : Bool → (Instant → Type 0) → Instant → Type 0
IsThere true P i = P i
IsThere false P i = (p : Place) → i p ≡ Absent

-- the value of each output
abbrev pub OutputsFit : List TypeDecl → List Decl → Instant → Type 0
OutputsFit types [] i = ⊤
OutputsFit types (d ∷ ds) i = IsOf types d.ty (i (Named d.name ∷ [])) × OutputsFit types ds i

-- `nils` says whether a value of class Second may be Nil: it may in the language, and not in its filled form.
-- `callee f i` says that the instant i of the node f fits.
module _ (types : List TypeDecl) (nils : Bool) (callee : List ℕ → Instant → Type 0) where
  module _ (s : Scope) (second : Classes) (there : Presence) where
    -- the value of an occurrence on a clock
    abbrev pub TopFits : Expr → Clock → Instant → Type 0
    TopFits e clock i = Fits types (there clock) (value_type s e) (is_second second e && nils) (top i)

    -- each occurrence in an expression on a clock
    abbrev mutual
      pub ExprFits : Expr → Clock → Instant → Type 0
      ExprFits (constant at c) clock i = TopFits (constant at c) clock i
      ExprFits (variable at x) clock i = TopFits (variable at x) clock i
      ExprFits (last_of at x) clock i = TopFits (last_of at x) clock i
      ExprFits (one at o a) clock i = TopFits (one at o a) clock i × ExprFits a clock (part First i)
      ExprFits (two at o a b) clock i = TopFits (two at o a b) clock i × (ExprFits a clock (part First i) × ExprFits b clock (part Second i))
      ExprFits (choose at a b c) clock i =
          TopFits (choose at a b c) clock i × (ExprFits a clock (part First i) × (ExprFits b clock (part Second i) × ExprFits c clock (part Third i)))
      ExprFits (pre at a) clock i = TopFits (pre at a) clock i × ExprFits a clock (part First i)
      ExprFits (fby at a b) clock i = TopFits (fby at a b) clock i × (ExprFits a clock (part First i) × ExprFits b clock (part Second i))
      ExprFits (arrow at a b) clock i = TopFits (arrow at a b) clock i × (ExprFits a clock (part First i) × ExprFits b clock (part Second i))
      ExprFits (when_is at a c x) clock i = TopFits (when_is at a c x) clock i × ExprFits a (without clock) (part First i)
      ExprFits (merge at x ps) clock i = TopFits (merge at x ps) clock i × PartsFit ps x clock (part Args i)
      ExprFits (call at f inlined es) clock i =
          TopFits (call at f inlined es) clock i × (ExprsFit es clock (part Args i) × IsThere (there clock) (callee f) (part Instance i))

      pub ExprsFit : Exprs → Clock → Instant → Type 0
      ExprsFit no_expr clock i = ⊤
      ExprsFit (more_exprs e es) clock i = ExprFits e clock (part Head i) × ExprsFit es clock (part Tail i)

      pub PartsFit : Parts → List ℕ → Clock → Instant → Type 0
      PartsFit no_part x clock i = ⊤
      PartsFit (more_parts c e ps) x clock i = ExprFits e ((c, x) ∷ clock) (part Head i) × PartsFit ps x clock (part Tail i)

    abbrev pub TestsFit : List Trans → Instant → Type 0
    TestsFit [] i = ⊤
    TestsFit (t ∷ ts) i = ExprFits t.cond [] (part Head i) × TestsFit ts (part Tail i)

  -- The values of the names that a block defines, each on its clock; a clock `ck on C(x)` is there where ck is and x has the value C.
  abbrev pub NamesFit : List Decl → Eqns → Scope → Assignment → Presence → Instant → Type 0
  NamesFit ds es s class there i =
      (x : List ℕ) → Fits types (some_defines es x && there (clock_in ds x)) (lookup s.variables x) (class (Named x ∷ []) && nils) (i (Named x ∷ []))
      × (IsTrue (some_defines es x) → (c : Cons) (clock : Clock) → there ((c, x) ∷ clock) ≡ (is_cons types (i (Named x ∷ [])) c && there clock))

  -- A word of an automaton holds the number of one of its states.
  abbrev pub IsStateWord : States → Value → Type 0
  IsStateWord ss v = (k : ℕ) × ((v ≡ state_word k) × (k < count ss))

  abbrev pub IsWord : Value → Type 0
  IsWord v = (d : Bool) × (v ≡ B d)

  -- the clocks that are there where names have these values
  abbrev pub held : Names → Presence
  held names clock = holds types clock names

  abbrev pub names_inside : Block → Names → Instant → Names
  names_inside (block ds es) names i = inside_names es names i

  -- A block that is there, where names of further out have these values: its names and all its equations fit. Inside a control equation the last values are read of the names that it defines.
  abbrev mutual
    pub BlockFits : Scope → Classes → Assignment → Names → Block → Instant → Type 0
    BlockFits s second class names (block ds es) i =
        NamesFit ds es (with_variables s ds) class (held (inside_names es names i)) i
        × (IsWord (i (Fresh ∷ []))
        × EqnsFit ds (with_variables s ds) (classes_in es second class) (λ p. class (Equations ∷ p)) (inside_names es names i) es (part Equations i))

    pub EqnsFit : List Decl → Scope → Classes → Assignment → Names → Eqns → Instant → Type 0
    EqnsFit ds s second class names no_eqn i = ⊤
    EqnsFit ds s second class names (more_eqns e es) i =
        EqnFits ds s second (λ p. class (Head ∷ p)) names e (part Head i) × EqnsFit ds s second (λ p. class (Tail ∷ p)) names es (part Tail i)

    pub EqnFits : List Decl → Scope → Classes → Assignment → Names → Eqn → Instant → Type 0
    EqnFits ds s second class names (define at ys e) i = ExprFits s second (held names) e (clock_of ds ys e) (part Right i)
    EqnFits ds s second class names (switch at e arms) i =
        ExprFits s second (held names) e [] (part Test i)
        × ((last : Names) × ArmsFit s (classes_within (switch at e arms) second) (λ p. class (ArmsOf ∷ p)) (within (switch at e arms) names last) (i (Test ∷ [])) arms (part ArmsOf i))
    EqnFits ds s second class names (reset at b e) i =
        ExprFits s second (held names) e [] (part Test i)
        × ((last : Names) × BlockFits s (classes_within (reset at b e) second) (λ p. class (Body ∷ p)) (within (reset at b e) names last) b (part Body i))
    EqnFits ds s second class names (automaton at ss) i =
        IsStateWord ss (i (Active ∷ [])) × (IsStateWord ss (i (Next ∷ [])) × (IsWord (i (Pending ∷ []))
        × ((last : Names)
        × StatesFit s second (classes_within (automaton at ss) second) (λ p. class (StatesOf ∷ p)) names (within (automaton at ss) names last) (i (Active ∷ [])) 0 ss (part StatesOf i))))

    -- the arm of a value is there, and no other
    pub ArmsFit : Scope → Classes → Assignment → Names → Value → Arms → Instant → Type 0
    ArmsFit s second class names v no_arm i = ⊤
    ArmsFit s second class names v (more_arms c b at arms) i =
        IsThere (is_cons types v c) (BlockFits s second (λ p. class (Head ∷ p)) names b) (part Head i) × ArmsFit s second (λ p. class (Tail ∷ p)) names v arms (part Tail i)

    -- The state of the active word is there with its weak conditions, and no other; strong conditions of all states are there.
    pub StatesFit : Scope → Classes → Classes → Assignment → Names → Names → Value → ℕ → States → Instant → Type 0
    StatesFit s out second class onames names v k no_state i = ⊤
    StatesFit s out second class onames names v k (more_states f b until unless at ss) i =
        (IsThere (nat_eq k (state_of v)) (BlockFits s second (λ p. class (Head ∷ Body ∷ p)) names b) (part Body (part Head i))
        × (IsThere (nat_eq k (state_of v)) (TestsFit (inside s b) (classes_of b second (λ p. class (Head ∷ Body ∷ p))) (held (names_inside b names (part Body (part Head i)))) until) (part Until (part Head i))
        × TestsFit s out (held onames) unless (part Unless (part Head i))))
        × StatesFit s out second (λ p. class (Tail ∷ p)) onames names v (suc k) ss (part Tail i)

  -- ---- nodes

  -- the values of inputs and controllable variables, and of inputs and outputs, as the body and the contract of a node read them
  abbrev pub no_names : Names
  no_names x = Absent

  abbrev pub body_names : Node → Instant → Names
  body_names n i = input_of (controls_of n.contract) (row_of (controls_of n.contract) (part Controls i)) (input_of n.inputs (row_of n.inputs (part Inputs i)) no_names)

  abbrev pub contract_names : Node → Instant → Names
  contract_names n i x = if declares n.outputs x then i (Named x ∷ []) else input_of n.inputs (row_of n.inputs (part Inputs i)) no_names x

  abbrev pub ToldFits : Scope → Classes → Presence → Option Expr → Instant → Type 0
  ToldFits s second there None i = (p : Place) → i p ≡ Absent
  ToldFits s second there (Some e) i = ExprFits s second there e [] i

  -- A contract's block never begins anew; what it assumes and enforces stands on the clocks of the block.
  abbrev pub ContractAt : Scope → Assignment → Names → Block → Option Expr → Option Expr → Instant → Type 0
  ContractAt s class names b assume enforce i =
      BlockFits s none_second (λ p. class (Observer ∷ p)) names b (part Observer i)
      × ((i (Observer ∷ Fresh ∷ []) ≡ B false)
      × (ToldFits (inside s b) (classes_of b none_second (λ p. class (Observer ∷ p))) (held (names_inside b names (part Observer i))) assume (part Assume i)
      × ToldFits (inside s b) (classes_of b none_second (λ p. class (Observer ∷ p))) (held (names_inside b names (part Observer i))) enforce (part Enforce i)))

  abbrev pub ContractFits : Scope → Assignment → Names → Option Contract → Instant → Type 0
  ContractFits s class names None i = ⊤
  ContractFits s class names (Some c) i = ContractAt s class names c.body c.assume c.enforce i

  -- an instant of a node: its outputs, its inputs and controllable variables, and the places of its body; an instance never begins anew by itself
  abbrev pub BodyFits : Scope → Assignment → Node → Instant → Type 0
  BodyFits s class n i =
      OutputsFit types n.outputs i
      × (AreOf types n.inputs (row_of n.inputs (part Inputs i))
      × (AreOf types (controls_of n.contract) (row_of (controls_of n.contract) (part Controls i))
      × ((i (Fresh ∷ []) ≡ B false)
      × (((x : List ℕ) → IsFalse (declares n.outputs x) → i (Named x ∷ []) ≡ Absent)
      × BlockFits (body_scope s n) none_second (λ p. class (Body ∷ p)) (body_names n i) n.body (part Body i)))))

  -- and those of its contract
  abbrev pub NodeFits : Scope → Assignment → Node → Instant → Type 0
  NodeFits s class n i = BodyFits s class n i × ContractFits (inside_node s n) class (contract_names n i) n.contract i
