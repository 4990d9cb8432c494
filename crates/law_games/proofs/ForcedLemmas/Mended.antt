-- What is given at a place of a node, mended: at an operator with two operands it becomes a truth value, at an output of a call a value of the output's type, and at a `pre` what its register holds at the start. Elsewhere it stays.
-- Source: own. What is given at a place is mended by itself, so early values are mended alike whatever is chosen later.
use Rattle.std.specs.Prelude.{ℕ, false, if◌then◌else◌, List, [], ◌∷◌, Option, None, Some}
use Rattle.std.specs.Str.{bytes_eq}
use Rattle.hp_base.specs.declared.ty.Ty.{Ty}
use Rattle.hp_base.specs.declared.ty.Ty.TheVariants as ty
use Rattle.hp_base.specs.declared.value.Value.{Value}
use Rattle.hp_base.specs.declared.value.Value.TheVariants.{B, Star}
use Rattle.hp_tree.specs.declared.block.Trans.{Trans}
use Rattle.hp_tree.specs.Expressions.{Expr, constant, variable, last_of, one, two, choose, pre, fby, arrow, when_is, merge, call, Exprs, no_expr, more_exprs, Parts, no_part, more_parts}
use Rattle.hp_tree.specs.Blocks.{Decl, Block, block, Eqns, no_eqn, more_eqns, Eqn, define, switch, reset, automaton, Arms, no_arm, more_arms, States, no_state, more_states}
use Rattle.hp_tree.specs.Programs.{TypeDecl, Contract, Node}
use Rattle.hp_tree.specs.Operators.{constructor_from, same_value}
use Rattle.hp_tree.specs.Filled.{first_value}
use Rattle.hp_tree.specs.Instant.{Body, Observer, Assume, Enforce, Named, Equations, Head, Tail, Right, Test, Arms as ArmsOf, States as StatesOf, Until, Unless, First, Second, Third, Args, Instance, Place, Instant, part}
use Rattle.hp_tree.specs.Values.{constructors_of}

-- ---- values

abbrev pub flag_of : Value → Value
flag_of (B b) = B b
flag_of v = B false

-- the constructor among some that a value is, or another value
abbrev pub one_among : List TypeDecl → List (List ℕ) → Value → Value → Value
one_among types [] other v = other
one_among types (c ∷ cs) other v = if same_value v (constructor_from 0 types c) then constructor_from 0 types c else one_among types cs other v

-- A value of a type stays; every other one becomes the first value of the type.
abbrev pub of_type : List TypeDecl → Ty → Value → Value
of_type types ty.Bool v = flag_of v
of_type types ty.Int v = Star
of_type types (ty.Enum t) v = one_among types (constructors_of types t) (first_value types (ty.Enum t)) v

abbrev pub of_output : List TypeDecl → List Decl → List ℕ → Value → Value
of_output types [] x v = v
of_output types (d ∷ ds) x v = if bytes_eq d.name x then of_type types d.ty v else of_output types ds x v

-- ---- by places; `start` has what registers hold at the start

abbrev pub Mends : Type 0
Mends = Instant → Place → Value → Value

module _ (callee : List ℕ → Mends) where
  abbrev mutual
    pub mend : Expr → Mends
    mend (constant s c) start p v = v
    mend (variable s x) start p v = v
    mend (last_of s x) start p v = v
    mend (one s o a) start (First ∷ p) v = mend a (part First start) p v
    mend (one s o a) start p v = v
    mend (two s o a b) start [] v = flag_of v
    mend (two s o a b) start (First ∷ p) v = mend a (part First start) p v
    mend (two s o a b) start (Second ∷ p) v = mend b (part Second start) p v
    mend (two s o a b) start p v = v
    mend (choose s a b c) start [] v = flag_of v
    mend (choose s a b c) start (First ∷ p) v = mend a (part First start) p v
    mend (choose s a b c) start (Second ∷ p) v = mend b (part Second start) p v
    mend (choose s a b c) start (Third ∷ p) v = mend c (part Third start) p v
    mend (choose s a b c) start p v = v
    mend (pre s a) start [] v = start []
    mend (pre s a) start (First ∷ p) v = mend a (part First start) p v
    mend (pre s a) start p v = v
    mend (fby s a b) start [] v = flag_of v
    mend (fby s a b) start (First ∷ p) v = mend a (part First start) p v
    mend (fby s a b) start (Second ∷ p) v = mend b (part Second start) p v
    mend (fby s a b) start p v = v
    mend (arrow s a b) start [] v = flag_of v
    mend (arrow s a b) start (First ∷ p) v = mend a (part First start) p v
    mend (arrow s a b) start (Second ∷ p) v = mend b (part Second start) p v
    mend (arrow s a b) start p v = v
    mend (when_is s a c x) start (First ∷ p) v = mend a (part First start) p v
    mend (when_is s a c x) start p v = v
    mend (merge s x ps) start (Args ∷ p) v = mend_parts ps (part Args start) p v
    mend (merge s x ps) start p v = v
    mend (call s f inlined es) start (Args ∷ p) v = mend_all es (part Args start) p v
    mend (call s f inlined es) start (Instance ∷ p) v = callee f (part Instance start) p v
    mend (call s f inlined es) start p v = v

    pub mend_all : Exprs → Mends
    mend_all no_expr start p v = v
    mend_all (more_exprs e es) start (Head ∷ p) v = mend e (part Head start) p v
    mend_all (more_exprs e es) start (Tail ∷ p) v = mend_all es (part Tail start) p v
    mend_all (more_exprs e es) start p v = v

    pub mend_parts : Parts → Mends
    mend_parts no_part start p v = v
    mend_parts (more_parts c e ps) start (Head ∷ p) v = mend e (part Head start) p v
    mend_parts (more_parts c e ps) start (Tail ∷ p) v = mend_parts ps (part Tail start) p v
    mend_parts (more_parts c e ps) start p v = v

  abbrev pub mend_tests : List Trans → Mends
  mend_tests [] start p v = v
  mend_tests (t ∷ ts) start (Head ∷ p) v = mend t.cond (part Head start) p v
  mend_tests (t ∷ ts) start (Tail ∷ p) v = mend_tests ts (part Tail start) p v
  mend_tests (t ∷ ts) start p v = v

  abbrev mutual
    pub mend_block : Block → Mends
    mend_block (block ds es) start (Equations ∷ p) v = mend_eqns es (part Equations start) p v
    mend_block (block ds es) start p v = v

    pub mend_eqns : Eqns → Mends
    mend_eqns no_eqn start p v = v
    mend_eqns (more_eqns e es) start (Head ∷ p) v = mend_eqn e (part Head start) p v
    mend_eqns (more_eqns e es) start (Tail ∷ p) v = mend_eqns es (part Tail start) p v
    mend_eqns (more_eqns e es) start p v = v

    pub mend_eqn : Eqn → Mends
    mend_eqn (define s ys e) start (Right ∷ p) v = mend e (part Right start) p v
    mend_eqn (define s ys e) start p v = v
    mend_eqn (switch s e arms) start (Test ∷ p) v = mend e (part Test start) p v
    mend_eqn (switch s e arms) start (ArmsOf ∷ p) v = mend_arms arms (part ArmsOf start) p v
    mend_eqn (switch s e arms) start p v = v
    mend_eqn (reset s b e) start (Test ∷ p) v = mend e (part Test start) p v
    mend_eqn (reset s b e) start (Body ∷ p) v = mend_block b (part Body start) p v
    mend_eqn (reset s b e) start p v = v
    mend_eqn (automaton s ss) start (StatesOf ∷ p) v = mend_states ss (part StatesOf start) p v
    mend_eqn (automaton s ss) start p v = v

    pub mend_arms : Arms → Mends
    mend_arms no_arm start p v = v
    mend_arms (more_arms c b s arms) start (Head ∷ p) v = mend_block b (part Head start) p v
    mend_arms (more_arms c b s arms) start (Tail ∷ p) v = mend_arms arms (part Tail start) p v
    mend_arms (more_arms c b s arms) start p v = v

    pub mend_states : States → Mends
    mend_states no_state start p v = v
    mend_states (more_states f b until unless s ss) start (Head ∷ Body ∷ p) v = mend_block b (part Body (part Head start)) p v
    mend_states (more_states f b until unless s ss) start (Head ∷ Until ∷ p) v = mend_tests until (part Until (part Head start)) p v
    mend_states (more_states f b until unless s ss) start (Head ∷ Unless ∷ p) v = mend_tests unless (part Unless (part Head start)) p v
    mend_states (more_states f b until unless s ss) start (Tail ∷ p) v = mend_states ss (part Tail start) p v
    mend_states (more_states f b until unless s ss) start p v = v

  abbrev pub mend_told : Option Expr → Mends
  mend_told None start p v = v
  mend_told (Some e) start p v = mend e start p v

  abbrev pub mend_contract : Option Contract → Mends
  mend_contract None start p v = v
  mend_contract (Some c) start (Observer ∷ p) v = mend_block c.body (part Observer start) p v
  mend_contract (Some c) start (Assume ∷ p) v = mend_told c.assume (part Assume start) p v
  mend_contract (Some c) start (Enforce ∷ p) v = mend_told c.enforce (part Enforce start) p v
  mend_contract (Some c) start p v = v

  abbrev pub mend_node : Node → Mends
  mend_node n start (Body ∷ p) v = mend_block n.body (part Body start) p v
  mend_node n start p v = mend_contract n.contract start p v

-- ---- instances: outputs, and the contract, which calls nothing

abbrev pub mend_none : List ℕ → Mends
mend_none f start p v = v

abbrev pub mend_alone : List TypeDecl → Node → Mends
mend_alone types n start (Named x ∷ []) v = of_output types n.outputs x v
mend_alone types n start p v = mend_contract mend_none n.contract start p v

abbrev pub mend_by : List TypeDecl → Option Node → Mends
mend_by types None start p v = v
mend_by types (Some n) start p v = mend_alone types n start p v
