-- What a block without automata becomes as clocked equations: a flat name stands for a place of the node, or for something remembered.
use Rattle.std.specs.Prelude.{ℕ, suc, is_some, Bool, true, false, ◌||◌, if◌then◌else◌, List, [], ◌∷◌, map, Option, None, Some}
use Rattle.std.specs.Str.{bytes_eq}
use Rattle.hp_base.specs.declared.span.Span.{Span}
use Rattle.hp_base.specs.declared.ty.Const.{Const}
use Rattle.hp_base.specs.declared.ty.Const.TheVariants as const
use Rattle.hp_base.specs.declared.value.Value.{Value}
use Rattle.hp_base.specs.declared.value.Value.TheVariants.{B}
use Rattle.hp_obc.specs.declared.command.ObcOp.{ObcOp}
use Rattle.hp_obc.specs.declared.command.ObcOp.TheVariants as obc
use Rattle.hp_obc.specs.declared.command.ObcOp.TheVariants.{Copy, Mux}
use Rattle.hp_tree.specs.declared.expr.Op1.{Op1}
use Rattle.hp_tree.specs.declared.expr.Op1.TheVariants.{Not, Neg}
use Rattle.hp_tree.specs.declared.expr.Op2.{Op2}
use Rattle.hp_tree.specs.declared.expr.Op2.TheVariants.{And, Or, Xor, Imp, Eq, Ne, Lt, Le, Gt, Ge, Add, Sub, Mul, Div, Rem}
use Rattle.hp_tree.specs.Expressions.{Expr, constant, variable, last_of, one, two, choose, pre, fby, arrow, when_is, merge, call, Exprs, no_expr, more_exprs, Parts, no_part, more_parts}
use Rattle.hp_tree.specs.Blocks.{Decl, Block, block, Eqns, no_eqn, more_eqns, Eqn, define, switch, reset, automaton, Arms, no_arm, more_arms}
use Rattle.hp_tree.specs.Programs.{TypeDecl, Node}
use Rattle.hp_tree.specs.Operators.{cons_of, constant_of}
use Rattle.hp_tree.specs.Instant.{Body, Named, Equations, Head, Tail, Right as RightOf, Test, Arms as ArmsOf, First, Second, Third, Args, Instance, Step, Place, Clock, without}
use Rattle.hp_tree.specs.Meaning.{declares, defines, some_defines, block_defines, clock_of, controls_of}
use Rattle.law_equations.specs.Flattened.Flat.{Arg, name, value, Right, Op, Register, Call, Row, Flat}

-- ---- operators

abbrev pub obc_one : Op1 → ObcOp
obc_one Not = obc.Not
obc_one Neg = obc.Neg

abbrev pub obc_two : Op2 → ObcOp
obc_two And = obc.And
obc_two Or = obc.Or
obc_two Xor = obc.Xor
obc_two Imp = obc.Imp
obc_two Eq = obc.Eq
obc_two Ne = obc.Ne
obc_two Lt = obc.Lt
obc_two Le = obc.Le
obc_two Gt = obc.Gt
obc_two Ge = obc.Ge
obc_two Add = obc.Add
obc_two Sub = obc.Sub
obc_two Mul = obc.Mul
obc_two Div = obc.Div
obc_two Rem = obc.Rem

-- ---- flat names

mutual
  -- an input, a place, what is given at a place, a name that has no value; and what is remembered: whether a clock is there for the first time since
  -- a restart, and the value that a place had when a clock was last there
  pub data FlatName : Type 0 where
    Input : List ℕ → FlatName
    At : Place → FlatName
    Free : Place → FlatName
    Nowhere : FlatName
    IsFirst : When → List Place → FlatName
    Held : Value → Place → When → List Place → FlatName

  pub data When : Type 0 where
    always : When
    on : Value → FlatName → When → When

abbrev pub steps : When → List (Value × FlatName)
steps always = []
steps (on v x w) = (v, x) ∷ steps w

abbrev pub ats : List Place → List FlatName
ats ps = map At ps

abbrev pub Rows : Type 0
Rows = List (Row FlatName)

abbrev pub row : When → List Place → Right FlatName → Row FlatName
row ck rs r = record { clock = steps ck; restart = ats rs; right = r }

abbrev pub copies : When → List Place → FlatName → Row FlatName
copies ck rs x = row ck rs (Op Copy (name x ∷ []))

-- the constant that an expression is, if it is one
abbrev pub constant_in : Expr → Option Const
constant_in (constant s c) = Some c
constant_in e = None

-- whether it is the constant `false`
abbrev pub is_false_constant : Option Const → Bool
is_false_constant (Some (const.B false)) = true
is_false_constant c = false

abbrev pub is_false : Expr → Bool
is_false e = is_false_constant (constant_in e)

-- ---- what stands at the places of a part, as in an instant

abbrev pub Plan : Type 0 → Type 0
Plan X = Place → Option X

abbrev pub no_plan : {X : Type 0} → Plan X
no_plan p = None

-- what is left out
abbrev pub unless : {X : Type 0} → Bool → Plan X → Plan X
unless true i = no_plan
unless false i = i

abbrev pub plan_alone : {X : Type 0} → X → Plan X
plan_alone v [] = Some v
plan_alone v p = None

abbrev pub plan_one : {X : Type 0} → X → Plan X → Plan X
plan_one v i [] = Some v
plan_one v i (First ∷ p) = i p
plan_one v i p = None

abbrev pub plan_two : {X : Type 0} → X → Plan X → Plan X → Plan X
plan_two v i j [] = Some v
plan_two v i j (First ∷ p) = i p
plan_two v i j (Second ∷ p) = j p
plan_two v i j p = None

abbrev pub plan_three : {X : Type 0} → X → Plan X → Plan X → Plan X → Plan X
plan_three v i j k [] = Some v
plan_three v i j k (First ∷ p) = i p
plan_three v i j k (Second ∷ p) = j p
plan_three v i j k (Third ∷ p) = k p
plan_three v i j k p = None

abbrev pub plan_row : {X : Type 0} → X → Plan X → Plan X
plan_row v i [] = Some v
plan_row v i (Args ∷ p) = i p
plan_row v i p = None

-- a call, with what stands at the outputs of its instance
abbrev pub plan_call : {X : Type 0} → Option X → Plan X → (List ℕ → Option X) → Plan X
plan_call v i outs [] = v
plan_call v i outs (Args ∷ p) = i p
plan_call v i outs (Instance ∷ Named x ∷ []) = outs x
plan_call v i outs p = None

abbrev pub plan_of_two : {X : Type 0} → Plan X → Plan X → Plan X
plan_of_two i j (Head ∷ p) = i p
plan_of_two i j (Tail ∷ p) = j p
plan_of_two i j p = None

abbrev pub plan_block : {X : Type 0} → (List ℕ → Option X) → Plan X → Plan X
plan_block named i (Named x ∷ []) = named x
plan_block named i (Equations ∷ p) = i p
plan_block named i p = None

abbrev pub plan_right : {X : Type 0} → Plan X → Plan X
plan_right i (RightOf ∷ p) = i p
plan_right i p = None

abbrev pub plan_arms : {X : Type 0} → Plan X → Plan X → Plan X
plan_arms i j (Test ∷ p) = i p
plan_arms i j (ArmsOf ∷ p) = j p
plan_arms i j p = None

abbrev pub plan_body : {X : Type 0} → Plan X → Plan X → Plan X
plan_body i j (Test ∷ p) = i p
plan_body i j (Body ∷ p) = j p
plan_body i j p = None

-- from a place of a part to one of the node
abbrev pub Prefix : Type 0
Prefix = Place → Place

abbrev pub below : Step → Prefix → Prefix
below s here p = here (s ∷ p)

abbrev pub at_top : Prefix → FlatName
at_top here = At (here [])

-- the flat name that stands for a name of the tree
abbrev pub Scope : Type 0
Scope = List ℕ → FlatName

abbrev pub inside_at : Eqns → Scope → Prefix → Scope
inside_at es sc here x = if some_defines es x then At (here (Named x ∷ [])) else sc x

abbrev pub within_at : Eqn → Scope → Scope → Scope
within_at e sc lsc x = if defines e x then lsc x else sc x

-- the clock of an expression, on top of that of its block
abbrev pub under : List TypeDecl → Scope → Clock → When → When
under types sc [] ck = ck
under types sc (step ∷ clock) ck = on (cons_of types step.0) (sc step.1) (under types sc clock ck)

-- what a block begins anew at: no condition that is the constant `false`
abbrev pub restarts_at : Expr → Prefix → List Place → List Place
restarts_at e here rs = if is_false e then rs else here (Test ∷ []) ∷ rs

-- a `last` name is remembered by a register of its block
abbrev pub lasts_at : List TypeDecl → List Decl → Scope → Prefix → When → List Place → Scope
lasts_at types [] lsc here ck rs x = lsc x
lasts_at types (d ∷ ds) lsc here ck rs x =
    if bytes_eq d.name x
    then (elim d.last [ None ↦ lsc x | Some c ↦ Held (constant_of types c) (here (Named x ∷ [])) ck rs ])
    else lasts_at types ds lsc here ck rs x

-- the body of a node reads its inputs and its controllable variables; no other name has a value around it
abbrev pub node_scope : Node → Scope
node_scope n x = if declares n.inputs x || declares (controls_of n.contract) x then Input x else Nowhere

module _ (types : List TypeDecl) (outputs : List ℕ → List (List ℕ)) (fill : Place → Value) where
  -- the arguments of a call
  abbrev pub args_at : Exprs → Prefix → List (Arg FlatName)
  args_at no_expr here = []
  args_at (more_exprs e es) here = name (At (here (Head ∷ []))) ∷ args_at es (below Tail here)

  abbrev pub parts_at : Parts → List ℕ → Scope → Prefix → When → List Place → Rows
  parts_at no_part x sc here ck rs = []
  parts_at (more_parts c e ps) x sc here ck rs =
      copies (on (cons_of types c) (sc x) ck) rs (At (here (Head ∷ []))) ∷ parts_at ps x sc (below Tail here) ck rs

  -- the value of a call is that of its first output; and the equation of an output
  abbrev pub only_row : List (List ℕ) → Prefix → When → List Place → Option Rows
  only_row [] here ck rs = None
  only_row (o ∷ os) here ck rs = Some (copies ck rs (At (here (Instance ∷ Named o ∷ []))) ∷ [])

  abbrev pub output_row : ℕ → List (List ℕ) → When → List Place → List ℕ → List (Arg FlatName) → List ℕ → Option Rows
  output_row k [] ck rs f xs x = None
  output_row k (o ∷ os) ck rs f xs x = if bytes_eq o x then Some (row ck rs (Call f k xs) ∷ []) else output_row (suc k) os ck rs f xs x

  -- `a fby b`: one register where `a` is a constant
  abbrev pub fby_row : Option Const → Prefix → When → List Place → Row FlatName
  fby_row None here w rs =
      row w rs (Op Mux (name (IsFirst w rs) ∷ name (At (here (First ∷ []))) ∷ name (Held (fill (here [])) (here (Second ∷ [])) w rs) ∷ []))
  fby_row (Some c) here w rs = row w rs (Register (constant_of types c) (name (At (here (Second ∷ [])))))

  abbrev mutual
    pub flat_expr : Expr → Clock → Scope → Scope → Prefix → When → List Place → Plan Rows
    flat_expr (constant s c) clock sc lsc here ck rs =
        plan_alone (row (under types sc clock ck) rs (Op Copy (value (constant_of types c) ∷ [])) ∷ [])
    flat_expr (variable s x) clock sc lsc here ck rs = plan_alone (copies (under types sc clock ck) rs (sc x) ∷ [])
    flat_expr (last_of s x) clock sc lsc here ck rs = plan_alone (copies (under types sc clock ck) rs (lsc x) ∷ [])
    flat_expr (one s o a) clock sc lsc here ck rs =
        plan_one (row (under types sc clock ck) rs (Op (obc_one o) (name (At (here (First ∷ []))) ∷ [])) ∷ [])
        (flat_expr a clock sc lsc (below First here) ck rs)
    flat_expr (two s o a b) clock sc lsc here ck rs =
        plan_two (row (under types sc clock ck) rs (Op (obc_two o) (name (At (here (First ∷ []))) ∷ name (At (here (Second ∷ []))) ∷ [])) ∷ [])
        (flat_expr a clock sc lsc (below First here) ck rs)
        (flat_expr b clock sc lsc (below Second here) ck rs)
    flat_expr (choose s a b c) clock sc lsc here ck rs =
        plan_three
        (row (under types sc clock ck) rs (Op Mux (name (At (here (First ∷ []))) ∷ name (At (here (Second ∷ []))) ∷ name (At (here (Third ∷ []))) ∷ [])) ∷ [])
        (flat_expr a clock sc lsc (below First here) ck rs)
        (flat_expr b clock sc lsc (below Second here) ck rs)
        (flat_expr c clock sc lsc (below Third here) ck rs)
    flat_expr (pre s a) clock sc lsc here ck rs =
        plan_one (row (under types sc clock ck) rs (Register (fill (here [])) (name (At (here (First ∷ []))))) ∷ [])
        (flat_expr a clock sc lsc (below First here) ck rs)
    flat_expr (fby s a b) clock sc lsc here ck rs =
        plan_two (fby_row (constant_in a) here (under types sc clock ck) rs ∷ [])
        (unless (is_some (constant_in a)) (flat_expr a clock sc lsc (below First here) ck rs))
        (flat_expr b clock sc lsc (below Second here) ck rs)
    flat_expr (arrow s a b) clock sc lsc here ck rs =
        plan_two
        (row (under types sc clock ck) rs (Op Mux (name (IsFirst (under types sc clock ck) rs) ∷ name (At (here (First ∷ []))) ∷ name (At (here (Second ∷ []))) ∷ [])) ∷ [])
        (flat_expr a clock sc lsc (below First here) ck rs)
        (flat_expr b clock sc lsc (below Second here) ck rs)
    flat_expr (when_is s a c x) clock sc lsc here ck rs =
        plan_one (copies (under types sc clock ck) rs (At (here (First ∷ []))) ∷ [])
        (flat_expr a (without clock) sc lsc (below First here) ck rs)
    flat_expr (merge s x ps) clock sc lsc here ck rs =
        plan_row (parts_at ps x sc (below Args here) (under types sc clock ck) rs) (flat_parts ps x clock sc lsc (below Args here) ck rs)
    flat_expr (call s f inlined es) clock sc lsc here ck rs =
        plan_call (only_row (outputs f) here (under types sc clock ck) rs)
        (flat_exprs es clock sc lsc (below Args here) ck rs)
        (output_row 0 (outputs f) (under types sc clock ck) rs f (args_at es (below Args here)))

    pub flat_exprs : Exprs → Clock → Scope → Scope → Prefix → When → List Place → Plan Rows
    flat_exprs no_expr clock sc lsc here ck rs = no_plan
    flat_exprs (more_exprs e es) clock sc lsc here ck rs =
        plan_of_two (flat_expr e clock sc lsc (below Head here) ck rs) (flat_exprs es clock sc lsc (below Tail here) ck rs)

    pub flat_parts : Parts → List ℕ → Clock → Scope → Scope → Prefix → When → List Place → Plan Rows
    flat_parts no_part x clock sc lsc here ck rs = no_plan
    flat_parts (more_parts c e ps) x clock sc lsc here ck rs =
        plan_of_two (flat_expr e ((c, x) ∷ clock) sc lsc (below Head here) ck rs) (flat_parts ps x clock sc lsc (below Tail here) ck rs)

  -- ---- names

  abbrev pub output_at : List (List ℕ × Span) → List (List ℕ) → Prefix → List ℕ → FlatName
  output_at [] os here x = Nowhere
  output_at (y ∷ ys) [] here x = Nowhere
  output_at (y ∷ ys) (o ∷ os) here x = if bytes_eq y.0 x then At (here (Instance ∷ Named o ∷ [])) else output_at ys os here x

  abbrev pub right_at : List (List ℕ × Span) → Expr → Prefix → List ℕ → FlatName
  right_at ys (call s f inlined es) here x = output_at ys (outputs f) here x
  right_at ys e here x = At (here [])

  -- what the arms give to a name, each on its clock
  abbrev pub arms_rows : Arms → FlatName → Scope → Prefix → When → List Place → List ℕ → Rows
  arms_rows no_arm test lsc here ck rs x = []
  arms_rows (more_arms c b s arms) test lsc here ck rs x =
      copies (on (cons_of types c) test ck) rs (if block_defines b x then At (here (Head ∷ Named x ∷ [])) else lsc x)
      ∷ arms_rows arms test lsc (below Tail here) ck rs x

  abbrev pub flat_gives : List Decl → Eqn → Scope → Scope → Prefix → When → List Place → List ℕ → Rows
  flat_gives ds (define s ys e) sc lsc here ck rs x = copies (under types sc (clock_of ds ys e) ck) rs (right_at ys e (below RightOf here) x) ∷ []
  flat_gives ds (switch s e arms) sc lsc here ck rs x = arms_rows arms (At (here (Test ∷ []))) lsc (below ArmsOf here) ck rs x
  flat_gives ds (reset s b e) sc lsc here ck rs x = copies ck rs (At (here (Body ∷ Named x ∷ []))) ∷ []
  flat_gives ds (automaton s ss) sc lsc here ck rs x = []

  abbrev pub flat_defined : List Decl → Eqns → Scope → Scope → Prefix → When → List Place → List ℕ → Rows
  flat_defined ds no_eqn sc lsc here ck rs x = []
  flat_defined ds (more_eqns e es) sc lsc here ck rs x =
      if defines e x then flat_gives ds e sc lsc (below Head here) ck rs x else flat_defined ds es sc lsc (below Tail here) ck rs x

  -- ---- blocks and equations

  abbrev mutual
    pub flat_scope : Block → Scope → Scope → Prefix → When → List Place → Plan Rows
    flat_scope (block ds es) sc lsc here ck rs =
        let sc' = inside_at es sc here in
        let lsc' = lasts_at types ds lsc here ck rs in
        plan_block
        (λ x. if some_defines es x then Some (flat_defined ds es sc' lsc' (below Equations here) ck rs x) else None)
        (flat_equations ds es sc' lsc' (below Equations here) ck rs)

    pub flat_equations : List Decl → Eqns → Scope → Scope → Prefix → When → List Place → Plan Rows
    flat_equations ds no_eqn sc lsc here ck rs = no_plan
    flat_equations ds (more_eqns e es) sc lsc here ck rs =
        plan_of_two (flat_equation ds e sc lsc (below Head here) ck rs) (flat_equations ds es sc lsc (below Tail here) ck rs)

    pub flat_equation : List Decl → Eqn → Scope → Scope → Prefix → When → List Place → Plan Rows
    flat_equation ds (define s ys e) sc lsc here ck rs = plan_right (flat_expr e (clock_of ds ys e) sc lsc (below RightOf here) ck rs)
    flat_equation ds (switch s e arms) sc lsc here ck rs =
        plan_arms (flat_expr e [] sc lsc (below Test here) ck rs)
        (flat_arms arms (At (here (Test ∷ []))) (within_at (switch s e arms) sc lsc) lsc (below ArmsOf here) ck rs)
    flat_equation ds (reset s b e) sc lsc here ck rs =
        plan_body (unless (is_false e) (flat_expr e [] sc lsc (below Test here) ck rs))
        (flat_scope b (within_at (reset s b e) sc lsc) lsc (below Body here) ck (restarts_at e here rs))
    flat_equation ds (automaton s ss) sc lsc here ck rs = no_plan

    pub flat_arms : Arms → FlatName → Scope → Scope → Prefix → When → List Place → Plan Rows
    flat_arms no_arm test sc lsc here ck rs = no_plan
    flat_arms (more_arms c b s arms) test sc lsc here ck rs =
        plan_of_two (flat_scope b sc lsc (below Head here) (on (cons_of types c) test ck) rs)
        (flat_arms arms test sc lsc (below Tail here) ck rs)

  -- ---- nodes: outputs, the body, and what is remembered

  abbrev pub flat_place : Node → Plan Rows
  flat_place n (Named x ∷ []) = if declares n.outputs x then Some (copies always [] (At (Body ∷ Named x ∷ [])) ∷ []) else None
  flat_place n (Body ∷ p) = flat_scope n.body (node_scope n) (lasts_at types n.outputs (λ x. Nowhere) (λ q. Body ∷ q) always []) (λ q. Body ∷ q) always [] p
  flat_place n p = None

  abbrev pub flatten : Node → Flat FlatName
  flatten n (At p) = flat_place n p
  flatten n (IsFirst ck rs) = Some (row ck rs (Register (B true) (value (B false))) ∷ [])
  flatten n (Held v p ck rs) = Some (row ck rs (Register v (name (At p))) ∷ [])
  flatten n x = None
