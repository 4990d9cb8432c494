-- Contracts in which each past-time formula is a variable that remembers what has to be known of the past.
-- Source: Havelund and Roşu, "Synthesizing monitors for safety properties" (TACAS 2002): one bit keeps all that a formula asks of the past.
--
-- Formulas are taken in the order of their closing parentheses. A formula gets a variable for each argument, left to right, and then
-- one of its own, which stands in its place. Inner blocks are left alone, since they see variables that the contract's block does not.
use Rattle.std.specs.Prelude.{ℕ, suc, Bool, true, false, List, [], ◌∷◌, ◌++◌, Option, None, Some}
use Rattle.hp_base.specs.declared.span.Span.{Span}
use Rattle.hp_base.specs.declared.ty.Const.{Const}
use Rattle.hp_base.specs.declared.ty.Const.TheVariants as constant
use Rattle.hp_base.specs.declared.ty.Ty.TheVariants as type
use Rattle.hp_tree.specs.declared.expr.Op2.TheVariants.{And, Or}
use Rattle.hp_tree.specs.declared.program.Item.{Item}
use Rattle.hp_tree.specs.declared.program.Item.TheVariants.{TypeItem, NodeItem}
use Rattle.hp_tree.specs.Expressions.{Expr, constant, variable, last_of, one, two, choose, pre, fby, arrow, when_is, merge, call, Exprs, no_expr, more_exprs, Parts, no_part, more_parts}
use Rattle.hp_tree.specs.Blocks.{Decl, Block, block, Eqns, no_eqn, more_eqns, Eqn, define, switch, reset, automaton, eqns_of}
use Rattle.hp_tree.specs.Programs.{Contract, Node}
use Rattle.hp_past.specs.declared.formula.Formula.{Formula}
use Rattle.hp_past.specs.declared.formula.Formula.TheVariants.{Once, Historically, Since}
use Rattle.hp_past.specs.declared.formula.Formulas.{Formulas}
use Rattle.hp_past.specs.Formulas.{formulas_of, formula_of}
use Rattle.hp_past.specs.Own.{locals_of, equations_of}
use Rattle.hp_past.specs.Names.{Names, names_of, past_name, free}

-- What a contract gets behind its own declarations and equations, in order, and the number from which the next name is looked for.
pub record Added : Type 0 where
  pub next : ℕ
  pub locals : List Decl
  pub eqns : List Eqn

abbrev pub nothing_added : ℕ → Added
nothing_added k = record { next = k; locals = []; eqns = [] }

-- ---- new variables

-- a name that does not occur, and is not given again
unfoldable pub fresh : Names → Added → List ℕ × Added
fresh names s = let k = free names s.next in (past_name k, record s { next = suc k })

abbrev pub first_value : Option Bool → Option Const
first_value None = None
first_value (Some b) = Some (constant.B b)

abbrev pub boolean : Span → List ℕ → Option Bool → Decl
boolean at x first = record { name = x; ty = type.Bool; last = first_value first; clock = None; span = at }

-- the equation of a variable
abbrev pub equation : Decl → Expr → Eqn
equation d right = define d.span ((d.name, d.span) ∷ []) right

unfoldable pub with_variable : Decl → Expr → Added → Added
with_variable d right s = record s { locals = s.locals ++ d ∷ []; eqns = s.eqns ++ equation d right ∷ [] }

-- an argument as a variable
unfoldable pub with_argument : Names → Span → Expr → Added → List ℕ × Added
with_argument names at e s = let x = fresh names s in (x.0, with_variable (boolean at x.0 None) e x.1)

-- a variable with a first value, whose right side may read its last value
abbrev pub with_memory : Names → Span → Bool → (List ℕ → Expr) → Added → List ℕ × Added
with_memory names at first right s = let x = fresh names s in (x.0, with_variable (boolean at x.0 (Some first)) (right x.0) x.1)

-- ---- formulas: the variable that stands in the place of each

-- v = n or last v, at first false
unfoldable pub once_of : Names → Span → Expr → Added → List ℕ × Added
once_of names at e s =
    let n = with_argument names at e s in
    with_memory names at false (λ v. two at Or (variable at n.0) (last_of at v)) n.1

-- v = n & last v, at first true
unfoldable pub historically_of : Names → Span → Expr → Added → List ℕ × Added
historically_of names at e s =
    let n = with_argument names at e s in
    with_memory names at true (λ v. two at And (variable at n.0) (last_of at v)) n.1

-- v = n2 or n1 & last v, at first false
unfoldable pub since_of : Names → Span → Expr → Expr → Added → List ℕ × Added
since_of names at e1 e2 s =
    let n1 = with_argument names at e1 s in
    let n2 = with_argument names at e2 n1.1 in
    with_memory names at false (λ v. two at Or (variable at n2.0) (two at And (variable at n1.0) (last_of at v))) n2.1

-- what a part becomes, under a construct
abbrev pub under : {A B C : Type 0} → (A → B) → A × C → B × C
under f a = (f a.0, a.1)

-- a call of a node
abbrev pub called : Span → List ℕ → Exprs → Added → Expr × Added
called at f es s = (call at f false es, s)

-- a formula of one argument, and one of two, where the call has as many
abbrev pub with_one : (Expr → Added → List ℕ × Added) → Span → List ℕ → Exprs → Added → Expr × Added
with_one remembered at f (more_exprs e no_expr) s = under (variable at) (remembered e s)
with_one remembered at f es s = called at f es s

abbrev pub with_two : (Expr → Expr → Added → List ℕ × Added) → Span → List ℕ → Exprs → Added → Expr × Added
with_two remembered at f (more_exprs e1 (more_exprs e2 no_expr)) s = under (variable at) (remembered e1 e2 s)
with_two remembered at f es s = called at f es s

abbrev pub formula_or_call : Names → Option Formula → Span → List ℕ → Exprs → Added → Expr × Added
formula_or_call names None at f es s = called at f es s
formula_or_call names (Some Once) at f es s = with_one (once_of names at) at f es s
formula_or_call names (Some Historically) at f es s = with_one (historically_of names at) at f es s
formula_or_call names (Some Since) at f es s = with_two (since_of names at) at f es s

-- ---- the block of a contract

-- its equations and conditions
pub record Clauses : Type 0 where
  pub eqns : List Eqn
  pub assume : Option Expr
  pub enforce : Option Expr

-- what is added stands behind its own
unfoldable pub joined_block : List Decl → List Eqn → Added → Block
joined_block ds es s = block (ds ++ s.locals) (eqns_of (es ++ s.eqns))

-- ---- parts of a contract, where it is known which formulas there are and which names occur: what they become, and what is added

module _ (there : Formulas) (names : Names) where
  abbrev mutual
    pub in_expr : Expr → Added → Expr × Added
    in_expr (constant at c) s = (constant at c, s)
    in_expr (variable at x) s = (variable at x, s)
    in_expr (last_of at x) s = (last_of at x, s)
    in_expr (one at op a) s = under (one at op) (in_expr a s)
    in_expr (two at op a b) s =
        let x = in_expr a s in
        under (two at op x.0) (in_expr b x.1)
    in_expr (choose at a b c) s =
        let x = in_expr a s in
        let y = in_expr b x.1 in
        under (choose at x.0 y.0) (in_expr c y.1)
    in_expr (pre at a) s = under (pre at) (in_expr a s)
    in_expr (fby at a b) s =
        let x = in_expr a s in
        under (fby at x.0) (in_expr b x.1)
    in_expr (arrow at a b) s =
        let x = in_expr a s in
        under (arrow at x.0) (in_expr b x.1)
    in_expr (when_is at a c x) s = under (λ e. when_is at e c x) (in_expr a s)
    in_expr (merge at x ps) s = under (merge at x) (in_parts ps s)
    in_expr (call at f true es) s = under (call at f true) (in_exprs es s)
    in_expr (call at f false es) s =
        let args = in_exprs es s in
        formula_or_call names (formula_of there f) at f args.0 args.1

    pub in_exprs : Exprs → Added → Exprs × Added
    in_exprs no_expr s = (no_expr, s)
    in_exprs (more_exprs e es) s =
        let x = in_expr e s in
        under (more_exprs x.0) (in_exprs es x.1)

    pub in_parts : Parts → Added → Parts × Added
    in_parts no_part s = (no_part, s)
    in_parts (more_parts c e ps) s =
        let x = in_expr e s in
        under (more_parts c x.0) (in_parts ps x.1)

  -- an equation of the contract's own block; the blocks in it are left alone
  abbrev pub in_eqn : Eqn → Added → Eqn × Added
  in_eqn (define at xs e) s = under (define at xs) (in_expr e s)
  in_eqn (switch at e arms) s = under (λ cond. switch at cond arms) (in_expr e s)
  in_eqn (reset at b e) s = under (reset at b) (in_expr e s)
  in_eqn (automaton at qs) s = (automaton at qs, s)

  abbrev pub in_eqns : Eqns → Added → List Eqn × Added
  in_eqns no_eqn s = ([], s)
  in_eqns (more_eqns e es) s =
      let x = in_eqn e s in
      under (λ rest. x.0 ∷ rest) (in_eqns es x.1)

  abbrev pub in_condition : Option Expr → Added → Option Expr × Added
  in_condition None s = (None, s)
  in_condition (Some e) s = under Some (in_expr e s)

  abbrev pub in_parts_of : Contract → Added → Clauses × Added
  in_parts_of c s =
      let es = in_eqns (equations_of c.body) s in
      let assume = in_condition c.assume es.1 in
      let enforce = in_condition c.enforce assume.1 in
      (record { eqns = es.0; assume = assume.0; enforce = enforce.0 }, enforce.1)

  -- a contract, with the number for the next name
  abbrev pub in_contract : Contract → ℕ → Contract × ℕ
  in_contract c k =
      let r = in_parts_of c (nothing_added k) in
      (record c { body = joined_block (locals_of c.body) r.0.eqns r.1; assume = r.0.assume; enforce = r.0.enforce }, r.1.next)

  abbrev pub in_optional : Option Contract → ℕ → Option Contract × ℕ
  in_optional None k = (None, k)
  in_optional (Some c) k = under Some (in_contract c k)

  abbrev pub in_node : Node → ℕ → Node × ℕ
  in_node n k = under (λ c. record n { contract = c }) (in_optional n.contract k)

  abbrev pub in_item : Item → ℕ → Item × ℕ
  in_item (TypeItem t) k = (TypeItem t, k)
  in_item (NodeItem n) k = under NodeItem (in_node n k)

  abbrev pub in_items : List Item → ℕ → List Item
  in_items [] k = []
  in_items (item ∷ items) k = let x = in_item item k in x.0 ∷ in_items items x.1

-- the program without the formulas of its contracts; names are counted over the whole text, from 1
abbrev pub unfolded : List Item → List Item
unfolded program = in_items (formulas_of program) (names_of program) program 1

-- the number from which the next name would be looked for behind all of it
abbrev pub number_behind : Formulas → Names → List Item → ℕ → ℕ
number_behind there names [] k = k
number_behind there names (item ∷ items) k = number_behind there names items (in_item there names item k).1

abbrev pub next_number : List Item → ℕ
next_number program = number_behind (formulas_of program) (names_of program) program 1
