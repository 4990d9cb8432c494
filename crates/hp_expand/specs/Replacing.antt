-- The replacement of inlined calls by equations of the block in which they stand.
--
-- The new equations of an equation's calls stand directly before it, those of an inner call before those of the outer one: first an
-- equation for each input of the node, which is a new local variable defined by its argument, and then the node's equations. The new
-- local variables of a call are the node's inputs, outputs and locals, in this order; they stand behind those of the block. The call
-- itself becomes the variable of its output. Each new variable gets a name of its own in the end (Numbering).
use Rattle.std.specs.Prelude.{ℕ, suc, true, false, List, [], ◌∷◌, ◌++◌, map, Option, None, Some}
use Rattle.hp_base.specs.declared.span.Span.{Span}
use Rattle.hp_tree.specs.Expressions.{Expr, constant, variable, last_of, one, two, choose, pre, fby, arrow, when_is, merge, call, Exprs, no_expr, more_exprs, Parts, no_part, more_parts}
use Rattle.hp_tree.specs.Blocks.{Decl, Block, block, Eqns, no_eqn, more_eqns, Eqn, define, switch, reset, automaton, Arms, no_arm, more_arms, States, no_state, more_states, eqns_of, list_of_eqns}
use Rattle.hp_tree.specs.Programs.{Contract, Node}
use Rattle.hp_expand.specs.Renaming.{renamed_decls, renamed_eqns}
use Rattle.hp_expand.specs.NewNames.{marked}

-- A part whose inlined calls are replaced: the new local variables and the equations before it, in order, and the number of the next
-- call of the node that is replaced.
pub record Replaced (A : Type 0) : Type 0 where
  pub locals : List Decl
  pub before : List Eqn
  pub next : ℕ
  pub part : A

module _ {A : Type 0} where
  abbrev pub unchanged : ℕ → A → Replaced A
  unchanged k a = record { locals = []; before = []; next = k; part = a }

module _ {A B : Type 0} where
  abbrev pub under : (A → B) → Replaced A → Replaced B
  under f a = record { locals = a.locals; before = a.before; next = a.next; part = f a.part }

module _ {A B C : Type 0} where
  -- two parts, the first one first
  abbrev pub beside : (A → B → C) → Replaced A → Replaced B → Replaced C
  beside f a b = record { locals = a.locals ++ b.locals; before = a.before ++ b.before; next = b.next; part = f a.part b.part }

module _ {A B C : Type 0} where
  -- a part with inner blocks, which keep what is theirs
  abbrev pub holding : (A → B → C) → Replaced A → Replaced B → Replaced C
  holding f a b = record { locals = a.locals; before = a.before; next = b.next; part = f a.part b.part }

-- one equation for each input, placed at the input's declaration
abbrev pub given : List Decl → Exprs → List Eqn
given [] es = []
given ds no_expr = []
given (d ∷ ds) (more_exprs e es) = define d.span ((d.name, d.span) ∷ []) e ∷ given ds es

abbrev pub locals_of : Block → List Decl
locals_of (block ds es) = ds

abbrev pub equations_of : Block → Eqns
equations_of (block ds es) = es

-- the names of some declarations
abbrev pub names_of : List Decl → List (List ℕ)
names_of ds = map (λ (d : Decl). d.name) ds

-- a call of a node whose arguments have been dealt with, and the new names of its outputs
abbrev pub inlined_call : Node → Replaced Exprs → Replaced (List (List ℕ))
inlined_call n args = record {
  locals = args.locals ++ renamed_decls (marked args.next) (n.inputs ++ (n.outputs ++ locals_of n.body));
  before = args.before ++ (given (renamed_decls (marked args.next) n.inputs) args.part ++ list_of_eqns (renamed_eqns (marked args.next) (equations_of n.body)));
  next = suc args.next;
  part = names_of (renamed_decls (marked args.next) n.outputs);
}

-- the variable of the one output
abbrev pub output_at : Span → List (List ℕ) → Expr
output_at at [] = variable at []
output_at at (x ∷ xs) = variable at x

-- one equation for each name
abbrev pub defined_by : Span → List (List ℕ × Span) → Span → List (List ℕ) → List Eqn
defined_by s [] at outputs = []
defined_by s xs at [] = []
defined_by s (x ∷ xs) at (y ∷ ys) = define s (x ∷ []) (variable at y) ∷ defined_by s xs at ys

-- where it is known what the nodes are, with their own calls replaced
module _ (nodes : List ℕ → Node) where
  abbrev mutual
    pub in_expr : ℕ → Expr → Replaced Expr
    in_expr k (constant at c) = unchanged k (constant at c)
    in_expr k (variable at x) = unchanged k (variable at x)
    in_expr k (last_of at x) = unchanged k (last_of at x)
    in_expr k (one at op a) = under (one at op) (in_expr k a)
    in_expr k (two at op a b) = beside (two at op) (in_expr k a) (in_expr (in_expr k a).next b)
    in_expr k (choose at a b c) =
        beside (λ (x : Expr) (p : Expr × Expr). choose at x p.0 p.1) (in_expr k a)
        (beside (λ (y z : Expr). (y, z)) (in_expr (in_expr k a).next b) (in_expr (in_expr (in_expr k a).next b).next c))
    in_expr k (pre at a) = under (pre at) (in_expr k a)
    in_expr k (fby at a b) = beside (fby at) (in_expr k a) (in_expr (in_expr k a).next b)
    in_expr k (arrow at a b) = beside (arrow at) (in_expr k a) (in_expr (in_expr k a).next b)
    in_expr k (when_is at a c x) = under (λ e. when_is at e c x) (in_expr k a)
    in_expr k (merge at x ps) = under (merge at x) (in_parts k ps)
    in_expr k (call at f false es) = under (call at f false) (in_exprs k es)
    in_expr k (call at f true es) = under (output_at at) (inlined_call (nodes f) (in_exprs k es))

    pub in_exprs : ℕ → Exprs → Replaced Exprs
    in_exprs k no_expr = unchanged k no_expr
    in_exprs k (more_exprs e es) = beside more_exprs (in_expr k e) (in_exprs (in_expr k e).next es)

    pub in_parts : ℕ → Parts → Replaced Parts
    in_parts k no_part = unchanged k no_part
    in_parts k (more_parts c e ps) = beside (more_parts c) (in_expr k e) (in_parts (in_expr k e).next ps)

  -- An equation of some names. Where its right side is an inlined call, there is one equation for each name.
  abbrev pub in_definition : ℕ → Span → List (List ℕ × Span) → Expr → Replaced (List Eqn)
  in_definition k s xs (call at f true es) = under (defined_by s xs at) (inlined_call (nodes f) (in_exprs k es))
  in_definition k s xs e = under (λ right. define s xs right ∷ []) (in_expr k e)

  -- the equations in the place of one equation, with those before it
  abbrev pub placed : Replaced (List Eqn) → Replaced Eqns → Replaced Eqns
  placed e es = record { locals = e.locals ++ es.locals; before = []; next = es.next; part = eqns_of (e.before ++ (e.part ++ list_of_eqns es.part)) }

  -- a block keeps its new local variables, behind its own
  abbrev pub closed : List Decl → Replaced Eqns → Replaced Block
  closed ds es = unchanged es.next (block (ds ++ es.locals) es.part)

  abbrev mutual
    pub in_block : ℕ → Block → Replaced Block
    in_block k (block ds es) = closed ds (in_eqns k es)

    pub in_eqns : ℕ → Eqns → Replaced Eqns
    in_eqns k no_eqn = unchanged k no_eqn
    in_eqns k (more_eqns e es) = placed (in_eqn k e) (in_eqns (in_eqn k e).next es)

    pub in_eqn : ℕ → Eqn → Replaced (List Eqn)
    in_eqn k (define s xs e) = in_definition k s xs e
    in_eqn k (switch s e arms) = holding (λ cond bodies. switch s cond bodies ∷ []) (in_expr k e) (in_arms (in_expr k e).next arms)
    in_eqn k (reset s b e) = holding (λ cond body. reset s body cond ∷ []) (in_expr k e) (in_block (in_expr k e).next b)
    in_eqn k (automaton s qs) = unchanged (in_states k qs).next (automaton s (in_states k qs).part ∷ [])

    pub in_arms : ℕ → Arms → Replaced Arms
    in_arms k no_arm = unchanged k no_arm
    in_arms k (more_arms c b at arms) = holding (λ body rest. more_arms c body at rest) (in_block k b) (in_arms (in_block k b).next arms)

    -- transitions hold no call
    pub in_states : ℕ → States → Replaced States
    in_states k no_state = unchanged k no_state
    in_states k (more_states x b until unless at qs) = holding (λ body rest. more_states x body until unless at rest) (in_block k b) (in_states (in_block k b).next qs)

  abbrev pub in_condition : ℕ → Option Expr → Replaced (Option Expr)
  in_condition k None = unchanged k None
  in_condition k (Some e) = under Some (in_expr k e)

  -- what a contract's conditions are made of, stands at the end of its equations
  abbrev pub with_conditions : Contract → List Decl → Replaced Eqns → Replaced (Option Expr) → Replaced (Option Expr) → Replaced Contract
  with_conditions c ds es assume enforce = unchanged enforce.next (record c {
    body = block (ds ++ (es.locals ++ (assume.locals ++ enforce.locals))) (eqns_of (list_of_eqns es.part ++ (assume.before ++ enforce.before)));
    assume = assume.part;
    enforce = enforce.part;
  })

  abbrev pub in_contract : ℕ → Option Contract → Replaced (Option Contract)
  in_contract k None = unchanged k None
  in_contract k (Some c) =
      let es = in_eqns k (equations_of c.body) in
      let assume = in_condition es.next c.assume in
      let enforce = in_condition assume.next c.enforce in
      under Some (with_conditions c (locals_of c.body) es assume enforce)

  -- a node, the calls of its contract first
  abbrev pub in_node : Node → Node
  in_node n = record n {
    contract = (in_contract 1 n.contract).part;
    body = (in_block (in_contract 1 n.contract).next n.body).part;
  }
