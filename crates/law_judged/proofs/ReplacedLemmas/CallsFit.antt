-- In a program whose expressions have types each inlined call fits the node that it calls.
use Rattle.std.proofs.Common.{◌≡◌, ℕ, ◌⊎◌, inl, inr, ⊎_elim, Bool, true, false, if◌then◌else◌, List, [], ◌∷◌, ◌++◌, length, Contains, refl, sym, ap, ◌∙◌, subst, arith}
use Rattle.std.specs.Prelude.{IsTrue, ◌&&◌, Option, None, Some, IsSome, IsSomeAnd, is_some}
use Rattle.std.specs.Str.{bytes_eq}
use Rattle.hp_base.specs.declared.span.Span.{Span}
use Rattle.hp_base.specs.declared.ty.Ty.{Ty}
use Rattle.hp_tree.specs.declared.program.Item.{Item}
use Rattle.hp_tree.specs.declared.program.Item.TheVariants.{TypeItem, NodeItem}
use Rattle.hp_tree.specs.Expressions.{Expr, constant, variable, last_of, one, two, choose, pre, fby, arrow, when_is, merge, call, Exprs, no_expr, more_exprs, Parts, no_part, more_parts}
use Rattle.hp_tree.specs.Blocks.{Decl, Block, block, Eqns, no_eqn, more_eqns, Eqn, define, switch, reset, automaton, Arms, no_arm, more_arms, States, no_state, more_states}
use Rattle.hp_tree.specs.Programs.{Contract, Node}
use Rattle.hp_base.specs.Known.Known.{lookup, with_entry}
use Rattle.hp_names.specs.Names.{with_name}
use Rattle.hp_names.specs.Scopes as names
use Rattle.hp_names.specs.Rules.{ItemsAreNamed}
use Rattle.hp_tree.specs.Meaning.{controls_of}
use Rattle.hp_typing.specs.Scopes.{nothing, with_variables, inside, inside_node, behind}
use Rattle.hp_typing.specs.Types.{type_of, types_in, outputs_in, single, args_fit, agrees}
use Rattle.law_judged.specs.Typed.Scopes.{Scope, NameScope}
use Rattle.law_judged.specs.Typed.Typed.{ExprHasType, ExprsHaveTypes, PartsHaveTypes, RightHasTypes, BlockHasTypes, EqnsHaveTypes, EqnHasTypes, ArmsHaveTypes, StatesHaveTypes, ConditionHasType, ContractHasTypes, NodeHasTypes, ItemsHaveTypes}
use Rattle.law_judged.proofs.NamedLemmas.Sets.{same_name, name_same, kept_name, new_name}
use Rattle.hp_expand.specs.Numbering.{replaced_node, with_node, no_node}
use Rattle.law_judged.specs.Replaced.Fitting.{Covers, Gives, ExprFits, ExprsFit, PartsFit, LeftFits, BlockFits, EqnsFit, EqnFits, ArmsFit, StatesFit, ConditionFits, ContractFits, NodeFits}
use Rattle.law_judged.specs.Replaced.Judged.{CallsFit, CallsFitLaw}

abbrev Table : Type 0
Table = List (List ℕ × Node)

-- What is known of a node is its interface.
abbrev Agrees : Table → (List ℕ → Node) → Type 0
Agrees known nodes = (f : List ℕ) (n : Node) → lookup known f ≡ Some n → ((nodes f).inputs ≡ n.inputs) × ((nodes f).outputs ≡ n.outputs)

second_true : (a b : Bool) → (a && b) ≡ true → b ≡ true
second_true true b h = h
second_true false b h = absurd (cc h)

covers : (s : Scope) (ds : List Decl) (es : Exprs) → args_fit ds (types_in s es) ≡ true → Covers ds es
covers s [] es h = tt
covers s (d ∷ ds) no_expr h = absurd (cc h)
covers s (d ∷ ds) (more_exprs e es) h = covers s ds es (second_true (agrees (Some d.ty) (type_of s e)) (args_fit ds (types_in s es)) h)

record Found (o : Option Node) (ts : List (Option Ty)) : Type 0 where
  node : Node
  is : o ≡ Some node
  fits : args_fit node.inputs ts ≡ true
  outputs : outputs_in o ts ≡ Some node.outputs

found : (o : Option Node) (ts : List (Option Ty)) → IsSome (outputs_in o ts) → Found o ts
found None ts h = absurd (cc h)
found (Some n) ts h = by (args_fit n.inputs ts) refl h
  where
    by : (b : Bool) → args_fit n.inputs ts ≡ b → IsSome (if b then Some n.outputs else None) → Found (Some n) ts
    by true e l = record { node = n; is = refl; fits = e; outputs = ap (λ b. if b then Some n.outputs else None) e }
    by false e l = absurd (cc l)

has_outputs : (o : Option (List Decl)) → IsSome (single o) → IsSome o
has_outputs None h = h
has_outputs (Some ds) h = refl

gives : (ds : List Decl) (xs : List (List ℕ × Span)) → length xs ≡ length ds → Gives ds xs
gives ds [] h = tt
gives [] (x ∷ xs) h = absurd (omega (arith, h))
gives (d ∷ ds) (x ∷ xs) h = gives ds xs (omega (arith, h))

some_and : (o : Option (List Decl)) (P : List Decl → Type 0) → IsSomeAnd o P → IsSome o
some_and None P h = absurd h
some_and (Some ds) P h = refl

said : (o : Option (List Decl)) (ds : List Decl) (P : List Decl → Type 0) → o ≡ Some ds → IsSomeAnd o P → P ds
said o ds P e h = subst (λ z. IsSomeAnd z P) e h

variables_kept : (s : Scope) (ds : List Decl) → (with_variables s ds).nodes ≡ s.nodes
variables_kept s [] = refl
variables_kept s (d ∷ ds) = variables_kept (record s { variables = with_entry s.variables d.name d.ty }) ds

module _ (known : Table) (nodes : List ℕ → Node) (agrees_on : Agrees known nodes) where
  call_covers : (s : Scope) (f : List ℕ) (es : Exprs) → s.nodes ≡ known → IsSome (outputs_in (lookup s.nodes f) (types_in s es)) → Covers (nodes f).inputs es
  call_covers s f es k h =
      let r = found (lookup s.nodes f) (types_in s es) h in
      subst (λ z. Covers z es) (sym (agrees_on f r.node (ap (λ z. lookup z f) (sym k) ∙ r.is)).0) (covers s r.node.inputs es r.fits)

  mutual
    expr_fits : (s : Scope) (e : Expr) → s.nodes ≡ known → ExprHasType s e → ExprFits nodes e
    expr_fits s (constant at c) k h = tt
    expr_fits s (variable at x) k h = tt
    expr_fits s (last_of at x) k h = tt
    expr_fits s (one at op a) k h = expr_fits s a k h.0
    expr_fits s (two at op a b) k h = (expr_fits s a k h.0, expr_fits s b k h.1.0)
    expr_fits s (choose at a b c) k h = (expr_fits s a k h.0, expr_fits s b k h.1.0, expr_fits s c k h.1.1.0)
    expr_fits s (pre at a) k h = expr_fits s a k h.0
    expr_fits s (fby at a b) k h = (expr_fits s a k h.0, expr_fits s b k h.1.0)
    expr_fits s (arrow at a b) k h = (expr_fits s a k h.0, expr_fits s b k h.1.0)
    expr_fits s (when_is at a c x) k h = expr_fits s a k h.0
    expr_fits s (merge at x ps) k h = parts_fit s ps k h.1.0
    expr_fits s (call at f false es) k h = exprs_fit s es k h.0
    expr_fits s (call at f true es) k h = (call_covers s f es k (has_outputs (outputs_in (lookup s.nodes f) (types_in s es)) h.1), exprs_fit s es k h.0)

    exprs_fit : (s : Scope) (es : Exprs) → s.nodes ≡ known → ExprsHaveTypes s es → ExprsFit nodes es
    exprs_fit s no_expr k h = tt
    exprs_fit s (more_exprs e es) k h = (expr_fits s e k h.0, exprs_fit s es k h.1)

    parts_fit : (s : Scope) (ps : Parts) → s.nodes ≡ known → PartsHaveTypes s ps → PartsFit nodes ps
    parts_fit s no_part k h = tt
    parts_fit s (more_parts c e ps) k h = (expr_fits s e k h.1.0, parts_fit s ps k h.1.1)

  right_fits : (s : Scope) (xs : List (List ℕ × Span)) (e : Expr) → s.nodes ≡ known → RightHasTypes s xs e → LeftFits nodes xs e × ExprFits nodes e
  right_fits s xs (call at f true es) k h =
      let some = some_and (outputs_in (lookup s.nodes f) (types_in s es)) (λ ds. length xs ≡ length ds) h.1 in
      let r = found (lookup s.nodes f) (types_in s es) some in
      let outs = (agrees_on f r.node (ap (λ z. lookup z f) (sym k) ∙ r.is)).1 in (
        subst (λ z. Gives z xs) (sym outs) (gives r.node.outputs xs (said (outputs_in (lookup s.nodes f) (types_in s es)) r.node.outputs (λ ds. length xs ≡ length ds) r.outputs h.1)),
        (call_covers s f es k some, exprs_fit s es k h.0),
      )
  right_fits s xs (call at f false es) k h = (tt, exprs_fit s es k h.0)
  right_fits s xs e k h = (tt, expr_fits s e k h)

  mutual
    block_fits : (s : Scope) (b : Block) → s.nodes ≡ known → BlockHasTypes s b → BlockFits nodes b
    block_fits s (block ds es) k h = eqns_fit (with_variables s ds) es (variables_kept s ds ∙ k) h.1

    eqns_fit : (s : Scope) (es : Eqns) → s.nodes ≡ known → EqnsHaveTypes s es → EqnsFit nodes es
    eqns_fit s no_eqn k h = tt
    eqns_fit s (more_eqns e es) k h = (eqn_fits s e k h.0, eqns_fit s es k h.1)

    eqn_fits : (s : Scope) (e : Eqn) → s.nodes ≡ known → EqnHasTypes s e → EqnFits nodes e
    eqn_fits s (define at xs e) k h = right_fits s xs e k h.1
    eqn_fits s (switch at e arms) k h = (expr_fits s e k h.0, arms_fit s arms k h.1)
    eqn_fits s (reset at b e) k h = (expr_fits s e k h.1, block_fits s b k h.0)
    eqn_fits s (automaton at ss) k h = states_fit s ss k h

    arms_fit : (s : Scope) (arms : Arms) → s.nodes ≡ known → ArmsHaveTypes s arms → ArmsFit nodes arms
    arms_fit s no_arm k h = tt
    arms_fit s (more_arms c b at arms) k h = (block_fits s b k h.1.0, arms_fit s arms k h.1.1)

    states_fit : (s : Scope) (ss : States) → s.nodes ≡ known → StatesHaveTypes s ss → StatesFit nodes ss
    states_fit s no_state k h = tt
    states_fit s (more_states x b until unless at ss) k h = (block_fits s b k h.0, states_fit s ss k h.1.1.1)

  condition_fits : (s : Scope) (e : Option Expr) → s.nodes ≡ known → ConditionHasType s e → ConditionFits nodes e
  condition_fits s None k h = tt
  condition_fits s (Some e) k h = expr_fits s e k h

  inside_kept : (s : Scope) (b : Block) → (inside s b).nodes ≡ s.nodes
  inside_kept s (block ds es) = variables_kept s ds

  contract_fits : (s : Scope) (c : Option Contract) → s.nodes ≡ known → ContractHasTypes s c → ContractFits nodes c
  contract_fits s None k h = tt
  contract_fits s (Some c) k h =
      let i = inside_kept s c.body ∙ k in
      (block_fits s c.body k h.0, condition_fits (inside s c.body) c.assume i h.1.0, condition_fits (inside s c.body) c.enforce i h.1.1)

  node_fits : (s : Scope) (n : Node) → s.nodes ≡ known → NodeHasTypes s n → NodeFits nodes n
  node_fits s n k h =
      let here : (inside_node s n).nodes ≡ known = variables_kept (with_variables s n.inputs) n.outputs ∙ variables_kept s n.inputs ∙ k in (
        contract_fits (inside_node s n) n.contract here h.1.1.0,
        block_fits (with_variables (inside_node s n) (controls_of n.contract)) n.body (variables_kept (inside_node s n) (controls_of n.contract) ∙ here) h.1.1.1.1,
      )

-- ---- programs

-- each name in the table is known
abbrev Lists : Table → NameScope → Type 0
Lists known s = (f : List ℕ) → IsSome (lookup known f) → Contains s.nodes f

lookup_cases : (known : Table) (y f : List ℕ) (n : Node) → IsSome (lookup (known ++ (y, n) ∷ []) f) → (f ≡ y) ⊎ IsSome (lookup known f)
lookup_cases [] y f n h = by (bytes_eq f y) (same_name f y) h
  where
    by : (b : Bool) → (IsTrue b → f ≡ y) → IsSome (if b then Some n else None) → (f ≡ y) ⊎ IsSome {T = Node} None
    by true e l = inl (e refl)
    by false e l = absurd (cc l)
lookup_cases (e ∷ known) y f n h = by (bytes_eq f e.0) (lookup_cases known y f n) h
  where
    by : (b : Bool) → (IsSome (lookup (known ++ (y, n) ∷ []) f) → (f ≡ y) ⊎ IsSome (lookup known f)) → IsSome (if b then Some e.1 else lookup (known ++ (y, n) ∷ []) f) → (f ≡ y) ⊎ IsSome (if b then Some e.1 else lookup known f)
    by true r l = inr refl
    by false r l = r l

some_same : (n m : Node) → Some n ≡ Some m → n ≡ m
some_same n m h = ap (λ o. elim o [ None ↦ n | Some k ↦ k ]) h

lookup_here : (known : Table) (y : List ℕ) (n m : Node) → lookup known y ≡ None → lookup (known ++ (y, n) ∷ []) y ≡ Some m → n ≡ m
lookup_here [] y n m e h = by (bytes_eq y y) (name_same y y refl) h
  where
    by : (b : Bool) → IsTrue b → (if b then Some n else None) ≡ Some m → n ≡ m
    by true t l = some_same n m l
    by false t l = absurd (cc t)
lookup_here (k ∷ known) y n m e h = by (bytes_eq y k.0) e h (lookup_here known y n m)
  where
    by : (b : Bool) → (if b then Some k.1 else lookup known y) ≡ None → (if b then Some k.1 else lookup (known ++ (y, n) ∷ []) y) ≡ Some m → (lookup known y ≡ None → lookup (known ++ (y, n) ∷ []) y ≡ Some m → n ≡ m) → n ≡ m
    by true e h r = absurd (cc e)
    by false e h r = r e h

lookup_other : (known : Table) (y f : List ℕ) (n : Node) → bytes_eq f y ≡ false → lookup (known ++ (y, n) ∷ []) f ≡ lookup known f
lookup_other [] y f n h = ap (λ b. if b then Some n else None) h
lookup_other (k ∷ known) y f n h = by (bytes_eq f k.0) (lookup_other known y f n h)
  where
    by : (b : Bool) → lookup (known ++ (y, n) ∷ []) f ≡ lookup known f → (if b then Some k.1 else lookup (known ++ (y, n) ∷ []) f) ≡ (if b then Some k.1 else lookup known f)
    by true r = refl
    by false r = r

-- a node whose name is new
module _ (known : Table) (nodes : List ℕ → Node) (agrees_on : Agrees known nodes) (n r : Node) (new : lookup known n.name ≡ None) (same_in : r.inputs ≡ n.inputs) (same_out : r.outputs ≡ n.outputs) (named : r.name ≡ n.name) where
  entry : with_entry known n.name n ≡ known ++ (n.name, n) ∷ []
  entry = ap (λ o. if is_some o then known else known ++ (n.name, n) ∷ []) new

  agrees_more : Agrees (with_entry known n.name n) (with_node nodes r)
  agrees_more f m h = by (bytes_eq r.name f) refl
    where
      told : lookup (known ++ (n.name, n) ∷ []) f ≡ Some m
      told = ap (λ z. lookup z f) (sym entry) ∙ h

      own : n.name ≡ f → n ≡ m
      own e = lookup_here known n.name n m new (ap (λ z. lookup (known ++ (n.name, n) ∷ []) z) e ∙ told)

      apart : bytes_eq r.name f ≡ false → bytes_eq f n.name ≡ false
      apart e = tie (bytes_eq f n.name) (same_name f n.name)
        where
          tie : (b : Bool) → (IsTrue b → f ≡ n.name) → b ≡ false
          tie true g = absurd (cc (sym e, name_same r.name f (named ∙ sym (g refl))))
          tie false g = refl

      by : (b : Bool) → bytes_eq r.name f ≡ b → ((if b then r else nodes f).inputs ≡ m.inputs) × ((if b then r else nodes f).outputs ≡ m.outputs)
      by true e =
          let p = own (sym named ∙ same_name r.name f e) in
          (same_in ∙ ap (λ z. z.inputs) p, same_out ∙ ap (λ z. z.outputs) p)
      by false e = agrees_on f m (sym (lookup_other known n.name f n (apart e)) ∙ told)

none_if : {A : Type 0} (o : Option A) → (IsSome o → ⊥) → o ≡ None
none_if None h = refl
none_if (Some a) h = absurd (h refl)

lists_more : (known : Table) (s : NameScope) (n : Node) → lookup known n.name ≡ None → Lists known s → Lists (with_entry known n.name n) (names.behind s (NodeItem n))
lists_more known s n new l f h =
    ⊎_elim (λ e. subst (λ z. Contains (with_name s.nodes n.name) z) (sym e) (new_name s.nodes n.name)) (λ k. kept_name s.nodes n.name f (l f k))
    (lookup_cases known n.name f n (subst (λ z. IsSome (lookup z f)) (ap (λ o. if is_some o then known else known ++ (n.name, n) ∷ []) new) h))

items_fit : (s : NameScope) (t : Scope) (nodes : List ℕ → Node) → Agrees t.nodes nodes → Lists t.nodes s → (items : List Item) → ItemsAreNamed s items → ItemsHaveTypes t items → CallsFit nodes items
items_fit s t nodes a l [] n h = tt
items_fit s t nodes a l (TypeItem y ∷ items) n h = items_fit (names.behind s (TypeItem y)) (behind t (TypeItem y)) nodes a l items n.1 h.1
items_fit s t nodes a l (NodeItem y ∷ items) n h =
    let new = none_if (lookup t.nodes y.name) (λ k. n.0.0 (l y.name k)) in
    let r = replaced_node nodes y in (
      node_fits t.nodes nodes a t y refl h.0,
      items_fit (names.behind s (NodeItem y)) (behind t (NodeItem y)) (with_node nodes r) (agrees_more t.nodes nodes a y r new refl refl refl) (lists_more t.nodes s y new l) items n.1 h.1,
    )

pub calls_fit : CallsFitLaw
calls_fit program n h = items_fit names.nothing nothing no_node (λ f m e. absurd (cc e)) (λ f e. absurd (cc e)) program n h
