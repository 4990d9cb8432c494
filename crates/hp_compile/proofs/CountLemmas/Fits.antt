-- Inlined calls of a program fit the nodes that they name, where expressions have types and contracts have their shapes.
use Rattle.std.proofs.Common.{◌≡◌, ℕ, suc, Bool, true, false, if◌then◌else◌, length, List, [], ◌∷◌, ◌++◌, Option, None, Some, refl, sym, ap, ◌∙◌, subst}
use Rattle.std.specs.Prelude.{◌&&◌, IsSome, IsSomeAnd}
use Rattle.hp_base.specs.declared.span.Span.{Span}
use Rattle.hp_base.specs.declared.ty.Ty.{Ty}
use Rattle.hp_base.specs.Known.Known.{lookup, with_entry}
use Rattle.hp_tree.specs.Expressions.{Expr, constant, variable, last_of, one, two, choose, pre, fby, arrow, when_is, merge, call, Exprs, no_expr, more_exprs, Parts, no_part, more_parts}
use Rattle.hp_tree.specs.Blocks.{Decl, Block, block, Eqns, no_eqn, more_eqns, Eqn, define, switch, reset, automaton, Arms, no_arm, more_arms, States, no_state, more_states}
use Rattle.hp_tree.specs.Programs.{Contract, Node}
use Rattle.hp_tree.specs.Meaning.{controls_of}
use Rattle.hp_typing.specs.Scopes.{with_variables, inside, inside_node}
use Rattle.hp_typing.specs.Types.{type_of, types_in, outputs_in, single, args_fit, agrees}
use Rattle.law_judged.specs.Typed.Scopes.{Scope}
use Rattle.law_judged.specs.Typed.Typed.{ExprHasType, ExprsHaveTypes, PartsHaveTypes, RightHasTypes, BlockHasTypes, EqnsHaveTypes, EqnHasTypes, ArmsHaveTypes, StatesHaveTypes, ConditionHasType, ContractHasTypes, NodeHasTypes}
use Rattle.hp_expand.specs.Sizes.{in_node}
use Rattle.hp_expand.specs.Shapes as shapes
use Rattle.hp_expand.specs.Shapes.{Mark, plain_at, bound_at, integer_at, of_call, brings}
use Rattle.hp_expand.specs.Formed.{InlineNoContract}
use Rattle.hp_expand.specs.Fitting.{count, IsInlinable, Fits, AllFit, PartsFit, RightFits, BlockFits, EqnsFit, EqnFits, ArmsFit, StatesFit, ConditionFits, ContractFits, NodeFits}
use Rattle.hp_compile.proofs.CountLemmas.Types.{Size, Form}

-- no node with a contract is inlined in this one
abbrev pub InlinesNone : (List ℕ → Form) → Node → Type 0
InlinesNone forms n = InlineNoContract (shapes.in_contract forms n.contract) × InlineNoContract (shapes.in_block forms n.body)

-- ---- marks

pub front : (xs ys : List Mark) → InlineNoContract (xs ++ ys) → InlineNoContract xs
front [] ys h = tt
front (plain_at at ∷ xs) ys h = front xs ys h
front (bound_at at ∷ xs) ys h = absurd h
front (integer_at at ∷ xs) ys h = front xs ys h

pub rest : (xs ys : List Mark) → InlineNoContract (xs ++ ys) → InlineNoContract ys
rest [] ys h = h
rest (plain_at at ∷ xs) ys h = rest xs ys h
rest (bound_at at ∷ xs) ys h = absurd h
rest (integer_at at ∷ xs) ys h = rest xs ys h

pub unbound : (at : Span) (form : Form) → InlineNoContract (of_call at true form) → form.has_contract ≡ false
unfolding of_call
unbound at form h = by form.has_contract h
  where
    by : (b : Bool) → InlineNoContract (if b then bound_at at ∷ [] else brings form.plain) → b ≡ false
    by true k = absurd k
    by false k = refl

-- ---- arguments

second_true : (a b : Bool) → (a && b) ≡ true → b ≡ true
second_true true b h = h
second_true false b h = absurd (cc h)

counted : (s : Scope) (ds : List Decl) (es : Exprs) → args_fit ds (types_in s es) ≡ true → length ds ≡ count es
counted s [] no_expr h = refl
counted s [] (more_exprs e es) h = absurd (cc h)
counted s (d ∷ ds) no_expr h = absurd (cc h)
counted s (d ∷ ds) (more_exprs e es) h = ap suc (counted s ds es (second_true (agrees (Some d.ty) (type_of s e)) (args_fit ds (types_in s es)) h))

record Found (o : Option Node) (ts : List (Option Ty)) : Type 0 where
  node : Node
  is : o ≡ Some node
  fits : args_fit node.inputs ts ≡ true
  outputs : outputs_in o ts ≡ Some node.outputs

found : (o : Option Node) (ts : List (Option Ty)) → IsSome (outputs_in o ts) → Found o ts
found None ts h = absurd (cc h)
found (Some n) ts h = by (args_fit n.inputs ts) refl h
  where
    by : (b : Bool) → args_fit n.inputs ts ≡ b → IsSome (if b then Some n.outputs else None) → Found (Some n) ts
    by true e l = record { node = n; is = refl; fits = e; outputs = ap (λ b. if b then Some n.outputs else None) e }
    by false e l = absurd (cc l)

has_outputs : (o : Option (List Decl)) → IsSome (single o) → IsSome o
has_outputs None h = h
has_outputs (Some ds) h = refl

some_and : (o : Option (List Decl)) (P : List Decl → Type 0) → IsSomeAnd o P → IsSome o
some_and None P h = absurd h
some_and (Some ds) P h = refl

said : (o : Option (List Decl)) (ds : List Decl) (P : List Decl → Type 0) → o ≡ Some ds → IsSomeAnd o P → P ds
said o ds P e h = subst (λ z. IsSomeAnd z P) e h

variables_kept : (s : Scope) (ds : List Decl) → (with_variables s ds).nodes ≡ s.nodes
variables_kept s [] = refl
variables_kept s (d ∷ ds) = variables_kept (record s { variables = with_entry s.variables d.name d.ty }) ds

inside_kept : (s : Scope) (b : Block) → (inside s b).nodes ≡ s.nodes
inside_kept s (block ds es) = variables_kept s ds

-- ---- what is known of the node of a name, and of what it became

pub record Stands (sizes : List ℕ → Size) (forms : List ℕ → Form) (nodes : List ℕ → Node) (f : List ℕ) (n : Node) : Type 0 where
  pub inputs : (nodes f).inputs ≡ n.inputs
  pub outputs : (nodes f).outputs ≡ n.outputs
  pub free : (forms f).has_contract ≡ false → (nodes f).contract ≡ None
  pub size : sizes f ≡ in_node sizes (nodes f)

abbrev pub Table : Type 0
Table = List (List ℕ × Node)

module _ (sizes : List ℕ → Size) (forms : List ℕ → Form) (nodes : List ℕ → Node) (known : Table) (stands : (f : List ℕ) (n : Node) → lookup known f ≡ Some n → Stands sizes forms nodes f n) where
  of_found : (s : Scope) (f : List ℕ) (es : Exprs) → s.nodes ≡ known → (r : Found (lookup s.nodes f) (types_in s es)) → Stands sizes forms nodes f r.node
  of_found s f es k r = stands f r.node (ap (λ z. lookup z f) (sym k) ∙ r.is)

  inlinable : (s : Scope) (at : Span) (f : List ℕ) (es : Exprs) → s.nodes ≡ known → Found (lookup s.nodes f) (types_in s es) → InlineNoContract (of_call at true (forms f)) → IsInlinable sizes nodes f (count es)
  inlinable s at f es k r m =
      let o = of_found s f es k r in
      record {
        no_contract = o.free (unbound at (forms f) m);
        inputs = ap (λ (ds : List Decl). length ds) o.inputs ∙ counted s r.node.inputs es r.fits;
        size = o.size;
      }

  mutual
    expr_fits : (s : Scope) (e : Expr) → s.nodes ≡ known → ExprHasType s e → InlineNoContract (shapes.in_expr forms e) → Fits sizes nodes e
    expr_fits s (constant at c) k h m = tt
    expr_fits s (variable at x) k h m = tt
    expr_fits s (last_of at x) k h m = tt
    expr_fits s (one at op a) k h m = expr_fits s a k h.0 m
    expr_fits s (two at op a b) k h m =
        (expr_fits s a k h.0 (front (shapes.in_expr forms a) (shapes.in_expr forms b) m), expr_fits s b k h.1.0 (rest (shapes.in_expr forms a) (shapes.in_expr forms b) m))
    expr_fits s (choose at a b c) k h m =
        let behind = rest (shapes.in_expr forms a) (shapes.in_expr forms b ++ shapes.in_expr forms c) m in (
          expr_fits s a k h.0 (front (shapes.in_expr forms a) (shapes.in_expr forms b ++ shapes.in_expr forms c) m),
          (
            expr_fits s b k h.1.0 (front (shapes.in_expr forms b) (shapes.in_expr forms c) behind),
            expr_fits s c k h.1.1.0 (rest (shapes.in_expr forms b) (shapes.in_expr forms c) behind),
          ),
        )
    expr_fits s (pre at a) k h m = expr_fits s a k h.0 m
    expr_fits s (fby at a b) k h m =
        (expr_fits s a k h.0 (front (shapes.in_expr forms a) (shapes.in_expr forms b) m), expr_fits s b k h.1.0 (rest (shapes.in_expr forms a) (shapes.in_expr forms b) m))
    expr_fits s (arrow at a b) k h m =
        (expr_fits s a k h.0 (front (shapes.in_expr forms a) (shapes.in_expr forms b) m), expr_fits s b k h.1.0 (rest (shapes.in_expr forms a) (shapes.in_expr forms b) m))
    expr_fits s (when_is at a c x) k h m = expr_fits s a k h.0 m
    expr_fits s (merge at x ps) k h m = parts_fit s ps k h.1.0 m
    expr_fits s (call at f false es) k h m = exprs_fit s es k h.0 (rest (of_call at false (forms f)) (shapes.in_exprs forms es) m)
    expr_fits s (call at f true es) k h m = (
      inlinable s at f es k (found (lookup s.nodes f) (types_in s es) (has_outputs (outputs_in (lookup s.nodes f) (types_in s es)) h.1)) (front (of_call at true (forms f)) (shapes.in_exprs forms es) m),
      exprs_fit s es k h.0 (rest (of_call at true (forms f)) (shapes.in_exprs forms es) m),
    )

    exprs_fit : (s : Scope) (es : Exprs) → s.nodes ≡ known → ExprsHaveTypes s es → InlineNoContract (shapes.in_exprs forms es) → AllFit sizes nodes es
    exprs_fit s no_expr k h m = tt
    exprs_fit s (more_exprs e es) k h m =
        (expr_fits s e k h.0 (front (shapes.in_expr forms e) (shapes.in_exprs forms es) m), exprs_fit s es k h.1 (rest (shapes.in_expr forms e) (shapes.in_exprs forms es) m))

    parts_fit : (s : Scope) (ps : Parts) → s.nodes ≡ known → PartsHaveTypes s ps → InlineNoContract (shapes.in_parts forms ps) → PartsFit sizes nodes ps
    parts_fit s no_part k h m = tt
    parts_fit s (more_parts c e ps) k h m =
        (expr_fits s e k h.1.0 (front (shapes.in_expr forms e) (shapes.in_parts forms ps) m), parts_fit s ps k h.1.1 (rest (shapes.in_expr forms e) (shapes.in_parts forms ps) m))

  right_fits : (s : Scope) (xs : List (List ℕ × Span)) (e : Expr) → s.nodes ≡ known → RightHasTypes s xs e → InlineNoContract (shapes.in_expr forms e) → RightFits sizes nodes (length xs) e
  right_fits s xs (call at f true es) k h m =
      let outputs = outputs_in (lookup s.nodes f) (types_in s es) in
      let r = found (lookup s.nodes f) (types_in s es) (some_and outputs (λ ds. length xs ≡ length ds) h.1) in
      let named = said outputs r.node.outputs (λ ds. length xs ≡ length ds) r.outputs h.1 in (
        ap (λ (ds : List Decl). length ds) (of_found s f es k r).outputs ∙ sym named,
        (inlinable s at f es k r (front (of_call at true (forms f)) (shapes.in_exprs forms es) m), exprs_fit s es k h.0 (rest (of_call at true (forms f)) (shapes.in_exprs forms es) m)),
      )
  right_fits s xs (call at f false es) k h m = exprs_fit s es k h.0 (rest (of_call at false (forms f)) (shapes.in_exprs forms es) m)
  right_fits s xs (constant at c) k h m = expr_fits s (constant at c) k h m
  right_fits s xs (variable at x) k h m = expr_fits s (variable at x) k h m
  right_fits s xs (last_of at x) k h m = expr_fits s (last_of at x) k h m
  right_fits s xs (one at op a) k h m = expr_fits s (one at op a) k h m
  right_fits s xs (two at op a b) k h m = expr_fits s (two at op a b) k h m
  right_fits s xs (choose at a b c) k h m = expr_fits s (choose at a b c) k h m
  right_fits s xs (pre at a) k h m = expr_fits s (pre at a) k h m
  right_fits s xs (fby at a b) k h m = expr_fits s (fby at a b) k h m
  right_fits s xs (arrow at a b) k h m = expr_fits s (arrow at a b) k h m
  right_fits s xs (when_is at a c x) k h m = expr_fits s (when_is at a c x) k h m
  right_fits s xs (merge at x ps) k h m = expr_fits s (merge at x ps) k h m

  mutual
    block_fits : (s : Scope) (b : Block) → s.nodes ≡ known → BlockHasTypes s b → InlineNoContract (shapes.in_block forms b) → BlockFits sizes nodes b
    block_fits s (block ds es) k h m = eqns_fit (with_variables s ds) es (variables_kept s ds ∙ k) h.1 m

    eqns_fit : (s : Scope) (es : Eqns) → s.nodes ≡ known → EqnsHaveTypes s es → InlineNoContract (shapes.in_eqns forms es) → EqnsFit sizes nodes es
    eqns_fit s no_eqn k h m = tt
    eqns_fit s (more_eqns e es) k h m =
        (eqn_fits s e k h.0 (front (shapes.in_eqn forms e) (shapes.in_eqns forms es) m), eqns_fit s es k h.1 (rest (shapes.in_eqn forms e) (shapes.in_eqns forms es) m))

    eqn_fits : (s : Scope) (e : Eqn) → s.nodes ≡ known → EqnHasTypes s e → InlineNoContract (shapes.in_eqn forms e) → EqnFits sizes nodes e
    eqn_fits s (define at xs e) k h m = right_fits s xs e k h.1 m
    eqn_fits s (switch at e arms) k h m =
        (expr_fits s e k h.0 (front (shapes.in_expr forms e) (shapes.in_arms forms arms) m), arms_fit s arms k h.1 (rest (shapes.in_expr forms e) (shapes.in_arms forms arms) m))
    eqn_fits s (reset at b e) k h m =
        (block_fits s b k h.0 (front (shapes.in_block forms b) (shapes.in_expr forms e) m), expr_fits s e k h.1 (rest (shapes.in_block forms b) (shapes.in_expr forms e) m))
    eqn_fits s (automaton at qs) k h m = states_fit s qs k h m

    arms_fit : (s : Scope) (arms : Arms) → s.nodes ≡ known → ArmsHaveTypes s arms → InlineNoContract (shapes.in_arms forms arms) → ArmsFit sizes nodes arms
    arms_fit s no_arm k h m = tt
    arms_fit s (more_arms c b at arms) k h m =
        (block_fits s b k h.1.0 (front (shapes.in_block forms b) (shapes.in_arms forms arms) m), arms_fit s arms k h.1.1 (rest (shapes.in_block forms b) (shapes.in_arms forms arms) m))

    states_fit : (s : Scope) (qs : States) → s.nodes ≡ known → StatesHaveTypes s qs → InlineNoContract (shapes.in_states forms qs) → StatesFit sizes nodes qs
    states_fit s no_state k h m = tt
    states_fit s (more_states x b until unless at qs) k h m =
        let own = shapes.in_block forms b in
        let weak = shapes.in_transitions forms until in
        let strong = shapes.in_transitions forms unless in
        let others = shapes.in_states forms qs in
        let behind = rest own (weak ++ (strong ++ others)) m in (
          block_fits s b k h.0 (front own (weak ++ (strong ++ others)) m),
          states_fit s qs k h.1.1.1 (rest strong others (rest weak (strong ++ others) behind)),
        )

  condition_fits : (s : Scope) (e : Option Expr) → s.nodes ≡ known → ConditionHasType s e → InlineNoContract (shapes.in_condition forms e) → ConditionFits sizes nodes e
  condition_fits s None k h m = tt
  condition_fits s (Some e) k h m = expr_fits s e k h m

  contract_fits : (s : Scope) (c : Option Contract) → s.nodes ≡ known → ContractHasTypes s c → InlineNoContract (shapes.in_contract forms c) → ContractFits sizes nodes c
  contract_fits s None k h m = tt
  contract_fits s (Some c) k h m =
      let i = inside_kept s c.body ∙ k in
      let own = shapes.in_block forms c.body in
      let assume = shapes.in_condition forms c.assume in
      let enforce = shapes.in_condition forms c.enforce in
      let controls = shapes.in_controls c.controls in
      let behind = rest own (assume ++ (enforce ++ controls)) m in (
        block_fits s c.body k h.0 (front own (assume ++ (enforce ++ controls)) m),
        (
          condition_fits (inside s c.body) c.assume i h.1.0 (front assume (enforce ++ controls) behind),
          condition_fits (inside s c.body) c.enforce i h.1.1 (front enforce controls (rest assume (enforce ++ controls) behind)),
        ),
      )

  pub node_fits : (s : Scope) (n : Node) → s.nodes ≡ known → NodeHasTypes s n → InlinesNone forms n → NodeFits sizes nodes n
  node_fits s n k h shaped =
      let here : (inside_node s n).nodes ≡ known = variables_kept (with_variables s n.inputs) n.outputs ∙ variables_kept s n.inputs ∙ k in (
        contract_fits (inside_node s n) n.contract here h.1.1.0 shaped.0,
        block_fits (with_variables (inside_node s n) (controls_of n.contract)) n.body (variables_kept (inside_node s n) (controls_of n.contract) ∙ here) h.1.1.1.1 shaped.1,
      )
