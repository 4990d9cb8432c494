-- Where inlined calls are replaced and clocks are written, variables have types that some variable had before.
use Rattle.std.proofs.Common.{◌≡◌, ℕ, Bool, true, false, if◌then◌else◌, List, [], ◌∷◌, ◌++◌, map, refl, sym, subst}
use Rattle.std.specs.Prelude.{⊤, ◌+◌, Option, None, Some, option_map}
use Rattle.std.specs.Str.{bytes_eq}
use Rattle.hp_base.specs.declared.span.Span.{Span}
use Rattle.hp_base.specs.declared.ty.Ty.{Ty}
use Rattle.hp_tree.specs.Expressions.{Expr, constant, variable, last_of, one, two, choose, pre, fby, arrow, when_is, merge, call, Exprs, no_expr, more_exprs, Parts, no_part, more_parts}
use Rattle.hp_tree.specs.Blocks.{Decl, Block, block, Eqns, no_eqn, more_eqns, Eqn, define, switch, reset, automaton, Arms, no_arm, more_arms, States, no_state, more_states, eqns_of, list_of_eqns}
use Rattle.hp_tree.specs.Programs.{Contract, Node}
use Rattle.hp_tree.specs.Instant.{Place, Body, Equations, Head, Tail, Arms as ArmsOf, States as StatesOf}
use Rattle.hp_meaning.specs.Causal.Sources.{below}
use Rattle.hp_meaning.specs.Clocking.Clocking.{Assignment, with_clock, base_written, with_clocks, all_with_clocks, one_with_clocks, arms_with_clocks, states_with_clocks, in_observer, in_body, contract_with_clocks, node_with_clocks}
use Rattle.hp_expand.specs.NewNames.{marked}
use Rattle.hp_expand.specs.Renaming.{renamed_decls, renamed_block, renamed_eqns, renamed_eqn, renamed_arms, renamed_states}
use Rattle.hp_expand.specs.Replacing.{given, locals_of, equations_of, inlined_call, defined_by, in_expr, in_exprs, in_parts, in_definition, in_block, in_eqns, in_eqn, in_arms, in_states, in_condition, in_contract, in_node}
use Rattle.hp_expand.specs.Numbering as number
use Rattle.hp_expand.specs.Numbering.{declaring, new_in_decls, new_in_block, new_in_eqn, behind, replaced_node, with_node}
use Rattle.law_automata.specs.Readied.Constants.{DeclTypes, BlockTypes, EqnsTypes, EqnTypes, ArmsTypes, StatesTypes, ContractTypes, NodeTypes}

-- inputs too
abbrev pub AllTypes : (Ty → Type 0) → Node → Type 0
AllTypes P n = DeclTypes P n.inputs × NodeTypes P n

-- ---- weaker ones

module _ (P Q : Ty → Type 0) (weaker : (t : Ty) → P t → Q t) where
  decls_weaker : (ds : List Decl) → DeclTypes P ds → DeclTypes Q ds
  decls_weaker [] h = tt
  decls_weaker (d ∷ ds) h = (weaker d.ty h.0, decls_weaker ds h.1)

  mutual
    block_weaker : (b : Block) → BlockTypes P b → BlockTypes Q b
    block_weaker (block ds es) h = (decls_weaker ds h.0, eqns_weaker es h.1)

    eqns_weaker : (es : Eqns) → EqnsTypes P es → EqnsTypes Q es
    eqns_weaker no_eqn h = tt
    eqns_weaker (more_eqns e es) h = (eqn_weaker e h.0, eqns_weaker es h.1)

    eqn_weaker : (e : Eqn) → EqnTypes P e → EqnTypes Q e
    eqn_weaker (define s ys e) h = tt
    eqn_weaker (switch s e arms) h = arms_weaker arms h
    eqn_weaker (reset s b e) h = block_weaker b h
    eqn_weaker (automaton s ss) h = states_weaker ss h

    arms_weaker : (arms : Arms) → ArmsTypes P arms → ArmsTypes Q arms
    arms_weaker no_arm h = tt
    arms_weaker (more_arms c b s arms) h = (block_weaker b h.0, arms_weaker arms h.1)

    states_weaker : (ss : States) → StatesTypes P ss → StatesTypes Q ss
    states_weaker no_state h = tt
    states_weaker (more_states f b until unless s ss) h = (block_weaker b h.0, states_weaker ss h.1)

  contract_weaker : (o : Option Contract) → ContractTypes P o → ContractTypes Q o
  contract_weaker None h = tt
  contract_weaker (Some c) h = block_weaker c.body h

  pub node_weaker : (n : Node) → NodeTypes P n → NodeTypes Q n
  node_weaker n h = (decls_weaker n.outputs h.0, (contract_weaker n.contract h.1.0, block_weaker n.body h.1.1))

  pub all_weaker : (n : Node) → AllTypes P n → AllTypes Q n
  all_weaker n h = (decls_weaker n.inputs h.0, node_weaker n h.1)

module _ (P : Ty → Type 0) where
  both_decls : (ds es : List Decl) → DeclTypes P ds → DeclTypes P es → DeclTypes P (ds ++ es)
  both_decls [] es h k = k
  both_decls (d ∷ ds) es h k = (h.0, both_decls ds es h.1 k)

  -- ---- under other names

  decls_renamed : (to : List ℕ → List ℕ) (ds : List Decl) → DeclTypes P ds → DeclTypes P (renamed_decls to ds)
  decls_renamed to [] h = tt
  decls_renamed to (d ∷ ds) h = (h.0, decls_renamed to ds h.1)

  module _ (to : List ℕ → List ℕ) where
    mutual
      block_renamed : (b : Block) → BlockTypes P b → BlockTypes P (renamed_block to b)
      block_renamed (block ds es) h = (decls_renamed to ds h.0, eqns_renamed es h.1)

      eqns_renamed : (es : Eqns) → EqnsTypes P es → EqnsTypes P (renamed_eqns to es)
      eqns_renamed no_eqn h = tt
      eqns_renamed (more_eqns e es) h = (eqn_renamed e h.0, eqns_renamed es h.1)

      eqn_renamed : (e : Eqn) → EqnTypes P e → EqnTypes P (renamed_eqn to e)
      eqn_renamed (define s ys e) h = tt
      eqn_renamed (switch s e arms) h = arms_renamed arms h
      eqn_renamed (reset s b e) h = block_renamed b h
      eqn_renamed (automaton s ss) h = states_renamed ss h

      arms_renamed : (arms : Arms) → ArmsTypes P arms → ArmsTypes P (renamed_arms to arms)
      arms_renamed no_arm h = tt
      arms_renamed (more_arms c b s arms) h = (block_renamed b h.0, arms_renamed arms h.1)

      states_renamed : (ss : States) → StatesTypes P ss → StatesTypes P (renamed_states to ss)
      states_renamed no_state h = tt
      states_renamed (more_states f b until unless s ss) h = (block_renamed b h.0, states_renamed ss h.1)

  mutual
    block_numbered : (to : List ℕ → List ℕ) (k : ℕ) (b : Block) → BlockTypes P b → BlockTypes P (number.in_block to k b)
    block_numbered to k (block ds es) h = (decls_renamed (declaring to k ds) ds h.0, eqns_numbered (declaring to k ds) (k + new_in_decls ds) es h.1)

    eqns_numbered : (to : List ℕ → List ℕ) (k : ℕ) (es : Eqns) → EqnsTypes P es → EqnsTypes P (number.in_eqns to k es)
    eqns_numbered to k no_eqn h = tt
    eqns_numbered to k (more_eqns e es) h = (eqn_numbered to k e h.0, eqns_numbered to (k + new_in_eqn e) es h.1)

    eqn_numbered : (to : List ℕ → List ℕ) (k : ℕ) (e : Eqn) → EqnTypes P e → EqnTypes P (number.in_eqn to k e)
    eqn_numbered to k (define s ys e) h = tt
    eqn_numbered to k (switch s e arms) h = arms_numbered to k arms h
    eqn_numbered to k (reset s b e) h = block_numbered to k b h
    eqn_numbered to k (automaton s ss) h = states_numbered to k ss h

    arms_numbered : (to : List ℕ → List ℕ) (k : ℕ) (arms : Arms) → ArmsTypes P arms → ArmsTypes P (number.in_arms to k arms)
    arms_numbered to k no_arm h = tt
    arms_numbered to k (more_arms c b s arms) h = (block_numbered to k b h.0, arms_numbered to (k + new_in_block b) arms h.1)

    states_numbered : (to : List ℕ → List ℕ) (k : ℕ) (ss : States) → StatesTypes P ss → StatesTypes P (number.in_states to k ss)
    states_numbered to k no_state h = tt
    states_numbered to k (more_states f (block ds es) until unless s ss) h = (block_numbered to k (block ds es) h.0, states_numbered to (k + new_in_block (block ds es)) ss h.1)

  -- ---- equations in a list

  abbrev ListTypes : List Eqn → Type 0
  ListTypes [] = ⊤
  ListTypes (e ∷ es) = EqnTypes P e × ListTypes es

  list_types : (es : Eqns) → EqnsTypes P es → ListTypes (list_of_eqns es)
  list_types no_eqn h = tt
  list_types (more_eqns e es) h = (h.0, list_types es h.1)

  row_types : (es : List Eqn) → ListTypes es → EqnsTypes P (eqns_of es)
  row_types [] h = tt
  row_types (e ∷ es) h = (h.0, row_types es h.1)

  both_types : (es fs : List Eqn) → ListTypes es → ListTypes fs → ListTypes (es ++ fs)
  both_types [] fs h k = k
  both_types (e ∷ es) fs h k = (h.0, both_types es fs h.1 k)

  given_types : (ds : List Decl) (es : Exprs) → ListTypes (given ds es)
  given_types [] es = tt
  given_types (d ∷ ds) no_expr = tt
  given_types (d ∷ ds) (more_exprs e es) = (tt, given_types ds es)

  defined_types : (s : Span) (xs : List (List ℕ × Span)) (at : Span) (ys : List (List ℕ)) → ListTypes (defined_by s xs at ys)
  defined_types s [] at ys = tt
  defined_types s (x ∷ xs) at [] = tt
  defined_types s (x ∷ xs) at (y ∷ ys) = (tt, defined_types s xs at ys)

  equations_types : (b : Block) → BlockTypes P b → EqnsTypes P (equations_of b)
  equations_types (block ds es) h = h.1

  locals_types : (b : Block) → BlockTypes P b → DeclTypes P (locals_of b)
  locals_types (block ds es) h = h.0

  -- ---- replacing

  abbrev Good : List Decl → List Eqn → Type 0
  Good ds es = DeclTypes P ds × ListTypes es

  both : (ds ds' : List Decl) (es es' : List Eqn) → Good ds es → Good ds' es' → Good (ds ++ ds') (es ++ es')
  both ds ds' es es' h k = (both_decls ds ds' h.0 k.0, both_types es es' h.1 k.1)

  module _ (nodes : List ℕ → Node) (known : (f : List ℕ) → AllTypes P (nodes f)) where
    call_good : (f : List ℕ) (k : ℕ) (es : Exprs) → Good (in_exprs nodes k es).locals (in_exprs nodes k es).before → Good (inlined_call (nodes f) (in_exprs nodes k es)).locals (inlined_call (nodes f) (in_exprs nodes k es)).before
    call_good f k es h =
        let args = in_exprs nodes k es in
        let to = marked args.next in
        let n = nodes f in
        let t = known f in
        let told = given (renamed_decls to n.inputs) args.part in
        let made = renamed_eqns to (equations_of n.body) in
        both args.locals (renamed_decls to (n.inputs ++ (n.outputs ++ locals_of n.body))) args.before (told ++ list_of_eqns made) h (
          decls_renamed to (n.inputs ++ (n.outputs ++ locals_of n.body)) (both_decls n.inputs (n.outputs ++ locals_of n.body) t.0 (both_decls n.outputs (locals_of n.body) t.1.0 (locals_types n.body t.1.1.1))),
          both_types told (list_of_eqns made) (given_types (renamed_decls to n.inputs) args.part) (list_types made (eqns_renamed to (equations_of n.body) (equations_types n.body t.1.1.1))),
        )

    abbrev GoodExpr : ℕ → Expr → Type 0
    GoodExpr k e = Good (in_expr nodes k e).locals (in_expr nodes k e).before

    two_good : (k : ℕ) (a b : Expr) → GoodExpr k a → GoodExpr (in_expr nodes k a).next b → Good ((in_expr nodes k a).locals ++ (in_expr nodes (in_expr nodes k a).next b).locals) ((in_expr nodes k a).before ++ (in_expr nodes (in_expr nodes k a).next b).before)
    two_good k a b h l = both (in_expr nodes k a).locals (in_expr nodes (in_expr nodes k a).next b).locals (in_expr nodes k a).before (in_expr nodes (in_expr nodes k a).next b).before h l

    mutual
      expr_good : (k : ℕ) (e : Expr) → Good (in_expr nodes k e).locals (in_expr nodes k e).before
      expr_good k (constant at c) = (tt, tt)
      expr_good k (variable at x) = (tt, tt)
      expr_good k (last_of at x) = (tt, tt)
      expr_good k (one at o a) = expr_good k a
      expr_good k (two at o a b) = two_good k a b (expr_good k a) (expr_good (in_expr nodes k a).next b)
      expr_good k (choose at a b c) =
          let j = (in_expr nodes k a).next in
          let i = (in_expr nodes j b).next in
          both (in_expr nodes k a).locals ((in_expr nodes j b).locals ++ (in_expr nodes i c).locals) (in_expr nodes k a).before ((in_expr nodes j b).before ++ (in_expr nodes i c).before) (expr_good k a) (two_good j b c (expr_good j b) (expr_good i c))
      expr_good k (pre at a) = expr_good k a
      expr_good k (fby at a b) = two_good k a b (expr_good k a) (expr_good (in_expr nodes k a).next b)
      expr_good k (arrow at a b) = two_good k a b (expr_good k a) (expr_good (in_expr nodes k a).next b)
      expr_good k (when_is at a c x) = expr_good k a
      expr_good k (merge at x ps) = parts_good k ps
      expr_good k (call at f false es) = exprs_good k es
      expr_good k (call at f true es) = call_good f k es (exprs_good k es)

      exprs_good : (k : ℕ) (es : Exprs) → Good (in_exprs nodes k es).locals (in_exprs nodes k es).before
      exprs_good k no_expr = (tt, tt)
      exprs_good k (more_exprs e es) =
          both (in_expr nodes k e).locals (in_exprs nodes (in_expr nodes k e).next es).locals (in_expr nodes k e).before (in_exprs nodes (in_expr nodes k e).next es).before (expr_good k e) (exprs_good (in_expr nodes k e).next es)

      parts_good : (k : ℕ) (ps : Parts) → Good (in_parts nodes k ps).locals (in_parts nodes k ps).before
      parts_good k no_part = (tt, tt)
      parts_good k (more_parts c e ps) =
          both (in_expr nodes k e).locals (in_parts nodes (in_expr nodes k e).next ps).locals (in_expr nodes k e).before (in_parts nodes (in_expr nodes k e).next ps).before (expr_good k e) (parts_good (in_expr nodes k e).next ps)

    definition_good : (k : ℕ) (s : Span) (xs : List (List ℕ × Span)) (e : Expr) → Good (in_definition nodes k s xs e).locals (in_definition nodes k s xs e).before × ListTypes (in_definition nodes k s xs e).part
    definition_good k s xs (constant at c) = ((tt, tt), (tt, tt))
    definition_good k s xs (variable at x) = ((tt, tt), (tt, tt))
    definition_good k s xs (last_of at x) = ((tt, tt), (tt, tt))
    definition_good k s xs (one at o a) = (expr_good k (one at o a), (tt, tt))
    definition_good k s xs (two at o a b) = (expr_good k (two at o a b), (tt, tt))
    definition_good k s xs (choose at a b c) = (expr_good k (choose at a b c), (tt, tt))
    definition_good k s xs (pre at a) = (expr_good k (pre at a), (tt, tt))
    definition_good k s xs (fby at a b) = (expr_good k (fby at a b), (tt, tt))
    definition_good k s xs (arrow at a b) = (expr_good k (arrow at a b), (tt, tt))
    definition_good k s xs (when_is at a c x) = (expr_good k (when_is at a c x), (tt, tt))
    definition_good k s xs (merge at x ps) = (expr_good k (merge at x ps), (tt, tt))
    definition_good k s xs (call at f false es) = (expr_good k (call at f false es), (tt, tt))
    definition_good k s xs (call at f true es) = (call_good f k es (exprs_good k es), defined_types s xs at (inlined_call (nodes f) (in_exprs nodes k es)).part)

    mutual
      block_replaced : (k : ℕ) (b : Block) → BlockTypes P b → BlockTypes P (in_block nodes k b).part
      block_replaced k (block ds es) h = let r = eqns_replaced k es h.1 in (both_decls ds (in_eqns nodes k es).locals h.0 r.0, r.1)

      eqns_replaced : (k : ℕ) (es : Eqns) → EqnsTypes P es → DeclTypes P (in_eqns nodes k es).locals × EqnsTypes P (in_eqns nodes k es).part
      eqns_replaced k no_eqn h = (tt, tt)
      eqns_replaced k (more_eqns e es) h =
          let here = in_eqn nodes k e in
          let rest = in_eqns nodes here.next es in
          let q = eqn_replaced k e h.0 in
          let r = eqns_replaced here.next es h.1 in (
            both_decls here.locals rest.locals q.0.0 r.0,
            row_types (here.before ++ (here.part ++ list_of_eqns rest.part)) (both_types here.before (here.part ++ list_of_eqns rest.part) q.0.1 (both_types here.part (list_of_eqns rest.part) q.1 (list_types rest.part r.1))),
          )

      eqn_replaced : (k : ℕ) (e : Eqn) → EqnTypes P e → Good (in_eqn nodes k e).locals (in_eqn nodes k e).before × ListTypes (in_eqn nodes k e).part
      eqn_replaced k (define s ys e) h = definition_good k s ys e
      eqn_replaced k (switch s e arms) h = (expr_good k e, (arms_replaced (in_expr nodes k e).next arms h, tt))
      eqn_replaced k (reset s b e) h = (expr_good k e, (block_replaced (in_expr nodes k e).next b h, tt))
      eqn_replaced k (automaton s ss) h = ((tt, tt), (states_replaced k ss h, tt))

      arms_replaced : (k : ℕ) (arms : Arms) → ArmsTypes P arms → ArmsTypes P (in_arms nodes k arms).part
      arms_replaced k no_arm h = tt
      arms_replaced k (more_arms c b s arms) h = (block_replaced k b h.0, arms_replaced (in_block nodes k b).next arms h.1)

      states_replaced : (k : ℕ) (ss : States) → StatesTypes P ss → StatesTypes P (in_states nodes k ss).part
      states_replaced k no_state h = tt
      states_replaced k (more_states f b until unless s ss) h = (block_replaced k b h.0, states_replaced (in_block nodes k b).next ss h.1)

    condition_good : (k : ℕ) (o : Option Expr) → Good (in_condition nodes k o).locals (in_condition nodes k o).before
    condition_good k None = (tt, tt)
    condition_good k (Some e) = expr_good k e

    contract_replaced : (o : Option Contract) → ContractTypes P o → ContractTypes P (in_contract nodes 1 o).part
    contract_replaced None h = tt
    contract_replaced (Some c) h =
        let es = in_eqns nodes 1 (equations_of c.body) in
        let assume = in_condition nodes es.next c.assume in
        let enforce = in_condition nodes assume.next c.enforce in
        let r = eqns_replaced 1 (equations_of c.body) (equations_types c.body h) in
        let a = condition_good es.next c.assume in
        let e = condition_good assume.next c.enforce in (
          both_decls (locals_of c.body) (es.locals ++ (assume.locals ++ enforce.locals)) (locals_types c.body h) (both_decls es.locals (assume.locals ++ enforce.locals) r.0 (both_decls assume.locals enforce.locals a.0 e.0)),
          row_types (list_of_eqns es.part ++ (assume.before ++ enforce.before)) (both_types (list_of_eqns es.part) (assume.before ++ enforce.before) (list_types es.part r.1) (both_types assume.before enforce.before a.1 e.1)),
        )

    pub node_replaced : (n : Node) → AllTypes P n → AllTypes P (replaced_node nodes n)
    node_replaced n h = (
      h.0,
      (
        h.1.0,
        (
          contract_numbered (in_contract nodes 1 n.contract).part (contract_replaced n.contract h.1.1.0),
          block_numbered number.same_name (behind (in_node nodes n).contract) (in_block nodes (in_contract nodes 1 n.contract).next n.body).part (block_replaced (in_contract nodes 1 n.contract).next n.body h.1.1.1),
        ),
      ),
    )
      where
        contract_numbered : (o : Option Contract) → ContractTypes P o → ContractTypes P (option_map number.in_contract o)
        contract_numbered None q = tt
        contract_numbered (Some c) q = block_numbered number.same_name 1 c.body q

    pub with_types : (n : Node) → AllTypes P n → (f : List ℕ) → AllTypes P (with_node nodes n f)
    with_types n h f = by (bytes_eq n.name f)
      where
        by : (b : Bool) → AllTypes P (if b then n else nodes f)
        by true = h
        by false = known f

  -- ---- clocks

  module _ (at : Assignment) where
    decls_clocked : (g : Decl → Decl) → ((d : Decl) → (g d).ty ≡ d.ty) → (ds : List Decl) → DeclTypes P ds → DeclTypes P (map g ds)
    decls_clocked g e [] h = tt
    decls_clocked g e (d ∷ ds) h = (subst P (sym (e d)) h.0, decls_clocked g e ds h.1)

    mutual
      block_clocked : (here : Place → Place) (b : Block) → BlockTypes P b → BlockTypes P (with_clocks at here b)
      block_clocked here (block ds es) h = (decls_clocked (with_clock at es here) (λ d. refl) ds h.0, eqns_clocked (below Equations here) es h.1)

      eqns_clocked : (here : Place → Place) (es : Eqns) → EqnsTypes P es → EqnsTypes P (all_with_clocks at here es)
      eqns_clocked here no_eqn h = tt
      eqns_clocked here (more_eqns e es) h = (eqn_clocked (below Head here) e h.0, eqns_clocked (below Tail here) es h.1)

      eqn_clocked : (here : Place → Place) (e : Eqn) → EqnTypes P e → EqnTypes P (one_with_clocks at here e)
      eqn_clocked here (define s ys e) h = h
      eqn_clocked here (switch s e arms) h = arms_clocked (below ArmsOf here) arms h
      eqn_clocked here (reset s b e) h = block_clocked (below Body here) b h
      eqn_clocked here (automaton s ss) h = states_clocked (below StatesOf here) ss h

      arms_clocked : (here : Place → Place) (arms : Arms) → ArmsTypes P arms → ArmsTypes P (arms_with_clocks at here arms)
      arms_clocked here no_arm h = tt
      arms_clocked here (more_arms c b s arms) h = (block_clocked (below Head here) b h.0, arms_clocked (below Tail here) arms h.1)

      states_clocked : (here : Place → Place) (ss : States) → StatesTypes P ss → StatesTypes P (states_with_clocks at here ss)
      states_clocked here no_state h = tt
      states_clocked here (more_states f b until unless s ss) h = (block_clocked (below Body (below Head here)) b h.0, states_clocked (below Tail here) ss h.1)

    contract_clocked : (o : Option Contract) → ContractTypes P o → ContractTypes P (contract_with_clocks at o)
    contract_clocked None h = tt
    contract_clocked (Some c) h = block_clocked in_observer c.body h

    pub node_clocked : (n : Node) → AllTypes P n → AllTypes P (node_with_clocks at n)
    node_clocked n h = (
      decls_clocked base_written (λ d. refl) n.inputs h.0,
      (decls_clocked base_written (λ d. refl) n.outputs h.1.0, (contract_clocked n.contract h.1.1.0, block_clocked in_body n.body h.1.1.1)),
    )
