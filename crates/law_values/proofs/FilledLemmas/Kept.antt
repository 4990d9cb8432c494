-- Replacing inlined calls and writing clocks keep the types of declarations.
use Rattle.std.proofs.Common.{ℕ, ◌+◌, List, [], ◌∷◌, ◌++◌, map}
use Rattle.std.specs.Prelude.{⊤, Bool, true, false, if◌then◌else◌, Option, None, Some, option_map}
use Rattle.std.specs.Str.{bytes_eq}
use Rattle.hp_base.specs.declared.span.Span.{Span}
use Rattle.hp_tree.specs.declared.program.Item.{Item}
use Rattle.hp_tree.specs.declared.program.Item.TheVariants.{TypeItem, NodeItem}
use Rattle.hp_tree.specs.Expressions.{Expr, constant, variable, last_of, one, two, choose, pre, fby, arrow, when_is, merge, call, Exprs, no_expr, more_exprs, Parts, no_part, more_parts}
use Rattle.hp_tree.specs.Blocks.{Decl, Block, block, Eqns, no_eqn, more_eqns, Eqn, define, switch, reset, automaton, Arms, no_arm, more_arms, States, no_state, more_states, eqns_of, list_of_eqns}
use Rattle.hp_tree.specs.Programs.{TypeDecl, Contract, Node}
use Rattle.hp_tree.specs.Instant.{Body, Equations, Head, Tail, Arms as ArmsOf, States as StatesOf, Place}
use Rattle.hp_tree.specs.Meaning.{controls_of}
use Rattle.hp_meaning.specs.Causal.Sources.{below}
use Rattle.hp_meaning.specs.Clocking.Clocking.{Assignment, in_observer, in_body, with_clock, base_written, with_clocks, all_with_clocks, one_with_clocks, arms_with_clocks, states_with_clocks, contract_with_clocks, node_with_clocks}
use Rattle.law_judged.specs.Named.Scoped.{EachNode}
use Rattle.hp_expand.specs.Renaming.{renamed_decls, renamed_block, renamed_eqns, renamed_eqn, renamed_arms, renamed_states}
use Rattle.hp_expand.specs.NewNames.{marked}
use Rattle.hp_expand.specs.Replacing.{Replaced, given, locals_of, equations_of, inlined_call, defined_by, in_expr, in_exprs, in_parts, in_definition, in_block, in_eqns, in_eqn, in_arms, in_states, in_condition, in_contract, in_node}
use Rattle.hp_expand.specs.Numbering as numbering
use Rattle.hp_expand.specs.Numbering.{declaring, new_in_decls, new_in_block, new_in_eqns, new_in_eqn, same_name, behind, replaced_node, with_node, replaced_items, no_node}
use Rattle.law_values.specs.Filled.Firsts.{DeclsHaveFirsts, BlockHasFirsts, EqnsHaveFirsts, EqnHasFirsts, ArmsHaveFirsts, StatesHaveFirsts, ContractHasFirsts, NodeHasFirsts}

module _ (types : List TypeDecl) where
  abbrev Decls : List Decl → Type 0
  Decls ds = DeclsHaveFirsts types ds

  -- ---- lists

  both_decls : (ds es : List Decl) → Decls ds → Decls es → Decls (ds ++ es)
  both_decls [] es h k = k
  both_decls (d ∷ ds) es h k = (h.0, both_decls ds es h.1 k)

  decls_renamed : (to : List ℕ → List ℕ) (ds : List Decl) → Decls ds → Decls (renamed_decls to ds)
  decls_renamed to [] h = tt
  decls_renamed to (d ∷ ds) h = (h.0, decls_renamed to ds h.1)

  abbrev Rows : List Eqn → Type 0
  Rows [] = ⊤
  Rows (e ∷ es) = EqnHasFirsts types e × Rows es

  rows_of : (es : Eqns) → EqnsHaveFirsts types es → Rows (list_of_eqns es)
  rows_of no_eqn h = tt
  rows_of (more_eqns e es) h = (h.0, rows_of es h.1)

  of_rows : (es : List Eqn) → Rows es → EqnsHaveFirsts types (eqns_of es)
  of_rows [] h = tt
  of_rows (e ∷ es) h = (h.0, of_rows es h.1)

  both_rows : (es fs : List Eqn) → Rows es → Rows fs → Rows (es ++ fs)
  both_rows [] fs h k = k
  both_rows (e ∷ es) fs h k = (h.0, both_rows es fs h.1 k)

  given_rows : (ds : List Decl) (es : Exprs) → Rows (given ds es)
  given_rows [] es = tt
  given_rows (d ∷ ds) no_expr = tt
  given_rows (d ∷ ds) (more_exprs e es) = (tt, given_rows ds es)

  defined_rows : (s : Span) (xs : List (List ℕ × Span)) (at : Span) (ys : List (List ℕ)) → Rows (defined_by s xs at ys)
  defined_rows s [] at ys = tt
  defined_rows s (x ∷ xs) at [] = tt
  defined_rows s (x ∷ xs) at (y ∷ ys) = (tt, defined_rows s xs at ys)

  -- ---- renaming

  mutual
    block_renamed : (to : List ℕ → List ℕ) (b : Block) → BlockHasFirsts types b → BlockHasFirsts types (renamed_block to b)
    block_renamed to (block ds es) h = (decls_renamed to ds h.0, eqns_renamed to es h.1)

    eqns_renamed : (to : List ℕ → List ℕ) (es : Eqns) → EqnsHaveFirsts types es → EqnsHaveFirsts types (renamed_eqns to es)
    eqns_renamed to no_eqn h = tt
    eqns_renamed to (more_eqns e es) h = (eqn_renamed to e h.0, eqns_renamed to es h.1)

    eqn_renamed : (to : List ℕ → List ℕ) (e : Eqn) → EqnHasFirsts types e → EqnHasFirsts types (renamed_eqn to e)
    eqn_renamed to (define s ys e) h = tt
    eqn_renamed to (switch s e arms) h = arms_renamed to arms h
    eqn_renamed to (reset s b e) h = block_renamed to b h
    eqn_renamed to (automaton s ss) h = states_renamed to ss h

    arms_renamed : (to : List ℕ → List ℕ) (arms : Arms) → ArmsHaveFirsts types arms → ArmsHaveFirsts types (renamed_arms to arms)
    arms_renamed to no_arm h = tt
    arms_renamed to (more_arms c b s arms) h = (block_renamed to b h.0, arms_renamed to arms h.1)

    states_renamed : (to : List ℕ → List ℕ) (ss : States) → StatesHaveFirsts types ss → StatesHaveFirsts types (renamed_states to ss)
    states_renamed to no_state h = tt
    states_renamed to (more_states f b until unless s ss) h = (block_renamed to b h.0, states_renamed to ss h.1)

  -- ---- numbering

  mutual
    block_numbered : (to : List ℕ → List ℕ) (k : ℕ) (b : Block) → BlockHasFirsts types b → BlockHasFirsts types (numbering.in_block to k b)
    block_numbered to k (block ds es) h = (decls_renamed (declaring to k ds) ds h.0, eqns_numbered (declaring to k ds) (k + new_in_decls ds) es h.1)

    eqns_numbered : (to : List ℕ → List ℕ) (k : ℕ) (es : Eqns) → EqnsHaveFirsts types es → EqnsHaveFirsts types (numbering.in_eqns to k es)
    eqns_numbered to k no_eqn h = tt
    eqns_numbered to k (more_eqns e es) h = (eqn_numbered to k e h.0, eqns_numbered to (k + new_in_eqn e) es h.1)

    eqn_numbered : (to : List ℕ → List ℕ) (k : ℕ) (e : Eqn) → EqnHasFirsts types e → EqnHasFirsts types (numbering.in_eqn to k e)
    eqn_numbered to k (define s ys e) h = tt
    eqn_numbered to k (switch s e arms) h = arms_numbered to k arms h
    eqn_numbered to k (reset s b e) h = block_numbered to k b h
    eqn_numbered to k (automaton s ss) h = states_numbered to k ss h

    arms_numbered : (to : List ℕ → List ℕ) (k : ℕ) (arms : Arms) → ArmsHaveFirsts types arms → ArmsHaveFirsts types (numbering.in_arms to k arms)
    arms_numbered to k no_arm h = tt
    arms_numbered to k (more_arms c b s arms) h = (block_numbered to k b h.0, arms_numbered to (k + new_in_block b) arms h.1)

    states_numbered : (to : List ℕ → List ℕ) (k : ℕ) (ss : States) → StatesHaveFirsts types ss → StatesHaveFirsts types (numbering.in_states to k ss)
    states_numbered to k no_state h = tt
    states_numbered to k (more_states f (block ds es) until unless s ss) h =
        ((decls_renamed (declaring to k ds) ds h.0.0, eqns_numbered (declaring to k ds) (k + new_in_decls ds) es h.0.1), states_numbered to (k + (new_in_decls ds + new_in_eqns es)) ss h.1)

  contract_numbered : (o : Option Contract) → ContractHasFirsts types o → ContractHasFirsts types (option_map numbering.in_contract o)
  contract_numbered None h = tt
  contract_numbered (Some c) h = block_numbered same_name 1 c.body h

  -- ---- replacing

  locals_first : (b : Block) → BlockHasFirsts types b → Decls (locals_of b)
  locals_first (block ds es) h = h.0

  equations_first : (b : Block) → BlockHasFirsts types b → EqnsHaveFirsts types (equations_of b)
  equations_first (block ds es) h = h.1

  -- the new locals and equations of a part
  abbrev Good : {A : Type 0} → Replaced A → Type 0
  Good {A} r = Decls r.locals × Rows r.before

  module _ (nodes : List ℕ → Node) (known : (f : List ℕ) → NodeHasFirsts types (nodes f)) where
    call_good : (f : List ℕ) (args : Replaced Exprs) → Good args → Good (inlined_call (nodes f) args)
    call_good f args h =
        let to = marked args.next in
        let n = nodes f in
        let k = known f in (
          both_decls args.locals (renamed_decls to (n.inputs ++ (n.outputs ++ locals_of n.body))) h.0
              (decls_renamed to (n.inputs ++ (n.outputs ++ locals_of n.body)) (both_decls n.inputs (n.outputs ++ locals_of n.body) k.inputs (both_decls n.outputs (locals_of n.body) k.outputs (locals_first n.body k.body)))),
          both_rows args.before (given (renamed_decls to n.inputs) args.part ++ list_of_eqns (renamed_eqns to (equations_of n.body))) h.1
              (both_rows (given (renamed_decls to n.inputs) args.part) (list_of_eqns (renamed_eqns to (equations_of n.body))) (given_rows (renamed_decls to n.inputs) args.part)
              (rows_of (renamed_eqns to (equations_of n.body)) (eqns_renamed to (equations_of n.body) (equations_first n.body k.body)))),
        )

    both_good : (ds es : List Decl) (us ws : List Eqn) → Decls ds × Rows us → Decls es × Rows ws → Decls (ds ++ es) × Rows (us ++ ws)
    both_good ds es us ws h k = (both_decls ds es h.0 k.0, both_rows us ws h.1 k.1)

    mutual
      expr_good : (k : ℕ) (e : Expr) → Good (in_expr nodes k e)
      expr_good k (constant at c) = (tt, tt)
      expr_good k (variable at x) = (tt, tt)
      expr_good k (last_of at x) = (tt, tt)
      expr_good k (one at o a) = expr_good k a
      expr_good k (two at o a b) = let j = (in_expr nodes k a).next in both_good (in_expr nodes k a).locals (in_expr nodes j b).locals (in_expr nodes k a).before (in_expr nodes j b).before (expr_good k a) (expr_good j b)
      expr_good k (choose at a b c) =
          let j = (in_expr nodes k a).next in
          let i = (in_expr nodes j b).next in
          both_good (in_expr nodes k a).locals ((in_expr nodes j b).locals ++ (in_expr nodes i c).locals) (in_expr nodes k a).before ((in_expr nodes j b).before ++ (in_expr nodes i c).before) (expr_good k a)
          (both_good (in_expr nodes j b).locals (in_expr nodes i c).locals (in_expr nodes j b).before (in_expr nodes i c).before (expr_good j b) (expr_good i c))
      expr_good k (pre at a) = expr_good k a
      expr_good k (fby at a b) = let j = (in_expr nodes k a).next in both_good (in_expr nodes k a).locals (in_expr nodes j b).locals (in_expr nodes k a).before (in_expr nodes j b).before (expr_good k a) (expr_good j b)
      expr_good k (arrow at a b) = let j = (in_expr nodes k a).next in both_good (in_expr nodes k a).locals (in_expr nodes j b).locals (in_expr nodes k a).before (in_expr nodes j b).before (expr_good k a) (expr_good j b)
      expr_good k (when_is at a c x) = expr_good k a
      expr_good k (merge at x ps) = parts_good k ps
      expr_good k (call at f false es) = exprs_good k es
      expr_good k (call at f true es) = call_good f (in_exprs nodes k es) (exprs_good k es)

      exprs_good : (k : ℕ) (es : Exprs) → Good (in_exprs nodes k es)
      exprs_good k no_expr = (tt, tt)
      exprs_good k (more_exprs e es) = let j = (in_expr nodes k e).next in both_good (in_expr nodes k e).locals (in_exprs nodes j es).locals (in_expr nodes k e).before (in_exprs nodes j es).before (expr_good k e) (exprs_good j es)

      parts_good : (k : ℕ) (ps : Parts) → Good (in_parts nodes k ps)
      parts_good k no_part = (tt, tt)
      parts_good k (more_parts c e ps) = let j = (in_expr nodes k e).next in both_good (in_expr nodes k e).locals (in_parts nodes j ps).locals (in_expr nodes k e).before (in_parts nodes j ps).before (expr_good k e) (parts_good j ps)

    -- the equations in the place of one
    abbrev Placed : Replaced (List Eqn) → Type 0
    Placed r = Good r × Rows r.part

    definition_good : (k : ℕ) (s : Span) (xs : List (List ℕ × Span)) (e : Expr) → Placed (in_definition nodes k s xs e)
    definition_good k s xs (constant at c) = ((tt, tt), (tt, tt))
    definition_good k s xs (variable at x) = ((tt, tt), (tt, tt))
    definition_good k s xs (last_of at x) = ((tt, tt), (tt, tt))
    definition_good k s xs (one at o a) = (expr_good k (one at o a), (tt, tt))
    definition_good k s xs (two at o a b) = (expr_good k (two at o a b), (tt, tt))
    definition_good k s xs (choose at a b c) = (expr_good k (choose at a b c), (tt, tt))
    definition_good k s xs (pre at a) = (expr_good k (pre at a), (tt, tt))
    definition_good k s xs (fby at a b) = (expr_good k (fby at a b), (tt, tt))
    definition_good k s xs (arrow at a b) = (expr_good k (arrow at a b), (tt, tt))
    definition_good k s xs (when_is at a c x) = (expr_good k (when_is at a c x), (tt, tt))
    definition_good k s xs (merge at x ps) = (expr_good k (merge at x ps), (tt, tt))
    definition_good k s xs (call at f false es) = (expr_good k (call at f false es), (tt, tt))
    definition_good k s xs (call at f true es) = (call_good f (in_exprs nodes k es) (exprs_good k es), defined_rows s xs at (inlined_call (nodes f) (in_exprs nodes k es)).part)

    mutual
      block_good : (k : ℕ) (b : Block) → BlockHasFirsts types b → BlockHasFirsts types (in_block nodes k b).part
      block_good k (block ds es) h = let q = eqns_good k es h.1 in (both_decls ds (in_eqns nodes k es).locals h.0 q.0, q.1)

      eqns_good : (k : ℕ) (es : Eqns) → EqnsHaveFirsts types es → Decls (in_eqns nodes k es).locals × EqnsHaveFirsts types (in_eqns nodes k es).part
      eqns_good k no_eqn h = (tt, tt)
      eqns_good k (more_eqns e es) h =
          let here = in_eqn nodes k e in
          let rest = in_eqns nodes here.next es in
          let q = eqn_good k e h.0 in
          let r = eqns_good here.next es h.1 in (
            both_decls here.locals rest.locals q.0.0 r.0,
            of_rows (here.before ++ (here.part ++ list_of_eqns rest.part)) (both_rows here.before (here.part ++ list_of_eqns rest.part) q.0.1 (both_rows here.part (list_of_eqns rest.part) q.1 (rows_of rest.part r.1))),
          )

      eqn_good : (k : ℕ) (e : Eqn) → EqnHasFirsts types e → Placed (in_eqn nodes k e)
      eqn_good k (define s ys e) h = definition_good k s ys e
      eqn_good k (switch s e arms) h = (expr_good k e, (arms_good (in_expr nodes k e).next arms h, tt))
      eqn_good k (reset s b e) h = (expr_good k e, (block_good (in_expr nodes k e).next b h, tt))
      eqn_good k (automaton s ss) h = ((tt, tt), (states_good k ss h, tt))

      arms_good : (k : ℕ) (arms : Arms) → ArmsHaveFirsts types arms → ArmsHaveFirsts types (in_arms nodes k arms).part
      arms_good k no_arm h = tt
      arms_good k (more_arms c b s arms) h = (block_good k b h.0, arms_good (in_block nodes k b).next arms h.1)

      states_good : (k : ℕ) (ss : States) → StatesHaveFirsts types ss → StatesHaveFirsts types (in_states nodes k ss).part
      states_good k no_state h = tt
      states_good k (more_states f b until unless s ss) h = (block_good k b h.0, states_good (in_block nodes k b).next ss h.1)

    condition_good : (k : ℕ) (o : Option Expr) → Good (in_condition nodes k o)
    condition_good k None = (tt, tt)
    condition_good k (Some e) = expr_good k e

    contract_good : (k : ℕ) (o : Option Contract) → ContractHasFirsts types o → ContractHasFirsts types (in_contract nodes k o).part
    contract_good k None h = tt
    contract_good k (Some c) h =
        let es = in_eqns nodes k (equations_of c.body) in
        let assume = in_condition nodes es.next c.assume in
        let enforce = in_condition nodes assume.next c.enforce in
        let q = eqns_good k (equations_of c.body) (equations_first c.body h) in
        let a = condition_good es.next c.assume in
        let e = condition_good assume.next c.enforce in (
          both_decls (locals_of c.body) (es.locals ++ (assume.locals ++ enforce.locals)) (locals_first c.body h) (both_decls es.locals (assume.locals ++ enforce.locals) q.0 (both_decls assume.locals enforce.locals a.0 e.0)),
          of_rows (list_of_eqns es.part ++ (assume.before ++ enforce.before)) (both_rows (list_of_eqns es.part) (assume.before ++ enforce.before) (rows_of es.part q.1) (both_rows assume.before enforce.before a.1 e.1)),
        )

    controls_same : (k : ℕ) (o : Option Contract) → Decls (controls_of o) → Decls (controls_of (option_map numbering.in_contract (in_contract nodes k o).part))
    controls_same k None h = tt
    controls_same k (Some c) h = h

    node_good : (n : Node) → NodeHasFirsts types n → NodeHasFirsts types (replaced_node nodes n)
    node_good n h =
        let m = in_node nodes n in
        record {
          inputs = h.inputs;
          outputs = h.outputs;
          controls = controls_same 1 n.contract h.controls;
          contract = contract_numbered m.contract (contract_good 1 n.contract h.contract);
          body = block_numbered same_name (behind m.contract) m.body (block_good (in_contract nodes 1 n.contract).next n.body h.body);
        }

  none_first : (f : List ℕ) → NodeHasFirsts types (no_node f)
  none_first f = record { inputs = tt; outputs = tt; controls = tt; contract = tt; body = (tt, tt) }

  with_first : (nodes : List ℕ → Node) (m : Node) → ((f : List ℕ) → NodeHasFirsts types (nodes f)) → NodeHasFirsts types m → (f : List ℕ) → NodeHasFirsts types (with_node nodes m f)
  with_first nodes m h k f = by (bytes_eq m.name f)
    where
      by : (b : Bool) → NodeHasFirsts types (if b then m else nodes f)
      by true = k
      by false = h f

  pub items_good : (nodes : List ℕ → Node) → ((f : List ℕ) → NodeHasFirsts types (nodes f)) → (items : List Item) → EachNode (NodeHasFirsts types) items → EachNode (NodeHasFirsts types) (replaced_items nodes items)
  items_good nodes h [] p = tt
  items_good nodes h (TypeItem t ∷ items) p = items_good nodes h items p
  items_good nodes h (NodeItem n ∷ items) p =
      let q = node_good nodes h n p.0 in
      (q, items_good (with_node nodes (replaced_node nodes n)) (with_first nodes (replaced_node nodes n) h q) items p.1)

  pub replaced_good : (program : List Item) → EachNode (NodeHasFirsts types) program → EachNode (NodeHasFirsts types) (replaced_items no_node program)
  replaced_good program p = items_good no_node none_first program p

  -- ---- writing clocks

  module _ (at : Assignment) where
    decls_clocked : (es : Eqns) (here : Place → Place) (ds : List Decl) → Decls ds → Decls (map (with_clock at es here) ds)
    decls_clocked es here [] h = tt
    decls_clocked es here (d ∷ ds) h = (h.0, decls_clocked es here ds h.1)

    based : (ds : List Decl) → Decls ds → Decls (map base_written ds)
    based [] h = tt
    based (d ∷ ds) h = (h.0, based ds h.1)

    mutual
      block_clocked : (here : Place → Place) (b : Block) → BlockHasFirsts types b → BlockHasFirsts types (with_clocks at here b)
      block_clocked here (block ds es) h = (decls_clocked es here ds h.0, eqns_clocked (below Equations here) es h.1)

      eqns_clocked : (here : Place → Place) (es : Eqns) → EqnsHaveFirsts types es → EqnsHaveFirsts types (all_with_clocks at here es)
      eqns_clocked here no_eqn h = tt
      eqns_clocked here (more_eqns e es) h = (eqn_clocked (below Head here) e h.0, eqns_clocked (below Tail here) es h.1)

      eqn_clocked : (here : Place → Place) (e : Eqn) → EqnHasFirsts types e → EqnHasFirsts types (one_with_clocks at here e)
      eqn_clocked here (define s ys e) h = tt
      eqn_clocked here (switch s e arms) h = arms_clocked (below ArmsOf here) arms h
      eqn_clocked here (reset s b e) h = block_clocked (below Body here) b h
      eqn_clocked here (automaton s ss) h = states_clocked (below StatesOf here) ss h

      arms_clocked : (here : Place → Place) (arms : Arms) → ArmsHaveFirsts types arms → ArmsHaveFirsts types (arms_with_clocks at here arms)
      arms_clocked here no_arm h = tt
      arms_clocked here (more_arms c b s arms) h = (block_clocked (below Head here) b h.0, arms_clocked (below Tail here) arms h.1)

      states_clocked : (here : Place → Place) (ss : States) → StatesHaveFirsts types ss → StatesHaveFirsts types (states_with_clocks at here ss)
      states_clocked here no_state h = tt
      states_clocked here (more_states f b until unless s ss) h = (block_clocked (below Body (below Head here)) b h.0, states_clocked (below Tail here) ss h.1)

    contract_clocked : (o : Option Contract) → ContractHasFirsts types o → ContractHasFirsts types (contract_with_clocks at o)
    contract_clocked None h = tt
    contract_clocked (Some c) h = block_clocked in_observer c.body h

    controls_clocked : (o : Option Contract) → Decls (controls_of o) → Decls (controls_of (contract_with_clocks at o))
    controls_clocked None h = tt
    controls_clocked (Some c) h = based c.controls h

    pub node_clocked : (n : Node) → NodeHasFirsts types n → NodeHasFirsts types (node_with_clocks at n)
    node_clocked n h = record {
      inputs = based n.inputs h.inputs;
      outputs = based n.outputs h.outputs;
      controls = controls_clocked n.contract h.controls;
      contract = contract_clocked n.contract h.contract;
      body = block_clocked in_body n.body h.body;
    }
