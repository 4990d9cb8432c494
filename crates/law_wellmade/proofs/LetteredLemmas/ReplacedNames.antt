-- Where inlined calls are replaced, names are still spelled so, where new names are.
use Rattle.std.proofs.Common.{ℕ, ◌+◌, Bool, true, false, ◌&&◌, if◌then◌else◌, List, [], ◌∷◌, ◌++◌}
use Rattle.std.specs.Prelude.{⊤, Option, None, Some, option_map}
use Rattle.std.specs.Str.{bytes_eq}
use Rattle.hp_base.specs.declared.span.Span.{Span}
use Rattle.hp_tree.specs.declared.program.Item.{Item}
use Rattle.hp_tree.specs.declared.program.Item.TheVariants.{TypeItem, NodeItem}
use Rattle.hp_tree.specs.Expressions.{Expr, constant, variable, last_of, one, two, choose, pre, fby, arrow, when_is, merge, call, Exprs, no_expr, more_exprs, Parts, no_part, more_parts}
use Rattle.hp_tree.specs.Blocks.{Decl, Block, block, Eqns, no_eqn, more_eqns, Eqn, define, switch, reset, automaton, Arms, no_arm, more_arms, States, no_state, more_states, eqns_of, list_of_eqns}
use Rattle.hp_tree.specs.Programs.{Contract, Node}
use Rattle.law_judged.specs.Named.Scoped.{EachNode}
use Rattle.hp_expand.specs.NewNames.{is_new, numbered_name, marked}
use Rattle.hp_expand.specs.Renaming.{renamed_decls, renamed_left, renamed_block, renamed_eqns, renamed_eqn, renamed_arms, renamed_states}
use Rattle.hp_expand.specs.Replacing.{Replaced, given, locals_of, equations_of, inlined_call, defined_by, in_expr, in_exprs, in_parts, in_definition, in_block, in_eqns, in_eqn, in_arms, in_states, in_condition, in_contract, in_node}
use Rattle.hp_expand.specs.Numbering as number
use Rattle.hp_expand.specs.Numbering.{one_if_new, declaring_one, declaring, new_in_decls, new_in_block, new_in_eqns, new_in_eqn, behind, numbered, replaced_node, with_node, replaced_items, no_node, replaced}
use Rattle.law_wellmade.specs.Lettered.Names.{DeclsSpelled, LeftsSpelled, BlockSpelled, EqnsSpelled, EqnSpelled, ArmsSpelled, StatesSpelled, ContractSpelled, NodeSpelled}

-- ---- lists

abbrev pub Rows : (List ℕ → Type 0) → List Eqn → Type 0
Rows P [] = ⊤
Rows P (e ∷ es) = EqnSpelled P e × Rows P es

module _ (P : List ℕ → Type 0) where
  pub both_decls : (ds es : List Decl) → DeclsSpelled P ds → DeclsSpelled P es → DeclsSpelled P (ds ++ es)
  both_decls [] es h k = k
  both_decls (d ∷ ds) es h k = (h.0, both_decls ds es h.1 k)

  to_rows : (es : Eqns) → EqnsSpelled P es → Rows P (list_of_eqns es)
  to_rows no_eqn h = tt
  to_rows (more_eqns e es) h = (h.0, to_rows es h.1)

  pub of_rows : (es : List Eqn) → Rows P es → EqnsSpelled P (eqns_of es)
  of_rows [] h = tt
  of_rows (e ∷ es) h = (h.0, of_rows es h.1)

  pub both_rows : (es fs : List Eqn) → Rows P es → Rows P fs → Rows P (es ++ fs)
  both_rows [] fs h k = k
  both_rows (e ∷ es) fs h k = (h.0, both_rows es fs h.1 k)

  -- ---- under other names

  -- names stay spelled so
  abbrev pub Keeps : (List ℕ → List ℕ) → Type 0
  Keeps to = (x : List ℕ) → P x → P (to x)

  module _ (to : List ℕ → List ℕ) (keeps : Keeps to) where
    decls_renamed : (ds : List Decl) → DeclsSpelled P ds → DeclsSpelled P (renamed_decls to ds)
    decls_renamed [] h = tt
    decls_renamed (d ∷ ds) h = (keeps d.name h.0, decls_renamed ds h.1)

    pub lefts_renamed : (ys : List (List ℕ × Span)) → LeftsSpelled P ys → LeftsSpelled P (renamed_left to ys)
    lefts_renamed [] h = tt
    lefts_renamed (y ∷ ys) h = (keeps y.0 h.0, lefts_renamed ys h.1)

    mutual
      block_renamed : (b : Block) → BlockSpelled P b → BlockSpelled P (renamed_block to b)
      block_renamed (block ds es) h = (decls_renamed ds h.0, eqns_renamed es h.1)

      eqns_renamed : (es : Eqns) → EqnsSpelled P es → EqnsSpelled P (renamed_eqns to es)
      eqns_renamed no_eqn h = tt
      eqns_renamed (more_eqns e es) h = (eqn_renamed e h.0, eqns_renamed es h.1)

      eqn_renamed : (e : Eqn) → EqnSpelled P e → EqnSpelled P (renamed_eqn to e)
      eqn_renamed (define s ys e) h = lefts_renamed ys h
      eqn_renamed (switch s e arms) h = arms_renamed arms h
      eqn_renamed (reset s b e) h = block_renamed b h
      eqn_renamed (automaton s ss) h = states_renamed ss h

      arms_renamed : (arms : Arms) → ArmsSpelled P arms → ArmsSpelled P (renamed_arms to arms)
      arms_renamed no_arm h = tt
      arms_renamed (more_arms c b s arms) h = (block_renamed b h.0, arms_renamed arms h.1)

      states_renamed : (ss : States) → StatesSpelled P ss → StatesSpelled P (renamed_states to ss)
      states_renamed no_state h = tt
      states_renamed (more_states f b until unless s ss) h = (block_renamed b h.0, states_renamed ss h.1)

-- new names are spelled so where the old ones are
pub record Renames (P : List ℕ → Type 0) : Type 0 where
  pub marks : (k : ℕ) (x : List ℕ) → P x → P (marked k x)
  pub numbers : (k : ℕ) (x : List ℕ) → P x → P (numbered_name x k)

module _ (P : List ℕ → Type 0) (new : Renames P) where
  -- ---- where new variables get their numbers

  declared_one : (to : List ℕ → List ℕ) (k : ℕ) (y : List ℕ) → Keeps P to → Keeps P (declaring_one to k y)
  declared_one to k y p x h = by (is_new y && bytes_eq y x)
    where
      by : (b : Bool) → P (if b then numbered_name x k else to x)
      by true = new.numbers k x h
      by false = p x h

  declared_all : (to : List ℕ → List ℕ) (k : ℕ) (ds : List Decl) → Keeps P to → Keeps P (declaring to k ds)
  declared_all to k [] p x h = p x h
  declared_all to k (d ∷ ds) p x h = declared_all (declaring_one to k d.name) (k + one_if_new d.name) ds (declared_one to k d.name p) x h

  mutual
    block_numbered : (to : List ℕ → List ℕ) (k : ℕ) (b : Block) → Keeps P to → BlockSpelled P b → BlockSpelled P (number.in_block to k b)
    block_numbered to k (block ds es) p h =
        let q = declared_all to k ds p in
        (decls_renamed P (declaring to k ds) q ds h.0, eqns_numbered (declaring to k ds) (k + new_in_decls ds) es q h.1)

    eqns_numbered : (to : List ℕ → List ℕ) (k : ℕ) (es : Eqns) → Keeps P to → EqnsSpelled P es → EqnsSpelled P (number.in_eqns to k es)
    eqns_numbered to k no_eqn p h = tt
    eqns_numbered to k (more_eqns e es) p h = (eqn_numbered to k e p h.0, eqns_numbered to (k + new_in_eqn e) es p h.1)

    eqn_numbered : (to : List ℕ → List ℕ) (k : ℕ) (e : Eqn) → Keeps P to → EqnSpelled P e → EqnSpelled P (number.in_eqn to k e)
    eqn_numbered to k (define s ys e) p h = lefts_renamed P to p ys h
    eqn_numbered to k (switch s e arms) p h = arms_numbered to k arms p h
    eqn_numbered to k (reset s b e) p h = block_numbered to k b p h
    eqn_numbered to k (automaton s ss) p h = states_numbered to k ss p h

    arms_numbered : (to : List ℕ → List ℕ) (k : ℕ) (arms : Arms) → Keeps P to → ArmsSpelled P arms → ArmsSpelled P (number.in_arms to k arms)
    arms_numbered to k no_arm p h = tt
    arms_numbered to k (more_arms c b s arms) p h = (block_numbered to k b p h.0, arms_numbered to (k + new_in_block b) arms p h.1)

    states_numbered : (to : List ℕ → List ℕ) (k : ℕ) (ss : States) → Keeps P to → StatesSpelled P ss → StatesSpelled P (number.in_states to k ss)
    states_numbered to k no_state p h = tt
    states_numbered to k (more_states f (block ds es) until unless s ss) p h =
        let q = declared_all to k ds p in (
          (decls_renamed P (declaring to k ds) q ds h.0.0, eqns_numbered (declaring to k ds) (k + new_in_decls ds) es q h.0.1),
          states_numbered to (k + (new_in_decls ds + new_in_eqns es)) ss p h.1,
        )

  contract_numbered : (o : Option Contract) → ContractSpelled P o → ContractSpelled P (option_map number.in_contract o)
  contract_numbered None h = tt
  contract_numbered (Some c) h = (h.0, block_numbered number.same_name 1 c.body (λ x p. p) h.1)

  -- ---- replacing

  given_spelled : (ds : List Decl) (es : Exprs) → DeclsSpelled P ds → Rows P (given ds es)
  given_spelled [] es h = tt
  given_spelled (d ∷ ds) no_expr h = tt
  given_spelled (d ∷ ds) (more_exprs e es) h = ((h.0, tt), given_spelled ds es h.1)

  defined_spelled : (s : Span) (xs : List (List ℕ × Span)) (at : Span) (ys : List (List ℕ)) → LeftsSpelled P xs → Rows P (defined_by s xs at ys)
  defined_spelled s [] at ys h = tt
  defined_spelled s (x ∷ xs) at [] h = tt
  defined_spelled s (x ∷ xs) at (y ∷ ys) h = ((h.0, tt), defined_spelled s xs at ys h.1)

  locals_spelled : (b : Block) → BlockSpelled P b → DeclsSpelled P (locals_of b)
  locals_spelled (block ds es) h = h.0

  equations_spelled : (b : Block) → BlockSpelled P b → EqnsSpelled P (equations_of b)
  equations_spelled (block ds es) h = h.1

  -- the names of a node whose calls may be replaced
  abbrev CalledSpelled : Node → Type 0
  CalledSpelled n = DeclsSpelled P n.inputs × (DeclsSpelled P n.outputs × BlockSpelled P n.body)

  -- the new locals, and the equations before a part
  abbrev Held : {A : Type 0} → Replaced A → Type 0
  Held r = DeclsSpelled P r.locals × Rows P r.before

  -- those of two parts
  two_held : (ds es : List Decl) (fs gs : List Eqn) → DeclsSpelled P ds × Rows P fs → DeclsSpelled P es × Rows P gs → DeclsSpelled P (ds ++ es) × Rows P (fs ++ gs)
  two_held ds es fs gs h k = (both_decls P ds es h.0 k.0, both_rows P fs gs h.1 k.1)

  module _ (nodes : List ℕ → Node) (spelled : (f : List ℕ) → CalledSpelled (nodes f)) where
    call_held : (f : List ℕ) (args : Replaced Exprs) → DeclsSpelled P args.locals × Rows P args.before
        → DeclsSpelled P (inlined_call (nodes f) args).locals × Rows P (inlined_call (nodes f) args).before
    call_held f args h =
        let to = marked args.next in
        let keeps : (x : List ℕ) → P x → P (to x) = λ x p. new.marks args.next x p in
        let n = nodes f in
        let s = spelled f in
        let told = given (renamed_decls to n.inputs) args.part in
        let made = renamed_eqns to (equations_of n.body) in (
          both_decls P args.locals (renamed_decls to (n.inputs ++ (n.outputs ++ locals_of n.body))) h.0
              (decls_renamed P to keeps (n.inputs ++ (n.outputs ++ locals_of n.body))
              (both_decls P n.inputs (n.outputs ++ locals_of n.body) s.0 (both_decls P n.outputs (locals_of n.body) s.1.0 (locals_spelled n.body s.1.1)))),
          both_rows P args.before (told ++ list_of_eqns made) h.1
              (both_rows P told (list_of_eqns made) (given_spelled (renamed_decls to n.inputs) args.part (decls_renamed P to keeps n.inputs s.0))
              (to_rows P made (eqns_renamed P to keeps (equations_of n.body) (equations_spelled n.body s.1.1)))),
        )

    mutual
      expr_held : (k : ℕ) (e : Expr) → DeclsSpelled P (in_expr nodes k e).locals × Rows P (in_expr nodes k e).before
      expr_held k (constant at c) = (tt, tt)
      expr_held k (variable at x) = (tt, tt)
      expr_held k (last_of at x) = (tt, tt)
      expr_held k (one at o a) = expr_held k a
      expr_held k (two at o a b) =
          let x = in_expr nodes k a in
          let y = in_expr nodes x.next b in
          two_held x.locals y.locals x.before y.before (expr_held k a) (expr_held x.next b)
      expr_held k (choose at a b c) =
          let x = in_expr nodes k a in
          let y = in_expr nodes x.next b in
          let z = in_expr nodes y.next c in
          two_held x.locals (y.locals ++ z.locals) x.before (y.before ++ z.before) (expr_held k a) (two_held y.locals z.locals y.before z.before (expr_held x.next b) (expr_held y.next c))
      expr_held k (pre at a) = expr_held k a
      expr_held k (fby at a b) =
          let x = in_expr nodes k a in
          let y = in_expr nodes x.next b in
          two_held x.locals y.locals x.before y.before (expr_held k a) (expr_held x.next b)
      expr_held k (arrow at a b) =
          let x = in_expr nodes k a in
          let y = in_expr nodes x.next b in
          two_held x.locals y.locals x.before y.before (expr_held k a) (expr_held x.next b)
      expr_held k (when_is at a c x) = expr_held k a
      expr_held k (merge at x ps) = parts_held k ps
      expr_held k (call at f false es) = exprs_held k es
      expr_held k (call at f true es) = call_held f (in_exprs nodes k es) (exprs_held k es)

      exprs_held : (k : ℕ) (es : Exprs) → DeclsSpelled P (in_exprs nodes k es).locals × Rows P (in_exprs nodes k es).before
      exprs_held k no_expr = (tt, tt)
      exprs_held k (more_exprs e es) =
          let x = in_expr nodes k e in
          let y = in_exprs nodes x.next es in
          two_held x.locals y.locals x.before y.before (expr_held k e) (exprs_held x.next es)

      parts_held : (k : ℕ) (ps : Parts) → DeclsSpelled P (in_parts nodes k ps).locals × Rows P (in_parts nodes k ps).before
      parts_held k no_part = (tt, tt)
      parts_held k (more_parts c e ps) =
          let x = in_expr nodes k e in
          let y = in_parts nodes x.next ps in
          two_held x.locals y.locals x.before y.before (expr_held k e) (parts_held x.next ps)

    abbrev DefinitionHeld : ℕ → Span → List (List ℕ × Span) → Expr → Type 0
    DefinitionHeld k s xs e = Held (in_definition nodes k s xs e) × Rows P (in_definition nodes k s xs e).part

    definition_held : (k : ℕ) (s : Span) (xs : List (List ℕ × Span)) (e : Expr) → LeftsSpelled P xs → DefinitionHeld k s xs e
    definition_held k s xs (constant at c) h = ((tt, tt), (h, tt))
    definition_held k s xs (variable at x) h = ((tt, tt), (h, tt))
    definition_held k s xs (last_of at x) h = ((tt, tt), (h, tt))
    definition_held k s xs (one at o a) h = (expr_held k (one at o a), (h, tt))
    definition_held k s xs (two at o a b) h = (expr_held k (two at o a b), (h, tt))
    definition_held k s xs (choose at a b c) h = (expr_held k (choose at a b c), (h, tt))
    definition_held k s xs (pre at a) h = (expr_held k (pre at a), (h, tt))
    definition_held k s xs (fby at a b) h = (expr_held k (fby at a b), (h, tt))
    definition_held k s xs (arrow at a b) h = (expr_held k (arrow at a b), (h, tt))
    definition_held k s xs (when_is at a c x) h = (expr_held k (when_is at a c x), (h, tt))
    definition_held k s xs (merge at x ps) h = (expr_held k (merge at x ps), (h, tt))
    definition_held k s xs (call at f false es) h = (expr_held k (call at f false es), (h, tt))
    definition_held k s xs (call at f true es) h =
        let args = in_exprs nodes k es in
        (call_held f args (exprs_held k es), defined_spelled s xs at (inlined_call (nodes f) args).part h)

    mutual
      block_replaced : (k : ℕ) (b : Block) → BlockSpelled P b → BlockSpelled P (in_block nodes k b).part
      block_replaced k (block ds es) h = let r = eqns_replaced k es h.1 in (both_decls P ds (in_eqns nodes k es).locals h.0 r.0, r.1)

      eqns_replaced : (k : ℕ) (es : Eqns) → EqnsSpelled P es → DeclsSpelled P (in_eqns nodes k es).locals × EqnsSpelled P (in_eqns nodes k es).part
      eqns_replaced k no_eqn h = (tt, tt)
      eqns_replaced k (more_eqns e es) h =
          let here = in_eqn nodes k e in
          let rest = in_eqns nodes here.next es in
          let q = eqn_replaced k e h.0 in
          let r = eqns_replaced here.next es h.1 in (
            both_decls P here.locals rest.locals q.0.0 r.0,
            of_rows P (here.before ++ (here.part ++ list_of_eqns rest.part))
                (both_rows P here.before (here.part ++ list_of_eqns rest.part) q.0.1 (both_rows P here.part (list_of_eqns rest.part) q.1 (to_rows P rest.part r.1))),
          )

      eqn_replaced : (k : ℕ) (e : Eqn) → EqnSpelled P e → (DeclsSpelled P (in_eqn nodes k e).locals × Rows P (in_eqn nodes k e).before) × Rows P (in_eqn nodes k e).part
      eqn_replaced k (define s ys e) h = definition_held k s ys e h
      eqn_replaced k (switch s e arms) h = (expr_held k e, (arms_replaced (in_expr nodes k e).next arms h, tt))
      eqn_replaced k (reset s b e) h = (expr_held k e, (block_replaced (in_expr nodes k e).next b h, tt))
      eqn_replaced k (automaton s ss) h = ((tt, tt), (states_replaced k ss h, tt))

      arms_replaced : (k : ℕ) (arms : Arms) → ArmsSpelled P arms → ArmsSpelled P (in_arms nodes k arms).part
      arms_replaced k no_arm h = tt
      arms_replaced k (more_arms c b s arms) h = (block_replaced k b h.0, arms_replaced (in_block nodes k b).next arms h.1)

      states_replaced : (k : ℕ) (ss : States) → StatesSpelled P ss → StatesSpelled P (in_states nodes k ss).part
      states_replaced k no_state h = tt
      states_replaced k (more_states f b until unless s ss) h = (block_replaced k b h.0, states_replaced (in_block nodes k b).next ss h.1)

    condition_held : (k : ℕ) (o : Option Expr) → DeclsSpelled P (in_condition nodes k o).locals × Rows P (in_condition nodes k o).before
    condition_held k None = (tt, tt)
    condition_held k (Some e) = expr_held k e

    contract_replaced : (o : Option Contract) → ContractSpelled P o → ContractSpelled P (in_contract nodes 1 o).part
    contract_replaced None h = tt
    contract_replaced (Some c) h =
        let es = in_eqns nodes 1 (equations_of c.body) in
        let assume = in_condition nodes es.next c.assume in
        let enforce = in_condition nodes assume.next c.enforce in
        let r = eqns_replaced 1 (equations_of c.body) (equations_spelled c.body h.1) in
        let q = two_held assume.locals enforce.locals assume.before enforce.before (condition_held es.next c.assume) (condition_held assume.next c.enforce) in (
          h.0,
          (
            both_decls P (locals_of c.body) (es.locals ++ (assume.locals ++ enforce.locals)) (locals_spelled c.body h.1) (both_decls P es.locals (assume.locals ++ enforce.locals) r.0 q.0),
            of_rows P (list_of_eqns es.part ++ (assume.before ++ enforce.before)) (both_rows P (list_of_eqns es.part) (assume.before ++ enforce.before) (to_rows P es.part r.1) q.1),
          ),
        )

    node_spelled : (n : Node) → NodeSpelled P n → NodeSpelled P (replaced_node nodes n)
    node_spelled n h =
        let m = in_node nodes n in (
          h.0,
          (
            h.1.0,
            (
              h.1.1.0,
              (
                contract_numbered m.contract (contract_replaced n.contract h.1.1.1.0),
                block_numbered number.same_name (behind m.contract) m.body (λ x p. p) (block_replaced (in_contract nodes 1 n.contract).next n.body h.1.1.1.1),
              ),
            ),
          ),
        )

  -- ---- programs

  with_spelled : (nodes : List ℕ → Node) → ((f : List ℕ) → CalledSpelled (nodes f)) → (n : Node) → NodeSpelled P n → (f : List ℕ) → CalledSpelled (with_node nodes n f)
  with_spelled nodes h n o f = by (bytes_eq n.name f)
    where
      by : (b : Bool) → CalledSpelled (if b then n else nodes f)
      by true = (o.1.0, (o.1.1.0, o.1.1.1.1))
      by false = h f

  items_spelled : (nodes : List ℕ → Node) → ((f : List ℕ) → CalledSpelled (nodes f)) → (items : List Item) → EachNode (NodeSpelled P) items → EachNode (NodeSpelled P) (replaced_items nodes items)
  items_spelled nodes h [] s = tt
  items_spelled nodes h (TypeItem t ∷ items) s = items_spelled nodes h items s
  items_spelled nodes h (NodeItem n ∷ items) s =
      let m = replaced_node nodes n in
      let alone = node_spelled nodes h n s.0 in
      (alone, items_spelled (with_node nodes m) (with_spelled nodes h m alone) items s.1)

  pub program_spelled : (program : List Item) → EachNode (NodeSpelled P) program → EachNode (NodeSpelled P) (replaced program)
  program_spelled program s = items_spelled no_node (λ f. (tt, (tt, (tt, tt)))) program s
