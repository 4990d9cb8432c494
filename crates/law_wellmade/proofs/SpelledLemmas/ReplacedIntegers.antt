-- Where inlined calls are replaced, integers are still of 32 bits.
use Rattle.std.proofs.Common.{ℕ, ◌+◌, Bool, true, false, if◌then◌else◌, List, [], ◌∷◌, ◌++◌, map}
use Rattle.std.specs.Prelude.{⊤, Option, None, Some, option_map}
use Rattle.std.specs.Str.{bytes_eq}
use Rattle.hp_base.specs.declared.span.Span.{Span}
use Rattle.hp_tree.specs.declared.block.Trans.{Trans}
use Rattle.hp_tree.specs.declared.program.Item.{Item}
use Rattle.hp_tree.specs.declared.program.Item.TheVariants.{TypeItem, NodeItem}
use Rattle.hp_tree.specs.Expressions.{Expr, constant, variable, last_of, one, two, choose, pre, fby, arrow, when_is, merge, call, Exprs, no_expr, more_exprs, Parts, no_part, more_parts}
use Rattle.hp_tree.specs.Blocks.{Decl, Block, block, Eqns, no_eqn, more_eqns, Eqn, define, switch, reset, automaton, Arms, no_arm, more_arms, States, no_state, more_states, eqns_of, list_of_eqns}
use Rattle.hp_tree.specs.Programs.{Contract, Node}
use Rattle.law_judged.specs.Named.Scoped.{EachNode}
use Rattle.hp_expand.specs.NewNames.{marked}
use Rattle.hp_expand.specs.Renaming.{renamed, renamed_exprs, renamed_parts, renamed_decls, renamed_transition, renamed_block, renamed_eqns, renamed_eqn, renamed_arms, renamed_states}
use Rattle.hp_expand.specs.Replacing.{Replaced, beside, given, locals_of, equations_of, inlined_call, output_at, defined_by, in_expr, in_exprs, in_parts, in_definition, in_block, in_eqns, in_eqn, in_arms, in_states, in_condition, in_contract, in_node}
use Rattle.hp_expand.specs.Numbering as number
use Rattle.hp_expand.specs.Numbering.{declaring, new_in_decls, new_in_block, new_in_eqns, new_in_eqn, declaring_in, behind, numbered, replaced_node, with_node, replaced_items, no_node, replaced}
use Rattle.law_wellmade.specs.Spelled.Integers.{ExprShort, ExprsShort, PartsShort, LastsShort, TestsShort, BlockShort, EqnsShort, EqnShort, ArmsShort, StatesShort, ConditionShort, ContractShort, InputsShort, NodeShort}

-- ---- lists

abbrev Rows : List Eqn → Type 0
Rows [] = ⊤
Rows (e ∷ es) = EqnShort e × Rows es

both_lasts : (ds es : List Decl) → LastsShort ds → LastsShort es → LastsShort (ds ++ es)
both_lasts [] es h k = k
both_lasts (d ∷ ds) es h k = (h.0, both_lasts ds es h.1 k)

to_rows : (es : Eqns) → EqnsShort es → Rows (list_of_eqns es)
to_rows no_eqn h = tt
to_rows (more_eqns e es) h = (h.0, to_rows es h.1)

of_rows : (es : List Eqn) → Rows es → EqnsShort (eqns_of es)
of_rows [] h = tt
of_rows (e ∷ es) h = (h.0, of_rows es h.1)

both_rows : (es fs : List Eqn) → Rows es → Rows fs → Rows (es ++ fs)
both_rows [] fs h k = k
both_rows (e ∷ es) fs h k = (h.0, both_rows es fs h.1 k)

-- ---- under other names

module _ (to : List ℕ → List ℕ) where
  lasts_renamed : (ds : List Decl) → LastsShort ds → LastsShort (renamed_decls to ds)
  lasts_renamed [] h = tt
  lasts_renamed (d ∷ ds) h = (h.0, lasts_renamed ds h.1)

  mutual
    expr_renamed : (e : Expr) → ExprShort e → ExprShort (renamed to e)
    expr_renamed (constant a c) h = h
    expr_renamed (variable a x) h = tt
    expr_renamed (last_of a x) h = tt
    expr_renamed (one a o d) h = expr_renamed d h
    expr_renamed (two a o d e) h = (expr_renamed d h.0, expr_renamed e h.1)
    expr_renamed (choose a d e f) h = (expr_renamed d h.0, (expr_renamed e h.1.0, expr_renamed f h.1.1))
    expr_renamed (pre a d) h = expr_renamed d h
    expr_renamed (fby a d e) h = (expr_renamed d h.0, expr_renamed e h.1)
    expr_renamed (arrow a d e) h = (expr_renamed d h.0, expr_renamed e h.1)
    expr_renamed (when_is a d c x) h = expr_renamed d h
    expr_renamed (merge a x ps) h = parts_renamed ps h
    expr_renamed (call a f i es) h = exprs_renamed es h

    exprs_renamed : (es : Exprs) → ExprsShort es → ExprsShort (renamed_exprs to es)
    exprs_renamed no_expr h = tt
    exprs_renamed (more_exprs e es) h = (expr_renamed e h.0, exprs_renamed es h.1)

    parts_renamed : (ps : Parts) → PartsShort ps → PartsShort (renamed_parts to ps)
    parts_renamed no_part h = tt
    parts_renamed (more_parts c e ps) h = (expr_renamed e h.0, parts_renamed ps h.1)

  tests_renamed : (ts : List Trans) → TestsShort ts → TestsShort (map (renamed_transition to) ts)
  tests_renamed [] h = tt
  tests_renamed (t ∷ ts) h = (expr_renamed t.cond h.0, tests_renamed ts h.1)

  mutual
    block_renamed : (b : Block) → BlockShort b → BlockShort (renamed_block to b)
    block_renamed (block ds es) h = (lasts_renamed ds h.0, eqns_renamed es h.1)

    eqns_renamed : (es : Eqns) → EqnsShort es → EqnsShort (renamed_eqns to es)
    eqns_renamed no_eqn h = tt
    eqns_renamed (more_eqns e es) h = (eqn_renamed e h.0, eqns_renamed es h.1)

    eqn_renamed : (e : Eqn) → EqnShort e → EqnShort (renamed_eqn to e)
    eqn_renamed (define s ys e) h = expr_renamed e h
    eqn_renamed (switch s e arms) h = (expr_renamed e h.0, arms_renamed arms h.1)
    eqn_renamed (reset s b e) h = (expr_renamed e h.0, block_renamed b h.1)
    eqn_renamed (automaton s ss) h = states_renamed ss h

    arms_renamed : (arms : Arms) → ArmsShort arms → ArmsShort (renamed_arms to arms)
    arms_renamed no_arm h = tt
    arms_renamed (more_arms c b s arms) h = (block_renamed b h.0, arms_renamed arms h.1)

    states_renamed : (ss : States) → StatesShort ss → StatesShort (renamed_states to ss)
    states_renamed no_state h = tt
    states_renamed (more_states f b until unless s ss) h = ((block_renamed b h.0.0, (tests_renamed until h.0.1.0, tests_renamed unless h.0.1.1)), states_renamed ss h.1)

-- ---- where new variables get their numbers

mutual
  block_numbered : (to : List ℕ → List ℕ) (k : ℕ) (b : Block) → BlockShort b → BlockShort (number.in_block to k b)
  block_numbered to k (block ds es) h = (lasts_renamed (declaring to k ds) ds h.0, eqns_numbered (declaring to k ds) (k + new_in_decls ds) es h.1)

  eqns_numbered : (to : List ℕ → List ℕ) (k : ℕ) (es : Eqns) → EqnsShort es → EqnsShort (number.in_eqns to k es)
  eqns_numbered to k no_eqn h = tt
  eqns_numbered to k (more_eqns e es) h = (eqn_numbered to k e h.0, eqns_numbered to (k + new_in_eqn e) es h.1)

  eqn_numbered : (to : List ℕ → List ℕ) (k : ℕ) (e : Eqn) → EqnShort e → EqnShort (number.in_eqn to k e)
  eqn_numbered to k (define s ys e) h = expr_renamed to e h
  eqn_numbered to k (switch s e arms) h = (expr_renamed to e h.0, arms_numbered to k arms h.1)
  eqn_numbered to k (reset s b e) h = (expr_renamed to e h.0, block_numbered to k b h.1)
  eqn_numbered to k (automaton s ss) h = states_numbered to k ss h

  arms_numbered : (to : List ℕ → List ℕ) (k : ℕ) (arms : Arms) → ArmsShort arms → ArmsShort (number.in_arms to k arms)
  arms_numbered to k no_arm h = tt
  arms_numbered to k (more_arms c b s arms) h = (block_numbered to k b h.0, arms_numbered to (k + new_in_block b) arms h.1)

  states_numbered : (to : List ℕ → List ℕ) (k : ℕ) (ss : States) → StatesShort ss → StatesShort (number.in_states to k ss)
  states_numbered to k no_state h = tt
  states_numbered to k (more_states f (block ds es) until unless s ss) h = (
    (
      (lasts_renamed (declaring to k ds) ds h.0.0.0, eqns_numbered (declaring to k ds) (k + new_in_decls ds) es h.0.0.1),
      (tests_renamed (declaring to k ds) until h.0.1.0, tests_renamed to unless h.0.1.1),
    ),
    states_numbered to (k + (new_in_decls ds + new_in_eqns es)) ss h.1,
  )

-- in a contract

condition_renamed : (to : List ℕ → List ℕ) (o : Option Expr) → ConditionShort o → ConditionShort (option_map (renamed to) o)
condition_renamed to None h = tt
condition_renamed to (Some e) h = expr_renamed to e h

contract_numbered : (o : Option Contract) → ContractShort o → ContractShort (option_map number.in_contract o)
contract_numbered None h = tt
contract_numbered (Some c) h =
    let to = declaring_in c.body in
    (block_numbered number.same_name 1 c.body h.0, (condition_renamed to c.assume h.1.0, condition_renamed to c.enforce h.1.1))

-- ---- replacing

-- the new locals, the equations before a part, and the part
abbrev Held : {A : Type 0} → (A → Type 0) → Replaced A → Type 0
Held P r = LastsShort r.locals × (Rows r.before × P r.part)

module _ {A B C : Type 0} (P : A → Type 0) (Q : B → Type 0) (R : C → Type 0) where
  both_held : (f : A → B → C) → ((x : A) (y : B) → P x → Q y → R (f x y)) → (a : Replaced A) (b : Replaced B) → Held P a → Held Q b → Held R (beside f a b)
  both_held f j a b h k = (both_lasts a.locals b.locals h.0 k.0, (both_rows a.before b.before h.1.0 k.1.0, j a.part b.part h.1.1 k.1.1))

given_short : (ds : List Decl) (es : Exprs) → ExprsShort es → Rows (given ds es)
given_short [] es h = tt
given_short (d ∷ ds) no_expr h = tt
given_short (d ∷ ds) (more_exprs e es) h = (h.0, given_short ds es h.1)

defined_short : (s : Span) (xs : List (List ℕ × Span)) (at : Span) (ys : List (List ℕ)) → Rows (defined_by s xs at ys)
defined_short s [] at ys = tt
defined_short s (x ∷ xs) at [] = tt
defined_short s (x ∷ xs) at (y ∷ ys) = (tt, defined_short s xs at ys)

output_short : (at : Span) (ys : List (List ℕ)) → ExprShort (output_at at ys)
output_short at [] = tt
output_short at (y ∷ ys) = tt

locals_short : (b : Block) → BlockShort b → LastsShort (locals_of b)
locals_short (block ds es) h = h.0

equations_short : (b : Block) → BlockShort b → EqnsShort (equations_of b)
equations_short (block ds es) h = h.1

abbrev CalledShort : Node → Type 0
CalledShort n = InputsShort n × NodeShort n

module _ (nodes : List ℕ → Node) (short : (f : List ℕ) → CalledShort (nodes f)) where
  abbrev called : List ℕ → Replaced Exprs → Replaced (List (List ℕ))
  called f args = inlined_call (nodes f) args

  call_held : (f : List ℕ) (args : Replaced Exprs) → Held ExprsShort args → LastsShort (called f args).locals × Rows (called f args).before
  call_held f args h =
      let to = marked args.next in
      let n = nodes f in
      let s = short f in
      let told = given (renamed_decls to n.inputs) args.part in
      let made = renamed_eqns to (equations_of n.body) in (
        both_lasts args.locals (renamed_decls to (n.inputs ++ (n.outputs ++ locals_of n.body))) h.0
            (lasts_renamed to (n.inputs ++ (n.outputs ++ locals_of n.body))
            (both_lasts n.inputs (n.outputs ++ locals_of n.body) s.0 (both_lasts n.outputs (locals_of n.body) s.1.0 (locals_short n.body s.1.1)))),
        both_rows args.before (told ++ list_of_eqns made) h.1.0
            (both_rows told (list_of_eqns made) (given_short (renamed_decls to n.inputs) args.part h.1.1) (to_rows made (eqns_renamed to (equations_of n.body) (equations_short n.body s.1.1)))),
      )

  abbrev PairShort : Expr × Expr → Type 0
  PairShort p = ExprShort p.0 × ExprShort p.1

  mutual
    expr_held : (k : ℕ) (e : Expr) → ExprShort e → Held ExprShort (in_expr nodes k e)
    expr_held k (constant at c) h = (tt, (tt, h))
    expr_held k (variable at x) h = (tt, (tt, tt))
    expr_held k (last_of at x) h = (tt, (tt, tt))
    expr_held k (one at o a) h = expr_held k a h
    expr_held k (two at o a b) h =
        let x = in_expr nodes k a in
        both_held ExprShort ExprShort ExprShort (two at o) (λ p q s t. (s, t)) x (in_expr nodes x.next b) (expr_held k a h.0) (expr_held x.next b h.1)
    expr_held k (choose at a b c) h =
        let x = in_expr nodes k a in
        let y = in_expr nodes x.next b in
        let z = in_expr nodes y.next c in
        both_held ExprShort PairShort ExprShort (λ (p : Expr) (q : Expr × Expr). choose at p q.0 q.1) (λ p q s t. (s, t)) x (beside (λ (p q : Expr). (p, q)) y z) (expr_held k a h.0)
        (both_held ExprShort ExprShort PairShort (λ (p q : Expr). (p, q)) (λ p q s t. (s, t)) y z (expr_held x.next b h.1.0) (expr_held y.next c h.1.1))
    expr_held k (pre at a) h = expr_held k a h
    expr_held k (fby at a b) h =
        let x = in_expr nodes k a in
        both_held ExprShort ExprShort ExprShort (fby at) (λ p q s t. (s, t)) x (in_expr nodes x.next b) (expr_held k a h.0) (expr_held x.next b h.1)
    expr_held k (arrow at a b) h =
        let x = in_expr nodes k a in
        both_held ExprShort ExprShort ExprShort (arrow at) (λ p q s t. (s, t)) x (in_expr nodes x.next b) (expr_held k a h.0) (expr_held x.next b h.1)
    expr_held k (when_is at a c x) h = expr_held k a h
    expr_held k (merge at x ps) h = parts_held k ps h
    expr_held k (call at f false es) h = exprs_held k es h
    expr_held k (call at f true es) h =
        let args = in_exprs nodes k es in
        let c = call_held f args (exprs_held k es h) in
        (c.0, (c.1, output_short at (called f args).part))

    exprs_held : (k : ℕ) (es : Exprs) → ExprsShort es → Held ExprsShort (in_exprs nodes k es)
    exprs_held k no_expr h = (tt, (tt, tt))
    exprs_held k (more_exprs e es) h =
        let x = in_expr nodes k e in
        both_held ExprShort ExprsShort ExprsShort more_exprs (λ p q s t. (s, t)) x (in_exprs nodes x.next es) (expr_held k e h.0) (exprs_held x.next es h.1)

    parts_held : (k : ℕ) (ps : Parts) → PartsShort ps → Held PartsShort (in_parts nodes k ps)
    parts_held k no_part h = (tt, (tt, tt))
    parts_held k (more_parts c e ps) h =
        let x = in_expr nodes k e in
        both_held ExprShort PartsShort PartsShort (more_parts c) (λ p q s t. (s, t)) x (in_parts nodes x.next ps) (expr_held k e h.0) (parts_held x.next ps h.1)

  -- an equation whose right side is no inlined call
  one_row : (s : Span) (xs : List (List ℕ × Span)) (k : ℕ) (e : Expr) → ExprShort e
      → LastsShort (in_expr nodes k e).locals × (Rows (in_expr nodes k e).before × Rows (define s xs (in_expr nodes k e).part ∷ []))
  one_row s xs k e h = let x = expr_held k e h in (x.0, (x.1.0, (x.1.1, tt)))

  definition_held : (k : ℕ) (s : Span) (xs : List (List ℕ × Span)) (e : Expr) → ExprShort e → Held Rows (in_definition nodes k s xs e)
  definition_held k s xs (constant at c) h = one_row s xs k (constant at c) h
  definition_held k s xs (variable at x) h = one_row s xs k (variable at x) h
  definition_held k s xs (last_of at x) h = one_row s xs k (last_of at x) h
  definition_held k s xs (one at o a) h = one_row s xs k (one at o a) h
  definition_held k s xs (two at o a b) h = one_row s xs k (two at o a b) h
  definition_held k s xs (choose at a b c) h = one_row s xs k (choose at a b c) h
  definition_held k s xs (pre at a) h = one_row s xs k (pre at a) h
  definition_held k s xs (fby at a b) h = one_row s xs k (fby at a b) h
  definition_held k s xs (arrow at a b) h = one_row s xs k (arrow at a b) h
  definition_held k s xs (when_is at a c x) h = one_row s xs k (when_is at a c x) h
  definition_held k s xs (merge at x ps) h = one_row s xs k (merge at x ps) h
  definition_held k s xs (call at f false es) h = one_row s xs k (call at f false es) h
  definition_held k s xs (call at f true es) h =
      let args = in_exprs nodes k es in
      let c = call_held f args (exprs_held k es h) in
      (c.0, (c.1, defined_short s xs at (called f args).part))

  mutual
    block_replaced : (k : ℕ) (b : Block) → BlockShort b → BlockShort (in_block nodes k b).part
    block_replaced k (block ds es) h = let r = eqns_replaced k es h.1 in (both_lasts ds (in_eqns nodes k es).locals h.0 r.0, r.1)

    eqns_replaced : (k : ℕ) (es : Eqns) → EqnsShort es → LastsShort (in_eqns nodes k es).locals × EqnsShort (in_eqns nodes k es).part
    eqns_replaced k no_eqn h = (tt, tt)
    eqns_replaced k (more_eqns e es) h =
        let here = in_eqn nodes k e in
        let rest = in_eqns nodes here.next es in
        let q = eqn_replaced k e h.0 in
        let r = eqns_replaced here.next es h.1 in (
          both_lasts here.locals rest.locals q.0 r.0,
          of_rows (here.before ++ (here.part ++ list_of_eqns rest.part))
              (both_rows here.before (here.part ++ list_of_eqns rest.part) q.1.0 (both_rows here.part (list_of_eqns rest.part) q.1.1 (to_rows rest.part r.1))),
        )

    eqn_replaced : (k : ℕ) (e : Eqn) → EqnShort e → Held Rows (in_eqn nodes k e)
    eqn_replaced k (define s ys e) h = definition_held k s ys e h
    eqn_replaced k (switch s e arms) h = let x = expr_held k e h.0 in (x.0, (x.1.0, ((x.1.1, arms_replaced (in_expr nodes k e).next arms h.1), tt)))
    eqn_replaced k (reset s b e) h = let x = expr_held k e h.0 in (x.0, (x.1.0, ((x.1.1, block_replaced (in_expr nodes k e).next b h.1), tt)))
    eqn_replaced k (automaton s ss) h = (tt, (tt, (states_replaced k ss h, tt)))

    arms_replaced : (k : ℕ) (arms : Arms) → ArmsShort arms → ArmsShort (in_arms nodes k arms).part
    arms_replaced k no_arm h = tt
    arms_replaced k (more_arms c b s arms) h = (block_replaced k b h.0, arms_replaced (in_block nodes k b).next arms h.1)

    states_replaced : (k : ℕ) (ss : States) → StatesShort ss → StatesShort (in_states nodes k ss).part
    states_replaced k no_state h = tt
    states_replaced k (more_states f b until unless s ss) h = ((block_replaced k b h.0.0, h.0.1), states_replaced (in_block nodes k b).next ss h.1)

  -- what the conditions of a contract are made of, stands at the end of its equations
  condition_held : (k : ℕ) (o : Option Expr) → ConditionShort o → Held ConditionShort (in_condition nodes k o)
  condition_held k None h = (tt, (tt, tt))
  condition_held k (Some e) h = expr_held k e h

  contract_replaced : (o : Option Contract) → ContractShort o → ContractShort (in_contract nodes 1 o).part
  contract_replaced None h = tt
  contract_replaced (Some c) h =
      let es = in_eqns nodes 1 (equations_of c.body) in
      let assume = in_condition nodes es.next c.assume in
      let enforce = in_condition nodes assume.next c.enforce in
      let q = eqns_replaced 1 (equations_of c.body) (equations_short c.body h.0) in
      let a = condition_held es.next c.assume h.1.0 in
      let e = condition_held assume.next c.enforce h.1.1 in (
        (
          both_lasts (locals_of c.body) (es.locals ++ (assume.locals ++ enforce.locals)) (locals_short c.body h.0)
              (both_lasts es.locals (assume.locals ++ enforce.locals) q.0 (both_lasts assume.locals enforce.locals a.0 e.0)),
          of_rows (list_of_eqns es.part ++ (assume.before ++ enforce.before))
              (both_rows (list_of_eqns es.part) (assume.before ++ enforce.before) (to_rows es.part q.1) (both_rows assume.before enforce.before a.1.0 e.1.0)),
        ),
        (a.1.1, e.1.1),
      )

  contract_short : (n : Node) → ContractShort n.contract → ContractShort (replaced_node nodes n).contract
  contract_short n h = contract_numbered (in_contract nodes 1 n.contract).part (contract_replaced n.contract h)

  node_short : (n : Node) → NodeShort n → NodeShort (replaced_node nodes n)
  node_short n h =
      let m = in_node nodes n in
      (h.0, block_numbered number.same_name (behind m.contract) m.body (block_replaced (in_contract nodes 1 n.contract).next n.body h.1))

-- ---- programs

with_short : (nodes : List ℕ → Node) → ((f : List ℕ) → CalledShort (nodes f)) → (n : Node) → CalledShort n → (f : List ℕ) → CalledShort (with_node nodes n f)
with_short nodes h n o f = by (bytes_eq n.name f)
  where
    by : (b : Bool) → CalledShort (if b then n else nodes f)
    by true = o
    by false = h f

items_short : (nodes : List ℕ → Node) → ((f : List ℕ) → CalledShort (nodes f)) → (items : List Item) → EachNode InputsShort items → EachNode NodeShort items
    → EachNode NodeShort (replaced_items nodes items)
items_short nodes h [] i s = tt
items_short nodes h (TypeItem t ∷ items) i s = items_short nodes h items i s
items_short nodes h (NodeItem n ∷ items) i s =
    let m = replaced_node nodes n in
    let alone = node_short nodes h n s.0 in
    (alone, items_short (with_node nodes m) (with_short nodes h m (i.0, alone)) items i.1 s.1)

contracts_short : (nodes : List ℕ → Node) → ((f : List ℕ) → CalledShort (nodes f)) → (items : List Item) → EachNode InputsShort items → EachNode NodeShort items → EachNode (λ (n : Node). ContractShort n.contract) items
    → EachNode (λ (n : Node). ContractShort n.contract) (replaced_items nodes items)
contracts_short nodes h [] i s c = tt
contracts_short nodes h (TypeItem t ∷ items) i s c = contracts_short nodes h items i s c
contracts_short nodes h (NodeItem n ∷ items) i s c =
    let m = replaced_node nodes n in
    (contract_short nodes h n c.0, contracts_short (with_node nodes m) (with_short nodes h m (i.0, node_short nodes h n s.0)) items i.1 s.1 c.1)

pub program_contracts_short : (program : List Item) → EachNode InputsShort program → EachNode NodeShort program → EachNode (λ (n : Node). ContractShort n.contract) program → EachNode (λ (n : Node). ContractShort n.contract) (replaced program)
program_contracts_short program i s c = contracts_short no_node (λ f. (tt, (tt, (tt, tt)))) program i s c

pub program_short : (program : List Item) → EachNode InputsShort program → EachNode NodeShort program → EachNode NodeShort (replaced program)
program_short program i s = items_short no_node (λ f. (tt, (tt, (tt, tt)))) program i s
