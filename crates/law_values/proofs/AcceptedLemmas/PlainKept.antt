-- Where inlined calls are replaced, automata still have a state and conditions of transitions are plain.
use Rattle.std.proofs.Common.{◌≡◌, ℕ, List, [], ◌∷◌, ◌++◌, map}
use Rattle.std.specs.Prelude.{⊤, Bool, true, false, suc, ◌+◌, Option, None, Some, if◌then◌else◌, option_map}
use Rattle.std.specs.Str.{bytes_eq}
use Rattle.hp_base.specs.declared.span.Span.{Span}
use Rattle.hp_tree.specs.declared.block.Trans.{Trans}
use Rattle.hp_tree.specs.declared.program.Item.{Item}
use Rattle.hp_tree.specs.declared.program.Item.TheVariants.{TypeItem, NodeItem}
use Rattle.hp_tree.specs.Expressions.{Expr, constant, variable, last_of, one, two, choose, pre, fby, arrow, when_is, merge, call, Exprs, no_expr, more_exprs, Parts, no_part, more_parts}
use Rattle.hp_tree.specs.Blocks.{Decl, Block, block, Eqns, no_eqn, more_eqns, Eqn, define, switch, reset, automaton, Arms, no_arm, more_arms, States, no_state, more_states, eqns_of, list_of_eqns}
use Rattle.hp_tree.specs.Programs.{Contract, Node}
use Rattle.law_judged.specs.Named.Scoped.{EachNode}
use Rattle.hp_expand.specs.Renaming.{renamed, renamed_decls, renamed_transition, renamed_block, renamed_eqns, renamed_eqn, renamed_arms, renamed_states}
use Rattle.hp_expand.specs.NewNames.{marked}
use Rattle.hp_expand.specs.Replacing.{given, locals_of, equations_of, inlined_call, defined_by, in_expr, in_exprs, in_parts, in_definition, in_block, in_eqns, in_eqn, in_arms, in_states, in_condition, in_contract, in_node}
use Rattle.hp_expand.specs.Numbering as numbering
use Rattle.hp_expand.specs.Numbering.{declaring, new_in_decls, new_in_block, new_in_eqns, new_in_eqn, same_name, behind, numbered, replaced_node, with_node, replaced_items, no_node}
use Rattle.law_values.specs.Valued.Judged.{PlainExpr, PlainTests, HasState, IsPlain, AllPlain, OnePlain, ArmsPlain, StatesPlain, PlainContract}
use Rattle.law_values.specs.Accepted.Written.{NodePlain}

-- ---- equations in a list

abbrev PlainList : List Eqn → Type 0
PlainList [] = ⊤
PlainList (e ∷ es) = OnePlain e × PlainList es

list_plain : (es : Eqns) → AllPlain es → PlainList (list_of_eqns es)
list_plain no_eqn h = tt
list_plain (more_eqns e es) h = (h.0, list_plain es h.1)

row_plain : (es : List Eqn) → PlainList es → AllPlain (eqns_of es)
row_plain [] h = tt
row_plain (e ∷ es) h = (h.0, row_plain es h.1)

both_plain : (es fs : List Eqn) → PlainList es → PlainList fs → PlainList (es ++ fs)
both_plain [] fs h k = k
both_plain (e ∷ es) fs h k = (h.0, both_plain es fs h.1 k)

given_plain : (ds : List Decl) (es : Exprs) → PlainList (given ds es)
given_plain [] es = tt
given_plain (d ∷ ds) no_expr = tt
given_plain (d ∷ ds) (more_exprs e es) = (tt, given_plain ds es)

defined_plain : (s : Span) (xs : List (List ℕ × Span)) (at : Span) (ys : List (List ℕ)) → PlainList (defined_by s xs at ys)
defined_plain s [] at ys = tt
defined_plain s (x ∷ xs) at [] = tt
defined_plain s (x ∷ xs) at (y ∷ ys) = (tt, defined_plain s xs at ys)

-- ---- renaming

module _ (to : List ℕ → List ℕ) where
  expr_renamed : (e : Expr) → PlainExpr e → PlainExpr (renamed to e)
  expr_renamed (constant at c) h = tt
  expr_renamed (variable at x) h = tt
  expr_renamed (last_of at x) h = tt
  expr_renamed (one at o a) h = expr_renamed a h
  expr_renamed (two at o a b) h = (expr_renamed a h.0, expr_renamed b h.1)
  expr_renamed (choose at a b c) h = (expr_renamed a h.0, (expr_renamed b h.1.0, expr_renamed c h.1.1))
  expr_renamed (pre at a) h = absurd h
  expr_renamed (fby at a b) h = absurd h
  expr_renamed (arrow at a b) h = absurd h
  expr_renamed (when_is at a c x) h = absurd h
  expr_renamed (merge at x ps) h = absurd h
  expr_renamed (call at f i es) h = absurd h

  tests_renamed : (ts : List Trans) → PlainTests ts → PlainTests (map (renamed_transition to) ts)
  tests_renamed [] h = tt
  tests_renamed (t ∷ ts) h = (expr_renamed t.cond h.0, tests_renamed ts h.1)

  state_renamed : (ss : States) → HasState ss → HasState (renamed_states to ss)
  state_renamed no_state h = absurd h
  state_renamed (more_states f b until unless s ss) h = tt

  mutual
    block_renamed : (b : Block) → IsPlain b → IsPlain (renamed_block to b)
    block_renamed (block ds es) h = eqns_renamed es h

    eqns_renamed : (es : Eqns) → AllPlain es → AllPlain (renamed_eqns to es)
    eqns_renamed no_eqn h = tt
    eqns_renamed (more_eqns e es) h = (eqn_renamed e h.0, eqns_renamed es h.1)

    eqn_renamed : (e : Eqn) → OnePlain e → OnePlain (renamed_eqn to e)
    eqn_renamed (define s ys e) h = tt
    eqn_renamed (switch s e arms) h = arms_renamed arms h
    eqn_renamed (reset s b e) h = block_renamed b h
    eqn_renamed (automaton s ss) h = (state_renamed ss h.0, states_renamed ss h.1)

    arms_renamed : (arms : Arms) → ArmsPlain arms → ArmsPlain (renamed_arms to arms)
    arms_renamed no_arm h = tt
    arms_renamed (more_arms c b s arms) h = (block_renamed b h.0, arms_renamed arms h.1)

    states_renamed : (ss : States) → StatesPlain ss → StatesPlain (renamed_states to ss)
    states_renamed no_state h = tt
    states_renamed (more_states f b until unless s ss) h = (block_renamed b h.0, (tests_renamed until h.1.0, states_renamed ss h.1.1))

-- ---- numbering

state_numbered : (to : List ℕ → List ℕ) (k : ℕ) (ss : States) → HasState ss → HasState (numbering.in_states to k ss)
state_numbered to k no_state h = absurd h
state_numbered to k (more_states f (block ds es) until unless s ss) h = tt

mutual
  block_numbered : (to : List ℕ → List ℕ) (k : ℕ) (b : Block) → IsPlain b → IsPlain (numbering.in_block to k b)
  block_numbered to k (block ds es) h = eqns_numbered (declaring to k ds) (k + new_in_decls ds) es h

  eqns_numbered : (to : List ℕ → List ℕ) (k : ℕ) (es : Eqns) → AllPlain es → AllPlain (numbering.in_eqns to k es)
  eqns_numbered to k no_eqn h = tt
  eqns_numbered to k (more_eqns e es) h = (eqn_numbered to k e h.0, eqns_numbered to (k + new_in_eqn e) es h.1)

  eqn_numbered : (to : List ℕ → List ℕ) (k : ℕ) (e : Eqn) → OnePlain e → OnePlain (numbering.in_eqn to k e)
  eqn_numbered to k (define s ys e) h = tt
  eqn_numbered to k (switch s e arms) h = arms_numbered to k arms h
  eqn_numbered to k (reset s b e) h = block_numbered to k b h
  eqn_numbered to k (automaton s ss) h = (state_numbered to k ss h.0, states_numbered to k ss h.1)

  arms_numbered : (to : List ℕ → List ℕ) (k : ℕ) (arms : Arms) → ArmsPlain arms → ArmsPlain (numbering.in_arms to k arms)
  arms_numbered to k no_arm h = tt
  arms_numbered to k (more_arms c b s arms) h = (block_numbered to k b h.0, arms_numbered to (k + new_in_block b) arms h.1)

  states_numbered : (to : List ℕ → List ℕ) (k : ℕ) (ss : States) → StatesPlain ss → StatesPlain (numbering.in_states to k ss)
  states_numbered to k no_state h = tt
  states_numbered to k (more_states f (block ds es) until unless s ss) h =
      (eqns_numbered (declaring to k ds) (k + new_in_decls ds) es h.0, (tests_renamed (declaring to k ds) until h.1.0, states_numbered to (k + (new_in_decls ds + new_in_eqns es)) ss h.1.1))

-- ---- replacing

equations_plain : (b : Block) → IsPlain b → AllPlain (equations_of b)
equations_plain (block ds es) h = h

module _ (nodes : List ℕ → Node) (bodies : (f : List ℕ) → IsPlain (nodes f).body) where
  call_before : (f : List ℕ) (k : ℕ) (es : Exprs) → PlainList (in_exprs nodes k es).before → PlainList (inlined_call (nodes f) (in_exprs nodes k es)).before
  call_before f k es h =
      let args = in_exprs nodes k es in
      let to = marked args.next in
      let n = nodes f in
      both_plain args.before (given (renamed_decls to n.inputs) args.part ++ list_of_eqns (renamed_eqns to (equations_of n.body))) h
      (both_plain (given (renamed_decls to n.inputs) args.part) (list_of_eqns (renamed_eqns to (equations_of n.body))) (given_plain (renamed_decls to n.inputs) args.part)
      (list_plain (renamed_eqns to (equations_of n.body)) (eqns_renamed to (equations_of n.body) (equations_plain n.body (bodies f)))))

  mutual
    expr_before : (k : ℕ) (e : Expr) → PlainList (in_expr nodes k e).before
    expr_before k (constant at c) = tt
    expr_before k (variable at x) = tt
    expr_before k (last_of at x) = tt
    expr_before k (one at o a) = expr_before k a
    expr_before k (two at o a b) = both_plain (in_expr nodes k a).before (in_expr nodes (in_expr nodes k a).next b).before (expr_before k a) (expr_before (in_expr nodes k a).next b)
    expr_before k (choose at a b c) =
        let j = (in_expr nodes k a).next in
        let i = (in_expr nodes j b).next in
        both_plain (in_expr nodes k a).before ((in_expr nodes j b).before ++ (in_expr nodes i c).before) (expr_before k a)
        (both_plain (in_expr nodes j b).before (in_expr nodes i c).before (expr_before j b) (expr_before i c))
    expr_before k (pre at a) = expr_before k a
    expr_before k (fby at a b) = both_plain (in_expr nodes k a).before (in_expr nodes (in_expr nodes k a).next b).before (expr_before k a) (expr_before (in_expr nodes k a).next b)
    expr_before k (arrow at a b) = both_plain (in_expr nodes k a).before (in_expr nodes (in_expr nodes k a).next b).before (expr_before k a) (expr_before (in_expr nodes k a).next b)
    expr_before k (when_is at a c x) = expr_before k a
    expr_before k (merge at x ps) = parts_before k ps
    expr_before k (call at f false es) = exprs_before k es
    expr_before k (call at f true es) = call_before f k es (exprs_before k es)

    exprs_before : (k : ℕ) (es : Exprs) → PlainList (in_exprs nodes k es).before
    exprs_before k no_expr = tt
    exprs_before k (more_exprs e es) = both_plain (in_expr nodes k e).before (in_exprs nodes (in_expr nodes k e).next es).before (expr_before k e) (exprs_before (in_expr nodes k e).next es)

    parts_before : (k : ℕ) (ps : Parts) → PlainList (in_parts nodes k ps).before
    parts_before k no_part = tt
    parts_before k (more_parts c e ps) = both_plain (in_expr nodes k e).before (in_parts nodes (in_expr nodes k e).next ps).before (expr_before k e) (parts_before (in_expr nodes k e).next ps)

  abbrev Both : ℕ → Span → List (List ℕ × Span) → Expr → Type 0
  Both k s xs e = PlainList (in_definition nodes k s xs e).before × PlainList (in_definition nodes k s xs e).part

  definition_plain : (k : ℕ) (s : Span) (xs : List (List ℕ × Span)) (e : Expr) → Both k s xs e
  definition_plain k s xs (constant at c) = (tt, (tt, tt))
  definition_plain k s xs (variable at x) = (tt, (tt, tt))
  definition_plain k s xs (last_of at x) = (tt, (tt, tt))
  definition_plain k s xs (one at o a) = (expr_before k (one at o a), (tt, tt))
  definition_plain k s xs (two at o a b) = (expr_before k (two at o a b), (tt, tt))
  definition_plain k s xs (choose at a b c) = (expr_before k (choose at a b c), (tt, tt))
  definition_plain k s xs (pre at a) = (expr_before k (pre at a), (tt, tt))
  definition_plain k s xs (fby at a b) = (expr_before k (fby at a b), (tt, tt))
  definition_plain k s xs (arrow at a b) = (expr_before k (arrow at a b), (tt, tt))
  definition_plain k s xs (when_is at a c x) = (expr_before k (when_is at a c x), (tt, tt))
  definition_plain k s xs (merge at x ps) = (expr_before k (merge at x ps), (tt, tt))
  definition_plain k s xs (call at f false es) = (expr_before k (call at f false es), (tt, tt))
  definition_plain k s xs (call at f true es) = (call_before f k es (exprs_before k es), defined_plain s xs at (inlined_call (nodes f) (in_exprs nodes k es)).part)

  state_replaced : (k : ℕ) (ss : States) → HasState ss → HasState (in_states nodes k ss).part
  state_replaced k no_state h = absurd h
  state_replaced k (more_states f b until unless s ss) h = tt

  mutual
    block_replaced : (k : ℕ) (b : Block) → IsPlain b → IsPlain (in_block nodes k b).part
    block_replaced k (block ds es) h = eqns_replaced k es h

    eqns_replaced : (k : ℕ) (es : Eqns) → AllPlain es → AllPlain (in_eqns nodes k es).part
    eqns_replaced k no_eqn h = tt
    eqns_replaced k (more_eqns e es) h =
        let here = in_eqn nodes k e in
        let rest = (in_eqns nodes here.next es).part in
        let q = eqn_replaced k e h.0 in
        row_plain (here.before ++ (here.part ++ list_of_eqns rest)) (both_plain here.before (here.part ++ list_of_eqns rest) q.0 (both_plain here.part (list_of_eqns rest) q.1 (list_plain rest (eqns_replaced here.next es h.1))))

    eqn_replaced : (k : ℕ) (e : Eqn) → OnePlain e → PlainList (in_eqn nodes k e).before × PlainList (in_eqn nodes k e).part
    eqn_replaced k (define s ys e) h = definition_plain k s ys e
    eqn_replaced k (switch s e arms) h = (expr_before k e, (arms_replaced (in_expr nodes k e).next arms h, tt))
    eqn_replaced k (reset s b e) h = (expr_before k e, (block_replaced (in_expr nodes k e).next b h, tt))
    eqn_replaced k (automaton s ss) h = (tt, ((state_replaced k ss h.0, states_replaced k ss h.1), tt))

    arms_replaced : (k : ℕ) (arms : Arms) → ArmsPlain arms → ArmsPlain (in_arms nodes k arms).part
    arms_replaced k no_arm h = tt
    arms_replaced k (more_arms c b s arms) h = (block_replaced k b h.0, arms_replaced (in_block nodes k b).next arms h.1)

    states_replaced : (k : ℕ) (ss : States) → StatesPlain ss → StatesPlain (in_states nodes k ss).part
    states_replaced k no_state h = tt
    states_replaced k (more_states f b until unless s ss) h = (block_replaced k b h.0, (h.1.0, states_replaced (in_block nodes k b).next ss h.1.1))

  condition_before : (k : ℕ) (o : Option Expr) → PlainList (in_condition nodes k o).before
  condition_before k None = tt
  condition_before k (Some e) = expr_before k e

  contract_replaced : (k : ℕ) (o : Option Contract) → PlainContract o → PlainContract (in_contract nodes k o).part
  contract_replaced k None h = tt
  contract_replaced k (Some c) h =
      let es = in_eqns nodes k (equations_of c.body) in
      let assume = in_condition nodes es.next c.assume in
      let enforce = in_condition nodes assume.next c.enforce in
      row_plain (list_of_eqns es.part ++ (assume.before ++ enforce.before))
      (both_plain (list_of_eqns es.part) (assume.before ++ enforce.before) (list_plain es.part (eqns_replaced k (equations_of c.body) (equations_plain c.body h)))
      (both_plain assume.before enforce.before (condition_before es.next c.assume) (condition_before assume.next c.enforce)))

  contract_numbered : (o : Option Contract) → PlainContract o → PlainContract (option_map numbering.in_contract o)
  contract_numbered None h = tt
  contract_numbered (Some c) h = block_numbered same_name 1 c.body h

  node_plain : (n : Node) → NodePlain n → NodePlain (replaced_node nodes n)
  node_plain n h =
      let m = in_node nodes n in
      (block_numbered same_name (behind m.contract) m.body (block_replaced (in_contract nodes 1 n.contract).next n.body h.0), contract_numbered m.contract (contract_replaced 1 n.contract h.1))

-- ---- programs

with_plain : (nodes : List ℕ → Node) (m : Node) → ((f : List ℕ) → IsPlain (nodes f).body) → IsPlain m.body → (f : List ℕ) → IsPlain (with_node nodes m f).body
with_plain nodes m h k f = by (bytes_eq m.name f)
  where
    by : (b : Bool) → IsPlain (if b then m else nodes f).body
    by true = k
    by false = h f

items_plain : (nodes : List ℕ → Node) → ((f : List ℕ) → IsPlain (nodes f).body) → (items : List Item) → EachNode NodePlain items → EachNode NodePlain (replaced_items nodes items)
items_plain nodes h [] p = tt
items_plain nodes h (TypeItem t ∷ items) p = items_plain nodes h items p
items_plain nodes h (NodeItem n ∷ items) p =
    let q = node_plain nodes h n p.0 in
    (q, items_plain (with_node nodes (replaced_node nodes n)) (with_plain nodes (replaced_node nodes n) h q.0) items p.1)

pub program_plain : (program : List Item) → EachNode NodePlain program → EachNode NodePlain (replaced_items no_node program)
program_plain program p = items_plain no_node (λ f. tt) program p
