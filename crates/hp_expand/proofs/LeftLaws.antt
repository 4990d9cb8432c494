-- No inlined call is left.
use Rattle.std.proofs.Common.{ℕ, ◌+◌, Bool, true, false, if◌then◌else◌, List, [], ◌∷◌, ◌++◌, Option, None, Some, option_map, refl}
use Rattle.hp_base.specs.declared.span.Span.{Span}
use Rattle.hp_tree.specs.declared.program.Item.{Item}
use Rattle.hp_tree.specs.declared.program.Item.TheVariants.{TypeItem, NodeItem}
use Rattle.std.specs.Str.{bytes_eq}
use Rattle.hp_tree.specs.Expressions.{Expr, constant, variable, last_of, one, two, choose, pre, fby, arrow, when_is, merge, call, Exprs, no_expr, more_exprs, Parts, no_part, more_parts}
use Rattle.hp_tree.specs.Blocks.{Decl, Block, block, Eqns, no_eqn, more_eqns, Eqn, define, switch, reset, automaton, Arms, no_arm, more_arms, States, no_state, more_states, eqns_of, list_of_eqns}
use Rattle.hp_tree.specs.Programs.{Contract, Node}
use Rattle.hp_expand.specs.NewNames.{marked}
use Rattle.hp_expand.specs.Renaming.{renamed, renamed_exprs, renamed_parts, renamed_decls, renamed_block, renamed_eqns, renamed_eqn, renamed_arms, renamed_states}
use Rattle.hp_expand.specs.Replacing.{Replaced, given, defined_by, output_at, inlined_call, equations_of, in_expr, in_exprs, in_parts, in_definition, in_condition}
use Rattle.hp_expand.specs.Replacing as new
use Rattle.hp_expand.specs.Numbering.{same_name, declaring, declaring_in, new_in_decls, behind, numbered, replaced_node, with_node, replaced_items, no_node}
use Rattle.hp_expand.specs.Numbering as numbering
use Rattle.hp_expand.specs.Plain.{IsPlain, AllArePlain, PartsArePlain, BlockIsPlain, EqnsArePlain, EqnIsPlain, ArmsArePlain, StatesArePlain, ConditionIsPlain, ContractIsPlain, NodeIsPlain, ItemsArePlain, NoneIsLeft}

-- ---- other names

module _ (to : List ℕ → List ℕ) where
  mutual
    expr_kept : (e : Expr) → IsPlain e → IsPlain (renamed to e)
    expr_kept (constant at c) h = h
    expr_kept (variable at x) h = h
    expr_kept (last_of at x) h = h
    expr_kept (one at op a) h = expr_kept a h
    expr_kept (two at op a b) h = (expr_kept a h.0, expr_kept b h.1)
    expr_kept (choose at a b c) h = (expr_kept a h.0, (expr_kept b h.1.0, expr_kept c h.1.1))
    expr_kept (pre at a) h = expr_kept a h
    expr_kept (fby at a b) h = (expr_kept a h.0, expr_kept b h.1)
    expr_kept (arrow at a b) h = (expr_kept a h.0, expr_kept b h.1)
    expr_kept (when_is at a c x) h = expr_kept a h
    expr_kept (merge at x ps) h = parts_kept ps h
    expr_kept (call at f inlined es) h = (h.0, exprs_kept es h.1)

    exprs_kept : (es : Exprs) → AllArePlain es → AllArePlain (renamed_exprs to es)
    exprs_kept no_expr h = h
    exprs_kept (more_exprs e es) h = (expr_kept e h.0, exprs_kept es h.1)

    parts_kept : (ps : Parts) → PartsArePlain ps → PartsArePlain (renamed_parts to ps)
    parts_kept no_part h = h
    parts_kept (more_parts c e ps) h = (expr_kept e h.0, parts_kept ps h.1)

  mutual
    block_kept : (b : Block) → BlockIsPlain b → BlockIsPlain (renamed_block to b)
    block_kept (block ds es) h = eqns_kept es h

    eqns_kept : (es : Eqns) → EqnsArePlain es → EqnsArePlain (renamed_eqns to es)
    eqns_kept no_eqn h = h
    eqns_kept (more_eqns e es) h = (eqn_kept e h.0, eqns_kept es h.1)

    eqn_kept : (e : Eqn) → EqnIsPlain e → EqnIsPlain (renamed_eqn to e)
    eqn_kept (define s xs e) h = expr_kept e h
    eqn_kept (switch s e arms) h = (expr_kept e h.0, arms_kept arms h.1)
    eqn_kept (reset s b e) h = (block_kept b h.0, expr_kept e h.1)
    eqn_kept (automaton s qs) h = states_kept qs h

    arms_kept : (arms : Arms) → ArmsArePlain arms → ArmsArePlain (renamed_arms to arms)
    arms_kept no_arm h = h
    arms_kept (more_arms c b at arms) h = (block_kept b h.0, arms_kept arms h.1)

    states_kept : (qs : States) → StatesArePlain qs → StatesArePlain (renamed_states to qs)
    states_kept no_state h = h
    states_kept (more_states x b until unless at qs) h = (block_kept b h.0, states_kept qs h.1)

  condition_kept : (o : Option Expr) → ConditionIsPlain o → ConditionIsPlain (option_map (renamed to) o)
  condition_kept None h = h
  condition_kept (Some e) h = expr_kept e h

-- ---- numbering

mutual
  block_numbered : (to : List ℕ → List ℕ) (k : ℕ) (b : Block) → BlockIsPlain b → BlockIsPlain (numbering.in_block to k b)
  block_numbered to k (block ds es) h = eqns_numbered (declaring to k ds) (k + new_in_decls ds) es h

  eqns_numbered : (to : List ℕ → List ℕ) (k : ℕ) (es : Eqns) → EqnsArePlain es → EqnsArePlain (numbering.in_eqns to k es)
  eqns_numbered to k no_eqn h = h
  eqns_numbered to k (more_eqns e es) h = (eqn_numbered to k e h.0, eqns_numbered to (k + numbering.new_in_eqn e) es h.1)

  eqn_numbered : (to : List ℕ → List ℕ) (k : ℕ) (e : Eqn) → EqnIsPlain e → EqnIsPlain (numbering.in_eqn to k e)
  eqn_numbered to k (define s xs e) h = expr_kept to e h
  eqn_numbered to k (switch s e arms) h = (expr_kept to e h.0, arms_numbered to k arms h.1)
  eqn_numbered to k (reset s b e) h = (block_numbered to k b h.0, expr_kept to e h.1)
  eqn_numbered to k (automaton s qs) h = states_numbered to k qs h

  arms_numbered : (to : List ℕ → List ℕ) (k : ℕ) (arms : Arms) → ArmsArePlain arms → ArmsArePlain (numbering.in_arms to k arms)
  arms_numbered to k no_arm h = h
  arms_numbered to k (more_arms c b at arms) h = (block_numbered to k b h.0, arms_numbered to (k + numbering.new_in_block b) arms h.1)

  states_numbered : (to : List ℕ → List ℕ) (k : ℕ) (qs : States) → StatesArePlain qs → StatesArePlain (numbering.in_states to k qs)
  states_numbered to k no_state h = h
  states_numbered to k (more_states x (block ds es) until unless at qs) h =
      (eqns_numbered (declaring to k ds) (k + new_in_decls ds) es h.0, states_numbered to (k + (new_in_decls ds + numbering.new_in_eqns es)) qs h.1)

contract_numbered : (c : Option Contract) → ContractIsPlain c → ContractIsPlain (option_map numbering.in_contract c)
contract_numbered None h = h
contract_numbered (Some c) h =
    (block_numbered same_name 1 c.body h.0, (condition_kept (declaring_in c.body) c.assume h.1.0, condition_kept (declaring_in c.body) c.enforce h.1.1))

node_numbered : (n : Node) → NodeIsPlain n → NodeIsPlain (numbered n)
node_numbered n h = (contract_numbered n.contract h.0, block_numbered same_name (behind n.contract) n.body h.1)

-- ---- lists of equations

abbrev ListIsPlain : List Eqn → Type 0
ListIsPlain es = EqnsArePlain (eqns_of es)

both : (xs ys : List Eqn) → ListIsPlain xs → ListIsPlain ys → ListIsPlain (xs ++ ys)
both [] ys h g = g
both (x ∷ xs) ys h g = (h.0, both xs ys h.1 g)

as_list : (es : Eqns) → EqnsArePlain es → ListIsPlain (list_of_eqns es)
as_list no_eqn h = h
as_list (more_eqns e es) h = (h.0, as_list es h.1)

body_plain : (b : Block) → BlockIsPlain b → EqnsArePlain (equations_of b)
body_plain (block ds es) h = h

given_plain : (ds : List Decl) (es : Exprs) → AllArePlain es → ListIsPlain (given ds es)
given_plain [] es h = tt
given_plain (d ∷ ds) no_expr h = tt
given_plain (d ∷ ds) (more_exprs e es) h = (h.0, given_plain ds es h.1)

defined_plain : (s : Span) (xs : List (List ℕ × Span)) (at : Span) (ys : List (List ℕ)) → ListIsPlain (defined_by s xs at ys)
defined_plain s [] at ys = tt
defined_plain s (x ∷ xs) at [] = tt
defined_plain s (x ∷ xs) at (y ∷ ys) = (tt, defined_plain s xs at ys)

output_plain : (at : Span) (xs : List (List ℕ)) → IsPlain (output_at at xs)
output_plain at [] = tt
output_plain at (x ∷ xs) = tt

-- ---- replacing

module _ (nodes : List ℕ → Node) (known : (x : List ℕ) → NodeIsPlain (nodes x)) where
  inlined_plain : (f : List ℕ) (args : Replaced Exprs) → AllArePlain args.part → ListIsPlain args.before → ListIsPlain (inlined_call (nodes f) args).before
  inlined_plain f args h g =
      let n = nodes f in
      let m = marked args.next in
      let body = renamed_eqns m (equations_of n.body) in
      both args.before (given (renamed_decls m n.inputs) args.part ++ list_of_eqns body) g
      (both (given (renamed_decls m n.inputs) args.part) (list_of_eqns body) (given_plain (renamed_decls m n.inputs) args.part h)
      (as_list body (eqns_kept m (equations_of n.body) (body_plain n.body (known f).1))))

  mutual
    expr_left : (k : ℕ) (e : Expr) → IsPlain (in_expr nodes k e).part × ListIsPlain (in_expr nodes k e).before
    expr_left k (constant at c) = (tt, tt)
    expr_left k (variable at x) = (tt, tt)
    expr_left k (last_of at x) = (tt, tt)
    expr_left k (one at op a) = expr_left k a
    expr_left k (two at op a b) =
        let p = expr_left k a in let q = expr_left (in_expr nodes k a).next b in ((p.0, q.0), both (in_expr nodes k a).before (in_expr nodes (in_expr nodes k a).next b).before p.1 q.1)
    expr_left k (choose at a b c) =
        let first = in_expr nodes k a in
        let second = in_expr nodes first.next b in
        let third = in_expr nodes second.next c in
        let p = expr_left k a in
        let q = expr_left first.next b in
        let r = expr_left second.next c in
        ((p.0, (q.0, r.0)), both first.before (second.before ++ third.before) p.1 (both second.before third.before q.1 r.1))
    expr_left k (pre at a) = expr_left k a
    expr_left k (fby at a b) =
        let p = expr_left k a in let q = expr_left (in_expr nodes k a).next b in ((p.0, q.0), both (in_expr nodes k a).before (in_expr nodes (in_expr nodes k a).next b).before p.1 q.1)
    expr_left k (arrow at a b) =
        let p = expr_left k a in let q = expr_left (in_expr nodes k a).next b in ((p.0, q.0), both (in_expr nodes k a).before (in_expr nodes (in_expr nodes k a).next b).before p.1 q.1)
    expr_left k (when_is at a c x) = expr_left k a
    expr_left k (merge at x ps) = parts_left k ps
    expr_left k (call at f false es) = let p = exprs_left k es in ((refl, p.0), p.1)
    expr_left k (call at f true es) =
        let p = exprs_left k es in (output_plain at (inlined_call (nodes f) (in_exprs nodes k es)).part, inlined_plain f (in_exprs nodes k es) p.0 p.1)

    exprs_left : (k : ℕ) (es : Exprs) → AllArePlain (in_exprs nodes k es).part × ListIsPlain (in_exprs nodes k es).before
    exprs_left k no_expr = (tt, tt)
    exprs_left k (more_exprs e es) =
        let p = expr_left k e in let q = exprs_left (in_expr nodes k e).next es in ((p.0, q.0), both (in_expr nodes k e).before (in_exprs nodes (in_expr nodes k e).next es).before p.1 q.1)

    parts_left : (k : ℕ) (ps : Parts) → PartsArePlain (in_parts nodes k ps).part × ListIsPlain (in_parts nodes k ps).before
    parts_left k no_part = (tt, tt)
    parts_left k (more_parts c e ps) =
        let p = expr_left k e in let q = parts_left (in_expr nodes k e).next ps in ((p.0, q.0), both (in_expr nodes k e).before (in_parts nodes (in_expr nodes k e).next ps).before p.1 q.1)

  single : (k : ℕ) (e : Expr) → IsPlain (in_expr nodes k e).part × ListIsPlain (in_expr nodes k e).before → (IsPlain (in_expr nodes k e).part × Unit {0}) × ListIsPlain (in_expr nodes k e).before
  single k e p = ((p.0, tt), p.1)

  definition_left : (k : ℕ) (s : Span) (xs : List (List ℕ × Span)) (e : Expr) → ListIsPlain (in_definition nodes k s xs e).part × ListIsPlain (in_definition nodes k s xs e).before
  definition_left k s xs (constant at c) = ((tt, tt), tt)
  definition_left k s xs (variable at x) = ((tt, tt), tt)
  definition_left k s xs (last_of at x) = ((tt, tt), tt)
  definition_left k s xs (one at op a) = single k (one at op a) (expr_left k (one at op a))
  definition_left k s xs (two at op a b) = single k (two at op a b) (expr_left k (two at op a b))
  definition_left k s xs (choose at a b c) = single k (choose at a b c) (expr_left k (choose at a b c))
  definition_left k s xs (pre at a) = single k (pre at a) (expr_left k (pre at a))
  definition_left k s xs (fby at a b) = single k (fby at a b) (expr_left k (fby at a b))
  definition_left k s xs (arrow at a b) = single k (arrow at a b) (expr_left k (arrow at a b))
  definition_left k s xs (when_is at a c x) = single k (when_is at a c x) (expr_left k (when_is at a c x))
  definition_left k s xs (merge at x ps) = single k (merge at x ps) (expr_left k (merge at x ps))
  definition_left k s xs (call at f false es) = single k (call at f false es) (expr_left k (call at f false es))
  definition_left k s xs (call at f true es) =
      let p = exprs_left k es in (defined_plain s xs at (inlined_call (nodes f) (in_exprs nodes k es)).part, inlined_plain f (in_exprs nodes k es) p.0 p.1)

  mutual
    block_left : (k : ℕ) (b : Block) → BlockIsPlain (new.in_block nodes k b).part
    block_left k (block ds es) = eqns_left k es

    eqns_left : (k : ℕ) (es : Eqns) → EqnsArePlain (new.in_eqns nodes k es).part
    eqns_left k no_eqn = tt
    eqns_left k (more_eqns e es) =
        let a = new.in_eqn nodes k e in
        let b = new.in_eqns nodes a.next es in
        let p = eqn_left k e in
        both a.before (a.part ++ list_of_eqns b.part) p.1 (both a.part (list_of_eqns b.part) p.0 (as_list b.part (eqns_left a.next es)))

    eqn_left : (k : ℕ) (e : Eqn) → ListIsPlain (new.in_eqn nodes k e).part × ListIsPlain (new.in_eqn nodes k e).before
    eqn_left k (define s xs e) = definition_left k s xs e
    eqn_left k (switch s e arms) = let p = expr_left k e in (((p.0, arms_left (in_expr nodes k e).next arms), tt), p.1)
    eqn_left k (reset s b e) = let p = expr_left k e in (((block_left (in_expr nodes k e).next b, p.0), tt), p.1)
    eqn_left k (automaton s qs) = ((states_left k qs, tt), tt)

    arms_left : (k : ℕ) (arms : Arms) → ArmsArePlain (new.in_arms nodes k arms).part
    arms_left k no_arm = tt
    arms_left k (more_arms c b at arms) = (block_left k b, arms_left (new.in_block nodes k b).next arms)

    states_left : (k : ℕ) (qs : States) → StatesArePlain (new.in_states nodes k qs).part
    states_left k no_state = tt
    states_left k (more_states x b until unless at qs) = (block_left k b, states_left (new.in_block nodes k b).next qs)

  condition_left : (k : ℕ) (o : Option Expr) → ConditionIsPlain (in_condition nodes k o).part × ListIsPlain (in_condition nodes k o).before
  condition_left k None = (tt, tt)
  condition_left k (Some e) = expr_left k e

  contract_left : (k : ℕ) (c : Option Contract) → ContractIsPlain (new.in_contract nodes k c).part
  contract_left k None = tt
  contract_left k (Some c) =
      let es = new.in_eqns nodes k (equations_of c.body) in
      let assume = in_condition nodes es.next c.assume in
      let enforce = in_condition nodes assume.next c.enforce in
      let a = condition_left es.next c.assume in
      let g = condition_left assume.next c.enforce in
      (both (list_of_eqns es.part) (assume.before ++ enforce.before) (as_list es.part (eqns_left k (equations_of c.body))) (both assume.before enforce.before a.1 g.1), (a.0, g.0))

  node_left : (n : Node) → NodeIsPlain (replaced_node nodes n)
  node_left n = node_numbered (new.in_node nodes n) (contract_left 1 n.contract, block_left (new.in_contract nodes 1 n.contract).next n.body)

known_by : (nodes : List ℕ → Node) (n : Node) (x : List ℕ) (b : Bool) → NodeIsPlain n → NodeIsPlain (nodes x) → NodeIsPlain (if b then n else nodes x)
known_by nodes n x true h g = h
known_by nodes n x false h g = g

items_left : (program : List Item) (nodes : List ℕ → Node) → ((x : List ℕ) → NodeIsPlain (nodes x)) → ItemsArePlain (replaced_items nodes program)
items_left [] nodes known = tt
items_left (TypeItem t ∷ items) nodes known = items_left items nodes known
items_left (NodeItem n ∷ items) nodes known =
    let other = replaced_node nodes n in
    (node_left nodes known n, items_left items (with_node nodes other) (λ x. known_by nodes other x (bytes_eq other.name x) (node_left nodes known n) (known x)))

pub left_law : NoneIsLeft
left_law program = items_left program no_node (λ x. (tt, tt))
