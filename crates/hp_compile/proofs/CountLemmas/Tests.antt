-- Conditions of transitions call no node: so it is in the program of each text, and where inlined calls are replaced.
use Rattle.std.proofs.Common.{ℕ, ◌+◌, Bool, true, false, if◌then◌else◌, List, [], ◌∷◌, ◌++◌, map, Option, None, Some, option_map}
use Rattle.std.specs.Str.{bytes_eq}
use Rattle.hp_base.specs.declared.span.Span.{Span}
use Rattle.hp_tree.specs.declared.block.Trans.{Trans}
use Rattle.hp_tree.specs.declared.program.Item.{Item}
use Rattle.hp_tree.specs.declared.program.Item.TheVariants.{TypeItem, NodeItem}
use Rattle.hp_tree.specs.Expressions.{Expr, constant, variable, last_of, one, two, choose, pre, fby, arrow, when_is, merge, call, Exprs, no_expr, more_exprs, Parts, no_part, more_parts}
use Rattle.hp_tree.specs.Blocks.{Decl, Block, block, Eqns, no_eqn, more_eqns, Eqn, define, switch, reset, automaton, Arms, no_arm, more_arms, States, no_state, more_states, eqns_of, list_of_eqns}
use Rattle.hp_tree.specs.Programs.{Contract, Node}
use Rattle.hp_parser.specs.declared.mode.Mode.TheVariants.{Plain}
use Rattle.hp_print.proofs.Heights.{Good}
use Rattle.hp_print.proofs.Readable.{Each, GoodTransition, GoodBlock, GoodEqns, GoodEqn, GoodArms, GoodStates, GoodOptional, GoodItem}
use Rattle.hp_expand.specs.NewNames.{marked}
use Rattle.hp_expand.specs.Renaming.{renamed, renamed_decls, renamed_transition, renamed_block, renamed_eqns, renamed_eqn, renamed_arms, renamed_states}
use Rattle.hp_expand.specs.Replacing.{Replaced, given, defined_by, inlined_call, equations_of, in_expr, in_exprs, in_parts, in_definition, in_condition, in_block, in_eqns, in_eqn, in_arms, in_states, in_contract, in_node}
use Rattle.hp_expand.specs.Numbering as numbering
use Rattle.hp_expand.specs.Numbering.{same_name, declaring, new_in_decls, behind, numbered, replaced_node, with_node, replaced_items, no_node, replaced}
use Rattle.hp_expand.specs.Plain.{IsPlain}

-- ---- an expression of values and operators on them alone

abbrev pub IsSimple : Expr → Type 0
IsSimple (constant at c) = Unit {0}
IsSimple (variable at x) = Unit {0}
IsSimple (last_of at x) = Unit {0}
IsSimple (one at op a) = IsSimple a
IsSimple (two at op a b) = IsSimple a × IsSimple b
IsSimple (choose at a b c) = IsSimple a × (IsSimple b × IsSimple c)
IsSimple e = ⊥

abbrev pub TestsAreSimple : List Trans → Type 0
TestsAreSimple [] = Unit {0}
TestsAreSimple (t ∷ ts) = IsSimple t.cond × TestsAreSimple ts

-- the conditions of all transitions in a part
abbrev mutual
  pub BlockTests : Block → Type 0
  BlockTests (block ds es) = EqnsTests es

  pub EqnsTests : Eqns → Type 0
  EqnsTests no_eqn = Unit {0}
  EqnsTests (more_eqns e es) = EqnTests e × EqnsTests es

  pub EqnTests : Eqn → Type 0
  EqnTests (define at xs e) = Unit {0}
  EqnTests (switch at e arms) = ArmsTests arms
  EqnTests (reset at b e) = BlockTests b
  EqnTests (automaton at qs) = StatesTests qs

  pub ArmsTests : Arms → Type 0
  ArmsTests no_arm = Unit {0}
  ArmsTests (more_arms c b at arms) = BlockTests b × ArmsTests arms

  pub StatesTests : States → Type 0
  StatesTests no_state = Unit {0}
  StatesTests (more_states x b until unless at qs) = BlockTests b × ((TestsAreSimple until × TestsAreSimple unless) × StatesTests qs)

abbrev pub ContractTests : Option Contract → Type 0
ContractTests None = Unit {0}
ContractTests (Some c) = BlockTests c.body

abbrev pub NodeTests : Node → Type 0
NodeTests n = ContractTests n.contract × BlockTests n.body

abbrev pub ItemsTests : List Item → Type 0
ItemsTests [] = Unit {0}
ItemsTests (TypeItem t ∷ items) = ItemsTests items
ItemsTests (NodeItem n ∷ items) = NodeTests n × ItemsTests items

pub simple_plain : (e : Expr) → IsSimple e → IsPlain e
simple_plain (constant at c) h = tt
simple_plain (variable at x) h = tt
simple_plain (last_of at x) h = tt
simple_plain (one at op a) h = simple_plain a h
simple_plain (two at op a b) h = (simple_plain a h.0, simple_plain b h.1)
simple_plain (choose at a b c) h = (simple_plain a h.0, (simple_plain b h.1.0, simple_plain c h.1.1))
simple_plain (pre at a) h = absurd h
simple_plain (fby at a b) h = absurd h
simple_plain (arrow at a b) h = absurd h
simple_plain (when_is at a c x) h = absurd h
simple_plain (merge at x ps) h = absurd h
simple_plain (call at f inlined es) h = absurd h

-- ---- the program of a text

good_simple : (e : Expr) → Good Plain e → IsSimple e
good_simple (constant at c) g = tt
good_simple (variable at x) g = tt
good_simple (last_of at x) g = tt
good_simple (one at op a) g = good_simple a g
good_simple (two at op a b) g = (good_simple a g.0, good_simple b g.1)
good_simple (choose at a b c) g = (good_simple a g.0, (good_simple b g.1, good_simple c g.2))
good_simple (pre at a) g = absurd g.0
good_simple (fby at a b) g = absurd g.0
good_simple (arrow at a b) g = absurd g.0
good_simple (when_is at a c x) g = absurd g.0
good_simple (merge at x ps) g = absurd g.0
good_simple (call at f inlined es) g = absurd g.0

module _ (d : ℕ) where
  transitions_read : (ts : List Trans) → Each (GoodTransition d) ts → TestsAreSimple ts
  transitions_read [] g = tt
  transitions_read (t ∷ ts) g = (good_simple t.cond g.0.0, transitions_read ts g.1)

  mutual
    block_read : (b : Block) → GoodBlock d b → BlockTests b
    block_read (block ds es) g = eqns_read es g.1

    eqns_read : (es : Eqns) → GoodEqns d es → EqnsTests es
    eqns_read no_eqn g = tt
    eqns_read (more_eqns e es) g = (eqn_read e g.0, eqns_read es g.1)

    eqn_read : (e : Eqn) → GoodEqn d e → EqnTests e
    eqn_read (define s xs e) g = tt
    eqn_read (switch s e arms) g = arms_read arms g.2
    eqn_read (reset s b e) g = block_read b g.0
    eqn_read (automaton s qs) g = states_read qs g.1

    arms_read : (arms : Arms) → GoodArms d arms → ArmsTests arms
    arms_read no_arm g = tt
    arms_read (more_arms c b s arms) g = (block_read b g.0, arms_read arms g.1)

    states_read : (qs : States) → GoodStates d qs → StatesTests qs
    states_read no_state g = tt
    states_read (more_states x b until unless s qs) g = (block_read b g.0, ((transitions_read until g.1, transitions_read unless g.2), states_read qs g.3))

  contract_read : (nested : ℕ) (c : Option Contract) → GoodOptional d nested c → ContractTests c
  contract_read nested None g = tt
  contract_read nested (Some c) g = block_read c.body g.0.0

  pub items_read : (nested : ℕ) (inputs outputs more : Option ℕ) (items : List Item) → Each (GoodItem d nested inputs outputs more) items → ItemsTests items
  items_read nested inputs outputs more [] g = tt
  items_read nested inputs outputs more (TypeItem t ∷ items) g = items_read nested inputs outputs more items g.1
  items_read nested inputs outputs more (NodeItem n ∷ items) g = ((contract_read nested n.contract g.0.2, block_read n.body g.0.3), items_read nested inputs outputs more items g.1)

-- ---- other names

module _ (to : List ℕ → List ℕ) where
  simple_kept : (e : Expr) → IsSimple e → IsSimple (renamed to e)
  simple_kept (constant at c) h = tt
  simple_kept (variable at x) h = tt
  simple_kept (last_of at x) h = tt
  simple_kept (one at op a) h = simple_kept a h
  simple_kept (two at op a b) h = (simple_kept a h.0, simple_kept b h.1)
  simple_kept (choose at a b c) h = (simple_kept a h.0, (simple_kept b h.1.0, simple_kept c h.1.1))
  simple_kept (pre at a) h = absurd h
  simple_kept (fby at a b) h = absurd h
  simple_kept (arrow at a b) h = absurd h
  simple_kept (when_is at a c x) h = absurd h
  simple_kept (merge at x ps) h = absurd h
  simple_kept (call at f inlined es) h = absurd h

  tests_kept : (ts : List Trans) → TestsAreSimple ts → TestsAreSimple (map (renamed_transition to) ts)
  tests_kept [] h = tt
  tests_kept (t ∷ ts) h = (simple_kept t.cond h.0, tests_kept ts h.1)

  mutual
    block_kept : (b : Block) → BlockTests b → BlockTests (renamed_block to b)
    block_kept (block ds es) h = eqns_kept es h

    eqns_kept : (es : Eqns) → EqnsTests es → EqnsTests (renamed_eqns to es)
    eqns_kept no_eqn h = tt
    eqns_kept (more_eqns e es) h = (eqn_kept e h.0, eqns_kept es h.1)

    eqn_kept : (e : Eqn) → EqnTests e → EqnTests (renamed_eqn to e)
    eqn_kept (define s xs e) h = tt
    eqn_kept (switch s e arms) h = arms_kept arms h
    eqn_kept (reset s b e) h = block_kept b h
    eqn_kept (automaton s qs) h = states_kept qs h

    arms_kept : (arms : Arms) → ArmsTests arms → ArmsTests (renamed_arms to arms)
    arms_kept no_arm h = tt
    arms_kept (more_arms c b s arms) h = (block_kept b h.0, arms_kept arms h.1)

    states_kept : (qs : States) → StatesTests qs → StatesTests (renamed_states to qs)
    states_kept no_state h = tt
    states_kept (more_states x b until unless s qs) h = (block_kept b h.0, ((tests_kept until h.1.0.0, tests_kept unless h.1.0.1), states_kept qs h.1.1))

-- ---- numbering

mutual
  block_numbered : (to : List ℕ → List ℕ) (k : ℕ) (b : Block) → BlockTests b → BlockTests (numbering.in_block to k b)
  block_numbered to k (block ds es) h = eqns_numbered (declaring to k ds) (k + new_in_decls ds) es h

  eqns_numbered : (to : List ℕ → List ℕ) (k : ℕ) (es : Eqns) → EqnsTests es → EqnsTests (numbering.in_eqns to k es)
  eqns_numbered to k no_eqn h = tt
  eqns_numbered to k (more_eqns e es) h = (eqn_numbered to k e h.0, eqns_numbered to (k + numbering.new_in_eqn e) es h.1)

  eqn_numbered : (to : List ℕ → List ℕ) (k : ℕ) (e : Eqn) → EqnTests e → EqnTests (numbering.in_eqn to k e)
  eqn_numbered to k (define s xs e) h = tt
  eqn_numbered to k (switch s e arms) h = arms_numbered to k arms h
  eqn_numbered to k (reset s b e) h = block_numbered to k b h
  eqn_numbered to k (automaton s qs) h = states_numbered to k qs h

  arms_numbered : (to : List ℕ → List ℕ) (k : ℕ) (arms : Arms) → ArmsTests arms → ArmsTests (numbering.in_arms to k arms)
  arms_numbered to k no_arm h = tt
  arms_numbered to k (more_arms c b s arms) h = (block_numbered to k b h.0, arms_numbered to (k + numbering.new_in_block b) arms h.1)

  states_numbered : (to : List ℕ → List ℕ) (k : ℕ) (qs : States) → StatesTests qs → StatesTests (numbering.in_states to k qs)
  states_numbered to k no_state h = tt
  states_numbered to k (more_states x (block ds es) until unless s qs) h = (
    eqns_numbered (declaring to k ds) (k + new_in_decls ds) es h.0,
    ((tests_kept (declaring to k ds) until h.1.0.0, tests_kept to unless h.1.0.1), states_numbered to (k + (new_in_decls ds + numbering.new_in_eqns es)) qs h.1.1),
  )

contract_numbered : (c : Option Contract) → ContractTests c → ContractTests (option_map numbering.in_contract c)
contract_numbered None h = tt
contract_numbered (Some c) h = block_numbered same_name 1 c.body h

-- ---- replacing

abbrev ListTests : List Eqn → Type 0
ListTests es = EqnsTests (eqns_of es)

both : (xs ys : List Eqn) → ListTests xs → ListTests ys → ListTests (xs ++ ys)
both [] ys h g = g
both (x ∷ xs) ys h g = (h.0, both xs ys h.1 g)

as_list : (es : Eqns) → EqnsTests es → ListTests (list_of_eqns es)
as_list no_eqn h = tt
as_list (more_eqns e es) h = (h.0, as_list es h.1)

given_tests : (ds : List Decl) (es : Exprs) → ListTests (given ds es)
given_tests [] es = tt
given_tests (d ∷ ds) no_expr = tt
given_tests (d ∷ ds) (more_exprs e es) = (tt, given_tests ds es)

defined_tests : (s : Span) (xs : List (List ℕ × Span)) (at : Span) (ys : List (List ℕ)) → ListTests (defined_by s xs at ys)
defined_tests s [] at ys = tt
defined_tests s (x ∷ xs) at [] = tt
defined_tests s (x ∷ xs) at (y ∷ ys) = (tt, defined_tests s xs at ys)

body_tests : (b : Block) → BlockTests b → EqnsTests (equations_of b)
body_tests (block ds es) h = h

module _ (nodes : List ℕ → Node) (known : (x : List ℕ) → BlockTests (nodes x).body) where
  inlined_tests : (f : List ℕ) (args : Replaced Exprs) → ListTests args.before → ListTests (inlined_call (nodes f) args).before
  inlined_tests f args h =
      let n = nodes f in
      let m = marked args.next in
      let body = renamed_eqns m (equations_of n.body) in
      both args.before (given (renamed_decls m n.inputs) args.part ++ list_of_eqns body) h
      (both (given (renamed_decls m n.inputs) args.part) (list_of_eqns body) (given_tests (renamed_decls m n.inputs) args.part)
      (as_list body (eqns_kept m (equations_of n.body) (body_tests n.body (known f)))))

  mutual
    expr_before : (k : ℕ) (e : Expr) → ListTests (in_expr nodes k e).before
    expr_before k (constant at c) = tt
    expr_before k (variable at x) = tt
    expr_before k (last_of at x) = tt
    expr_before k (one at op a) = expr_before k a
    expr_before k (two at op a b) = both (in_expr nodes k a).before (in_expr nodes (in_expr nodes k a).next b).before (expr_before k a) (expr_before (in_expr nodes k a).next b)
    expr_before k (choose at a b c) =
        let first = in_expr nodes k a in
        let second = in_expr nodes first.next b in
        let third = in_expr nodes second.next c in
        both first.before (second.before ++ third.before) (expr_before k a) (both second.before third.before (expr_before first.next b) (expr_before second.next c))
    expr_before k (pre at a) = expr_before k a
    expr_before k (fby at a b) = both (in_expr nodes k a).before (in_expr nodes (in_expr nodes k a).next b).before (expr_before k a) (expr_before (in_expr nodes k a).next b)
    expr_before k (arrow at a b) = both (in_expr nodes k a).before (in_expr nodes (in_expr nodes k a).next b).before (expr_before k a) (expr_before (in_expr nodes k a).next b)
    expr_before k (when_is at a c x) = expr_before k a
    expr_before k (merge at x ps) = parts_before k ps
    expr_before k (call at f false es) = exprs_before k es
    expr_before k (call at f true es) = inlined_tests f (in_exprs nodes k es) (exprs_before k es)

    exprs_before : (k : ℕ) (es : Exprs) → ListTests (in_exprs nodes k es).before
    exprs_before k no_expr = tt
    exprs_before k (more_exprs e es) = both (in_expr nodes k e).before (in_exprs nodes (in_expr nodes k e).next es).before (expr_before k e) (exprs_before (in_expr nodes k e).next es)

    parts_before : (k : ℕ) (ps : Parts) → ListTests (in_parts nodes k ps).before
    parts_before k no_part = tt
    parts_before k (more_parts c e ps) = both (in_expr nodes k e).before (in_parts nodes (in_expr nodes k e).next ps).before (expr_before k e) (parts_before (in_expr nodes k e).next ps)

  definition_left : (k : ℕ) (s : Span) (xs : List (List ℕ × Span)) (e : Expr) → ListTests (in_definition nodes k s xs e).part × ListTests (in_definition nodes k s xs e).before
  definition_left k s xs (constant at c) = ((tt, tt), tt)
  definition_left k s xs (variable at x) = ((tt, tt), tt)
  definition_left k s xs (last_of at x) = ((tt, tt), tt)
  definition_left k s xs (one at op a) = ((tt, tt), expr_before k (one at op a))
  definition_left k s xs (two at op a b) = ((tt, tt), expr_before k (two at op a b))
  definition_left k s xs (choose at a b c) = ((tt, tt), expr_before k (choose at a b c))
  definition_left k s xs (pre at a) = ((tt, tt), expr_before k (pre at a))
  definition_left k s xs (fby at a b) = ((tt, tt), expr_before k (fby at a b))
  definition_left k s xs (arrow at a b) = ((tt, tt), expr_before k (arrow at a b))
  definition_left k s xs (when_is at a c x) = ((tt, tt), expr_before k (when_is at a c x))
  definition_left k s xs (merge at x ps) = ((tt, tt), expr_before k (merge at x ps))
  definition_left k s xs (call at f false es) = ((tt, tt), expr_before k (call at f false es))
  definition_left k s xs (call at f true es) =
      (defined_tests s xs at (inlined_call (nodes f) (in_exprs nodes k es)).part, inlined_tests f (in_exprs nodes k es) (exprs_before k es))

  mutual
    block_left : (k : ℕ) (b : Block) → BlockTests b → BlockTests (in_block nodes k b).part
    block_left k (block ds es) h = eqns_left k es h

    eqns_left : (k : ℕ) (es : Eqns) → EqnsTests es → EqnsTests (in_eqns nodes k es).part
    eqns_left k no_eqn h = tt
    eqns_left k (more_eqns e es) h =
        let a = in_eqn nodes k e in
        let b = in_eqns nodes a.next es in
        let p = eqn_left k e h.0 in
        both a.before (a.part ++ list_of_eqns b.part) p.1 (both a.part (list_of_eqns b.part) p.0 (as_list b.part (eqns_left a.next es h.1)))

    eqn_left : (k : ℕ) (e : Eqn) → EqnTests e → ListTests (in_eqn nodes k e).part × ListTests (in_eqn nodes k e).before
    eqn_left k (define s xs e) h = definition_left k s xs e
    eqn_left k (switch s e arms) h = ((arms_left (in_expr nodes k e).next arms h, tt), expr_before k e)
    eqn_left k (reset s b e) h = ((block_left (in_expr nodes k e).next b h, tt), expr_before k e)
    eqn_left k (automaton s qs) h = ((states_left k qs h, tt), tt)

    arms_left : (k : ℕ) (arms : Arms) → ArmsTests arms → ArmsTests (in_arms nodes k arms).part
    arms_left k no_arm h = tt
    arms_left k (more_arms c b s arms) h = (block_left k b h.0, arms_left (in_block nodes k b).next arms h.1)

    states_left : (k : ℕ) (qs : States) → StatesTests qs → StatesTests (in_states nodes k qs).part
    states_left k no_state h = tt
    states_left k (more_states x b until unless s qs) h = (block_left k b h.0, (h.1.0, states_left (in_block nodes k b).next qs h.1.1))

  condition_before : (k : ℕ) (e : Option Expr) → ListTests (in_condition nodes k e).before
  condition_before k None = tt
  condition_before k (Some e) = expr_before k e

  contract_left : (c : Option Contract) → ContractTests c → ContractTests (in_contract nodes 1 c).part
  contract_left None h = tt
  contract_left (Some c) h =
      let es = in_eqns nodes 1 (equations_of c.body) in
      let assume = in_condition nodes es.next c.assume in
      let enforce = in_condition nodes assume.next c.enforce in
      both (list_of_eqns es.part) (assume.before ++ enforce.before) (as_list es.part (eqns_left 1 (equations_of c.body) (body_tests c.body h)))
      (both assume.before enforce.before (condition_before es.next c.assume) (condition_before assume.next c.enforce))

  node_left : (n : Node) → NodeTests n → NodeTests (replaced_node nodes n)
  node_left n h =
      let m = in_node nodes n in (
        contract_numbered m.contract (contract_left n.contract h.0),
        block_numbered same_name (behind m.contract) m.body (block_left (in_contract nodes 1 n.contract).next n.body h.1),
      )

known_more : (nodes : List ℕ → Node) (n : Node) (x : List ℕ) (b : Bool) → BlockTests n.body → BlockTests (nodes x).body → BlockTests (if b then n else nodes x).body
known_more nodes n x true h g = h
known_more nodes n x false h g = g

items_left : (nodes : List ℕ → Node) → ((x : List ℕ) → BlockTests (nodes x).body) → (items : List Item) → ItemsTests items → ItemsTests (replaced_items nodes items)
items_left nodes known [] h = tt
items_left nodes known (TypeItem t ∷ items) h = items_left nodes known items h
items_left nodes known (NodeItem n ∷ items) h =
    let r = replaced_node nodes n in
    let l = node_left nodes known n h.0 in
    (l, items_left (with_node nodes r) (λ x. known_more nodes r x (bytes_eq r.name x) l.1 (known x)) items h.1)

pub replaced_tests : (program : List Item) → ItemsTests program → ItemsTests (replaced program)
replaced_tests program h = items_left no_node (λ x. tt) program h
