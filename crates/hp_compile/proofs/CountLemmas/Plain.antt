-- Where no inlined call is left, the counts are those of the walk that adds up what inlined calls bring.
use Rattle.std.proofs.Common.{◌≡◌, ◌↔◌, ℕ, suc, ◌+◌, ◌≤◌, max, Bool, true, false, if◌then◌else◌, nat_lt, length, List, [], ◌∷◌, ◌++◌, Option, None, Some, refl, sym, ap, ◌∙◌, arith}
use Rattle.std.proofs.lemmas.Bool.Decides.{nat_tests}
use Rattle.std.specs.Str.{bytes_eq}
use Rattle.hp_base.specs.Limits.{most}
use Rattle.hp_base.specs.declared.limit.Limit.{Limit}
use Rattle.hp_base.specs.declared.limit.What.{What}
use Rattle.hp_base.specs.declared.limit.What.TheVariants.{Nest, Places, Total, Instances, Cells, Calls}
use Rattle.hp_base.specs.declared.span.Span.{Span}
use Rattle.hp_tree.specs.declared.block.Trans.{Trans}
use Rattle.hp_tree.specs.declared.program.Item.{Item}
use Rattle.hp_tree.specs.declared.program.Item.TheVariants.{TypeItem, NodeItem}
use Rattle.hp_tree.specs.Expressions.{Expr, constant, variable, last_of, one, two, choose, pre, fby, arrow, when_is, merge, call, Exprs, no_expr, more_exprs, Parts, no_part, more_parts}
use Rattle.hp_tree.specs.Blocks.{Block, block, Eqns, no_eqn, more_eqns, Eqn, define, switch, reset, automaton, Arms, no_arm, more_arms, States, no_state, more_states}
use Rattle.hp_tree.specs.Programs.{Contract, Node}
use Rattle.hp_expand.specs.Sizes as sizes
use Rattle.hp_expand.specs.Sizes.{join, called, of_call}
use Rattle.hp_expand.specs.Counts as walk
use Rattle.hp_expand.specs.Counts.{passed, or_passed, passed_by, at_node}
use Rattle.hp_expand.specs.Plain.{IsPlain, AllArePlain, PartsArePlain, BlockIsPlain, EqnsArePlain, EqnIsPlain, ArmsArePlain, StatesArePlain, ConditionIsPlain, ContractIsPlain, NodeIsPlain, ItemsArePlain}
use Rattle.hp_compile.specs.Counts as plain
use Rattle.hp_compile.specs.Counts.{Inside, Call, both, calling, Instance, total, greatest, instance_of, with_instance, none_known, Count, counts_of_node, counts_in, counts, KeepLimits, if_passed, first_passed}
use Rattle.hp_compile.proofs.CountLemmas.Tests.{TestsAreSimple, BlockTests, EqnsTests, EqnTests, ArmsTests, StatesTests, ContractTests, NodeTests, ItemsTests, simple_plain}
use Rattle.hp_compile.proofs.CountLemmas.Types.{Size}

abbrev size : ℕ → ℕ → ℕ → ℕ → ℕ → Size
size p n i c k = record { places = p; nest = n; instances = i; cells = c; calls = k }

total_both : (of : List ℕ → ℕ) (xs ys : List Call) → total of xs + total of ys ≡ total of (xs ++ ys)
total_both of [] ys = omega arith
total_both of (x ∷ xs) ys = omega (arith, total_both of xs ys)

greatest_both : (of : List ℕ → ℕ) (xs ys : List Call) → max (greatest of xs) (greatest of ys) ≡ greatest of (xs ++ ys)
greatest_both of [] ys = omega arith
greatest_both of (x ∷ xs) ys = omega (arith, greatest_both of xs ys)

plus_none : (n : ℕ) → n ≡ n + 0
plus_none n = omega arith

max_none : (n : ℕ) → n ≡ max n 0
max_none n = omega arith

-- ---- one part

module _ (known : List ℕ → Size) where
  abbrev instances_of : List ℕ → ℕ
  instances_of f = suc (known f).instances

  abbrev cells_of : List ℕ → ℕ
  cells_of f = (known f).places + (known f).cells

  abbrev chain_of : List ℕ → ℕ
  chain_of f = suc (known f).calls

  -- what is in a part, as the walk says it
  unfoldable pub size_of : Inside → Size
  size_of a = record { places = a.places; nest = a.levels; instances = total instances_of a.calls; cells = total cells_of a.calls; calls = greatest chain_of a.calls }

  both_sizes : (a b : Inside) → join (size_of a) (size_of b) ≡ size_of (both a b)
  unfolding join size_of both
  both_sizes a b =
      λ i. size (a.places + b.places) (max a.levels b.levels) (total_both instances_of a.calls b.calls i) (total_both cells_of a.calls b.calls i) (greatest_both chain_of a.calls b.calls i)

  pair : (a b : Inside) (s t : Size) → s ≡ size_of a → t ≡ size_of b → join s t ≡ size_of (both a b)
  pair a b s t p q = (λ i. join (p i) (q i)) ∙ both_sizes a b

  none_size : sizes.none ≡ size_of plain.nothing
  unfolding size_of
  none_size = refl

  places_size : (n : ℕ) → sizes.places n ≡ size_of (plain.places n)
  unfolding sizes.places plain.places size_of
  places_size n = refl

  deeper_size : (a : Inside) (s : Size) → s ≡ size_of a → sizes.deeper s ≡ size_of (plain.deeper a)
  unfolding sizes.deeper plain.deeper size_of
  deeper_size a s p = ap sizes.deeper p

  called_size : (at : Span) (f : List ℕ) (inlined : Bool) → called (known f) ≡ size_of (calling at f inlined)
  unfolding called calling size_of
  called_size at f inlined = λ i. size 0 0 (plus_none (instances_of f) i) (plus_none (cells_of f) i) (max_none (chain_of f) i)

  above : (a : Inside) (s : Size) → s ≡ size_of a → join (sizes.places 1) s ≡ size_of (both (plain.places 1) a)
  above a s p = pair (plain.places 1) a (sizes.places 1) s (places_size 1) p

  above_two : (a b : Inside) (s t : Size) → s ≡ size_of a → t ≡ size_of b → join (sizes.places 1) (join s t) ≡ size_of (both (plain.places 1) (both a b))
  above_two a b s t p q = above (both a b) (join s t) (pair a b s t p q)

  opened : (n : ℕ) (f : List ℕ) (s : Size) → of_call n false (known f) s ≡ join (sizes.places 1) (join (called (known f)) s)
  unfolding of_call
  opened n f s = refl

  call_size : (n : ℕ) (at : Span) (inlined : Bool) (f : List ℕ) (a : Inside) (s : Size) → inlined ≡ false → s ≡ size_of a → of_call n inlined (known f) s ≡ size_of (both (plain.places 1) (both (calling at f inlined) a))
  call_size n at inlined f a s e p =
      let call = calling at f inlined in
      ap (λ b. of_call n b (known f) s) e ∙ opened n f s ∙ above (both call a) (join (called (known f)) s) (pair call a (called (known f)) s (called_size at f inlined) p)

  mutual
    expr_same : (e : Expr) → IsPlain e → sizes.in_expr known e ≡ size_of (plain.in_expr e)
    expr_same (constant at c) h = places_size 1
    expr_same (variable at x) h = places_size 1
    expr_same (last_of at x) h = places_size 1
    expr_same (one at op a) h = above (plain.in_expr a) (sizes.in_expr known a) (expr_same a h)
    expr_same (two at op a b) h = above_two (plain.in_expr a) (plain.in_expr b) (sizes.in_expr known a) (sizes.in_expr known b) (expr_same a h.0) (expr_same b h.1)
    expr_same (choose at a b c) h =
        let behind = pair (plain.in_expr b) (plain.in_expr c) (sizes.in_expr known b) (sizes.in_expr known c) (expr_same b h.1.0) (expr_same c h.1.1) in
        above (both (plain.in_expr a) (both (plain.in_expr b) (plain.in_expr c))) (join (sizes.in_expr known a) (join (sizes.in_expr known b) (sizes.in_expr known c)))
        (pair (plain.in_expr a) (both (plain.in_expr b) (plain.in_expr c)) (sizes.in_expr known a) (join (sizes.in_expr known b) (sizes.in_expr known c)) (expr_same a h.0) behind)
    expr_same (pre at a) h = above (plain.in_expr a) (sizes.in_expr known a) (expr_same a h)
    expr_same (fby at a b) h = above_two (plain.in_expr a) (plain.in_expr b) (sizes.in_expr known a) (sizes.in_expr known b) (expr_same a h.0) (expr_same b h.1)
    expr_same (arrow at a b) h = above_two (plain.in_expr a) (plain.in_expr b) (sizes.in_expr known a) (sizes.in_expr known b) (expr_same a h.0) (expr_same b h.1)
    expr_same (when_is at a c x) h = above (plain.in_expr a) (sizes.in_expr known a) (expr_same a h)
    expr_same (merge at x ps) h = above (plain.in_parts ps) (sizes.in_parts known ps) (parts_same ps h)
    expr_same (call at f inlined es) h = call_size 1 at inlined f (plain.in_exprs es) (sizes.in_exprs known es) h.0 (exprs_same es h.1)

    exprs_same : (es : Exprs) → AllArePlain es → sizes.in_exprs known es ≡ size_of (plain.in_exprs es)
    exprs_same no_expr h = none_size
    exprs_same (more_exprs e es) h = pair (plain.in_expr e) (plain.in_exprs es) (sizes.in_expr known e) (sizes.in_exprs known es) (expr_same e h.0) (exprs_same es h.1)

    parts_same : (ps : Parts) → PartsArePlain ps → sizes.in_parts known ps ≡ size_of (plain.in_parts ps)
    parts_same no_part h = none_size
    parts_same (more_parts c e ps) h = pair (plain.in_expr e) (plain.in_parts ps) (sizes.in_expr known e) (sizes.in_parts known ps) (expr_same e h.0) (parts_same ps h.1)

  right_same : (n : ℕ) (e : Expr) → IsPlain e → sizes.in_right known n e ≡ size_of (plain.in_expr e)
  right_same n (constant at c) h = expr_same (constant at c) h
  right_same n (variable at x) h = expr_same (variable at x) h
  right_same n (last_of at x) h = expr_same (last_of at x) h
  right_same n (one at op a) h = expr_same (one at op a) h
  right_same n (two at op a b) h = expr_same (two at op a b) h
  right_same n (choose at a b c) h = expr_same (choose at a b c) h
  right_same n (pre at a) h = expr_same (pre at a) h
  right_same n (fby at a b) h = expr_same (fby at a b) h
  right_same n (arrow at a b) h = expr_same (arrow at a b) h
  right_same n (when_is at a c x) h = expr_same (when_is at a c x) h
  right_same n (merge at x ps) h = expr_same (merge at x ps) h
  right_same n (call at f inlined es) h = call_size n at inlined f (plain.in_exprs es) (sizes.in_exprs known es) h.0 (exprs_same es h.1)

  transitions_same : (ts : List Trans) → TestsAreSimple ts → sizes.in_transitions known ts ≡ size_of (plain.in_transitions ts)
  transitions_same [] h = none_size
  transitions_same (t ∷ ts) h =
      pair (plain.in_expr t.cond) (plain.in_transitions ts) (sizes.in_expr known t.cond) (sizes.in_transitions known ts) (expr_same t.cond (simple_plain t.cond h.0)) (transitions_same ts h.1)

  mutual
    block_same : (b : Block) → BlockIsPlain b → BlockTests b → sizes.in_block known b ≡ size_of (plain.in_block b)
    block_same (block ds es) h t = pair (plain.places (length ds)) (plain.in_eqns es) (sizes.places (length ds)) (sizes.in_eqns known es) (places_size (length ds)) (eqns_same es h t)

    eqns_same : (es : Eqns) → EqnsArePlain es → EqnsTests es → sizes.in_eqns known es ≡ size_of (plain.in_eqns es)
    eqns_same no_eqn h t = none_size
    eqns_same (more_eqns e es) h t = pair (plain.in_eqn e) (plain.in_eqns es) (sizes.in_eqn known e) (sizes.in_eqns known es) (eqn_same e h.0 t.0) (eqns_same es h.1 t.1)

    eqn_same : (e : Eqn) → EqnIsPlain e → EqnTests e → sizes.in_eqn known e ≡ size_of (plain.in_eqn e)
    eqn_same (define at xs e) h t = right_same (length xs) e h
    eqn_same (switch at e arms) h t = pair (plain.in_expr e) (plain.in_arms arms) (sizes.in_expr known e) (sizes.in_arms known arms) (expr_same e h.0) (arms_same arms h.1 t)
    eqn_same (reset at b e) h t =
        pair (plain.deeper (plain.in_block b)) (plain.in_expr e) (sizes.deeper (sizes.in_block known b)) (sizes.in_expr known e) (deeper_size (plain.in_block b) (sizes.in_block known b) (block_same b h.0 t)) (expr_same e h.1)
    eqn_same (automaton at qs) h t = pair (plain.places 4) (plain.in_states qs) (sizes.places 4) (sizes.in_states known qs) (places_size 4) (states_same qs h t)

    arms_same : (arms : Arms) → ArmsArePlain arms → ArmsTests arms → sizes.in_arms known arms ≡ size_of (plain.in_arms arms)
    arms_same no_arm h t = none_size
    arms_same (more_arms c b at arms) h t =
        pair (plain.deeper (plain.in_block b)) (plain.in_arms arms) (sizes.deeper (sizes.in_block known b)) (sizes.in_arms known arms) (deeper_size (plain.in_block b) (sizes.in_block known b) (block_same b h.0 t.0))
        (arms_same arms h.1 t.1)

    states_same : (qs : States) → StatesArePlain qs → StatesTests qs → sizes.in_states known qs ≡ size_of (plain.in_states qs)
    states_same no_state h t = none_size
    states_same (more_states x b until unless at qs) h t =
        let weak = plain.in_transitions until in
        let strong = plain.in_transitions unless in
        let walk_weak = sizes.in_transitions known until in
        let walk_strong = sizes.in_transitions known unless in
        pair (both (plain.deeper (plain.in_block b)) (both weak strong)) (plain.in_states qs) (join (sizes.deeper (sizes.in_block known b)) (join walk_weak walk_strong)) (sizes.in_states known qs)
        (pair (plain.deeper (plain.in_block b)) (both weak strong) (sizes.deeper (sizes.in_block known b)) (join walk_weak walk_strong) (deeper_size (plain.in_block b) (sizes.in_block known b) (block_same b h.0 t.0))
        (pair weak strong walk_weak walk_strong (transitions_same until t.1.0.0) (transitions_same unless t.1.0.1)))
        (states_same qs h.1 t.1.1)

  condition_same : (e : Option Expr) → ConditionIsPlain e → sizes.in_condition known e ≡ size_of (plain.in_condition e)
  condition_same None h = none_size
  condition_same (Some e) h = expr_same e h

  pub contract_same : (c : Option Contract) → ContractIsPlain c → ContractTests c → sizes.in_contract known c ≡ size_of (plain.in_contract c)
  contract_same None h t = none_size
  contract_same (Some c) h t =
      let assume = plain.in_condition c.assume in
      let enforce = plain.in_condition c.enforce in
      let walk_assume = sizes.in_condition known c.assume in
      let walk_enforce = sizes.in_condition known c.enforce in
      pair (plain.places (length c.controls)) (both (plain.in_block c.body) (both assume enforce)) (sizes.places (length c.controls)) (join (sizes.in_block known c.body) (join walk_assume walk_enforce)) (places_size (length c.controls))
      (pair (plain.in_block c.body) (both assume enforce) (sizes.in_block known c.body) (join walk_assume walk_enforce) (block_same c.body h.0 t)
      (pair assume enforce walk_assume walk_enforce (condition_same c.assume h.1.0) (condition_same c.enforce h.1.1)))

  node_same : (n : Node) → NodeIsPlain n → NodeTests n → sizes.in_node known n ≡ size_of (plain.in_node n)
  node_same n h t =
      let inputs = plain.places (length n.inputs) in
      let outputs = plain.places (length n.outputs) in
      let walk_inputs = sizes.places (length n.inputs) in
      let walk_outputs = sizes.places (length n.outputs) in
      pair (both inputs outputs) (both (plain.in_contract n.contract) (plain.in_block n.body)) (join walk_inputs walk_outputs) (join (sizes.in_contract known n.contract) (sizes.in_block known n.body))
      (pair inputs outputs walk_inputs walk_outputs (places_size (length n.inputs)) (places_size (length n.outputs)))
      (pair (plain.in_contract n.contract) (plain.in_block n.body) (sizes.in_contract known n.contract) (sizes.in_block known n.body) (contract_same n.contract h.0 t.0) (block_same n.body h.1 t.1))

-- ---- one node

-- a node with this in it, as an instance of it
abbrev instance_with : Size → Instance
instance_with s = record { instances = suc s.instances; cells = s.places + s.cells; chain = suc s.calls }

abbrev instances_in : (List ℕ → Size) → List ℕ → Instance
instances_in known f = instance_with (known f)

instance_same : (known : List ℕ → Size) (a : Inside) → instance_of (instances_in known) a ≡ instance_with (size_of known a)
unfolding instance_of size_of
instance_same known a = refl

places_same : (known : List ℕ → Size) (a : Inside) → a.places ≡ (size_of known a).places
unfolding size_of
places_same known a = refl

levels_same : (known : List ℕ → Size) (a : Inside) → a.levels ≡ (size_of known a).nest
unfolding size_of
levels_same known a = refl

one_passed : (f : List ℕ) (what : What) (n : ℕ) (others : Option (List ℕ × Limit)) → if_passed (record { node = f; what = what; count = n }) others ≡ at_node f (passed what n) others
unfolding if_passed passed
one_passed f what n others = by (nat_lt (most what) n)
  where
    by : (b : Bool) → (if b then Some (f, record { what = what; found = suc (most what) }) else others) ≡ at_node f (if◌then◌else◌ {A = Option Limit} b (Some (record { what = what; found = suc (most what) })) None) others
    by true = refl
    by false = refl

or_both : (f : List ℕ) (a b : Option Limit) (others : Option (List ℕ × Limit)) → at_node f a (at_node f b others) ≡ at_node f (or_passed a b) others
unfolding or_passed
or_both f None b others = refl
or_both f (Some l) b others = refl

then_passed : (f : List ℕ) (what : What) (n : ℕ) (b : Option Limit) (rest others : Option (List ℕ × Limit)) → rest ≡ at_node f b others → if_passed (record { node = f; what = what; count = n }) rest ≡ at_node f (or_passed (passed what n) b) others
then_passed f what n b rest others h = one_passed f what n rest ∙ ap (at_node f (passed what n)) h ∙ or_both f (passed what n) b others

-- the first limit that a node passes
node_passed : (f : List ℕ) (before : ℕ) (known : List ℕ → Size) (a : Inside) (others : List Count) →
    first_passed (counts_of_node f before a (instance_with (size_of known a)) ++ others) ≡ at_node f (passed_by before (size_of known a)) (first_passed others)
unfolding passed_by size_of
node_passed f before known a others =
    let s = size_of known a in
    let rest = first_passed others in
    let c6 : Count = record { node = f; what = Calls; count = suc s.calls } in
    let c5 : Count = record { node = f; what = Cells; count = s.places + s.cells } in
    let c4 : Count = record { node = f; what = Instances; count = suc s.instances } in
    let c3 : Count = record { node = f; what = Total; count = before + s.places } in
    let c2 : Count = record { node = f; what = Places; count = s.places } in
    let p6 = passed Calls (suc s.calls) in
    let p5 = or_passed (passed Cells (s.places + s.cells)) p6 in
    let p4 = or_passed (passed Instances (suc s.instances)) p5 in
    let p3 = or_passed (passed Total (before + s.places)) p4 in
    let p2 = or_passed (passed Places s.places) p3 in
    let h6 = one_passed f Calls (suc s.calls) rest in
    let h5 = then_passed f Cells (s.places + s.cells) p6 (if_passed c6 rest) rest h6 in
    let h4 = then_passed f Instances (suc s.instances) p5 (if_passed c5 (if_passed c6 rest)) rest h5 in
    let h3 = then_passed f Total (before + s.places) p4 (if_passed c4 (if_passed c5 (if_passed c6 rest))) rest h4 in
    let h2 = then_passed f Places s.places p3 (if_passed c3 (if_passed c4 (if_passed c5 (if_passed c6 rest)))) rest h3 in
    then_passed f Nest (suc s.nest) p2 (if_passed c2 (if_passed c3 (if_passed c4 (if_passed c5 (if_passed c6 rest))))) rest h2

-- ---- programs

table_more : (known : List ℕ → Size) (f : List ℕ) (s : Size) → with_instance (instances_in known) f (instance_with s) ≡ instances_in (sizes.with_node known f s)
table_more known f s = λ i x. by x (bytes_eq f x) i
  where
    by : (x : List ℕ) (b : Bool) → (if b then instance_with s else instance_with (known x)) ≡ instance_with (if b then s else known x)
    by x true = refl
    by x false = refl

items_passed : (known : List ℕ → Size) (before : ℕ) (items : List Item) → ItemsArePlain items → ItemsTests items → first_passed (counts_in (instances_in known) before items) ≡ walk.in_items known before items
items_passed known before [] h t = refl
items_passed known before (TypeItem y ∷ items) h t = items_passed known before items h t
items_passed known before (NodeItem n ∷ items) h t =
    let a = plain.in_node n in
    let s = size_of known a in
    let e : s ≡ sizes.in_node known n = sym (node_same known n h.0 t.0) in
    let others = counts_in (instances_in (sizes.with_node known n.name s)) (before + s.places) items in
    let rest = items_passed (sizes.with_node known n.name s) (before + s.places) items h.1 t.1 in
    ap (λ (i : Instance). first_passed (counts_of_node n.name before a i ++ counts_in (with_instance (instances_in known) n.name i) (before + a.places) items)) (instance_same known a)
    ∙ (λ j. first_passed (counts_of_node n.name before a (instance_with s) ++ counts_in (table_more known n.name s j) (before + places_same known a j) items))
    ∙ node_passed n.name before known a others
    ∙ ap (at_node n.name (passed_by before s)) rest
    ∙ ap (λ (z : Size). at_node n.name (passed_by before z) (walk.in_items (sizes.with_node known n.name z) (before + z.places) items)) e

pub plain_counts : (items : List Item) → ItemsArePlain items → ItemsTests items → first_passed (counts items) ≡ walk.limit_of items
plain_counts items h t = items_passed sizes.nothing_known 0 items h t

-- ---- limits that are kept

kept : (c : Count) (others : Option (List ℕ × Limit)) → if_passed c others ≡ None → (c.count ≤ most c.what) × (others ≡ None)
unfolding if_passed
kept c others h = by (nat_lt (most c.what) c.count) refl h
  where
    by : (b : Bool) → nat_lt (most c.what) c.count ≡ b → (if b then Some (c.node, record { what = c.what; found = suc (most c.what) }) else others) ≡ None → (c.count ≤ most c.what) × (others ≡ None)
    by true e p = absurd cc
    by false e p = (grind (arith, nat_tests), p)

not_passed : (m n : ℕ) → n ≤ m → nat_lt m n ≡ false
not_passed m n h = grind (arith, nat_tests)

keeps : (c : Count) (others : Option (List ℕ × Limit)) → c.count ≤ most c.what → if_passed c others ≡ others
unfolding if_passed
keeps c others h = ap (λ b. if b then Some (c.node, record { what = c.what; found = suc (most c.what) }) else others) (not_passed (most c.what) c.count h)

keep_none : (cs : List Count) → KeepLimits cs → first_passed cs ≡ None
keep_none [] h = refl
keep_none (c ∷ cs) h = keeps c (first_passed cs) h.0 ∙ keep_none cs h.1

none_keep : (cs : List Count) → first_passed cs ≡ None → KeepLimits cs
none_keep [] h = tt
none_keep (c ∷ cs) h = let k = kept c (first_passed cs) h in (k.0, none_keep cs k.1)

pub keep_limits : (cs : List Count) → KeepLimits cs ↔ (first_passed cs ≡ None)
keep_limits cs = (keep_none cs, none_keep cs)
