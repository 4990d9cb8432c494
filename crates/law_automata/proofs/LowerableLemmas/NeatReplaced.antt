-- Neat programs stay neat where inlined calls are replaced: what is counted of a program bounds the levels of its blocks afterwards.
use Rattle.std.proofs.Common.{◌≡◌, ℕ, zero, suc, ◌+◌, ◌≤◌, Bool, true, false, if◌then◌else◌, List, [], ◌∷◌, ◌++◌, refl, ap, subst, arith}
use Rattle.std.specs.Prelude.{⊤, Option, None, Some}
use Rattle.std.specs.Str.{bytes_eq}
use Rattle.hp_base.specs.declared.span.Span.{Span}
use Rattle.hp_tree.specs.declared.program.Item.{Item}
use Rattle.hp_tree.specs.declared.program.Item.TheVariants.{TypeItem, NodeItem}
use Rattle.hp_tree.specs.Expressions.{Expr, constant, variable, last_of, one, two, choose, pre, fby, arrow, when_is, merge, call, Exprs, no_expr, more_exprs, Parts, no_part, more_parts}
use Rattle.hp_tree.specs.Blocks.{Decl, Block, block, Eqns, no_eqn, more_eqns, Eqn, define, switch, reset, automaton, Arms, no_arm, more_arms, States, no_state, more_states, eqns_of, list_of_eqns}
use Rattle.hp_tree.specs.Programs.{Contract, Node}
use Rattle.law_judged.specs.Named.Scoped.{EachNode}
use Rattle.hp_expand.specs.NewNames.{marked}
use Rattle.hp_expand.specs.Renaming.{renamed_decls, renamed_eqns}
use Rattle.hp_expand.specs.Replacing.{given, equations_of, inlined_call, defined_by, in_expr, in_exprs, in_parts, in_definition, in_block, in_eqns, in_eqn, in_arms, in_states, in_condition, in_contract, in_node}
use Rattle.hp_expand.specs.Numbering.{replaced_node, with_node, replaced_items, no_node, replaced}
use Rattle.hp_expand.specs.Sizes as sizes
use Rattle.hp_expand.specs.Sizes.{places, join, deeper, called, of_call}
use Rattle.hp_expand.specs.Formed.{AreWithin, KeepsLimits}
use Rattle.law_automata.specs.Lowered.Removable.{is_state}
use Rattle.law_automata.proofs.LowerableLemmas.Neat.{StateNames, BlockNeat, EqnsNeat, EqnNeat, ArmsNeat, StatesNeat, InnerNeat, ContractNeat, NodeNeat, levels}
use Rattle.law_automata.proofs.LowerableLemmas.NeatKept.{names_of, same_states, same_bounds, More, row_more, eqns_renamed, node_numbered}

abbrev TypeOf : {A : Type 0} → A → Type 0
TypeOf {A} a = A

-- what is counted of a part: its crate keeps the name of this type to itself
abbrev Size : Type 0
Size = TypeOf sizes.none

-- ---- levels of parts

left_level : (a b : Size) (room : ℕ) → (join a b).nest ≤ room → a.nest ≤ room
unfolding join
left_level a b room h = omega (arith, h)

right_level : (a b : Size) (room : ℕ) → (join a b).nest ≤ room → b.nest ≤ room
unfolding join
right_level a b room h = omega (arith, h)

deeper_level : (a : Size) (room : ℕ) → (deeper a).nest ≤ room → suc a.nest ≤ room
unfolding deeper
deeper_level a room h = h

inside_level : (names : ℕ) (inside args : Size) (room : ℕ) → (of_call names true inside args).nest ≤ room → inside.nest ≤ room
unfolding join places of_call
inside_level names inside args room h = omega (arith, h)

args_level : (names : ℕ) (inlined : Bool) (inside args : Size) (room : ℕ) → (of_call names inlined inside args).nest ≤ room → args.nest ≤ room
unfolding join places of_call called
args_level names true inside args room h = omega (arith, h)
args_level names false inside args room h = omega (arith, h)

-- ---- equations in a list

abbrev ListNeat : ℕ → List Eqn → Type 0
ListNeat room [] = ⊤
ListNeat room (e ∷ es) = EqnNeat room e × ListNeat room es

list_neat : (room : ℕ) (es : Eqns) → EqnsNeat room es → ListNeat room (list_of_eqns es)
list_neat room no_eqn h = tt
list_neat room (more_eqns e es) h = (h.0, list_neat room es h.1)

row_neat : (room : ℕ) (es : List Eqn) → ListNeat room es → EqnsNeat room (eqns_of es)
row_neat room [] h = tt
row_neat room (e ∷ es) h = (h.0, row_neat room es h.1)

both_neat : (room : ℕ) (es fs : List Eqn) → ListNeat room es → ListNeat room fs → ListNeat room (es ++ fs)
both_neat room [] fs h k = k
both_neat room (e ∷ es) fs h k = (h.0, both_neat room es fs h.1 k)

given_neat : (room : ℕ) (ds : List Decl) (es : Exprs) → ListNeat room (given ds es)
given_neat room [] es = tt
given_neat room (d ∷ ds) no_expr = tt
given_neat room (d ∷ ds) (more_exprs e es) = (tt, given_neat room ds es)

defined_neat : (room : ℕ) (s : Span) (xs : List (List ℕ × Span)) (at : Span) (ys : List (List ℕ)) → ListNeat room (defined_by s xs at ys)
defined_neat room s [] at ys = tt
defined_neat room s (x ∷ xs) at [] = tt
defined_neat room s (x ∷ xs) at (y ∷ ys) = (tt, defined_neat room s xs at ys)

equations_neat : (room : ℕ) (b : Block) → BlockNeat room b → EqnsNeat room (equations_of b)
equations_neat room (block ds es) h = h

-- an inner block for which there is room
pub inner_at : (room n : ℕ) (d : Block) → suc n ≤ room → ((r : ℕ) → n ≤ r → BlockNeat r d) → InnerNeat room d
inner_at zero n d h f = absurd (omega (arith, h))
inner_at (suc room) n d h f = (room, (refl, f room (omega (arith, h))))

-- ---- replacing

module _ (known : List ℕ → Size) (nodes : List ℕ → Node) (bodies : (f : List ℕ) → BlockNeat (known f).nest (nodes f).body) where
  call_before : (room : ℕ) (f : List ℕ) (k : ℕ) (es : Exprs) → (known f).nest ≤ room → ListNeat room (in_exprs nodes k es).before → ListNeat room (inlined_call (nodes f) (in_exprs nodes k es)).before
  call_before room f k es l h =
      let args = in_exprs nodes k es in
      let to = marked args.next in
      let n = nodes f in
      let told = given (renamed_decls to n.inputs) args.part in
      let made = renamed_eqns to (equations_of n.body) in
      both_neat room args.before (told ++ list_of_eqns made) h
      (both_neat room told (list_of_eqns made) (given_neat room (renamed_decls to n.inputs) args.part)
      (list_neat room made (eqns_renamed to (known f).nest room l (equations_of n.body) (equations_neat (known f).nest n.body (bodies f)))))

  two_before : (room k : ℕ) (a b : Expr) → ListNeat room (in_expr nodes k a).before → ListNeat room (in_expr nodes (in_expr nodes k a).next b).before → ListNeat room ((in_expr nodes k a).before ++ (in_expr nodes (in_expr nodes k a).next b).before)
  two_before room k a b h l = both_neat room (in_expr nodes k a).before (in_expr nodes (in_expr nodes k a).next b).before h l

  -- what stands in one or two operands
  one_level : (room : ℕ) (a : Size) → (join (places 1) a).nest ≤ room → a.nest ≤ room
  one_level room a h = right_level (places 1) a room h

  first_level : (room : ℕ) (a b : Size) → (join (places 1) (join a b)).nest ≤ room → a.nest ≤ room
  first_level room a b h = left_level a b room (one_level room (join a b) h)

  second_level : (room : ℕ) (a b : Size) → (join (places 1) (join a b)).nest ≤ room → b.nest ≤ room
  second_level room a b h = right_level a b room (one_level room (join a b) h)

  mutual
    expr_before : (room k : ℕ) (e : Expr) → (sizes.in_expr known e).nest ≤ room → ListNeat room (in_expr nodes k e).before
    expr_before room k (constant at c) l = tt
    expr_before room k (variable at x) l = tt
    expr_before room k (last_of at x) l = tt
    expr_before room k (one at o a) l = expr_before room k a (one_level room (sizes.in_expr known a) l)
    expr_before room k (two at o a b) l =
        two_before room k a b (expr_before room k a (first_level room (sizes.in_expr known a) (sizes.in_expr known b) l))
        (expr_before room (in_expr nodes k a).next b (second_level room (sizes.in_expr known a) (sizes.in_expr known b) l))
    expr_before room k (choose at a b c) l =
        let j = (in_expr nodes k a).next in
        let i = (in_expr nodes j b).next in
        let m = second_level room (sizes.in_expr known a) (join (sizes.in_expr known b) (sizes.in_expr known c)) l in
        both_neat room (in_expr nodes k a).before ((in_expr nodes j b).before ++ (in_expr nodes i c).before)
        (expr_before room k a (first_level room (sizes.in_expr known a) (join (sizes.in_expr known b) (sizes.in_expr known c)) l))
        (both_neat room (in_expr nodes j b).before (in_expr nodes i c).before (expr_before room j b (left_level (sizes.in_expr known b) (sizes.in_expr known c) room m))
        (expr_before room i c (right_level (sizes.in_expr known b) (sizes.in_expr known c) room m)))
    expr_before room k (pre at a) l = expr_before room k a (one_level room (sizes.in_expr known a) l)
    expr_before room k (fby at a b) l =
        two_before room k a b (expr_before room k a (first_level room (sizes.in_expr known a) (sizes.in_expr known b) l))
        (expr_before room (in_expr nodes k a).next b (second_level room (sizes.in_expr known a) (sizes.in_expr known b) l))
    expr_before room k (arrow at a b) l =
        two_before room k a b (expr_before room k a (first_level room (sizes.in_expr known a) (sizes.in_expr known b) l))
        (expr_before room (in_expr nodes k a).next b (second_level room (sizes.in_expr known a) (sizes.in_expr known b) l))
    expr_before room k (when_is at a c x) l = expr_before room k a (one_level room (sizes.in_expr known a) l)
    expr_before room k (merge at x ps) l = parts_before room k ps (one_level room (sizes.in_parts known ps) l)
    expr_before room k (call at f false es) l = exprs_before room k es (args_level 1 false (known f) (sizes.in_exprs known es) room l)
    expr_before room k (call at f true es) l =
        call_before room f k es (inside_level 1 (known f) (sizes.in_exprs known es) room l) (exprs_before room k es (args_level 1 true (known f) (sizes.in_exprs known es) room l))

    exprs_before : (room k : ℕ) (es : Exprs) → (sizes.in_exprs known es).nest ≤ room → ListNeat room (in_exprs nodes k es).before
    exprs_before room k no_expr l = tt
    exprs_before room k (more_exprs e es) l =
        both_neat room (in_expr nodes k e).before (in_exprs nodes (in_expr nodes k e).next es).before (expr_before room k e (left_level (sizes.in_expr known e) (sizes.in_exprs known es) room l))
        (exprs_before room (in_expr nodes k e).next es (right_level (sizes.in_expr known e) (sizes.in_exprs known es) room l))

    parts_before : (room k : ℕ) (ps : Parts) → (sizes.in_parts known ps).nest ≤ room → ListNeat room (in_parts nodes k ps).before
    parts_before room k no_part l = tt
    parts_before room k (more_parts c e ps) l =
        both_neat room (in_expr nodes k e).before (in_parts nodes (in_expr nodes k e).next ps).before (expr_before room k e (left_level (sizes.in_expr known e) (sizes.in_parts known ps) room l))
        (parts_before room (in_expr nodes k e).next ps (right_level (sizes.in_expr known e) (sizes.in_parts known ps) room l))

  abbrev Both : ℕ → ℕ → Span → List (List ℕ × Span) → Expr → Type 0
  Both room k s xs e = ListNeat room (in_definition nodes k s xs e).before × ListNeat room (in_definition nodes k s xs e).part

  definition_neat : (room names k : ℕ) (s : Span) (xs : List (List ℕ × Span)) (e : Expr) → (sizes.in_right known names e).nest ≤ room → Both room k s xs e
  definition_neat room names k s xs (constant at c) l = (tt, (tt, tt))
  definition_neat room names k s xs (variable at x) l = (tt, (tt, tt))
  definition_neat room names k s xs (last_of at x) l = (tt, (tt, tt))
  definition_neat room names k s xs (one at o a) l = (expr_before room k (one at o a) l, (tt, tt))
  definition_neat room names k s xs (two at o a b) l = (expr_before room k (two at o a b) l, (tt, tt))
  definition_neat room names k s xs (choose at a b c) l = (expr_before room k (choose at a b c) l, (tt, tt))
  definition_neat room names k s xs (pre at a) l = (expr_before room k (pre at a) l, (tt, tt))
  definition_neat room names k s xs (fby at a b) l = (expr_before room k (fby at a b) l, (tt, tt))
  definition_neat room names k s xs (arrow at a b) l = (expr_before room k (arrow at a b) l, (tt, tt))
  definition_neat room names k s xs (when_is at a c x) l = (expr_before room k (when_is at a c x) l, (tt, tt))
  definition_neat room names k s xs (merge at x ps) l = (expr_before room k (merge at x ps) l, (tt, tt))
  definition_neat room names k s xs (call at f false es) l = (exprs_before room k es (args_level names false (known f) (sizes.in_exprs known es) room l), (tt, tt))
  definition_neat room names k s xs (call at f true es) l = (
    call_before room f k es (inside_level names (known f) (sizes.in_exprs known es) room l) (exprs_before room k es (args_level names true (known f) (sizes.in_exprs known es) room l)),
    defined_neat room s xs at (inlined_call (nodes f) (in_exprs nodes k es)).part,
  )

  names_replaced : (k : ℕ) (ss : States) → names_of (in_states nodes k ss).part ≡ names_of ss
  names_replaced k no_state = refl
  names_replaced k (more_states f b until unless s ss) = ap (λ fs. f ∷ fs) (names_replaced (in_block nodes k b).next ss)

  mutual
    -- it is neat with its inlined calls, and has no more levels than are counted
    block_replaced : (own room k : ℕ) (b : Block) → BlockNeat own b → (sizes.in_block known b).nest ≤ room → BlockNeat room (in_block nodes k b).part
    block_replaced own room k (block ds es) h l = eqns_replaced own room k es h (right_level _ (sizes.in_eqns known es) room l)

    eqns_replaced : (own room k : ℕ) (es : Eqns) → EqnsNeat own es → (sizes.in_eqns known es).nest ≤ room → EqnsNeat room (in_eqns nodes k es).part
    eqns_replaced own room k no_eqn h l = tt
    eqns_replaced own room k (more_eqns e es) h l =
        let here = in_eqn nodes k e in
        let rest = (in_eqns nodes here.next es).part in
        let q = eqn_replaced own room k e h.0 (left_level (sizes.in_eqn known e) (sizes.in_eqns known es) room l) in
        row_neat room (here.before ++ (here.part ++ list_of_eqns rest))
        (both_neat room here.before (here.part ++ list_of_eqns rest) q.0
        (both_neat room here.part (list_of_eqns rest) q.1
        (list_neat room rest (eqns_replaced own room here.next es h.1 (right_level (sizes.in_eqn known e) (sizes.in_eqns known es) room l)))))

    eqn_replaced : (own room k : ℕ) (e : Eqn) → EqnNeat own e → (sizes.in_eqn known e).nest ≤ room → ListNeat room (in_eqn nodes k e).before × ListNeat room (in_eqn nodes k e).part
    eqn_replaced own room k (define s ys e) h l = definition_neat room _ k s ys e l
    eqn_replaced own room k (switch s e arms) h l = (
      expr_before room k e (left_level (sizes.in_expr known e) (sizes.in_arms known arms) room l),
      (arms_replaced own room (in_expr nodes k e).next arms h (right_level (sizes.in_expr known e) (sizes.in_arms known arms) room l), tt),
    )
    eqn_replaced own room k (reset s b e) h l =
        let j = (in_expr nodes k e).next in
        let n = sizes.in_block known b in (
          expr_before room k e (right_level (deeper n) (sizes.in_expr known e) room l),
          (inner_at room n.nest (in_block nodes j b).part (deeper_level n room (left_level (deeper n) (sizes.in_expr known e) room l)) (λ r m. block_replaced h.0 r j b h.1.1 m), tt),
        )
    eqn_replaced own room k (automaton s ss) h l =
        let rs = (in_states nodes k ss).part in
        let e = names_replaced k ss in
        (tt, ((same_bounds ss rs e h.0, states_replaced (is_state ss) (is_state rs) (same_states ss rs e) own room k ss h.1 (right_level (places 4) (sizes.in_states known ss) room l)), tt))

    arms_replaced : (own room k : ℕ) (arms : Arms) → ArmsNeat own arms → (sizes.in_arms known arms).nest ≤ room → ArmsNeat room (in_arms nodes k arms).part
    arms_replaced own room k no_arm h l = tt
    arms_replaced own room k (more_arms c b s arms) h l =
        let n = sizes.in_block known b in (
          inner_at room n.nest (in_block nodes k b).part (deeper_level n room (left_level (deeper n) (sizes.in_arms known arms) room l)) (λ r m. block_replaced h.0.0 r k b h.0.1.1 m),
          arms_replaced own room (in_block nodes k b).next arms h.1 (right_level (deeper n) (sizes.in_arms known arms) room l),
        )

    states_replaced : (names others : StateNames) → More names others → (own room k : ℕ) (ss : States) → StatesNeat names own ss → (sizes.in_states known ss).nest ≤ room → StatesNeat others room (in_states nodes k ss).part
    states_replaced names others m own room k no_state h l = tt
    states_replaced names others m own room k (more_states f b until unless s ss) h l =
        let n = sizes.in_block known b in
        let tests = join (sizes.in_transitions known until) (sizes.in_transitions known unless) in
        let one = join (deeper n) tests in (
          inner_at room n.nest (in_block nodes k b).part (deeper_level n room (left_level (deeper n) tests room (left_level one (sizes.in_states known ss) room l))) (λ r o. block_replaced h.0.0 r k b h.0.1.1 o),
          (
            (row_more names others m until h.1.0.0, row_more names others m unless h.1.0.1),
            states_replaced names others m own room (in_block nodes k b).next ss h.1.1 (right_level one (sizes.in_states known ss) room l),
          ),
        )

  condition_before : (room k : ℕ) (o : Option Expr) → (sizes.in_condition known o).nest ≤ room → ListNeat room (in_condition nodes k o).before
  condition_before room k None l = tt
  condition_before room k (Some e) l = expr_before room k e l

  observer_level : (b : Block) (room : ℕ) → (sizes.in_block known b).nest ≤ room → (sizes.in_eqns known (equations_of b)).nest ≤ room
  observer_level (block ds es) room l = right_level _ (sizes.in_eqns known es) room l

  contract_replaced : (own room : ℕ) (o : Option Contract) → ContractNeat own o → (sizes.in_contract known o).nest ≤ room → ContractNeat room (in_contract nodes 1 o).part
  contract_replaced own room None h l = tt
  contract_replaced own room (Some c) h l =
      let es = in_eqns nodes 1 (equations_of c.body) in
      let assume = in_condition nodes es.next c.assume in
      let enforce = in_condition nodes assume.next c.enforce in
      let told = join (sizes.in_condition known c.assume) (sizes.in_condition known c.enforce) in
      let inside = right_level _ (join (sizes.in_block known c.body) told) room l in
      let both = right_level (sizes.in_block known c.body) told room inside in
      row_neat room (list_of_eqns es.part ++ (assume.before ++ enforce.before))
      (both_neat room (list_of_eqns es.part) (assume.before ++ enforce.before)
      (list_neat room es.part (eqns_replaced own room 1 (equations_of c.body) (equations_neat own c.body h) (observer_level c.body room (left_level (sizes.in_block known c.body) told room inside))))
      (both_neat room assume.before enforce.before
      (condition_before room es.next c.assume (left_level (sizes.in_condition known c.assume) (sizes.in_condition known c.enforce) room both))
      (condition_before room assume.next c.enforce (right_level (sizes.in_condition known c.assume) (sizes.in_condition known c.enforce) room both))))

  node_replaced : (own room : ℕ) (n : Node) → NodeNeat own n → (sizes.in_node known n).nest ≤ room → NodeNeat room (replaced_node nodes n)
  node_replaced own room n h l =
      let parts = join (sizes.in_contract known n.contract) (sizes.in_block known n.body) in
      let inside = right_level _ parts room l in
      node_numbered room (in_node nodes n) (
        contract_replaced own room n.contract h.0 (left_level (sizes.in_contract known n.contract) (sizes.in_block known n.body) room inside),
        block_replaced own room (in_contract nodes 1 n.contract).next n.body h.1 (right_level (sizes.in_contract known n.contract) (sizes.in_block known n.body) room inside),
      )

-- ---- programs

with_neat : (known : List ℕ → Size) (nodes : List ℕ → Node) (name : List ℕ) (m : Node) (s : Size) → m.name ≡ name → ((f : List ℕ) → BlockNeat (known f).nest (nodes f).body) → BlockNeat s.nest m.body → (f : List ℕ) → BlockNeat (sizes.with_node known name s f).nest (with_node nodes m f).body
with_neat known nodes name m s e h k f = subst (λ z. BlockNeat (sizes.with_node known z s f).nest (with_node nodes m f).body) e (by (bytes_eq m.name f))
  where
    by : (b : Bool) → BlockNeat (if b then s else known f).nest (if b then m else nodes f).body
    by true = k
    by false = h f

items_neat : (own : ℕ) (known : List ℕ → Size) (nodes : List ℕ → Node) (total : ℕ) → ((f : List ℕ) → BlockNeat (known f).nest (nodes f).body) → (items : List Item) → EachNode (NodeNeat own) items → AreWithin known total items → EachNode (NodeNeat levels) (replaced_items nodes items)
items_neat own known nodes total h [] p w = tt
items_neat own known nodes total h (TypeItem t ∷ items) p w = items_neat own known nodes total h items p w
items_neat own known nodes total h (NodeItem n ∷ items) p w =
    let s = sizes.in_node known n in
    let few : suc s.nest ≤ 64 = w.0.nest in (
      node_replaced known nodes h own levels n p.0 (omega (arith, few)),
      items_neat own (sizes.with_node known n.name s) (with_node nodes (replaced_node nodes n)) (total + s.places)
          (with_neat known nodes n.name (replaced_node nodes n) s refl h (node_replaced known nodes h own s.nest n p.0 (omega arith)).1) items p.1 w.1,
    )

pub program_neat : (own : ℕ) (program : List Item) → EachNode (NodeNeat own) program → KeepsLimits program → EachNode (NodeNeat levels) (replaced program)
program_neat own program p w = items_neat own sizes.nothing_known no_node 0 (λ f. tt) program p w
