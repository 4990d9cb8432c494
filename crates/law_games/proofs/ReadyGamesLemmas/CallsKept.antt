-- Where contracts have their shapes, no call is left in the contracts of the replaced program.
use Rattle.std.proofs.Common.{◌≡◌, ℕ, ◌+◌, List, [], ◌∷◌, ◌++◌, map, refl, sym, ap, subst}
use Rattle.std.specs.Prelude.{⊤, Bool, true, false, fold, if◌then◌else◌, Option, None, Some, option_map}
use Rattle.std.specs.Str.{bytes_eq}
use Rattle.hp_base.specs.declared.span.Span.{Span}
use Rattle.hp_tree.specs.declared.block.Trans.{Trans}
use Rattle.hp_tree.specs.declared.program.Item.{Item}
use Rattle.hp_tree.specs.declared.program.Item.TheVariants.{TypeItem, NodeItem}
use Rattle.hp_tree.specs.Expressions.{Expr, constant, variable, last_of, one, two, choose, pre, fby, arrow, when_is, merge, call, Exprs, no_expr, more_exprs, Parts, no_part, more_parts}
use Rattle.hp_tree.specs.Blocks.{Decl, Block, block, Eqns, no_eqn, more_eqns, Eqn, define, switch, reset, automaton, Arms, no_arm, more_arms, States, no_state, more_states, eqns_of, list_of_eqns}
use Rattle.hp_tree.specs.Programs.{Contract, Node}
use Rattle.hp_tree.specs.Instant.{Body, Equations, Head, Tail, Arms as ArmsOf, States as StatesOf, Place}
use Rattle.hp_meaning.specs.Causal.Sources.{below}
use Rattle.hp_meaning.specs.Clocking.Clocking.{Assignment, in_observer, with_clocks, all_with_clocks, one_with_clocks, arms_with_clocks, states_with_clocks, contract_with_clocks, node_with_clocks}
use Rattle.hp_clocks.specs.Writing.{AreWritten}
use Rattle.hp_clocks.specs.Answers.{IsClocked}
use Rattle.law_judged.specs.Named.Scoped.{EachNode}
use Rattle.hp_expand.specs.Renaming.{renamed, renamed_parts, renamed_decls, renamed_transition, renamed_block, renamed_eqns, renamed_eqn, renamed_arms, renamed_states}
use Rattle.hp_expand.specs.NewNames.{marked}
use Rattle.hp_expand.specs.Replacing.{Replaced, output_at, given, equations_of, inlined_call, defined_by, in_expr, in_exprs, in_parts, in_definition, in_block, in_eqns, in_eqn, in_arms, in_states, in_condition, in_contract, in_node}
use Rattle.hp_expand.specs.Numbering as numbering
use Rattle.hp_expand.specs.Numbering.{declaring, declaring_in, new_in_decls, new_in_block, new_in_eqns, new_in_eqn, same_name, behind, replaced_node, with_node, replaced_items, no_node, replaced}
use Rattle.hp_base.specs.First.First.{itself}
use Rattle.hp_base.proofs.FirstLemmas.FirstLaws.{sooner-found}
use Rattle.hp_expand.specs.Shapes as shapes
use Rattle.hp_expand.specs.Shapes.{Mark, plain_at, bound_at, integer_at, no_form, of_call, see, nothing, found_after, with_form, form_of}
use Rattle.hp_expand.specs.Formed.{MakeNoPlainCall, InlineNoContract, IsShaped, AreShaped, HasShapes}
use Rattle.hp_meaning.specs.Contract.Forgetting.{ContractsCallNothing}
use Rattle.law_values.specs.Valued.Judged.{PlainExpr, PlainTests, IsPlain, AllPlain, OnePlain, ArmsPlain, StatesPlain, PlainContract}
use Rattle.law_values.specs.Accepted.Written.{NodePlain}
use Rattle.law_games.proofs.SettledLemmas.Calling.{ExprCalls, ExprsCall, PartsCall, TestsCall, BlockCalls, EqnsCall, EqnCalls, ArmsCall, StatesCall, ToldCalls, ContractCalls}
use Rattle.law_games.specs.ReadyGames.Conditions.{StrongPlain, AllStrongPlain, OneStrongPlain, ArmsStrongPlain, StatesStrongPlain, ContractStrongPlain, NodeStrongPlain}
use Rattle.law_games.proofs.ReadyGamesLemmas.NoPoints.{no_calls_in_contract}

abbrev TypeOf : {A : Type 0} → A → Type 0
TypeOf {A} a = A

-- the form of a node, and what is found in it, as shapes have them
abbrev Form : Type 0
Form = TypeOf no_form

abbrev Found : Type 0
Found = TypeOf nothing

-- ---- marks of integers alone: no plain call, and no inlined call of a node with a contract

abbrev Clean : List Mark → Type 0
Clean [] = ⊤
Clean (plain_at at ∷ ms) = ⊥
Clean (bound_at at ∷ ms) = ⊥
Clean (integer_at at ∷ ms) = Clean ms

clean_of : (ms : List Mark) → MakeNoPlainCall ms → InlineNoContract ms → Clean ms
clean_of [] h k = tt
clean_of (plain_at at ∷ ms) h k = absurd h
clean_of (bound_at at ∷ ms) h k = absurd k
clean_of (integer_at at ∷ ms) h k = clean_of ms h k

front : (ms ns : List Mark) → Clean (ms ++ ns) → Clean ms
front [] ns h = tt
front (plain_at at ∷ ms) ns h = absurd h
front (bound_at at ∷ ms) ns h = absurd h
front (integer_at at ∷ ms) ns h = front ms ns h

back : (ms ns : List Mark) → Clean (ms ++ ns) → Clean ns
back [] ns h = h
back (plain_at at ∷ ms) ns h = absurd h
back (bound_at at ∷ ms) ns h = absurd h
back (integer_at at ∷ ms) ns h = back ms ns h

-- a plain call is none of these; of an inlined one the node has no contract, and makes no plain call
no_plain_call : (at : Span) (form : Form) → Clean (of_call at false form) → ⊥
unfolding of_call
no_plain_call at form h = h

clean_call : (at : Span) (form : Form) → Clean (of_call at true form) → (form.has_contract ≡ false) × (form.plain ≡ None)
unfolding of_call
clean_call at form h = by form.has_contract form.plain refl refl h
  where
    by : (b : Bool) (o : Option Span) → form.has_contract ≡ b → form.plain ≡ o → Clean (if b then bound_at at ∷ [] else shapes.brings o) → (form.has_contract ≡ false) × (form.plain ≡ None)
    by true o e p h = absurd h
    by false None e p h = (e, p)
    by false (Some s) e p h = absurd h

-- where no plain call is found there is none
none_plain : (ms : List Mark) (f : Found) → (fold see f ms).plain ≡ None → (f.plain ≡ None) × MakeNoPlainCall ms
none_plain [] f h = (h, tt)
none_plain (plain_at at ∷ ms) f h = absurd (sooner-found itself f.plain at (none_plain ms (see f (plain_at at)) h).0)
none_plain (bound_at at ∷ ms) f h = none_plain ms (see f (bound_at at)) h
none_plain (integer_at at ∷ ms) f h = none_plain ms (see f (integer_at at)) h

none_found : (ms : List Mark) → (found_after nothing ms).plain ≡ None → MakeNoPlainCall ms
unfolding found_after
none_found ms h = (none_plain ms nothing h).1

-- ---- plain conditions make no call

plain_calls : (e : Expr) → PlainExpr e → ExprCalls false e
plain_calls (constant at c) h = tt
plain_calls (variable at x) h = tt
plain_calls (last_of at x) h = tt
plain_calls (one at o a) h = plain_calls a h
plain_calls (two at o a b) h = (plain_calls a h.0, plain_calls b h.1)
plain_calls (choose at a b c) h = (plain_calls a h.0, (plain_calls b h.1.0, plain_calls c h.1.1))
plain_calls (pre at a) h = absurd h
plain_calls (fby at a b) h = absurd h
plain_calls (arrow at a b) h = absurd h
plain_calls (when_is at a c x) h = absurd h
plain_calls (merge at x ps) h = absurd h
plain_calls (call at f inlined es) h = absurd h

plain_tests : (ts : List Trans) → PlainTests ts → TestsCall false ts
plain_tests [] h = tt
plain_tests (t ∷ ts) h = (plain_calls t.cond h.0, plain_tests ts h.1)

-- ---- renaming keeps what calls nothing

mutual
  expr_renamed : (to : List ℕ → List ℕ) (e : Expr) → ExprCalls false e → ExprCalls false (renamed to e)
  expr_renamed to (constant at c) h = tt
  expr_renamed to (variable at x) h = tt
  expr_renamed to (last_of at x) h = tt
  expr_renamed to (one at o a) h = expr_renamed to a h
  expr_renamed to (two at o a b) h = (expr_renamed to a h.0, expr_renamed to b h.1)
  expr_renamed to (choose at a b c) h = (expr_renamed to a h.0, (expr_renamed to b h.1.0, expr_renamed to c h.1.1))
  expr_renamed to (pre at a) h = expr_renamed to a h
  expr_renamed to (fby at a b) h = (expr_renamed to a h.0, expr_renamed to b h.1)
  expr_renamed to (arrow at a b) h = (expr_renamed to a h.0, expr_renamed to b h.1)
  expr_renamed to (when_is at a c x) h = expr_renamed to a h
  expr_renamed to (merge at x ps) h = parts_renamed to ps h
  expr_renamed to (call at f inlined es) h = absurd (cc)

  parts_renamed : (to : List ℕ → List ℕ) (ps : Parts) → PartsCall false ps → PartsCall false (renamed_parts to ps)
  parts_renamed to no_part h = tt
  parts_renamed to (more_parts c e ps) h = (expr_renamed to e h.0, parts_renamed to ps h.1)

tests_renamed : (to : List ℕ → List ℕ) (ts : List Trans) → TestsCall false ts → TestsCall false (map (renamed_transition to) ts)
tests_renamed to [] h = tt
tests_renamed to (t ∷ ts) h = (expr_renamed to t.cond h.0, tests_renamed to ts h.1)

mutual
  block_renamed : (to : List ℕ → List ℕ) (b : Block) → BlockCalls false b → BlockCalls false (renamed_block to b)
  block_renamed to (block ds es) h = eqns_renamed to es h

  eqns_renamed : (to : List ℕ → List ℕ) (es : Eqns) → EqnsCall false es → EqnsCall false (renamed_eqns to es)
  eqns_renamed to no_eqn h = tt
  eqns_renamed to (more_eqns e es) h = (eqn_renamed to e h.0, eqns_renamed to es h.1)

  eqn_renamed : (to : List ℕ → List ℕ) (e : Eqn) → EqnCalls false e → EqnCalls false (renamed_eqn to e)
  eqn_renamed to (define s ys e) h = expr_renamed to e h
  eqn_renamed to (switch s e arms) h = (expr_renamed to e h.0, arms_renamed to arms h.1)
  eqn_renamed to (reset s b e) h = (expr_renamed to e h.0, block_renamed to b h.1)
  eqn_renamed to (automaton s ss) h = states_renamed to ss h

  arms_renamed : (to : List ℕ → List ℕ) (arms : Arms) → ArmsCall false arms → ArmsCall false (renamed_arms to arms)
  arms_renamed to no_arm h = tt
  arms_renamed to (more_arms c b s arms) h = (block_renamed to b h.0, arms_renamed to arms h.1)

  states_renamed : (to : List ℕ → List ℕ) (ss : States) → StatesCall false ss → StatesCall false (renamed_states to ss)
  states_renamed to no_state h = tt
  states_renamed to (more_states f b until unless s ss) h = (block_renamed to b h.0, (tests_renamed to until h.1.0, (tests_renamed to unless h.1.1.0, states_renamed to ss h.1.1.1)))

-- ---- so does numbering

mutual
  block_numbered : (to : List ℕ → List ℕ) (k : ℕ) (b : Block) → BlockCalls false b → BlockCalls false (numbering.in_block to k b)
  block_numbered to k (block ds es) h = eqns_numbered (declaring to k ds) (k + new_in_decls ds) es h

  eqns_numbered : (to : List ℕ → List ℕ) (k : ℕ) (es : Eqns) → EqnsCall false es → EqnsCall false (numbering.in_eqns to k es)
  eqns_numbered to k no_eqn h = tt
  eqns_numbered to k (more_eqns e es) h = (eqn_numbered to k e h.0, eqns_numbered to (k + new_in_eqn e) es h.1)

  eqn_numbered : (to : List ℕ → List ℕ) (k : ℕ) (e : Eqn) → EqnCalls false e → EqnCalls false (numbering.in_eqn to k e)
  eqn_numbered to k (define s ys e) h = expr_renamed to e h
  eqn_numbered to k (switch s e arms) h = (expr_renamed to e h.0, arms_numbered to k arms h.1)
  eqn_numbered to k (reset s b e) h = (expr_renamed to e h.0, block_numbered to k b h.1)
  eqn_numbered to k (automaton s ss) h = states_numbered to k ss h

  arms_numbered : (to : List ℕ → List ℕ) (k : ℕ) (arms : Arms) → ArmsCall false arms → ArmsCall false (numbering.in_arms to k arms)
  arms_numbered to k no_arm h = tt
  arms_numbered to k (more_arms c b s arms) h = (block_numbered to k b h.0, arms_numbered to (k + new_in_block b) arms h.1)

  states_numbered : (to : List ℕ → List ℕ) (k : ℕ) (ss : States) → StatesCall false ss → StatesCall false (numbering.in_states to k ss)
  states_numbered to k no_state h = tt
  states_numbered to k (more_states f (block ds es) until unless s ss) h = (
    eqns_numbered (declaring to k ds) (k + new_in_decls ds) es h.0,
    (tests_renamed (declaring to k ds) until h.1.0, (tests_renamed to unless h.1.1.0, states_numbered to (k + (new_in_decls ds + new_in_eqns es)) ss h.1.1.1)),
  )

told_numbered : (to : List ℕ → List ℕ) (o : Option Expr) → ToldCalls false o → ToldCalls false (option_map (renamed to) o)
told_numbered to None h = tt
told_numbered to (Some e) h = expr_renamed to e h

contract_numbered : (o : Option Contract) → ContractCalls false o → ContractCalls false (option_map numbering.in_contract o)
contract_numbered None h = tt
contract_numbered (Some c) h = (block_numbered same_name 1 c.body h.0, (told_numbered (declaring_in c.body) c.assume h.1.0, told_numbered (declaring_in c.body) c.enforce h.1.1))

-- ---- rows of equations

abbrev Rows : List Eqn → Type 0
Rows [] = ⊤
Rows (e ∷ es) = EqnCalls false e × Rows es

rows_of : (es : Eqns) → EqnsCall false es → Rows (list_of_eqns es)
rows_of no_eqn h = tt
rows_of (more_eqns e es) h = (h.0, rows_of es h.1)

of_rows : (es : List Eqn) → Rows es → EqnsCall false (eqns_of es)
of_rows [] h = tt
of_rows (e ∷ es) h = (h.0, of_rows es h.1)

both_rows : (es fs : List Eqn) → Rows es → Rows fs → Rows (es ++ fs)
both_rows [] fs h k = k
both_rows (e ∷ es) fs h k = (h.0, both_rows es fs h.1 k)

given_rows : (ds : List Decl) (es : Exprs) → ExprsCall false es → Rows (given ds es)
given_rows [] es h = tt
given_rows (d ∷ ds) no_expr h = tt
given_rows (d ∷ ds) (more_exprs e es) h = (h.0, given_rows ds es h.1)

defined_rows : (s : Span) (xs : List (List ℕ × Span)) (at : Span) (ys : List (List ℕ)) → Rows (defined_by s xs at ys)
defined_rows s [] at ys = tt
defined_rows s (x ∷ xs) at [] = tt
defined_rows s (x ∷ xs) at (y ∷ ys) = (tt, defined_rows s xs at ys)

output_calls : (at : Span) (xs : List (List ℕ)) → ExprCalls false (output_at at xs)
output_calls at [] = tt
output_calls at (x ∷ xs) = tt

equations_call : (b : Block) → BlockCalls false b → EqnsCall false (equations_of b)
equations_call (block ds es) h = h

-- ---- replacing inlined calls

-- of an inlined node without a contract that makes no plain call the body calls nothing
abbrev Known : (List ℕ → Form) → (List ℕ → Node) → Type 0
Known forms nodes = (f : List ℕ) → (forms f).has_contract ≡ false → (forms f).plain ≡ None → BlockCalls false (nodes f).body

module _ (forms : List ℕ → Form) (nodes : List ℕ → Node) (known : Known forms nodes) where
  call_clean : (f : List ℕ) (args : Replaced Exprs) → (forms f).has_contract ≡ false → (forms f).plain ≡ None → Rows args.before → ExprsCall false args.part → Rows (inlined_call (nodes f) args).before
  call_clean f args h k r p =
      let to = marked args.next in
      let n = nodes f in
      both_rows args.before (given (renamed_decls to n.inputs) args.part ++ list_of_eqns (renamed_eqns to (equations_of n.body))) r
      (both_rows (given (renamed_decls to n.inputs) args.part) (list_of_eqns (renamed_eqns to (equations_of n.body))) (given_rows (renamed_decls to n.inputs) args.part p)
      (rows_of (renamed_eqns to (equations_of n.body)) (eqns_renamed to (equations_of n.body) (equations_call n.body (known f h k)))))

  mutual
    expr_clean : (k : ℕ) (e : Expr) → Clean (shapes.in_expr forms e) → Rows (in_expr nodes k e).before × ExprCalls false (in_expr nodes k e).part
    expr_clean k (constant at c) h = (tt, tt)
    expr_clean k (variable at x) h = (tt, tt)
    expr_clean k (last_of at x) h = (tt, tt)
    expr_clean k (one at o a) h = expr_clean k a h
    expr_clean k (two at o a b) h =
        let j = (in_expr nodes k a).next in
        let x = expr_clean k a (front (shapes.in_expr forms a) (shapes.in_expr forms b) h) in
        let y = expr_clean j b (back (shapes.in_expr forms a) (shapes.in_expr forms b) h) in
        (both_rows (in_expr nodes k a).before (in_expr nodes j b).before x.0 y.0, (x.1, y.1))
    expr_clean k (choose at a b c) h =
        let j = (in_expr nodes k a).next in
        let i = (in_expr nodes j b).next in
        let more = shapes.in_expr forms b ++ shapes.in_expr forms c in
        let g = back (shapes.in_expr forms a) more h in
        let x = expr_clean k a (front (shapes.in_expr forms a) more h) in
        let y = expr_clean j b (front (shapes.in_expr forms b) (shapes.in_expr forms c) g) in
        let z = expr_clean i c (back (shapes.in_expr forms b) (shapes.in_expr forms c) g) in
        (both_rows (in_expr nodes k a).before ((in_expr nodes j b).before ++ (in_expr nodes i c).before) x.0 (both_rows (in_expr nodes j b).before (in_expr nodes i c).before y.0 z.0), (x.1, (y.1, z.1)))
    expr_clean k (pre at a) h = expr_clean k a h
    expr_clean k (fby at a b) h =
        let j = (in_expr nodes k a).next in
        let x = expr_clean k a (front (shapes.in_expr forms a) (shapes.in_expr forms b) h) in
        let y = expr_clean j b (back (shapes.in_expr forms a) (shapes.in_expr forms b) h) in
        (both_rows (in_expr nodes k a).before (in_expr nodes j b).before x.0 y.0, (x.1, y.1))
    expr_clean k (arrow at a b) h =
        let j = (in_expr nodes k a).next in
        let x = expr_clean k a (front (shapes.in_expr forms a) (shapes.in_expr forms b) h) in
        let y = expr_clean j b (back (shapes.in_expr forms a) (shapes.in_expr forms b) h) in
        (both_rows (in_expr nodes k a).before (in_expr nodes j b).before x.0 y.0, (x.1, y.1))
    expr_clean k (when_is at a c x) h = expr_clean k a h
    expr_clean k (merge at x ps) h = parts_clean k ps h
    expr_clean k (call at f false es) h = absurd (no_plain_call at (forms f) (front (of_call at false (forms f)) (shapes.in_exprs forms es) h))
    expr_clean k (call at f true es) h =
        let c = clean_call at (forms f) (front (of_call at true (forms f)) (shapes.in_exprs forms es) h) in
        let x = exprs_clean k es (back (of_call at true (forms f)) (shapes.in_exprs forms es) h) in
        (call_clean f (in_exprs nodes k es) c.0 c.1 x.0 x.1, output_calls at (inlined_call (nodes f) (in_exprs nodes k es)).part)

    exprs_clean : (k : ℕ) (es : Exprs) → Clean (shapes.in_exprs forms es) → Rows (in_exprs nodes k es).before × ExprsCall false (in_exprs nodes k es).part
    exprs_clean k no_expr h = (tt, tt)
    exprs_clean k (more_exprs e es) h =
        let j = (in_expr nodes k e).next in
        let x = expr_clean k e (front (shapes.in_expr forms e) (shapes.in_exprs forms es) h) in
        let y = exprs_clean j es (back (shapes.in_expr forms e) (shapes.in_exprs forms es) h) in
        (both_rows (in_expr nodes k e).before (in_exprs nodes j es).before x.0 y.0, (x.1, y.1))

    parts_clean : (k : ℕ) (ps : Parts) → Clean (shapes.in_parts forms ps) → Rows (in_parts nodes k ps).before × PartsCall false (in_parts nodes k ps).part
    parts_clean k no_part h = (tt, tt)
    parts_clean k (more_parts c e ps) h =
        let j = (in_expr nodes k e).next in
        let x = expr_clean k e (front (shapes.in_expr forms e) (shapes.in_parts forms ps) h) in
        let y = parts_clean j ps (back (shapes.in_expr forms e) (shapes.in_parts forms ps) h) in
        (both_rows (in_expr nodes k e).before (in_parts nodes j ps).before x.0 y.0, (x.1, y.1))

  -- the equations in the place of one
  abbrev Placed : Replaced (List Eqn) → Type 0
  Placed r = Rows r.before × Rows r.part

  alone : (k : ℕ) (s : Span) (xs : List (List ℕ × Span)) (e : Expr) → Clean (shapes.in_expr forms e) → Rows (in_expr nodes k e).before × Rows (define s xs (in_expr nodes k e).part ∷ [])
  alone k s xs e h = let x = expr_clean k e h in (x.0, (x.1, tt))

  definition_clean : (k : ℕ) (s : Span) (xs : List (List ℕ × Span)) (e : Expr) → Clean (shapes.in_expr forms e) → Placed (in_definition nodes k s xs e)
  definition_clean k s xs (constant at c) h = alone k s xs (constant at c) h
  definition_clean k s xs (variable at x) h = alone k s xs (variable at x) h
  definition_clean k s xs (last_of at x) h = alone k s xs (last_of at x) h
  definition_clean k s xs (one at o a) h = alone k s xs (one at o a) h
  definition_clean k s xs (two at o a b) h = alone k s xs (two at o a b) h
  definition_clean k s xs (choose at a b c) h = alone k s xs (choose at a b c) h
  definition_clean k s xs (pre at a) h = alone k s xs (pre at a) h
  definition_clean k s xs (fby at a b) h = alone k s xs (fby at a b) h
  definition_clean k s xs (arrow at a b) h = alone k s xs (arrow at a b) h
  definition_clean k s xs (when_is at a c x) h = alone k s xs (when_is at a c x) h
  definition_clean k s xs (merge at x ps) h = alone k s xs (merge at x ps) h
  definition_clean k s xs (call at f false es) h = alone k s xs (call at f false es) h
  definition_clean k s xs (call at f true es) h =
      let c = clean_call at (forms f) (front (of_call at true (forms f)) (shapes.in_exprs forms es) h) in
      let x = exprs_clean k es (back (of_call at true (forms f)) (shapes.in_exprs forms es) h) in
      (call_clean f (in_exprs nodes k es) c.0 c.1 x.0 x.1, defined_rows s xs at (inlined_call (nodes f) (in_exprs nodes k es)).part)

  mutual
    block_clean : (k : ℕ) (b : Block) → Clean (shapes.in_block forms b) → IsPlain b → StrongPlain b → BlockCalls false (in_block nodes k b).part
    block_clean k (block ds es) h p q = eqns_clean k es h p q

    eqns_clean : (k : ℕ) (es : Eqns) → Clean (shapes.in_eqns forms es) → AllPlain es → AllStrongPlain es → EqnsCall false (in_eqns nodes k es).part
    eqns_clean k no_eqn h p q = tt
    eqns_clean k (more_eqns e es) h p q =
        let here = in_eqn nodes k e in
        let rest = in_eqns nodes here.next es in
        let x = eqn_clean k e (front (shapes.in_eqn forms e) (shapes.in_eqns forms es) h) p.0 q.0 in
        let y = eqns_clean here.next es (back (shapes.in_eqn forms e) (shapes.in_eqns forms es) h) p.1 q.1 in
        of_rows (here.before ++ (here.part ++ list_of_eqns rest.part)) (both_rows here.before (here.part ++ list_of_eqns rest.part) x.0 (both_rows here.part (list_of_eqns rest.part) x.1 (rows_of rest.part y)))

    eqn_clean : (k : ℕ) (e : Eqn) → Clean (shapes.in_eqn forms e) → OnePlain e → OneStrongPlain e → Placed (in_eqn nodes k e)
    eqn_clean k (define s ys e) h p q = definition_clean k s ys e h
    eqn_clean k (switch s e arms) h p q =
        let x = expr_clean k e (front (shapes.in_expr forms e) (shapes.in_arms forms arms) h) in
        (x.0, ((x.1, arms_clean (in_expr nodes k e).next arms (back (shapes.in_expr forms e) (shapes.in_arms forms arms) h) p q), tt))
    eqn_clean k (reset s b e) h p q =
        let x = expr_clean k e (back (shapes.in_block forms b) (shapes.in_expr forms e) h) in
        (x.0, ((x.1, block_clean (in_expr nodes k e).next b (front (shapes.in_block forms b) (shapes.in_expr forms e) h) p q), tt))
    eqn_clean k (automaton s ss) h p q = (tt, (states_clean k ss h p.1 q, tt))

    arms_clean : (k : ℕ) (arms : Arms) → Clean (shapes.in_arms forms arms) → ArmsPlain arms → ArmsStrongPlain arms → ArmsCall false (in_arms nodes k arms).part
    arms_clean k no_arm h p q = tt
    arms_clean k (more_arms c b s arms) h p q = (
      block_clean k b (front (shapes.in_block forms b) (shapes.in_arms forms arms) h) p.0 q.0,
      arms_clean (in_block nodes k b).next arms (back (shapes.in_block forms b) (shapes.in_arms forms arms) h) p.1 q.1,
    )

    states_clean : (k : ℕ) (ss : States) → Clean (shapes.in_states forms ss) → StatesPlain ss → StatesStrongPlain ss → StatesCall false (in_states nodes k ss).part
    states_clean k no_state h p q = tt
    states_clean k (more_states f b until unless s ss) h p q =
        let us = shapes.in_transitions forms until in
        let vs = shapes.in_transitions forms unless in
        let rest = shapes.in_states forms ss in
        let g = back vs rest (back us (vs ++ rest) (back (shapes.in_block forms b) (us ++ (vs ++ rest)) h)) in (
          block_clean k b (front (shapes.in_block forms b) (us ++ (vs ++ rest)) h) p.0 q.0,
          (plain_tests until p.1.0, (plain_tests unless q.1.0, states_clean (in_block nodes k b).next ss g p.1.1 q.1.1)),
        )

  condition_clean : (k : ℕ) (o : Option Expr) → Clean (shapes.in_condition forms o) → Rows (in_condition nodes k o).before × ToldCalls false (in_condition nodes k o).part
  condition_clean k None h = (tt, tt)
  condition_clean k (Some e) h = expr_clean k e h

  equations_clean : (b : Block) → Clean (shapes.in_block forms b) → Clean (shapes.in_eqns forms (equations_of b))
  equations_clean (block ds es) h = h

  equations_plain : (b : Block) → IsPlain b → AllPlain (equations_of b)
  equations_plain (block ds es) h = h

  equations_strong : (b : Block) → StrongPlain b → AllStrongPlain (equations_of b)
  equations_strong (block ds es) h = h

  contract_clean : (k : ℕ) (o : Option Contract) → Clean (shapes.in_contract forms o) → PlainContract o → ContractStrongPlain o → ContractCalls false (in_contract nodes k o).part
  contract_clean k None h p q = tt
  contract_clean k (Some c) h p q =
      let es = in_eqns nodes k (equations_of c.body) in
      let assume = in_condition nodes es.next c.assume in
      let enforce = in_condition nodes assume.next c.enforce in
      let ms = shapes.in_condition forms c.assume in
      let ns = shapes.in_condition forms c.enforce in
      let cs = shapes.in_controls c.controls in
      let g = back (shapes.in_block forms c.body) (ms ++ (ns ++ cs)) h in
      let x = eqns_clean k (equations_of c.body) (equations_clean c.body (front (shapes.in_block forms c.body) (ms ++ (ns ++ cs)) h)) (equations_plain c.body p) (equations_strong c.body q) in
      let y = condition_clean es.next c.assume (front ms (ns ++ cs) g) in
      let z = condition_clean assume.next c.enforce (front ns cs (back ms (ns ++ cs) g)) in
      (of_rows (list_of_eqns es.part ++ (assume.before ++ enforce.before)) (both_rows (list_of_eqns es.part) (assume.before ++ enforce.before) (rows_of es.part x) (both_rows assume.before enforce.before y.0 z.0)), (y.1, z.1))

  -- ---- a node

  body_called : (n : Node) → IsShaped forms n → NodePlain n → NodeStrongPlain n → (form_of forms n).plain ≡ None → BlockCalls false (replaced_node nodes n).body
  body_called n h p q e =
      let m = in_node nodes n in
      block_numbered same_name (behind m.contract) m.body
      (block_clean (in_contract nodes 1 n.contract).next n.body (clean_of (shapes.in_block forms n.body) (none_found (shapes.in_block forms n.body) e) h.body_inlines_no_contract) p.0 q.1)

  contract_called : (n : Node) → IsShaped forms n → NodePlain n → NodeStrongPlain n → ContractCalls false (replaced_node nodes n).contract
  contract_called n h p q =
      contract_numbered (in_node nodes n).contract
      (contract_clean 1 n.contract (clean_of (shapes.in_contract forms n.contract) h.contract_calls_nothing h.contract_inlines_no_contract) p.1 q.0)

-- ---- programs

no_form_known : Known shapes.nothing_known no_node
no_form_known f h k = tt

known_more : (forms : List ℕ → Form) (nodes : List ℕ → Node) (n m : Node) (form : Form) → m.name ≡ n.name → Known forms nodes → (form.plain ≡ None → BlockCalls false m.body) → Known (with_form forms n.name form) (with_node nodes m)
known_more forms nodes n m form e k b f = by (bytes_eq n.name f) (bytes_eq m.name f) (ap (λ x. bytes_eq x f) e)
  where
    by : (d d' : Bool) → d' ≡ d → (if d then form else forms f).has_contract ≡ false → (if d then form else forms f).plain ≡ None → BlockCalls false (if d' then m else nodes f).body
    by true true q h p = b p
    by false false q h p = k f h p
    by true false q h p = absurd (cc)
    by false true q h p = absurd (cc)

items_called : (forms : List ℕ → Form) (nodes : List ℕ → Node) → Known forms nodes → (items : List Item) → AreShaped forms items → EachNode NodePlain items → EachNode NodeStrongPlain items
    → EachNode (λ n. ContractCalls false n.contract) (replaced_items nodes items)
items_called forms nodes k [] h p q = tt
items_called forms nodes k (TypeItem t ∷ items) h p q = items_called forms nodes k items h p q
items_called forms nodes k (NodeItem n ∷ items) h p q = (
  contract_called forms nodes k n h.0 p.0 q.0,
  items_called (with_form forms n.name (form_of forms n)) (with_node nodes (replaced_node nodes n))
      (known_more forms nodes n (replaced_node nodes n) (form_of forms n) refl k (λ e. body_called forms nodes k n h.0 p.0 q.0 e)) items h.1 p.1 q.1,
)

-- ---- writing clocks

module _ (at : Assignment) where
  mutual
    block_clocked : (here : Place → Place) (b : Block) → BlockCalls false b → BlockCalls false (with_clocks at here b)
    block_clocked here (block ds es) h = eqns_clocked (below Equations here) es h

    eqns_clocked : (here : Place → Place) (es : Eqns) → EqnsCall false es → EqnsCall false (all_with_clocks at here es)
    eqns_clocked here no_eqn h = tt
    eqns_clocked here (more_eqns e es) h = (eqn_clocked (below Head here) e h.0, eqns_clocked (below Tail here) es h.1)

    eqn_clocked : (here : Place → Place) (e : Eqn) → EqnCalls false e → EqnCalls false (one_with_clocks at here e)
    eqn_clocked here (define s ys e) h = h
    eqn_clocked here (switch s e arms) h = (h.0, arms_clocked (below ArmsOf here) arms h.1)
    eqn_clocked here (reset s b e) h = (h.0, block_clocked (below Body here) b h.1)
    eqn_clocked here (automaton s ss) h = states_clocked (below StatesOf here) ss h

    arms_clocked : (here : Place → Place) (arms : Arms) → ArmsCall false arms → ArmsCall false (arms_with_clocks at here arms)
    arms_clocked here no_arm h = tt
    arms_clocked here (more_arms c b s arms) h = (block_clocked (below Head here) b h.0, arms_clocked (below Tail here) arms h.1)

    states_clocked : (here : Place → Place) (ss : States) → StatesCall false ss → StatesCall false (states_with_clocks at here ss)
    states_clocked here no_state h = tt
    states_clocked here (more_states f b until unless s ss) h = (block_clocked (below Body (below Head here)) b h.0, (h.1.0, (h.1.1.0, states_clocked (below Tail here) ss h.1.1.1)))

  contract_clocked : (o : Option Contract) → ContractCalls false o → ContractCalls false (contract_with_clocks at o)
  contract_clocked None h = tt
  contract_clocked (Some c) h = (block_clocked in_observer c.body h.0, h.1)

written_called : (xs ys : List Item) → AreWritten IsClocked xs ys → EachNode (λ n. ContractCalls false n.contract) xs → ContractsCallNothing ys
written_called [] [] w p = tt
written_called (TypeItem t ∷ xs) (y ∷ ys) w p = subst (λ z. ContractsCallNothing (z ∷ ys)) (sym w.0) (written_called xs ys w.1 p)
written_called (NodeItem n ∷ xs) (y ∷ ys) w p =
    subst (λ z. ContractsCallNothing (z ∷ ys)) (sym w.0.2)
    (no_calls_in_contract (node_with_clocks w.0.0 n).contract (λ q. q) (contract_clocked w.0.0 n.contract p.0), written_called xs ys w.1 p.1)
written_called [] (y ∷ ys) w p = absurd w
written_called (TypeItem t ∷ xs) [] w p = absurd w
written_called (NodeItem n ∷ xs) [] w p = absurd w

pub contracts_call_nothing : (program after : List Item) → HasShapes program → EachNode NodePlain program → EachNode NodeStrongPlain program → AreWritten IsClocked (replaced program) after → ContractsCallNothing after
contracts_call_nothing program after h p q w =
    written_called (replaced program) after w (items_called shapes.nothing_known no_node no_form_known program h p q)
