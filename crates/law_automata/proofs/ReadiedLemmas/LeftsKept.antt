-- Where inlined calls are replaced and clocks are written, each name stands once on a left side.
use Rattle.std.proofs.Common.{◌≡◌, ℕ, ◌+◌, ◌≤◌, ⊎_elim, Bool, true, false, if◌then◌else◌, List, [], ◌∷◌, ◌++◌, length, refl, sym, subst, arith}
use Rattle.std.specs.Prelude.{⊤, IsTrue, Option, None, Some, option_map}
use Rattle.std.specs.Str.{bytes_eq}
use Rattle.hp_base.specs.declared.span.Span.{Span}
use Rattle.hp_tree.specs.declared.program.Item.{Item}
use Rattle.hp_tree.specs.declared.program.Item.TheVariants.{TypeItem, NodeItem}
use Rattle.hp_tree.specs.Expressions.{Expr, constant, variable, last_of, one, two, choose, pre, fby, arrow, when_is, merge, call, Exprs, no_expr, more_exprs, Parts, no_part, more_parts}
use Rattle.hp_tree.specs.Blocks.{Decl, Block, block, Eqns, no_eqn, more_eqns, Eqn, define, switch, reset, automaton, Arms, no_arm, more_arms, States, no_state, more_states, eqns_of, list_of_eqns}
use Rattle.hp_tree.specs.Programs.{Contract, Node}
use Rattle.hp_tree.specs.Instant.{Place, Body, Equations, Head, Tail, Arms as ArmsOf, States as StatesOf}
use Rattle.hp_tree.specs.Meaning.{declares, is_among, controls_of}
use Rattle.hp_meaning.specs.Causal.Sources.{below}
use Rattle.hp_meaning.specs.Clocking.Clocking.{Assignment, with_clocks, all_with_clocks, one_with_clocks, arms_with_clocks, states_with_clocks, in_observer, in_body, contract_with_clocks}
use Rattle.law_judged.specs.Named.Scoped as named
use Rattle.law_judged.specs.Named.Scoped.{Names, no_names, also, BlockScoped, EqnsScoped, EqnScoped, ArmsScoped, StatesScoped, ContractScoped, interface, EachNode}
use Rattle.law_judged.proofs.NamedLemmas.Sets.{or_cases, or_left, or_right, false_if, name_same}
use Rattle.hp_expand.specs.NewNames.{is_new, marked}
use Rattle.hp_expand.specs.Renaming.{renamed_decls, renamed_left, renamed_block, renamed_eqns, renamed_eqn, renamed_arms, renamed_states}
use Rattle.hp_expand.specs.Replacing.{given, equations_of, inlined_call, defined_by, in_expr, in_exprs, in_parts, in_definition, in_block, in_eqns, in_eqn, in_arms, in_states, in_condition, in_contract, in_node}
use Rattle.hp_expand.specs.Numbering as number
use Rattle.hp_expand.specs.Numbering.{declaring, new_in_decls, new_in_block, new_in_eqns, new_in_eqn, new_in_arms, new_in_states, behind, numbered, replaced_node, with_node, replaced_items, no_node, replaced}
use Rattle.law_judged.specs.Replaced.Fitting.{DeclNames, BlockNames, EqnsNames, EqnNames, ArmsNames, StatesNames, IsReady}
use Rattle.law_judged.specs.Replaced.Laws.{FewVariables, CanBeReplaced, AllCanBeReplaced}
use Rattle.law_judged.proofs.ReplacedLemmas.Numbered.{State, later, entered, at_first}
use Rattle.law_judged.proofs.ReplacedLemmas.Renaming.{left_back}
use Rattle.law_judged.proofs.ReplacedLemmas.ReplacedNodes.{contract_controls, in_node_scoped, node_replaced, none_ready, with_ready}
use Rattle.law_judged.proofs.ReplacedLemmas.Signs.{same_marked}
use Rattle.law_judged.specs.Once.Singly.{AreDistinct, BlockSingly, AllSingly, OneSingly, ArmsSingly, StatesSingly, ContractSingly, DefinedSingly}
use Rattle.law_values.specs.Accepted.Written.{AreClocked}

-- ---- each name once on a left side

abbrev mutual
  pub BlockLefts : Block → Type 0
  BlockLefts (block ds es) = EqnsLefts es

  pub EqnsLefts : Eqns → Type 0
  EqnsLefts no_eqn = ⊤
  EqnsLefts (more_eqns e es) = EqnLefts e × EqnsLefts es

  pub EqnLefts : Eqn → Type 0
  EqnLefts (define s ys e) = AreDistinct ys
  EqnLefts (switch s e arms) = ArmsLefts arms
  EqnLefts (reset s b e) = BlockLefts b
  EqnLefts (automaton s ss) = StatesLefts ss

  pub ArmsLefts : Arms → Type 0
  ArmsLefts no_arm = ⊤
  ArmsLefts (more_arms c b s arms) = BlockLefts b × ArmsLefts arms

  pub StatesLefts : States → Type 0
  StatesLefts no_state = ⊤
  StatesLefts (more_states f b until unless s ss) = BlockLefts b × StatesLefts ss

abbrev pub ContractLefts : Option Contract → Type 0
ContractLefts None = ⊤
ContractLefts (Some c) = BlockLefts c.body

abbrev pub NodeLefts : Node → Type 0
NodeLefts n = ContractLefts n.contract × BlockLefts n.body

mutual
  block_singly : (b : Block) → BlockSingly b → BlockLefts b
  block_singly (block ds es) h = all_singly es h

  all_singly : (es : Eqns) → AllSingly es → EqnsLefts es
  all_singly no_eqn h = tt
  all_singly (more_eqns e es) h = (one_singly e h.1.0, all_singly es h.1.1)

  one_singly : (e : Eqn) → OneSingly e → EqnLefts e
  one_singly (define s ys e) h = h
  one_singly (switch s e arms) h = arms_singly arms h
  one_singly (reset s b e) h = block_singly b h
  one_singly (automaton s ss) h = states_singly ss h

  arms_singly : (arms : Arms) → ArmsSingly arms → ArmsLefts arms
  arms_singly no_arm h = tt
  arms_singly (more_arms c b s arms) h = (block_singly b h.0, arms_singly arms h.1)

  states_singly : (ss : States) → StatesSingly ss → StatesLefts ss
  states_singly no_state h = tt
  states_singly (more_states f b until unless s ss) h = (block_singly b h.0, states_singly ss h.1)

contract_singly : (o : Option Contract) → ContractSingly o → ContractLefts o
contract_singly None h = tt
contract_singly (Some c) h = block_singly c.body h

node_singly : (n : Node) → DefinedSingly n → NodeLefts n
node_singly n h = (contract_singly n.contract h.0, block_singly n.body h.1)

-- ---- under other names, where no two become one

module _ (to : List ℕ → List ℕ) (P : List ℕ → Type 0) (inj : (x y : List ℕ) → P x → P y → to x ≡ to y → x ≡ y) where
  left_said : (ys : List (List ℕ × Span)) → ((x : List ℕ) → IsTrue (is_among ys x) → P x) → AreDistinct ys → AreDistinct (renamed_left to ys)
  left_said [] p h = tt
  left_said (y ∷ ys) p h = (
    false_if (is_among (renamed_left to ys) (to y.0))
        (λ t.
        let k = left_back to ys (to y.0) t in
        let same : k.0 ≡ y.0 = inj k.0 y.0 (p k.0 (or_right (bytes_eq y.0 k.0) (is_among ys k.0) k.1)) (p y.0 (or_left (bytes_eq y.0 y.0) (is_among ys y.0) (name_same y.0 y.0 refl))) k.2 in
        absurd (cc (sym h.0, subst (λ z. IsTrue (is_among ys z)) same k.1))),
    left_said ys (λ x q. p x (or_right (bytes_eq y.0 x) (is_among ys x) q)) h.1,
  )

  abbrev Known : Names → Type 0
  Known own = (x : List ℕ) → IsTrue (own x) → P x

  known_more : (own : Names) (ds : List Decl) → DeclNames P ds → Known own → Known (also own ds)
  known_more own ds n p x h = ⊎_elim (λ l. n x l) (λ l. p x l) (or_cases (declares ds x) (own x) h)

  mutual
    block_renamed : (seen own : Names) (b : Block) → Known own → BlockNames P b → BlockScoped seen own b → BlockLefts b → BlockLefts (renamed_block to b)
    block_renamed seen own (block ds es) p n s o = eqns_renamed (also seen ds) (also own ds) es (known_more own ds n.0 p) n.1 s.3 o

    eqns_renamed : (seen own : Names) (es : Eqns) → ((x : List ℕ) → IsTrue (own x) → P x) → EqnsNames P es → EqnsScoped seen own es → EqnsLefts es → EqnsLefts (renamed_eqns to es)
    eqns_renamed seen own no_eqn p n s o = tt
    eqns_renamed seen own (more_eqns e es) p n s o = (eqn_renamed seen own e p n.0 s.0 o.0, eqns_renamed seen own es p n.1 s.1 o.1)

    eqn_renamed : (seen own : Names) (e : Eqn) → Known own → EqnNames P e → EqnScoped seen own e → EqnLefts e → EqnLefts (renamed_eqn to e)
    eqn_renamed seen own (define w ys e) p n s o = left_said ys (λ x q. p x (s x q)) o
    eqn_renamed seen own (switch w e arms) p n s o = arms_renamed seen own arms p n s o
    eqn_renamed seen own (reset w b e) p n s o = block_renamed seen own b p n s o
    eqn_renamed seen own (automaton w ss) p n s o = states_renamed seen own ss p n s o

    arms_renamed : (seen own : Names) (arms : Arms) → Known own → ArmsNames P arms → ArmsScoped seen own arms → ArmsLefts arms → ArmsLefts (renamed_arms to arms)
    arms_renamed seen own no_arm p n s o = tt
    arms_renamed seen own (more_arms c b w arms) p n s o = (block_renamed seen own b p n.0 s.0 o.0, arms_renamed seen own arms p n.1 s.1 o.1)

    states_renamed : (seen own : Names) (ss : States) → Known own → StatesNames P ss → StatesScoped seen own ss → StatesLefts ss → StatesLefts (renamed_states to ss)
    states_renamed seen own no_state p n s o = tt
    states_renamed seen own (more_states f b until unless w ss) p n s o = (block_renamed seen own b p n.0 s.0 o.0, states_renamed seen own ss p n.1 s.1 o.1)

-- ---- where new variables get their numbers

abbrev Sees : Names → Names → Type 0
Sees seen own = (x : List ℕ) → IsTrue (own x) → IsTrue (seen x)

sees_more : (seen own : Names) (ds : List Decl) → Sees seen own → Sees (also seen ds) (also own ds)
sees_more seen own ds p x h = ⊎_elim (λ l. or_left (declares ds x) (seen x) l) (λ l. or_right (declares ds x) (seen x) (p x l)) (or_cases (declares ds x) (own x) h)

mutual
  block_numbered : (to : List ℕ → List ℕ) (k : ℕ) (seen own after owned : Names) (b : Block) → Sees seen own → State to k seen own after owned → k + new_in_block b ≤ 1000000 → BlockScoped seen own b → BlockLefts b → BlockLefts (number.in_block to k b)
  block_numbered to k seen own after owned (block ds es) p s f c o =
      let few : k + new_in_decls ds ≤ 1000000 = omega (arith, f) in
      let inner : k + new_in_decls ds + new_in_eqns es ≤ 1000000 = omega (arith, f) in
      let said = declaring to k ds in
      let more = renamed_decls said ds in
      eqns_numbered said (k + new_in_decls ds) (also seen ds) (also own ds) (also after more) (also owned more) es (sees_more seen own ds p) (entered to k seen own after owned s ds c.0 c.1 few) inner c.3 o

  eqns_numbered : (to : List ℕ → List ℕ) (k : ℕ) (seen own after owned : Names) (es : Eqns) → Sees seen own → State to k seen own after owned → k + new_in_eqns es ≤ 1000000 → EqnsScoped seen own es → EqnsLefts es → EqnsLefts (number.in_eqns to k es)
  eqns_numbered to k seen own after owned no_eqn p s f c o = tt
  eqns_numbered to k seen own after owned (more_eqns e es) p s f c o = (
    eqn_numbered to k seen own after owned e p s (omega (arith, f)) c.0 o.0,
    eqns_numbered to (k + new_in_eqn e) seen own after owned es p (later to k (k + new_in_eqn e) seen own after owned (omega arith) s) (omega (arith, f)) c.1 o.1,
  )

  eqn_numbered : (to : List ℕ → List ℕ) (k : ℕ) (seen own after owned : Names) (e : Eqn) → Sees seen own → State to k seen own after owned → k + new_in_eqn e ≤ 1000000 → EqnScoped seen own e → EqnLefts e → EqnLefts (number.in_eqn to k e)
  eqn_numbered to k seen own after owned (define w ys e) p s f c o = left_said to (λ x. IsTrue (seen x)) s.inj ys (λ x q. p x (c x q)) o
  eqn_numbered to k seen own after owned (switch w e arms) p s f c o = arms_numbered to k seen own after owned arms p s f c o
  eqn_numbered to k seen own after owned (reset w b e) p s f c o = block_numbered to k seen own after owned b p s f c o
  eqn_numbered to k seen own after owned (automaton w ss) p s f c o = states_numbered to k seen own after owned ss p s f c o

  arms_numbered : (to : List ℕ → List ℕ) (k : ℕ) (seen own after owned : Names) (arms : Arms) → Sees seen own → State to k seen own after owned → k + new_in_arms arms ≤ 1000000 → ArmsScoped seen own arms → ArmsLefts arms → ArmsLefts (number.in_arms to k arms)
  arms_numbered to k seen own after owned no_arm p s f c o = tt
  arms_numbered to k seen own after owned (more_arms q b w arms) p s f c o = (
    block_numbered to k seen own after owned b p s (omega (arith, f)) c.0 o.0,
    arms_numbered to (k + new_in_block b) seen own after owned arms p (later to k (k + new_in_block b) seen own after owned (omega arith) s) (omega (arith, f)) c.1 o.1,
  )

  states_numbered : (to : List ℕ → List ℕ) (k : ℕ) (seen own after owned : Names) (ss : States) → Sees seen own → State to k seen own after owned → k + new_in_states ss ≤ 1000000 → StatesScoped seen own ss → StatesLefts ss → StatesLefts (number.in_states to k ss)
  states_numbered to k seen own after owned no_state p s f c o = tt
  states_numbered to k seen own after owned (more_states n (block ds es) until unless w ss) p s f c o = (
    block_numbered to k seen own after owned (block ds es) p s (omega (arith, f)) c.0 o.0,
    states_numbered to (k + (new_in_decls ds + new_in_eqns es)) seen own after owned ss p (later to k (k + (new_in_decls ds + new_in_eqns es)) seen own after owned (omega arith) s) (omega (arith, f)) c.1 o.1,
  )

contract_numbered : (seen : Names) (c : Option Contract) → ((x : List ℕ) → IsTrue (seen x) → is_new x ≡ false) → behind c ≤ 1000000 → ContractScoped seen c → ContractLefts c → ContractLefts (option_map number.in_contract c)
contract_numbered seen None p f s o = tt
contract_numbered seen (Some c) p f s o = block_numbered number.same_name 1 seen no_names seen no_names c.body (λ x h. absurd (cc h)) (at_first 1 seen no_names p) (omega (arith, f)) s o

node_numbered : (n : Node) → FewVariables n → ((x : List ℕ) → IsTrue (also (interface n) (controls_of n.contract) x) → is_new x ≡ false) → named.NodeScoped n → NodeLefts n → NodeLefts (numbered n)
node_numbered n f p s o =
    let controls = controls_of n.contract in
    let seen = also (interface n) controls in
    let own = also no_names n.outputs in
    let all : behind n.contract + new_in_block n.body ≤ 1000000 = f in
    let sees : (x : List ℕ) → IsTrue (own x) → IsTrue (seen x) =
    λ x h. ⊎_elim (λ l. or_right (declares controls x) (interface n x) (or_left (declares n.outputs x) (also no_names n.inputs x) l)) (λ l. absurd (cc l)) (or_cases (declares n.outputs x) false h) in (
      contract_numbered (interface n) n.contract (λ x h. p x (or_right (declares controls x) (interface n x) h)) (omega (arith, all)) s.contract o.0,
      block_numbered number.same_name (behind n.contract) seen own seen own n.body sees (at_first (behind n.contract) seen own p) all s.body o.1,
    )

-- ---- equations in a list

abbrev ListLefts : List Eqn → Type 0
ListLefts [] = ⊤
ListLefts (e ∷ es) = EqnLefts e × ListLefts es

list_lefts : (es : Eqns) → EqnsLefts es → ListLefts (list_of_eqns es)
list_lefts no_eqn h = tt
list_lefts (more_eqns e es) h = (h.0, list_lefts es h.1)

row_lefts : (es : List Eqn) → ListLefts es → EqnsLefts (eqns_of es)
row_lefts [] h = tt
row_lefts (e ∷ es) h = (h.0, row_lefts es h.1)

both_lefts : (es fs : List Eqn) → ListLefts es → ListLefts fs → ListLefts (es ++ fs)
both_lefts [] fs h k = k
both_lefts (e ∷ es) fs h k = (h.0, both_lefts es fs h.1 k)

given_lefts : (ds : List Decl) (es : Exprs) → ListLefts (given ds es)
given_lefts [] es = tt
given_lefts (d ∷ ds) no_expr = tt
given_lefts (d ∷ ds) (more_exprs e es) = ((refl, tt), given_lefts ds es)

defined_lefts : (s : Span) (xs : List (List ℕ × Span)) (at : Span) (ys : List (List ℕ)) → ListLefts (defined_by s xs at ys)
defined_lefts s [] at ys = tt
defined_lefts s (x ∷ xs) at [] = tt
defined_lefts s (x ∷ xs) at (y ∷ ys) = ((refl, tt), defined_lefts s xs at ys)

equations_lefts : (b : Block) → BlockLefts b → EqnsLefts (equations_of b)
equations_lefts (block ds es) h = h

-- ---- replacing

abbrev Short : List ℕ → Type 0
Short x = length x ≤ 262

module _ (nodes : List ℕ → Node) (ready : (f : List ℕ) → IsReady (nodes f)) (bodies : (f : List ℕ) → BlockLefts (nodes f).body) where
  called : (k : ℕ) (n : Node) (b : Block) → BlockNames Short b → BlockScoped (also (interface n) (controls_of n.contract)) (also no_names n.outputs) b → ((x : List ℕ) → IsTrue (also (interface n) (controls_of n.contract) x) → Short x) → BlockLefts b → EqnsLefts (renamed_eqns (marked k) (equations_of b))
  called k n (block ds es) names s p h =
      let own = also no_names n.outputs in
      eqns_renamed (marked k) Short (λ x y a b e. same_marked k x y a b e) (also (also (interface n) (controls_of n.contract)) ds) (also own ds) es
      (λ x q.
      ⊎_elim (λ l. names.0 x l)
      (λ l. ⊎_elim (λ o. p x (or_right (declares (controls_of n.contract) x) (interface n x) (or_left (declares n.outputs x) (also no_names n.inputs x) o))) (λ o. absurd (cc o)) (or_cases (declares n.outputs x) false l)) (or_cases (declares ds x) (own x) q))
      names.1 s.3 h

  call_before : (f : List ℕ) (k : ℕ) (es : Exprs) → ListLefts (in_exprs nodes k es).before → ListLefts (inlined_call (nodes f) (in_exprs nodes k es)).before
  call_before f k es h =
      let args = in_exprs nodes k es in
      let to = marked args.next in
      let n = nodes f in
      let r = ready f in
      let told = given (renamed_decls to n.inputs) args.part in
      let made = renamed_eqns to (equations_of n.body) in
      both_lefts args.before (told ++ list_of_eqns made) h
      (both_lefts told (list_of_eqns made) (given_lefts (renamed_decls to n.inputs) args.part) (list_lefts made (called args.next n n.body r.names.body r.scoped.body r.names.interface (bodies f))))

  two_before : (k : ℕ) (a b : Expr) → ListLefts (in_expr nodes k a).before → ListLefts (in_expr nodes (in_expr nodes k a).next b).before → ListLefts ((in_expr nodes k a).before ++ (in_expr nodes (in_expr nodes k a).next b).before)
  two_before k a b h l = both_lefts (in_expr nodes k a).before (in_expr nodes (in_expr nodes k a).next b).before h l

  mutual
    expr_before : (k : ℕ) (e : Expr) → ListLefts (in_expr nodes k e).before
    expr_before k (constant at c) = tt
    expr_before k (variable at x) = tt
    expr_before k (last_of at x) = tt
    expr_before k (one at o a) = expr_before k a
    expr_before k (two at o a b) = two_before k a b (expr_before k a) (expr_before (in_expr nodes k a).next b)
    expr_before k (choose at a b c) =
        let j = (in_expr nodes k a).next in
        let i = (in_expr nodes j b).next in
        both_lefts (in_expr nodes k a).before ((in_expr nodes j b).before ++ (in_expr nodes i c).before) (expr_before k a) (two_before j b c (expr_before j b) (expr_before i c))
    expr_before k (pre at a) = expr_before k a
    expr_before k (fby at a b) = two_before k a b (expr_before k a) (expr_before (in_expr nodes k a).next b)
    expr_before k (arrow at a b) = two_before k a b (expr_before k a) (expr_before (in_expr nodes k a).next b)
    expr_before k (when_is at a c x) = expr_before k a
    expr_before k (merge at x ps) = parts_before k ps
    expr_before k (call at f false es) = exprs_before k es
    expr_before k (call at f true es) = call_before f k es (exprs_before k es)

    exprs_before : (k : ℕ) (es : Exprs) → ListLefts (in_exprs nodes k es).before
    exprs_before k no_expr = tt
    exprs_before k (more_exprs e es) = both_lefts (in_expr nodes k e).before (in_exprs nodes (in_expr nodes k e).next es).before (expr_before k e) (exprs_before (in_expr nodes k e).next es)

    parts_before : (k : ℕ) (ps : Parts) → ListLefts (in_parts nodes k ps).before
    parts_before k no_part = tt
    parts_before k (more_parts c e ps) = both_lefts (in_expr nodes k e).before (in_parts nodes (in_expr nodes k e).next ps).before (expr_before k e) (parts_before (in_expr nodes k e).next ps)

  abbrev Both : ℕ → Span → List (List ℕ × Span) → Expr → Type 0
  Both k s xs e = ListLefts (in_definition nodes k s xs e).before × ListLefts (in_definition nodes k s xs e).part

  definition_lefts : (k : ℕ) (s : Span) (xs : List (List ℕ × Span)) (e : Expr) → AreDistinct xs → Both k s xs e
  definition_lefts k s xs (constant at c) h = (tt, (h, tt))
  definition_lefts k s xs (variable at x) h = (tt, (h, tt))
  definition_lefts k s xs (last_of at x) h = (tt, (h, tt))
  definition_lefts k s xs (one at o a) h = (expr_before k (one at o a), (h, tt))
  definition_lefts k s xs (two at o a b) h = (expr_before k (two at o a b), (h, tt))
  definition_lefts k s xs (choose at a b c) h = (expr_before k (choose at a b c), (h, tt))
  definition_lefts k s xs (pre at a) h = (expr_before k (pre at a), (h, tt))
  definition_lefts k s xs (fby at a b) h = (expr_before k (fby at a b), (h, tt))
  definition_lefts k s xs (arrow at a b) h = (expr_before k (arrow at a b), (h, tt))
  definition_lefts k s xs (when_is at a c x) h = (expr_before k (when_is at a c x), (h, tt))
  definition_lefts k s xs (merge at x ps) h = (expr_before k (merge at x ps), (h, tt))
  definition_lefts k s xs (call at f false es) h = (expr_before k (call at f false es), (h, tt))
  definition_lefts k s xs (call at f true es) h = (call_before f k es (exprs_before k es), defined_lefts s xs at (inlined_call (nodes f) (in_exprs nodes k es)).part)

  mutual
    block_replaced : (k : ℕ) (b : Block) → BlockLefts b → BlockLefts (in_block nodes k b).part
    block_replaced k (block ds es) h = eqns_replaced k es h

    eqns_replaced : (k : ℕ) (es : Eqns) → EqnsLefts es → EqnsLefts (in_eqns nodes k es).part
    eqns_replaced k no_eqn h = tt
    eqns_replaced k (more_eqns e es) h =
        let here = in_eqn nodes k e in
        let rest = (in_eqns nodes here.next es).part in
        let q = eqn_replaced k e h.0 in
        row_lefts (here.before ++ (here.part ++ list_of_eqns rest))
        (both_lefts here.before (here.part ++ list_of_eqns rest) q.0 (both_lefts here.part (list_of_eqns rest) q.1 (list_lefts rest (eqns_replaced here.next es h.1))))

    eqn_replaced : (k : ℕ) (e : Eqn) → EqnLefts e → ListLefts (in_eqn nodes k e).before × ListLefts (in_eqn nodes k e).part
    eqn_replaced k (define s ys e) h = definition_lefts k s ys e h
    eqn_replaced k (switch s e arms) h = (expr_before k e, (arms_replaced (in_expr nodes k e).next arms h, tt))
    eqn_replaced k (reset s b e) h = (expr_before k e, (block_replaced (in_expr nodes k e).next b h, tt))
    eqn_replaced k (automaton s ss) h = (tt, (states_replaced k ss h, tt))

    arms_replaced : (k : ℕ) (arms : Arms) → ArmsLefts arms → ArmsLefts (in_arms nodes k arms).part
    arms_replaced k no_arm h = tt
    arms_replaced k (more_arms c b s arms) h = (block_replaced k b h.0, arms_replaced (in_block nodes k b).next arms h.1)

    states_replaced : (k : ℕ) (ss : States) → StatesLefts ss → StatesLefts (in_states nodes k ss).part
    states_replaced k no_state h = tt
    states_replaced k (more_states f b until unless s ss) h = (block_replaced k b h.0, states_replaced (in_block nodes k b).next ss h.1)

  condition_before : (k : ℕ) (o : Option Expr) → ListLefts (in_condition nodes k o).before
  condition_before k None = tt
  condition_before k (Some e) = expr_before k e

  contract_replaced : (o : Option Contract) → ContractLefts o → ContractLefts (in_contract nodes 1 o).part
  contract_replaced None h = tt
  contract_replaced (Some c) h =
      let es = in_eqns nodes 1 (equations_of c.body) in
      let assume = in_condition nodes es.next c.assume in
      let enforce = in_condition nodes assume.next c.enforce in
      row_lefts (list_of_eqns es.part ++ (assume.before ++ enforce.before))
      (both_lefts (list_of_eqns es.part) (assume.before ++ enforce.before) (list_lefts es.part (eqns_replaced 1 (equations_of c.body) (equations_lefts c.body h)))
      (both_lefts assume.before enforce.before (condition_before es.next c.assume) (condition_before assume.next c.enforce)))

  node_lefts : (n : Node) → CanBeReplaced nodes n → NodeLefts n → NodeLefts (replaced_node nodes n)
  node_lefts n c h =
      let m = in_node nodes n in
      let same : controls_of m.contract ≡ controls_of n.contract = contract_controls nodes ready 1 n.contract in
      node_numbered m c.few_variables (λ x q. (c.plain.interface x (subst (λ z. IsTrue (also (interface n) z x)) same q)).0) (in_node_scoped nodes ready n c.scoped c.plain c.fits c.few_calls)
      (contract_replaced n.contract h.0, block_replaced (in_contract nodes 1 n.contract).next n.body h.1)

-- ---- programs

with_lefts : (nodes : List ℕ → Node) → ((f : List ℕ) → BlockLefts (nodes f).body) → (n : Node) → BlockLefts n.body → (f : List ℕ) → BlockLefts (with_node nodes n f).body
with_lefts nodes h n o f = by (bytes_eq n.name f)
  where
    by : (b : Bool) → BlockLefts (if b then n else nodes f).body
    by true = o
    by false = h f

items_lefts : (nodes : List ℕ → Node) → ((f : List ℕ) → IsReady (nodes f)) → ((f : List ℕ) → BlockLefts (nodes f).body) → (items : List Item) → AllCanBeReplaced nodes items → EachNode DefinedSingly items → EachNode NodeLefts (replaced_items nodes items)
items_lefts nodes ready h [] c o = tt
items_lefts nodes ready h (TypeItem t ∷ items) c o = items_lefts nodes ready h items c o
items_lefts nodes ready h (NodeItem n ∷ items) c o =
    let m = replaced_node nodes n in
    let alone = node_lefts nodes ready h n c.0 (node_singly n o.0) in
    (alone, items_lefts (with_node nodes m) (with_ready nodes ready m (node_replaced nodes ready n c.0)) (with_lefts nodes h m alone.1) items c.1 o.1)

pub program_lefts : (program : List Item) → AllCanBeReplaced no_node program → EachNode DefinedSingly program → EachNode NodeLefts (replaced program)
program_lefts program c o = items_lefts no_node none_ready (λ f. tt) program c o

-- ---- clocks

module _ (at : Assignment) where
  mutual
    block_clocked : (here : Place → Place) (b : Block) → BlockLefts b → BlockLefts (with_clocks at here b)
    block_clocked here (block ds es) h = eqns_clocked (below Equations here) es h

    eqns_clocked : (here : Place → Place) (es : Eqns) → EqnsLefts es → EqnsLefts (all_with_clocks at here es)
    eqns_clocked here no_eqn h = tt
    eqns_clocked here (more_eqns e es) h = (eqn_clocked (below Head here) e h.0, eqns_clocked (below Tail here) es h.1)

    eqn_clocked : (here : Place → Place) (e : Eqn) → EqnLefts e → EqnLefts (one_with_clocks at here e)
    eqn_clocked here (define s ys e) h = h
    eqn_clocked here (switch s e arms) h = arms_clocked (below ArmsOf here) arms h
    eqn_clocked here (reset s b e) h = block_clocked (below Body here) b h
    eqn_clocked here (automaton s ss) h = states_clocked (below StatesOf here) ss h

    arms_clocked : (here : Place → Place) (arms : Arms) → ArmsLefts arms → ArmsLefts (arms_with_clocks at here arms)
    arms_clocked here no_arm h = tt
    arms_clocked here (more_arms c b s arms) h = (block_clocked (below Head here) b h.0, arms_clocked (below Tail here) arms h.1)

    states_clocked : (here : Place → Place) (ss : States) → StatesLefts ss → StatesLefts (states_with_clocks at here ss)
    states_clocked here no_state h = tt
    states_clocked here (more_states f b until unless s ss) h = (block_clocked (below Body (below Head here)) b h.0, states_clocked (below Tail here) ss h.1)

  contract_clocked : (o : Option Contract) → ContractLefts o → ContractLefts (contract_with_clocks at o)
  contract_clocked None h = tt
  contract_clocked (Some c) h = block_clocked in_observer c.body h

pub lefts_clocked : (xs ys : List Item) → AreClocked xs ys → EachNode NodeLefts xs → EachNode NodeLefts ys
lefts_clocked [] [] c p = tt
lefts_clocked (TypeItem t ∷ xs) (y ∷ ys) c p = subst (λ z. EachNode NodeLefts (z ∷ ys)) (sym c.0) (lefts_clocked xs ys c.1 p)
lefts_clocked (NodeItem n ∷ xs) (y ∷ ys) c p =
    subst (λ z. EachNode NodeLefts (z ∷ ys)) (sym c.0.1.1) ((contract_clocked c.0.0 n.contract p.0.0, block_clocked c.0.0 in_body n.body p.0.1), lefts_clocked xs ys c.1 p.1)
lefts_clocked [] (y ∷ ys) c p = absurd c
lefts_clocked (TypeItem t ∷ xs) [] c p = absurd c
lefts_clocked (NodeItem n ∷ xs) [] c p = absurd c
