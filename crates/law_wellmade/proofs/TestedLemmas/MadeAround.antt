-- In a ready program tests fit among the names around them: each node is one whose inlined calls are replaced, with its shortest clocks.
use Rattle.std.proofs.Common.{◌≡◌, ℕ, List, [], ◌∷◌, ◌++◌, refl, sym, subst, ◌∙◌}
use Rattle.std.specs.Prelude.{Bool, true, false, is_some, if◌then◌else◌, Option, None, Some, option_map}
use Rattle.std.specs.Str.{bytes_eq}
use Rattle.hp_base.specs.declared.span.Span.{Span}
use Rattle.hp_tree.specs.declared.program.Item.{Item}
use Rattle.hp_tree.specs.declared.program.Item.TheVariants.{TypeItem, NodeItem}
use Rattle.hp_tree.specs.Expressions.{Expr, constant, variable, last_of, one, two, choose, pre, fby, arrow, when_is, merge, call, Exprs, no_expr, more_exprs, Parts, no_part, more_parts}
use Rattle.hp_tree.specs.Blocks.{Block, block, Eqns, no_eqn, more_eqns, Eqn, define, switch, reset, automaton, Arms, no_arm, more_arms, States, no_state, more_states}
use Rattle.hp_tree.specs.Programs.{TypeDecl, Contract, Node}
use Rattle.hp_tree.specs.Meaning.{controls_of}
use Rattle.law_judged.specs.Typed.Scopes.{Scope}
use Rattle.hp_meaning.specs.Clocking.Terms.{IsShortest}
use Rattle.hp_meaning.specs.Clocking.Clocking.{Assignment, IsAllowed, node_with_clocks}
use Rattle.law_judged.specs.Named.Scoped.{no_names, also, interface, NodeScoped, EachNode}
use Rattle.hp_expand.specs.Shapes as shapes
use Rattle.hp_expand.specs.Shapes.{Mark, plain_at, bound_at, integer_at, of_call}
use Rattle.hp_expand.specs.Formed.{InlineNoContract, AreShaped}
use Rattle.hp_expand.specs.Replacing.{in_contract, in_node}
use Rattle.hp_expand.specs.Numbering.{behind, same_name, in_contract as number_contract, replaced_node, with_node, replaced_items}
use Rattle.law_judged.specs.Replaced.Fitting.{IsReady}
use Rattle.law_judged.specs.Replaced.Laws.{CanBeReplaced, AllCanBeReplaced}
use Rattle.law_judged.proofs.ReplacedLemmas.ReplacedNodes.{in_node_scoped, node_replaced, with_ready}
use Rattle.law_values.specs.Accepted.Written.{AreClocked}
use Rattle.law_values.proofs.AcceptedLemmas.ReplacesEqns.{ExprInlines, ExprsInline, PartsInline, BlockInlines, EqnsInline, EqnInlines, ArmsInline, StatesInline}
use Rattle.law_automata.specs.Readied.Constants.{DeclTypes}
use Rattle.law_automata.proofs.ReadiedLemmas.TypesKept.{AllTypes, node_replaced as types_replaced, with_types}
use Rattle.law_wellmade.specs.Tested.Apart.{ContractApart}
use Rattle.law_wellmade.specs.Tested.Around.{nobody, among, BlockAround, interface_of, NodeAround, ContractAround}
use Rattle.law_wellmade.proofs.TestedLemmas.ApartKept.{contract_apart}
use Rattle.law_wellmade.proofs.TestedLemmas.Replaced.{ConditionInlines, ContractInlines, block_around, contract_around}
use Rattle.law_wellmade.proofs.TestedLemmas.Numbered.{Seen, seen_more, block_numbered, contract_numbered}
use Rattle.law_wellmade.proofs.TestedLemmas.FullTypes.{Full, NodeFull}

-- what is known of the shape of a node, whose type its crate keeps to itself
abbrev TypeOf : {A : Type 0} → A → Type 0
TypeOf {A} a = A

abbrev Form : Type 0
Form = TypeOf shapes.no_form

-- ---- no node with a contract is inlined

first_marks : (a b : List Mark) → InlineNoContract (a ++ b) → InlineNoContract a
first_marks [] b h = tt
first_marks (plain_at at ∷ a) b h = first_marks a b h
first_marks (bound_at at ∷ a) b h = absurd h
first_marks (integer_at at ∷ a) b h = first_marks a b h

then_marks : (a b : List Mark) → InlineNoContract (a ++ b) → InlineNoContract b
then_marks [] b h = h
then_marks (plain_at at ∷ a) b h = then_marks a b h
then_marks (bound_at at ∷ a) b h = absurd h
then_marks (integer_at at ∷ a) b h = then_marks a b h

no_controls : (o : Option Contract) → is_some o ≡ false → controls_of o ≡ []
no_controls None h = refl
no_controls (Some c) h = absurd (cc)

abbrev pub Uncontrolled : (List ℕ → Node) → List ℕ → Type 0
Uncontrolled nodes f = controls_of (nodes f).contract ≡ []

module _ (nodes : List ℕ → Node) (forms : List ℕ → Form) (alike : (f : List ℕ) → (forms f).has_contract ≡ is_some (nodes f).contract) where
  abbrev P : List ℕ → Type 0
  P = Uncontrolled nodes

  call_inlines : (at : Span) (f : List ℕ) → InlineNoContract (of_call at true (forms f)) → P f
  unfolding of_call
  call_inlines at f h = by (forms f).has_contract refl h
    where
      by : (b : Bool) → (forms f).has_contract ≡ b → InlineNoContract (if b then bound_at at ∷ [] else shapes.brings (forms f).plain) → controls_of (nodes f).contract ≡ []
      by true e k = absurd k
      by false e k = no_controls (nodes f).contract (sym (alike f) ∙ e)

  mutual
    expr_inlines : (e : Expr) → InlineNoContract (shapes.in_expr forms e) → ExprInlines P e
    expr_inlines (constant a c) h = tt
    expr_inlines (variable a x) h = tt
    expr_inlines (last_of a x) h = tt
    expr_inlines (one a o b) h = expr_inlines b h
    expr_inlines (two a o b c) h = (expr_inlines b (first_marks (shapes.in_expr forms b) (shapes.in_expr forms c) h), expr_inlines c (then_marks (shapes.in_expr forms b) (shapes.in_expr forms c) h))
    expr_inlines (choose a b c d) h =
        let k = then_marks (shapes.in_expr forms b) (shapes.in_expr forms c ++ shapes.in_expr forms d) h in
        (expr_inlines b (first_marks (shapes.in_expr forms b) (shapes.in_expr forms c ++ shapes.in_expr forms d) h), (expr_inlines c (first_marks (shapes.in_expr forms c) (shapes.in_expr forms d) k), expr_inlines d (then_marks (shapes.in_expr forms c) (shapes.in_expr forms d) k)))
    expr_inlines (pre a b) h = expr_inlines b h
    expr_inlines (fby a b c) h = (expr_inlines b (first_marks (shapes.in_expr forms b) (shapes.in_expr forms c) h), expr_inlines c (then_marks (shapes.in_expr forms b) (shapes.in_expr forms c) h))
    expr_inlines (arrow a b c) h = (expr_inlines b (first_marks (shapes.in_expr forms b) (shapes.in_expr forms c) h), expr_inlines c (then_marks (shapes.in_expr forms b) (shapes.in_expr forms c) h))
    expr_inlines (when_is a b c x) h = expr_inlines b h
    expr_inlines (merge a x ps) h = parts_inline ps h
    expr_inlines (call a f false es) h = (tt, exprs_inline es (then_marks (of_call a false (forms f)) (shapes.in_exprs forms es) h))
    expr_inlines (call a f true es) h = (call_inlines a f (first_marks (of_call a true (forms f)) (shapes.in_exprs forms es) h), exprs_inline es (then_marks (of_call a true (forms f)) (shapes.in_exprs forms es) h))

    exprs_inline : (es : Exprs) → InlineNoContract (shapes.in_exprs forms es) → ExprsInline P es
    exprs_inline no_expr h = tt
    exprs_inline (more_exprs e es) h = (expr_inlines e (first_marks (shapes.in_expr forms e) (shapes.in_exprs forms es) h), exprs_inline es (then_marks (shapes.in_expr forms e) (shapes.in_exprs forms es) h))

    parts_inline : (ps : Parts) → InlineNoContract (shapes.in_parts forms ps) → PartsInline P ps
    parts_inline no_part h = tt
    parts_inline (more_parts c e ps) h = (expr_inlines e (first_marks (shapes.in_expr forms e) (shapes.in_parts forms ps) h), parts_inline ps (then_marks (shapes.in_expr forms e) (shapes.in_parts forms ps) h))

  mutual
    block_inlines : (b : Block) → InlineNoContract (shapes.in_block forms b) → BlockInlines P b
    block_inlines (block ds es) h = eqns_inline es h

    eqns_inline : (es : Eqns) → InlineNoContract (shapes.in_eqns forms es) → EqnsInline P es
    eqns_inline no_eqn h = tt
    eqns_inline (more_eqns e es) h = (eqn_inlines e (first_marks (shapes.in_eqn forms e) (shapes.in_eqns forms es) h), eqns_inline es (then_marks (shapes.in_eqn forms e) (shapes.in_eqns forms es) h))

    eqn_inlines : (e : Eqn) → InlineNoContract (shapes.in_eqn forms e) → EqnInlines P e
    eqn_inlines (define s ys e) h = expr_inlines e h
    eqn_inlines (switch s e arms) h = (expr_inlines e (first_marks (shapes.in_expr forms e) (shapes.in_arms forms arms) h), arms_inline arms (then_marks (shapes.in_expr forms e) (shapes.in_arms forms arms) h))
    eqn_inlines (reset s b e) h = (expr_inlines e (then_marks (shapes.in_block forms b) (shapes.in_expr forms e) h), block_inlines b (first_marks (shapes.in_block forms b) (shapes.in_expr forms e) h))
    eqn_inlines (automaton s ss) h = states_inline ss h

    arms_inline : (arms : Arms) → InlineNoContract (shapes.in_arms forms arms) → ArmsInline P arms
    arms_inline no_arm h = tt
    arms_inline (more_arms c b s arms) h = (block_inlines b (first_marks (shapes.in_block forms b) (shapes.in_arms forms arms) h), arms_inline arms (then_marks (shapes.in_block forms b) (shapes.in_arms forms arms) h))

    states_inline : (ss : States) → InlineNoContract (shapes.in_states forms ss) → StatesInline P ss
    states_inline no_state h = tt
    states_inline (more_states f b until unless s ss) h =
        let us = shapes.in_transitions forms until in
        let vs = shapes.in_transitions forms unless in
        let k = then_marks (shapes.in_block forms b) (us ++ (vs ++ shapes.in_states forms ss)) h in
        (block_inlines b (first_marks (shapes.in_block forms b) (us ++ (vs ++ shapes.in_states forms ss)) h), states_inline ss (then_marks vs (shapes.in_states forms ss) (then_marks us (vs ++ shapes.in_states forms ss) k)))

  condition_inlines : (o : Option Expr) → InlineNoContract (shapes.in_condition forms o) → ConditionInlines P o
  condition_inlines None h = tt
  condition_inlines (Some e) h = expr_inlines e h

  contract_inlines : (o : Option Contract) → InlineNoContract (shapes.in_contract forms o) → ContractInlines P o
  contract_inlines None h = tt
  contract_inlines (Some c) h =
      let assumes = shapes.in_condition forms c.assume in
      let enforces = shapes.in_condition forms c.enforce in
      let controls = shapes.in_controls c.controls in
      let k = then_marks (shapes.in_block forms c.body) (assumes ++ (enforces ++ controls)) h in (
        block_inlines c.body (first_marks (shapes.in_block forms c.body) (assumes ++ (enforces ++ controls)) h),
        (condition_inlines c.assume (first_marks assumes (enforces ++ controls) k), condition_inlines c.enforce (first_marks enforces controls (then_marks assumes (enforces ++ controls) k))),
      )

-- ---- a node whose inlined calls are replaced

controls_in : (nodes : List ℕ → Node) (o : Option Contract) → controls_of (in_contract nodes 1 o).part ≡ controls_of o
controls_in nodes None = refl
controls_in nodes (Some c) = refl

controls_numbered : (o : Option Contract) → controls_of (option_map number_contract o) ≡ controls_of o
controls_numbered None = refl
controls_numbered (Some c) = refl

seen_interface : (n : Node) → Seen (interface n) (interface_of n)
seen_interface n = seen_more (also no_names n.inputs) (among nobody n.inputs) n.outputs (seen_more no_names nobody n.inputs (λ x t h. absurd h))

module _ (types : List TypeDecl) (known : Scope) where
  -- a node of a ready program
  abbrev pub Made : Node → Type 0
  Made y = (m : Node) × ((at : Assignment) × ((y ≡ node_with_clocks at m) × (IsShortest (IsAllowed m) at × (NodeAround known m × (NodeScoped m × NodeFull types m)))))

  replaced_around : (nodes : List ℕ → Node) → ((f : List ℕ) → NodeAround known (nodes f)) → ((f : List ℕ) → IsReady (nodes f)) → (n : Node) → CanBeReplaced nodes n → BlockInlines (Uncontrolled nodes) n.body → NodeAround known n → NodeAround known (replaced_node nodes n)
  replaced_around nodes bodies ready n can i h =
      let k = (in_contract nodes 1 n.contract).next in
      let G = among (interface_of n) (controls_of n.contract) in
      let m1 = in_node nodes n in
      let sc = in_node_scoped nodes ready n can.scoped can.plain can.fits can.few_calls in
      let made : BlockAround known G m1.body = block_around known nodes bodies G G (λ x t g. g) k n.body i h.1 in
      let cs : controls_of m1.contract ≡ controls_of n.contract = controls_in nodes n.contract in
      let all : controls_of (replaced_node nodes n).contract ≡ controls_of n.contract = controls_numbered m1.contract ∙ cs in (
        h.0,
        subst (λ z. BlockAround known (among (interface_of n) z) (replaced_node nodes n).body) (sym all)
            (block_numbered known (also (interface m1) (controls_of m1.contract)) (also no_names m1.outputs) same_name (behind m1.contract) G G m1.body sc.body
            (subst (λ z. Seen (also (interface m1) z) G) (sym cs) (seen_more (interface n) (interface_of n) (controls_of n.contract) (seen_interface n))) (λ x t g. g) made),
      )

  replaced_contract : (nodes : List ℕ → Node) → ((f : List ℕ) → NodeAround known (nodes f)) → ((f : List ℕ) → IsReady (nodes f)) → (n : Node) → CanBeReplaced nodes n → ContractInlines (Uncontrolled nodes) n.contract → ContractAround known (interface_of n) n.contract → ContractAround known (interface_of n) (replaced_node nodes n).contract
  replaced_contract nodes bodies ready n can i h =
      let m = in_node nodes n in
      let sc = in_node_scoped nodes ready n can.scoped can.plain can.fits can.few_calls in
      contract_numbered known (interface m) (interface_of n) m.contract sc.contract (seen_interface n) (contract_around known nodes bodies (interface_of n) n.contract i h)

  with_around : (nodes : List ℕ → Node) → ((f : List ℕ) → NodeAround known (nodes f)) → (n : Node) → NodeAround known n → (f : List ℕ) → NodeAround known (with_node nodes n f)
  with_around nodes bodies n h f = by (bytes_eq n.name f)
    where
      by : (b : Bool) → NodeAround known (if b then n else nodes f)
      by true = h
      by false = bodies f

  contract_there : (nodes : List ℕ → Node) (o : Option Contract) → is_some (option_map number_contract (in_contract nodes 1 o).part) ≡ is_some o
  contract_there nodes None = refl
  contract_there nodes (Some c) = refl

  form_alike : (nodes : List ℕ → Node) (forms : List ℕ → Form) → ((f : List ℕ) → (forms f).has_contract ≡ is_some (nodes f).contract) → (n : Node) (f : List ℕ) (b : Bool)
      → (if b then shapes.form_of forms n else forms f).has_contract ≡ is_some (if b then replaced_node nodes n else nodes f).contract
  form_alike nodes forms alike n f true = sym (contract_there nodes n.contract)
  form_alike nodes forms alike n f false = alike f

  pub all_made : (nodes : List ℕ → Node) (forms : List ℕ → Form) → ((f : List ℕ) → NodeAround known (nodes f)) → ((f : List ℕ) → IsReady (nodes f)) → ((f : List ℕ) → AllTypes (Full types) (nodes f)) → ((f : List ℕ) → (forms f).has_contract ≡ is_some (nodes f).contract) → (xs ys : List Item)
      → EachNode (NodeAround known) xs → EachNode (NodeFull types) xs → AllCanBeReplaced nodes xs → AreShaped forms xs → AreClocked (replaced_items nodes xs) ys → EachNode Made ys
  all_made nodes forms bodies ready full alike [] [] a t can shape c = tt
  all_made nodes forms bodies ready full alike [] (y ∷ ys) a t can shape c = absurd c
  all_made nodes forms bodies ready full alike (TypeItem d ∷ xs) [] a t can shape c = absurd c
  all_made nodes forms bodies ready full alike (NodeItem n ∷ xs) [] a t can shape c = absurd c
  all_made nodes forms bodies ready full alike (TypeItem d ∷ xs) (y ∷ ys) a t can shape c =
      subst (λ z. EachNode Made (z ∷ ys)) (sym c.0) (all_made nodes forms bodies ready full alike xs ys a t can shape c.1)
  all_made nodes forms bodies ready full alike (NodeItem n ∷ xs) (y ∷ ys) a t can shape c =
      let m = replaced_node nodes n in
      let i = block_inlines nodes forms alike n.body shape.0.body_inlines_no_contract in
      let around = replaced_around nodes bodies ready n can.0 i a.0 in
      let r = node_replaced nodes ready n can.0 in
      let types_m = types_replaced (Full types) nodes full n t.0.0 in
      let cs : controls_of m.contract ≡ controls_of n.contract = controls_numbered (in_node nodes n).contract ∙ controls_in nodes n.contract in
      subst (λ z. EachNode Made (z ∷ ys)) (sym c.0.1.1) (
        (m, (c.0.0, (refl, (c.0.1.0, (around, (r.scoped, (types_m, subst (DeclTypes (Full types)) (sym cs) t.0.1))))))),
        all_made (with_node nodes m) (shapes.with_form forms n.name (shapes.form_of forms n)) (with_around nodes bodies m around) (with_ready nodes ready m r) (with_types (Full types) nodes full m types_m) (λ f. form_alike nodes forms alike n f (bytes_eq n.name f)) xs ys a.1 t.1 can.1 shape.1 c.1,
      )

  -- the contracts of its nodes, with their clocks
  pub contracts_apart : (nodes : List ℕ → Node) (forms : List ℕ → Form) → ((f : List ℕ) → NodeAround known (nodes f)) → ((f : List ℕ) → IsReady (nodes f)) → ((f : List ℕ) → (forms f).has_contract ≡ is_some (nodes f).contract) → (xs ys : List Item)
      → EachNode (NodeAround known) xs → EachNode (λ (n : Node). ContractAround known (interface_of n) n.contract) xs → AllCanBeReplaced nodes xs → AreShaped forms xs → AreClocked (replaced_items nodes xs) ys → EachNode (λ (n : Node). ContractApart n.contract) ys
  contracts_apart nodes forms bodies ready alike [] [] a t can shape c = tt
  contracts_apart nodes forms bodies ready alike [] (y ∷ ys) a t can shape c = absurd c
  contracts_apart nodes forms bodies ready alike (TypeItem d ∷ xs) [] a t can shape c = absurd c
  contracts_apart nodes forms bodies ready alike (NodeItem n ∷ xs) [] a t can shape c = absurd c
  contracts_apart nodes forms bodies ready alike (TypeItem d ∷ xs) (y ∷ ys) a t can shape c =
      subst (λ z. EachNode (λ (n : Node). ContractApart n.contract) (z ∷ ys)) (sym c.0) (contracts_apart nodes forms bodies ready alike xs ys a t can shape c.1)
  contracts_apart nodes forms bodies ready alike (NodeItem n ∷ xs) (y ∷ ys) a t can shape c =
      let m = replaced_node nodes n in
      let around = replaced_around nodes bodies ready n can.0 (block_inlines nodes forms alike n.body shape.0.body_inlines_no_contract) a.0 in
      let told = replaced_contract nodes bodies ready n can.0 (contract_inlines nodes forms alike n.contract shape.0.contract_inlines_no_contract) t.0 in
      let r = node_replaced nodes ready n can.0 in
      subst (λ z. EachNode (λ (w : Node). ContractApart w.contract) (z ∷ ys)) (sym c.0.1.1) (
        contract_apart known c.0.0 (interface_of n) m.contract told,
        contracts_apart (with_node nodes m) (shapes.with_form forms n.name (shapes.form_of forms n)) (with_around nodes bodies m around) (with_ready nodes ready m r) (λ f. form_alike nodes forms alike n f (bytes_eq n.name f)) xs ys a.1 t.1 can.1 shape.1 c.1,
      )
