-- A part brings no plain call exactly where it brings no instance.
use Rattle.std.proofs.Common.{◌≡◌, ◌↔◌, ℕ, ◌+◌, Bool, true, false, if◌then◌else◌, length, List, [], ◌∷◌, ◌++◌, Option, None, Some, fold, refl, sym, ap, ◌∙◌, subst, arith}
use Rattle.std.specs.Prelude.{is_some}
use Rattle.std.specs.Str.{bytes_eq}
use Rattle.hp_base.specs.declared.span.Span.{Span}
use Rattle.hp_base.specs.First.First.{itself}
use Rattle.hp_base.proofs.FirstLemmas.FirstLaws.{sooner-found}
use Rattle.hp_base.specs.declared.ty.Ty.{Ty}
use Rattle.hp_base.specs.declared.ty.Ty.TheVariants as ty
use Rattle.hp_tree.specs.declared.block.Trans.{Trans}
use Rattle.hp_tree.specs.Expressions.{Expr, constant, variable, last_of, one, two, choose, pre, fby, arrow, when_is, merge, call, Exprs, no_expr, more_exprs, Parts, no_part, more_parts}
use Rattle.hp_tree.specs.Blocks.{Decl, Block, block, Eqns, no_eqn, more_eqns, Eqn, define, switch, reset, automaton, Arms, no_arm, more_arms, States, no_state, more_states}
use Rattle.hp_tree.specs.Programs.{Contract, Node}
use Rattle.hp_expand.specs.Sizes as sizes
use Rattle.hp_expand.specs.Sizes.{none, places, join, deeper, called}
use Rattle.hp_expand.specs.Shapes as shapes
use Rattle.hp_expand.specs.Shapes.{Mark, plain_at, bound_at, integer_at, of_call, brings, nothing, see, found_after}
use Rattle.hp_expand.specs.Formed.{MakeNoPlainCall, InlineNoContract}
use Rattle.hp_expand.proofs.SizeLaws.{join-end, join-again}
use Rattle.hp_compile.proofs.CountLemmas.Fits.{front, rest, unbound, InlinesNone}
use Rattle.hp_compile.proofs.CountLemmas.Types.{Size, Form, Found}

-- ---- marks

calls_both : (ms ns : List Mark) → MakeNoPlainCall ms → MakeNoPlainCall ns → MakeNoPlainCall (ms ++ ns)
calls_both [] ns h k = k
calls_both (plain_at at ∷ ms) ns h k = absurd h
calls_both (bound_at at ∷ ms) ns h k = calls_both ms ns h k
calls_both (integer_at at ∷ ms) ns h k = calls_both ms ns h k

calls_front : (ms ns : List Mark) → MakeNoPlainCall (ms ++ ns) → MakeNoPlainCall ms
calls_front [] ns h = tt
calls_front (plain_at at ∷ ms) ns h = absurd h
calls_front (bound_at at ∷ ms) ns h = calls_front ms ns h
calls_front (integer_at at ∷ ms) ns h = calls_front ms ns h

calls_rest : (ms ns : List Mark) → MakeNoPlainCall (ms ++ ns) → MakeNoPlainCall ns
calls_rest [] ns h = h
calls_rest (plain_at at ∷ ms) ns h = absurd h
calls_rest (bound_at at ∷ ms) ns h = calls_rest ms ns h
calls_rest (integer_at at ∷ ms) ns h = calls_rest ms ns h

plain_empty : (ms : List Mark) (f : Found) → f.plain ≡ None → MakeNoPlainCall ms → (fold see f ms).plain ≡ None
plain_empty [] f h k = h
plain_empty (plain_at at ∷ ms) f h k = absurd k
plain_empty (bound_at at ∷ ms) f h k = plain_empty ms (see f (bound_at at)) h k
plain_empty (integer_at at ∷ ms) f h k = plain_empty ms (see f (integer_at at)) h k

plain_none : (ms : List Mark) (f : Found) → (fold see f ms).plain ≡ None → (f.plain ≡ None) × MakeNoPlainCall ms
plain_none [] f h = (h, tt)
plain_none (plain_at at ∷ ms) f h = absurd (sooner-found itself f.plain at (plain_none ms (see f (plain_at at)) h).0)
plain_none (bound_at at ∷ ms) f h = plain_none ms (see f (bound_at at)) h
plain_none (integer_at at ∷ ms) f h = plain_none ms (see f (integer_at at)) h

sum_left : (m n : ℕ) → m + n ≡ 0 → m ≡ 0
sum_left m n h = omega (arith, h)

sum_right : (m n : ℕ) → m + n ≡ 0 → n ≡ 0
sum_right m n h = omega (arith, h)

sum_both : (m n : ℕ) → m ≡ 0 → n ≡ 0 → m + n ≡ 0
sum_both m n h k = omega (arith, h, k)

-- what is known of a node without a contract: it has no instance below it exactly where no plain call is brought
abbrev pub Tied : (List ℕ → Size) → (List ℕ → Form) → Type 0
Tied known forms = (f : List ℕ) → (forms f).has_contract ≡ false → ((known f).instances ≡ 0) ↔ ((forms f).plain ≡ None)

module _ (known : List ℕ → Size) (forms : List ℕ → Form) (tied : Tied known forms) where
  abbrev Quiet : Size → List Mark → Type 0
  Quiet s ms = (s.instances ≡ 0) ↔ MakeNoPlainCall ms

  both_quiet : (s t : Size) (ms ns : List Mark) → Quiet s ms → Quiet t ns → Quiet (join s t) (ms ++ ns)
  unfolding join
  both_quiet s t ms ns p q = (
    λ h. calls_both ms ns (p.0 (sum_left s.instances t.instances h)) (q.0 (sum_right s.instances t.instances h)),
    λ h. sum_both s.instances t.instances (p.1 (calls_front ms ns h)) (q.1 (calls_rest ms ns h)),
  )

  none_quiet : Quiet none []
  none_quiet = (λ h. tt, λ h. refl)

  places_quiet : (n : ℕ) → Quiet (places n) []
  unfolding places
  places_quiet n = (λ h. tt, λ h. refl)

  above_quiet : (s : Size) (ms : List Mark) → Quiet s ms → Quiet (join (places 1) s) ms
  above_quiet s ms p = both_quiet (places 1) s [] ms (places_quiet 1) p

  deeper_quiet : (s : Size) (ms : List Mark) → Quiet s ms → Quiet (deeper s) ms
  unfolding deeper
  deeper_quiet s ms p = p

  abbrev above_two : (s t : Size) (ms ns : List Mark) → Quiet s ms → Quiet t ns → Quiet (join (places 1) (join s t)) (ms ++ ns)
  above_two s t ms ns p q = above_quiet (join s t) (ms ++ ns) (both_quiet s t ms ns p q)

  called_quiet : (at : Span) (f : List ℕ) → Quiet (called (known f)) (of_call at false (forms f))
  unfolding called of_call
  called_quiet at f = (λ h. absurd (omega (arith, h)), λ h. absurd h)

  brought_quiet : (at : Span) (f : List ℕ) → (forms f).has_contract ≡ false → Quiet (known f) (of_call at true (forms f))
  unfolding of_call
  brought_quiet at f e = subst (λ b. Quiet (known f) (if b then bound_at at ∷ [] else brings (forms f).plain)) (sym e) (by (forms f).plain (tied f e))
    where
      by : (o : Option Span) → ((known f).instances ≡ 0) ↔ (o ≡ None) → Quiet (known f) (brings o)
      by None p = (λ h. tt, λ h. p.1 refl)
      by (Some s) p = (λ h. absurd (let no : Some s ≡ None = p.0 h in cc), λ h. absurd h)

  call_quiet : (n : ℕ) (at : Span) (f : List ℕ) (inlined : Bool) (s : Size) (ms : List Mark) → InlineNoContract (of_call at inlined (forms f) ++ ms) → Quiet s ms → Quiet (sizes.of_call n inlined (known f) s) (of_call at inlined (forms f) ++ ms)
  unfolding sizes.of_call
  call_quiet n at f false s ms i p = above_quiet (join (called (known f)) s) (of_call at false (forms f) ++ ms) (both_quiet (called (known f)) s (of_call at false (forms f)) ms (called_quiet at f) p)
  call_quiet n at f true s ms i p =
      both_quiet (places n) (join (known f) s) [] (of_call at true (forms f) ++ ms) (places_quiet n)
      (both_quiet (known f) s (of_call at true (forms f)) ms (brought_quiet at f (unbound at (forms f) (front (of_call at true (forms f)) ms i))) p)

  mutual
    expr_quiet : (e : Expr) → InlineNoContract (shapes.in_expr forms e) → Quiet (sizes.in_expr known e) (shapes.in_expr forms e)
    expr_quiet (constant at c) i = places_quiet 1
    expr_quiet (variable at x) i = places_quiet 1
    expr_quiet (last_of at x) i = places_quiet 1
    expr_quiet (one at op a) i = above_quiet (sizes.in_expr known a) (shapes.in_expr forms a) (expr_quiet a i)
    expr_quiet (two at op a b) i =
        let ms = shapes.in_expr forms a in
        let ns = shapes.in_expr forms b in
        above_two (sizes.in_expr known a) (sizes.in_expr known b) ms ns (expr_quiet a (front ms ns i)) (expr_quiet b (rest ms ns i))
    expr_quiet (choose at a b c) i =
        let ms = shapes.in_expr forms a in
        let ns = shapes.in_expr forms b in
        let os = shapes.in_expr forms c in
        let behind = rest ms (ns ++ os) i in
        above_two (sizes.in_expr known a) (join (sizes.in_expr known b) (sizes.in_expr known c)) ms (ns ++ os) (expr_quiet a (front ms (ns ++ os) i))
        (both_quiet (sizes.in_expr known b) (sizes.in_expr known c) ns os (expr_quiet b (front ns os behind)) (expr_quiet c (rest ns os behind)))
    expr_quiet (pre at a) i = above_quiet (sizes.in_expr known a) (shapes.in_expr forms a) (expr_quiet a i)
    expr_quiet (fby at a b) i =
        let ms = shapes.in_expr forms a in
        let ns = shapes.in_expr forms b in
        above_two (sizes.in_expr known a) (sizes.in_expr known b) ms ns (expr_quiet a (front ms ns i)) (expr_quiet b (rest ms ns i))
    expr_quiet (arrow at a b) i =
        let ms = shapes.in_expr forms a in
        let ns = shapes.in_expr forms b in
        above_two (sizes.in_expr known a) (sizes.in_expr known b) ms ns (expr_quiet a (front ms ns i)) (expr_quiet b (rest ms ns i))
    expr_quiet (when_is at a c x) i = above_quiet (sizes.in_expr known a) (shapes.in_expr forms a) (expr_quiet a i)
    expr_quiet (merge at x ps) i = above_quiet (sizes.in_parts known ps) (shapes.in_parts forms ps) (parts_quiet ps i)
    expr_quiet (call at f inlined es) i =
        call_quiet 1 at f inlined (sizes.in_exprs known es) (shapes.in_exprs forms es) i (exprs_quiet es (rest (of_call at inlined (forms f)) (shapes.in_exprs forms es) i))

    exprs_quiet : (es : Exprs) → InlineNoContract (shapes.in_exprs forms es) → Quiet (sizes.in_exprs known es) (shapes.in_exprs forms es)
    exprs_quiet no_expr i = none_quiet
    exprs_quiet (more_exprs e es) i =
        let ms = shapes.in_expr forms e in
        let ns = shapes.in_exprs forms es in
        both_quiet (sizes.in_expr known e) (sizes.in_exprs known es) ms ns (expr_quiet e (front ms ns i)) (exprs_quiet es (rest ms ns i))

    parts_quiet : (ps : Parts) → InlineNoContract (shapes.in_parts forms ps) → Quiet (sizes.in_parts known ps) (shapes.in_parts forms ps)
    parts_quiet no_part i = none_quiet
    parts_quiet (more_parts c e ps) i =
        let ms = shapes.in_expr forms e in
        let ns = shapes.in_parts forms ps in
        both_quiet (sizes.in_expr known e) (sizes.in_parts known ps) ms ns (expr_quiet e (front ms ns i)) (parts_quiet ps (rest ms ns i))

  right_quiet : (n : ℕ) (e : Expr) → InlineNoContract (shapes.in_expr forms e) → Quiet (sizes.in_right known n e) (shapes.in_expr forms e)
  right_quiet n (constant at c) i = expr_quiet (constant at c) i
  right_quiet n (variable at x) i = expr_quiet (variable at x) i
  right_quiet n (last_of at x) i = expr_quiet (last_of at x) i
  right_quiet n (one at op a) i = expr_quiet (one at op a) i
  right_quiet n (two at op a b) i = expr_quiet (two at op a b) i
  right_quiet n (choose at a b c) i = expr_quiet (choose at a b c) i
  right_quiet n (pre at a) i = expr_quiet (pre at a) i
  right_quiet n (fby at a b) i = expr_quiet (fby at a b) i
  right_quiet n (arrow at a b) i = expr_quiet (arrow at a b) i
  right_quiet n (when_is at a c x) i = expr_quiet (when_is at a c x) i
  right_quiet n (merge at x ps) i = expr_quiet (merge at x ps) i
  right_quiet n (call at f inlined es) i =
      call_quiet n at f inlined (sizes.in_exprs known es) (shapes.in_exprs forms es) i (exprs_quiet es (rest (of_call at inlined (forms f)) (shapes.in_exprs forms es) i))

  transitions_quiet : (ts : List Trans) → InlineNoContract (shapes.in_transitions forms ts) → Quiet (sizes.in_transitions known ts) (shapes.in_transitions forms ts)
  transitions_quiet [] i = none_quiet
  transitions_quiet (t ∷ ts) i =
      let ms = shapes.in_expr forms t.cond in
      let ns = shapes.in_transitions forms ts in
      both_quiet (sizes.in_expr known t.cond) (sizes.in_transitions known ts) ms ns (expr_quiet t.cond (front ms ns i)) (transitions_quiet ts (rest ms ns i))

  mutual
    block_quiet : (b : Block) → InlineNoContract (shapes.in_block forms b) → Quiet (sizes.in_block known b) (shapes.in_block forms b)
    block_quiet (block ds es) i = both_quiet (places (length ds)) (sizes.in_eqns known es) [] (shapes.in_eqns forms es) (places_quiet (length ds)) (eqns_quiet es i)

    eqns_quiet : (es : Eqns) → InlineNoContract (shapes.in_eqns forms es) → Quiet (sizes.in_eqns known es) (shapes.in_eqns forms es)
    eqns_quiet no_eqn i = none_quiet
    eqns_quiet (more_eqns e es) i =
        let ms = shapes.in_eqn forms e in
        let ns = shapes.in_eqns forms es in
        both_quiet (sizes.in_eqn known e) (sizes.in_eqns known es) ms ns (eqn_quiet e (front ms ns i)) (eqns_quiet es (rest ms ns i))

    eqn_quiet : (e : Eqn) → InlineNoContract (shapes.in_eqn forms e) → Quiet (sizes.in_eqn known e) (shapes.in_eqn forms e)
    eqn_quiet (define at xs e) i = right_quiet (length xs) e i
    eqn_quiet (switch at e arms) i =
        let ms = shapes.in_expr forms e in
        let ns = shapes.in_arms forms arms in
        both_quiet (sizes.in_expr known e) (sizes.in_arms known arms) ms ns (expr_quiet e (front ms ns i)) (arms_quiet arms (rest ms ns i))
    eqn_quiet (reset at b e) i =
        let ms = shapes.in_block forms b in
        let ns = shapes.in_expr forms e in
        both_quiet (deeper (sizes.in_block known b)) (sizes.in_expr known e) ms ns (deeper_quiet (sizes.in_block known b) ms (block_quiet b (front ms ns i))) (expr_quiet e (rest ms ns i))
    eqn_quiet (automaton at qs) i = both_quiet (places 4) (sizes.in_states known qs) [] (shapes.in_states forms qs) (places_quiet 4) (states_quiet qs i)

    arms_quiet : (arms : Arms) → InlineNoContract (shapes.in_arms forms arms) → Quiet (sizes.in_arms known arms) (shapes.in_arms forms arms)
    arms_quiet no_arm i = none_quiet
    arms_quiet (more_arms c b at arms) i =
        let ms = shapes.in_block forms b in
        let ns = shapes.in_arms forms arms in
        both_quiet (deeper (sizes.in_block known b)) (sizes.in_arms known arms) ms ns (deeper_quiet (sizes.in_block known b) ms (block_quiet b (front ms ns i))) (arms_quiet arms (rest ms ns i))

    states_quiet : (qs : States) → InlineNoContract (shapes.in_states forms qs) → Quiet (sizes.in_states known qs) (shapes.in_states forms qs)
    states_quiet no_state i = none_quiet
    states_quiet (more_states x b until unless at qs) i =
        let own = shapes.in_block forms b in
        let weak = shapes.in_transitions forms until in
        let strong = shapes.in_transitions forms unless in
        let others = shapes.in_states forms qs in
        let s = deeper (sizes.in_block known b) in
        let u = sizes.in_transitions known until in
        let w = sizes.in_transitions known unless in
        let q = sizes.in_states known qs in
        let behind = rest own (weak ++ (strong ++ others)) i in
        let last = rest weak (strong ++ others) behind in
        let regrouped : join s (join u (join w q)) ≡ join (join s (join u w)) q = ap (join s) (sym (join-again u w q)) ∙ sym (join-again s (join u w) q) in
        subst (λ z. Quiet z (own ++ (weak ++ (strong ++ others)))) regrouped
        (both_quiet s (join u (join w q)) own (weak ++ (strong ++ others)) (deeper_quiet (sizes.in_block known b) own (block_quiet b (front own (weak ++ (strong ++ others)) i)))
        (both_quiet u (join w q) weak (strong ++ others) (transitions_quiet until (front weak (strong ++ others) behind))
        (both_quiet w q strong others (transitions_quiet unless (front strong others last)) (states_quiet qs (rest strong others last)))))

  condition_quiet : (e : Option Expr) → InlineNoContract (shapes.in_condition forms e) → Quiet (sizes.in_condition known e) (shapes.in_condition forms e)
  condition_quiet None i = none_quiet
  condition_quiet (Some e) i = expr_quiet e i

  type_quiet : (at : Span) (t : Ty) → Quiet none (shapes.in_type at t)
  type_quiet at ty.Bool = none_quiet
  type_quiet at ty.Int = (λ h. tt, λ h. refl)
  type_quiet at (ty.Enum x) = none_quiet

  controls_quiet : (ds : List Decl) → Quiet none (shapes.in_controls ds)
  controls_quiet [] = none_quiet
  controls_quiet (d ∷ ds) =
      subst (λ z. Quiet z (shapes.in_type d.span d.ty ++ shapes.in_controls ds)) (join-end none) (both_quiet none none (shapes.in_type d.span d.ty) (shapes.in_controls ds) (type_quiet d.span d.ty) (controls_quiet ds))

  pub contract_quiet : (c : Option Contract) → InlineNoContract (shapes.in_contract forms c) → ((sizes.in_contract known c).instances ≡ 0) ↔ MakeNoPlainCall (shapes.in_contract forms c)
  contract_quiet None i = none_quiet
  contract_quiet (Some c) i =
      let own = shapes.in_block forms c.body in
      let assume = shapes.in_condition forms c.assume in
      let enforce = shapes.in_condition forms c.enforce in
      let controls = shapes.in_controls c.controls in
      let s = sizes.in_block known c.body in
      let a = sizes.in_condition known c.assume in
      let g = sizes.in_condition known c.enforce in
      let behind = rest own (assume ++ (enforce ++ controls)) i in
      let last = rest assume (enforce ++ controls) behind in
      both_quiet (places (length c.controls)) (join s (join a g)) [] (own ++ (assume ++ (enforce ++ controls))) (places_quiet (length c.controls))
      (both_quiet s (join a g) own (assume ++ (enforce ++ controls)) (block_quiet c.body (front own (assume ++ (enforce ++ controls)) i))
      (both_quiet a g assume (enforce ++ controls) (condition_quiet c.assume (front assume (enforce ++ controls) behind))
      (subst (λ z. Quiet z (enforce ++ controls)) (join-end g) (both_quiet g none enforce controls (condition_quiet c.enforce (front enforce controls last)) (controls_quiet c.controls)))))

  -- a node without a contract
  node_quiet : (n : Node) → n.contract ≡ None → InlineNoContract (shapes.in_block forms n.body) → ((sizes.in_node known n).instances ≡ 0) ↔ MakeNoPlainCall (shapes.in_block forms n.body)
  node_quiet n e i =
      both_quiet (join (places (length n.inputs)) (places (length n.outputs))) (join (sizes.in_contract known n.contract) (sizes.in_block known n.body)) [] (shapes.in_block forms n.body)
      (both_quiet (places (length n.inputs)) (places (length n.outputs)) [] [] (places_quiet (length n.inputs)) (places_quiet (length n.outputs)))
      (both_quiet (sizes.in_contract known n.contract) (sizes.in_block known n.body) [] (shapes.in_block forms n.body) (subst (λ z. Quiet (sizes.in_contract known z) []) (sym e) none_quiet) (block_quiet n.body i))

  no_contract : (c : Option Contract) → is_some c ≡ false → c ≡ None
  no_contract None h = refl
  no_contract (Some c) h = absurd (cc h)

  -- and the tables with one node more
  pub tied_more : (n : Node) → InlinesNone forms n → Tied (sizes.with_node known n.name (sizes.in_node known n)) (shapes.with_form forms n.name (shapes.form_of forms n))
  unfolding found_after
  tied_more n i f = by (bytes_eq n.name f)
    where
      ms : List Mark
      ms = shapes.in_block forms n.body

      own : is_some n.contract ≡ false → ((sizes.in_node known n).instances ≡ 0) ↔ ((fold see nothing ms).plain ≡ None)
      own e =
          let p = node_quiet n (no_contract n.contract e) i.1 in
          (λ h. plain_empty ms nothing refl (p.0 h), λ h. p.1 (plain_none ms nothing h).1)

      by : (b : Bool) → (if b then shapes.form_of forms n else forms f).has_contract ≡ false →
          ((if b then sizes.in_node known n else known f).instances ≡ 0) ↔ ((if b then shapes.form_of forms n else forms f).plain ≡ None)
      by true e = own e
      by false e = tied f e

pub none_tied : Tied sizes.nothing_known shapes.nothing_known
none_tied f e = (λ h. refl, λ h. refl)
