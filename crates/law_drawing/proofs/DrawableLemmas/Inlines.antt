-- No node with a contract is inlined, so none with controllable variables is.
use Rattle.std.proofs.Common.{◌≡◌, ℕ, List, [], ◌∷◌, ◌++◌, refl, sym, ◌∙◌}
use Rattle.std.specs.Prelude.{Bool, true, false, is_some, if◌then◌else◌, Option, None, Some}
use Rattle.hp_base.specs.declared.span.Span.{Span}
use Rattle.hp_tree.specs.Expressions.{Expr, constant, variable, last_of, one, two, choose, pre, fby, arrow, when_is, merge, call, Exprs, no_expr, more_exprs, Parts, no_part, more_parts}
use Rattle.hp_tree.specs.Blocks.{Block, block, Eqns, no_eqn, more_eqns, Eqn, define, switch, reset, automaton, Arms, no_arm, more_arms, States, no_state, more_states}
use Rattle.hp_tree.specs.Programs.{Contract, Node}
use Rattle.hp_tree.specs.Meaning.{controls_of}
use Rattle.hp_expand.specs.Shapes as shapes
use Rattle.hp_expand.specs.Shapes.{Mark, plain_at, bound_at, integer_at, of_call}
use Rattle.hp_expand.specs.Formed.{InlineNoContract}
use Rattle.law_values.proofs.AcceptedLemmas.ReplacesEqns.{ExprInlines, ExprsInline, PartsInline, BlockInlines, EqnsInline, EqnInlines, ArmsInline, StatesInline}
use Rattle.law_drawing.proofs.DrawableLemmas.Replaced.{Free, ConditionFree, ContractFree}

-- what is known of the shape of a node, whose type its crate keeps to itself
abbrev TypeOf : {A : Type 0} → A → Type 0
TypeOf {A} a = A

abbrev pub Form : Type 0
Form = TypeOf shapes.no_form

-- ---- no node with a contract is inlined

first_marks : (a b : List Mark) → InlineNoContract (a ++ b) → InlineNoContract a
first_marks [] b h = tt
first_marks (plain_at at ∷ a) b h = first_marks a b h
first_marks (bound_at at ∷ a) b h = absurd h
first_marks (integer_at at ∷ a) b h = first_marks a b h

then_marks : (a b : List Mark) → InlineNoContract (a ++ b) → InlineNoContract b
then_marks [] b h = h
then_marks (plain_at at ∷ a) b h = then_marks a b h
then_marks (bound_at at ∷ a) b h = absurd h
then_marks (integer_at at ∷ a) b h = then_marks a b h

no_controls : (o : Option Contract) → is_some o ≡ false → controls_of o ≡ []
no_controls None h = refl
no_controls (Some c) h = absurd (cc)

module _ (nodes : List ℕ → Node) (forms : List ℕ → Form) (alike : (f : List ℕ) → (forms f).has_contract ≡ is_some (nodes f).contract) where
  abbrev P : List ℕ → Type 0
  P = Free nodes

  call_inlines : (at : Span) (f : List ℕ) → InlineNoContract (of_call at true (forms f)) → P f
  unfolding of_call
  call_inlines at f h = by (forms f).has_contract refl h
    where
      by : (b : Bool) → (forms f).has_contract ≡ b → InlineNoContract (if b then bound_at at ∷ [] else shapes.brings (forms f).plain) → controls_of (nodes f).contract ≡ []
      by true e k = absurd k
      by false e k = no_controls (nodes f).contract (sym (alike f) ∙ e)

  mutual
    expr_inlines : (e : Expr) → InlineNoContract (shapes.in_expr forms e) → ExprInlines P e
    expr_inlines (constant a c) h = tt
    expr_inlines (variable a x) h = tt
    expr_inlines (last_of a x) h = tt
    expr_inlines (one a o b) h = expr_inlines b h
    expr_inlines (two a o b c) h = (expr_inlines b (first_marks (shapes.in_expr forms b) (shapes.in_expr forms c) h), expr_inlines c (then_marks (shapes.in_expr forms b) (shapes.in_expr forms c) h))
    expr_inlines (choose a b c d) h =
        let k = then_marks (shapes.in_expr forms b) (shapes.in_expr forms c ++ shapes.in_expr forms d) h in
        (expr_inlines b (first_marks (shapes.in_expr forms b) (shapes.in_expr forms c ++ shapes.in_expr forms d) h), (expr_inlines c (first_marks (shapes.in_expr forms c) (shapes.in_expr forms d) k), expr_inlines d (then_marks (shapes.in_expr forms c) (shapes.in_expr forms d) k)))
    expr_inlines (pre a b) h = expr_inlines b h
    expr_inlines (fby a b c) h = (expr_inlines b (first_marks (shapes.in_expr forms b) (shapes.in_expr forms c) h), expr_inlines c (then_marks (shapes.in_expr forms b) (shapes.in_expr forms c) h))
    expr_inlines (arrow a b c) h = (expr_inlines b (first_marks (shapes.in_expr forms b) (shapes.in_expr forms c) h), expr_inlines c (then_marks (shapes.in_expr forms b) (shapes.in_expr forms c) h))
    expr_inlines (when_is a b c x) h = expr_inlines b h
    expr_inlines (merge a x ps) h = parts_inline ps h
    expr_inlines (call a f false es) h = (tt, exprs_inline es (then_marks (of_call a false (forms f)) (shapes.in_exprs forms es) h))
    expr_inlines (call a f true es) h = (call_inlines a f (first_marks (of_call a true (forms f)) (shapes.in_exprs forms es) h), exprs_inline es (then_marks (of_call a true (forms f)) (shapes.in_exprs forms es) h))

    exprs_inline : (es : Exprs) → InlineNoContract (shapes.in_exprs forms es) → ExprsInline P es
    exprs_inline no_expr h = tt
    exprs_inline (more_exprs e es) h = (expr_inlines e (first_marks (shapes.in_expr forms e) (shapes.in_exprs forms es) h), exprs_inline es (then_marks (shapes.in_expr forms e) (shapes.in_exprs forms es) h))

    parts_inline : (ps : Parts) → InlineNoContract (shapes.in_parts forms ps) → PartsInline P ps
    parts_inline no_part h = tt
    parts_inline (more_parts c e ps) h = (expr_inlines e (first_marks (shapes.in_expr forms e) (shapes.in_parts forms ps) h), parts_inline ps (then_marks (shapes.in_expr forms e) (shapes.in_parts forms ps) h))

  mutual
    pub block_inlines : (b : Block) → InlineNoContract (shapes.in_block forms b) → BlockInlines P b
    block_inlines (block ds es) h = eqns_inline es h

    eqns_inline : (es : Eqns) → InlineNoContract (shapes.in_eqns forms es) → EqnsInline P es
    eqns_inline no_eqn h = tt
    eqns_inline (more_eqns e es) h = (eqn_inlines e (first_marks (shapes.in_eqn forms e) (shapes.in_eqns forms es) h), eqns_inline es (then_marks (shapes.in_eqn forms e) (shapes.in_eqns forms es) h))

    eqn_inlines : (e : Eqn) → InlineNoContract (shapes.in_eqn forms e) → EqnInlines P e
    eqn_inlines (define s ys e) h = expr_inlines e h
    eqn_inlines (switch s e arms) h = (expr_inlines e (first_marks (shapes.in_expr forms e) (shapes.in_arms forms arms) h), arms_inline arms (then_marks (shapes.in_expr forms e) (shapes.in_arms forms arms) h))
    eqn_inlines (reset s b e) h = (expr_inlines e (then_marks (shapes.in_block forms b) (shapes.in_expr forms e) h), block_inlines b (first_marks (shapes.in_block forms b) (shapes.in_expr forms e) h))
    eqn_inlines (automaton s ss) h = states_inline ss h

    arms_inline : (arms : Arms) → InlineNoContract (shapes.in_arms forms arms) → ArmsInline P arms
    arms_inline no_arm h = tt
    arms_inline (more_arms c b s arms) h = (block_inlines b (first_marks (shapes.in_block forms b) (shapes.in_arms forms arms) h), arms_inline arms (then_marks (shapes.in_block forms b) (shapes.in_arms forms arms) h))

    states_inline : (ss : States) → InlineNoContract (shapes.in_states forms ss) → StatesInline P ss
    states_inline no_state h = tt
    states_inline (more_states f b until unless s ss) h =
        let us = shapes.in_transitions forms until in
        let vs = shapes.in_transitions forms unless in
        let k = then_marks (shapes.in_block forms b) (us ++ (vs ++ shapes.in_states forms ss)) h in
        (block_inlines b (first_marks (shapes.in_block forms b) (us ++ (vs ++ shapes.in_states forms ss)) h), states_inline ss (then_marks vs (shapes.in_states forms ss) (then_marks us (vs ++ shapes.in_states forms ss) k)))

  condition_inlines : (o : Option Expr) → InlineNoContract (shapes.in_condition forms o) → ConditionFree P o
  condition_inlines None h = tt
  condition_inlines (Some e) h = expr_inlines e h

  pub contract_inlines : (o : Option Contract) → InlineNoContract (shapes.in_contract forms o) → ContractFree P o
  contract_inlines None h = tt
  contract_inlines (Some c) h =
      let assumes = shapes.in_condition forms c.assume in
      let enforces = shapes.in_condition forms c.enforce in
      let k = then_marks (shapes.in_block forms c.body) (assumes ++ (enforces ++ shapes.in_controls c.controls)) h in (
        block_inlines c.body (first_marks (shapes.in_block forms c.body) (assumes ++ (enforces ++ shapes.in_controls c.controls)) h),
        (condition_inlines c.assume (first_marks assumes (enforces ++ shapes.in_controls c.controls) k), condition_inlines c.enforce (first_marks enforces (shapes.in_controls c.controls) (then_marks assumes (enforces ++ shapes.in_controls c.controls) k))),
      )
