-- What each part of a node lays down, in the order of its places.
use Rattle.std.proofs.Common.{◌≡◌, ℕ, ◌&&◌, if◌then◌else◌, List, [], ◌∷◌, ◌++◌, Option, None, Some, refl, sym, ap, ◌∙◌, ◌⊎◌, inl, inr}
use Rattle.std.proofs.lemmas.List.{append_assoc}
use Rattle.hp_base.specs.declared.ty.Ty.TheVariants as ty
use Rattle.hp_tree.specs.declared.block.Trans.{Trans}
use Rattle.hp_tree.specs.Blocks.{Decl, Block, block, Eqns, no_eqn, more_eqns, Eqn, define, switch, reset, automaton, Arms, no_arm, more_arms, States, no_state, more_states}
use Rattle.hp_tree.specs.Expressions.{Expr, constant, variable, last_of, one, two, choose, pre, fby, arrow, when_is, merge, call, Exprs, no_expr, more_exprs, Parts, no_part, more_parts}
use Rattle.hp_tree.specs.ExpressionTypes as types_shown
use Rattle.hp_tree.specs.ExpressionTypes.{typed_in, type_with, type_of_constant, type_of_two, first_type, type_of, type_of_parts, scope_of, untyped, some_place}
use Rattle.hp_tree.specs.Instant.{Body, Observer, Assume, Enforce, Fresh, Equations, Head, Tail, Right, Test, Arms as ArmsOf, States as StatesOf, Until, Unless, Next, Pending, First, Second, Third, Args, Instance, Place}
use Rattle.hp_tree.specs.Operators.{is_comparison}
use Rattle.hp_tree.specs.Programs.{TypeDecl, Contract}
use Rattle.hp_meaning.specs.Causal.Sources.{only, below}
use Rattle.hp_circuit.specs.declared.circuit.Shape.TheVariants.{Truth, Cons}
use Rattle.hp_meaning.specs.Contract.Slots as slots
use Rattle.hp_meaning.specs.Contract.Slots.{Slot, free, register, input, control, shape_of, is_int, callee_slots, slots_of_conditions, slots_of_block, slots_of_equations, slots_of_equation, slots_of_arms, slots_of_states, slots_of_contract, slots_of_node}
use Rattle.hp_drawing.specs.Kept as kept
use Rattle.hp_drawing.specs.Kept.{Kept, is_mark, with_kept, with_shaped}
use Rattle.hp_drawing.specs.Told.{Told}
use Rattle.hp_drawing.specs.Planned.{Names, Callee, first_shape, outputs_by, shape_in, shape_in_parts, with_register, with_comparison, with_lasts, with_call, with_words, declaring, count_states, in_block, planned, planned_all, planned_parts, planned_conditions, planned_block, planned_eqns, planned_eqn, planned_arms, planned_states, planned_told, planned_contract}
use Rattle.law_drawing.specs.Steered.Marks.{Steering}
use Rattle.law_drawing.specs.Steered.Stands.{Asked, CallStands, Stands, AllStand, PartsStand, ConditionsStand, BlockStands, EqnsStand, EqnStands, ArmsStand, StatesStand, ToldStands, ContractStands}
use Rattle.law_drawing.specs.Steered.Laid.{laid}
use Rattle.law_drawing.proofs.SteeredLemmas.Uncalled.{CallsNothing, PartsCallNothing, ConditionsCallNothing, BlockCallsNothing, EqnsCallNothing, EqnCallsNothing, ArmsCallNothing, StatesCallNothing, ToldCallsNothing, ContractCallsNothing}
use Rattle.law_drawing.proofs.SteeredLemmas.Laying.{laid-both, laid-if, mark-constant, mark-two, Agree, declared-agree, block-agree, At, at-next, at-register, at-lasts, lasts_slots, outputs_slots, steers, compared-next}

module _ (ps : List Place) (places : Place → Type 0) (t : Told) (types : List TypeDecl) (callee : Callee) (asked : Asked) (outs : List ℕ → List Decl) (callee_laid : List ℕ → (Place → Place) → List Slot) (Allowed : Type 0)
    (shaped : Allowed → (f : List ℕ) → is_mark (first_shape t (outputs_by (t.nodes f))) ≡ is_int (first_type types outs (outs f)))
    (calls : Allowed → (f : List ℕ) (w : Place → Place) (before : List Kept) (rest : List Place) → At ps before (laid (outputs_slots ps (outs f) (below Instance w) ++ callee_laid f (below Instance w)) ++ rest)
    → CallStands (steers ps places) t callee asked (t.nodes f) (λ p. only (w p)) before × At ps (with_call t callee (t.nodes f) before) rest) where
  -- there may be calls, or there are none
  abbrev Ok : Type 0 → Type 0
  Ok A = Allowed ⊎ A

  part : {A B : Type 0} → (A → B) → Ok A → Ok B
  part f (inl a) = inl a
  part f (inr h) = inr (f h)

  abbrev slots_in : Expr → types_shown.Scope → (Place → Place) → List Slot
  slots_in e scope w = slots.slots types outs callee_laid e scope w

  abbrev S : Steering
  S = steers ps places

  mutual
    mark-expr : (e : Expr) (names : Names) (scope : types_shown.Scope) → Agree names scope → Ok (CallsNothing e) → is_mark (shape_in t e names) ≡ is_int (type_of types outs e scope)
    mark-expr (constant q c) names scope g o = mark-constant t types c
    mark-expr (variable q x) names scope g o = g x
    mark-expr (last_of q x) names scope g o = g x
    mark-expr (one q op a) names scope g o = mark-expr a names scope g o
    mark-expr (two q op a b) names scope g o = mark-two op
    mark-expr (choose q a b c) names scope g o = mark-expr b names scope g (part (λ h. h.1) o)
    mark-expr (pre q a) names scope g o = mark-expr a names scope g o
    mark-expr (fby q a b) names scope g o = mark-expr a names scope g (part (λ h. h.0) o)
    mark-expr (arrow q a b) names scope g o = mark-expr a names scope g (part (λ h. h.0) o)
    mark-expr (when_is q a c x) names scope g o = mark-expr a names scope g o
    mark-expr (merge q x ps) names scope g o = mark-parts ps names scope g o
    mark-expr (call q f inlined es) names scope g (inl a) = shaped a f
    mark-expr (call q f inlined es) names scope g (inr h) = absurd h

    mark-parts : (qs : Parts) (names : Names) (scope : types_shown.Scope) → Agree names scope → Ok (PartsCallNothing qs) → is_mark (shape_in_parts t qs names) ≡ is_int (type_of_parts types outs qs scope)
    mark-parts no_part names scope g o = refl
    mark-parts (more_parts c e qs) names scope g o = mark-expr e names scope g (part (λ h. h.0) o)

  -- one operand behind the other
  pair-laid : (a b : Expr) (names : Names) (scope : types_shown.Scope) (w : Place → Place) (before : List Kept) (rest : List Place)
      → ((rest : List Place) → At ps before (laid (slots_in a scope (below First w)) ++ rest) → Stands S t callee asked a names (λ p. only (w (First ∷ p))) before × At ps (planned t callee a names before) rest)
      → ((rest : List Place) → At ps (planned t callee a names before) (laid (slots_in b scope (below Second w)) ++ rest)
      → Stands S t callee asked b names (λ p. only (w (Second ∷ p))) (planned t callee a names before) × At ps (planned t callee b names (planned t callee a names before)) rest)
      → At ps before (laid (slots_in a scope (below First w) ++ slots_in b scope (below Second w)) ++ rest)
      → (Stands S t callee asked a names (λ p. only (w (First ∷ p))) before × Stands S t callee asked b names (λ p. only (w (Second ∷ p))) (planned t callee a names before)) × At ps (planned t callee b names (planned t callee a names before)) rest
  pair-laid a b names scope w before rest f k h =
      let first = slots_in a scope (below First w) in
      let second = slots_in b scope (below Second w) in
      let u = f (laid second ++ rest) (h ∙ laid-both first second rest) in
      let v = k rest u.1 in
      ((u.0, v.0), v.1)

  mutual
    pub expr-laid : (e : Expr) (names : Names) (scope : types_shown.Scope) (w : Place → Place) (before : List Kept) (rest : List Place) → Agree names scope → Ok (CallsNothing e) → At ps before (laid (slots_in e scope w) ++ rest)
        → Stands S t callee asked e names (λ p. only (w p)) before × At ps (planned t callee e names before) rest
    expr-laid (constant q c) names scope w before rest g o h = (tt, h)
    expr-laid (variable q x) names scope w before rest g o h = (tt, h)
    expr-laid (last_of q x) names scope w before rest g o h = (tt, h)
    expr-laid (one q op a) names scope w before rest g o h = expr-laid a names scope (below First w) before rest g o h
    expr-laid (two q op a b) names scope w before rest g o h =
        let first = slots_in a scope (below First w) in
        let second = slots_in b scope (below Second w) in
        let flag = is_comparison op && is_int (type_of types outs a scope) in
        let own : List Slot = if flag then free (w []) ty.Bool ∷ [] else [] in
        let k = h ∙ laid-both own (first ++ second) rest ∙ ap (λ l. l ++ (laid (first ++ second) ++ rest)) (laid-if flag (w [])) in
        let c = compared-next ps places (is_comparison op && is_mark (shape_in t a names)) flag before (w []) (laid (first ++ second) ++ rest) (ap (λ b. is_comparison op && b) (mark-expr a names scope g (part (λ h. h.0) o))) k in
        let start = with_comparison op (shape_in t a names) before in
        let u = expr-laid a names scope (below First w) start (laid second ++ rest) g (part (λ h. h.0) o) (c.1 ∙ laid-both first second rest) in
        let v = expr-laid b names scope (below Second w) (planned t callee a names start) rest g (part (λ h. h.1) o) u.1 in
        ((c.0, u.0, v.0), v.1)
    expr-laid (choose q a b c) names scope w before rest g o h =
        let first = slots_in a scope (below First w) in
        let second = slots_in b scope (below Second w) in
        let third = slots_in c scope (below Third w) in
        let u = expr-laid a names scope (below First w) before (laid (second ++ third) ++ rest) g (part (λ h. h.0) o) (h ∙ laid-both first (second ++ third) rest) in
        let one = planned t callee a names before in
        let v = expr-laid b names scope (below Second w) one (laid third ++ rest) g (part (λ h. h.1) o) (u.1 ∙ laid-both second third rest) in
        let x = expr-laid c names scope (below Third w) (planned t callee b names one) rest g (part (λ h. h.2) o) v.1 in
        ((u.0, v.0, x.0), x.1)
    expr-laid (pre q a) names scope w before rest g o h =
        expr-laid a names scope (below First w) (with_register 0 (shape_in t a names) before) rest g o (at-register ps types 0 (shape_in t a names) (type_of types outs a scope) before (w []) (slots_in a scope (below First w)) rest (mark-expr a names scope g o) h)
    expr-laid (fby q a b) names scope w before rest g o h =
        let first = slots_in a scope (below First w) in
        let second = slots_in b scope (below Second w) in
        let fresh = register (w (Fresh ∷ [])) slots.truth ∷ (first ++ second) in
        let held = with_register 0 (shape_in t a names) before in
        let k = at-register ps types 0 (shape_in t a names) (type_of types outs a scope) before (w []) fresh rest (mark-expr a names scope g (part (λ h. h.0) o)) h in
        let start = with_kept held (kept.register 0 Truth) in
        pair-laid a b names scope w start rest (λ r. expr-laid a names scope (below First w) start r g (part (λ h. h.0) o)) (λ r. expr-laid b names scope (below Second w) (planned t callee a names start) r g (part (λ h. h.1) o)) (at-next ps held (kept.register 0 Truth) (w (Fresh ∷ [])) (laid (first ++ second) ++ rest) k)
    expr-laid (arrow q a b) names scope w before rest g o h =
        let first = slots_in a scope (below First w) in
        let second = slots_in b scope (below Second w) in
        let start = with_kept before (kept.register 0 Truth) in
        pair-laid a b names scope w start rest (λ r. expr-laid a names scope (below First w) start r g (part (λ h. h.0) o)) (λ r. expr-laid b names scope (below Second w) (planned t callee a names start) r g (part (λ h. h.1) o)) (at-next ps before (kept.register 0 Truth) (w (Fresh ∷ [])) (laid (first ++ second) ++ rest) h)
    expr-laid (when_is q a c x) names scope w before rest g o h = expr-laid a names scope (below First w) before rest g o h
    expr-laid (merge q x qs) names scope w before rest g o h = parts-laid qs names scope (below Args w) before rest g o h
    expr-laid (call q f inlined es) names scope w before rest g (inr h) k = absurd h
    expr-laid (call q f inlined es) names scope w before rest g (inl a) h =
        let own = outputs_slots ps (outs f) (below Instance w) in
        let brought = callee_laid f (below Instance w) in
        let more = slots.slots_of_all types outs callee_laid es scope (below Args w) in
        let u = calls a f w before (laid more ++ rest) (h ∙ ap (λ l. laid l ++ rest) (sym (append_assoc own brought more)) ∙ laid-both (own ++ brought) more rest) in
        let v = all-laid es names scope (below Args w) (with_call t callee (t.nodes f) before) rest g a u.1 in
        ((u.0, v.0), v.1)

    all-laid : (es : Exprs) (names : Names) (scope : types_shown.Scope) (w : Place → Place) (before : List Kept) (rest : List Place) → Agree names scope → Allowed → At ps before (laid (slots.slots_of_all types outs callee_laid es scope w) ++ rest)
        → AllStand S t callee asked es names (λ p. only (w p)) before × At ps (planned_all t callee es names before) rest
    all-laid no_expr names scope w before rest g o h = (tt, h)
    all-laid (more_exprs e es) names scope w before rest g o h =
        let first = slots_in e scope (below Head w) in
        let others = slots.slots_of_all types outs callee_laid es scope (below Tail w) in
        let u = expr-laid e names scope (below Head w) before (laid others ++ rest) g (inl o) (h ∙ laid-both first others rest) in
        let v = all-laid es names scope (below Tail w) (planned t callee e names before) rest g o u.1 in
        ((u.0, v.0), v.1)

    parts-laid : (qs : Parts) (names : Names) (scope : types_shown.Scope) (w : Place → Place) (before : List Kept) (rest : List Place) → Agree names scope → Ok (PartsCallNothing qs) → At ps before (laid (slots.slots_of_parts types outs callee_laid qs scope w) ++ rest)
        → PartsStand S t callee asked qs names (λ p. only (w p)) before × At ps (planned_parts t callee qs names before) rest
    parts-laid no_part names scope w before rest g o h = (tt, h)
    parts-laid (more_parts c e qs) names scope w before rest g o h =
        let first = slots_in e scope (below Head w) in
        let others = slots.slots_of_parts types outs callee_laid qs scope (below Tail w) in
        let u = expr-laid e names scope (below Head w) before (laid others ++ rest) g (part (λ h. h.0) o) (h ∙ laid-both first others rest) in
        let v = parts-laid qs names scope (below Tail w) (planned t callee e names before) rest g (part (λ h. h.1) o) u.1 in
        ((u.0, v.0), v.1)

  conditions-laid : (qs : List Trans) (names : Names) (scope : types_shown.Scope) (w : Place → Place) (before : List Kept) (rest : List Place) → Agree names scope → Ok (ConditionsCallNothing qs) → At ps before (laid (slots_of_conditions types outs callee_laid qs scope w) ++ rest)
      → ConditionsStand S t callee asked qs names (λ p. only (w p)) before × At ps (planned_conditions t callee qs names before) rest
  conditions-laid [] names scope w before rest g o h = (tt, h)
  conditions-laid (q ∷ qs) names scope w before rest g o h =
      let first = slots_in q.cond scope (below Head w) in
      let others = slots_of_conditions types outs callee_laid qs scope (below Tail w) in
      let u = expr-laid q.cond names scope (below Head w) before (laid others ++ rest) g (part (λ h. h.0) o) (h ∙ laid-both first others rest) in
      let v = conditions-laid qs names scope (below Tail w) (planned t callee q.cond names before) rest g (part (λ h. h.1) o) u.1 in
      ((u.0, v.0), v.1)

  -- ---- blocks

  mutual
    pub block-laid : (b : Block) (names : Names) (scope : types_shown.Scope) (w : Place → Place) (before : List Kept) (rest : List Place) → Agree names scope → Ok (BlockCallsNothing b) → At ps before (laid (slots_of_block types outs callee_laid b scope w) ++ rest)
        → BlockStands S t callee asked b names (λ p. only (w p)) before × At ps (planned_block t callee b names before) rest
    block-laid (block ds es) names scope w before rest g o h =
        let first = lasts_slots ps types ds w in
        let others = slots_of_equations types outs callee_laid es (typed_in ds scope) (below Equations w) in
        eqns-laid es (declaring t ds names) (typed_in ds scope) (below Equations w) (with_lasts t ds before) rest (declared-agree t ds names scope g) o (at-lasts ps t types ds w before (laid others ++ rest) (h ∙ laid-both first others rest))

    eqns-laid : (es : Eqns) (names : Names) (scope : types_shown.Scope) (w : Place → Place) (before : List Kept) (rest : List Place) → Agree names scope → Ok (EqnsCallNothing es) → At ps before (laid (slots_of_equations types outs callee_laid es scope w) ++ rest)
        → EqnsStand S t callee asked es names (λ p. only (w p)) before × At ps (planned_eqns t callee es names before) rest
    eqns-laid no_eqn names scope w before rest g o h = (tt, h)
    eqns-laid (more_eqns e es) names scope w before rest g o h =
        let first = slots_of_equation types outs callee_laid e scope (below Head w) in
        let others = slots_of_equations types outs callee_laid es scope (below Tail w) in
        let u = eqn-laid e names scope (below Head w) before (laid others ++ rest) g (part (λ h. h.0) o) (h ∙ laid-both first others rest) in
        let v = eqns-laid es names scope (below Tail w) (planned_eqn t callee e names before) rest g (part (λ h. h.1) o) u.1 in
        ((u.0, v.0), v.1)

    eqn-laid : (e : Eqn) (names : Names) (scope : types_shown.Scope) (w : Place → Place) (before : List Kept) (rest : List Place) → Agree names scope → Ok (EqnCallsNothing e) → At ps before (laid (slots_of_equation types outs callee_laid e scope w) ++ rest)
        → EqnStands S t callee asked e names (λ p. only (w p)) before × At ps (planned_eqn t callee e names before) rest
    eqn-laid (define q xs e) names scope w before rest g o h = expr-laid e names scope (below Right w) before rest g o h
    eqn-laid (switch q e arms) names scope w before rest g o h =
        let first = slots_in e scope (below Test w) in
        let others = slots_of_arms types outs callee_laid arms scope (below ArmsOf w) in
        let u = expr-laid e names scope (below Test w) before (laid others ++ rest) g (part (λ h. h.0) o) (h ∙ laid-both first others rest) in
        let v = arms-laid arms names scope (below ArmsOf w) (planned t callee e names before) rest g (part (λ h. h.1) o) u.1 in
        ((u.0, v.0), v.1)
    eqn-laid (reset q b e) names scope w before rest g o h =
        let first = slots_of_block types outs callee_laid b scope (below Body w) in
        let others = slots_in e scope (below Test w) in
        let u = block-laid b names scope (below Body w) before (laid others ++ rest) g (part (λ h. h.0) o) (h ∙ laid-both first others rest) in
        let v = expr-laid e names scope (below Test w) (planned_block t callee b names before) rest g (part (λ h. h.1) o) u.1 in
        ((u.0, v.0), v.1)
    eqn-laid (automaton q ss) names scope w before rest g o h =
        let others = slots_of_states types outs callee_laid ss scope (below StatesOf w) in
        let one = with_kept before (kept.register 0 (Cons (count_states ss))) in
        let k = at-next ps before (kept.register 0 (Cons (count_states ss))) (w (Next ∷ [])) (w (Pending ∷ []) ∷ laid others ++ rest) h in
        states-laid ss names names scope (below StatesOf w) (with_words (count_states ss) before) rest g g o (at-next ps one (kept.register 0 Truth) (w (Pending ∷ [])) (laid others ++ rest) k)

    arms-laid : (arms : Arms) (names : Names) (scope : types_shown.Scope) (w : Place → Place) (before : List Kept) (rest : List Place) → Agree names scope → Ok (ArmsCallNothing arms) → At ps before (laid (slots_of_arms types outs callee_laid arms scope w) ++ rest)
        → ArmsStand S t callee asked arms names (λ p. only (w p)) before × At ps (planned_arms t callee arms names before) rest
    arms-laid no_arm names scope w before rest g o h = (tt, h)
    arms-laid (more_arms c b q arms) names scope w before rest g o h =
        let first = slots_of_block types outs callee_laid b scope (below Head w) in
        let others = slots_of_arms types outs callee_laid arms scope (below Tail w) in
        let u = block-laid b names scope (below Head w) before (laid others ++ rest) g (part (λ h. h.0) o) (h ∙ laid-both first others rest) in
        let v = arms-laid arms names scope (below Tail w) (planned_block t callee b names before) rest g (part (λ h. h.1) o) u.1 in
        ((u.0, v.0), v.1)

    states-laid : (ss : States) (names outer : Names) (scope : types_shown.Scope) (w : Place → Place) (before : List Kept) (rest : List Place) → Agree names scope → Agree outer scope → Ok (StatesCallNothing ss) → At ps before (laid (slots_of_states types outs callee_laid ss scope w) ++ rest)
        → StatesStand S t callee asked ss names outer (λ p. only (w p)) before × At ps (planned_states t callee ss names outer before) rest
    states-laid no_state names outer scope w before rest g k o h = (tt, h)
    states-laid (more_states f b until unless q ss) names outer scope w before rest g k o h =
        let body = slots_of_block types outs callee_laid b scope (below Body (below Head w)) in
        let weak = slots_of_conditions types outs callee_laid until (scope_of b scope) (below Until (below Head w)) in
        let strong = slots_of_conditions types outs callee_laid unless scope (below Unless (below Head w)) in
        let others = slots_of_states types outs callee_laid ss scope (below Tail w) in
        let u = block-laid b names scope (below Body (below Head w)) before (laid (weak ++ (strong ++ others)) ++ rest) g (part (λ h. h.0) o) (h ∙ laid-both body (weak ++ (strong ++ others)) rest) in
        let one = planned_block t callee b names before in
        let v = conditions-laid until (in_block t b names) (scope_of b scope) (below Until (below Head w)) one (laid (strong ++ others) ++ rest) (block-agree t b names scope g) (part (λ h. h.1) o) (u.1 ∙ laid-both weak (strong ++ others) rest) in
        let two = planned_conditions t callee until (in_block t b names) one in
        let x = conditions-laid unless outer scope (below Unless (below Head w)) two (laid others ++ rest) k (part (λ h. h.2) o) (v.1 ∙ laid-both strong others rest) in
        let y = states-laid ss names outer scope (below Tail w) (planned_conditions t callee unless outer two) rest g k (part (λ h. h.3) o) x.1 in
        ((u.0, v.0, x.0, y.0), y.1)

  -- ---- contracts

  abbrev slots_told : Option Expr → types_shown.Scope → (Place → Place) → List Slot
  slots_told None scope w = []
  slots_told (Some e) scope w = slots_in e scope w

  told-laid : (e : Option Expr) (names : Names) (scope : types_shown.Scope) (w : Place → Place) (before : List Kept) (rest : List Place) → Agree names scope → Ok (ToldCallsNothing e) → At ps before (laid (slots_told e scope w) ++ rest)
      → ToldStands S t callee asked e names (λ p. only (w p)) before × At ps (planned_told t callee e names before) rest
  told-laid None names scope w before rest g o h = (tt, h)
  told-laid (Some e) names scope w before rest g o h = expr-laid e names scope w before rest g o h

  pub contract-laid : (c : Contract) (names : Names) (scope : types_shown.Scope) (w : Place → Place) (before : List Kept) (rest : List Place) → Agree names scope → Ok (ContractCallsNothing (Some c)) → At ps before (laid (slots_of_contract types outs callee_laid (Some c) scope w) ++ rest)
      → ContractStands S t callee asked c names (λ p. only (w p)) before × At ps (planned_contract t callee c names before) rest
  contract-laid c names scope w before rest g o h =
      let body = slots_of_block types outs callee_laid c.body scope (below Observer w) in
      let assume = slots_told c.assume (scope_of c.body scope) (below Assume w) in
      let enforce = slots_told c.enforce (scope_of c.body scope) (below Enforce w) in
      let inner = block-agree t c.body names scope g in
      let u = block-laid c.body names scope (below Observer w) before (laid (assume ++ enforce) ++ rest) g (part (λ h. h.0) o) (h ∙ laid-both body (assume ++ enforce) rest) in
      let one = planned_block t callee c.body names before in
      let v = told-laid c.assume (in_block t c.body names) (scope_of c.body scope) (below Assume w) one (laid enforce ++ rest) inner (part (λ h. h.1) o) (u.1 ∙ laid-both assume enforce rest) in
      let x = told-laid c.enforce (in_block t c.body names) (scope_of c.body scope) (below Enforce w) (planned_told t callee c.assume (in_block t c.body names) one) rest inner (part (λ h. h.2) o) v.1 in
      ((u.0, v.0, x.0), x.1)
