-- In the replaced program of a sound one each node is sound, where no node with controllable variables is inlined.
use Rattle.std.proofs.Common.{◌≡◌, ℕ, ◌≤◌, List, [], ◌∷◌, ◌++◌, refl, sym, ap, subst, ◌∙◌, ◌⊎◌, inl, inr, ⊎_elim}
use Rattle.std.specs.Prelude.{⊤, Bool, true, false, is_some, IsTrue, IsFalse, if◌then◌else◌, Option, None, Some, option_map}
use Rattle.std.specs.Str.{bytes_eq}
use Rattle.hp_base.specs.declared.span.Span.{Span}
use Rattle.hp_base.specs.declared.ty.Ty.{Ty}
use Rattle.hp_base.specs.declared.ty.Const.{Const}
use Rattle.hp_base.specs.declared.ty.Const.TheVariants as const
use Rattle.hp_tree.specs.declared.program.Item.{Item}
use Rattle.hp_tree.specs.declared.program.Item.TheVariants.{TypeItem, NodeItem}
use Rattle.hp_tree.specs.Expressions.{Expr, constant, variable, last_of, one, two, choose, pre, fby, arrow, when_is, merge, call, Exprs, no_expr, more_exprs, Parts, no_part, more_parts}
use Rattle.hp_tree.specs.Blocks.{Decl, Block, block, Eqns, no_eqn, more_eqns, Eqn, define, switch, reset, automaton, Arms, no_arm, more_arms, States, no_state, more_states}
use Rattle.hp_tree.specs.Programs.{TypeDecl, Contract, Node}
use Rattle.hp_tree.specs.Meaning.{controls_of, node_among}
use Rattle.hp_base.specs.Known.Known.{lookup, with_entry}
use Rattle.hp_typing.specs.Scopes.{behind as known_behind, with_constructors}
use Rattle.hp_typing.specs.Types.{constant_type, enum_of}
use Rattle.law_judged.specs.Named.Scopes.{Scope}
use Rattle.law_judged.specs.Named.Scoped.{also, no_names, interface, NodeScoped, EachNode}
use Rattle.law_judged.proofs.NamedLemmas.Sets.{same_name, name_same}
use Rattle.hp_expand.specs.Shapes as shapes
use Rattle.hp_expand.specs.Shapes.{Mark, plain_at, bound_at, integer_at, of_call}
use Rattle.hp_expand.specs.Formed.{InlineNoContract, AreShaped}
use Rattle.hp_expand.specs.Replacing.{in_contract, in_block, in_node}
use Rattle.hp_expand.specs.Numbering.{in_contract as number_contract, replaced_node, with_node, replaced_items, no_node}
use Rattle.law_judged.specs.Replaced.Fitting.{IsReady}
use Rattle.law_judged.specs.Replaced.Laws.{CanBeReplaced, AllCanBeReplaced}
use Rattle.law_judged.proofs.ReplacedLemmas.Replaced.{good_block}
use Rattle.law_judged.proofs.ReplacedLemmas.ReplacedNodes.{in_node_scoped, node_replaced, none_ready, with_ready}
use Rattle.law_values.specs.Valued.Judged.{ConstantIs, FirstSound, NodeSound}
use Rattle.law_values.specs.Valued.Values.{scope_behind}
use Rattle.law_values.specs.Accepted.Written.{NoLasts, NodeArmed, AreSound}
use Rattle.law_values.proofs.AcceptedLemmas.Views.{some_same, true_false, cases, entry_new, entry_cases, entry_kept, Grounds, constant_is}
use Rattle.law_values.proofs.AcceptedLemmas.SoundNodes.{AllSound, node_more, none_kept}
use Rattle.law_values.proofs.AcceptedLemmas.Keeps.{Grows}
use Rattle.law_values.proofs.AcceptedLemmas.Replaces.{Called}
use Rattle.law_values.proofs.AcceptedLemmas.ReplacesEqns.{ExprInlines, ExprsInline, PartsInline, BlockInlines, EqnsInline, EqnInlines, ArmsInline, StatesInline, FirstsSound, below}
use Rattle.law_values.proofs.AcceptedLemmas.ReplacesNodes.{ConditionInlines, ContractInlines, node_in, node_numbered}

-- what is known of the shape of a node, whose type its crate keeps to itself
abbrev TypeOf : {A : Type 0} → A → Type 0
TypeOf {A} a = A

abbrev Form : Type 0
Form = TypeOf shapes.no_form

-- ---- no node with a contract is inlined

first_marks : (a b : List Mark) → InlineNoContract (a ++ b) → InlineNoContract a
first_marks [] b h = tt
first_marks (plain_at at ∷ a) b h = first_marks a b h
first_marks (bound_at at ∷ a) b h = absurd h
first_marks (integer_at at ∷ a) b h = first_marks a b h

then_marks : (a b : List Mark) → InlineNoContract (a ++ b) → InlineNoContract b
then_marks [] b h = h
then_marks (plain_at at ∷ a) b h = then_marks a b h
then_marks (bound_at at ∷ a) b h = absurd h
then_marks (integer_at at ∷ a) b h = then_marks a b h

no_controls : (o : Option Contract) → is_some o ≡ false → controls_of o ≡ []
no_controls None h = refl
no_controls (Some c) h = absurd (cc)

abbrev pub Uncontrolled : (List ℕ → Node) → List ℕ → Type 0
Uncontrolled nodes f = controls_of (nodes f).contract ≡ []

module _ (nodes : List ℕ → Node) (forms : List ℕ → Form) (alike : (f : List ℕ) → (forms f).has_contract ≡ is_some (nodes f).contract) where
  abbrev P : List ℕ → Type 0
  P = Uncontrolled nodes

  call_inlines : (at : Span) (f : List ℕ) → InlineNoContract (of_call at true (forms f)) → P f
  unfolding of_call
  call_inlines at f h = by (forms f).has_contract refl h
    where
      by : (b : Bool) → (forms f).has_contract ≡ b → InlineNoContract (if b then bound_at at ∷ [] else shapes.brings (forms f).plain) → controls_of (nodes f).contract ≡ []
      by true e k = absurd k
      by false e k = no_controls (nodes f).contract (sym (alike f) ∙ e)

  mutual
    expr_inlines : (e : Expr) → InlineNoContract (shapes.in_expr forms e) → ExprInlines P e
    expr_inlines (constant a c) h = tt
    expr_inlines (variable a x) h = tt
    expr_inlines (last_of a x) h = tt
    expr_inlines (one a o b) h = expr_inlines b h
    expr_inlines (two a o b c) h = (expr_inlines b (first_marks (shapes.in_expr forms b) (shapes.in_expr forms c) h), expr_inlines c (then_marks (shapes.in_expr forms b) (shapes.in_expr forms c) h))
    expr_inlines (choose a b c d) h =
        let k = then_marks (shapes.in_expr forms b) (shapes.in_expr forms c ++ shapes.in_expr forms d) h in
        (expr_inlines b (first_marks (shapes.in_expr forms b) (shapes.in_expr forms c ++ shapes.in_expr forms d) h), (expr_inlines c (first_marks (shapes.in_expr forms c) (shapes.in_expr forms d) k), expr_inlines d (then_marks (shapes.in_expr forms c) (shapes.in_expr forms d) k)))
    expr_inlines (pre a b) h = expr_inlines b h
    expr_inlines (fby a b c) h = (expr_inlines b (first_marks (shapes.in_expr forms b) (shapes.in_expr forms c) h), expr_inlines c (then_marks (shapes.in_expr forms b) (shapes.in_expr forms c) h))
    expr_inlines (arrow a b c) h = (expr_inlines b (first_marks (shapes.in_expr forms b) (shapes.in_expr forms c) h), expr_inlines c (then_marks (shapes.in_expr forms b) (shapes.in_expr forms c) h))
    expr_inlines (when_is a b c x) h = expr_inlines b h
    expr_inlines (merge a x ps) h = parts_inline ps h
    expr_inlines (call a f false es) h = (tt, exprs_inline es (then_marks (of_call a false (forms f)) (shapes.in_exprs forms es) h))
    expr_inlines (call a f true es) h = (call_inlines a f (first_marks (of_call a true (forms f)) (shapes.in_exprs forms es) h), exprs_inline es (then_marks (of_call a true (forms f)) (shapes.in_exprs forms es) h))

    exprs_inline : (es : Exprs) → InlineNoContract (shapes.in_exprs forms es) → ExprsInline P es
    exprs_inline no_expr h = tt
    exprs_inline (more_exprs e es) h = (expr_inlines e (first_marks (shapes.in_expr forms e) (shapes.in_exprs forms es) h), exprs_inline es (then_marks (shapes.in_expr forms e) (shapes.in_exprs forms es) h))

    parts_inline : (ps : Parts) → InlineNoContract (shapes.in_parts forms ps) → PartsInline P ps
    parts_inline no_part h = tt
    parts_inline (more_parts c e ps) h = (expr_inlines e (first_marks (shapes.in_expr forms e) (shapes.in_parts forms ps) h), parts_inline ps (then_marks (shapes.in_expr forms e) (shapes.in_parts forms ps) h))

  mutual
    block_inlines : (b : Block) → InlineNoContract (shapes.in_block forms b) → BlockInlines P b
    block_inlines (block ds es) h = eqns_inline es h

    eqns_inline : (es : Eqns) → InlineNoContract (shapes.in_eqns forms es) → EqnsInline P es
    eqns_inline no_eqn h = tt
    eqns_inline (more_eqns e es) h = (eqn_inlines e (first_marks (shapes.in_eqn forms e) (shapes.in_eqns forms es) h), eqns_inline es (then_marks (shapes.in_eqn forms e) (shapes.in_eqns forms es) h))

    eqn_inlines : (e : Eqn) → InlineNoContract (shapes.in_eqn forms e) → EqnInlines P e
    eqn_inlines (define s ys e) h = expr_inlines e h
    eqn_inlines (switch s e arms) h = (expr_inlines e (first_marks (shapes.in_expr forms e) (shapes.in_arms forms arms) h), arms_inline arms (then_marks (shapes.in_expr forms e) (shapes.in_arms forms arms) h))
    eqn_inlines (reset s b e) h = (expr_inlines e (then_marks (shapes.in_block forms b) (shapes.in_expr forms e) h), block_inlines b (first_marks (shapes.in_block forms b) (shapes.in_expr forms e) h))
    eqn_inlines (automaton s ss) h = states_inline ss h

    arms_inline : (arms : Arms) → InlineNoContract (shapes.in_arms forms arms) → ArmsInline P arms
    arms_inline no_arm h = tt
    arms_inline (more_arms c b s arms) h = (block_inlines b (first_marks (shapes.in_block forms b) (shapes.in_arms forms arms) h), arms_inline arms (then_marks (shapes.in_block forms b) (shapes.in_arms forms arms) h))

    states_inline : (ss : States) → InlineNoContract (shapes.in_states forms ss) → StatesInline P ss
    states_inline no_state h = tt
    states_inline (more_states f b until unless s ss) h =
        let us = shapes.in_transitions forms until in
        let vs = shapes.in_transitions forms unless in
        let k = then_marks (shapes.in_block forms b) (us ++ (vs ++ shapes.in_states forms ss)) h in
        (block_inlines b (first_marks (shapes.in_block forms b) (us ++ (vs ++ shapes.in_states forms ss)) h), states_inline ss (then_marks vs (shapes.in_states forms ss) (then_marks us (vs ++ shapes.in_states forms ss) k)))

-- ---- a node that may be called, where it stands

record Callee (types : List TypeDecl) (r : Scope) (m : Node) : Type 0 where
  scope : Scope
  before : List ℕ → Option Node
  sound : NodeSound types before scope m
  scoped : NodeScoped m
  outside : (x : List ℕ) → lookup scope.variables x ≡ None
  conses : (c t : List ℕ) → lookup scope.constructors c ≡ Some t → lookup r.constructors c ≡ Some t
  nodes : (f : List ℕ) (n : Node) → lookup scope.nodes f ≡ Some n → (k : Node) × ((lookup r.nodes f ≡ Some k) × ((k.inputs ≡ n.inputs) × (k.outputs ≡ n.outputs)))

-- what is known of both programs in front of an item
record Pair (types : List TypeDecl) (done old : List Item) (nodes : List ℕ → Node) (forms : List ℕ → Form) : Type 0 where
  conses : (scope_behind done).constructors ≡ (scope_behind old).constructors
  variables : (scope_behind old).variables ≡ []
  variables' : (scope_behind done).variables ≡ []
  alike : (f : List ℕ) (n : Node) → lookup (scope_behind old).nodes f ≡ Some n → ((nodes f).inputs ≡ n.inputs) × ((nodes f).outputs ≡ n.outputs)
  kept : (f : List ℕ) (n : Node) → lookup (scope_behind old).nodes f ≡ Some n → (k : Node) × ((lookup (scope_behind done).nodes f ≡ Some k) × ((k.inputs ≡ n.inputs) × (k.outputs ≡ n.outputs)))
  absent : (f : List ℕ) → lookup (scope_behind old).nodes f ≡ None → lookup (scope_behind done).nodes f ≡ None
  known : (f : List ℕ) → lookup (scope_behind done).nodes f ≡ node_among done f
  ready : (f : List ℕ) → IsReady (nodes f)
  calls : (f : List ℕ) → Callee types (scope_behind done) (nodes f)
  firsts : (f : List ℕ) → NoLasts (nodes f).inputs
  forms_of : (f : List ℕ) → (forms f).has_contract ≡ is_some (nodes f).contract

first_sound : (types : List TypeDecl) (a b : List ℕ → Option Node) (ds : List Decl) → NoLasts ds → FirstsSound types a b ds
first_sound types a b [] h = tt
first_sound types a b (d ∷ ds) h = (subst (λ o. FirstSound types a d.ty o) (sym h.0) tt, first_sound types a b ds h.1)

constants_same : (types : List TypeDecl) (s r : Scope) → r.constructors ≡ s.constructors → ((c : Const) → ConstantIs types s c) → (c : Const) → ConstantIs types r c
constants_same types s r e f (const.B b) t h = f (const.B b) t h
constants_same types s r e f (const.I n) t h = f (const.I n) t h
constants_same types s r e f (const.E c) t h = f (const.E c) t (ap (λ z. enum_of (lookup z c)) (sym e) ∙ h)

constructors_kept : (cs : List (List ℕ)) (known : List (List ℕ × List ℕ)) (u c t : List ℕ) → lookup known c ≡ Some t → lookup (with_constructors known u cs) c ≡ Some t
constructors_kept [] known u c t h = h
constructors_kept (x ∷ cs) known u c t h = constructors_kept cs (with_entry known x u) u c t (entry_kept known x u c t h)

none_other : {A : Type 0} (es : List (List ℕ × A)) (y : List ℕ) (u : A) (f : List ℕ) → lookup es f ≡ None → (f ≡ y → ⊥) → lookup (with_entry es y u) f ≡ None
none_other {A} es y u f h g = by (lookup (with_entry es y u) f) refl
  where
    by : (o : Option A) → lookup (with_entry es y u) f ≡ o → o ≡ None
    by None e = refl
    by (Some v) e = absurd (entry_cases es y u f v e (λ k. let q = sym k ∙ h in cc) (λ q w z. g q))

no_node_sound : (types : List TypeDecl) (among : List ℕ → Option Node) (s : Scope) (f : List ℕ) → NodeSound types among s (no_node f)
no_node_sound types among s f = ((tt, tt), ((tt, tt), (tt, (tt, ((tt, ((λ x h g. absurd (cc)), tt)), tt)))))

module _ (types : List TypeDecl) where
  callee_type : (r : Scope) (t : TypeDecl) (m : Node) → Callee types r m → Callee types (known_behind r (TypeItem t)) m
  callee_type r t m c = record { scope = c.scope; before = c.before; sound = c.sound; scoped = c.scoped; outside = c.outside; conses = λ x u h. constructors_kept t.cons r.constructors t.name x u (c.conses x u h); nodes = c.nodes }

  callee_node : (r : Scope) (n m : Node) → Callee types r m → Callee types (known_behind r (NodeItem n)) m
  callee_node r n m c = record { scope = c.scope; before = c.before; sound = c.sound; scoped = c.scoped; outside = c.outside; conses = c.conses; nodes = λ f k h. let q = c.nodes f k h in (q.0, (entry_kept r.nodes n.name n f q.0 q.1.0, q.1.1)) }

  pair_type : (done old : List Item) (nodes : List ℕ → Node) (forms : List ℕ → Form) (t : TypeDecl) → Pair types done old nodes forms → Pair types (TypeItem t ∷ done) (TypeItem t ∷ old) nodes forms
  pair_type done old nodes forms t p = record {
    conses = ap (λ z. with_constructors z t.name t.cons) p.conses;
    variables = p.variables;
    variables' = p.variables';
    alike = p.alike;
    kept = p.kept;
    absent = p.absent;
    known = p.known;
    ready = p.ready;
    calls = λ f. callee_type (scope_behind done) t (nodes f) (p.calls f);
    firsts = p.firsts;
    forms_of = p.forms_of;
  }

  module _ (done old : List Item) (nodes : List ℕ → Node) (forms : List ℕ → Form) (p : Pair types done old nodes forms) (n : Node) (grounds : Grounds types (node_among old) (scope_behind old)) (fresh : lookup (scope_behind old).nodes n.name ≡ None) (can : CanBeReplaced nodes n) (shape : InlineNoContract (shapes.in_contract forms n.contract) × InlineNoContract (shapes.in_block forms n.body)) (armed : NodeArmed n) (ok : NodeSound types (node_among old) (scope_behind old) n) where
    abbrev s : Scope
    s = scope_behind old

    abbrev r : Scope
    r = scope_behind done

    abbrev new : Node
    new = replaced_node nodes n

    grows : Grows types (node_among done) s r
    grows = record { conses = λ c t h. ap (λ z. lookup z c) p.conses ∙ h; nodes = p.kept; constants = constants_same types s r p.conses (constant_is types (node_among old) s grounds); known = p.known }

    grows_self : Grows types (node_among done) r r
    grows_self = record { conses = λ c t h. h; nodes = λ f m h. (m, (h, (refl, refl))); constants = grows.constants; known = p.known }

    none_s : (x : List ℕ) → lookup s.variables x ≡ None
    none_s x = ap (λ z. lookup z x) p.variables

    none_r : (x : List ℕ) → lookup r.variables x ≡ None
    none_r x = ap (λ z. lookup z x) p.variables'

    lift : (f : List ℕ) → Uncontrolled nodes f → Called types (node_among done) r (nodes f)
    lift f u =
        let c = p.calls f in
        record { scope = c.scope; before = c.before; sound = c.sound; scoped = c.scoped; uncontrolled = u; grows = record { conses = c.conses; nodes = c.nodes; constants = grows.constants; known = p.known }; outside = c.outside }

    contract_inlines : (o : Option Contract) → InlineNoContract (shapes.in_contract forms o) → ContractInlines types (node_among done) (node_among old) nodes p.ready (Uncontrolled nodes) (λ f u. first_sound types (node_among done) (node_among old) (nodes f).inputs (p.firsts f)) o
    contract_inlines None h = tt
    contract_inlines (Some c) h =
        let as' = shapes.in_condition forms c.assume in
        let es' = shapes.in_condition forms c.enforce in
        let k = then_marks (shapes.in_block forms c.body) (as' ++ (es' ++ shapes.in_controls c.controls)) h in (
          block_inlines nodes forms p.forms_of c.body (first_marks (shapes.in_block forms c.body) (as' ++ (es' ++ shapes.in_controls c.controls)) h),
          (condition c.assume (first_marks as' (es' ++ shapes.in_controls c.controls) k), condition c.enforce (first_marks es' (shapes.in_controls c.controls) (then_marks as' (es' ++ shapes.in_controls c.controls) k))),
        )
      where
        condition : (e : Option Expr) → InlineNoContract (shapes.in_condition forms e) → ConditionInlines types (node_among done) (node_among old) nodes p.ready (Uncontrolled nodes) (λ f u. first_sound types (node_among done) (node_among old) (nodes f).inputs (p.firsts f)) e
        condition None k = tt
        condition (Some e) k = expr_inlines nodes forms p.forms_of e k

    in_scoped : NodeScoped (in_node nodes n)
    in_scoped = in_node_scoped nodes p.ready n can.scoped can.plain can.fits can.few_calls

    new_ready : IsReady new
    new_ready = node_replaced nodes p.ready n can

    abbrev k : ℕ
    k = (in_contract nodes 1 n.contract).next

    low : k ≤ 1000000
    low = below k (in_block nodes k n.body).next (good_block nodes p.ready (also (interface n) (controls_of n.contract)) (also no_names n.outputs) k n.body can.fits.1 can.plain.body can.scoped.body).le can.few_calls

    new_sound : NodeSound types (node_among done) r new
    new_sound =
        node_numbered types (node_among done) r grows_self none_r (in_node nodes n) in_scoped new_ready.scoped
        (node_in types (node_among done) (node_among old) s r grows (p.variables' ∙ sym p.variables) none_s nodes p.ready (Uncontrolled nodes) (λ f u. first_sound types (node_among done) (node_among old) (nodes f).inputs (p.firsts f)) lift p.alike n
        (block_inlines nodes forms p.forms_of n.body shape.1) (contract_inlines n.contract shape.0) can.fits can.plain can.scoped can.few_calls low in_scoped ok)

    not_new : (f : List ℕ) (m : Node) → lookup s.nodes f ≡ Some m → IsFalse (bytes_eq new.name f)
    not_new f m h = cases (bytes_eq new.name f) (λ e. absurd (let q = sym (ap (λ z. lookup s.nodes z) (same_name new.name f e)) ∙ fresh in let w = sym h ∙ q in cc)) (λ z. z)

    fresh' : lookup r.nodes new.name ≡ None
    fresh' = p.absent n.name fresh

    new_contract : is_some new.contract ≡ is_some n.contract
    new_contract = by n.contract
      where
        by : (o : Option Contract) → is_some (option_map number_contract (in_contract nodes 1 o).part) ≡ is_some o
        by None = refl
        by (Some c) = refl

    pair_node : Pair types (NodeItem new ∷ done) (NodeItem n ∷ old) (with_node nodes new) (shapes.with_form forms n.name (shapes.form_of forms n))
    pair_node = record {
      conses = p.conses;
      variables = p.variables;
      variables' = p.variables';
      alike = λ f m h. entry_cases s.nodes n.name n f m h
          (λ q. subst (λ z. ((if z then new else nodes f).inputs ≡ m.inputs) × ((if z then new else nodes f).outputs ≡ m.outputs)) (sym (not_new f m q)) (p.alike f m q))
          (λ e w z. subst (λ q. ((if q then new else nodes f).inputs ≡ m.inputs) × ((if q then new else nodes f).outputs ≡ m.outputs)) (sym (name_same new.name f (sym e))) (ap (λ (q : Node). q.inputs) w, ap (λ (q : Node). q.outputs) w));
      kept = λ f m h. entry_cases s.nodes n.name n f m h
          (λ q. let w = p.kept f m q in (w.0, (entry_kept r.nodes new.name new f w.0 w.1.0, w.1.1)))
          (λ e w z. (new, (subst (λ q. lookup (with_entry r.nodes new.name new) q ≡ Some new) (sym e) (entry_new r.nodes new.name new fresh'), (ap (λ (q : Node). q.inputs) w, ap (λ (q : Node). q.outputs) w))));
      absent = λ f h. none_other r.nodes new.name new f (p.absent f (none_kept s.nodes n.name n f h)) (λ e. let q = sym (subst (λ z. lookup (with_entry s.nodes n.name n) z ≡ Some n) (sym e) (entry_new s.nodes n.name n fresh)) ∙ h in cc);
      known = node_more r new (node_among done) fresh' p.known;
      ready = with_ready nodes p.ready new new_ready;
      calls = λ f. called f (bytes_eq new.name f);
      firsts = λ f. first f (bytes_eq new.name f);
      forms_of = λ f. form f (bytes_eq n.name f);
    }
      where
        called : (f : List ℕ) (b : Bool) → Callee types (known_behind r (NodeItem new)) (if b then new else nodes f)
        called f true = record { scope = r; before = node_among done; sound = new_sound; scoped = new_ready.scoped; outside = none_r; conses = λ c t h. h; nodes = λ g m h. (m, (entry_kept r.nodes new.name new g m h, (refl, refl))) }
        called f false = callee_node r new (nodes f) (p.calls f)

        first : (f : List ℕ) (b : Bool) → NoLasts (if b then new else nodes f).inputs
        first f true = armed.0.0
        first f false = p.firsts f

        form : (f : List ℕ) (b : Bool) → (if b then shapes.form_of forms n else forms f).has_contract ≡ is_some (if b then new else nodes f).contract
        form f true = sym new_contract
        form f false = p.forms_of f

  items_replaced : (done old : List Item) (nodes : List ℕ → Node) (forms : List ℕ → Form) (items : List Item) → Pair types done old nodes forms → AllSound types old items → AllCanBeReplaced nodes items → AreShaped forms items → EachNode NodeArmed items → AreSound types done (replaced_items nodes items)
  items_replaced done old nodes forms [] p ok can shape armed = tt
  items_replaced done old nodes forms (TypeItem t ∷ items) p ok can shape armed = items_replaced (TypeItem t ∷ done) (TypeItem t ∷ old) nodes forms items (pair_type done old nodes forms t p) ok can shape armed
  items_replaced done old nodes forms (NodeItem n ∷ items) p ok can shape armed =
      let sh : InlineNoContract (shapes.in_contract forms n.contract) × InlineNoContract (shapes.in_block forms n.body) = (shape.0.contract_inlines_no_contract, shape.0.body_inlines_no_contract) in (
        new_sound done old nodes forms p n ok.0.0 ok.0.1.0 can.0 sh armed.0 ok.0.1.1,
        items_replaced (NodeItem (replaced_node nodes n) ∷ done) (NodeItem n ∷ old) (with_node nodes (replaced_node nodes n)) (shapes.with_form forms n.name (shapes.form_of forms n)) items (pair_node done old nodes forms p n ok.0.0 ok.0.1.0 can.0 sh armed.0 ok.0.1.1) ok.1 can.1 shape.1 armed.1,
      )

  pub program_replaced : (program : List Item) → AllSound types [] program → AllCanBeReplaced no_node program → AreShaped shapes.nothing_known program → EachNode NodeArmed program → AreSound types [] (replaced_items no_node program)
  program_replaced program ok can shape armed =
      items_replaced [] [] no_node shapes.nothing_known program
      (record {
        conses = refl;
        variables = refl;
        variables' = refl;
        alike = λ f n h. absurd (cc);
        kept = λ f n h. absurd (cc);
        absent = λ f h. refl;
        known = λ f. refl;
        ready = none_ready;
        calls = λ f. record { scope = scope_behind []; before = λ g. None; sound = no_node_sound types (λ g. None) (scope_behind []) f; scoped = (none_ready f).scoped; outside = λ x. refl; conses = λ c t h. h; nodes = λ g m h. (m, (h, (refl, refl))) };
        firsts = λ f. tt;
        forms_of = λ f. refl;
      }) ok can shape armed
