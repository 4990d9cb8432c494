-- The marks of a part are those of its calls, in one list.
use Rattle.std.proofs.Common.{◌≡◌, ◌↔◌, ℕ, Bool, true, false, if◌then◌else◌, List, [], ◌∷◌, ◌++◌, Option, None, Some, fold, refl, sym, ap, ◌∙◌}
use Rattle.std.specs.Prelude.{◌≢◌}
use Rattle.std.specs.List.{AllByRecursion}
use Rattle.std.proofs.lemmas.List.{append_assoc, append-nil}
use Rattle.hp_base.specs.First.First.{itself, sooner}
use Rattle.hp_base.specs.declared.span.Span.{Span}
use Rattle.hp_base.specs.declared.ty.Ty.{Ty}
use Rattle.hp_base.specs.declared.ty.Ty.TheVariants as ty
use Rattle.hp_tree.specs.declared.block.Trans.{Trans}
use Rattle.hp_tree.specs.Expressions.{Expr, constant, variable, last_of, one, two, choose, pre, fby, arrow, when_is, merge, call, Exprs, no_expr, more_exprs, Parts, no_part, more_parts}
use Rattle.hp_tree.specs.Blocks.{Decl, Block, block, Eqns, no_eqn, more_eqns, Eqn, define, switch, reset, automaton, Arms, no_arm, more_arms, States, no_state, more_states}
use Rattle.hp_tree.specs.Programs.{Contract, Node}
use Rattle.hp_tree.specs.Meaning.{controls_of}
use Rattle.hp_expand.specs.Shapes as shapes
use Rattle.hp_expand.specs.Shapes.{Mark, plain_at, bound_at, integer_at, of_call, brings, see}
use Rattle.hp_expand.specs.Formed.{InlineNoContract, HaveNoInteger}
use Rattle.hp_compile.specs.Counts as plain
use Rattle.hp_compile.specs.Counts.{Call, both, calling, places, deeper}
use Rattle.hp_compile.specs.Shapes as said
use Rattle.hp_compile.specs.Shapes.{InlineFree, if_any, called_at, integer_of, integers_at}
use Rattle.hp_compile.proofs.CountLemmas.Fits.{InlinesNone}
use Rattle.hp_compile.proofs.CountLemmas.Types.{Form, Found}

module _ (forms : List ℕ → Form) where
  abbrev marks_of : List Call → List Mark
  marks_of [] = []
  marks_of (c ∷ cs) = of_call c.at c.inlined (forms c.node) ++ marks_of cs

  marks_both : (cs ds : List Call) → marks_of cs ++ marks_of ds ≡ marks_of (cs ++ ds)
  marks_both [] ds = refl
  marks_both (c ∷ cs) ds = append_assoc (of_call c.at c.inlined (forms c.node)) (marks_of cs) (marks_of ds) ∙ ap (λ ms. of_call c.at c.inlined (forms c.node) ++ ms) (marks_both cs ds)

  pair : (cs ds : List Call) (ms ns : List Mark) → ms ≡ marks_of cs → ns ≡ marks_of ds → ms ++ ns ≡ marks_of (cs ++ ds)
  pair cs ds ms ns p q = (λ i. p i ++ q i) ∙ marks_both cs ds

  mutual
    unfolding both places deeper calling

    expr_marks : (e : Expr) → shapes.in_expr forms e ≡ marks_of (plain.in_expr e).calls
    expr_marks (constant at c) = refl
    expr_marks (variable at x) = refl
    expr_marks (last_of at x) = refl
    expr_marks (one at op a) = expr_marks a
    expr_marks (two at op a b) = pair (plain.in_expr a).calls (plain.in_expr b).calls (shapes.in_expr forms a) (shapes.in_expr forms b) (expr_marks a) (expr_marks b)
    expr_marks (choose at a b c) =
        pair (plain.in_expr a).calls ((plain.in_expr b).calls ++ (plain.in_expr c).calls) (shapes.in_expr forms a) (shapes.in_expr forms b ++ shapes.in_expr forms c) (expr_marks a)
        (pair (plain.in_expr b).calls (plain.in_expr c).calls (shapes.in_expr forms b) (shapes.in_expr forms c) (expr_marks b) (expr_marks c))
    expr_marks (pre at a) = expr_marks a
    expr_marks (fby at a b) = pair (plain.in_expr a).calls (plain.in_expr b).calls (shapes.in_expr forms a) (shapes.in_expr forms b) (expr_marks a) (expr_marks b)
    expr_marks (arrow at a b) = pair (plain.in_expr a).calls (plain.in_expr b).calls (shapes.in_expr forms a) (shapes.in_expr forms b) (expr_marks a) (expr_marks b)
    expr_marks (when_is at a c x) = expr_marks a
    expr_marks (merge at x ps) = parts_marks ps
    expr_marks (call at f inlined es) = ap (λ ms. of_call at inlined (forms f) ++ ms) (exprs_marks es)

    exprs_marks : (es : Exprs) → shapes.in_exprs forms es ≡ marks_of (plain.in_exprs es).calls
    exprs_marks no_expr = refl
    exprs_marks (more_exprs e es) = pair (plain.in_expr e).calls (plain.in_exprs es).calls (shapes.in_expr forms e) (shapes.in_exprs forms es) (expr_marks e) (exprs_marks es)

    parts_marks : (ps : Parts) → shapes.in_parts forms ps ≡ marks_of (plain.in_parts ps).calls
    parts_marks no_part = refl
    parts_marks (more_parts c e ps) = pair (plain.in_expr e).calls (plain.in_parts ps).calls (shapes.in_expr forms e) (shapes.in_parts forms ps) (expr_marks e) (parts_marks ps)

  transitions_marks : (ts : List Trans) → shapes.in_transitions forms ts ≡ marks_of (plain.in_transitions ts).calls
  unfolding both
  transitions_marks [] = refl
  transitions_marks (t ∷ ts) = pair (plain.in_expr t.cond).calls (plain.in_transitions ts).calls (shapes.in_expr forms t.cond) (shapes.in_transitions forms ts) (expr_marks t.cond) (transitions_marks ts)

  regrouped : (b u w q : List Call) → b ++ (u ++ (w ++ q)) ≡ (b ++ (u ++ w)) ++ q
  regrouped [] [] w q = refl
  regrouped [] (x ∷ u) w q = ap (λ z. x ∷ z) (regrouped [] u w q)
  regrouped (x ∷ b) u w q = ap (λ z. x ∷ z) (regrouped b u w q)

  mutual
    unfolding both places deeper

    block_marks : (b : Block) → shapes.in_block forms b ≡ marks_of (plain.in_block b).calls
    block_marks (block ds es) = eqns_marks es

    eqns_marks : (es : Eqns) → shapes.in_eqns forms es ≡ marks_of (plain.in_eqns es).calls
    eqns_marks no_eqn = refl
    eqns_marks (more_eqns e es) = pair (plain.in_eqn e).calls (plain.in_eqns es).calls (shapes.in_eqn forms e) (shapes.in_eqns forms es) (eqn_marks e) (eqns_marks es)

    eqn_marks : (e : Eqn) → shapes.in_eqn forms e ≡ marks_of (plain.in_eqn e).calls
    eqn_marks (define at xs e) = expr_marks e
    eqn_marks (switch at e arms) = pair (plain.in_expr e).calls (plain.in_arms arms).calls (shapes.in_expr forms e) (shapes.in_arms forms arms) (expr_marks e) (arms_marks arms)
    eqn_marks (reset at b e) = pair (plain.in_block b).calls (plain.in_expr e).calls (shapes.in_block forms b) (shapes.in_expr forms e) (block_marks b) (expr_marks e)
    eqn_marks (automaton at qs) = states_marks qs

    arms_marks : (arms : Arms) → shapes.in_arms forms arms ≡ marks_of (plain.in_arms arms).calls
    arms_marks no_arm = refl
    arms_marks (more_arms c b at arms) = pair (plain.in_block b).calls (plain.in_arms arms).calls (shapes.in_block forms b) (shapes.in_arms forms arms) (block_marks b) (arms_marks arms)

    states_marks : (qs : States) → shapes.in_states forms qs ≡ marks_of (plain.in_states qs).calls
    states_marks no_state = refl
    states_marks (more_states x b until unless at qs) =
        let own = (plain.in_block b).calls in
        let weak = (plain.in_transitions until).calls in
        let strong = (plain.in_transitions unless).calls in
        let others = (plain.in_states qs).calls in
        let w = shapes.in_transitions forms until in
        let s = shapes.in_transitions forms unless in
        let o = shapes.in_states forms qs in
        pair own (weak ++ (strong ++ others)) (shapes.in_block forms b) (w ++ (s ++ o)) (block_marks b)
        (pair weak (strong ++ others) w (s ++ o) (transitions_marks until) (pair strong others s o (transitions_marks unless) (states_marks qs)))
        ∙ ap marks_of (regrouped own weak strong others)

  condition_marks : (e : Option Expr) → shapes.in_condition forms e ≡ marks_of (plain.in_condition e).calls
  condition_marks None = refl
  condition_marks (Some e) = expr_marks e

  contract_marks : (c : Option Contract) → shapes.in_contract forms c ≡ marks_of (plain.in_contract c).calls ++ shapes.in_controls (controls_of c)
  unfolding both places
  contract_marks None = refl
  contract_marks (Some c) =
      let own = (plain.in_block c.body).calls in
      let assume = (plain.in_condition c.assume).calls in
      let enforce = (plain.in_condition c.enforce).calls in
      let controls = shapes.in_controls c.controls in
      let b = shapes.in_block forms c.body in
      let a = shapes.in_condition forms c.assume in
      let g = shapes.in_condition forms c.enforce in
      ap (λ ms. b ++ ms) (sym (append_assoc a g controls)) ∙ sym (append_assoc b (a ++ g) controls)
      ∙ ap (λ ms. ms ++ controls) (pair own (assume ++ enforce) b (a ++ g) (block_marks c.body) (pair assume enforce a g (condition_marks c.assume) (condition_marks c.enforce)))

-- ---- what marks say

abbrev pub plain_places : List Mark → List Span
plain_places [] = []
plain_places (plain_at at ∷ ms) = at ∷ plain_places ms
plain_places (bound_at at ∷ ms) = plain_places ms
plain_places (integer_at at ∷ ms) = plain_places ms

abbrev pub bound_places : List Mark → List Span
bound_places [] = []
bound_places (plain_at at ∷ ms) = bound_places ms
bound_places (bound_at at ∷ ms) = at ∷ bound_places ms
bound_places (integer_at at ∷ ms) = bound_places ms

abbrev pub integer_places : List Mark → List Span
integer_places [] = []
integer_places (plain_at at ∷ ms) = integer_places ms
integer_places (bound_at at ∷ ms) = integer_places ms
integer_places (integer_at at ∷ ms) = at ∷ integer_places ms

plain_both : (ms ns : List Mark) → plain_places (ms ++ ns) ≡ plain_places ms ++ plain_places ns
plain_both [] ns = refl
plain_both (plain_at at ∷ ms) ns = ap (λ z. at ∷ z) (plain_both ms ns)
plain_both (bound_at at ∷ ms) ns = plain_both ms ns
plain_both (integer_at at ∷ ms) ns = plain_both ms ns

bound_both : (ms ns : List Mark) → bound_places (ms ++ ns) ≡ bound_places ms ++ bound_places ns
bound_both [] ns = refl
bound_both (plain_at at ∷ ms) ns = bound_both ms ns
bound_both (bound_at at ∷ ms) ns = ap (λ z. at ∷ z) (bound_both ms ns)
bound_both (integer_at at ∷ ms) ns = bound_both ms ns

integer_both : (ms ns : List Mark) → integer_places (ms ++ ns) ≡ integer_places ms ++ integer_places ns
integer_both [] ns = refl
integer_both (plain_at at ∷ ms) ns = integer_both ms ns
integer_both (bound_at at ∷ ms) ns = integer_both ms ns
integer_both (integer_at at ∷ ms) ns = ap (λ z. at ∷ z) (integer_both ms ns)

-- the first of each kind
pub first_plain : (ms : List Mark) (f : Found) → (fold see f ms).plain ≡ fold (sooner itself) f.plain (plain_places ms)
first_plain [] f = refl
first_plain (plain_at at ∷ ms) f = first_plain ms (see f (plain_at at))
first_plain (bound_at at ∷ ms) f = first_plain ms (see f (bound_at at))
first_plain (integer_at at ∷ ms) f = first_plain ms (see f (integer_at at))

pub first_bound : (ms : List Mark) (f : Found) → (fold see f ms).bound ≡ fold (sooner itself) f.bound (bound_places ms)
first_bound [] f = refl
first_bound (plain_at at ∷ ms) f = first_bound ms (see f (plain_at at))
first_bound (bound_at at ∷ ms) f = first_bound ms (see f (bound_at at))
first_bound (integer_at at ∷ ms) f = first_bound ms (see f (integer_at at))

pub first_integer : (ms : List Mark) (f : Found) → (fold see f ms).integer ≡ fold (sooner itself) f.integer (integer_places ms)
first_integer [] f = refl
first_integer (plain_at at ∷ ms) f = first_integer ms (see f (plain_at at))
first_integer (bound_at at ∷ ms) f = first_integer ms (see f (bound_at at))
first_integer (integer_at at ∷ ms) f = first_integer ms (see f (integer_at at))

-- ---- those of calls

-- what is known of nodes, as the walk knows it
abbrev pub forms_in : (List ℕ → Form) → List ℕ → said.Form
forms_in forms f = record { bound = (forms f).has_contract; first_call = (forms f).plain }

module _ (forms : List ℕ → Form) where
  brought_plain : (o : Option Span) → plain_places (brings o) ≡ if_any o
  brought_plain None = refl
  brought_plain (Some at) = refl

  brought_bound : (o : Option Span) → bound_places (brings o) ≡ []
  brought_bound None = refl
  brought_bound (Some at) = refl

  brought_integer : (o : Option Span) → integer_places (brings o) ≡ []
  brought_integer None = refl
  brought_integer (Some at) = refl

  call_plain : (at : Span) (inlined : Bool) (form : Form) → plain_places (of_call at inlined form) ≡ (if inlined then (if form.has_contract then [] else if_any form.plain) else at ∷ [])
  unfolding of_call
  call_plain at false form = refl
  call_plain at true form = by form.has_contract
    where
      by : (b : Bool) → plain_places (if b then bound_at at ∷ [] else brings form.plain) ≡ (if b then [] else if_any form.plain)
      by true = refl
      by false = brought_plain form.plain

  call_bound : (at : Span) (inlined : Bool) (form : Form) → bound_places (of_call at inlined form) ≡ (if inlined then (if form.has_contract then at ∷ [] else []) else [])
  unfolding of_call
  call_bound at false form = refl
  call_bound at true form = by form.has_contract
    where
      by : (b : Bool) → bound_places (if b then bound_at at ∷ [] else brings form.plain) ≡ (if b then at ∷ [] else [])
      by true = refl
      by false = brought_bound form.plain

  call_integer : (at : Span) (inlined : Bool) (form : Form) → integer_places (of_call at inlined form) ≡ []
  unfolding of_call
  call_integer at false form = refl
  call_integer at true form = by form.has_contract
    where
      by : (b : Bool) → integer_places (if b then bound_at at ∷ [] else brings form.plain) ≡ []
      by true = refl
      by false = brought_integer form.plain

  calls_plain : (cs : List Call) → plain_places (marks_of forms cs) ≡ called_at (forms_in forms) cs
  calls_plain [] = refl
  calls_plain (c ∷ cs) =
      plain_both (of_call c.at c.inlined (forms c.node)) (marks_of forms cs) ∙ (λ i. call_plain c.at c.inlined (forms c.node) i ++ calls_plain cs i)

  calls_bound : (cs : List Call) → bound_places (marks_of forms cs) ≡ said.bound_at (forms_in forms) cs
  calls_bound [] = refl
  calls_bound (c ∷ cs) =
      bound_both (of_call c.at c.inlined (forms c.node)) (marks_of forms cs) ∙ (λ i. call_bound c.at c.inlined (forms c.node) i ++ calls_bound cs i)

  calls_integer : (cs : List Call) → integer_places (marks_of forms cs) ≡ []
  calls_integer [] = refl
  calls_integer (c ∷ cs) = integer_both (of_call c.at c.inlined (forms c.node)) (marks_of forms cs) ∙ (λ i. call_integer c.at c.inlined (forms c.node) i ++ calls_integer cs i)

-- ---- and of controllable variables

type_plain : (at : Span) (t : Ty) → plain_places (shapes.in_type at t) ≡ []
type_plain at ty.Bool = refl
type_plain at ty.Int = refl
type_plain at (ty.Enum x) = refl

type_bound : (at : Span) (t : Ty) → bound_places (shapes.in_type at t) ≡ []
type_bound at ty.Bool = refl
type_bound at ty.Int = refl
type_bound at (ty.Enum x) = refl

type_integer : (at : Span) (t : Ty) → integer_places (shapes.in_type at t) ≡ integer_of at t
type_integer at ty.Bool = refl
type_integer at ty.Int = refl
type_integer at (ty.Enum x) = refl

controls_plain : (ds : List Decl) → plain_places (shapes.in_controls ds) ≡ []
controls_plain [] = refl
controls_plain (d ∷ ds) = plain_both (shapes.in_type d.span d.ty) (shapes.in_controls ds) ∙ (λ i. type_plain d.span d.ty i ++ controls_plain ds i)

controls_bound : (ds : List Decl) → bound_places (shapes.in_controls ds) ≡ []
controls_bound [] = refl
controls_bound (d ∷ ds) = bound_both (shapes.in_type d.span d.ty) (shapes.in_controls ds) ∙ (λ i. type_bound d.span d.ty i ++ controls_bound ds i)

controls_integer : (ds : List Decl) → integer_places (shapes.in_controls ds) ≡ integers_at ds
controls_integer [] = refl
controls_integer (d ∷ ds) = integer_both (shapes.in_type d.span d.ty) (shapes.in_controls ds) ∙ (λ i. type_integer d.span d.ty i ++ controls_integer ds i)

-- ---- of the parts of a node

module _ (forms : List ℕ → Form) (c : Option Contract) where
  abbrev calls : List Call
  calls = (plain.in_contract c).calls

  abbrev controls : List Mark
  controls = shapes.in_controls (controls_of c)

  pub contract_plain : plain_places (shapes.in_contract forms c) ≡ called_at (forms_in forms) calls
  contract_plain =
      ap plain_places (contract_marks forms c) ∙ plain_both (marks_of forms calls) controls
      ∙ (λ i. calls_plain forms calls i ++ controls_plain (controls_of c) i) ∙ append-nil (called_at (forms_in forms) calls)

  pub contract_bound : bound_places (shapes.in_contract forms c) ≡ said.bound_at (forms_in forms) calls
  contract_bound =
      ap bound_places (contract_marks forms c) ∙ bound_both (marks_of forms calls) controls
      ∙ (λ i. calls_bound forms calls i ++ controls_bound (controls_of c) i) ∙ append-nil (said.bound_at (forms_in forms) calls)

  pub contract_integer : integer_places (shapes.in_contract forms c) ≡ integers_at (controls_of c)
  contract_integer =
      ap integer_places (contract_marks forms c) ∙ integer_both (marks_of forms calls) controls ∙ (λ i. calls_integer forms calls i ++ controls_integer (controls_of c) i)

pub body_plain : (forms : List ℕ → Form) (b : Block) → plain_places (shapes.in_block forms b) ≡ called_at (forms_in forms) (plain.in_block b).calls
body_plain forms b = ap plain_places (block_marks forms b) ∙ calls_plain forms (plain.in_block b).calls

pub body_bound : (forms : List ℕ → Form) (b : Block) → bound_places (shapes.in_block forms b) ≡ said.bound_at (forms_in forms) (plain.in_block b).calls
body_bound forms b = ap bound_places (block_marks forms b) ∙ calls_bound forms (plain.in_block b).calls

-- ---- marks of which there are none

inlines_none : (ms : List Mark) → InlineNoContract ms ↔ (bound_places ms ≡ [])
inlines_none [] = (λ h. refl, λ h. tt)
inlines_none (plain_at at ∷ ms) = inlines_none ms
inlines_none (bound_at at ∷ ms) = (λ h. absurd h, λ h. absurd cc)
inlines_none (integer_at at ∷ ms) = inlines_none ms

integers_none : (ms : List Mark) → HaveNoInteger ms ↔ (integer_places ms ≡ [])
integers_none [] = (λ h. refl, λ h. tt)
integers_none (plain_at at ∷ ms) = integers_none ms
integers_none (bound_at at ∷ ms) = integers_none ms
integers_none (integer_at at ∷ ms) = (λ h. absurd h, λ h. absurd cc)

no_integer : (ds : List Decl) → (integers_at ds ≡ []) ↔ AllByRecursion (λ (d : Decl). d.ty ≢ ty.Int) ds
no_integer [] = (λ h. tt, λ h. refl)
no_integer (d ∷ ds) = by d.ty (no_integer ds)
  where
    by : (t : Ty) → (integers_at ds ≡ []) ↔ AllByRecursion (λ (d : Decl). d.ty ≢ ty.Int) ds → (integer_of d.span t ++ integers_at ds ≡ []) ↔ ((t ≢ ty.Int) × AllByRecursion (λ (d : Decl). d.ty ≢ ty.Int) ds)
    by ty.Bool others = (λ h. ((λ e. cc), others.0 h), λ h. others.1 h.1)
    by ty.Int others = (λ h. absurd cc, λ h. absurd (h.0 refl))
    by (ty.Enum x) others = (λ h. ((λ e. cc), others.0 h), λ h. others.1 h.1)

pub integers_same : (forms : List ℕ → Form) (c : Option Contract) → HaveNoInteger (shapes.in_contract forms c) ↔ AllByRecursion (λ (d : Decl). d.ty ≢ ty.Int) (controls_of c)
integers_same forms c =
    let ms = shapes.in_contract forms c in
    let p = integers_none ms in
    let q = no_integer (controls_of c) in
    (λ h. q.0 (sym (contract_integer forms c) ∙ p.0 h), λ h. p.1 (contract_integer forms c ∙ q.1 h))

-- no node with a contract is inlined
module _ (forms : List ℕ → Form) where
  abbrev pub has : List ℕ → Bool
  has f = (forms f).has_contract

  free_none : (cs : List Call) → InlineFree has cs ↔ (said.bound_at (forms_in forms) cs ≡ [])
  free_none [] = (λ h. refl, λ h. tt)
  free_none (c ∷ cs) = by c.inlined (forms c.node).has_contract (free_none cs) refl refl
    where
      by : (i b : Bool) → InlineFree has cs ↔ (said.bound_at (forms_in forms) cs ≡ []) → c.inlined ≡ i → (forms c.node).has_contract ≡ b →
          ((c.inlined ≡ true → (forms c.node).has_contract ≡ false) × InlineFree has cs) ↔ ((if i then (if b then c.at ∷ [] else []) else []) ++ said.bound_at (forms_in forms) cs ≡ [])
      by false b others e f = (λ h. others.0 h.1, λ h. ((λ g. cc (e, g)), others.1 h))
      by true true others e f = (λ h. absurd (cc (sym (h.0 e), f)), λ h. absurd cc)
      by true false others e f = (λ h. others.0 h.1, λ h. ((λ g. f), others.1 h))

  free_front : (cs ds : List Call) → InlineFree has (cs ++ ds) → InlineFree has cs
  free_front [] ds h = tt
  free_front (c ∷ cs) ds h = (h.0, free_front cs ds h.1)

  free_rest : (cs ds : List Call) → InlineFree has (cs ++ ds) → InlineFree has ds
  free_rest [] ds h = h
  free_rest (c ∷ cs) ds h = free_rest cs ds h.1

  free_both : (cs ds : List Call) → InlineFree has cs → InlineFree has ds → InlineFree has (cs ++ ds)
  free_both [] ds h k = k
  free_both (c ∷ cs) ds h k = (h.0, free_both cs ds h.1 k)

  pub inlines_same : (n : Node) → InlinesNone forms n ↔ InlineFree has (plain.in_node n).calls
  unfolding both places
  inlines_same n =
      let cs = (plain.in_contract n.contract).calls in
      let ds = (plain.in_block n.body).calls in
      let c = inlines_none (shapes.in_contract forms n.contract) in
      let b = inlines_none (shapes.in_block forms n.body) in
      let p = free_none cs in
      let q = free_none ds in (
        λ h. free_both cs ds (p.1 (sym (contract_bound forms n.contract) ∙ c.0 h.0)) (q.1 (sym (body_bound forms n.body) ∙ b.0 h.1)),
        λ h. (c.1 (contract_bound forms n.contract ∙ p.0 (free_front cs ds h)), b.1 (body_bound forms n.body ∙ q.0 (free_rest cs ds h))),
      )
