-- What is given fits where first values stand in front of it.
use Rattle.std.proofs.Common.{◌≡◌, ℕ, List, [], ◌∷◌, refl, sym, ap, subst, ◌∙◌}
use Rattle.std.specs.Prelude.{true, false, Option, None, Some}
use Rattle.hp_base.specs.declared.ty.Ty.{Ty}
use Rattle.hp_base.specs.declared.value.Value.{Value}
use Rattle.hp_base.specs.declared.span.Span.{Span}
use Rattle.hp_base.specs.declared.value.Value.TheVariants.{Absent, Nil}
use Rattle.hp_tree.specs.declared.block.Trans.{Trans}
use Rattle.hp_tree.specs.Expressions.{Expr, constant, variable, last_of, one, two, choose, pre, fby, arrow, when_is, merge, call, Exprs, no_expr, more_exprs, Parts, no_part, more_parts}
use Rattle.hp_tree.specs.Blocks.{Decl, Block, block, Eqns, no_eqn, more_eqns, Eqn, define, switch, reset, automaton, Arms, no_arm, more_arms, States, no_state, more_states}
use Rattle.hp_tree.specs.Programs.{TypeDecl, Contract, Node}
use Rattle.hp_tree.specs.Values.{IsOf}
use Rattle.hp_tree.specs.Meaning.{controls_of}
use Rattle.hp_tree.specs.ExpressionTypes as tree
use Rattle.hp_tree.specs.ExpressionTypes.{typed_in, untyped, scope_of}
use Rattle.hp_tree.specs.Instant.{Controls, Body, Observer, Assume, Enforce, Equations, Head, Tail, Right, Test, Arms as ArmsOf, States as StatesOf, Until, Unless, First, Second, Third, Args, Instance, Instant, part, top, in_row, nothing, in_observer}
use Rattle.hp_tree.specs.Filled.{first_value, firsts, firsts_of_all, firsts_of_parts, firsts_of_block, firsts_of_equations, firsts_of_equation, firsts_of_arms, firsts_of_states, firsts_of_node}
use Rattle.hp_base.specs.Known.Known.{lookup}
use Rattle.hp_typing.specs.Scopes.{with_variables, inside, inside_node}
use Rattle.hp_typing.specs.Types.{type_of}
use Rattle.law_judged.specs.Typed.Scopes.{Scope}
use Rattle.law_values.specs.Valued.Judged.{Lasts, lasts_in, lasts_of, no_lasts, body_scope, ExprSound, ExprsSound, PartsSound, RightSound, TestsSound, DeclsSound, BlockSound, EqnsSound, EqnSound, ArmsSound, StatesSound, HaveOwnTypes, ToldSound, ContractSound, NodeSound}
use Rattle.law_values.specs.Valued.Fitting.{HasValue}
use Rattle.law_values.specs.Valued.Given.{UndefinedFits, ExprGiven, ExprsGiven, PartsGiven, TestsGiven, BlockGiven, EqnsGiven, EqnGiven, ArmsGiven, StatesGiven, ToldGiven, ContractGiven, ControlsGiven, NodeGiven}
use Rattle.law_values.proofs.ValuedLemmas.Laws.{value_of}
use Rattle.law_values.proofs.ValuedLemmas.Scoped.{not_declared}
use Rattle.law_values.specs.Filled.Firsts.{DeclsHaveFirsts, BlockHasFirsts, EqnsHaveFirsts, EqnHasFirsts, ArmsHaveFirsts, StatesHaveFirsts, ContractHasFirsts, NodeHasFirsts}
use Rattle.law_values.proofs.FilledLemmas.Values.{kept_over, over}
use Rattle.law_values.proofs.FilledLemmas.Constructors.{ConsTyped, cons_inside}
use Rattle.law_values.proofs.FilledLemmas.TypesAgree.{Agrees, agrees_at, agrees_inside, outputs, same_type}

-- what `pre` without a past gives in the language, and in its filled form
abbrev pub nil : Value → Value
nil given = Nil

abbrev pub as_given : Value → Value
as_given given = given

own_types : (types : List TypeDecl) (among : List ℕ → Option Node) (s : Scope) (es : Eqns) (ds : List Decl) → DeclsSound types among s es ds → HaveOwnTypes types among s ds
own_types types among s es [] ok = tt
own_types types among s es (d ∷ ds) ok = (ok.0.0, own_types types among s es ds ok.1)

-- `given` says that the values fit that are given to an instance, `fits` that they do with first values in front of them, as `firsts_in` has them.
module _ (types : List TypeDecl) (among : List ℕ → Option Node) (callees : (f : List ℕ) (n : Node) → among f ≡ Some n → DeclsHaveFirsts types n.outputs) (given fits : List ℕ → Instant → Type 0) (firsts_in : List ℕ → Instant) (instances : (f : List ℕ) (free : Instant) → given f free → fits f (over (firsts_in f) free)) where
  abbrev outs : List ℕ → List Decl
  outs f = outputs types among callees f

  -- ---- the conditions of transitions, as a list of instants
  abbrev conditions : List Trans → tree.Scope → List Instant
  conditions [] names = []
  conditions (t ∷ ts) names = firsts types outs firsts_in t.cond names ∷ conditions ts names

  module _ (s : Scope) (lasts : Lasts) (names : tree.Scope) (known : Agrees types s names) (conses : ConsTyped types s) where
    undefined_fits : (e : Expr) (v : Value) → ExprSound types among s lasts e → (o : Option Ty) → type_of s e ≡ o → UndefinedFits types false as_given fits o (over (λ p. first_value types (tree.type_of types outs e names)) (λ p. v) [])
    undefined_fits e v ok None h = tt
    undefined_fits e v ok (Some t) h =
        let q = same_type types among callees s lasts names known conses e t ok h in
        subst (λ z. HasValue types t false z) (sym (kept_over types (tree.type_of types outs e names) (first_value types (tree.type_of types outs e names)) v (subst (λ z. IsOf types z (first_value types z)) (sym q.0) q.1)))
        (subst (λ z. HasValue types t false (first_value types z)) (sym q.0) (value_of types t false (first_value types t) q.1))

    mutual
      expr_fits : (e : Expr) (free : Instant) → ExprSound types among s lasts e → ExprGiven types true nil given s e free → ExprGiven types false as_given fits s e (over (firsts types outs firsts_in e names) free)
      expr_fits (constant a c) free ok h = tt
      expr_fits (variable a x) free ok h = tt
      expr_fits (last_of a x) free ok h = tt
      expr_fits (one a o b) free ok h = expr_fits b (part First free) ok h
      expr_fits (two a o b c) free ok h = (expr_fits b (part First free) ok.0 h.0, expr_fits c (part Second free) ok.1 h.1)
      expr_fits (choose a b c d) free ok h = (expr_fits b (part First free) ok.0 h.0, (expr_fits c (part Second free) ok.1.0 h.1.0, expr_fits d (part Third free) ok.1.1 h.1.1))
      expr_fits (pre a b) free ok h = (undefined_fits b (top free) ok (type_of s b) refl, expr_fits b (part First free) ok h.1)
      expr_fits (fby a b c) free ok h = (expr_fits b (part First free) ok.0 h.0, expr_fits c (part Second free) ok.1 h.1)
      expr_fits (arrow a b c) free ok h = (expr_fits b (part First free) ok.0 h.0, expr_fits c (part Second free) ok.1 h.1)
      expr_fits (when_is a b c x) free ok h = expr_fits b (part First free) ok h
      expr_fits (merge a x ps) free ok h = parts_fit ps (part Args free) ok.1 h
      expr_fits (call a f i es) free ok h = (exprs_fit es (part Args free) ok.1 h.0, instances f (part Instance free) h.1)

      exprs_fit : (es : Exprs) (free : Instant) → ExprsSound types among s lasts es → ExprsGiven types true nil given s es free → ExprsGiven types false as_given fits s es (over (in_row (firsts_of_all types outs firsts_in es names)) free)
      exprs_fit no_expr free ok h = tt
      exprs_fit (more_exprs e es) free ok h = (expr_fits e (part Head free) ok.0 h.0, exprs_fit es (part Tail free) ok.1 h.1)

      parts_fit : (ps : Parts) (free : Instant) → PartsSound types among s lasts ps → PartsGiven types true nil given s ps free → PartsGiven types false as_given fits s ps (over (in_row (firsts_of_parts types outs firsts_in ps names)) free)
      parts_fit no_part free ok h = tt
      parts_fit (more_parts c e ps) free ok h = (expr_fits e (part Head free) ok.0 h.0, parts_fit ps (part Tail free) ok.1 h.1)

    tests_fit : (ts : List Trans) (free : Instant) → TestsSound types among s lasts ts → TestsGiven types true nil given s ts free → TestsGiven types false as_given fits s ts (over (in_row (conditions ts names)) free)
    tests_fit [] free ok h = tt
    tests_fit (t ∷ ts) free ok h = (expr_fits t.cond (part Head free) ok.0.0 h.0, tests_fit ts (part Tail free) ok.1 h.1)

  right_sound : (s : Scope) (lasts : Lasts) (ys : List (List ℕ × Span)) (e : Expr) → RightSound types among s lasts ys e → ExprSound types among s lasts e
  right_sound s lasts ys (constant a c) ok = ok.0
  right_sound s lasts ys (variable a x) ok = ok.0
  right_sound s lasts ys (last_of a x) ok = ok.0
  right_sound s lasts ys (one a o b) ok = ok.0
  right_sound s lasts ys (two a o b c) ok = ok.0
  right_sound s lasts ys (choose a b c d) ok = ok.0
  right_sound s lasts ys (pre a b) ok = ok.0
  right_sound s lasts ys (fby a b c) ok = ok.0
  right_sound s lasts ys (arrow a b c) ok = ok.0
  right_sound s lasts ys (when_is a b c x) ok = ok.0
  right_sound s lasts ys (merge a x ps) ok = ok.0
  right_sound s lasts ys (call a f i es) ok = ok.0

  -- weak conditions, in the body of their state
  until_fits : (b : Block) (s : Scope) (lasts : Lasts) (names : tree.Scope) → Agrees types s names → ConsTyped types s → BlockSound types among s lasts b → BlockHasFirsts types b → (ts : List Trans) (free : Instant) → TestsSound types among (inside s b) (lasts_of b lasts) ts → TestsGiven types true nil given (inside s b) ts free → TestsGiven types false as_given fits (inside s b) ts (over (in_row (conditions ts (scope_of b names))) free)
  until_fits (block ds es) s lasts names known conses ok firsts' ts free tok h =
      tests_fit (with_variables s ds) (lasts_in ds lasts) (typed_in ds names)
      (agrees_inside types among s ds names (own_types types among (with_variables s ds) es ds ok.0) firsts'.0 known) (cons_inside types ds s conses) ts free tok h

  mutual
    block_fits : (b : Block) (s : Scope) (lasts : Lasts) (names : tree.Scope) (free : Instant) → Agrees types s names → ConsTyped types s → BlockSound types among s lasts b → BlockHasFirsts types b → BlockGiven types true nil given s b free → BlockGiven types false as_given fits s b (over (firsts_of_block types outs firsts_in b names) free)
    block_fits (block ds es) s lasts names free known conses ok firsts' h =
        eqns_fit es (with_variables s ds) (lasts_in ds lasts) (typed_in ds names) (part Equations free)
        (agrees_inside types among s ds names (own_types types among (with_variables s ds) es ds ok.0) firsts'.0 known) (cons_inside types ds s conses) ok.1.1 firsts'.1 h

    eqns_fit : (es : Eqns) (s : Scope) (lasts : Lasts) (names : tree.Scope) (free : Instant) → Agrees types s names → ConsTyped types s → EqnsSound types among s lasts es → EqnsHaveFirsts types es → EqnsGiven types true nil given s es free → EqnsGiven types false as_given fits s es (over (firsts_of_equations types outs firsts_in es names) free)
    eqns_fit no_eqn s lasts names free known conses ok firsts' h = tt
    eqns_fit (more_eqns e es) s lasts names free known conses ok firsts' h = (
      eqn_fits e s lasts names (part Head free) known conses ok.0 firsts'.0 h.0,
      eqns_fit es s lasts names (part Tail free) known conses ok.1 firsts'.1 h.1,
    )

    eqn_fits : (e : Eqn) (s : Scope) (lasts : Lasts) (names : tree.Scope) (free : Instant) → Agrees types s names → ConsTyped types s → EqnSound types among s lasts e → EqnHasFirsts types e → EqnGiven types true nil given s e free → EqnGiven types false as_given fits s e (over (firsts_of_equation types outs firsts_in e names) free)
    eqn_fits (define a ys e) s lasts names free known conses ok firsts' h =
        expr_fits s lasts names known conses e (part Right free) (right_sound s lasts ys e ok) h
    eqn_fits (switch a e arms) s lasts names free known conses ok firsts' h = (
      expr_fits s lasts names known conses e (part Test free) ok.0 h.0,
      arms_fit arms (switch a e arms) s lasts names (part ArmsOf free) known conses ok.1.1 firsts' h.1,
    )
    eqn_fits (reset a b e) s lasts names free known conses ok firsts' h = (
      expr_fits s lasts names known conses e (part Test free) ok.0.0 h.0,
      block_fits b s lasts names (part Body free) known conses ok.1 firsts' h.1,
    )
    eqn_fits (automaton a ss) s lasts names free known conses ok firsts' h =
        states_fit ss (automaton a ss) s lasts names (part StatesOf free) known conses ok firsts' h

    arms_fit : (arms : Arms) (e : Eqn) (s : Scope) (lasts : Lasts) (names : tree.Scope) (free : Instant) → Agrees types s names → ConsTyped types s → ArmsSound types among e s lasts arms → ArmsHaveFirsts types arms → ArmsGiven types true nil given s arms free → ArmsGiven types false as_given fits s arms (over (firsts_of_arms types outs firsts_in arms names) free)
    arms_fit no_arm e s lasts names free known conses ok firsts' h = tt
    arms_fit (more_arms c b a arms) e s lasts names free known conses ok firsts' h = (
      block_fits b s lasts names (part Head free) known conses ok.1.0 firsts'.0 h.0,
      arms_fit arms e s lasts names (part Tail free) known conses ok.1.1 firsts'.1 h.1,
    )

    states_fit : (ss : States) (e : Eqn) (s : Scope) (lasts : Lasts) (names : tree.Scope) (free : Instant) → Agrees types s names → ConsTyped types s → StatesSound types among e s lasts ss → StatesHaveFirsts types ss → StatesGiven types true nil given s ss free → StatesGiven types false as_given fits s ss (over (firsts_of_states types outs firsts_in ss names) free)
    states_fit no_state e s lasts names free known conses ok firsts' h = tt
    states_fit (more_states f b until unless a ss) e s lasts names free known conses ok firsts' h = (
      block_fits b s lasts names (part Body (part Head free)) known conses ok.1.0 firsts'.0 h.0,
      (
        until_fits b s lasts names known conses ok.1.0 firsts'.0 until (part Until (part Head free)) ok.1.1.0 h.1.0,
        (
          tests_fit s lasts names known conses unless (part Unless (part Head free)) ok.1.1.1.0 h.1.1.0,
          states_fit ss e s lasts names (part Tail free) known conses ok.1.1.1.1 firsts'.1 h.1.1.1,
        ),
      ),
    )

  -- ---- nodes

  -- what is told of the block of a contract
  abbrev told : Option Expr → tree.Scope → Instant
  told None names p = Absent
  told (Some e) names p = firsts types outs firsts_in e names p

  told_fits : (b : Block) (s : Scope) (lasts : Lasts) (names : tree.Scope) → Agrees types s names → ConsTyped types s → BlockSound types among s lasts b → BlockHasFirsts types b → (e : Option Expr) (free : Instant) → ToldSound types among (inside s b) (lasts_of b lasts) e → ToldGiven types true nil given (inside s b) e free → ToldGiven types false as_given fits (inside s b) e (over (told e (scope_of b names)) free)
  told_fits b s lasts names known conses ok firsts' None free tok h = tt
  told_fits (block ds es) s lasts names known conses ok firsts' (Some e) free tok h =
      expr_fits (with_variables s ds) (lasts_in ds lasts) (typed_in ds names)
      (agrees_inside types among s ds names (own_types types among (with_variables s ds) es ds ok.0) firsts'.0 known) (cons_inside types ds s conses) e free tok.0 h

  controls_as : (ds : List Decl) (free : Instant) → ControlsGiven types true nil given ds free → ControlsGiven types false as_given fits ds free
  controls_as [] free h = tt
  controls_as (d ∷ ds) free h = (h.0, controls_as ds (part Tail free) h.1)

  abbrev seen : Node → tree.Scope
  seen n = typed_in n.inputs (typed_in n.outputs untyped)

  -- inputs and outputs, and for the body controllable variables too
  agrees_seen : (s : Scope) (n : Node) → s.variables ≡ [] → NodeSound types among s n → NodeHasFirsts types n → Agrees types (inside_node s n) (seen n)
  agrees_seen s n e ok firsts' x t h =
      agrees_at types among (inside_node s n) n.inputs (typed_in n.outputs untyped) x t ok.0.0 firsts'.inputs h
      (λ f. agrees_at types among (inside_node s n) n.outputs untyped x t ok.0.1 firsts'.outputs h
      (λ g.
      let k : lookup s.variables x ≡ Some t = sym (not_declared x n.inputs s f) ∙ sym (not_declared x n.outputs (with_variables s n.inputs) g) ∙ h in
      let none : None ≡ Some t = sym (ap (λ z. lookup z x) e) ∙ k in
      absurd (cc)))

  agrees_body : (s : Scope) (n : Node) → s.variables ≡ [] → NodeSound types among s n → NodeHasFirsts types n → Agrees types (body_scope s n) (typed_in (controls_of n.contract) (seen n))
  agrees_body s n e ok firsts' x t h =
      agrees_at types among (body_scope s n) (controls_of n.contract) (seen n) x t ok.1.1.0 firsts'.controls h
      (λ f. agrees_seen s n e ok firsts' x t (sym (not_declared x (controls_of n.contract) (inside_node s n) f) ∙ h))

  -- the parts of a node: its body, and its contract's
  abbrev contract_firsts : Option Contract → tree.Scope → Instant
  contract_firsts None names = nothing
  contract_firsts (Some c) names =
      in_observer (firsts_of_block types outs firsts_in c.body names) (told c.assume (scope_of c.body names)) (told c.enforce (scope_of c.body names))

  abbrev in_parts : Instant → Instant → Instant
  in_parts body observer (Body ∷ p) = body p
  in_parts body observer p = observer p

  controls_fit : (k : Option Contract) (names : tree.Scope) (body free : Instant) → ControlsGiven types true nil given (controls_of k) (part Controls free) → ControlsGiven types false as_given fits (controls_of k) (part Controls (over (in_parts body (contract_firsts k names)) free))
  controls_fit None names body free h = tt
  controls_fit (Some c) names body free h = controls_as c.controls (part Controls free) h

  contract_fits : (k : Option Contract) (s : Scope) (lasts : Lasts) (names : tree.Scope) (body free : Instant) → Agrees types s names → ConsTyped types s → ContractSound types among s lasts k → ContractHasFirsts types k → ContractGiven types true nil given s k free → ContractGiven types false as_given fits s k (over (in_parts body (contract_firsts k names)) free)
  contract_fits None s lasts names body free known conses ok firsts' h = tt
  contract_fits (Some c) s lasts names body free known conses ok firsts' h = (
    block_fits c.body s lasts names (part Observer free) known conses ok.0 firsts' h.0,
    (
      told_fits c.body s lasts names known conses ok.0 firsts' c.assume (part Assume free) ok.1.0 h.1.0,
      told_fits c.body s lasts names known conses ok.0 firsts' c.enforce (part Enforce free) ok.1.1 h.1.1,
    ),
  )

  pub node_fits : (s : Scope) (n : Node) (free : Instant) → s.variables ≡ [] → ConsTyped types s → NodeSound types among s n → NodeHasFirsts types n → NodeGiven types true nil given s n free → NodeGiven types false as_given fits s n (over (firsts_of_node types outs firsts_in n) free)
  node_fits s n free e conses ok firsts' h =
      let outer : ConsTyped types (inside_node s n) = cons_inside types n.outputs (with_variables s n.inputs) (cons_inside types n.inputs s conses) in
      let own : ConsTyped types (body_scope s n) = cons_inside types (controls_of n.contract) (inside_node s n) outer in
      let body = firsts_of_block types outs firsts_in n.body (typed_in (controls_of n.contract) (seen n)) in (
        (
          controls_fit n.contract (seen n) body free h.0.0,
          block_fits n.body (body_scope s n) (lasts_in n.outputs no_lasts) (typed_in (controls_of n.contract) (seen n)) (part Body free) (agrees_body s n e ok firsts') own ok.1.1.1.1.0 firsts'.body h.0.1,
        ),
        contract_fits n.contract (inside_node s n) (lasts_in n.outputs no_lasts) (seen n) body free (agrees_seen s n e ok firsts') outer ok.1.1.1.1.1 firsts'.contract h.1,
      )
