-- The first values of registers fit: each is of the type of its expression.
use Rattle.std.proofs.Common.{◌≡◌, ℕ, List, [], ◌∷◌, refl, sym, ap, subst, ◌∙◌}
use Rattle.std.specs.Prelude.{Bool, true, false, ◌||◌, Option, None, Some}
use Rattle.std.specs.Str.{bytes_eq}
use Rattle.hp_base.specs.declared.span.Span.{Span}
use Rattle.hp_base.specs.declared.ty.Ty.{Ty}
use Rattle.hp_base.specs.declared.ty.Ty.TheVariants as ty
use Rattle.hp_base.specs.declared.ty.Const.TheVariants as const
use Rattle.hp_base.specs.declared.value.Value.{Value}
use Rattle.hp_tree.specs.declared.block.Trans.{Trans}
use Rattle.hp_tree.specs.declared.expr.Op2.{Op2}
use Rattle.hp_tree.specs.declared.expr.Op2.TheVariants.{And, Or, Xor, Imp, Eq, Ne, Lt, Le, Gt, Ge, Add, Sub, Mul, Div, Rem}
use Rattle.hp_tree.specs.declared.expr.Op1.{Op1}
use Rattle.hp_tree.specs.declared.expr.Op1.TheVariants.{Not, Neg}
use Rattle.hp_tree.specs.Expressions.{Expr, constant, variable, last_of, one, two, choose, pre, fby, arrow, when_is, merge, call, Exprs, no_expr, more_exprs, Parts, no_part, more_parts}
use Rattle.hp_tree.specs.Blocks.{Decl, Block, block, Eqns, no_eqn, more_eqns, Eqn, define, switch, reset, automaton, Arms, no_arm, more_arms, States, no_state, more_states}
use Rattle.hp_tree.specs.Programs.{TypeDecl, Contract, Node}
use Rattle.hp_tree.specs.Operators.{constant_of}
use Rattle.hp_tree.specs.Values.{IsOf}
use Rattle.hp_tree.specs.Meaning.{declares, controls_of}
use Rattle.hp_tree.specs.Instant.{Instant, in_row}
use Rattle.hp_base.specs.Known.Known.{lookup}
use Rattle.hp_typing.specs.Scopes.{with_variables, inside, inside_node}
use Rattle.hp_typing.specs.Types.{type_of, types_in, type_of_one, answer, enum_of, merge_type}
use Rattle.law_judged.specs.Typed.Scopes.{Scope}
use Rattle.law_values.specs.Valued.Judged.{Lasts, lasts_in, lasts_of, no_lasts, body_scope, ExprSound, ExprsSound, PartsSound, RightSound, TestsSound, BlockSound, EqnsSound, EqnSound, ArmsSound, StatesSound, ToldSound, ContractSound, NodeSound}
use Rattle.law_values.specs.Valued.Given.{UndefinedFits, ExprGiven, ExprsGiven, PartsGiven, TestsGiven, BlockGiven, EqnsGiven, EqnGiven, ArmsGiven, StatesGiven, ToldGiven, ContractGiven, ControlsGiven, NodeGiven}
use Rattle.law_values.proofs.ValuedLemmas.Laws.{value_of}
use Rattle.law_values.proofs.ValuedLemmas.Typed.{some_is, one_typed, two_typed, if_typed, pair_typed, when_typed, merge_typed}
use Rattle.law_values.proofs.ValuedLemmas.Scoped.{not_declared}
use Rattle.law_equations.specs.Made.Making.{Known, flat_type, first_value}
use Rattle.law_values.specs.Filled.Firsts.{HasFirst, DeclsHaveFirsts, BlockHasFirsts, EqnsHaveFirsts, EqnHasFirsts, ArmsHaveFirsts, StatesHaveFirsts, ContractHasFirsts, NodeHasFirsts}
use Rattle.law_values.proofs.FilledLemmas.Values.{first_from}
use Rattle.law_wellmade.specs.Begun.Firsts.{first_of, expr_firsts, exprs_firsts, parts_firsts, tests_firsts, block_firsts, eqns_firsts, eqn_firsts, arms_firsts, states_firsts, told_firsts, contract_firsts, controls_firsts, in_parts, node_firsts}
use Rattle.law_wellmade.proofs.BegunLemmas.Typing.{call_outputs}
use Rattle.law_wellmade.proofs.BegunLemmas.BlockRegisters.{OwnTypes, declared_types, owned, same_name}

-- each variable has a type with a first value
abbrev HaveFirsts : List TypeDecl → Scope → Type 0
HaveFirsts types s = (x : List ℕ) (t : Ty) → lookup s.variables x ≡ Some t → HasFirst types t

one_first : (types : List TypeDecl) (o : Op1) → HasFirst types (type_of_one o)
one_first types Not = tt
one_first types Neg = tt

answer_first : (types : List TypeDecl) (o : Op2) → HasFirst types (answer o)
answer_first types And = tt
answer_first types Or = tt
answer_first types Xor = tt
answer_first types Imp = tt
answer_first types Eq = tt
answer_first types Ne = tt
answer_first types Lt = tt
answer_first types Le = tt
answer_first types Gt = tt
answer_first types Ge = tt
answer_first types Add = tt
answer_first types Sub = tt
answer_first types Mul = tt
answer_first types Div = tt
answer_first types Rem = tt

firsts_declared : (types : List TypeDecl) (s : Scope) (ds : List Decl) (x : List ℕ) (t : Ty) → OwnTypes s ds → DeclsHaveFirsts types ds → lookup s.variables x ≡ Some t → declares ds x ≡ true → HasFirst types t
firsts_declared types s [] x t o f h e = absurd (cc)
firsts_declared types s (d ∷ ds) x t o f h e = by (bytes_eq d.name x) refl e (firsts_declared types s ds x t o.1 f.1 h)
  where
    by : (b : Bool) → bytes_eq d.name x ≡ b → (b || declares ds x) ≡ true → (declares ds x ≡ true → HasFirst types t) → HasFirst types t
    by true q e g = subst (λ z. HasFirst types z) (some_is d.ty t (sym o.0 ∙ ap (λ z. lookup s.variables z) (same_name d.name x q) ∙ h)) f.0
    by false q e g = g e

firsts_inside : (types : List TypeDecl) (s : Scope) (ds : List Decl) → OwnTypes (with_variables s ds) ds → DeclsHaveFirsts types ds → HaveFirsts types s → HaveFirsts types (with_variables s ds)
firsts_inside types s ds o f a x t h = by (declares ds x) refl
  where
    by : (b : Bool) → declares ds x ≡ b → HasFirst types t
    by true e = firsts_declared types (with_variables s ds) ds x t o f h e
    by false e = a x t (sym (not_declared x ds s e) ∙ h)

-- the inputs and the outputs of a node
two_lists : (types : List TypeDecl) (s : Scope) (ds es : List Decl) → OwnTypes (with_variables (with_variables s ds) es) ds → OwnTypes (with_variables (with_variables s ds) es) es → DeclsHaveFirsts types ds → DeclsHaveFirsts types es
    → HaveFirsts types s → HaveFirsts types (with_variables (with_variables s ds) es)
two_lists types s ds es od oe fd fe a x t h = by (declares es x) refl (declares ds x) refl
  where
    all : Scope
    all = with_variables (with_variables s ds) es

    by : (b : Bool) → declares es x ≡ b → (c : Bool) → declares ds x ≡ c → HasFirst types t
    by true p c q = firsts_declared types all es x t oe fe h p
    by false p true q = firsts_declared types all ds x t od fd h q
    by false p false q = a x t (sym (not_declared x ds s q) ∙ sym (not_declared x es (with_variables s ds) p) ∙ h)

module _ (k : Known) (types : List TypeDecl) (among : List ℕ → Option Node) (good : (t : Ty) → HasFirst types t → IsOf types t (first_value (flat_type k.types t)))
    (callees : (f : List ℕ) (n : Node) → among f ≡ Some n → DeclsHaveFirsts types n.outputs) (callee : List ℕ → Instant) (fits : List ℕ → Instant → Type 0) (instances : (f : List ℕ) → fits f (callee f)) where
  module _ (s : Scope) (lasts : Lasts) (known : HaveFirsts types s) where
    enum_first : (c : List ℕ) (o : Option (List ℕ)) (t : Ty) (v : Value) → enum_of o ≡ Some t → IsOf types t v → HasFirst types t
    enum_first c None t v h i = absurd (cc)
    enum_first c (Some u) t v h i =
        let e = some_is (ty.Enum u) t h in
        subst (λ z. HasFirst types z) e (first_from types u v (subst (λ z. IsOf types z v) (sym e) i))

    -- the type of an expression has a first value
    mutual
      has_first : (e : Expr) (t : Ty) → ExprSound types among s lasts e → type_of s e ≡ Some t → HasFirst types t
      has_first (constant a (const.B b)) t ok h = subst (λ z. HasFirst types z) (some_is ty.Bool t h) tt
      has_first (constant a (const.I n)) t ok h = subst (λ z. HasFirst types z) (some_is ty.Int t h) tt
      has_first (constant a (const.E c)) t ok h = enum_first c (lookup s.constructors c) t (constant_of types (const.E c)) h (ok t h)
      has_first (variable a x) t ok h = known x t h
      has_first (last_of a x) t ok h = known x t h
      has_first (one a o b) t ok h = subst (λ z. HasFirst types z) (one_typed (type_of_one o) (type_of s b) t h).1 (one_first types o)
      has_first (two a o b c) t ok h = subst (λ z. HasFirst types z) (two_typed o (type_of s b) (type_of s c) t h).4 (answer_first types o)
      has_first (choose a b c d) t ok h = has_first c t ok.1.0 (if_typed (type_of s b) (type_of s c) (type_of s d) t h).1
      has_first (pre a b) t ok h = has_first b t ok h
      has_first (fby a b c) t ok h = has_first b t ok.0 (pair_typed (type_of s b) (type_of s c) t h).0
      has_first (arrow a b c) t ok h = has_first b t ok.0 (pair_typed (type_of s b) (type_of s c) t h).0
      has_first (when_is a b c x) t ok h = has_first b t ok (when_typed _ _ t h)
      has_first (merge a x ps) t ok h = parts_first ps (lookup s.variables x) t ok.1 h
      has_first (call a f i es) t ok h =
          let q = call_outputs (lookup s.nodes f) (types_in s es) t h in
          let there : DeclsHaveFirsts types (q.2.0 ∷ []) = subst (DeclsHaveFirsts types) q.2.1 (callees f q.0 (sym ok.0 ∙ q.1)) in
          subst (λ z. HasFirst types z) q.2.2 there.0

      parts_first : (ps : Parts) (name : Option Ty) (t : Ty) → PartsSound types among s lasts ps → merge_type s name ps ≡ Some t → HasFirst types t
      parts_first no_part name t ok h = absurd (cc)
      parts_first (more_parts c e ps) name t ok h = has_first e t ok.0 (merge_typed s name (more_parts c e ps) t h).0

    undefined_fits : (e : Expr) → ExprSound types among s lasts e → (o : Option Ty) → type_of s e ≡ o → UndefinedFits types false (λ given. given) fits o (first_of k o)
    undefined_fits e ok None h = tt
    undefined_fits e ok (Some t) h = value_of types t false (first_value (flat_type k.types t)) (good t (has_first e t ok h))

    mutual
      expr_fits : (e : Expr) → ExprSound types among s lasts e → ExprGiven types false (λ given. given) fits s e (expr_firsts k callee s e)
      expr_fits (constant a c) ok = tt
      expr_fits (variable a x) ok = tt
      expr_fits (last_of a x) ok = tt
      expr_fits (one a o b) ok = expr_fits b ok
      expr_fits (two a o b c) ok = (expr_fits b ok.0, expr_fits c ok.1)
      expr_fits (choose a b c d) ok = (expr_fits b ok.0, (expr_fits c ok.1.0, expr_fits d ok.1.1))
      expr_fits (pre a b) ok = (undefined_fits b ok (type_of s b) refl, expr_fits b ok)
      expr_fits (fby a b c) ok = (expr_fits b ok.0, expr_fits c ok.1)
      expr_fits (arrow a b c) ok = (expr_fits b ok.0, expr_fits c ok.1)
      expr_fits (when_is a b c x) ok = expr_fits b ok
      expr_fits (merge a x ps) ok = parts_fit ps ok.1
      expr_fits (call a f i es) ok = (exprs_fit es ok.1, instances f)

      exprs_fit : (es : Exprs) → ExprsSound types among s lasts es → ExprsGiven types false (λ given. given) fits s es (in_row (exprs_firsts k callee s es))
      exprs_fit no_expr ok = tt
      exprs_fit (more_exprs e es) ok = (expr_fits e ok.0, exprs_fit es ok.1)

      parts_fit : (ps : Parts) → PartsSound types among s lasts ps → PartsGiven types false (λ given. given) fits s ps (in_row (parts_firsts k callee s ps))
      parts_fit no_part ok = tt
      parts_fit (more_parts c e ps) ok = (expr_fits e ok.0, parts_fit ps ok.1)

    tests_fit : (ts : List Trans) → TestsSound types among s lasts ts → TestsGiven types false (λ given. given) fits s ts (in_row (tests_firsts k callee s ts))
    tests_fit [] ok = tt
    tests_fit (t ∷ ts) ok = (expr_fits t.cond ok.0.0, tests_fit ts ok.1)

    told_fits : (o : Option Expr) → ToldSound types among s lasts o → ToldGiven types false (λ given. given) fits s o (told_firsts k callee s o)
    told_fits None ok = tt
    told_fits (Some e) ok = expr_fits e ok.0

    right_fits : (ys : List (List ℕ × Span)) (e : Expr) → RightSound types among s lasts ys e → ExprSound types among s lasts e
    right_fits ys (constant a c) ok = ok.0
    right_fits ys (variable a x) ok = ok.0
    right_fits ys (last_of a x) ok = ok.0
    right_fits ys (one a o b) ok = ok.0
    right_fits ys (two a o b c) ok = ok.0
    right_fits ys (choose a b c d) ok = ok.0
    right_fits ys (pre a b) ok = ok.0
    right_fits ys (fby a b c) ok = ok.0
    right_fits ys (arrow a b c) ok = ok.0
    right_fits ys (when_is a b c x) ok = ok.0
    right_fits ys (merge a x ps) ok = ok.0
    right_fits ys (call a f i es) ok = ok.0

  -- inside a block
  known_inside : (b : Block) (s : Scope) (lasts : Lasts) → HaveFirsts types s → BlockSound types among s lasts b → BlockHasFirsts types b → HaveFirsts types (inside s b)
  known_inside (block ds es) s lasts known ok f = firsts_inside types s ds (declared_types types among (with_variables s ds) es ds ok.0) f.0 known

  mutual
    block_fits : (b : Block) (s : Scope) (lasts : Lasts) → HaveFirsts types s → BlockSound types among s lasts b → BlockHasFirsts types b → BlockGiven types false (λ given. given) fits s b (block_firsts k callee s b)
    block_fits (block ds es) s lasts known ok f = eqns_fit es (with_variables s ds) (lasts_in ds lasts) (known_inside (block ds es) s lasts known ok f) ok.1.1 f.1

    eqns_fit : (es : Eqns) (s : Scope) (lasts : Lasts) → HaveFirsts types s → EqnsSound types among s lasts es → EqnsHaveFirsts types es → EqnsGiven types false (λ given. given) fits s es (eqns_firsts k callee s es)
    eqns_fit no_eqn s lasts known ok f = tt
    eqns_fit (more_eqns e es) s lasts known ok f = (eqn_fits e s lasts known ok.0 f.0, eqns_fit es s lasts known ok.1 f.1)

    eqn_fits : (e : Eqn) (s : Scope) (lasts : Lasts) → HaveFirsts types s → EqnSound types among s lasts e → EqnHasFirsts types e → EqnGiven types false (λ given. given) fits s e (eqn_firsts k callee s e)
    eqn_fits (define a ys e) s lasts known ok f = expr_fits s lasts known e (right_fits s lasts known ys e ok)
    eqn_fits (switch a e arms) s lasts known ok f = (expr_fits s lasts known e ok.0, arms_fit arms (switch a e arms) s lasts known ok.1.1 f)
    eqn_fits (reset a b e) s lasts known ok f = (expr_fits s lasts known e ok.0.0, block_fits b s lasts known ok.1 f)
    eqn_fits (automaton a ss) s lasts known ok f = states_fit ss (automaton a ss) s lasts known ok f

    arms_fit : (arms : Arms) (e : Eqn) (s : Scope) (lasts : Lasts) → HaveFirsts types s → ArmsSound types among e s lasts arms → ArmsHaveFirsts types arms → ArmsGiven types false (λ given. given) fits s arms (arms_firsts k callee s arms)
    arms_fit no_arm e s lasts known ok f = tt
    arms_fit (more_arms c b a arms) e s lasts known ok f = (block_fits b s lasts known ok.1.0 f.0, arms_fit arms e s lasts known ok.1.1 f.1)

    states_fit : (ss : States) (e : Eqn) (s : Scope) (lasts : Lasts) → HaveFirsts types s → StatesSound types among e s lasts ss → StatesHaveFirsts types ss → StatesGiven types false (λ given. given) fits s ss (states_firsts k callee s ss)
    states_fit no_state e s lasts known ok f = tt
    states_fit (more_states q b until unless a ss) e s lasts known ok f = (
      block_fits b s lasts known ok.1.0 f.0,
      (
        tests_fit (inside s b) (lasts_of b lasts) (known_inside b s lasts known ok.1.0 f.0) until ok.1.1.0,
        (tests_fit s lasts known unless ok.1.1.1.0, states_fit ss e s lasts known ok.1.1.1.1 f.1),
      ),
    )

  contract_fits : (c : Option Contract) (controls body : Instant) (s : Scope) (lasts : Lasts) → HaveFirsts types s → ContractSound types among s lasts c → ContractHasFirsts types c → ContractGiven types false (λ given. given) fits s c (in_parts controls body (contract_firsts k callee s c))
  contract_fits None controls body s lasts known ok f = tt
  contract_fits (Some c) controls body s lasts known ok f =
      let own = known_inside c.body s lasts known ok.0 f in (
        block_fits c.body s lasts known ok.0 f,
        (told_fits (inside s c.body) (lasts_of c.body lasts) own c.assume ok.1.0, told_fits (inside s c.body) (lasts_of c.body lasts) own c.enforce ok.1.1),
      )

  controls_fit : (ds : List Decl) → DeclsHaveFirsts types ds → ControlsGiven types false (λ given. given) fits ds (in_row (controls_firsts k callee ds))
  controls_fit [] f = tt
  controls_fit (d ∷ ds) f = (good d.ty f.0, controls_fit ds f.1)

  pub node_fits : (s : Scope) (n : Node) → s.variables ≡ [] → NodeSound types among s n → NodeHasFirsts types n → NodeGiven types false (λ given. given) fits s n (node_firsts k callee s n)
  node_fits s n e ok f =
      let inputs = with_variables s n.inputs in
      let outer = inside_node s n in
      let none : HaveFirsts types s = λ x t h. absurd (let z : None ≡ Some t = ap (λ vs. lookup vs x) (sym e) ∙ h in cc) in
      let seen : HaveFirsts types outer = two_lists types s n.inputs n.outputs (owned types among outer n.inputs ok.0.0) (owned types among outer n.outputs ok.0.1) f.inputs f.outputs none in
      let own : HaveFirsts types (body_scope s n) = firsts_inside types outer (controls_of n.contract) (owned types among (body_scope s n) (controls_of n.contract) ok.1.1.0) f.controls seen in (
        (controls_fit (controls_of n.contract) f.controls, block_fits n.body (body_scope s n) (lasts_in n.outputs no_lasts) own ok.1.1.1.1.0 f.body),
        contract_fits n.contract (in_row (controls_firsts k callee (controls_of n.contract))) (block_firsts k callee (body_scope s n) n.body) outer (lasts_in n.outputs no_lasts) seen ok.1.1.1.1.1 f.contract,
      )
