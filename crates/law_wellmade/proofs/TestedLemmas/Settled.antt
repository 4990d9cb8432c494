-- Tests fit in a node with its shortest clocks, where they fit among the names around them and the node is sound.
use Rattle.std.proofs.Common.{◌≡◌, inl, inr, ℕ, List, [], ◌∷◌, map, reverse, refl, sym, ap, subst, ◌∙◌}
use Rattle.std.specs.Prelude.{Bool, true, false, ◌||◌, if◌then◌else◌, IsTrue, IsFalse, Option, None, Some}
use Rattle.std.proofs.lemmas.Slice.Eq.{bytes_eq-Decides}
use Rattle.hp_base.specs.declared.span.Span.{Span}
use Rattle.hp_base.specs.declared.ty.Ty.{Ty}
use Rattle.hp_base.specs.declared.ty.Ty.TheVariants as ty
use Rattle.hp_base.specs.declared.ty.Const.TheVariants as const
use Rattle.hp_tree.specs.declared.decl.Cons.{Cons}
use Rattle.hp_tree.specs.declared.decl.Cons.TheVariants as cons
use Rattle.hp_tree.specs.declared.block.Trans.{Trans}
use Rattle.hp_tree.specs.declared.expr.Op1.{Op1}
use Rattle.hp_tree.specs.declared.expr.Op1.TheVariants.{Not, Neg}
use Rattle.hp_tree.specs.declared.expr.Op2.{Op2}
use Rattle.hp_tree.specs.declared.expr.Op2.TheVariants as op2
use Rattle.hp_tree.specs.Expressions.{Expr, constant, variable, last_of, one, two, choose, pre, fby, arrow, when_is, merge, call, Exprs, no_expr, more_exprs, Parts, no_part, more_parts}
use Rattle.hp_tree.specs.Blocks.{Decl, Block, block, Eqns, no_eqn, more_eqns, Eqn, define, switch, reset, automaton, Arms, no_arm, more_arms, States, no_state, more_states}
use Rattle.hp_tree.specs.Programs.{TypeDecl, Contract, Node}
use Rattle.hp_tree.specs.Instant.{Clock, Place, Body, Equations, Head, Tail, Arms as ArmsOf, States as StatesOf}
use Rattle.hp_tree.specs.Meaning.{declares, controls_of}
use Rattle.hp_tree.specs.Values.{constructors_of}
use Rattle.hp_base.specs.Known.Known.{lookup, with_entry}
use Rattle.hp_typing.specs.Scopes.{with_variables, inside_node}
use Rattle.hp_typing.specs.Types.{type_of, types_in, cons_type, enum_of, same_type, agrees, args_fit, type_of_one, answer, single, outputs_in}
use Rattle.hp_typing.specs.Definitions.{same_cons}
use Rattle.law_judged.specs.Typed.Scopes.{Scope}
use Rattle.hp_meaning.specs.Causal.Sources.{below}
use Rattle.hp_meaning.specs.Clocking.Terms.{value, IsShortest}
use Rattle.hp_meaning.specs.Clocking.Clocking.{Assignment, IsAllowed, local_term, with_clock, base_written, with_clocks, all_with_clocks, one_with_clocks, arms_with_clocks, states_with_clocks, in_body, contract_with_clocks, node_with_clocks}
use Rattle.law_judged.specs.Named.Scoped.{Names, no_names, also, interface, BlockScoped, EqnsScoped, EqnScoped, ArmsScoped, StatesScoped, NodeScoped}
use Rattle.law_values.specs.Valued.Judged.{Lasts, lasts_in, no_lasts, is_named, of_parts, of_arms, body_scope, Covers, HaveOwnTypes, RightSound, TestsSound, BlockSound, EqnsSound, EqnSound, ArmsSound, StatesSound, NodeSound}
use Rattle.law_values.proofs.ValuedLemmas.Scoped.{still_known, not_declared}
use Rattle.law_values.proofs.ValuedLemmas.Typed.{agreed, where_is, some_is, one_typed, two_typed, if_typed, pair_typed, when_typed, call_typed, row_typed, merge_typed, PartsHave, arg_typed}
use Rattle.law_values.proofs.AcceptedLemmas.Views.{entry_cases, own_types}
use Rattle.law_automata.specs.Readied.Constants.{DeclTypes, BlockTypes, EqnsTypes, EqnTypes, ArmsTypes, StatesTypes}
use Rattle.law_automata.specs.Readied.Sound.{HasOne}
use Rattle.law_wellmade.specs.Timely.Tested.{ConstructorsDiffer, AreApart, ConsIs, ConsAre, ClockTested}
use Rattle.law_wellmade.proofs.TimelyLemmas.KindLaws.{In, to_contains}
use Rattle.law_wellmade.proofs.TimelyLemmas.DifferLaws.{Grounds, cons_is}
use Rattle.law_wellmade.specs.Tested.Fits.{DeclsFit, BlockFits, EqnsFit, EqnFits, ArmsFit, StatesFit, NodeFits}
use Rattle.law_wellmade.specs.Tested.Around.{Around, Declares, among, AllConses, PathAround, WrittenAround, DeclsAround, BlockAround, EqnsAround, EqnAround, ArmsAround, StatesAround, interface_of, NodeAround}
use Rattle.law_wellmade.proofs.TestedLemmas.Standing.{AllConses as Alike, merge_conses}
use Rattle.law_wellmade.proofs.TestedLemmas.GoodClocks.{Good, AllGood, ExprGood, ExprsGood, PartsGood, TestsGood, WrittenGood, DeclsGood, BlockGood, EqnsGood, EqnGood, ArmsGood, StatesGood, LocalsGood, BlockHas, EqnsHave, EqnHas, ArmsHave, StatesHave, reversed, clocks_good}
use Rattle.law_wellmade.proofs.TestedLemmas.JudgedAround.{More, more_variables, cons_more}
use Rattle.law_wellmade.proofs.TestedLemmas.FullTypes.{Full, NodeFull, one_home}

-- ---- agreement

same_self : (t : Ty) → IsTrue (same_type t t)
same_self ty.Bool = refl
same_self ty.Int = refl
same_self (ty.Enum t) = (bytes_eq-Decides t t).1 refl

agree : (o p : Option Ty) (t : Ty) → o ≡ Some t → p ≡ Some t → IsTrue (agrees o p)
agree o p t e f = subst (λ z. IsTrue (agrees z p)) (sym e) (subst (λ z. IsTrue (agrees (Some t) z)) (sym f) (same_self t))

-- ---- scopes of declarations whose clocks alone are written

scope_written : (g : Decl → Decl) → ((d : Decl) → (g d).name ≡ d.name) → ((d : Decl) → (g d).ty ≡ d.ty) → (ds : List Decl) (s : Scope) → with_variables s (map g ds) ≡ with_variables s ds
scope_written g n t [] s = refl
scope_written g n t (d ∷ ds) s =
    ap (λ z. with_variables (record s { variables = z }) (map g ds)) (λ i. with_entry s.variables (n d i) (t d i)) ∙ scope_written g n t ds (record s { variables = with_entry s.variables d.name d.ty })

local_written : (at : Assignment) (es : Eqns) (here : Place → Place) (ds : List Decl) (s : Scope) → with_variables s (map (with_clock at es here) ds) ≡ with_variables s ds
local_written at es here ds s = scope_written (with_clock at es here) (λ d. refl) (λ d. refl) ds s

arms_same : (at : Assignment) (here : Place → Place) (arms : Arms) → of_arms (arms_with_clocks at here arms) ≡ of_arms arms
arms_same at here no_arm = refl
arms_same at here (more_arms c b s arms) = ap (λ cs. c ∷ cs) (arms_same at (below Tail here) arms)

-- ---- names around and scopes

abbrev Told : Around → Scope → Type 0
Told G s = (x : List ℕ) (t : Ty) → G x t → lookup s.variables x ≡ Some t

abbrev Unknown : Names → Scope → Type 0
Unknown seen s = (x : List ℕ) → IsFalse (seen x) → lookup s.variables x ≡ None

told_own : (types : List TypeDecl) (nodes : List ℕ → Option Node) (s : Scope) (ds : List Decl) → HaveOwnTypes types nodes s ds → (x : List ℕ) (t : Ty) → Declares ds x t → lookup s.variables x ≡ Some t
told_own types nodes s [] o x t h = absurd h
told_own types nodes s (d ∷ ds) o x t (inl h) = subst (λ z. lookup s.variables z ≡ Some t) h.0 (o.0 ∙ ap Some h.1)
told_own types nodes s (d ∷ ds) o x t (inr h) = told_own types nodes s ds o.1 x t h

neither : (a b : Bool) → IsFalse (a || b) → IsFalse a × IsFalse b
neither true b h = absurd (cc)
neither false b h = (refl, h)

unknown_more : (seen : Names) (s : Scope) (ds : List Decl) → Unknown seen s → Unknown (also seen ds) (with_variables s ds)
unknown_more seen s ds u x h = let q = neither (declares ds x) (seen x) h in not_declared x ds s q.0 ∙ u x q.1

told_more : (types : List TypeDecl) (nodes : List ℕ → Option Node) (seen own : Names) (G : Around) (s : Scope) (ds : List Decl) (es : Eqns) → BlockScoped seen own (block ds es) → Unknown seen s → Told G s → Told (among G ds) (with_variables s ds)
told_more types nodes seen own G s ds es sc u w x t (inl h) = told_own types nodes (with_variables s ds) ds (own_types types nodes ds s sc.0 (λ y q. u y (unseen (seen y) refl (sc.1 y q)))) x t h
  where
    unseen : {y : List ℕ} (b : Bool) → seen y ≡ b → (seen y ≡ true → ⊥) → seen y ≡ false
    unseen true e f = absurd (f e)
    unseen false e f = e
told_more types nodes seen own G s ds es sc u w x t (inr h) = still_known x ds s t (w x t h)

module _ (types : List TypeDecl) (known : Scope) (ground : Grounds types known) (differ : ConstructorsDiffer types) (nodes : List ℕ → Option Node) where
  -- a step whose constructor is of the type of its name
  abbrev fitting : Scope → Good
  fitting s on = agrees (lookup s.variables on.1) (cons_type known on.0)

  path_good : (G : Around) (s : Scope) → Told G s → (path : Clock) → PathAround known G path → AllGood (fitting s) path
  path_good G s w [] h = tt
  path_good G s w (step ∷ path) h = (agree (lookup s.variables step.1) (cons_type known step.0) h.0.0 (w step.1 h.0.0 h.0.1.0) h.0.1.1, path_good G s w path h.1)

  written_good : (G : Around) (s : Scope) → Told G s → (o : Option Clock) → WrittenAround known G o → WrittenGood (fitting s) o
  written_good G s w None h = tt
  written_good G s w (Some path) h = path_good G s w path h

  decls_good : (G : Around) (s : Scope) → Told G s → (ds : List Decl) → DeclsAround known G ds → DeclsGood (fitting s) ds
  decls_good G s w [] h = tt
  decls_good G s w (d ∷ ds) h = (written_good G s w d.clock h.0, decls_good G s w ds h.1)

  -- ---- expressions that are typed

  module _ (s : Scope) (more : More known s) where
    mutual
      expr_good : (e : Expr) (t : Ty) → type_of s e ≡ Some t → ExprGood (fitting s) e
      expr_good (constant a c) t q = tt
      expr_good (variable a x) t q = tt
      expr_good (last_of a x) t q = tt
      expr_good (one a o d) t q = expr_good d _ (one_typed _ (type_of s d) t q).0
      expr_good (two a o d e) t q = let y = two_typed o (type_of s d) (type_of s e) t q in (expr_good d y.0 y.2, expr_good e y.0 y.3)
      expr_good (choose a d e f) t q = let y = if_typed (type_of s d) (type_of s e) (type_of s f) t q in (expr_good d ty.Bool y.0, (expr_good e t y.1, expr_good f t y.2))
      expr_good (pre a d) t q = expr_good d t q
      expr_good (fby a d e) t q = let y = pair_typed (type_of s d) (type_of s e) t q in (expr_good d t y.0, expr_good e t y.1)
      expr_good (arrow a d e) t q = let y = pair_typed (type_of s d) (type_of s e) t q in (expr_good d t y.0, expr_good e t y.1)
      expr_good (when_is a d c x) t q =
          let y = agreed (lookup s.variables x) (cons_type s c) (where_is (agrees (lookup s.variables x) (cons_type s c)) (type_of s d) t q).0 in
          (agree (lookup s.variables x) (cons_type known c) y.0 y.1 (cons_more known s more c y.0 y.2), expr_good d t (when_typed _ _ t q))
      expr_good (merge a x ps) t q =
          let m = merge_conses s (lookup s.variables x) ps t q in
          parts_good x m.0 m.1 ps t (subst (λ o. Alike s o (of_parts ps)) m.1 m.2) (merge_typed s (lookup s.variables x) ps t q)
      expr_good (call a f inlined es) t q = let y = call_typed (lookup s.nodes f) (types_in s es) t q in exprs_good es y.0.inputs y.2

      exprs_good : (es : Exprs) (ds : List Decl) → IsTrue (args_fit ds (types_in s es)) → ExprsGood (fitting s) es
      exprs_good no_expr ds q = tt
      exprs_good (more_exprs e es) [] q = absurd (cc)
      exprs_good (more_exprs e es) (d ∷ ds) q = let y = arg_typed d ds (type_of s e) (types_in s es) q in (expr_good e d.ty y.0, exprs_good es ds y.1)

      parts_good : (x : List ℕ) (u : Ty) → lookup s.variables x ≡ Some u → (ps : Parts) (t : Ty) → Alike s (Some u) (of_parts ps) → PartsHave s t ps → PartsGood (fitting s) x ps
      parts_good x u l no_part t a q = tt
      parts_good x u l (more_parts c e ps) t a q = (agree (lookup s.variables x) (cons_type known c) u l (cons_more known s more c u a.0), (expr_good e t q.0, parts_good x u l ps t a.1 q.1))

    right_good : (lasts : Lasts) (ys : List (List ℕ × Span)) (e : Expr) → RightSound types nodes s lasts ys e → ExprGood (fitting s) e
    right_good lasts ys (call a f inlined es) ok = let y = row_typed (lookup s.nodes f) (types_in s es) ok.1.0 ok.1.1.0 in exprs_good es y.0.inputs y.2
    right_good lasts ys (constant a c) ok = tt
    right_good lasts ys (variable a x) ok = tt
    right_good lasts ys (last_of a x) ok = tt
    right_good lasts ys (one a o d) ok = expr_good (one a o d) ok.1.0 ok.1.1.0
    right_good lasts ys (two a o d e) ok = expr_good (two a o d e) ok.1.0 ok.1.1.0
    right_good lasts ys (choose a d e f) ok = expr_good (choose a d e f) ok.1.0 ok.1.1.0
    right_good lasts ys (pre a d) ok = expr_good (pre a d) ok.1.0 ok.1.1.0
    right_good lasts ys (fby a d e) ok = expr_good (fby a d e) ok.1.0 ok.1.1.0
    right_good lasts ys (arrow a d e) ok = expr_good (arrow a d e) ok.1.0 ok.1.1.0
    right_good lasts ys (when_is a d c x) ok = expr_good (when_is a d c x) ok.1.0 ok.1.1.0
    right_good lasts ys (merge a x ps) ok = expr_good (merge a x ps) ok.1.0 ok.1.1.0

    tests_good : (lasts : Lasts) (ts : List Trans) → TestsSound types nodes s lasts ts → TestsGood (fitting s) ts
    tests_good lasts [] ok = tt
    tests_good lasts (t ∷ ts) ok = (expr_good t.cond ty.Bool ok.0.1, tests_good lasts ts ok.1)

  -- ---- blocks use good steps alone

  module _ (at : Assignment) where
    mutual
      block_good : (b : Block) (here : Place → Place) (s : Scope) (seen own : Names) (G : Around) (lasts : Lasts) → More known s → Told G s → Unknown seen s → BlockScoped seen own b → BlockAround known G b → BlockSound types nodes s lasts (with_clocks at here b) → BlockGood fitting s b
      block_good (block ds es) here s seen own G lasts more w u sc a ok =
          let s' = with_variables s ds in
          let w' = told_more types nodes seen own G s ds es sc u w in
          let inner = subst (λ z. EqnsSound types nodes z (lasts_in (map (with_clock at es here) ds) lasts) (all_with_clocks at (below Equations here) es)) (local_written at es here ds s) ok.1.1 in
          (decls_good (among G ds) s' w' ds a.0, eqns_good es (below Equations here) s' (also seen ds) (also own ds) (among G ds) (lasts_in (map (with_clock at es here) ds) lasts) (more_variables known ds s more) w' (unknown_more seen s ds u) sc.3 a.1 inner)

      eqns_good : (es : Eqns) (here : Place → Place) (s : Scope) (seen own : Names) (G : Around) (lasts : Lasts) → More known s → Told G s → Unknown seen s → EqnsScoped seen own es → EqnsAround known G es → EqnsSound types nodes s lasts (all_with_clocks at here es) → EqnsGood fitting s es
      eqns_good no_eqn here s seen own G lasts more w u sc a ok = tt
      eqns_good (more_eqns e es) here s seen own G lasts more w u sc a ok =
          (eqn_good e (below Head here) s seen own G lasts more w u sc.0 a.0 ok.0, eqns_good es (below Tail here) s seen own G lasts more w u sc.1 a.1 ok.1)

      eqn_good : (e : Eqn) (here : Place → Place) (s : Scope) (seen own : Names) (G : Around) (lasts : Lasts) → More known s → Told G s → Unknown seen s → EqnScoped seen own e → EqnAround known G e → EqnSound types nodes s lasts (one_with_clocks at here e) → EqnGood fitting s e
      eqn_good (define p ys e) here s seen own G lasts more w u sc a ok = right_good s more lasts ys e ok
      eqn_good (switch p e arms) here s seen own G lasts more w u sc a ok =
          (expr_good s more e ok.1.0.0 ok.1.0.1.0, arms_good arms (below ArmsOf here) (switch p e (arms_with_clocks at (below ArmsOf here) arms)) s seen own G lasts more w u sc a.1.1 ok.1.1)
      eqn_good (reset p b e) here s seen own G lasts more w u sc a ok = (block_good b (below Body here) s seen own G lasts more w u sc a.1 ok.1, expr_good s more e ty.Bool ok.0.1)
      eqn_good (automaton p ss) here s seen own G lasts more w u sc a ok = states_good ss (below StatesOf here) (automaton p (states_with_clocks at (below StatesOf here) ss)) s seen own G lasts more w u sc a ok

      arms_good : (arms : Arms) (here : Place → Place) (z : Eqn) (s : Scope) (seen own : Names) (G : Around) (lasts : Lasts) → More known s → Told G s → Unknown seen s → ArmsScoped seen own arms → ArmsAround known G arms → ArmsSound types nodes z s lasts (arms_with_clocks at here arms) → ArmsGood fitting s arms
      arms_good no_arm here z s seen own G lasts more w u sc a ok = tt
      arms_good (more_arms c b p arms) here z s seen own G lasts more w u sc a ok =
          (block_good b (below Head here) s seen own G lasts more w u sc.0 a.0 ok.1.0, arms_good arms (below Tail here) z s seen own G lasts more w u sc.1 a.1 ok.1.1)

      states_good : (ss : States) (here : Place → Place) (z : Eqn) (s : Scope) (seen own : Names) (G : Around) (lasts : Lasts) → More known s → Told G s → Unknown seen s → StatesScoped seen own ss → StatesAround known G ss → StatesSound types nodes z s lasts (states_with_clocks at here ss) → StatesGood fitting s ss
      states_good no_state here z s seen own G lasts more w u sc a ok = tt
      states_good (more_states f (block ds es) until unless p ss) here z s seen own G lasts more w u sc a ok =
          let h = below Body (below Head here) in
          let ds' = map (with_clock at es h) ds in
          let inner = subst (λ r. TestsSound types nodes r (lasts_in ds' lasts) until) (local_written at es h ds s) ok.1.1.0 in (
            block_good (block ds es) h s seen own G lasts more w u sc.0 a.0 ok.1.0,
            (tests_good (with_variables s ds) (more_variables known ds s more) (lasts_in ds' lasts) until inner, (tests_good s more lasts unless ok.1.1.1.0, states_good ss (below Tail here) z s seen own G lasts more w u sc.1 a.1.1.1 ok.1.1.1.1)),
          )

  -- ---- types of what is tested have constructors

  abbrev pub Rich : Scope → Type 0
  Rich s = ((x : List ℕ) (t : Ty) → lookup s.variables x ≡ Some t → Full types t) × ((f : List ℕ) (m : Node) → lookup s.nodes f ≡ Some m → DeclTypes (Full types) m.outputs)

  rich_more : (ds : List Decl) (s : Scope) → DeclTypes (Full types) ds → Rich s → Rich (with_variables s ds)
  rich_more [] s h r = r
  rich_more (d ∷ ds) s h r =
      rich_more ds (record s { variables = with_entry s.variables d.name d.ty }) h.1
      ((λ x t k. entry_cases s.variables d.name d.ty x t k (λ l. r.0 x t l) (λ e q z. subst (Full types) q h.0)), r.1)

  one_full : (o : Op1) → Full types (type_of_one o)
  one_full Not = tt
  one_full Neg = tt

  has_one : (xs : List (List ℕ)) (c : List ℕ) → In xs c → HasOne xs
  has_one [] c h = h
  has_one (x ∷ xs) c h = tt

  enum_full : (s : Scope) → More known s → (c : List ℕ) (t : Ty) → enum_of (lookup s.constructors c) ≡ Some t → Full types t
  enum_full s more c t h = by (lookup s.constructors c) refl h
    where
      by : (o : Option (List ℕ)) → lookup s.constructors c ≡ o → enum_of o ≡ Some t → Full types t
      by None e k = absurd (cc)
      by (Some v) e k =
          let q = ground.known c v (more c v e) in
          subst (Full types) (some_is (ty.Enum v) t k) (subst HasOne (sym q.3) (has_one q.0.cons c q.2))

  answer_full : (o : Op2) → Full types (answer o)
  answer_full op2.And = tt
  answer_full op2.Or = tt
  answer_full op2.Xor = tt
  answer_full op2.Imp = tt
  answer_full op2.Eq = tt
  answer_full op2.Ne = tt
  answer_full op2.Lt = tt
  answer_full op2.Le = tt
  answer_full op2.Gt = tt
  answer_full op2.Ge = tt
  answer_full op2.Add = tt
  answer_full op2.Sub = tt
  answer_full op2.Mul = tt
  answer_full op2.Div = tt
  answer_full op2.Rem = tt

  call_full : (o : Option Node) (ts : List (Option Ty)) (t : Ty) → single (outputs_in o ts) ≡ Some t → ((m : Node) → o ≡ Some m → DeclTypes (Full types) m.outputs) → Full types t
  call_full None ts t h f = absurd (cc)
  call_full (Some n) ts t h f = by (args_fit n.inputs ts) h
    where
      one : (ds : List Decl) → DeclTypes (Full types) ds → single (Some ds) ≡ Some t → Full types t
      one [] k h = absurd (cc)
      one (d ∷ []) k h = subst (Full types) (some_is d.ty t h) k.0
      one (d ∷ e ∷ ds) k h = absurd (cc)

      by : (b : Bool) → single (if b then Some n.outputs else None) ≡ Some t → Full types t
      by true h = one n.outputs (f n refl) h
      by false h = absurd (cc)

  type_full : (s : Scope) → More known s → Rich s → (e : Expr) (t : Ty) → type_of s e ≡ Some t → Full types t
  type_full s more r (constant a (const.B b)) t q = subst (Full types) (some_is ty.Bool t q) tt
  type_full s more r (constant a (const.I n)) t q = subst (Full types) (some_is ty.Int t q) tt
  type_full s more r (constant a (const.E c)) t q = enum_full s more c t q
  type_full s more r (variable a x) t q = r.0 x t q
  type_full s more r (last_of a x) t q = r.0 x t q
  type_full s more r (one a o d) t q = subst (Full types) (one_typed _ (type_of s d) t q).1 (one_full o)
  type_full s more r (two a o d e) t q = subst (Full types) (two_typed o (type_of s d) (type_of s e) t q).4 (answer_full o)
  type_full s more r (choose a d e f) t q = type_full s more r e t (if_typed (type_of s d) (type_of s e) (type_of s f) t q).1
  type_full s more r (pre a d) t q = type_full s more r d t q
  type_full s more r (fby a d e) t q = type_full s more r d t (pair_typed (type_of s d) (type_of s e) t q).0
  type_full s more r (arrow a d e) t q = type_full s more r d t (pair_typed (type_of s d) (type_of s e) t q).0
  type_full s more r (when_is a d c x) t q = type_full s more r d t (when_typed _ _ t q)
  type_full s more r (merge a x no_part) t q = absurd (cc)
  type_full s more r (merge a x (more_parts c e ps)) t q = type_full s more r e t (merge_typed s (lookup s.variables x) (more_parts c e ps) t q).0
  type_full s more r (call a f i es) t q = call_full (lookup s.nodes f) (types_in s es) t q (λ m k. r.1 f m k)

  -- ---- the arms are of the type of what is tested

  same_is : (c d : Cons) → same_cons c d ≡ true → c ≡ d
  same_is cons.False cons.False h = refl
  same_is cons.True cons.True h = refl
  same_is (cons.Named x) (cons.Named y) h = ap cons.Named ((bytes_eq-Decides x y).0 h)
  same_is cons.False cons.True h = absurd (cc)
  same_is cons.True cons.False h = absurd (cc)
  same_is cons.False (cons.Named y) h = absurd (cc)
  same_is cons.True (cons.Named y) h = absurd (cc)
  same_is (cons.Named x) cons.False h = absurd (cc)
  same_is (cons.Named x) cons.True h = absurd (cc)

  conses_named : (cs : List Cons) (c : Cons) (t : Ty) → IsTrue (is_named cs c) → AllConses known t cs → cons_type known c ≡ Some t
  conses_named [] c t h a = absurd (cc)
  conses_named (d ∷ cs) c t h a = by (same_cons c d) refl h (λ k. conses_named cs c t k a.1)
    where
      by : (b : Bool) → same_cons c d ≡ b → IsTrue (b || is_named cs c) → (IsTrue (is_named cs c) → cons_type known c ≡ Some t) → cons_type known c ≡ Some t
      by true e h f = ap (cons_type known) (same_is c d e) ∙ a.0
      by false e h f = f h

  kind_same : (u t : Ty) (cs : List Cons) → Full types u → Covers types u cs → AllConses known t cs → t ≡ u
  kind_same ty.Bool t cs f c a = sym (some_is ty.Bool t (conses_named cs cons.True t c.1 a))
  kind_same ty.Int t cs f c a = absurd c
  kind_same (ty.Enum w) t cs f c a = by (constructors_of types w) refl f
    where
      found : (x : List ℕ) → In (constructors_of types w) x → (o : Option (List ℕ)) → lookup known.constructors x ≡ o → enum_of o ≡ Some t → t ≡ ty.Enum w
      found x there None e k = absurd (cc)
      found x there (Some v) e k =
          let q = ground.known x v e in
          let same : w ≡ v = one_home types w v x differ there (subst (λ z. In z x) (sym q.3) q.2) in
          sym (some_is (ty.Enum v) t k) ∙ ap ty.Enum (sym same)

      by : (xs : List (List ℕ)) → constructors_of types w ≡ xs → HasOne xs → t ≡ ty.Enum w
      by [] e h = absurd h
      by (x ∷ xs) e h =
          let there : In (constructors_of types w) x = subst (λ z. In z x) (sym e) (inl refl) in
          found x there (lookup known.constructors x) refl (conses_named cs (cons.Named x) t (c x (to_contains (constructors_of types w) x there)) a)

  conses_are : (t : Ty) (cs : List Cons) → AllConses known t cs → ConsAre types (Some t) cs
  conses_are t [] a = tt
  conses_are t (c ∷ cs) a = (cons_is types known ground c t a.0, conses_are t cs a.1)

  -- ---- blocks with their clocks

  steps_fit : (s : Scope) (clock : Clock) → AllGood (fitting s) clock → ClockTested types s clock
  steps_fit s [] h = tt
  steps_fit s (step ∷ clock) h =
      let y = agreed (lookup s.variables step.1) (cons_type known step.0) h.0 in
      (subst (λ z. ConsIs types z step.0) (sym y.1) (cons_is types known ground step.0 y.0 y.2), steps_fit s clock h.1)

  module _ (at : Assignment) where
    locals_fit : (es : Eqns) (here : Place → Place) (s : Scope) (ds : List Decl) → LocalsGood fitting at (fitting s) es here ds → DeclsFit types s (map (with_clock at es here) ds)
    locals_fit es here s [] h = tt
    locals_fit es here s (d ∷ ds) h = (steps_fit s (reverse (value at (local_term es here d))) (reversed (fitting s) (value at (local_term es here d)) h.0), locals_fit es here s ds h.1)

    mutual
      block_fits : (b : Block) (here : Place → Place) (s : Scope) (G : Around) (lasts : Lasts) → More known s → Rich s → BlockTypes (Full types) b → BlockAround known G b → BlockSound types nodes s lasts (with_clocks at here b) → BlockHas fitting at s here b → BlockFits types s (with_clocks at here b)
      block_fits (block ds es) here s G lasts more r f a ok has =
          let s' = with_variables s ds in
          let ds' = map (with_clock at es here) ds in
          let es' = all_with_clocks at (below Equations here) es in
          let inner = subst (λ z. EqnsSound types nodes z (lasts_in ds' lasts) es') (local_written at es here ds s) ok.1.1 in
          subst (λ z. DeclsFit types z ds' × EqnsFit types z es') (sym (local_written at es here ds s))
          (locals_fit es here s' ds has.0, eqns_fit es (below Equations here) s' (among G ds) (lasts_in ds' lasts) (more_variables known ds s more) (rich_more ds s f.0 r) f.1 a.1 inner has.1)

      eqns_fit : (es : Eqns) (here : Place → Place) (s : Scope) (G : Around) (lasts : Lasts) → More known s → Rich s → EqnsTypes (Full types) es → EqnsAround known G es → EqnsSound types nodes s lasts (all_with_clocks at here es) → EqnsHave fitting at s here es → EqnsFit types s (all_with_clocks at here es)
      eqns_fit no_eqn here s G lasts more r f a ok has = tt
      eqns_fit (more_eqns e es) here s G lasts more r f a ok has = (eqn_fits e (below Head here) s G lasts more r f.0 a.0 ok.0 has.0, eqns_fit es (below Tail here) s G lasts more r f.1 a.1 ok.1 has.1)

      eqn_fits : (e : Eqn) (here : Place → Place) (s : Scope) (G : Around) (lasts : Lasts) → More known s → Rich s → EqnTypes (Full types) e → EqnAround known G e → EqnSound types nodes s lasts (one_with_clocks at here e) → EqnHas fitting at s here e → EqnFits types s (one_with_clocks at here e)
      eqn_fits (define p ys e) here s G lasts more r f a ok has = a
      eqn_fits (switch p e arms) here s G lasts more r f a ok has =
          let h = below ArmsOf here in
          let arms' = arms_with_clocks at h arms in
          let u = ok.1.0.0 in
          let q = ok.1.0.1.0 in
          let same = arms_same at h arms in
          let t = a.1.0.0 in
          let all = a.1.0.1.0 in
          let e1 : t ≡ u = kind_same u t (of_arms arms) (type_full s more r e u q) (subst (Covers types u) same ok.1.0.1.1) all in
          let fit : ConsAre types (Some u) (of_arms arms) = subst (λ z. ConsAre types (Some z) (of_arms arms)) e1 (conses_are t (of_arms arms) all) in
          (a.0, ((u, (q, subst (λ cs. ConsAre types (Some u) cs × AreApart cs) (sym same) (fit, a.1.0.1.1))), arms_fit arms h (switch p e arms') s G lasts more r f a.1.1 ok.1.1 has))
      eqn_fits (reset p b e) here s G lasts more r f a ok has = (a.0, block_fits b (below Body here) s G lasts more r f a.1 ok.1 has)
      eqn_fits (automaton p ss) here s G lasts more r f a ok has = states_fit ss (below StatesOf here) (automaton p (states_with_clocks at (below StatesOf here) ss)) s G lasts more r f a ok has

      arms_fit : (arms : Arms) (here : Place → Place) (z : Eqn) (s : Scope) (G : Around) (lasts : Lasts) → More known s → Rich s → ArmsTypes (Full types) arms → ArmsAround known G arms → ArmsSound types nodes z s lasts (arms_with_clocks at here arms) → ArmsHave fitting at s here arms → ArmsFit types s (arms_with_clocks at here arms)
      arms_fit no_arm here z s G lasts more r f a ok has = tt
      arms_fit (more_arms c b p arms) here z s G lasts more r f a ok has = (block_fits b (below Head here) s G lasts more r f.0 a.0 ok.1.0 has.0, arms_fit arms (below Tail here) z s G lasts more r f.1 a.1 ok.1.1 has.1)

      states_fit : (ss : States) (here : Place → Place) (z : Eqn) (s : Scope) (G : Around) (lasts : Lasts) → More known s → Rich s → StatesTypes (Full types) ss → StatesAround known G ss → StatesSound types nodes z s lasts (states_with_clocks at here ss) → StatesHave fitting at s here ss → StatesFit types s (states_with_clocks at here ss)
      states_fit no_state here z s G lasts more r f a ok has = tt
      states_fit (more_states x b until unless p ss) here z s G lasts more r f a ok has =
          (block_fits b (below Body (below Head here)) s G lasts more r f.0 a.0 ok.1.0 has.0, (a.1.0, (a.1.1.0, states_fit ss (below Tail here) z s G lasts more r f.1 a.1.1.1 ok.1.1.1.1 has.1)))

  -- ---- nodes

  base_same : (ds : List Decl) (s : Scope) → with_variables s (map base_written ds) ≡ with_variables s ds
  base_same ds s = scope_written base_written (λ d. refl) (λ d. refl) ds s

  controls_written : (at : Assignment) (o : Option Contract) → controls_of (contract_with_clocks at o) ≡ map base_written (controls_of o)
  controls_written at None = refl
  controls_written at (Some c) = refl

  body_same : (at : Assignment) (m : Node) (s : Scope) → body_scope s (node_with_clocks at m) ≡ body_scope s m
  body_same at m s =
      let C = controls_of (contract_with_clocks at m.contract) in
      ap (λ z. with_variables (with_variables z (map base_written m.outputs)) C) (base_same m.inputs s) ∙ ap (λ z. with_variables z C) (base_same m.outputs (with_variables s m.inputs))
      ∙ ap (λ cs. with_variables (inside_node s m) cs) (controls_written at m.contract) ∙ base_same (controls_of m.contract) (inside_node s m)

  told_base : (s : Scope) (ds : List Decl) → HaveOwnTypes types nodes s (map base_written ds) → (x : List ℕ) (t : Ty) → Declares ds x t → lookup s.variables x ≡ Some t
  told_base s [] o x t h = absurd h
  told_base s (d ∷ ds) o x t (inl h) = subst (λ z. lookup s.variables z ≡ Some t) h.0 (o.0 ∙ ap Some h.1)
  told_base s (d ∷ ds) o x t (inr h) = told_base s ds o.1 x t h

  pub node_settled : (at : Assignment) (m : Node) (s : Scope) → IsShortest (IsAllowed m) at → NodeAround known m → NodeScoped m → NodeFull types m → NodeSound types nodes s (node_with_clocks at m) → More known s → Rich s → ((x : List ℕ) → lookup s.variables x ≡ None)
      → NodeFits types s (node_with_clocks at m)
  node_settled at m s short a sc full ok more rich empty =
      let cs = controls_of m.contract in
      let in_inputs = with_variables s m.inputs in
      let r = body_scope s m in
      let same = body_same at m s in
      let lasts = lasts_in (map base_written m.outputs) no_lasts in
      let b' = with_clocks at in_body m.body in
      let sound : BlockSound types nodes r lasts b' = subst (λ z. BlockSound types nodes z lasts b') same ok.1.1.1.1.0 in
      let own_in : HaveOwnTypes types nodes r (map base_written m.inputs) = subst (λ z. HaveOwnTypes types nodes z (map base_written m.inputs)) same ok.1.0.0 in
      let own_out : HaveOwnTypes types nodes r (map base_written m.outputs) = subst (λ z. HaveOwnTypes types nodes z (map base_written m.outputs)) same ok.1.0.1 in
      let own_con : HaveOwnTypes types nodes r (map base_written cs) = subst (λ z. HaveOwnTypes types nodes r z) (controls_written at m.contract) (subst (λ z. HaveOwnTypes types nodes z (controls_of (contract_with_clocks at m.contract))) same ok.1.1.0) in
      let seen = also (interface m) cs in
      let own = also no_names m.outputs in
      let G = among (interface_of m) cs in
      let unknown : Unknown seen r = unknown_more (interface m) (inside_node s m) cs (unknown_more (also no_names m.inputs) in_inputs m.outputs (unknown_more no_names s m.inputs (λ x h. empty x))) in
      let more_r : More known r = more_variables known cs (inside_node s m) (more_variables known m.outputs in_inputs (more_variables known m.inputs s more)) in
      let rich_r : Rich r = rich_more cs (inside_node s m) full.1 (rich_more m.outputs in_inputs full.0.1.0 (rich_more m.inputs s full.0.0 rich)) in
      let good = block_good at m.body in_body r seen own G lasts more_r (told own_in own_out own_con) unknown sc.body a.1 sound in
      let has = clocks_good fitting r m at good short in
      subst (λ z. BlockFits types z b') (sym same) (block_fits at m.body in_body r G lasts more_r rich_r full.0.1.1.1 a.1 sound has)
    where
      told : HaveOwnTypes types nodes (body_scope s m) (map base_written m.inputs) → HaveOwnTypes types nodes (body_scope s m) (map base_written m.outputs) → HaveOwnTypes types nodes (body_scope s m) (map base_written (controls_of m.contract)) → Told (among (interface_of m) (controls_of m.contract)) (body_scope s m)
      told i o c x t (inl h) = told_base (body_scope s m) (controls_of m.contract) c x t h
      told i o c x t (inr (inl h)) = told_base (body_scope s m) m.outputs o x t h
      told i o c x t (inr (inr (inl h))) = told_base (body_scope s m) m.inputs i x t h
      told i o c x t (inr (inr (inr h))) = absurd h
