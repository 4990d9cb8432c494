-- A sound node, whose parts are tidy, uses steps of clocks alone whose constructors are of the types of their names.
use Rattle.std.proofs.Common.{◌≡◌, inl, inr, ℕ, List, [], ◌∷◌, map, refl, sym, ap, subst, ◌∙◌}
use Rattle.std.specs.Prelude.{Bool, true, false, ◌||◌, IsTrue, IsFalse, Option, None, Some}
use Rattle.std.proofs.lemmas.Slice.Eq.{bytes_eq-Decides}
use Rattle.hp_base.specs.declared.span.Span.{Span}
use Rattle.hp_base.specs.declared.ty.Ty.{Ty}
use Rattle.hp_base.specs.declared.ty.Ty.TheVariants as ty
use Rattle.hp_tree.specs.declared.block.Trans.{Trans}
use Rattle.hp_tree.specs.Expressions.{Expr, constant, variable, last_of, one, two, choose, pre, fby, arrow, when_is, merge, call, Exprs, no_expr, more_exprs, Parts, no_part, more_parts}
use Rattle.hp_tree.specs.Blocks.{Decl, Block, block, Eqns, no_eqn, more_eqns, Eqn, define, switch, reset, automaton, Arms, no_arm, more_arms, States, no_state, more_states}
use Rattle.hp_tree.specs.Programs.{TypeDecl, Contract, Node}
use Rattle.hp_tree.specs.Instant.{Clock, Place, Body, Equations, Head, Tail, Arms as ArmsOf, States as StatesOf}
use Rattle.hp_tree.specs.Meaning.{declares}
use Rattle.hp_base.specs.Known.Known.{lookup, with_entry}
use Rattle.hp_typing.specs.Scopes.{with_variables, inside}
use Rattle.hp_typing.specs.Types.{type_of, types_in, cons_type, same_type, agrees, args_fit}
use Rattle.law_judged.specs.Typed.Scopes.{Scope}
use Rattle.hp_meaning.specs.Causal.Sources.{below}
use Rattle.hp_meaning.specs.Clocking.Clocking.{Assignment, with_clock, with_clocks, all_with_clocks, one_with_clocks, arms_with_clocks, states_with_clocks, in_observer, contract_with_clocks}
use Rattle.law_judged.specs.Named.Scoped.{Names, no_names, also, BlockScoped, EqnsScoped, EqnScoped, ArmsScoped, StatesScoped, ContractScoped}
use Rattle.law_values.specs.Valued.Judged.{Lasts, lasts_in, lasts_of, of_parts, HaveOwnTypes, RightSound, TestsSound, ToldSound, BlockSound, EqnsSound, EqnSound, ArmsSound, StatesSound, ContractSound}
use Rattle.law_values.proofs.ValuedLemmas.Scoped.{still_known, not_declared}
use Rattle.law_values.proofs.ValuedLemmas.Typed.{where_is, one_typed, two_typed, if_typed, pair_typed, when_typed, call_typed, row_typed, merge_typed, PartsHave, arg_typed}
use Rattle.law_values.proofs.AcceptedLemmas.Views.{own_types}
use Rattle.law_wellmade.specs.Tested.Around.{Around, Declares, among, PathAround, WrittenAround, DeclsAround}
use Rattle.law_wellmade.proofs.TestedLemmas.Standing.{AllConses as Alike, merge_conses}
use Rattle.law_wellmade.proofs.TestedLemmas.GoodClocks.{Good, AllGood, ExprGood, ExprsGood, PartsGood, TestsGood, ToldGood, WrittenGood, DeclsGood, BlockGood, EqnsGood, EqnGood, ArmsGood, StatesGood}
use Rattle.law_drawing.specs.Drawable.Tidy.{BlockTidy, EqnsTidy, EqnTidy, ArmsTidy, StatesTidy, ContractTidy}
use Rattle.law_drawing.proofs.DrawableLemmas.Judged.{Same, same_more, cons_same}
use Rattle.law_drawing.proofs.DrawableLemmas.GoodSteps.{ContractGood}

-- ---- agreement

same_self : (t : Ty) → IsTrue (same_type t t)
same_self ty.Bool = refl
same_self ty.Int = refl
same_self (ty.Enum t) = (bytes_eq-Decides t t).1 refl

pub agree : (o p : Option Ty) (t : Ty) → o ≡ Some t → p ≡ Some t → IsTrue (agrees o p)
agree o p t e f = subst (λ z. IsTrue (agrees z p)) (sym e) (subst (λ z. IsTrue (agrees (Some t) z)) (sym f) (same_self t))

-- a step whose constructor is of the type of its name
abbrev pub fitting : Scope → Good
fitting s on = agrees (lookup s.variables on.1) (cons_type s on.0)

-- ---- scopes of declarations whose clocks alone are written

pub scope_written : (g : Decl → Decl) → ((d : Decl) → (g d).name ≡ d.name) → ((d : Decl) → (g d).ty ≡ d.ty) → (ds : List Decl) (s : Scope) → with_variables s (map g ds) ≡ with_variables s ds
scope_written g n t [] s = refl
scope_written g n t (d ∷ ds) s =
    ap (λ z. with_variables (record s { variables = z }) (map g ds)) (λ i. with_entry s.variables (n d i) (t d i)) ∙ scope_written g n t ds (record s { variables = with_entry s.variables d.name d.ty })

pub local_written : (at : Assignment) (es : Eqns) (here : Place → Place) (ds : List Decl) (s : Scope) → with_variables s (map (with_clock at es here) ds) ≡ with_variables s ds
local_written at es here ds s = scope_written (with_clock at es here) (λ d. refl) (λ d. refl) ds s

-- ---- names around and scopes

abbrev pub Told : Around → Scope → Type 0
Told G s = (x : List ℕ) (t : Ty) → G x t → lookup s.variables x ≡ Some t

abbrev pub Unknown : Names → Scope → Type 0
Unknown seen s = (x : List ℕ) → IsFalse (seen x) → lookup s.variables x ≡ None

told_own : (types : List TypeDecl) (nodes : List ℕ → Option Node) (s : Scope) (ds : List Decl) → HaveOwnTypes types nodes s ds → (x : List ℕ) (t : Ty) → Declares ds x t → lookup s.variables x ≡ Some t
told_own types nodes s [] o x t h = absurd h
told_own types nodes s (d ∷ ds) o x t (inl h) = subst (λ z. lookup s.variables z ≡ Some t) h.0 (o.0 ∙ ap Some h.1)
told_own types nodes s (d ∷ ds) o x t (inr h) = told_own types nodes s ds o.1 x t h

neither : (a b : Bool) → IsFalse (a || b) → IsFalse a × IsFalse b
neither true b h = absurd (cc)
neither false b h = (refl, h)

pub unknown_more : (seen : Names) (s : Scope) (ds : List Decl) → Unknown seen s → Unknown (also seen ds) (with_variables s ds)
unknown_more seen s ds u x h = let q = neither (declares ds x) (seen x) h in not_declared x ds s q.0 ∙ u x q.1

told_more : (types : List TypeDecl) (nodes : List ℕ → Option Node) (seen own : Names) (G : Around) (s : Scope) (ds : List Decl) (es : Eqns) → BlockScoped seen own (block ds es) → Unknown seen s → Told G s → Told (among G ds) (with_variables s ds)
told_more types nodes seen own G s ds es sc u w x t (inl h) = told_own types nodes (with_variables s ds) ds (own_types types nodes ds s sc.0 (λ y q. u y (unseen (seen y) refl (sc.1 y q)))) x t h
  where
    unseen : {y : List ℕ} (b : Bool) → seen y ≡ b → (seen y ≡ true → ⊥) → seen y ≡ false
    unseen true e f = absurd (f e)
    unseen false e f = e
told_more types nodes seen own G s ds es sc u w x t (inr h) = still_known x ds s t (w x t h)

module _ (known : Scope) where
  path_good : (G : Around) (s : Scope) → Same known s → Told G s → (path : Clock) → PathAround known G path → AllGood (fitting s) path
  path_good G s e w [] h = tt
  path_good G s e w (step ∷ path) h = (agree (lookup s.variables step.1) (cons_type s step.0) h.0.0 (w step.1 h.0.0 h.0.1.0) (cons_same known s e step.0 ∙ h.0.1.1), path_good G s e w path h.1)

  written_good : (G : Around) (s : Scope) → Same known s → Told G s → (o : Option Clock) → WrittenAround known G o → WrittenGood (fitting s) o
  written_good G s e w None h = tt
  written_good G s e w (Some path) h = path_good G s e w path h

  decls_good : (G : Around) (s : Scope) → Same known s → Told G s → (ds : List Decl) → DeclsAround known G ds → DeclsGood (fitting s) ds
  decls_good G s e w [] h = tt
  decls_good G s e w (d ∷ ds) h = (written_good G s e w d.clock h.0, decls_good G s e w ds h.1)

-- ---- expressions that are typed

module _ (s : Scope) where
  mutual
    expr_good : (e : Expr) (t : Ty) → type_of s e ≡ Some t → ExprGood (fitting s) e
    expr_good (constant a c) t q = tt
    expr_good (variable a x) t q = tt
    expr_good (last_of a x) t q = tt
    expr_good (one a o d) t q = expr_good d _ (one_typed _ (type_of s d) t q).0
    expr_good (two a o d e) t q = let y = two_typed o (type_of s d) (type_of s e) t q in (expr_good d y.0 y.2, expr_good e y.0 y.3)
    expr_good (choose a d e f) t q = let y = if_typed (type_of s d) (type_of s e) (type_of s f) t q in (expr_good d ty.Bool y.0, (expr_good e t y.1, expr_good f t y.2))
    expr_good (pre a d) t q = expr_good d t q
    expr_good (fby a d e) t q = let y = pair_typed (type_of s d) (type_of s e) t q in (expr_good d t y.0, expr_good e t y.1)
    expr_good (arrow a d e) t q = let y = pair_typed (type_of s d) (type_of s e) t q in (expr_good d t y.0, expr_good e t y.1)
    expr_good (when_is a d c x) t q = ((where_is (agrees (lookup s.variables x) (cons_type s c)) (type_of s d) t q).0, expr_good d t (when_typed _ _ t q))
    expr_good (merge a x ps) t q =
        let m = merge_conses s (lookup s.variables x) ps t q in
        parts_good x m.0 m.1 ps t (subst (λ o. Alike s o (of_parts ps)) m.1 m.2) (merge_typed s (lookup s.variables x) ps t q)
    expr_good (call a f inlined es) t q = let y = call_typed (lookup s.nodes f) (types_in s es) t q in exprs_good es y.0.inputs y.2

    exprs_good : (es : Exprs) (ds : List Decl) → IsTrue (args_fit ds (types_in s es)) → ExprsGood (fitting s) es
    exprs_good no_expr ds q = tt
    exprs_good (more_exprs e es) [] q = absurd (cc)
    exprs_good (more_exprs e es) (d ∷ ds) q = let y = arg_typed d ds (type_of s e) (types_in s es) q in (expr_good e d.ty y.0, exprs_good es ds y.1)

    parts_good : (x : List ℕ) (u : Ty) → lookup s.variables x ≡ Some u → (ps : Parts) (t : Ty) → Alike s (Some u) (of_parts ps) → PartsHave s t ps → PartsGood (fitting s) x ps
    parts_good x u l no_part t a q = tt
    parts_good x u l (more_parts c e ps) t a q = (agree (lookup s.variables x) (cons_type s c) u l a.0, (expr_good e t q.0, parts_good x u l ps t a.1 q.1))

module _ (types : List TypeDecl) (nodes : List ℕ → Option Node) where
  module _ (s : Scope) (lasts : Lasts) where
    right_good : (ys : List (List ℕ × Span)) (e : Expr) → RightSound types nodes s lasts ys e → ExprGood (fitting s) e
    right_good ys (call a f inlined es) ok = let y = row_typed (lookup s.nodes f) (types_in s es) ok.1.0 ok.1.1.0 in exprs_good s es y.0.inputs y.2
    right_good ys (constant a c) ok = tt
    right_good ys (variable a x) ok = tt
    right_good ys (last_of a x) ok = tt
    right_good ys (one a o d) ok = expr_good s (one a o d) ok.1.0 ok.1.1.0
    right_good ys (two a o d e) ok = expr_good s (two a o d e) ok.1.0 ok.1.1.0
    right_good ys (choose a d e f) ok = expr_good s (choose a d e f) ok.1.0 ok.1.1.0
    right_good ys (pre a d) ok = expr_good s (pre a d) ok.1.0 ok.1.1.0
    right_good ys (fby a d e) ok = expr_good s (fby a d e) ok.1.0 ok.1.1.0
    right_good ys (arrow a d e) ok = expr_good s (arrow a d e) ok.1.0 ok.1.1.0
    right_good ys (when_is a d c x) ok = expr_good s (when_is a d c x) ok.1.0 ok.1.1.0
    right_good ys (merge a x ps) ok = expr_good s (merge a x ps) ok.1.0 ok.1.1.0

    tests_good : (ts : List Trans) → TestsSound types nodes s lasts ts → TestsGood (fitting s) ts
    tests_good [] ok = tt
    tests_good (t ∷ ts) ok = (expr_good s t.cond ty.Bool ok.0.1, tests_good ts ok.1)

    told_good : (o : Option Expr) → ToldSound types nodes s lasts o → ToldGood (fitting s) o
    told_good None ok = tt
    told_good (Some e) ok = expr_good s e ty.Bool ok.1

  -- ---- blocks

  module _ (known : Scope) (at : Assignment) where
    mutual
      pub block_good : (b : Block) (here : Place → Place) (s : Scope) (seen own : Names) (G : Around) (lasts : Lasts) → Same known s → Told G s → Unknown seen s → BlockScoped seen own b → BlockTidy known G b → BlockSound types nodes s lasts (with_clocks at here b) → BlockGood fitting s b
      block_good (block ds es) here s seen own G lasts same w u sc a ok =
          let s' = with_variables s ds in
          let same' = same_more known s ds same in
          let w' = told_more types nodes seen own G s ds es sc u w in
          let inner = subst (λ z. EqnsSound types nodes z (lasts_in (map (with_clock at es here) ds) lasts) (all_with_clocks at (below Equations here) es)) (local_written at es here ds s) ok.1.1 in
          (decls_good known (among G ds) s' same' w' ds a.0, eqns_good es (below Equations here) s' (also seen ds) (also own ds) (among G ds) (lasts_in (map (with_clock at es here) ds) lasts) same' w' (unknown_more seen s ds u) sc.3 a.1 inner)

      eqns_good : (es : Eqns) (here : Place → Place) (s : Scope) (seen own : Names) (G : Around) (lasts : Lasts) → Same known s → Told G s → Unknown seen s → EqnsScoped seen own es → EqnsTidy known G es → EqnsSound types nodes s lasts (all_with_clocks at here es) → EqnsGood fitting s es
      eqns_good no_eqn here s seen own G lasts same w u sc a ok = tt
      eqns_good (more_eqns e es) here s seen own G lasts same w u sc a ok =
          (eqn_good e (below Head here) s seen own G lasts same w u sc.0 a.0 ok.0, eqns_good es (below Tail here) s seen own G lasts same w u sc.1 a.1 ok.1)

      eqn_good : (e : Eqn) (here : Place → Place) (s : Scope) (seen own : Names) (G : Around) (lasts : Lasts) → Same known s → Told G s → Unknown seen s → EqnScoped seen own e → EqnTidy known G e → EqnSound types nodes s lasts (one_with_clocks at here e) → EqnGood fitting s e
      eqn_good (define p ys e) here s seen own G lasts same w u sc a ok = right_good s lasts ys e ok
      eqn_good (switch p e arms) here s seen own G lasts same w u sc a ok =
          (expr_good s e ok.1.0.0 ok.1.0.1.0, arms_good arms (below ArmsOf here) (switch p e (arms_with_clocks at (below ArmsOf here) arms)) s seen own G lasts same w u sc a.1 ok.1.1)
      eqn_good (reset p b e) here s seen own G lasts same w u sc a ok = (block_good b (below Body here) s seen own G lasts same w u sc a ok.1, expr_good s e ty.Bool ok.0.1)
      eqn_good (automaton p ss) here s seen own G lasts same w u sc a ok = states_good ss (below StatesOf here) (automaton p (states_with_clocks at (below StatesOf here) ss)) s seen own G lasts same w u sc a.1 ok

      arms_good : (arms : Arms) (here : Place → Place) (z : Eqn) (s : Scope) (seen own : Names) (G : Around) (lasts : Lasts) → Same known s → Told G s → Unknown seen s → ArmsScoped seen own arms → ArmsTidy known G arms → ArmsSound types nodes z s lasts (arms_with_clocks at here arms) → ArmsGood fitting s arms
      arms_good no_arm here z s seen own G lasts same w u sc a ok = tt
      arms_good (more_arms c b p arms) here z s seen own G lasts same w u sc a ok =
          (block_good b (below Head here) s seen own G lasts same w u sc.0 a.0 ok.1.0, arms_good arms (below Tail here) z s seen own G lasts same w u sc.1 a.1 ok.1.1)

      states_good : (ss : States) (here : Place → Place) (z : Eqn) (s : Scope) (seen own : Names) (G : Around) (lasts : Lasts) → Same known s → Told G s → Unknown seen s → StatesScoped seen own ss → StatesTidy known G ss → StatesSound types nodes z s lasts (states_with_clocks at here ss) → StatesGood fitting s ss
      states_good no_state here z s seen own G lasts same w u sc a ok = tt
      states_good (more_states f (block ds es) until unless p ss) here z s seen own G lasts same w u sc a ok =
          let h = below Body (below Head here) in
          let ds' = map (with_clock at es h) ds in
          let inner = subst (λ r. TestsSound types nodes r (lasts_in ds' lasts) until) (local_written at es h ds s) ok.1.1.0 in (
            block_good (block ds es) h s seen own G lasts same w u sc.0 a.0 ok.1.0,
            (tests_good (with_variables s ds) (lasts_in ds' lasts) until inner, (tests_good s lasts unless ok.1.1.1.0, states_good ss (below Tail here) z s seen own G lasts same w u sc.1 a.1 ok.1.1.1.1)),
          )

    observer_good : (b : Block) (assume enforce : Option Expr) (s : Scope) (seen : Names) (G : Around) (lasts : Lasts) → Same known s → Told G s → Unknown seen s → BlockScoped seen no_names b → BlockTidy known G b → BlockSound types nodes s lasts (with_clocks at in_observer b)
        → ToldSound types nodes (inside s (with_clocks at in_observer b)) (lasts_of (with_clocks at in_observer b) lasts) assume → ToldSound types nodes (inside s (with_clocks at in_observer b)) (lasts_of (with_clocks at in_observer b) lasts) enforce
        → BlockGood fitting s b × (ToldGood (fitting (inside s b)) assume × ToldGood (fitting (inside s b)) enforce)
    observer_good (block ds es) assume enforce s seen G lasts same w u sc a ok oka oke =
        let ds' = map (with_clock at es in_observer) ds in
        let s' = with_variables s ds in
        let lasts' = lasts_in ds' lasts in
        let e = local_written at es in_observer ds s in (
          block_good (block ds es) in_observer s seen no_names G lasts same w u sc a ok,
          (told_good s' lasts' assume (subst (λ r. ToldSound types nodes r lasts' assume) e oka), told_good s' lasts' enforce (subst (λ r. ToldSound types nodes r lasts' enforce) e oke)),
        )

    pub contract_good : (o : Option Contract) (s : Scope) (seen : Names) (G : Around) (lasts : Lasts) → Same known s → Told G s → Unknown seen s → ContractScoped seen o → ContractTidy known G o → ContractSound types nodes s lasts (contract_with_clocks at o) → ContractGood fitting s o
    contract_good None s seen G lasts same w u sc a ok = tt
    contract_good (Some c) s seen G lasts same w u sc a ok = observer_good c.body c.assume c.enforce s seen G lasts same w u sc a ok.0 ok.1.0 ok.1.1
