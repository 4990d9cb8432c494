-- What is sound and calls nothing stays so whatever nodes are known.
use Rattle.std.proofs.Common.{◌≡◌, ℕ, List, [], ◌∷◌, refl, sym, ap, ap₂, subst, ◌∙◌}
use Rattle.std.specs.Prelude.{◌&&◌, Option, Some}
use Rattle.hp_base.specs.declared.span.Span.{Span}
use Rattle.hp_base.specs.declared.ty.Ty.{Ty}
use Rattle.hp_base.specs.declared.ty.Const.{Const}
use Rattle.hp_base.specs.declared.ty.Const.TheVariants as const
use Rattle.hp_tree.specs.declared.decl.Cons.{Cons}
use Rattle.hp_tree.specs.declared.decl.Cons.TheVariants as cons
use Rattle.hp_tree.specs.declared.block.Trans.{Trans}
use Rattle.hp_tree.specs.Expressions.{Expr, constant, variable, last_of, one, two, choose, pre, fby, arrow, when_is, merge, call, Parts, no_part, more_parts}
use Rattle.hp_tree.specs.Blocks.{Decl, Block, block, Eqns, no_eqn, more_eqns, Eqn, define, switch, reset, automaton, Arms, no_arm, more_arms, States, no_state, more_states}
use Rattle.hp_tree.specs.Programs.{TypeDecl, Node}
use Rattle.hp_base.specs.Known.Known.{lookup, with_entry}
use Rattle.hp_typing.specs.Scopes.{with_variables, inside}
use Rattle.hp_typing.specs.Types.{agrees, chooses, where_true, two_type, if_type, pair_type, constant_type, cons_type, type_of_one, type_of, merge_type, parts_fit}
use Rattle.law_judged.specs.Named.Scopes.{Scope}
use Rattle.law_values.specs.Valued.Judged.{Lasts, lasts_in, lasts_of, LeftsHave, ExprSound, PartsSound, RightSound, TestSound, TestsSound, DeclsSound, BlockSound, EqnsSound, EqnSound, ArmsSound, StatesSound}
use Rattle.law_drawing.proofs.SteeredLemmas.Uncalled.{CallsNothing, PartsCallNothing, ConditionsCallNothing, BlockCallsNothing, EqnsCallNothing, EqnCallsNothing, ArmsCallNothing, StatesCallNothing}

lefts_have : (s r : Scope) → r.variables ≡ s.variables → (ys : List (List ℕ × Span)) (t : Ty) → LeftsHave s ys t → LeftsHave r ys t
lefts_have s r v [] t h = tt
lefts_have s r v (y ∷ ys) t h = (ap (λ z. lookup z y.0) v ∙ h.0, lefts_have s r v ys t h.1)

module _ (types : List TypeDecl) (among before : List ℕ → Option Node) (ns : List (List ℕ × Node)) where
  abbrev pub to : Scope → Scope
  to s = record s { nodes = ns }

  pub to_more : (ds : List Decl) (s : Scope) → with_variables (to s) ds ≡ to (with_variables s ds)
  to_more [] s = refl
  to_more (d ∷ ds) s = to_more ds (record s { variables = with_entry s.variables d.name d.ty })

  constant_same : (s : Scope) (c : Const) → constant_type (to s) c ≡ constant_type s c
  constant_same s (const.B b) = refl
  constant_same s (const.I n) = refl
  constant_same s (const.E c) = refl

  cons_same : (s : Scope) (c : Cons) → cons_type (to s) c ≡ cons_type s c
  cons_same s cons.False = refl
  cons_same s cons.True = refl
  cons_same s (cons.Named c) = refl

  mutual
    pub type_same : (s : Scope) (e : Expr) → CallsNothing e → type_of (to s) e ≡ type_of s e
    type_same s (constant at c) a = constant_same s c
    type_same s (variable at x) a = refl
    type_same s (last_of at x) a = refl
    type_same s (one at o e) a = ap (λ z. where_true (agrees (Some (type_of_one o)) z) (Some (type_of_one o))) (type_same s e a)
    type_same s (two at o e f) a = ap₂ (λ y z. two_type o y z) (type_same s e a.0) (type_same s f a.1)
    type_same s (choose at e f g) a =
        let x = type_same s e a.0 in
        let y = type_same s f a.1 in
        let z = type_same s g a.2 in
        λ i. if_type (x i) (y i) (z i)
    type_same s (pre at e) a = type_same s e a
    type_same s (fby at e f) a = ap₂ (λ y z. pair_type y z) (type_same s e a.0) (type_same s f a.1)
    type_same s (arrow at e f) a = ap₂ (λ y z. pair_type y z) (type_same s e a.0) (type_same s f a.1)
    type_same s (when_is at e c x) a = ap₂ (λ k z. where_true (agrees (lookup s.variables x) k) z) (cons_same s c) (type_same s e a)
    type_same s (merge at x ps) a = merge_same s (lookup s.variables x) ps a
    type_same s (call at f i es) a = absurd a

    merge_same : (s : Scope) (name : Option Ty) (ps : Parts) → PartsCallNothing ps → merge_type (to s) name ps ≡ merge_type s name ps
    merge_same s name no_part a = refl
    merge_same s name (more_parts c e ps) a =
        let t : type_of (to s) e ≡ type_of s e = type_same s e a.0 in
        let q : parts_fit (to s) name (type_of (to s) e) ps ≡ parts_fit s name (type_of s e) ps = ap (λ z. parts_fit (to s) name z ps) t ∙ parts_same s name (type_of s e) ps a.1 in
        let k : cons_type (to s) c ≡ cons_type s c = cons_same s c in
        λ i. where_true (chooses name && (agrees name (k i) && q i)) (t i)

    parts_same : (s : Scope) (name first : Option Ty) (ps : Parts) → PartsCallNothing ps → parts_fit (to s) name first ps ≡ parts_fit s name first ps
    parts_same s name first no_part a = refl
    parts_same s name first (more_parts c e ps) a =
        let t : type_of (to s) e ≡ type_of s e = type_same s e a.0 in
        let q : parts_fit (to s) name first ps ≡ parts_fit s name first ps = parts_same s name first ps a.1 in
        let k : cons_type (to s) c ≡ cons_type s c = cons_same s c in
        λ i. agrees name (k i) && (agrees first (t i) && q i)

  -- ---- expressions

  module _ (s : Scope) (lasts : Lasts) where
    mutual
      expr_to : (e : Expr) → CallsNothing e → ExprSound types among s lasts e → ExprSound types before (to s) lasts e
      expr_to (constant at c) a h = λ t k. h t (sym (constant_same s c) ∙ k)
      expr_to (variable at x) a h = tt
      expr_to (last_of at x) a h = h
      expr_to (one at o e) a h = expr_to e a h
      expr_to (two at o e f) a h = (expr_to e a.0 h.0, expr_to f a.1 h.1)
      expr_to (choose at e f g) a h = (expr_to e a.0 h.0, (expr_to f a.1 h.1.0, expr_to g a.2 h.1.1))
      expr_to (pre at e) a h = expr_to e a h
      expr_to (fby at e f) a h = (expr_to e a.0 h.0, expr_to f a.1 h.1)
      expr_to (arrow at e f) a h = (expr_to e a.0 h.0, expr_to f a.1 h.1)
      expr_to (when_is at e c x) a h = expr_to e a h
      expr_to (merge at x ps) a h = (h.0, parts_to ps a h.1)
      expr_to (call at f i es) a h = absurd a

      parts_to : (ps : Parts) → PartsCallNothing ps → PartsSound types among s lasts ps → PartsSound types before (to s) lasts ps
      parts_to no_part a h = tt
      parts_to (more_parts c e ps) a h = (expr_to e a.0 h.0, parts_to ps a.1 h.1)

    abbrev Plainly : List (List ℕ × Span) → Expr → Type 0
    Plainly ys e = ExprSound types among s lasts e × ((t : Ty) × ((type_of s e ≡ Some t) × LeftsHave s ys t))

    plainly : (ys : List (List ℕ × Span)) (e : Expr) → CallsNothing e → Plainly ys e → ExprSound types before (to s) lasts e × ((t : Ty) × ((type_of (to s) e ≡ Some t) × LeftsHave (to s) ys t))
    plainly ys e a h = (expr_to e a h.0, (h.1.0, (type_same s e a ∙ h.1.1.0, lefts_have s (to s) refl ys h.1.0 h.1.1.1)))

    right_to : (ys : List (List ℕ × Span)) (e : Expr) → CallsNothing e → RightSound types among s lasts ys e → RightSound types before (to s) lasts ys e
    right_to ys (constant at c) a h = plainly ys (constant at c) a h
    right_to ys (variable at x) a h = plainly ys (variable at x) a h
    right_to ys (last_of at x) a h = plainly ys (last_of at x) a h
    right_to ys (one at o e) a h = plainly ys (one at o e) a h
    right_to ys (two at o e f) a h = plainly ys (two at o e f) a h
    right_to ys (choose at e f g) a h = plainly ys (choose at e f g) a h
    right_to ys (pre at e) a h = plainly ys (pre at e) a h
    right_to ys (fby at e f) a h = plainly ys (fby at e f) a h
    right_to ys (arrow at e f) a h = plainly ys (arrow at e f) a h
    right_to ys (when_is at e c x) a h = plainly ys (when_is at e c x) a h
    right_to ys (merge at x ps) a h = plainly ys (merge at x ps) a h
    right_to ys (call at f i es) a h = absurd a

    pub test_to : (e : Expr) → CallsNothing e → TestSound types among s lasts e → TestSound types before (to s) lasts e
    test_to e a h = (expr_to e a h.0, type_same s e a ∙ h.1)

    tests_to : (ts : List Trans) → ConditionsCallNothing ts → TestsSound types among s lasts ts → TestsSound types before (to s) lasts ts
    tests_to [] a h = tt
    tests_to (t ∷ ts) a h = (test_to t.cond a.0 h.0, tests_to ts a.1 h.1)

  -- ---- blocks

  decls_to : (s : Scope) (es : Eqns) (ds : List Decl) → DeclsSound types among s es ds → DeclsSound types before (to s) es ds
  decls_to s es [] h = tt
  decls_to s es (d ∷ ds) h = (h.0, decls_to s es ds h.1)

  until_to : (b : Block) (s : Scope) (lasts : Lasts) (ts : List Trans) → ConditionsCallNothing ts → TestsSound types among (inside s b) (lasts_of b lasts) ts → TestsSound types before (inside (to s) b) (lasts_of b lasts) ts
  until_to (block ds es) s lasts ts a h = subst (λ z. TestsSound types before z (lasts_in ds lasts) ts) (sym (to_more ds s)) (tests_to (with_variables s ds) (lasts_in ds lasts) ts a h)

  mutual
    pub block_to : (b : Block) (s : Scope) (lasts : Lasts) → BlockCallsNothing b → BlockSound types among s lasts b → BlockSound types before (to s) lasts b
    block_to (block ds es) s lasts a h =
        let r = with_variables s ds in (
          subst (λ z. DeclsSound types before z es ds) (sym (to_more ds s)) (decls_to r es ds h.0),
          (h.1.0, subst (λ z. EqnsSound types before z (lasts_in ds lasts) es) (sym (to_more ds s)) (eqns_to es r (lasts_in ds lasts) a h.1.1)),
        )

    pub eqns_to : (es : Eqns) (s : Scope) (lasts : Lasts) → EqnsCallNothing es → EqnsSound types among s lasts es → EqnsSound types before (to s) lasts es
    eqns_to no_eqn s lasts a h = tt
    eqns_to (more_eqns e es) s lasts a h = (eqn_to e s lasts a.0 h.0, eqns_to es s lasts a.1 h.1)

    eqn_to : (e : Eqn) (s : Scope) (lasts : Lasts) → EqnCallsNothing e → EqnSound types among s lasts e → EqnSound types before (to s) lasts e
    eqn_to (define w ys e) s lasts a h = right_to s lasts ys e a h
    eqn_to (switch w e arms) s lasts a h =
        (expr_to s lasts e a.0 h.0, ((h.1.0.0, (type_same s e a.0 ∙ h.1.0.1.0, h.1.0.1.1)), arms_to (switch w e arms) arms s lasts a.1 h.1.1))
    eqn_to (reset w b e) s lasts a h = (test_to s lasts e a.1 h.0, block_to b s lasts a.0 h.1)
    eqn_to (automaton w ss) s lasts a h = states_to (automaton w ss) ss s lasts a h

    arms_to : (e : Eqn) (arms : Arms) (s : Scope) (lasts : Lasts) → ArmsCallNothing arms → ArmsSound types among e s lasts arms → ArmsSound types before e (to s) lasts arms
    arms_to e no_arm s lasts a h = tt
    arms_to e (more_arms c b w arms) s lasts a h = (h.0, (block_to b s lasts a.0 h.1.0, arms_to e arms s lasts a.1 h.1.1))

    states_to : (e : Eqn) (ss : States) (s : Scope) (lasts : Lasts) → StatesCallNothing ss → StatesSound types among e s lasts ss → StatesSound types before e (to s) lasts ss
    states_to e no_state s lasts a h = tt
    states_to e (more_states f b until unless w ss) s lasts a h =
        (h.0, (block_to b s lasts a.0 h.1.0, (until_to b s lasts until a.1 h.1.1.0, (tests_to s lasts unless a.2 h.1.1.1.0, states_to e ss s lasts a.3 h.1.1.1.1))))
