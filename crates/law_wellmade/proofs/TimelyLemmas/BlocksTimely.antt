-- The places of a block without automata are there exactly where their clocks are, at one flat instant.
use Rattle.std.proofs.Common.{ℕ, List, [], ◌∷◌, refl, subst}
use Rattle.std.specs.Prelude.{Bool, false, IsTrue, Option}
use Rattle.hp_base.specs.declared.ty.Ty.TheVariants as ty
use Rattle.hp_base.specs.declared.span.Span.{Span}
use Rattle.hp_base.specs.declared.value.Value.{Value}
use Rattle.hp_tree.specs.declared.decl.Cons.{Cons}
use Rattle.hp_tree.specs.Expressions.{Expr}
use Rattle.hp_tree.specs.Blocks.{Decl, Block, block, Eqns, no_eqn, more_eqns, Eqn, define, switch, reset, automaton, Arms, no_arm, more_arms}
use Rattle.hp_tree.specs.Programs.{TypeDecl, Node}
use Rattle.hp_tree.specs.Operators.{constant_of, cons_of, is_cons, is_true}
use Rattle.hp_tree.specs.Instant.{Equations, Head, Tail, Right as RightOf, Test, Arms as ArmsOf, Body, Place, Instant, at, part, since as tree_since}
use Rattle.hp_tree.specs.Meaning.{Nodes, inside, within, lasts as lasts_said, clock_of}
use Rattle.hp_typing.specs.Scopes.{with_variables}
use Rattle.law_judged.specs.Typed.Scopes.{Scope as Known}
use Rattle.hp_init.specs.Classes.{Classes, Assignment}
use Rattle.hp_meaning.specs.Causal.Clocked.{Standing, standing_in}
use Rattle.law_equations.specs.Flattened.Flat.{Now, Behaviours, holds}
use Rattle.law_equations.specs.Flattened.Flatten.{FlatName, At, When, on, steps, Prefix, below, Scope, inside_at, within_at, restarts_at, lasts_at}
use Rattle.law_equations.specs.Flattened.Timely.{Along, expr_clocks, scope_clocks, equations_clocks, equation_clocks, arms_clocks, Lowered, AllLowered, OneLowered, ArmsLowered}
use Rattle.law_equations.proofs.FlattenedLemmas.PastLaws.{seen, along}
use Rattle.law_equations.proofs.FlattenedLemmas.ExpressionLaws.{and_true, given, at_given, Live, deeper, Remembers}
use Rattle.law_equations.proofs.FlattenedLemmas.BlockLaws.{names_eq, last_eq, scope_part, eqns_part, eqn_part, arms_part, lives_equations, live_arms, live_arm, live_body}
use Rattle.law_values.specs.Valued.Judged.{Lasts, lasts_in}
use Rattle.law_values.specs.Valued.Classed.{classes_in, classes_within}
use Rattle.law_values.specs.Valued.Given.{reading}
use Rattle.law_values.proofs.ValuedLemmas.Both.{BlockOk, EqnsOk, EqnOk, ArmsOk}
use Rattle.law_values.proofs.ValuedLemmas.ExprTops.{Callees}
use Rattle.law_wellmade.specs.Timely.Actual.{BlockHas, EqnsHave, EqnHas, ArmsHave}
use Rattle.law_wellmade.proofs.TimelyLemmas.Actual.{first}
use Rattle.law_wellmade.proofs.TimelyLemmas.Instants.{TimelyAt, timely_of_two, timely_block, timely_right, timely_arms, timely_body}
use Rattle.law_wellmade.proofs.TimelyLemmas.ExpressionsTimely.{expr_timely, right_timely}
use Rattle.law_wellmade.proofs.TimelyLemmas.OwnPasts.{within_eq, since_arm, since_body}

module _ (types : List TypeDecl) (N : Nodes) (among : List ℕ → Option Node) (fits allowed : List ℕ → Instant → Type 0) (known : Callees types false (reading first) N among fits allowed) (does : Behaviours) (fill : Place → Value) where
  -- ---- what is known of the parts of a block that is there

  pub has_equations : (ds : List Decl) (es : Eqns) (s : Known) (st : Standing) (second : Classes) (ls : Lasts) (class : Assignment) (sc lsc : Scope) (here : Prefix) (ck : When) (rs : List Place) (G : List (Now FlatName)) (i : Now FlatName) → Remembers G i → IsTrue (holds (steps ck) i)
      → BlockHas types fits s st second ls class (λ x. i (sc x)) (λ x. i (lsc x)) (given here ck rs G i) (block ds es) (seen here i)
      → EqnsHave types fits ds (with_variables s ds) (standing_in ds es st) (classes_in es second class) (lasts_in ds ls) (λ p. class (Equations ∷ p)) (λ x. i (inside_at es sc here x)) (λ x. i (lasts_at types ds lsc here ck rs x)) (given (below Equations here) ck rs G i) es (seen (below Equations here) i)
  has_equations ds es s st second ls class sc lsc here ck rs G i r t h =
      subst (λ names. EqnsHave types fits ds (with_variables s ds) (standing_in ds es st) (classes_in es second class) (lasts_in ds ls) (λ p. class (Equations ∷ p)) names (λ x. i (lasts_at types ds lsc here ck rs x)) (given (below Equations here) ck rs G i) es (seen (below Equations here) i)) (names_eq es sc here i)
      (subst (λ last. EqnsHave types fits ds (with_variables s ds) (standing_in ds es st) (classes_in es second class) (lasts_in ds ls) (λ p. class (Equations ∷ p)) (inside es (λ x. i (sc x)) (seen here i)) last (given (below Equations here) ck rs G i) es (seen (below Equations here) i)) (last_eq types ds lsc here ck rs G i r t)
      (subst (λ g. EqnsHave types fits ds (with_variables s ds) (standing_in ds es st) (classes_in es second class) (lasts_in ds ls) (λ p. class (Equations ∷ p)) (inside es (λ x. i (sc x)) (seen here i)) (lasts_said (constant_of types) ds (given here ck rs G i).past (λ x. i (lsc x))) g es (seen (below Equations here) i)) (at_given Equations here ck rs G i)
      h.1.1.1))

  pub has_head : (ds : List Decl) (e : Eqn) (es : Eqns) (s : Known) (st : Standing) (second : Classes) (ls : Lasts) (class : Assignment) (sc lsc : Scope) (here : Prefix) (ck : When) (rs : List Place) (G : List (Now FlatName)) (i : Now FlatName)
      → EqnsHave types fits ds s st second ls class (λ x. i (sc x)) (λ x. i (lsc x)) (given here ck rs G i) (more_eqns e es) (seen here i)
      → EqnHas types fits ds s st second ls (λ p. class (Head ∷ p)) (λ x. i (sc x)) (λ x. i (lsc x)) (given (below Head here) ck rs G i) e (seen (below Head here) i)
  has_head ds e es s st second ls class sc lsc here ck rs G i h =
      subst (λ g. EqnHas types fits ds s st second ls (λ p. class (Head ∷ p)) (λ x. i (sc x)) (λ x. i (lsc x)) g e (seen (below Head here) i)) (at_given Head here ck rs G i) h.0

  pub has_tail : (ds : List Decl) (e : Eqn) (es : Eqns) (s : Known) (st : Standing) (second : Classes) (ls : Lasts) (class : Assignment) (sc lsc : Scope) (here : Prefix) (ck : When) (rs : List Place) (G : List (Now FlatName)) (i : Now FlatName)
      → EqnsHave types fits ds s st second ls class (λ x. i (sc x)) (λ x. i (lsc x)) (given here ck rs G i) (more_eqns e es) (seen here i)
      → EqnsHave types fits ds s st second ls (λ p. class (Tail ∷ p)) (λ x. i (sc x)) (λ x. i (lsc x)) (given (below Tail here) ck rs G i) es (seen (below Tail here) i)
  has_tail ds e es s st second ls class sc lsc here ck rs G i h =
      subst (λ g. EqnsHave types fits ds s st second ls (λ p. class (Tail ∷ p)) (λ x. i (sc x)) (λ x. i (lsc x)) g es (seen (below Tail here) i)) (at_given Tail here ck rs G i) h.1

  pub has_arms : (o : Eqn) (arms : Arms) (s : Known) (st : Standing) (second : Classes) (ls : Lasts) (class : Assignment) (sc lsc : Scope) (here : Prefix) (ck : When) (rs : List Place) (G : List (Now FlatName)) (i : Now FlatName)
      → ArmsHave types fits s st second ls class (within o (λ x. i (sc x)) (λ x. i (lsc x))) (λ x. i (lsc x)) (at ArmsOf (given here ck rs G i)) (i (At (here (Test ∷ [])))) arms (part ArmsOf (seen here i))
      → ArmsHave types fits s st second ls class (λ x. i (within_at o sc lsc x)) (λ x. i (lsc x)) (given (below ArmsOf here) ck rs G i) (i (At (here (Test ∷ [])))) arms (seen (below ArmsOf here) i)
  has_arms o arms s st second ls class sc lsc here ck rs G i h =
      subst (λ names. ArmsHave types fits s st second ls class names (λ x. i (lsc x)) (given (below ArmsOf here) ck rs G i) (i (At (here (Test ∷ [])))) arms (seen (below ArmsOf here) i)) (within_eq o sc lsc i)
      (subst (λ g. ArmsHave types fits s st second ls class (within o (λ x. i (sc x)) (λ x. i (lsc x))) (λ x. i (lsc x)) g (i (At (here (Test ∷ [])))) arms (seen (below ArmsOf here) i)) (at_given ArmsOf here ck rs G i) h)

  pub has_body : (ds : List Decl) (a : Span) (b : Block) (e : Expr) (s : Known) (st : Standing) (second : Classes) (ls : Lasts) (class : Assignment) (sc lsc : Scope) (here : Prefix) (ck : When) (rs : List Place) (G : List (Now FlatName)) (i : Now FlatName)
      → Along (Live (eqn_part types N does fill ds (reset a b e) sc lsc) here ck rs) G → Live (eqn_part types N does fill ds (reset a b e) sc lsc) here ck rs G i → IsTrue (holds (steps ck) i)
      → BlockHas types fits s st second ls class (within (reset a b e) (λ x. i (sc x)) (λ x. i (lsc x))) (λ x. i (lsc x)) (tree_since (is_true (i (At (here (Test ∷ []))))) (at Body (given here ck rs G i))) b (part Body (seen here i))
      → BlockHas types fits s st second ls class (λ x. i (within_at (reset a b e) sc lsc x)) (λ x. i (lsc x)) (given (below Body here) ck (restarts_at e here rs) G i) b (seen (below Body here) i)
  has_body ds a b e s st second ls class sc lsc here ck rs G i l m t h =
      subst (λ names. BlockHas types fits s st second ls class names (λ x. i (lsc x)) (given (below Body here) ck (restarts_at e here rs) G i) b (seen (below Body here) i)) (within_eq (reset a b e) sc lsc i)
      (subst (λ g. BlockHas types fits s st second ls class (within (reset a b e) (λ x. i (sc x)) (λ x. i (lsc x))) (λ x. i (lsc x)) g b (seen (below Body here) i)) (since_body types N does fill ds a b e sc lsc here ck rs G i l m t) h)

  pub has_arm : (c : Cons) (b : Block) (a : Span) (arms : Arms) (test : FlatName) (s : Known) (st : Standing) (second : Classes) (ls : Lasts) (class : Assignment) (sc lsc : Scope) (here : Prefix) (ck : When) (rs : List Place) (G : List (Now FlatName)) (i : Now FlatName)
      → Along (Live (arms_part types N does fill (more_arms c b a arms) test sc lsc) here ck rs) G
      → ArmsHave types fits s st second ls class (λ x. i (sc x)) (λ x. i (lsc x)) (given here ck rs G i) (i test) (more_arms c b a arms) (seen here i) → IsTrue (is_cons types (i test) c)
      → BlockHas types fits s st second ls (λ p. class (Head ∷ p)) (λ x. i (sc x)) (λ x. i (lsc x)) (given (below Head here) (on (cons_of types c) test ck) rs G i) b (seen (below Head here) i)
  has_arm c b a arms test s st second ls class sc lsc here ck rs G i l h t =
      subst (λ g. BlockHas types fits s st second ls (λ p. class (Head ∷ p)) (λ x. i (sc x)) (λ x. i (lsc x)) g b (seen (below Head here) i)) (since_arm types N does fill c b a arms test sc lsc here ck rs G i l) (h.0 t)

  pub has_others : (c : Cons) (b : Block) (a : Span) (arms : Arms) (v : Value) (s : Known) (st : Standing) (second : Classes) (ls : Lasts) (class : Assignment) (sc lsc : Scope) (here : Prefix) (ck : When) (rs : List Place) (G : List (Now FlatName)) (i : Now FlatName)
      → ArmsHave types fits s st second ls class (λ x. i (sc x)) (λ x. i (lsc x)) (given here ck rs G i) v (more_arms c b a arms) (seen here i)
      → ArmsHave types fits s st second ls (λ p. class (Tail ∷ p)) (λ x. i (sc x)) (λ x. i (lsc x)) (given (below Tail here) ck rs G i) v arms (seen (below Tail here) i)
  has_others c b a arms v s st second ls class sc lsc here ck rs G i h =
      subst (λ g. ArmsHave types fits s st second ls (λ p. class (Tail ∷ p)) (λ x. i (sc x)) (λ x. i (lsc x)) g v arms (seen (below Tail here) i)) (at_given Tail here ck rs G i) h.1

  -- ---- places

  mutual
    pub scope_timely : (b : Block) (s : Known) (st : Standing) (second : Classes) (ls : Lasts) (class : Assignment) (fresh : Now FlatName → Bool) (sc lsc : Scope) (here : Prefix) (ck : When) (rs : List Place) (G : List (Now FlatName)) (i : Now FlatName)
        → Lowered b → BlockOk types among s second ls class b → Along (Live (scope_part types N does fill b fresh sc lsc) here ck rs) (i ∷ G) → Along Remembers (i ∷ G)
        → (IsTrue (holds (steps ck) i) → BlockHas types fits s st second ls class (λ x. i (sc x)) (λ x. i (lsc x)) (given here ck rs G i) b (seen here i)) → TimelyAt (scope_clocks types N.outputs b sc lsc here ck rs) here i
    scope_timely (block ds es) s st second ls class fresh sc lsc here ck rs G i low ok l r h =
        timely_block (equations_clocks types N.outputs ds es (inside_at es sc here) (lasts_at types ds lsc here ck rs) (below Equations here) ck rs) here i
        (eqns_timely ds es (with_variables s ds) (standing_in ds es st) (classes_in es second class) (lasts_in ds ls) (λ p. class (Equations ∷ p)) (inside_at es sc here) (lasts_at types ds lsc here ck rs) (below Equations here) ck rs G i low ok.1.1
        (lives_equations types N does fill ds es fresh sc lsc here ck rs (i ∷ G) r l) r
        (λ t. has_equations ds es s st second ls class sc lsc here ck rs G i r.0 t (h t)))

    eqns_timely : (ds : List Decl) (es : Eqns) (s : Known) (st : Standing) (second : Classes) (ls : Lasts) (class : Assignment) (sc lsc : Scope) (here : Prefix) (ck : When) (rs : List Place) (G : List (Now FlatName)) (i : Now FlatName)
        → AllLowered es → EqnsOk types among s second ls class es → Along (Live (eqns_part types N does fill ds es sc lsc) here ck rs) (i ∷ G) → Along Remembers (i ∷ G)
        → (IsTrue (holds (steps ck) i) → EqnsHave types fits ds s st second ls class (λ x. i (sc x)) (λ x. i (lsc x)) (given here ck rs G i) es (seen here i)) → TimelyAt (equations_clocks types N.outputs ds es sc lsc here ck rs) here i
    eqns_timely ds no_eqn s st second ls class sc lsc here ck rs G i low ok l r h = λ p. tt
    eqns_timely ds (more_eqns e es) s st second ls class sc lsc here ck rs G i low ok l r h =
        timely_of_two (equation_clocks types N.outputs ds e sc lsc (below Head here) ck rs) (equations_clocks types N.outputs ds es sc lsc (below Tail here) ck rs) here i
        (eqn_timely ds e s st second ls (λ p. class (Head ∷ p)) sc lsc (below Head here) ck rs G i low.0 ok.0
        (deeper Head (eqns_part types N does fill ds (more_eqns e es) sc lsc) (eqn_part types N does fill ds e sc lsc) here ck rs (λ i g now p. refl) (i ∷ G) l) r
        (λ t. has_head ds e es s st second ls class sc lsc here ck rs G i (h t)))
        (eqns_timely ds es s st second ls (λ p. class (Tail ∷ p)) sc lsc (below Tail here) ck rs G i low.1 ok.1
        (deeper Tail (eqns_part types N does fill ds (more_eqns e es) sc lsc) (eqns_part types N does fill ds es sc lsc) here ck rs (λ i g now p. refl) (i ∷ G) l) r
        (λ t. has_tail ds e es s st second ls class sc lsc here ck rs G i (h t)))

    eqn_timely : (ds : List Decl) (e : Eqn) (s : Known) (st : Standing) (second : Classes) (ls : Lasts) (class : Assignment) (sc lsc : Scope) (here : Prefix) (ck : When) (rs : List Place) (G : List (Now FlatName)) (i : Now FlatName)
        → OneLowered e → EqnOk types among s second ls class e → Along (Live (eqn_part types N does fill ds e sc lsc) here ck rs) (i ∷ G) → Along Remembers (i ∷ G)
        → (IsTrue (holds (steps ck) i) → EqnHas types fits ds s st second ls class (λ x. i (sc x)) (λ x. i (lsc x)) (given here ck rs G i) e (seen here i)) → TimelyAt (equation_clocks types N.outputs ds e sc lsc here ck rs) here i
    eqn_timely ds (define a ys e) s st second ls class sc lsc here ck rs G i low ok l r h =
        timely_right (expr_clocks types N.outputs e (clock_of ds ys e) sc ck) here i
        (right_timely types N among fits allowed known s second ls sc ck i ys e (clock_of ds ys e) (below RightOf here) ok (h, λ f p. l.0.1 f (RightOf ∷ p)))
    eqn_timely ds (switch a e arms) s st second ls class sc lsc here ck rs G i low ok l r h =
        timely_arms (expr_clocks types N.outputs e [] sc ck) (arms_clocks types N.outputs arms (At (here (Test ∷ []))) (within_at (switch a e arms) sc lsc) lsc (below ArmsOf here) ck rs) here i
        (expr_timely types N among fits allowed known s second ls sc ck i e ok.1.1.0.0 [] (below Test here) ok.1.1.0.1.0 ok.0 ((λ t. (h t).0), λ f p. l.0.1 f (Test ∷ p)))
        (arms_timely (switch a e arms) arms (At (here (Test ∷ []))) s st (classes_within (switch a e arms) second) ls (λ p. class (ArmsOf ∷ p)) (within_at (switch a e arms) sc lsc) lsc (below ArmsOf here) ck rs G i low ok.1.1.1
        (along (Live (eqn_part types N does fill ds (switch a e arms) sc lsc) here ck rs) (Live (arms_part types N does fill arms (At (here (Test ∷ []))) (within_at (switch a e arms) sc lsc) lsc) (below ArmsOf here) ck rs)
        (λ G i a' m. live_arms types N does fill ds a e arms sc lsc here ck rs G i m) (i ∷ G) l) r
        (λ t. has_arms (switch a e arms) arms s st (classes_within (switch a e arms) second) ls (λ p. class (ArmsOf ∷ p)) sc lsc here ck rs G i (h t).1))
    eqn_timely ds (reset a b e) s st second ls class sc lsc here ck rs G i low ok l r h =
        timely_body (expr_clocks types N.outputs e [] sc ck) (scope_clocks types N.outputs b (within_at (reset a b e) sc lsc) lsc (below Body here) ck (restarts_at e here rs)) here i
        (expr_timely types N among fits allowed known s second ls sc ck i e ty.Bool [] (below Test here) ok.0.1.1 ok.0.0 ((λ t. (h t).0), λ f p. l.0.1 f (Test ∷ p)))
        (scope_timely b s st (classes_within (reset a b e) second) ls (λ p. class (Body ∷ p)) (λ i. is_true (i (At (here (Test ∷ []))))) (within_at (reset a b e) sc lsc) lsc (below Body here) ck (restarts_at e here rs) G i low ok.1
        (along (Live (eqn_part types N does fill ds (reset a b e) sc lsc) here ck rs) (Live (scope_part types N does fill b (λ i. is_true (i (At (here (Test ∷ []))))) (within_at (reset a b e) sc lsc) lsc) (below Body here) ck (restarts_at e here rs))
        (λ G i a' m. live_body types N does fill ds a b e sc lsc here ck rs G i a' m) (i ∷ G) l) r
        (λ t. has_body ds a b e s st (classes_within (reset a b e) second) ls (λ p. class (Body ∷ p)) sc lsc here ck rs G i l.1 l.0 t (h t).1))
    eqn_timely ds (automaton a ss) s st second ls class sc lsc here ck rs G i low ok l r h = absurd low

    arms_timely : (o : Eqn) (arms : Arms) (test : FlatName) (s : Known) (st : Standing) (second : Classes) (ls : Lasts) (class : Assignment) (sc lsc : Scope) (here : Prefix) (ck : When) (rs : List Place) (G : List (Now FlatName)) (i : Now FlatName)
        → ArmsLowered arms → ArmsOk types among o s second ls class arms → Along (Live (arms_part types N does fill arms test sc lsc) here ck rs) (i ∷ G) → Along Remembers (i ∷ G)
        → (IsTrue (holds (steps ck) i) → ArmsHave types fits s st second ls class (λ x. i (sc x)) (λ x. i (lsc x)) (given here ck rs G i) (i test) arms (seen here i)) → TimelyAt (arms_clocks types N.outputs arms test sc lsc here ck rs) here i
    arms_timely o no_arm test s st second ls class sc lsc here ck rs G i low ok l r h = λ p. tt
    arms_timely o (more_arms c b a arms) test s st second ls class sc lsc here ck rs G i low ok l r h =
        timely_of_two (scope_clocks types N.outputs b sc lsc (below Head here) (on (cons_of types c) test ck) rs) (arms_clocks types N.outputs arms test sc lsc (below Tail here) ck rs) here i
        (scope_timely b s st second ls (λ p. class (Head ∷ p)) (λ i. false) sc lsc (below Head here) (on (cons_of types c) test ck) rs G i low.0 ok.1.0
        (along (Live (arms_part types N does fill (more_arms c b a arms) test sc lsc) here ck rs) (Live (scope_part types N does fill b (λ i. false) sc lsc) (below Head here) (on (cons_of types c) test ck) rs)
        (λ G i a' m. live_arm types N does fill c b a arms test sc lsc here ck rs G i a' m) (i ∷ G) l) r
        (λ t. let u = and_true (is_cons types (i test) c) (holds (steps ck) i) t in has_arm c b a arms test s st second ls class sc lsc here ck rs G i l.1 (h u.1) u.0))
        (arms_timely o arms test s st second ls (λ p. class (Tail ∷ p)) sc lsc (below Tail here) ck rs G i low.1 ok.1.1
        (deeper Tail (arms_part types N does fill (more_arms c b a arms) test sc lsc) (arms_part types N does fill arms test sc lsc) here ck rs (λ i g now p. refl) (i ∷ G) l) r
        (λ t. has_others c b a arms (i test) s st second ls class sc lsc here ck rs G i (h t)))
