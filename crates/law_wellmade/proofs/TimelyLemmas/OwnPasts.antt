-- The own pasts of arms and of bodies that a condition begins anew, as flat pasts.
use Rattle.std.proofs.Common.{◌≡◌, List, [], ◌∷◌, refl, sym, ap, ◌∙◌}
use Rattle.std.specs.Prelude.{Bool, true, false, if◌then◌else◌, IsTrue, Option, None, Some}
use Rattle.hp_base.specs.declared.span.Span.{Span}
use Rattle.hp_base.specs.declared.value.Value.{Value}
use Rattle.hp_base.specs.declared.value.Value.TheVariants.{Absent, B}
use Rattle.hp_base.specs.declared.ty.Const.{Const}
use Rattle.hp_base.specs.declared.ty.Const.TheVariants as const
use Rattle.hp_tree.specs.declared.decl.Cons.{Cons}
use Rattle.hp_tree.specs.Expressions.{Expr}
use Rattle.hp_tree.specs.Blocks.{Decl, Block, Eqn, reset, Arms, more_arms}
use Rattle.hp_tree.specs.Programs.{TypeDecl}
use Rattle.hp_tree.specs.Operators.{filled, cons_of, is_cons, is_true}
use Rattle.hp_tree.specs.Instant.{Fresh, Head, Test, Body, Place, Instant, Given, at, part, top, own, since as tree_since}
use Rattle.hp_tree.specs.Meaning.{Names, Nodes, defines, within, expr, scope}
use Rattle.law_equations.specs.Flattened.Flat.{Now, Behaviours, holds, recent}
use Rattle.law_equations.specs.Flattened.Flatten.{FlatName, At, Free, When, on, steps, ats, Prefix, below, Scope, within_at, restarts_at, is_false, is_false_constant, constant_in}
use Rattle.law_equations.specs.Flattened.Timely.{Along}
use Rattle.law_equations.proofs.FlattenedLemmas.PastLaws.{seen, parts_view, along, Goes, own_recent, Begins, begun_recent}
use Rattle.law_equations.proofs.FlattenedLemmas.ExpressionLaws.{and_true, if_true, if_false, decide, given, Live, constant_said}
use Rattle.law_equations.proofs.FlattenedLemmas.BlockLaws.{eqn_part, arms_part, fresh_of, arm_fresh}

inside_same : (d : Bool) (i : Now FlatName) (a b : FlatName) → (if d then i a else i b) ≡ i (if d then a else b)
inside_same true i a b = refl
inside_same false i a b = refl

pub within_eq : (e : Eqn) (sc lsc : Scope) (i : Now FlatName) → within e (λ x. i (sc x)) (λ x. i (lsc x)) ≡ (λ x. i (within_at e sc lsc x))
within_eq e sc lsc i = λ z x. inside_same (defines e x) i (lsc x) (sc x) z

module _ (types : List TypeDecl) (N : Nodes) (does : Behaviours) (fill : Place → Value) where
  goes_arm : (c : Cons) (b : Block) (s : Span) (arms : Arms) (test : FlatName) (sc lsc : Scope) (here : Prefix) (ck : When) (rs : List Place) (G : List (Now FlatName)) (i : Now FlatName) → Live (arms_part types N does fill (more_arms c b s arms) test sc lsc) here ck rs G i → Goes (steps ck) (steps (on (cons_of types c) test ck)) (below Head here) i
  goes_arm c b s arms test sc lsc here ck rs G i m = (
    (λ t. (and_true (is_cons types (i test) c) (holds (steps ck) i) t).1),
    λ t. m.0 t (Head ∷ Fresh ∷ [])
        ∙ arm_fresh types N does fill (is_cons types (i test) c) (holds (steps ck) i)
        (scope types filled N b false (λ x. i (sc x)) (λ x. i (lsc x)) (tree_since false (at Head (given here ck rs G i))) (part Head (seen here i)))
        t (fresh_of types N does fill b false (λ x. i (sc x)) (λ x. i (lsc x)) (tree_since false (at Head (given here ck rs G i))) (part Head (seen here i))),
  )

  pub since_arm : (c : Cons) (b : Block) (s : Span) (arms : Arms) (test : FlatName) (sc lsc : Scope) (here : Prefix) (ck : When) (rs : List Place) (G : List (Now FlatName)) (i : Now FlatName) → Along (Live (arms_part types N does fill (more_arms c b s arms) test sc lsc) here ck rs) G → tree_since false (at Head (given here ck rs G i)) ≡ given (below Head here) (on (cons_of types c) test ck) rs G i
  since_arm c b s arms test sc lsc here ck rs G i l =
      ap (λ q. record { past = q; free = λ p. i (Free (here (Head ∷ p))) })
      (ap own (parts_view Head here (recent (steps ck) (ats rs) G i))
      ∙ own_recent (below Head here) (steps ck) (steps (on (cons_of types c) test ck)) (ats rs) G i
      (along (Live (arms_part types N does fill (more_arms c b s arms) test sc lsc) here ck rs) (λ G i. Goes (steps ck) (steps (on (cons_of types c) test ck)) (below Head here) i)
      (λ G i a m. goes_arm c b s arms test sc lsc here ck rs G i m) G l))

  -- a body that a condition begins anew
  begins_body : (ds : List Decl) (s : Span) (b : Block) (e : Expr) (sc lsc : Scope) (here : Prefix) (ck : When) (rs : List Place) (G : List (Now FlatName)) (i : Now FlatName) → Live (eqn_part types N does fill ds (reset s b e) sc lsc) here ck rs G i → Begins (steps ck) (At (here (Test ∷ []))) (below Body here) i
  begins_body ds s b e sc lsc here ck rs G i m = (
    (λ t. m.0 t (Body ∷ Fresh ∷ [])
        ∙ fresh_of types N does fill b _ _ (λ x. i (lsc x)) _ (part Body (seen here i))
        ∙ ap (λ w. B (is_true w)) (sym (m.0 t (Test ∷ [])))),
    λ f. ap is_true (m.1 f (Test ∷ [])),
  )

  begun : (ds : List Decl) (s : Span) (b : Block) (e : Expr) (sc lsc : Scope) (here : Prefix) (ck : When) (rs : List Place) (G : List (Now FlatName)) (i : Now FlatName) → Along (Live (eqn_part types N does fill ds (reset s b e) sc lsc) here ck rs) G → tree_since (is_true (i (At (here (Test ∷ []))))) (at Body (given here ck rs G i)) ≡ given (below Body here) ck (here (Test ∷ []) ∷ rs) G i
  begun ds s b e sc lsc here ck rs G i l =
      ap (λ q. record { past = q; free = λ p. i (Free (here (Body ∷ p))) })
      (ap (λ q. if is_true (i (At (here (Test ∷ [])))) then [] else own q) (parts_view Body here (recent (steps ck) (ats rs) G i))
      ∙ begun_recent (below Body here) (steps ck) (At (here (Test ∷ []))) (ats rs) G i
      (along (Live (eqn_part types N does fill ds (reset s b e) sc lsc) here ck rs) (λ G i. Begins (steps ck) (At (here (Test ∷ []))) (below Body here) i)
      (λ G i a m. begins_body ds s b e sc lsc here ck rs G i m) G l))

  -- a body that nothing begins anew
  false_said : (o : Option Const) (e : Expr) (names last : Names) (g : Given) (now : Instant) → constant_in e ≡ o → IsTrue (is_false_constant o) → top (expr types filled N e [] names last g now) ≡ B false
  false_said (Some (const.B false)) e names last g now h t = constant_said types N does fill e (const.B false) [] names last g now h refl
  false_said (Some (const.B true)) e names last g now h t = absurd cc
  false_said (Some (const.I n)) e names last g now h t = absurd cc
  false_said (Some (const.E c)) e names last g now h t = absurd cc
  false_said None e names last g now h t = absurd cc

  pub test_false : (ds : List Decl) (s : Span) (b : Block) (e : Expr) (sc lsc : Scope) (here : Prefix) (ck : When) (rs : List Place) (G : List (Now FlatName)) (i : Now FlatName) → IsTrue (is_false e)
      → Live (eqn_part types N does fill ds (reset s b e) sc lsc) here ck rs G i → IsTrue (holds (steps ck) i) → i (At (here (Test ∷ []))) ≡ B false
  test_false ds s b e sc lsc here ck rs G i d m t =
      m.0 t (Test ∷ []) ∙ false_said (constant_in e) e (λ x. i (sc x)) (λ x. i (lsc x)) (at Test (given here ck rs G i)) (part Test (seen here i)) refl d

  goes_body : (ds : List Decl) (s : Span) (b : Block) (e : Expr) (sc lsc : Scope) (here : Prefix) (ck : When) (rs : List Place) (G : List (Now FlatName)) (i : Now FlatName) → IsTrue (is_false e)
      → Live (eqn_part types N does fill ds (reset s b e) sc lsc) here ck rs G i → Goes (steps ck) (steps ck) (below Body here) i
  goes_body ds s b e sc lsc here ck rs G i d m = (
    (λ t. t),
    λ t. (begins_body ds s b e sc lsc here ck rs G i m).0 t
        ∙ ap (λ w. B (is_true w)) (test_false ds s b e sc lsc here ck rs G i d m t)
        ∙ sym (if_true (holds (steps ck) i) (B false) Absent t),
  )

  still : (ds : List Decl) (s : Span) (b : Block) (e : Expr) (sc lsc : Scope) (here : Prefix) (ck : When) (rs : List Place) (G : List (Now FlatName)) (i : Now FlatName) → IsTrue (is_false e)
      → Along (Live (eqn_part types N does fill ds (reset s b e) sc lsc) here ck rs) G → Live (eqn_part types N does fill ds (reset s b e) sc lsc) here ck rs G i → IsTrue (holds (steps ck) i)
      → tree_since (is_true (i (At (here (Test ∷ []))))) (at Body (given here ck rs G i)) ≡ given (below Body here) ck rs G i
  still ds s b e sc lsc here ck rs G i d l m t =
      ap (λ w. tree_since (is_true w) (at Body (given here ck rs G i))) (test_false ds s b e sc lsc here ck rs G i d m t)
      ∙ ap (λ q. record { past = q; free = λ p. i (Free (here (Body ∷ p))) })
      (ap own (parts_view Body here (recent (steps ck) (ats rs) G i))
      ∙ own_recent (below Body here) (steps ck) (steps ck) (ats rs) G i
      (along (Live (eqn_part types N does fill ds (reset s b e) sc lsc) here ck rs) (λ G i. Goes (steps ck) (steps ck) (below Body here) i)
      (λ G i a m. goes_body ds s b e sc lsc here ck rs G i d m) G l))

  pub since_body : (ds : List Decl) (s : Span) (b : Block) (e : Expr) (sc lsc : Scope) (here : Prefix) (ck : When) (rs : List Place) (G : List (Now FlatName)) (i : Now FlatName)
      → Along (Live (eqn_part types N does fill ds (reset s b e) sc lsc) here ck rs) G → Live (eqn_part types N does fill ds (reset s b e) sc lsc) here ck rs G i → IsTrue (holds (steps ck) i)
      → tree_since (is_true (i (At (here (Test ∷ []))))) (at Body (given here ck rs G i)) ≡ given (below Body here) ck (restarts_at e here rs) G i
  since_body ds s b e sc lsc here ck rs G i l m t =
      decide (is_false e)
      (λ d. still ds s b e sc lsc here ck rs G i d l m t ∙ ap (λ r. given (below Body here) ck r G i) (sym (if_true (is_false e) rs (here (Test ∷ []) ∷ rs) d)))
      (λ d. begun ds s b e sc lsc here ck rs G i l ∙ ap (λ r. given (below Body here) ck r G i) (sym (if_false (is_false e) rs (here (Test ∷ []) ∷ rs) d)))
