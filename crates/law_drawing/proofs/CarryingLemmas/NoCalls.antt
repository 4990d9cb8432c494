-- In a contract whose wires are typed, where no call is, nothing is called: it is sound among no nodes, and has no calls.
use Rattle.std.proofs.Common.{◌≡◌, ℕ, List, [], ◌∷◌, ◌++◌, Option, None, Some, refl, ap, ◌∙◌}
use Rattle.hp_base.specs.declared.span.Span.{Span}
use Rattle.hp_tree.specs.declared.block.Trans.{Trans}
use Rattle.hp_tree.specs.Blocks.{Block, block, Eqns, no_eqn, more_eqns, Eqn, define, switch, reset, automaton, Arms, no_arm, more_arms, States, no_state, more_states}
use Rattle.hp_tree.specs.Expressions.{Expr, constant, variable, last_of, one, two, choose, pre, fby, arrow, when_is, merge, call, Parts, no_part, more_parts}
use Rattle.hp_tree.specs.Instant.{Body, Observer, Assume, Enforce, Equations, Head, Tail, Right, Test, Arms as ArmsOf, States as StatesOf, Until, Unless, First, Second, Third, Args, Instant, part, Place}
use Rattle.hp_tree.specs.Meaning.{node_among}
use Rattle.hp_tree.specs.Programs.{TypeDecl, Contract, Node}
use Rattle.hp_meaning.specs.Causal.Points.{Placed, calls, calls_in_parts, calls_told}
use Rattle.hp_meaning.specs.Causal.Sources.{below}
use Rattle.hp_typing.specs.Scopes.{with_variables, inside}
use Rattle.law_judged.specs.Typed.Scopes.{Scope}
use Rattle.law_values.specs.Valued.Judged.{Lasts, lasts_in as known_lasts, lasts_of as known_of, ExprSound, PartsSound, RightSound, TestsSound, BlockSound, EqnsSound, EqnSound, ArmsSound, StatesSound, ToldSound, ContractSound}
use Rattle.law_games.specs.Wiretyped.Typed.{ExprTyped, PartsTyped, TestsTyped, BlockTyped, EqnsTyped, EqnTyped, ArmsTyped, StatesTyped, ToldTyped, ContractTyped}
use Rattle.law_games.specs.Wiretyped.Callees.{none_typed}
use Rattle.law_drawing.proofs.CarryingLemmas.CallLists.{calls_in_conditions, calls_in_block, calls_in_eqns, calls_in_eqn, calls_in_arms, calls_in_states}
use Rattle.law_drawing.proofs.CarryingLemmas.Nodes.{observer_calls}

both-empty : (xs ys : List Placed) → xs ≡ [] → ys ≡ [] → xs ++ ys ≡ []
both-empty xs ys e f = ap (λ l. l ++ ys) e ∙ f

abbrev nobody : List ℕ → Option Node
nobody f = node_among [] f

module _ (types : List TypeDecl) (among : List ℕ → Option Node) where
  module _ (s : Scope) (l : Lasts) where
    mutual
      expr-free : (e : Expr) (i : Instant) (w : Place → Place) → ExprSound types among s l e → ExprTyped types none_typed s e i → ExprSound types nobody s l e × (calls e w ≡ [])
      expr-free (constant a c) i w ok y = (ok, refl)
      expr-free (variable a x) i w ok y = (ok, refl)
      expr-free (last_of a x) i w ok y = (ok, refl)
      expr-free (one a o b) i w ok y = expr-free b (part First i) (below First w) ok y.1
      expr-free (two a o b c) i w ok y =
          let x = expr-free b (part First i) (below First w) ok.0 y.1.0 in
          let z = expr-free c (part Second i) (below Second w) ok.1 y.1.1 in
          ((x.0, z.0), both-empty (calls b (below First w)) (calls c (below Second w)) x.1 z.1)
      expr-free (choose a b c d) i w ok y =
          let x = expr-free b (part First i) (below First w) ok.0 y.1.0 in
          let z = expr-free c (part Second i) (below Second w) ok.1.0 y.1.1.0 in
          let v = expr-free d (part Third i) (below Third w) ok.1.1 y.1.1.1 in
          ((x.0, (z.0, v.0)), both-empty (calls b (below First w)) (calls c (below Second w) ++ calls d (below Third w)) x.1 (both-empty (calls c (below Second w)) (calls d (below Third w)) z.1 v.1))
      expr-free (pre a b) i w ok y = expr-free b (part First i) (below First w) ok y.1
      expr-free (fby a b c) i w ok y =
          let x = expr-free b (part First i) (below First w) ok.0 y.1.0 in
          let z = expr-free c (part Second i) (below Second w) ok.1 y.1.1 in
          ((x.0, z.0), both-empty (calls b (below First w)) (calls c (below Second w)) x.1 z.1)
      expr-free (arrow a b c) i w ok y =
          let x = expr-free b (part First i) (below First w) ok.0 y.1.0 in
          let z = expr-free c (part Second i) (below Second w) ok.1 y.1.1 in
          ((x.0, z.0), both-empty (calls b (below First w)) (calls c (below Second w)) x.1 z.1)
      expr-free (when_is a b c x) i w ok y = expr-free b (part First i) (below First w) ok y.1
      expr-free (merge a x ps) i w ok y = let p = parts-free ps (part Args i) (below Args w) ok.1 y.1 in ((ok.0, p.0), p.1)
      expr-free (call a f il es) i w ok y = absurd y.1.1

      parts-free : (ps : Parts) (i : Instant) (w : Place → Place) → PartsSound types among s l ps → PartsTyped types none_typed s ps i → PartsSound types nobody s l ps × (calls_in_parts ps w ≡ [])
      parts-free no_part i w ok y = (tt, refl)
      parts-free (more_parts c e ps) i w ok y =
          let x = expr-free e (part Head i) (below Head w) ok.0 y.0 in
          let z = parts-free ps (part Tail i) (below Tail w) ok.1 y.1 in
          ((x.0, z.0), both-empty (calls e (below Head w)) (calls_in_parts ps (below Tail w)) x.1 z.1)

    right-free : (ys : List (List ℕ × Span)) (e : Expr) (i : Instant) (w : Place → Place) → RightSound types among s l ys e → ExprTyped types none_typed s e i → RightSound types nobody s l ys e × (calls e w ≡ [])
    right-free ys (call a f il es) i w ok y = absurd y.1.1
    right-free ys (constant a c) i w ok y = let x = expr-free (constant a c) i w ok.0 y in ((x.0, ok.1), x.1)
    right-free ys (variable a c) i w ok y = let x = expr-free (variable a c) i w ok.0 y in ((x.0, ok.1), x.1)
    right-free ys (last_of a c) i w ok y = let x = expr-free (last_of a c) i w ok.0 y in ((x.0, ok.1), x.1)
    right-free ys (one a o b) i w ok y = let x = expr-free (one a o b) i w ok.0 y in ((x.0, ok.1), x.1)
    right-free ys (two a o b c) i w ok y = let x = expr-free (two a o b c) i w ok.0 y in ((x.0, ok.1), x.1)
    right-free ys (choose a b c d) i w ok y = let x = expr-free (choose a b c d) i w ok.0 y in ((x.0, ok.1), x.1)
    right-free ys (pre a b) i w ok y = let x = expr-free (pre a b) i w ok.0 y in ((x.0, ok.1), x.1)
    right-free ys (fby a b c) i w ok y = let x = expr-free (fby a b c) i w ok.0 y in ((x.0, ok.1), x.1)
    right-free ys (arrow a b c) i w ok y = let x = expr-free (arrow a b c) i w ok.0 y in ((x.0, ok.1), x.1)
    right-free ys (when_is a b c d) i w ok y = let x = expr-free (when_is a b c d) i w ok.0 y in ((x.0, ok.1), x.1)
    right-free ys (merge a b ps) i w ok y = let x = expr-free (merge a b ps) i w ok.0 y in ((x.0, ok.1), x.1)

    tests-free : (ts : List Trans) (i : Instant) (w : Place → Place) → TestsSound types among s l ts → TestsTyped types none_typed s ts i → TestsSound types nobody s l ts × (calls_in_conditions ts w ≡ [])
    tests-free [] i w ok y = (tt, refl)
    tests-free (t ∷ ts) i w ok y =
        let x = expr-free t.cond (part Head i) (below Head w) ok.0.0 y.0 in
        let z = tests-free ts (part Tail i) (below Tail w) ok.1 y.1 in
        (((x.0, ok.0.1), z.0), both-empty (calls t.cond (below Head w)) (calls_in_conditions ts (below Tail w)) x.1 z.1)

  mutual
    block-free : (b : Block) (s : Scope) (l : Lasts) (i : Instant) (w : Place → Place) → BlockSound types among s l b → BlockTyped types none_typed s b i → BlockSound types nobody s l b × (calls_in_block b w ≡ [])
    block-free (block ds es) s l i w ok y = let x = eqns-free es (with_variables s ds) (known_lasts ds l) (part Equations i) (below Equations w) ok.1.1 y.1 in ((ok.0, (ok.1.0, x.0)), x.1)

    eqns-free : (es : Eqns) (s : Scope) (l : Lasts) (i : Instant) (w : Place → Place) → EqnsSound types among s l es → EqnsTyped types none_typed s es i → EqnsSound types nobody s l es × (calls_in_eqns es w ≡ [])
    eqns-free no_eqn s l i w ok y = (tt, refl)
    eqns-free (more_eqns e es) s l i w ok y =
        let x = eqn-free e s l (part Head i) (below Head w) ok.0 y.0 in
        let z = eqns-free es s l (part Tail i) (below Tail w) ok.1 y.1 in
        ((x.0, z.0), both-empty (calls_in_eqn e (below Head w)) (calls_in_eqns es (below Tail w)) x.1 z.1)

    eqn-free : (e : Eqn) (s : Scope) (l : Lasts) (i : Instant) (w : Place → Place) → EqnSound types among s l e → EqnTyped types none_typed s e i → EqnSound types nobody s l e × (calls_in_eqn e w ≡ [])
    eqn-free (define at ys e) s l i w ok y = right-free s l ys e (part Right i) (below Right w) ok y
    eqn-free (switch at e arms) s l i w ok y =
        let x = expr-free s l e (part Test i) (below Test w) ok.0 y.0 in
        let z = arms-free arms (switch at e arms) s l (part ArmsOf i) (below ArmsOf w) ok.1.1 y.1 in
        ((x.0, (ok.1.0, z.0)), both-empty (calls e (below Test w)) (calls_in_arms arms (below ArmsOf w)) x.1 z.1)
    eqn-free (reset at b e) s l i w ok y =
        let x = block-free b s l (part Body i) (below Body w) ok.1 y.1 in
        let z = expr-free s l e (part Test i) (below Test w) ok.0.0 y.0 in
        (((z.0, ok.0.1), x.0), both-empty (calls_in_block b (below Body w)) (calls e (below Test w)) x.1 z.1)
    eqn-free (automaton at ss) s l i w ok y = states-free ss (automaton at ss) s l (part StatesOf i) (below StatesOf w) ok y.1.1.1

    arms-free : (arms : Arms) (q : Eqn) (s : Scope) (l : Lasts) (i : Instant) (w : Place → Place) → ArmsSound types among q s l arms → ArmsTyped types none_typed s arms i → ArmsSound types nobody q s l arms × (calls_in_arms arms w ≡ [])
    arms-free no_arm q s l i w ok y = (tt, refl)
    arms-free (more_arms c b at arms) q s l i w ok y =
        let x = block-free b s l (part Head i) (below Head w) ok.1.0 y.0 in
        let z = arms-free arms q s l (part Tail i) (below Tail w) ok.1.1 y.1 in
        ((ok.0, (x.0, z.0)), both-empty (calls_in_block b (below Head w)) (calls_in_arms arms (below Tail w)) x.1 z.1)

    states-free : (ss : States) (q : Eqn) (s : Scope) (l : Lasts) (i : Instant) (w : Place → Place) → StatesSound types among q s l ss → StatesTyped types none_typed s ss i → StatesSound types nobody q s l ss × (calls_in_states ss w ≡ [])
    states-free no_state q s l i w ok y = (tt, refl)
    states-free (more_states f b until unless at ss) q s l i w ok y =
        let x = block-free b s l (part Body (part Head i)) (below Body (below Head w)) ok.1.0 y.0 in
        let u = tests-free (inside s b) (known_of b l) until (part Until (part Head i)) (below Until (below Head w)) ok.1.1.0 y.1.0 in
        let v = tests-free s l unless (part Unless (part Head i)) (below Unless (below Head w)) ok.1.1.1.0 y.1.1.0 in
        let z = states-free ss q s l (part Tail i) (below Tail w) ok.1.1.1.1 y.1.1.1 in (
          (ok.0, (x.0, (u.0, (v.0, z.0)))),
          both-empty (calls_in_block b (below Body (below Head w))) (calls_in_conditions until (below Until (below Head w)) ++ (calls_in_conditions unless (below Unless (below Head w)) ++ calls_in_states ss (below Tail w))) x.1
              (both-empty (calls_in_conditions until (below Until (below Head w))) (calls_in_conditions unless (below Unless (below Head w)) ++ calls_in_states ss (below Tail w)) u.1
              (both-empty (calls_in_conditions unless (below Unless (below Head w))) (calls_in_states ss (below Tail w)) v.1 z.1)),
        )

  told-free : (o : Option Expr) (s : Scope) (l : Lasts) (i : Instant) (w : Place → Place) → ToldSound types among s l o → ToldTyped types none_typed s o i → ToldSound types nobody s l o × (calls_told o w ≡ [])
  told-free None s l i w ok y = (tt, refl)
  told-free (Some e) s l i w ok y = let x = expr-free s l e i w ok.0 y in ((x.0, ok.1), x.1)

  pub contract-free : (o : Option Contract) (s : Scope) (l : Lasts) (i : Instant) (w : Place → Place) → ContractSound types among s l o → ContractTyped types none_typed s o i → ContractSound types nobody s l o × (observer_calls o w ≡ [])
  contract-free None s l i w ok y = (tt, refl)
  contract-free (Some c) s l i w ok y =
      let x = block-free c.body s l (part Observer i) (below Observer w) ok.0 y.0 in
      let a = told-free c.assume (inside s c.body) (known_of c.body l) (part Assume i) (below Assume w) ok.1.0 y.1.0 in
      let e = told-free c.enforce (inside s c.body) (known_of c.body l) (part Enforce i) (below Enforce w) ok.1.1 y.1.1 in
      ((x.0, (a.0, e.0)), both-empty (calls_in_block c.body (below Observer w)) (calls_told c.assume (below Assume w) ++ calls_told c.enforce (below Enforce w)) x.1 (both-empty (calls_told c.assume (below Assume w)) (calls_told c.enforce (below Enforce w)) a.1 e.1))
