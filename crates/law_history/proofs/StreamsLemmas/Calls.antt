-- In a sound program each call in a node is of a node before it.
use Rattle.std.proofs.Common.{◌≡◌, ℕ, Bool, true, false, ◌&&◌, if◌then◌else◌, List, [], ◌∷◌, refl, sym, ◌∙◌}
use Rattle.std.specs.Prelude.{Option, None, Some}
use Rattle.hp_base.specs.declared.span.Span.{Span}
use Rattle.hp_base.specs.declared.ty.Ty.{Ty}
use Rattle.hp_base.specs.declared.ty.Ty.TheVariants as ty
use Rattle.hp_tree.specs.Expressions.{Expr, constant, variable, last_of, one, two, choose, pre, fby, arrow, when_is, merge, call, Exprs, no_expr, more_exprs, Parts, no_part, more_parts}
use Rattle.hp_tree.specs.Blocks.{Decl, Block, block, Eqns, no_eqn, more_eqns, Eqn, define, switch, reset, automaton, Arms, no_arm, more_arms}
use Rattle.hp_tree.specs.Programs.{TypeDecl, Node}
use Rattle.hp_tree.specs.Instant.{Equations, Head, Tail, Right as RightOf, Test, Arms as ArmsOf, Body, First, Second, Third, Args}
use Rattle.hp_base.specs.Known.Known.{lookup}
use Rattle.hp_typing.specs.Scopes.{with_variables}
use Rattle.hp_typing.specs.Types.{agrees, answer, chooses, cons_type, operand, type_of_one, where_true, single, args_fit, outputs_in, type_of, types_in, parts_fit}
use Rattle.law_judged.specs.Typed.Scopes.{Scope}
use Rattle.law_values.specs.Valued.Judged.{Lasts, no_lasts, lasts_in, ExprSound, ExprsSound, PartsSound, RightSound, BlockSound, EqnsSound, EqnSound, ArmsSound, NodeSound, body_scope}
use Rattle.law_equations.specs.Flattened.Flatten.{Prefix, below}
use Rattle.law_equations.specs.Flattened.Lifted.{in_body}
use Rattle.law_equations.specs.Flattened.Behaves.{EachCall, EachCallOfAll, EachCallOfParts, EachCallIn, EachCallInAll, EachCallInOne, EachCallInArms}

-- ---- what has a type

and_true : (a b : Bool) → (a && b) ≡ true → (a ≡ true) × (b ≡ true)
and_true true b h = (refl, h)
and_true false b h = absurd cc

agreed_first : (o p : Option Ty) → agrees o p ≡ true → (t : Ty) × (o ≡ Some t)
agreed_first None p h = absurd cc
agreed_first (Some t) p h = (t, refl)

agreed : (o p : Option Ty) → agrees o p ≡ true → (t : Ty) × (p ≡ Some t)
agreed None p h = absurd cc
agreed (Some t) None h = absurd cc
agreed (Some t) (Some u) h = (u, refl)

held : (b : Bool) (o : Option Ty) (t : Ty) → where_true b o ≡ Some t → (b ≡ true) × (o ≡ Some t)
held true o t h = (refl, h)
held false o t h = absurd cc

only_one : (o : Option (List Decl)) (t : Ty) → single o ≡ Some t → (outs : List Decl) × (o ≡ Some outs)
only_one None t h = absurd cc
only_one (Some []) t h = absurd cc
only_one (Some (d ∷ ds)) t h = (d ∷ ds, refl)

-- a call that gives outputs is of a node that is known, and its arguments fit
record IsFound (o : Option Node) (ts : List (Option Ty)) (given : List Decl) : Type 0 where
  node : Node
  there : o ≡ Some node
  fit : args_fit node.inputs ts ≡ true
  outs : node.outputs ≡ given

found_in : (o : Option Node) (ts : List (Option Ty)) (outs : List Decl) → outputs_in o ts ≡ Some outs → IsFound o ts outs
found_in None ts outs h = absurd cc
found_in (Some n) ts outs h = by (args_fit n.inputs ts) refl h
  where
    by : (b : Bool) → args_fit n.inputs ts ≡ b → (if b then Some n.outputs else None) ≡ Some outs → IsFound (Some n) ts outs
    by true e k = record { node = n; there = refl; fit = e; outs = cc }
    by false e k = absurd cc

-- ---- the calls of a sound block, where nodes that are declared before have a property

module _ (P : List ℕ → Type 0) (types : List TypeDecl) (among : List ℕ → Option Node) (has : (f : List ℕ) (n : Node) → among f ≡ Some n → P f) where
  abbrev Is : List ℕ → Prefix → Type 0
  Is f here = P f

  module _ (s : Scope) (lasts : Lasts) where
    mutual
      expr_calls : (e : Expr) (here : Prefix) (t : Ty) → ExprSound types among s lasts e → type_of s e ≡ Some t → EachCall Is e here
      expr_calls (constant at c) here t h k = tt
      expr_calls (variable at x) here t h k = tt
      expr_calls (last_of at x) here t h k = tt
      expr_calls (one at o a) here t h k =
          let p = agreed (Some (type_of_one o)) (type_of s a) (held (agrees (Some (type_of_one o)) (type_of s a)) (Some (type_of_one o)) t k).0 in
          expr_calls a (below First here) p.0 h p.1
      expr_calls (two at o a b) here t h k =
          let both = and_true (agrees (operand o (type_of s a)) (type_of s a)) (agrees (operand o (type_of s a)) (type_of s b)) (held (agrees (operand o (type_of s a)) (type_of s a) && agrees (operand o (type_of s a)) (type_of s b)) (Some (answer o)) t k).0 in
          let p = agreed (operand o (type_of s a)) (type_of s a) both.0 in
          let q = agreed (operand o (type_of s a)) (type_of s b) both.1 in
          (expr_calls a (below First here) p.0 h.0 p.1, expr_calls b (below Second here) q.0 h.1 q.1)
      expr_calls (choose at a b c) here t h k =
          let both = and_true (agrees (Some ty.Bool) (type_of s a)) (agrees (type_of s b) (type_of s c)) (held (agrees (Some ty.Bool) (type_of s a) && agrees (type_of s b) (type_of s c)) (type_of s b) t k).0 in
          let p = agreed (Some ty.Bool) (type_of s a) both.0 in
          let q = agreed_first (type_of s b) (type_of s c) both.1 in
          let r = agreed (type_of s b) (type_of s c) both.1 in
          (expr_calls a (below First here) p.0 h.0 p.1, expr_calls b (below Second here) q.0 h.1.0 q.1, expr_calls c (below Third here) r.0 h.1.1 r.1)
      expr_calls (pre at a) here t h k = expr_calls a (below First here) t h k
      expr_calls (fby at a b) here t h k =
          let e = (held (agrees (type_of s a) (type_of s b)) (type_of s a) t k).0 in
          let p = agreed_first (type_of s a) (type_of s b) e in
          let q = agreed (type_of s a) (type_of s b) e in
          (expr_calls a (below First here) p.0 h.0 p.1, expr_calls b (below Second here) q.0 h.1 q.1)
      expr_calls (arrow at a b) here t h k =
          let e = (held (agrees (type_of s a) (type_of s b)) (type_of s a) t k).0 in
          let p = agreed_first (type_of s a) (type_of s b) e in
          let q = agreed (type_of s a) (type_of s b) e in
          (expr_calls a (below First here) p.0 h.0 p.1, expr_calls b (below Second here) q.0 h.1 q.1)
      expr_calls (when_is at a c x) here t h k = expr_calls a (below First here) t h (held (agrees (lookup s.variables x) (cons_type s c)) (type_of s a) t k).1
      expr_calls (merge at x no_part) here t h k = absurd cc
      expr_calls (merge at x (more_parts c e ps)) here t h k =
          let name = lookup s.variables x in
          let g = held (chooses name && (agrees name (cons_type s c) && parts_fit s name (type_of s e) ps)) (type_of s e) t k in
          let fit = and_true (agrees name (cons_type s c)) (parts_fit s name (type_of s e) ps) (and_true (chooses name) (agrees name (cons_type s c) && parts_fit s name (type_of s e) ps) g.0).1 in
          (expr_calls e (below Head (below Args here)) t h.1.0 g.1, parts_calls ps (below Tail (below Args here)) name (type_of s e) h.1.1 fit.1)
      expr_calls (call at f inlined es) here t h k =
          let outs = only_one (outputs_in (lookup s.nodes f) (types_in s es)) t k in
          let p = found_in (lookup s.nodes f) (types_in s es) outs.0 outs.1 in
          (has f p.node (sym h.0 ∙ p.there), exprs_calls es (below Args here) p.node.inputs h.1 p.fit)

      exprs_calls : (es : Exprs) (here : Prefix) (ds : List Decl) → ExprsSound types among s lasts es → args_fit ds (types_in s es) ≡ true → EachCallOfAll Is es here
      exprs_calls no_expr here ds h k = tt
      exprs_calls (more_exprs e es) here [] h k = absurd cc
      exprs_calls (more_exprs e es) here (d ∷ ds) h k =
          let both = and_true (agrees (Some d.ty) (type_of s e)) (args_fit ds (types_in s es)) k in
          let p = agreed (Some d.ty) (type_of s e) both.0 in
          (expr_calls e (below Head here) p.0 h.0 p.1, exprs_calls es (below Tail here) ds h.1 both.1)

      parts_calls : (ps : Parts) (here : Prefix) (name first : Option Ty) → PartsSound types among s lasts ps → parts_fit s name first ps ≡ true → EachCallOfParts Is ps here
      parts_calls no_part here name first h k = tt
      parts_calls (more_parts c e ps) here name first h k =
          let both = and_true (agrees first (type_of s e)) (parts_fit s name first ps) (and_true (agrees name (cons_type s c)) (agrees first (type_of s e) && parts_fit s name first ps) k).1 in
          let p = agreed first (type_of s e) both.0 in
          (expr_calls e (below Head here) p.0 h.0 p.1, parts_calls ps (below Tail here) name first h.1 both.1)

    right_calls : (ys : List (List ℕ × Span)) (e : Expr) (here : Prefix) → RightSound types among s lasts ys e → EachCall Is e here
    right_calls ys (constant at c) here h = tt
    right_calls ys (variable at x) here h = tt
    right_calls ys (last_of at x) here h = tt
    right_calls ys (one at o a) here h = expr_calls (one at o a) here h.1.0 h.0 h.1.1.0
    right_calls ys (two at o a b) here h = expr_calls (two at o a b) here h.1.0 h.0 h.1.1.0
    right_calls ys (choose at a b c) here h = expr_calls (choose at a b c) here h.1.0 h.0 h.1.1.0
    right_calls ys (pre at a) here h = expr_calls (pre at a) here h.1.0 h.0 h.1.1.0
    right_calls ys (fby at a b) here h = expr_calls (fby at a b) here h.1.0 h.0 h.1.1.0
    right_calls ys (arrow at a b) here h = expr_calls (arrow at a b) here h.1.0 h.0 h.1.1.0
    right_calls ys (when_is at a c x) here h = expr_calls (when_is at a c x) here h.1.0 h.0 h.1.1.0
    right_calls ys (merge at x ps) here h = expr_calls (merge at x ps) here h.1.0 h.0 h.1.1.0
    right_calls ys (call at f inlined es) here h =
        let p = found_in (lookup s.nodes f) (types_in s es) h.1.0 h.1.1.0 in
        (has f p.node (sym h.0.0 ∙ p.there), exprs_calls es (below Args here) p.node.inputs h.0.1 p.fit)

  mutual
    block_calls : (s : Scope) (lasts : Lasts) (b : Block) (here : Prefix) → BlockSound types among s lasts b → EachCallIn Is b here
    block_calls s lasts (block ds es) here h = eqns_calls (with_variables s ds) (lasts_in ds lasts) es (below Equations here) h.1.1

    eqns_calls : (s : Scope) (lasts : Lasts) (es : Eqns) (here : Prefix) → EqnsSound types among s lasts es → EachCallInAll Is es here
    eqns_calls s lasts no_eqn here h = tt
    eqns_calls s lasts (more_eqns e es) here h = (eqn_calls s lasts e (below Head here) h.0, eqns_calls s lasts es (below Tail here) h.1)

    eqn_calls : (s : Scope) (lasts : Lasts) (e : Eqn) (here : Prefix) → EqnSound types among s lasts e → EachCallInOne Is e here
    eqn_calls s lasts (define at ys e) here h = right_calls s lasts ys e (below RightOf here) h
    eqn_calls s lasts (switch at e arms) here h = (expr_calls s lasts e (below Test here) h.1.0.0 h.0 h.1.0.1.0, arms_calls (switch at e arms) s lasts arms (below ArmsOf here) h.1.1)
    eqn_calls s lasts (reset at b e) here h = (expr_calls s lasts e (below Test here) ty.Bool h.0.0 h.0.1, block_calls s lasts b (below Body here) h.1)
    eqn_calls s lasts (automaton at ss) here h = tt

    arms_calls : (e : Eqn) (s : Scope) (lasts : Lasts) (arms : Arms) (here : Prefix) → ArmsSound types among e s lasts arms → EachCallInArms Is arms here
    arms_calls e s lasts no_arm here h = tt
    arms_calls e s lasts (more_arms c b at arms) here h = (block_calls s lasts b (below Head here) h.1.0, arms_calls e s lasts arms (below Tail here) h.1.1)

  pub node_calls : (s : Scope) (n : Node) → NodeSound types among s n → EachCallIn Is n.body in_body
  node_calls s n h = block_calls (body_scope s n) (lasts_in n.outputs no_lasts) n.body in_body h.1.1.1.1.0
