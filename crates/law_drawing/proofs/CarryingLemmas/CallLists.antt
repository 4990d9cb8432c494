-- The calls of a block, as they are drawn: they are those points that are calls.
use Rattle.std.proofs.Common.{◌≡◌, ℕ, List, [], ◌∷◌, ◌++◌, map, filter, refl, ap, ◌∙◌}
use Rattle.std.proofs.lemmas.List.Elements.{filter-append}
use Rattle.hp_base.specs.declared.span.Span.{Span}
use Rattle.hp_tree.specs.declared.block.Trans.{Trans}
use Rattle.hp_tree.specs.Expressions.{Expr, constant, variable, last_of, one, two, choose, pre, fby, arrow, when_is, merge, call, Exprs, no_expr, more_exprs, Parts, no_part, more_parts}
use Rattle.hp_tree.specs.Blocks.{Block, block, Eqns, no_eqn, more_eqns, Eqn, define, switch, reset, automaton, Arms, no_arm, more_arms, States, no_state, more_states}
use Rattle.hp_tree.specs.Instant.{Named, Equations, Head, Tail, Right, Test, Arms as ArmsOf, States as StatesOf, Until, Unless, Body, First, Second, Third, Args, Place}
use Rattle.hp_tree.specs.Meaning.{defines, names_of}
use Rattle.hp_meaning.specs.declared.causal.point.PointKind.TheVariants as kind
use Rattle.hp_meaning.specs.Causal.Points.{Placed, point_at, calls, calls_in_all, calls_in_parts, conditions, lefts, defined_by, points_of, points_of_all, points_of_one, points_of_arms, points_of_states}
use Rattle.hp_meaning.specs.Causal.Sources.{below}
use Rattle.hp_meaning.specs.Contract.FreePlaces.{is_call}

abbrev pub calls_in_conditions : List Trans → (Place → Place) → List Placed
calls_in_conditions [] w = []
calls_in_conditions (t ∷ ts) w = calls t.cond (below Head w) ++ calls_in_conditions ts (below Tail w)

abbrev mutual
  pub calls_in_block : Block → (Place → Place) → List Placed
  calls_in_block (block ds es) w = calls_in_eqns es (below Equations w)

  pub calls_in_eqns : Eqns → (Place → Place) → List Placed
  calls_in_eqns no_eqn w = []
  calls_in_eqns (more_eqns e es) w = calls_in_eqn e (below Head w) ++ calls_in_eqns es (below Tail w)

  pub calls_in_eqn : Eqn → (Place → Place) → List Placed
  calls_in_eqn (define s ys e) w = calls e (below Right w)
  calls_in_eqn (switch s e arms) w = calls e (below Test w) ++ calls_in_arms arms (below ArmsOf w)
  calls_in_eqn (reset s b e) w = calls_in_block b (below Body w) ++ calls e (below Test w)
  calls_in_eqn (automaton s ss) w = calls_in_states ss (below StatesOf w)

  pub calls_in_arms : Arms → (Place → Place) → List Placed
  calls_in_arms no_arm w = []
  calls_in_arms (more_arms c b s arms) w = calls_in_block b (below Head w) ++ calls_in_arms arms (below Tail w)

  pub calls_in_states : States → (Place → Place) → List Placed
  calls_in_states no_state w = []
  calls_in_states (more_states f b until unless s ss) w =
      calls_in_block b (below Body (below Head w)) ++ (calls_in_conditions until (below Until (below Head w)) ++ (calls_in_conditions unless (below Unless (below Head w)) ++ calls_in_states ss (below Tail w)))

abbrev pub called : List Placed → List Placed
called ps = filter (λ c. is_call c.point.kind) ps

pub called-join : (ps qs ps' qs' : List Placed) → called ps ≡ ps' → called qs ≡ qs' → called (ps ++ qs) ≡ ps' ++ qs'
called-join ps qs ps' qs' e f = filter-append (λ c. is_call c.point.kind) ps qs ∙ ap (λ l. l ++ called qs) e ∙ ap (λ l. ps' ++ l) f

mutual
  pub all-called : (e : Expr) (w : Place → Place) → called (calls e w) ≡ calls e w
  all-called (constant s c) w = refl
  all-called (variable s x) w = refl
  all-called (last_of s x) w = refl
  all-called (one s o a) w = all-called a (below First w)
  all-called (two s o a b) w = called-join (calls a (below First w)) (calls b (below Second w)) (calls a (below First w)) (calls b (below Second w)) (all-called a (below First w)) (all-called b (below Second w))
  all-called (choose s a b c) w =
      called-join (calls a (below First w)) (calls b (below Second w) ++ calls c (below Third w)) (calls a (below First w)) (calls b (below Second w) ++ calls c (below Third w)) (all-called a (below First w))
      (called-join (calls b (below Second w)) (calls c (below Third w)) (calls b (below Second w)) (calls c (below Third w)) (all-called b (below Second w)) (all-called c (below Third w)))
  all-called (pre s a) w = all-called a (below First w)
  all-called (fby s a b) w = called-join (calls a (below First w)) (calls b (below Second w)) (calls a (below First w)) (calls b (below Second w)) (all-called a (below First w)) (all-called b (below Second w))
  all-called (arrow s a b) w = called-join (calls a (below First w)) (calls b (below Second w)) (calls a (below First w)) (calls b (below Second w)) (all-called a (below First w)) (all-called b (below Second w))
  all-called (when_is s a c x) w = all-called a (below First w)
  all-called (merge s x ps) w = parts-called ps (below Args w)
  all-called (call s f inl es) w = ap (λ l. point_at kind.Call f s (w []) ∷ l) (exprs-called es (below Args w))

  exprs-called : (es : Exprs) (w : Place → Place) → called (calls_in_all es w) ≡ calls_in_all es w
  exprs-called no_expr w = refl
  exprs-called (more_exprs e es) w = called-join (calls e (below Head w)) (calls_in_all es (below Tail w)) (calls e (below Head w)) (calls_in_all es (below Tail w)) (all-called e (below Head w)) (exprs-called es (below Tail w))

  parts-called : (ps : Parts) (w : Place → Place) → called (calls_in_parts ps w) ≡ calls_in_parts ps w
  parts-called no_part w = refl
  parts-called (more_parts c e ps) w = called-join (calls e (below Head w)) (calls_in_parts ps (below Tail w)) (calls e (below Head w)) (calls_in_parts ps (below Tail w)) (all-called e (below Head w)) (parts-called ps (below Tail w))

conditions-called : (ts : List Trans) (w : Place → Place) → called (conditions ts w) ≡ calls_in_conditions ts w
conditions-called [] w = refl
conditions-called (t ∷ ts) w = called-join (calls t.cond (below Head w)) (conditions ts (below Tail w)) (calls t.cond (below Head w)) (calls_in_conditions ts (below Tail w)) (all-called t.cond (below Head w)) (conditions-called ts (below Tail w))

lefts-called : (ys : List (List ℕ × Span)) (named : List ℕ → Place) → called (lefts ys named) ≡ []
lefts-called [] named = refl
lefts-called (y ∷ ys) named = lefts-called ys named

defined-called : (s : Span) (xs : List (List ℕ)) (named : List ℕ → Place) → called (map (λ x. point_at kind.Def x s (named x)) xs) ≡ []
defined-called s [] named = refl
defined-called s (x ∷ xs) named = defined-called s xs named

mutual
  pub block-called : (declared : List (List ℕ)) (b : Block) (w : Place → Place) → called (points_of declared b w) ≡ calls_in_block b w
  block-called declared (block ds es) w = eqns-called (declared ++ names_of ds) (λ x. w (Named x ∷ [])) es (below Equations w)

  eqns-called : (declared : List (List ℕ)) (named : List ℕ → Place) (es : Eqns) (w : Place → Place) → called (points_of_all declared named es w) ≡ calls_in_eqns es w
  eqns-called declared named no_eqn w = refl
  eqns-called declared named (more_eqns e es) w =
      called-join (points_of_one declared named e (below Head w)) (points_of_all declared named es (below Tail w)) (calls_in_eqn e (below Head w)) (calls_in_eqns es (below Tail w)) (eqn-called declared named e (below Head w)) (eqns-called declared named es (below Tail w))

  eqn-called : (declared : List (List ℕ)) (named : List ℕ → Place) (e : Eqn) (w : Place → Place) → called (points_of_one declared named e w) ≡ calls_in_eqn e w
  eqn-called declared named (define s ys e) w = called-join (lefts ys named) (calls e (below Right w)) [] (calls e (below Right w)) (lefts-called ys named) (all-called e (below Right w))
  eqn-called declared named (switch s e arms) w =
      called-join (defined_by (switch s e arms) s declared named) (calls e (below Test w) ++ points_of_arms declared arms (below ArmsOf w)) [] (calls e (below Test w) ++ calls_in_arms arms (below ArmsOf w)) (defined-called s (filter (defines (switch s e arms)) declared) named)
      (called-join (calls e (below Test w)) (points_of_arms declared arms (below ArmsOf w)) (calls e (below Test w)) (calls_in_arms arms (below ArmsOf w)) (all-called e (below Test w)) (arms-called declared arms (below ArmsOf w)))
  eqn-called declared named (reset s b e) w =
      called-join (defined_by (reset s b e) s declared named) (points_of declared b (below Body w) ++ calls e (below Test w)) [] (calls_in_block b (below Body w) ++ calls e (below Test w)) (defined-called s (filter (defines (reset s b e)) declared) named)
      (called-join (points_of declared b (below Body w)) (calls e (below Test w)) (calls_in_block b (below Body w)) (calls e (below Test w)) (block-called declared b (below Body w)) (all-called e (below Test w)))
  eqn-called declared named (automaton s ss) w =
      called-join (defined_by (automaton s ss) s declared named) (points_of_states declared ss (below StatesOf w)) [] (calls_in_states ss (below StatesOf w)) (defined-called s (filter (defines (automaton s ss)) declared) named) (states-called declared ss (below StatesOf w))

  arms-called : (declared : List (List ℕ)) (arms : Arms) (w : Place → Place) → called (points_of_arms declared arms w) ≡ calls_in_arms arms w
  arms-called declared no_arm w = refl
  arms-called declared (more_arms c b s arms) w =
      called-join (points_of declared b (below Head w)) (points_of_arms declared arms (below Tail w)) (calls_in_block b (below Head w)) (calls_in_arms arms (below Tail w)) (block-called declared b (below Head w)) (arms-called declared arms (below Tail w))

  states-called : (declared : List (List ℕ)) (ss : States) (w : Place → Place) → called (points_of_states declared ss w) ≡ calls_in_states ss w
  states-called declared no_state w = refl
  states-called declared (more_states f b until unless s ss) w =
      let wb = below Body (below Head w) in
      let wu = below Until (below Head w) in
      let wl = below Unless (below Head w) in
      let wt = below Tail w in
      called-join (points_of declared b wb) (conditions until wu ++ (conditions unless wl ++ points_of_states declared ss wt)) (calls_in_block b wb) (calls_in_conditions until wu ++ (calls_in_conditions unless wl ++ calls_in_states ss wt)) (block-called declared b wb)
      (called-join (conditions until wu) (conditions unless wl ++ points_of_states declared ss wt) (calls_in_conditions until wu) (calls_in_conditions unless wl ++ calls_in_states ss wt) (conditions-called until wu)
      (called-join (conditions unless wl) (points_of_states declared ss wt) (calls_in_conditions unless wl) (calls_in_states ss wt) (conditions-called unless wl) (states-called declared ss wt)))
