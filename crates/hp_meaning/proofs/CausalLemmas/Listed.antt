-- All that a place of a node depends on is a point of the node.
use Rattle.std.proofs.Common.{◌≡◌, ℕ, List, [], ◌∷◌, ◌++◌, map, refl, sym, subst}
use Rattle.std.specs.Prelude.{Bool, true, false, ◌&&◌, not, IsTrue, IsFalse, if◌then◌else◌, filter, cond, Option, None, Some}
use Rattle.std.specs.Str.{bytes_eq}
use Rattle.hp_base.specs.declared.span.Span.{Span}
use Rattle.hp_tree.specs.declared.block.Trans.{Trans}
use Rattle.hp_tree.specs.Expressions.{Expr, constant, variable, last_of, one, two, choose, pre, fby, arrow, when_is, merge, call, Exprs, no_expr, more_exprs, Parts, no_part, more_parts}
use Rattle.hp_tree.specs.Blocks.{Decl, Block, block, Eqns, no_eqn, more_eqns, Eqn, define, switch, reset, automaton, Arms, no_arm, more_arms, States, no_state, more_states}
use Rattle.hp_tree.specs.Programs.{Contract, Node}
use Rattle.hp_tree.specs.Instant.{Controls, Body, Observer, Assume, Enforce, Named, Equations, Head, Tail, Right, Test, Arms as ArmsOf, States as StatesOf, Until, Unless, Active, First, Second, Third, Args, Place, Clock, without}
use Rattle.hp_tree.specs.Meaning.{declares, is_among, defines, some_defines, block_defines, clock_of, names_of as declared_in, controls_of}
use Rattle.hp_meaning.specs.Causal.Sources.{Sources, none, only, both, also, Within, NameSources, PlaceSources, below, nowhere, at_state}
use Rattle.hp_meaning.specs.Causal.WhatIsRead.{of_clock, of_expr, of_exprs, of_parts, names_in, names_within, names_in_block, in_arms, in_states, of_conditions, strong_ones, weak_ones, at_expr, at_exprs, at_parts, at_conditions, of_definition, of_definitions, in_block, in_equations, in_equation, in_each_arm, in_each_state, control_in, has_equation, output_in, at_told, in_contract}
use Rattle.std.proofs.lemmas.Slice.Eq.{bytes_eq-Decides}
use Rattle.hp_meaning.specs.declared.causal.point.PointKind.TheVariants as kind
use Rattle.hp_meaning.specs.Causal.Causality.{sources}
use Rattle.hp_meaning.proofs.CausalLemmas.Everywhere.{whole_arms, whole_block, whole_body, whole_call, whole_merge, whole_one, whole_right, whole_row, whole_state, whole_three, whole_two, whole_words}
use Rattle.hp_meaning.specs.Causal.Points.{Placed, Whereabouts, calls, calls_in_all, calls_in_parts, conditions, lefts, defined_by, points_of, points_of_all, points_of_one, points_of_arms, points_of_states, controls, calls_told, points_of_contract, points, point_at, is_one_of, Declared, DeclaredInAll, DeclaredInOne, DeclaredInArms, DeclaredInStates, DeclaredInContract, NamesDeclared}
use Rattle.hp_meaning.proofs.CausalLemmas.Choices.{or_cases, both_true}

module _ (P : Place → Type 0) where
  -- the points of a list are in the set
  abbrev pub Each : List Placed → Type 0
  Each [] = Unit {0}
  Each (x ∷ xs) = P x.place × Each xs

  split : (xs ys : List Placed) → Each (xs ++ ys) → Each xs × Each ys
  split [] ys h = (tt, h)
  split (x ∷ xs) ys h = let t = split xs ys h.1 in ((h.0, t.0), t.1)

  abbrev AllNames : NameSources → Type 0
  AllNames names = (x : List ℕ) → Within P (names x)

  abbrev pub Whole : PlaceSources → Type 0
  Whole k = (p : Place) → Within P (k p)

  abbrev at_places : Whereabouts → PlaceSources
  at_places w p = only (w p)

  -- a choice
  picked : (d : Bool) (s t : Sources) → (IsTrue d → Within P s) → (IsFalse d → Within P t) → Within P (if d then s else t)
  picked true s t f g = f refl
  picked false s t f g = g refl

  clock_in : (clock : Clock) (names : NameSources) → AllNames names → Within P (of_clock clock names)
  clock_in [] names h = tt
  clock_in (on ∷ clock) names h = (h on.1, clock_in clock names h)

  -- ---- expressions

  mutual
    read : (e : Expr) (names : NameSources) (w : Whereabouts) → AllNames names → Each (calls e w) → Within P (of_expr e names (at_places w))
    read (constant s c) names w h cs = tt
    read (variable s x) names w h cs = h x
    read (last_of s x) names w h cs = tt
    read (one s o a) names w h cs = read a names (below First w) h cs
    read (two s o a b) names w h cs =
        let t = split (calls a (below First w)) (calls b (below Second w)) cs in
        (read a names (below First w) h t.0, read b names (below Second w) h t.1)
    read (choose s a b c) names w h cs =
        let t = split (calls a (below First w)) (calls b (below Second w) ++ calls c (below Third w)) cs in
        let u = split (calls b (below Second w)) (calls c (below Third w)) t.1 in
        (read a names (below First w) h t.0, (read b names (below Second w) h u.0, read c names (below Third w) h u.1))
    read (pre s a) names w h cs = tt
    read (fby s a b) names w h cs = read a names (below First w) h (split (calls a (below First w)) (calls b (below Second w)) cs).0
    read (arrow s a b) names w h cs =
        let t = split (calls a (below First w)) (calls b (below Second w)) cs in
        (read a names (below First w) h t.0, read b names (below Second w) h t.1)
    read (when_is s a c x) names w h cs = (h x, read a names (below First w) h cs)
    read (merge s x ps) names w h cs = (h x, parts_read ps names (below Args w) h cs)
    read (call s f inlined es) names w h cs = cs.0

    all_read : (es : Exprs) (names : NameSources) (w : Whereabouts) → AllNames names → Each (calls_in_all es w) → Within P (of_exprs es names (at_places w))
    all_read no_expr names w h cs = tt
    all_read (more_exprs e es) names w h cs =
        let t = split (calls e (below Head w)) (calls_in_all es (below Tail w)) cs in
        (read e names (below Head w) h t.0, all_read es names (below Tail w) h t.1)

    parts_read : (ps : Parts) (names : NameSources) (w : Whereabouts) → AllNames names → Each (calls_in_parts ps w) → Within P (of_parts ps names (at_places w))
    parts_read no_part names w h cs = tt
    parts_read (more_parts c e ps) names w h cs =
        let t = split (calls e (below Head w)) (calls_in_parts ps (below Tail w)) cs in
        (read e names (below Head w) h t.0, parts_read ps names (below Tail w) h t.1)

  mutual
    occurs : (e : Expr) (clock : Clock) (names : NameSources) (w : Whereabouts) → AllNames names → Each (calls e w) → Whole (at_expr e clock names (at_places w))
    occurs (constant s c) clock names w h cs = whole_one (Within P) tt (λ s t a b. (a, b)) _ nowhere (clock_in clock names h) (λ p. tt)
    occurs (variable s x) clock names w h cs = whole_one (Within P) tt (λ s t a b. (a, b)) (both (also (of_clock clock names)) (names x)) nowhere (clock_in clock names h, h x) (λ p. tt)
    occurs (last_of s x) clock names w h cs = λ p. tt
    occurs (one s o a) clock names w h cs =
        whole_one (Within P) tt (λ s t a b. (a, b)) (both (also (of_clock clock names)) (of_expr (one s o a) names (at_places w))) (at_expr a clock names (at_places (below First w)))
        (clock_in clock names h, read (one s o a) names w h cs) (occurs a clock names (below First w) h cs)
    occurs (two s o a b) clock names w h cs =
        let t = split (calls a (below First w)) (calls b (below Second w)) cs in
        whole_two (Within P) tt (λ s t a b. (a, b)) (both (also (of_clock clock names)) (of_expr (two s o a b) names (at_places w))) (at_expr a clock names (at_places (below First w))) (at_expr b clock names (at_places (below Second w)))
        (clock_in clock names h, read (two s o a b) names w h cs) (occurs a clock names (below First w) h t.0) (occurs b clock names (below Second w) h t.1)
    occurs (choose s a b c) clock names w h cs =
        let t = split (calls a (below First w)) (calls b (below Second w) ++ calls c (below Third w)) cs in
        let u = split (calls b (below Second w)) (calls c (below Third w)) t.1 in
        whole_three (Within P) tt (λ s t a b. (a, b)) (both (also (of_clock clock names)) (of_expr (choose s a b c) names (at_places w))) (at_expr a clock names (at_places (below First w))) (at_expr b clock names (at_places (below Second w))) (at_expr c clock names (at_places (below Third w)))
        (clock_in clock names h, read (choose s a b c) names w h cs) (occurs a clock names (below First w) h t.0) (occurs b clock names (below Second w) h u.0) (occurs c clock names (below Third w) h u.1)
    occurs (pre s a) clock names w h cs =
        whole_one (Within P) tt (λ s t a b. (a, b)) (also (of_clock clock names)) (at_expr a clock names (at_places (below First w))) (clock_in clock names h) (occurs a clock names (below First w) h cs)
    occurs (fby s a b) clock names w h cs =
        let t = split (calls a (below First w)) (calls b (below Second w)) cs in
        whole_two (Within P) tt (λ s t a b. (a, b)) (both (also (of_clock clock names)) (of_expr (fby s a b) names (at_places w))) (at_expr a clock names (at_places (below First w))) (at_expr b clock names (at_places (below Second w)))
        (clock_in clock names h, read (fby s a b) names w h cs) (occurs a clock names (below First w) h t.0) (occurs b clock names (below Second w) h t.1)
    occurs (arrow s a b) clock names w h cs =
        let t = split (calls a (below First w)) (calls b (below Second w)) cs in
        whole_two (Within P) tt (λ s t a b. (a, b)) (both (also (of_clock clock names)) (of_expr (arrow s a b) names (at_places w))) (at_expr a clock names (at_places (below First w))) (at_expr b clock names (at_places (below Second w)))
        (clock_in clock names h, read (arrow s a b) names w h cs) (occurs a clock names (below First w) h t.0) (occurs b clock names (below Second w) h t.1)
    occurs (when_is s a c x) clock names w h cs =
        whole_one (Within P) tt (λ s t a b. (a, b)) (both (also (of_clock clock names)) (of_expr (when_is s a c x) names (at_places w))) (at_expr a (without clock) names (at_places (below First w)))
        (clock_in clock names h, read (when_is s a c x) names w h cs) (occurs a (without clock) names (below First w) h cs)
    occurs (merge s x ps) clock names w h cs =
        whole_merge (Within P) tt (λ s t a b. (a, b)) (both (also (of_clock clock names)) (of_expr (merge s x ps) names (at_places w))) (at_parts ps x clock names (at_places (below Args w)))
        (clock_in clock names h, read (merge s x ps) names w h cs) (parts_occur ps x clock names (below Args w) h cs)
    occurs (call s f inlined es) clock names w h cs =
        whole_call (Within P) tt (λ s t a b. (a, b)) (both (also (of_clock clock names)) (of_exprs es names (at_places (below Args w)))) (both (also (of_clock clock names)) (only (w []))) (at_exprs es clock names (at_places (below Args w)))
        (clock_in clock names h, all_read es names (below Args w) h cs.1) (clock_in clock names h, cs.0) (all_occur es clock names (below Args w) h cs.1)

    all_occur : (es : Exprs) (clock : Clock) (names : NameSources) (w : Whereabouts) → AllNames names → Each (calls_in_all es w) → Whole (at_exprs es clock names (at_places w))
    all_occur no_expr clock names w h cs = λ p. tt
    all_occur (more_exprs e es) clock names w h cs =
        let t = split (calls e (below Head w)) (calls_in_all es (below Tail w)) cs in
        whole_row (Within P) tt (λ s t a b. (a, b)) (at_expr e clock names (at_places (below Head w))) (at_exprs es clock names (at_places (below Tail w)))
        (occurs e clock names (below Head w) h t.0) (all_occur es clock names (below Tail w) h t.1)

    parts_occur : (ps : Parts) (x : List ℕ) (clock : Clock) (names : NameSources) (w : Whereabouts) → AllNames names → Each (calls_in_parts ps w) → Whole (at_parts ps x clock names (at_places w))
    parts_occur no_part x clock names w h cs = λ p. tt
    parts_occur (more_parts c e ps) x clock names w h cs =
        let t = split (calls e (below Head w)) (calls_in_parts ps (below Tail w)) cs in
        whole_row (Within P) tt (λ s t a b. (a, b)) (at_expr e ((c, x) ∷ clock) names (at_places (below Head w))) (at_parts ps x clock names (at_places (below Tail w)))
        (occurs e ((c, x) ∷ clock) names (below Head w) h t.0) (parts_occur ps x clock names (below Tail w) h t.1)

  conditions_occur : (ts : List Trans) (names : NameSources) (w : Whereabouts) → AllNames names → Each (conditions ts w) → Whole (at_conditions ts names (at_places w))
  conditions_occur [] names w h cs = λ p. tt
  conditions_occur (t ∷ ts) names w h cs =
      let u = split (calls t.cond (below Head w)) (conditions ts (below Tail w)) cs.1 in
      whole_row (Within P) tt (λ s t a b. (a, b)) (at_expr t.cond [] names (at_places (below Head w))) (at_conditions ts names (at_places (below Tail w)))
      (occurs t.cond [] names (below Head w) h u.0) (conditions_occur ts names (below Tail w) h u.1)

  conditions_listed : (ts : List Trans) (w : Whereabouts) → Each (conditions ts w) → Within P (of_conditions ts (at_places w))
  conditions_listed [] w cs = tt
  conditions_listed (t ∷ ts) w cs =
      let u = split (calls t.cond (below Head w)) (conditions ts (below Tail w)) cs.1 in
      (cs.0, conditions_listed ts (below Tail w) u.1)

  -- ---- the definitions of names

  lefts_listed : (ys : List (List ℕ × Span)) (named : List ℕ → Place) (x : List ℕ) → Each (lefts ys named) → IsTrue (is_among ys x) → P (named x)
  lefts_listed [] named x cs t = absurd (cc)
  lefts_listed (y ∷ ys) named x cs t =
      or_cases (bytes_eq y.0 x) (is_among ys x) t
      (λ e. subst (λ z. P (named z)) ((bytes_eq-Decides y.0 x).0 e) cs.0)
      (λ u. lefts_listed ys named x cs.1 u)

  module _ (s : Span) (named : List ℕ → Place) where
    abbrev definitions_at : List (List ℕ) → List Placed
    definitions_at xs = map (λ x. point_at kind.Def x s (named x)) xs

    first_of_kept : (d : Bool) (y : List ℕ) (ys : List (List ℕ)) → Each (definitions_at (cond d (y ∷ ys) ys)) → IsTrue d → P (named y)
    first_of_kept true y ys cs t = cs.0
    first_of_kept false y ys cs t = absurd (cc)

    rest_of_kept : (d : Bool) (y : List ℕ) (ys : List (List ℕ)) → Each (definitions_at (cond d (y ∷ ys) ys)) → Each (definitions_at ys)
    rest_of_kept true y ys cs = cs.1
    rest_of_kept false y ys cs = cs

    kept_listed : (test : List ℕ → Bool) (declared : List (List ℕ)) (x : List ℕ) → Each (definitions_at (filter test declared)) → IsTrue (test x) → IsTrue (is_one_of declared x) → P (named x)
    kept_listed test [] x cs t m = absurd (cc)
    kept_listed test (y ∷ ys) x cs t m =
        or_cases (bytes_eq y x) (is_one_of ys x) m
        (λ e. let u : y ≡ x = (bytes_eq-Decides y x).0 e in subst (λ z. P (named z)) u (first_of_kept (test y) y (filter test ys) cs (subst (λ z. IsTrue (test z)) (sym u) t)))
        (λ r. kept_listed test ys x (rest_of_kept (test y) y (filter test ys) cs) t r)

  one_listed : (declared : List (List ℕ)) (named : List ℕ → Place) (e : Eqn) (w : Whereabouts) → DeclaredInOne declared e → Each (points_of_one declared named e w) → (x : List ℕ) → IsTrue (defines e x) → P (named x)
  one_listed declared named (define s ys e) w d cs x t = lefts_listed ys named x (split (lefts ys named) (calls e (below Right w)) cs).0 t
  one_listed declared named (switch s e arms) w d cs x t =
      kept_listed s named (defines (switch s e arms)) declared x (split (defined_by (switch s e arms) s declared named) (calls e (below Test w) ++ points_of_arms declared arms (below ArmsOf w)) cs).0 t (d.0 x t)
  one_listed declared named (reset s b e) w d cs x t =
      kept_listed s named (defines (reset s b e)) declared x (split (defined_by (reset s b e) s declared named) (points_of declared b (below Body w) ++ calls e (below Test w)) cs).0 t (d.0 x t)
  one_listed declared named (automaton s ss) w d cs x t =
      kept_listed s named (defines (automaton s ss)) declared x (split (defined_by (automaton s ss) s declared named) (points_of_states declared ss (below StatesOf w)) cs.1.1).0 t (d.0 x t)

  some_listed : (declared : List (List ℕ)) (named : List ℕ → Place) (es : Eqns) (w : Whereabouts) → DeclaredInAll declared es → Each (points_of_all declared named es w) → (x : List ℕ) → IsTrue (some_defines es x) → P (named x)
  some_listed declared named no_eqn w d cs x t = absurd (cc)
  some_listed declared named (more_eqns e es) w d cs x t =
      let u = split (points_of_one declared named e (below Head w)) (points_of_all declared named es (below Tail w)) cs in
      or_cases (defines e x) (some_defines es x) t
      (one_listed declared named e (below Head w) d.0 u.0 x)
      (some_listed declared named es (below Tail w) d.1 u.1 x)

  block_listed : (declared : List (List ℕ)) (b : Block) (w : Whereabouts) → Declared declared b → Each (points_of declared b w) → (x : List ℕ) → IsTrue (block_defines b x) → P (w (Named x ∷ []))
  block_listed declared (block ds es) w d cs x t =
      some_listed (declared ++ declared_in ds) (λ x. w (Named x ∷ [])) es (below Equations w) d cs x (both_true (some_defines es x) (not (declares ds x)) t).0

  arms_listed : (declared : List (List ℕ)) (arms : Arms) (w : Whereabouts) → DeclaredInArms declared arms → Each (points_of_arms declared arms w) → (x : List ℕ) → Within P (in_arms arms (at_places w) x)
  arms_listed declared no_arm w d cs x = tt
  arms_listed declared (more_arms c b s arms) w d cs x =
      let u = split (points_of declared b (below Head w)) (points_of_arms declared arms (below Tail w)) cs in (
        picked (block_defines b x) (only (w (Head ∷ Named x ∷ []))) none (block_listed declared b (below Head w) d.0 u.0 x) (λ f. tt),
        arms_listed declared arms (below Tail w) d.1 u.1 x,
      )

  -- the parts of a state's points
  module _ (declared : List (List ℕ)) (b : Block) (until unless : List Trans) (ss : States) (w : Whereabouts) where
    abbrev kb : Whereabouts
    kb = below Body (below Head w)

    parts_of_state : Each (points_of declared b kb ++ (conditions until (below Until (below Head w)) ++ (conditions unless (below Unless (below Head w)) ++ points_of_states declared ss (below Tail w)))) → Each (points_of declared b kb) × Each (conditions until (below Until (below Head w))) × Each (conditions unless (below Unless (below Head w))) × Each (points_of_states declared ss (below Tail w))
    parts_of_state cs =
        let t = split (points_of declared b kb) (conditions until (below Until (below Head w)) ++ (conditions unless (below Unless (below Head w)) ++ points_of_states declared ss (below Tail w))) cs in
        let u = split (conditions until (below Until (below Head w))) (conditions unless (below Unless (below Head w)) ++ points_of_states declared ss (below Tail w)) t.1 in
        let v = split (conditions unless (below Unless (below Head w))) (points_of_states declared ss (below Tail w)) u.1 in
        (t.0, u.0, v.0, v.1)

  states_listed : (declared : List (List ℕ)) (ss : States) (w : Whereabouts) → DeclaredInStates declared ss → Each (points_of_states declared ss w) → (x : List ℕ) → Within P (in_states ss (at_places w) x)
  states_listed declared no_state w d cs x = tt
  states_listed declared (more_states f b until unless s ss) w d cs x =
      let u = parts_of_state declared b until unless ss w cs in (
        picked (block_defines b x) (only (w (Head ∷ Body ∷ Named x ∷ []))) none (block_listed declared b (below Body (below Head w)) d.0 u.0 x) (λ f. tt),
        states_listed declared ss (below Tail w) d.1 u.3 x,
      )

  strong_listed : (declared : List (List ℕ)) (ss : States) (w : Whereabouts) → Each (points_of_states declared ss w) → Within P (strong_ones ss (at_places w))
  strong_listed declared no_state w cs = tt
  strong_listed declared (more_states f b until unless s ss) w cs =
      let u = parts_of_state declared b until unless ss w cs in
      (conditions_listed unless (below Unless (below Head w)) u.2, strong_listed declared ss (below Tail w) u.3)

  weak_listed : (declared : List (List ℕ)) (ss : States) (w : Whereabouts) → Each (points_of_states declared ss w) → Within P (weak_ones ss (at_places w))
  weak_listed declared no_state w cs = tt
  weak_listed declared (more_states f b until unless s ss) w cs =
      let u = parts_of_state declared b until unless ss w cs in
      (conditions_listed until (below Until (below Head w)) u.1, weak_listed declared ss (below Tail w) u.3)

  definition_listed : (declared : List (List ℕ)) (named : List ℕ → Place) (ds : List Decl) (e : Eqn) (names : NameSources) (w : Whereabouts) → AllNames names → DeclaredInOne declared e → Each (points_of_one declared named e w) → (x : List ℕ) → IsTrue (defines e x) → Within P (of_definition ds e names (at_places w) x)
  definition_listed declared named ds (define s ys e) names w h d cs x t =
      (clock_in (clock_of ds ys e) names h, read e names (below Right w) h (split (lefts ys named) (calls e (below Right w)) cs).1)
  definition_listed declared named ds (switch s e arms) names w h d cs x t =
      let u = split (defined_by (switch s e arms) s declared named) (calls e (below Test w) ++ points_of_arms declared arms (below ArmsOf w)) cs in
      let v = split (calls e (below Test w)) (points_of_arms declared arms (below ArmsOf w)) u.1 in
      (read e names (below Test w) h v.0, arms_listed declared arms (below ArmsOf w) d.1 v.1 x)
  definition_listed declared named ds (reset s b e) names w h d cs x t =
      let u = split (defined_by (reset s b e) s declared named) (points_of declared b (below Body w) ++ calls e (below Test w)) cs in
      let v = split (points_of declared b (below Body w)) (calls e (below Test w)) u.1 in
      (read e names (below Test w) h v.1, block_listed declared b (below Body w) d.1 v.0 x t)
  definition_listed declared named ds (automaton s ss) names w h d cs x t =
      let u = split (defined_by (automaton s ss) s declared named) (points_of_states declared ss (below StatesOf w)) cs.1.1 in
      (cs.0, states_listed declared ss (below StatesOf w) d.1 u.1 x)

  definitions_listed : (declared : List (List ℕ)) (named : List ℕ → Place) (ds : List Decl) (es : Eqns) (names : NameSources) (w : Whereabouts) → AllNames names → DeclaredInAll declared es → Each (points_of_all declared named es w) → AllNames (of_definitions ds es names (at_places w))
  definitions_listed declared named ds no_eqn names w h d cs x = tt
  definitions_listed declared named ds (more_eqns e es) names w h d cs x =
      let u = split (points_of_one declared named e (below Head w)) (points_of_all declared named es (below Tail w)) cs in
      picked (defines e x) (of_definition ds e names (at_places (below Head w)) x) (of_definitions ds es names (at_places (below Tail w)) x)
      (definition_listed declared named ds e names (below Head w) h d.0 u.0 x)
      (λ f. definitions_listed declared named ds es names (below Tail w) h d.1 u.1 x)

  -- ---- blocks

  inside_listed : (declared : List (List ℕ)) (es : Eqns) (names : NameSources) (w : Whereabouts) → AllNames names → DeclaredInAll declared es → Each (points_of_all declared (λ x. w (Named x ∷ [])) es (below Equations w)) → AllNames (names_in es names (at_places w))
  inside_listed declared es names w h d cs x =
      picked (some_defines es x) (only (w (Named x ∷ []))) (names x)
      (some_listed declared (λ x. w (Named x ∷ [])) es (below Equations w) d cs x) (λ f. h x)

  within_listed : (e : Eqn) (names : NameSources) → AllNames names → AllNames (names_within e names)
  within_listed e names h x = picked (defines e x) none (names x) (λ t. tt) (λ f. h x)

  pub names_of_listed : (declared : List (List ℕ)) (b : Block) (names : NameSources) (w : Whereabouts) → AllNames names → Declared declared b → Each (points_of declared b w) → AllNames (names_in_block b names (at_places w))
  names_of_listed declared (block ds es) names w h d cs = inside_listed (declared ++ declared_in ds) es names w h d cs

  mutual
    block_whole : (declared : List (List ℕ)) (b : Block) (names : NameSources) (w : Whereabouts) → AllNames names → Declared declared b → Each (points_of declared b w) → Whole (in_block b names (at_places w))
    block_whole declared (block ds es) names w h d cs =
        let declared' = declared ++ declared_in ds in
        let named : List ℕ → Place = λ x. w (Named x ∷ []) in
        let names' = names_in es names (at_places w) in
        let h' = inside_listed declared' es names w h d cs in
        whole_block (Within P) tt (λ s t a b. (a, b)) (of_definitions ds es names' (at_places (below Equations w))) (in_equations ds es names' (at_places (below Equations w)))
        (definitions_listed declared' named ds es names' (below Equations w) h' d cs)
        (equations_whole declared' named ds es names' (below Equations w) h' d cs)

    equations_whole : (declared : List (List ℕ)) (named : List ℕ → Place) (ds : List Decl) (es : Eqns) (names : NameSources) (w : Whereabouts) → AllNames names → DeclaredInAll declared es → Each (points_of_all declared named es w) → Whole (in_equations ds es names (at_places w))
    equations_whole declared named ds no_eqn names w h d cs = λ p. tt
    equations_whole declared named ds (more_eqns e es) names w h d cs =
        let u = split (points_of_one declared named e (below Head w)) (points_of_all declared named es (below Tail w)) cs in
        whole_row (Within P) tt (λ s t a b. (a, b)) (in_equation ds e names (at_places (below Head w))) (in_equations ds es names (at_places (below Tail w)))
        (equation_whole declared named ds e names (below Head w) h d.0 u.0)
        (equations_whole declared named ds es names (below Tail w) h d.1 u.1)

    equation_whole : (declared : List (List ℕ)) (named : List ℕ → Place) (ds : List Decl) (e : Eqn) (names : NameSources) (w : Whereabouts) → AllNames names → DeclaredInOne declared e → Each (points_of_one declared named e w) → Whole (in_equation ds e names (at_places w))
    equation_whole declared named ds (define s ys e) names w h d cs =
        whole_right (Within P) tt (λ s t a b. (a, b)) (at_expr e (clock_of ds ys e) names (at_places (below Right w)))
        (occurs e (clock_of ds ys e) names (below Right w) h (split (lefts ys named) (calls e (below Right w)) cs).1)
    equation_whole declared named ds (switch s e arms) names w h d cs =
        let u = split (defined_by (switch s e arms) s declared named) (calls e (below Test w) ++ points_of_arms declared arms (below ArmsOf w)) cs in
        let v = split (calls e (below Test w)) (points_of_arms declared arms (below ArmsOf w)) u.1 in
        let names' = names_within (switch s e arms) names in
        whole_arms (Within P) tt (λ s t a b. (a, b)) (at_expr e [] names (at_places (below Test w))) (of_expr e names (at_places (below Test w))) (in_each_arm arms names' (at_places (below ArmsOf w)))
        (occurs e [] names (below Test w) h v.0) (read e names (below Test w) h v.0)
        (arms_whole declared arms names' (below ArmsOf w) (within_listed (switch s e arms) names h) d.1 v.1)
    equation_whole declared named ds (reset s b e) names w h d cs =
        let u = split (defined_by (reset s b e) s declared named) (points_of declared b (below Body w) ++ calls e (below Test w)) cs in
        let v = split (points_of declared b (below Body w)) (calls e (below Test w)) u.1 in
        let names' = names_within (reset s b e) names in
        whole_body (Within P) tt (λ s t a b. (a, b)) (at_expr e [] names (at_places (below Test w))) (of_expr e names (at_places (below Test w))) (in_block b names' (at_places (below Body w)))
        (occurs e [] names (below Test w) h v.1) (read e names (below Test w) h v.1)
        (block_whole declared b names' (below Body w) (within_listed (reset s b e) names h) d.1 v.0)
    equation_whole declared named ds (automaton s ss) names w h d cs =
        let u = split (defined_by (automaton s ss) s declared named) (points_of_states declared ss (below StatesOf w)) cs.1.1 in
        let active = only (w (Active ∷ [])) in
        let names' = names_within (automaton s ss) names in
        whole_words (Within P) tt (λ s t a b. (a, b)) (strong_ones ss (at_places (below StatesOf w))) (both (also active) (weak_ones ss (at_places (below StatesOf w)))) (in_each_state ss active names names' (at_places (below StatesOf w)))
        (strong_listed declared ss (below StatesOf w) u.1)
        (cs.0, weak_listed declared ss (below StatesOf w) u.1)
        (states_whole declared ss active names names' (below StatesOf w) cs.0 h (within_listed (automaton s ss) names h) d.1 u.1)

    arms_whole : (declared : List (List ℕ)) (arms : Arms) (names : NameSources) (w : Whereabouts) → AllNames names → DeclaredInArms declared arms → Each (points_of_arms declared arms w) → Whole (in_each_arm arms names (at_places w))
    arms_whole declared no_arm names w h d cs = λ p. tt
    arms_whole declared (more_arms c b s arms) names w h d cs =
        let u = split (points_of declared b (below Head w)) (points_of_arms declared arms (below Tail w)) cs in
        whole_row (Within P) tt (λ s t a b. (a, b)) (in_block b names (at_places (below Head w))) (in_each_arm arms names (at_places (below Tail w)))
        (block_whole declared b names (below Head w) h d.0 u.0) (arms_whole declared arms names (below Tail w) h d.1 u.1)

    states_whole : (declared : List (List ℕ)) (ss : States) (active : Sources) (out names : NameSources) (w : Whereabouts) → Within P active → AllNames out → AllNames names → DeclaredInStates declared ss → Each (points_of_states declared ss w) → Whole (in_each_state ss active out names (at_places w))
    states_whole declared no_state active out names w a ho h d cs = λ p. tt
    states_whole declared (more_states f b until unless s ss) active out names w a ho h d cs =
        let u = parts_of_state declared b until unless ss w cs in
        let wb = below Body (below Head w) in
        let names' = names_in_block b names (at_places wb) in
        whole_row (Within P) tt (λ s t a b. (a, b))
        (at_state active (in_block b names (at_places wb)) (at_conditions until names' (at_places (below Until (below Head w)))) (at_conditions unless out (at_places (below Unless (below Head w)))))
        (in_each_state ss active out names (at_places (below Tail w)))
        (whole_state (Within P) tt (λ s t a b. (a, b)) active (in_block b names (at_places wb)) (at_conditions until names' (at_places (below Until (below Head w)))) (at_conditions unless out (at_places (below Unless (below Head w))))
        a (block_whole declared b names wb h d.0 u.0)
        (conditions_occur until names' (below Until (below Head w)) (names_of_listed declared b names wb h d.0 u.0) u.1)
        (conditions_occur unless out (below Unless (below Head w)) ho u.2))
        (states_whole declared ss active out names (below Tail w) a ho h d.1 u.3)

  -- ---- a node

  control_listed : (ds : List Decl) (w : Whereabouts) → Each (controls ds w) → AllNames (control_in ds (at_places w))
  control_listed [] w cs x = tt
  control_listed (d ∷ ds) w cs x =
      picked (bytes_eq d.name x) (only (w (Head ∷ []))) (control_in ds (at_places (below Tail w)) x) (λ t. cs.0) (λ f. control_listed ds (below Tail w) cs.1 x)

  told_whole : (e : Option Expr) (names : NameSources) (w : Whereabouts) → AllNames names → Each (calls_told e w) → Whole (at_told e names (at_places w))
  told_whole None names w h cs = λ p. tt
  told_whole (Some e) names w h cs = occurs e [] names w h cs

  contract_whole : (c : Option Contract) (names : NameSources) → AllNames names → DeclaredInContract c → Each (points_of_contract c (λ p. p)) → Whole (in_contract c names only)
  contract_whole None names h d cs p = tt
  contract_whole (Some c) names h d cs p = go p
    where
      t : Each (points_of [] c.body (λ q. Observer ∷ q)) × Each (calls_told c.assume (λ q. Assume ∷ q)) × Each (calls_told c.enforce (λ q. Enforce ∷ q))
      t =
          let u = split (points_of [] c.body (λ q. Observer ∷ q)) (calls_told c.assume (λ q. Assume ∷ q) ++ calls_told c.enforce (λ q. Enforce ∷ q)) cs in
          let v = split (calls_told c.assume (λ q. Assume ∷ q)) (calls_told c.enforce (λ q. Enforce ∷ q)) u.1 in
          (u.0, v.0, v.1)

      own : AllNames (names_in_block c.body names (below Observer only))
      own = names_of_listed [] c.body names (λ q. Observer ∷ q) h d t.0

      go : (q : Place) → Within P (in_contract (Some c) names only q)
      go (Observer ∷ q) = block_whole [] c.body names (λ q. Observer ∷ q) h d t.0 q
      go (Assume ∷ q) = told_whole c.assume (names_in_block c.body names (below Observer only)) (λ q. Assume ∷ q) own t.1 q
      go (Enforce ∷ q) = told_whole c.enforce (names_in_block c.body names (below Observer only)) (λ q. Enforce ∷ q) own t.2 q
      go q = tt

  has_listed : (declared : List (List ℕ)) (b : Block) (w : Whereabouts) → Declared declared b → Each (points_of declared b w) → (x : List ℕ) → IsTrue (has_equation b x) → P (w (Named x ∷ []))
  has_listed declared (block ds es) w d cs x t = some_listed (declared ++ declared_in ds) (λ x. w (Named x ∷ [])) es (below Equations w) d cs x t

  -- What is read in a node are its points.
  pub node_whole : (n : Node) → NamesDeclared n → Each (points n) → Whole (sources n)
  node_whole n d cs = go
    where
      t : Each (controls (controls_of n.contract) (λ p. Controls ∷ p)) × Each (points_of_contract n.contract (λ p. p)) × Each (points_of (declared_in n.outputs) n.body (λ p. Body ∷ p))
      t =
          let u = split (controls (controls_of n.contract) (λ p. Controls ∷ p)) (points_of_contract n.contract (λ p. p) ++ points_of (declared_in n.outputs) n.body (λ p. Body ∷ p)) cs in
          let v = split (points_of_contract n.contract (λ p. p)) (points_of (declared_in n.outputs) n.body (λ p. Body ∷ p)) u.1 in
          (u.0, v.0, v.1)

      outputs_listed : AllNames (output_in n (below Body only))
      outputs_listed x =
          picked (declares n.outputs x && has_equation n.body x) (only (Body ∷ Named x ∷ [])) none
          (λ e. has_listed (declared_in n.outputs) n.body (λ p. Body ∷ p) d.1 t.2 x (both_true (declares n.outputs x) (has_equation n.body x) e).1) (λ f. tt)

      go : (p : Place) → Within P (sources n p)
      go (Named x ∷ []) = outputs_listed x
      go (Body ∷ p) =
          block_whole (declared_in n.outputs) n.body (control_in (controls_of n.contract) (below Controls only)) (λ q. Body ∷ q)
          (control_listed (controls_of n.contract) (λ q. Controls ∷ q) t.0) d.1 t.2 p
      go p = contract_whole n.contract (output_in n (below Body only)) outputs_listed d.0 t.1 p
