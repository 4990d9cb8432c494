-- Where a rank falls along each edge, it falls along all that a vertex depends on.
use Rattle.std.proofs.Common.{◌≡◌, inl, inr, ⊎_elim, codes, ℕ, ◌+◌, ◌<◌, List, [], ◌∷◌, ◌++◌, Bool, true, false, IsTrue, ◌||◌, not, if◌then◌else◌, Option, None, Some, refl, sym, ap, subst, ◌∙◌, arith}
use Rattle.std.specs.Str.{bytes_eq}
use Rattle.std.proofs.lemmas.Slice.Eq.{bytes_eq-Decides}
use Rattle.hp_base.specs.declared.span.Span.{Span}
use Rattle.hp_tree.specs.declared.block.Trans.{Trans}
use Rattle.hp_tree.specs.Expressions.{Expr, constant, variable, last_of, one, two, choose, pre, fby, arrow, when_is, merge, call, Exprs, no_expr, more_exprs, Parts, no_part, more_parts}
use Rattle.hp_tree.specs.Blocks.{Decl, Block, block, Eqns, no_eqn, more_eqns, Eqn, define, switch, reset, automaton, Arms, no_arm, more_arms, States, no_state, more_states}
use Rattle.hp_tree.specs.Programs.{Contract, Node}
use Rattle.hp_tree.specs.Instant.{Controls, Body, Observer, Assume, Enforce, Named, Fresh, Equations, Head, Tail, Right, Test, Arms as ArmsOf, States as StatesOf, Until, Unless, Active, Next, First, Second, Third, Args, Place, Clock, without}
use Rattle.hp_tree.specs.Meaning.{declares, is_among, defines, some_defines, block_defines, clock_of, controls_of, names_of as declared_names}
use Rattle.hp_meaning.specs.Causal.Points.{span_of, Whereabouts, is_one_of, Declared, DeclaredInAll, DeclaredInOne, DeclaredInArms, DeclaredInStates, DeclaredInContract, NamesDeclared}
use Rattle.hp_meaning.specs.Causal.Sources.{Sources, none, only, both, also, NameSources, PlaceSources, below}
use Rattle.hp_meaning.specs.Causal.WhatIsRead.{of_clock, of_expr as reads_of, of_exprs as reads_of_all, of_parts as reads_of_parts, names_in as names_inside, names_within, names_in_block, in_arms, in_states, of_conditions, strong_ones, weak_ones, control_in, output_in, at_expr, at_exprs, at_parts, at_conditions, of_definition as reads_of_definition, of_definitions, in_block, in_equations, in_equation, in_each_arm, in_each_state, at_told, in_contract}
use Rattle.hp_meaning.specs.declared.causal.point.PointKind.TheVariants as kind
use Rattle.hp_meaning.specs.Causal.Causality.{sources}
use Rattle.hp_meaning.proofs.CausalLemmas.Choices.{or_cases, both_true}
use Rattle.hp_cause.specs.Facts.{Fact, stands, reads, depends, stand, read, depend, read_by_all}
use Rattle.hp_cause.specs.Falling.{Falls, WithinReads, rank_at}
use Rattle.hp_tables.specs.Defining.Layers.{numbered}
use Rattle.hp_tables.specs.Defining.Names.{listed, names_in, undeclared}
use Rattle.hp_cause.specs.Vertices.{calls_in, own_of_test, is_call, size_of_tests, own_size, size_inside, size_of, size_of_told, Numbering, number_expr, number_exprs, number_parts, number_test, number_tests, number_block, number_eqns, number_eqn, number_arms, number_states, number_told, number_contract, first_of_body, first_of_contract, first_inside, number_node}
use Rattle.hp_cause.specs.Gathering.{Sight, on_clock, names_of_clock, outer_clock, of_call, of_expr, of_exprs, of_parts, readers_of_test, of_test, of_tests, of_left, of_lefts, in_list, vertices_of, of_defined_name, of_name_if, of_defined, of_control, of_words, of_links, seen_in, seen_within, links_of, of_inside, of_eqns, of_eqn, of_arms, of_states, of_told, of_contract, of_controls, seen_controls, seen_outputs, of_node}
use Rattle.hp_tables.proofs.DefiningLemmas.ListedLaws.{listed_in, listed_outer}
use Rattle.hp_cause.proofs.NumberLaws.{listed_numbered, numbered_listed, over_there}
use Rattle.hp_cause.proofs.AgreeLaws.{Ties, Told, Agree, Is, test_ties, outer_is, one_number, agree_in, agree_within, agree_controls, agree_outputs, observer_ties}

module _ (Deps : Type 0) (r : ℕ → ℕ) (A : Numbering) where
  abbrev Below : ℕ → Sources → Type 0
  Below b s = WithinReads Deps (λ q. rank_at r (A q) < b) s

  abbrev at_places : Whereabouts → PlaceSources
  at_places w p = only (w p)

  split : (xs ys : List Fact) → Falls Deps r (xs ++ ys) → Falls Deps r xs × Falls Deps r ys
  split [] ys f = (tt, f)
  split (stands p v ∷ xs) ys f = split xs ys f
  split (reads v u ∷ xs) ys f = let t = split xs ys f.1 in ((f.0, t.0), t.1)
  split (depends v u ∷ xs) ys f = let t = split xs ys f.1 in ((f.0, t.0), t.1)

  lower : (a b : ℕ) (s : Sources) → a < b → Below a s → Below b s
  lower a b none h f = tt
  lower a b (only q) h f = let g : rank_at r (A q) < a = f in omega arith
  lower a b (both s t) h f = (lower a b s h f.0, lower a b t h f.1)
  lower a b (also s) h f = λ d. lower a b s h (f d)

  by_read : (v : ℕ) (s : Sources) (o : Option ℕ) → Told A s o → Falls Deps r (read (Some v) o) → Below (r v) s
  unfolding read
  by_read v none None t f = tt
  by_read v (only q) (Some u) t f = subst (λ n. rank_at r n < r v) (sym t) f.0
  by_read v none (Some u) t f = absurd t
  by_read v (only q) None t f = absurd t
  by_read v (both s s') o t f = absurd (no o t)
    where
      no : (o : Option ℕ) → Told A (both s s') o → ⊥
      no None t = t
      no (Some u) t = t
  by_read v (also s) o t f = absurd (no o t)
    where
      no : (o : Option ℕ) → Told A (also s) o → ⊥
      no None t = t
      no (Some u) t = t

  by_depend : (v : ℕ) (s : Sources) (o : Option ℕ) → Told A s o → Deps → Falls Deps r (depend (Some v) o) → Falls Deps r (read (Some v) o)
  unfolding read depend
  by_depend v s None t d f = tt
  by_depend v s (Some u) t d f = (f.0 d, tt)

  reads_one : (v u : ℕ) → Falls Deps r (read (Some v) (Some u)) → r u < r v
  unfolding read
  reads_one v u f = f.0

  by_all : (v : ℕ) (vs : List ℕ) (o : Option ℕ) → Is v vs → Falls Deps r (read_by_all vs o) → Falls Deps r (read (Some v) o)
  by_all v [] o i f = absurd i
  by_all v (u ∷ vs) o i f =
      let t = split (read (Some u) o) (read_by_all vs o) f in
      ⊎_elim (λ (e : v ≡ u). subst (λ z. Falls Deps r (read (Some z) o)) (sym e) t.0) (λ j. by_all v vs o j t.1) i

  -- ---- expressions

  module _ (see : Sight) (names : NameSources) (agree : Agree A names see) where
    by_clock : (v : ℕ) (clock : Clock) → Falls Deps r (on_clock see (names_of_clock clock) (Some v)) → Deps → Below (r v) (of_clock clock names)
    by_clock v [] f d = tt
    by_clock v (on ∷ clock) f d =
        let t = split (depend (Some v) (see on.1)) (on_clock see (names_of_clock clock) (Some v)) f in
        (by_read v (names on.1) (see on.1) (agree on.1) (by_depend v (names on.1) (see on.1) (agree on.1) d t.0), by_clock v clock t.1 d)

    by_name : (v : ℕ) (readers : List ℕ) (x : List ℕ) → Is v readers → Falls Deps r (read_by_all readers (see x)) → Below (r v) (names x)
    by_name v readers x i f = by_read v (names x) (see x) (agree x) (by_all v readers (see x) i f)

    module _ (control : Option ℕ) where
      mutual
        expr_read : (v : ℕ) (clock : List (List ℕ)) (readers : List ℕ) (k : ℕ) (w : Whereabouts) (e : Expr) → Is v readers → Ties A (number_expr k e) w → Falls Deps r (of_expr see control clock readers k e) → Below (r v) (reads_of e names (at_places w))
        expr_read v clock readers k w (constant s c) i t f = tt
        expr_read v clock readers k w (variable s x) i t f = by_name v readers x i f
        expr_read v clock readers k w (last_of s x) i t f = tt
        expr_read v clock readers k w (one s o a) i t f = expr_read v clock readers k (below First w) a i (λ p. t (First ∷ p)) f
        expr_read v clock readers k w (two s o a b) i t f =
            let g = split (of_expr see control clock readers k a) (of_expr see control clock readers (k + calls_in a) b) f in
            (expr_read v clock readers k (below First w) a i (λ p. t (First ∷ p)) g.0, expr_read v clock readers (k + calls_in a) (below Second w) b i (λ p. t (Second ∷ p)) g.1)
        expr_read v clock readers k w (choose s a b c) i t f =
            let g = split (of_expr see control clock readers k a) (of_expr see control clock readers (k + calls_in a) b ++ of_expr see control clock readers ((k + calls_in a) + calls_in b) c) f in
            let h = split (of_expr see control clock readers (k + calls_in a) b) (of_expr see control clock readers ((k + calls_in a) + calls_in b) c) g.1 in (
              expr_read v clock readers k (below First w) a i (λ p. t (First ∷ p)) g.0,
              (expr_read v clock readers (k + calls_in a) (below Second w) b i (λ p. t (Second ∷ p)) h.0, expr_read v clock readers ((k + calls_in a) + calls_in b) (below Third w) c i (λ p. t (Third ∷ p)) h.1),
            )
        expr_read v clock readers k w (pre s a) i t f = tt
        expr_read v clock readers k w (fby s a b) i t f =
            let g = split (of_expr see control clock readers k a) (of_expr see control clock [] (k + calls_in a) b) f in
            expr_read v clock readers k (below First w) a i (λ p. t (First ∷ p)) g.0
        expr_read v clock readers k w (arrow s a b) i t f =
            let g = split (of_expr see control clock readers k a) (of_expr see control clock readers (k + calls_in a) b) f in
            (expr_read v clock readers k (below First w) a i (λ p. t (First ∷ p)) g.0, expr_read v clock readers (k + calls_in a) (below Second w) b i (λ p. t (Second ∷ p)) g.1)
        expr_read v clock readers k w (when_is s a c x) i t f =
            let g = split (read_by_all readers (see x)) (of_expr see control (outer_clock clock) readers k a) f in
            (by_name v readers x i g.0, expr_read v (outer_clock clock) readers k (below First w) a i (λ p. t (First ∷ p)) g.1)
        expr_read v clock readers k w (merge s x ps) i t f =
            let g = split (read_by_all readers (see x)) (of_parts see control (x ∷ clock) readers k ps) f in
            (by_name v readers x i g.0, parts_read v (x ∷ clock) readers k (below Args w) ps i (λ p. t (Args ∷ p)) g.1)
        expr_read v clock readers k w (call s x n es) i t f =
            let g = split (of_call see control clock readers x s k) (of_exprs see control clock (k ∷ []) (k + 1) es) f in
            let h = split (stand kind.Call x s (Some k)) (read_by_all readers (Some k) ++ (read (Some k) control ++ on_clock see clock (Some k))) g.0 in
            let m = split (read_by_all readers (Some k)) (read (Some k) control ++ on_clock see clock (Some k)) h.1 in
            by_read v (only (w [])) (Some k) (t [] k refl) (by_all v readers (Some k) i m.0)

        exprs_read : (v : ℕ) (clock : List (List ℕ)) (readers : List ℕ) (k : ℕ) (w : Whereabouts) (es : Exprs) → Is v readers → Ties A (number_exprs k es) w → Falls Deps r (of_exprs see control clock readers k es) → Below (r v) (reads_of_all es names (at_places w))
        exprs_read v clock readers k w no_expr i t f = tt
        exprs_read v clock readers k w (more_exprs e es) i t f =
            let g = split (of_expr see control clock readers k e) (of_exprs see control clock readers (k + calls_in e) es) f in
            (expr_read v clock readers k (below Head w) e i (λ p. t (Head ∷ p)) g.0, exprs_read v clock readers (k + calls_in e) (below Tail w) es i (λ p. t (Tail ∷ p)) g.1)

        parts_read : (v : ℕ) (clock : List (List ℕ)) (readers : List ℕ) (k : ℕ) (w : Whereabouts) (ps : Parts) → Is v readers → Ties A (number_parts k ps) w → Falls Deps r (of_parts see control clock readers k ps) → Below (r v) (reads_of_parts ps names (at_places w))
        parts_read v clock readers k w no_part i t f = tt
        parts_read v clock readers k w (more_parts c e ps) i t f =
            let g = split (of_expr see control clock readers k e) (of_parts see control clock readers (k + calls_in e) ps) f in
            (expr_read v clock readers k (below Head w) e i (λ p. t (Head ∷ p)) g.0, parts_read v clock readers (k + calls_in e) (below Tail w) ps i (λ p. t (Tail ∷ p)) g.1)

      -- Under a control, the sources of each call.
      module _ (cs : Sources) (steers : (v : ℕ) → Falls Deps r (read (Some v) control) → Below (r v) cs) where
        mutual
          expr_below : (clock : Clock) (readers : List ℕ) (k : ℕ) (w : Whereabouts) (e : Expr) → Ties A (number_expr k e) w → Falls Deps r (of_expr see control (names_of_clock clock) readers k e) → (p : Place) (v : ℕ) → number_expr k e p ≡ Some v
              → Below (r v) (both cs (at_expr e clock names (at_places w) p))
          expr_below clock readers k w (one s o a) t f (First ∷ p) v h = expr_below clock readers k (below First w) a (λ q. t (First ∷ q)) f p v h
          expr_below clock readers k w (two s o a b) t f (First ∷ p) v h =
              let g = split (of_expr see control (names_of_clock clock) readers k a) (of_expr see control (names_of_clock clock) readers (k + calls_in a) b) f in
              expr_below clock readers k (below First w) a (λ q. t (First ∷ q)) g.0 p v h
          expr_below clock readers k w (two s o a b) t f (Second ∷ p) v h =
              let g = split (of_expr see control (names_of_clock clock) readers k a) (of_expr see control (names_of_clock clock) readers (k + calls_in a) b) f in
              expr_below clock readers (k + calls_in a) (below Second w) b (λ q. t (Second ∷ q)) g.1 p v h
          expr_below clock readers k w (choose s a b c) t f (First ∷ p) v h =
              let ns = names_of_clock clock in
              let g = split (of_expr see control ns readers k a) (of_expr see control ns readers (k + calls_in a) b ++ of_expr see control ns readers ((k + calls_in a) + calls_in b) c) f in
              expr_below clock readers k (below First w) a (λ q. t (First ∷ q)) g.0 p v h
          expr_below clock readers k w (choose s a b c) t f (Second ∷ p) v h =
              let ns = names_of_clock clock in
              let g = split (of_expr see control ns readers k a) (of_expr see control ns readers (k + calls_in a) b ++ of_expr see control ns readers ((k + calls_in a) + calls_in b) c) f in
              let m = split (of_expr see control ns readers (k + calls_in a) b) (of_expr see control ns readers ((k + calls_in a) + calls_in b) c) g.1 in
              expr_below clock readers (k + calls_in a) (below Second w) b (λ q. t (Second ∷ q)) m.0 p v h
          expr_below clock readers k w (choose s a b c) t f (Third ∷ p) v h =
              let ns = names_of_clock clock in
              let g = split (of_expr see control ns readers k a) (of_expr see control ns readers (k + calls_in a) b ++ of_expr see control ns readers ((k + calls_in a) + calls_in b) c) f in
              let m = split (of_expr see control ns readers (k + calls_in a) b) (of_expr see control ns readers ((k + calls_in a) + calls_in b) c) g.1 in
              expr_below clock readers ((k + calls_in a) + calls_in b) (below Third w) c (λ q. t (Third ∷ q)) m.1 p v h
          expr_below clock readers k w (pre s a) t f (First ∷ p) v h = expr_below clock [] k (below First w) a (λ q. t (First ∷ q)) f p v h
          expr_below clock readers k w (fby s a b) t f (First ∷ p) v h =
              let g = split (of_expr see control (names_of_clock clock) readers k a) (of_expr see control (names_of_clock clock) [] (k + calls_in a) b) f in
              expr_below clock readers k (below First w) a (λ q. t (First ∷ q)) g.0 p v h
          expr_below clock readers k w (fby s a b) t f (Second ∷ p) v h =
              let g = split (of_expr see control (names_of_clock clock) readers k a) (of_expr see control (names_of_clock clock) [] (k + calls_in a) b) f in
              expr_below clock [] (k + calls_in a) (below Second w) b (λ q. t (Second ∷ q)) g.1 p v h
          expr_below clock readers k w (arrow s a b) t f (First ∷ p) v h =
              let g = split (of_expr see control (names_of_clock clock) readers k a) (of_expr see control (names_of_clock clock) readers (k + calls_in a) b) f in
              expr_below clock readers k (below First w) a (λ q. t (First ∷ q)) g.0 p v h
          expr_below clock readers k w (arrow s a b) t f (Second ∷ p) v h =
              let g = split (of_expr see control (names_of_clock clock) readers k a) (of_expr see control (names_of_clock clock) readers (k + calls_in a) b) f in
              expr_below clock readers (k + calls_in a) (below Second w) b (λ q. t (Second ∷ q)) g.1 p v h
          expr_below clock readers k w (when_is s a c x) t f (First ∷ p) v h =
              let g = split (read_by_all readers (see x)) (of_expr see control (outer_clock (names_of_clock clock)) readers k a) f in
              expr_below (without clock) readers k (below First w) a (λ q. t (First ∷ q)) (subst (λ ns. Falls Deps r (of_expr see control ns readers k a)) (outer_is clock) g.1) p v h
          expr_below clock readers k w (merge s x ps) t f (Args ∷ p) v h =
              let g = split (read_by_all readers (see x)) (of_parts see control (x ∷ names_of_clock clock) readers k ps) f in
              parts_below x clock readers k (below Args w) ps (λ q. t (Args ∷ q)) g.1 p v h
          expr_below clock readers k w (call s x n es) t f [] v h =
              let ns = names_of_clock clock in
              let g = split (of_call see control ns readers x s k) (of_exprs see control ns (k ∷ []) (k + 1) es) f in
              let m = split (stand kind.Call x s (Some k)) (read_by_all readers (Some k) ++ (read (Some k) control ++ on_clock see ns (Some k))) g.0 in
              let l = split (read_by_all readers (Some k)) (read (Some k) control ++ on_clock see ns (Some k)) m.1 in
              let o = split (read (Some k) control) (on_clock see ns (Some k)) l.1 in
              subst (λ u. Below (r u) (both cs (both (also (of_clock clock names)) (reads_of_all es names (at_places (below Args w)))))) (one_number k v h)
              (steers k o.0, (by_clock k clock o.1, exprs_read k ns (k ∷ []) (k + 1) (below Args w) es (inl refl) (λ q. t (Args ∷ q)) g.1))
          expr_below clock readers k w (call s x n es) t f (Args ∷ p) v h =
              let ns = names_of_clock clock in
              let g = split (of_call see control ns readers x s k) (of_exprs see control ns (k ∷ []) (k + 1) es) f in
              exprs_below clock (k ∷ []) (k + 1) (below Args w) es (λ q. t (Args ∷ q)) g.1 p v h
          expr_below clock readers k w e t f p v h = absurd cc

          exprs_below : (clock : Clock) (readers : List ℕ) (k : ℕ) (w : Whereabouts) (es : Exprs) → Ties A (number_exprs k es) w → Falls Deps r (of_exprs see control (names_of_clock clock) readers k es) → (p : Place) (v : ℕ) → number_exprs k es p ≡ Some v
              → Below (r v) (both cs (at_exprs es clock names (at_places w) p))
          exprs_below clock readers k w (more_exprs e es) t f (Head ∷ p) v h =
              let g = split (of_expr see control (names_of_clock clock) readers k e) (of_exprs see control (names_of_clock clock) readers (k + calls_in e) es) f in
              expr_below clock readers k (below Head w) e (λ q. t (Head ∷ q)) g.0 p v h
          exprs_below clock readers k w (more_exprs e es) t f (Tail ∷ p) v h =
              let g = split (of_expr see control (names_of_clock clock) readers k e) (of_exprs see control (names_of_clock clock) readers (k + calls_in e) es) f in
              exprs_below clock readers (k + calls_in e) (below Tail w) es (λ q. t (Tail ∷ q)) g.1 p v h
          exprs_below clock readers k w es t f p v h = absurd cc

          parts_below : (x : List ℕ) (clock : Clock) (readers : List ℕ) (k : ℕ) (w : Whereabouts) (ps : Parts) → Ties A (number_parts k ps) w → Falls Deps r (of_parts see control (x ∷ names_of_clock clock) readers k ps) → (p : Place) (v : ℕ) → number_parts k ps p ≡ Some v
              → Below (r v) (both cs (at_parts ps x clock names (at_places w) p))
          parts_below x clock readers k w (more_parts c e ps) t f (Head ∷ p) v h =
              let g = split (of_expr see control (x ∷ names_of_clock clock) readers k e) (of_parts see control (x ∷ names_of_clock clock) readers (k + calls_in e) ps) f in
              expr_below ((c, x) ∷ clock) readers k (below Head w) e (λ q. t (Head ∷ q)) g.0 p v h
          parts_below x clock readers k w (more_parts c e ps) t f (Tail ∷ p) v h =
              let g = split (of_expr see control (x ∷ names_of_clock clock) readers k e) (of_parts see control (x ∷ names_of_clock clock) readers (k + calls_in e) ps) f in
              parts_below x clock readers (k + calls_in e) (below Tail w) ps (λ q. t (Tail ∷ q)) g.1 p v h
          parts_below x clock readers k w ps t f p v h = absurd cc

  -- ---- conditions

  top_below : (b : ℕ) (names : NameSources) (w : Whereabouts) (e : Expr) → is_call e ≡ false → Below b (reads_of e names (at_places w)) → Below b (at_expr e [] names (at_places w) [])
  top_below b names w (constant s c) d h = λ e. tt
  top_below b names w (variable s x) d h = (λ e. tt, h)
  top_below b names w (last_of s x) d h = tt
  top_below b names w (one s o a) d h = (λ e. tt, h)
  top_below b names w (two s o a c) d h = (λ e. tt, h)
  top_below b names w (choose s a c e) d h = (λ e. tt, h)
  top_below b names w (pre s a) d h = λ e. tt
  top_below b names w (fby s a c) d h = (λ e. tt, h)
  top_below b names w (arrow s a c) d h = (λ e. tt, h)
  top_below b names w (when_is s a c x) d h = (λ e. tt, h)
  top_below b names w (merge s x ps) d h = (λ e. tt, h)
  top_below b names w (call s x i es) d h = absurd cc

  call_test : (k : ℕ) (e : Expr) (v : ℕ) → is_call e ≡ true → Some k ≡ Some v → number_expr (k + own_of_test e) e [] ≡ Some v
  call_test k (call s x i es) v d h = ap Some (let m : k + 0 ≡ k = omega arith in m) ∙ h
  call_test k e v d h = absurd cc

  module _ (see : Sight) (names : NameSources) (agree : Agree A names see) (control : Option ℕ) where
    tests_read : (reader k : ℕ) (w : Whereabouts) (ts : List Trans) → Ties A (number_tests k ts) w → Falls Deps r (of_tests see control reader k ts) → Below (r reader) (of_conditions ts (at_places w))
    tests_read reader k w [] t f = tt
    tests_read reader k w (c ∷ ts) t f =
        let e = c.cond in
        let g = split (of_test see control reader k e) (of_tests see control reader ((k + own_of_test e) + calls_in e) ts) f in
        let m = split (stand kind.Cond (codes "cond") (span_of e) (Some k) ++ (read (Some reader) (Some k) ++ read (Some k) control)) (of_expr see control [] (readers_of_test k e) (k + own_of_test e) e) g.0 in
        let l = split (stand kind.Cond (codes "cond") (span_of e) (Some k)) (read (Some reader) (Some k) ++ read (Some k) control) m.0 in
        let o = split (read (Some reader) (Some k)) (read (Some k) control) l.1 in (
          by_read reader (only (w (Head ∷ []))) (Some k) (t (Head ∷ []) k refl) o.0,
          tests_read reader ((k + own_of_test e) + calls_in e) (below Tail w) ts (λ p. t (Tail ∷ p)) g.1,
        )

    module _ (cs : Sources) (steers : (v : ℕ) → Falls Deps r (read (Some v) control) → Below (r v) cs) where
      test_below : (reader k : ℕ) (w : Whereabouts) (e : Expr) → Ties A (number_test k e) w → Falls Deps r (of_test see control reader k e) → (p : Place) (v : ℕ) → number_test k e p ≡ Some v → Below (r v) (both cs (at_expr e [] names (at_places w) p))
      test_below reader k w e t f (q ∷ p) v h =
          let m = split (stand kind.Cond (codes "cond") (span_of e) (Some k) ++ (read (Some reader) (Some k) ++ read (Some k) control)) (of_expr see control [] (readers_of_test k e) (k + own_of_test e) e) f in
          expr_below see names agree control cs steers [] (readers_of_test k e) (k + own_of_test e) w e (test_ties A k e w t) m.1 (q ∷ p) v h
      test_below reader k w e t f [] v h =
          let m = split (stand kind.Cond (codes "cond") (span_of e) (Some k) ++ (read (Some reader) (Some k) ++ read (Some k) control)) (of_expr see control [] (readers_of_test k e) (k + own_of_test e) e) f in
          let l = split (stand kind.Cond (codes "cond") (span_of e) (Some k)) (read (Some reader) (Some k) ++ read (Some k) control) m.0 in
          let o = split (read (Some reader) (Some k)) (read (Some k) control) l.1 in
          by (is_call e) refl o.1 m.1
        where
          by : (d : Bool) → is_call e ≡ d → Falls Deps r (read (Some k) control) → Falls Deps r (of_expr see control [] (readers_of_test k e) (k + own_of_test e) e) → Below (r v) (both cs (at_expr e [] names (at_places w) []))
          by true d c g = expr_below see names agree control cs steers [] (readers_of_test k e) (k + own_of_test e) w e (test_ties A k e w t) g [] v (call_test k e v d h)
          by false d c g =
              let is : Is k (readers_of_test k e) = subst (λ b. Is k (if b then [] else k ∷ [])) (sym d) (inl refl) in
              subst (λ u. Below (r u) (both cs (at_expr e [] names (at_places w) []))) (one_number k v h)
              (steers k c, top_below (r k) names w e d (expr_read see names agree control k [] (readers_of_test k e) (k + own_of_test e) w e is (test_ties A k e w t) g))

      tests_below : (reader k : ℕ) (w : Whereabouts) (ts : List Trans) → Ties A (number_tests k ts) w → Falls Deps r (of_tests see control reader k ts) → (p : Place) (v : ℕ) → number_tests k ts p ≡ Some v → Below (r v) (both cs (at_conditions ts names (at_places w) p))
      tests_below reader k w (c ∷ ts) t f (Head ∷ p) v h =
          let g = split (of_test see control reader k c.cond) (of_tests see control reader ((k + own_of_test c.cond) + calls_in c.cond) ts) f in
          test_below reader k (below Head w) c.cond (λ q. t (Head ∷ q)) g.0 p v h
      tests_below reader k w (c ∷ ts) t f (Tail ∷ p) v h =
          let g = split (of_test see control reader k c.cond) (of_tests see control reader ((k + own_of_test c.cond) + calls_in c.cond) ts) f in
          tests_below reader ((k + own_of_test c.cond) + calls_in c.cond) (below Tail w) ts (λ q. t (Tail ∷ q)) g.1 p v h
      tests_below reader k w ts t f p v h = absurd cc

  -- ---- the definitions of names

  module _ (see : Sight) (x : List ℕ) (v : ℕ) (seen : see x ≡ Some v) where
    mine : (o : Option ℕ) → Falls Deps r (read (see x) o) → Falls Deps r (read (Some v) o)
    mine o f = subst (λ s. Falls Deps r (read s o)) seen f

    links_one : (own : Sight) (xs : List (List ℕ)) → IsTrue (listed xs x) → Falls Deps r (of_links see own xs) → Falls Deps r (read (see x) (own x))
    links_one own [] i f = absurd cc
    links_one own (y ∷ ys) i f =
        let t = split (read (see y) (own y)) (of_links see own ys) f in
        or_cases (bytes_eq y x) (listed ys x) i (λ e. subst (λ z. Falls Deps r (read (see z) (own z))) ((bytes_eq-Decides y x).0 e) t.0) (λ j. links_one own ys j t.1)

    link_below : (j : ℕ) (w : Whereabouts) (b : Block) → IsTrue (block_defines b x) → Falls Deps r (links_of j b see) → ((u : ℕ) → number_block j (j + own_size b) b (Named x ∷ []) ≡ Some u → A (w (Named x ∷ [])) ≡ Some u) → Below (r v) (only (w (Named x ∷ [])))
    link_below j w (block ds es) d f t =
        let found = numbered_listed j (names_in es) x (listed_in x es ∙ (both_true (some_defines es x) (not (declares ds x)) d).0) in
        let one = links_one (numbered j (names_in es)) (undeclared ds (names_in es)) (listed_outer x (block ds es) ∙ d) f in
        by_read v (only (w (Named x ∷ []))) (Some found.0) (t found.0 found.1) (subst (λ o. Falls Deps r (read (Some v) o)) found.1 (mine (numbered j (names_in es) x) one))

    if_below : (d : Bool) (s : Sources) → (IsTrue d → Below (r v) s) → Below (r v) (if d then s else none)
    if_below true s h = h refl
    if_below false s h = tt

    arms_link : (inner : Sight) (control : Option ℕ) (around : List (List ℕ)) (k : ℕ) (w : Whereabouts) (arms : Arms) → Ties A (number_arms k arms) w → Falls Deps r (of_arms see inner control around k arms) → Below (r v) (in_arms arms (at_places w) x)
    arms_link inner control around k w no_arm t f = tt
    arms_link inner control around k w (more_arms c b at arms) t f =
        let g = split (links_of k b see ++ of_inside (seen_in k b inner) control around (k + own_size b) b) (of_arms see inner control around ((k + own_size b) + size_inside b) arms) f in
        let m = split (links_of k b see) (of_inside (seen_in k b inner) control around (k + own_size b) b) g.0 in (
          if_below (block_defines b x) (only (w (Head ∷ Named x ∷ []))) (λ d. link_below k (below Head w) b d m.0 (λ u. t (Head ∷ Named x ∷ []) u)),
          arms_link inner control around ((k + own_size b) + size_inside b) (below Tail w) arms (λ p. t (Tail ∷ p)) g.1,
        )

    states_link : (control : Option ℕ) (inner : Sight) (active next : ℕ) (around : List (List ℕ)) (k : ℕ) (w : Whereabouts) (ss : States) → Ties A (number_states k ss) w → Falls Deps r (of_states see control inner active next around k ss) → Below (r v) (in_states ss (at_places w) x)
    states_link control inner active next around k w no_state t f = tt
    states_link control inner active next around k w (more_states q b until unless at ss) t f =
        let body = links_of k b see ++ of_inside (seen_in k b inner) (Some active) around (k + own_size b) b in
        let tests = of_tests (seen_in k b inner) (Some active) next ((k + own_size b) + size_inside b) until ++ of_tests see control active (((k + own_size b) + size_inside b) + size_of_tests until) unless in
        let g = split (body ++ tests) (of_states see control inner active next around ((((k + own_size b) + size_inside b) + size_of_tests until) + size_of_tests unless) ss) f in
        let l = split body tests g.0 in
        let m = split (links_of k b see) (of_inside (seen_in k b inner) (Some active) around (k + own_size b) b) l.0 in (
          if_below (block_defines b x) (only (w (Head ∷ Body ∷ Named x ∷ []))) (λ d. link_below k (below Body (below Head w)) b d m.0 (λ u. t (Head ∷ Body ∷ Named x ∷ []) u)),
          states_link control inner active next around ((((k + own_size b) + size_inside b) + size_of_tests until) + size_of_tests unless) (below Tail w) ss (λ p. t (Tail ∷ p)) g.1,
        )

    lefts_one : (control : Option ℕ) (clock : List (List ℕ)) (ys : List (List ℕ × Span)) → IsTrue (is_among ys x) → Falls Deps r (of_lefts see control clock ys) → Falls Deps r (read (see x) control) × Falls Deps r (on_clock see clock (see x))
    lefts_one control clock [] i f = absurd cc
    lefts_one control clock (y ∷ ys) i f =
        let t = split (of_left see control clock y.0 y.1) (of_lefts see control clock ys) f in
        let g = split (stand kind.Def y.0 y.1 (see y.0)) (read (see y.0) control ++ on_clock see clock (see y.0)) t.0 in
        let m = split (read (see y.0) control) (on_clock see clock (see y.0)) g.1 in
        or_cases (bytes_eq y.0 x) (is_among ys x) i (λ e. subst (λ z. Falls Deps r (read (see z) control) × Falls Deps r (on_clock see clock (see z))) ((bytes_eq-Decides y.0 x).0 e) m) (λ j. lefts_one control clock ys j t.1)

    among_vertices : (ys : List (List ℕ × Span)) → IsTrue (is_among ys x) → Is v (vertices_of see ys)
    among_vertices [] i = absurd cc
    among_vertices (y ∷ ys) i =
        or_cases (bytes_eq y.0 x) (is_among ys x) i
        (λ e. subst (λ o. Is v (in_list o ++ vertices_of see ys)) (sym (ap see ((bytes_eq-Decides y.0 x).0 e) ∙ seen)) (inl refl))
        (λ j. later (see y.0) (among_vertices ys j))
      where
        later : (o : Option ℕ) → Is v (vertices_of see ys) → Is v (in_list o ++ vertices_of see ys)
        later None h = h
        later (Some u) h = inr h

    defined_one : (control o : Option ℕ) (at : Span) (defined : List ℕ → Bool) (xs : List (List ℕ)) → IsTrue (defined x) → IsTrue (is_one_of xs x) → Falls Deps r (of_defined see control o at defined xs) → Falls Deps r (read (see x) o) × Falls Deps r (read (see x) control)
    defined_one control o at defined [] d i f = absurd cc
    defined_one control o at defined (y ∷ ys) d i f =
        let t = split (of_name_if see control o at defined y) (of_defined see control o at defined ys) f in
        or_cases (bytes_eq y x) (is_one_of ys x) i
        (λ e. here y ((bytes_eq-Decides y x).0 e) t.0)
        (λ j. defined_one control o at defined ys d j t.1)
      where
        told : (b : Bool) → IsTrue b → Falls Deps r (if b then of_defined_name see control o at x else []) → Falls Deps r (of_defined_name see control o at x)
        told true e f = f
        told false e f = absurd cc

        here : (z : List ℕ) → z ≡ x → Falls Deps r (of_name_if see control o at defined z) → Falls Deps r (read (see x) o) × Falls Deps r (read (see x) control)
        here z e f =
            let g = told (defined x) d (subst (λ u. Falls Deps r (of_name_if see control o at defined u)) e f) in
            let m = split (stand kind.Def x at (see x)) (read (see x) o ++ read (see x) control) g in
            split (read (see x) o) (read (see x) control) m.1

    module _ (names : NameSources) (agree : Agree A names see) (control : Option ℕ) (cs : Sources) (steers : (u : ℕ) → Falls Deps r (read (Some u) control) → Below (r u) cs) (around : List (List ℕ)) (ds : List Decl) where
      definition_below : (k : ℕ) (w : Whereabouts) (e : Eqn) → IsTrue (defines e x) → DeclaredInOne around e → Ties A (number_eqn k e) w → Falls Deps r (of_eqn see control around ds k e) → Below (r v) (both cs (reads_of_definition ds e names (at_places w) x))
      definition_below k w (define at ys e) d known t f =
          let clock = names_of_clock (clock_of ds ys e) in
          let g = split (of_lefts see control clock ys) (of_expr see control clock (vertices_of see ys) k e) f in
          let l = lefts_one control clock ys d g.0 in
          (steers v (mine control l.0), (by_clock see names agree v (clock_of ds ys e) (subst (λ o. Falls Deps r (on_clock see clock o)) seen l.1), expr_read see names agree control v clock (vertices_of see ys) k (below Right w) e (among_vertices ys d) (λ p. t (Right ∷ p)) g.1))
      definition_below k w (switch at e arms) d known t f =
          let hid = seen_within (switch at e arms) see in
          let g = split (of_control see control k at (defines (switch at e arms)) around) (of_expr see control [] (k ∷ []) (k + 1) e ++ of_arms see hid (Some k) around ((k + 1) + calls_in e) arms) f in
          let c = split (of_defined see control (Some k) at (defines (switch at e arms)) around) (read (Some k) control) g.0 in
          let l = defined_one control (Some k) at (defines (switch at e arms)) around d (known.0 x d) c.0 in
          let m = split (of_expr see control [] (k ∷ []) (k + 1) e) (of_arms see hid (Some k) around ((k + 1) + calls_in e) arms) g.1 in (
            steers v (mine control l.1),
            (
              lower (r k) (r v) (reads_of e names (at_places (below Test w))) (reads_one v k (mine (Some k) l.0)) (expr_read see names agree control k [] (k ∷ []) (k + 1) (below Test w) e (inl refl) (λ p. t (Test ∷ p)) m.0),
              arms_link hid (Some k) around ((k + 1) + calls_in e) (below ArmsOf w) arms (λ p. t (ArmsOf ∷ p)) m.1,
            ),
          )
      definition_below k w (reset at b e) d known t f =
          let hid = seen_within (reset at b e) see in
          let inner = links_of (k + 1) b see ++ of_inside (seen_in (k + 1) b hid) (Some k) around ((k + 1) + own_size b) b in
          let last = of_expr see control [] (k ∷ []) (((k + 1) + own_size b) + size_inside b) e in
          let g = split (of_control see control k at (defines (reset at b e)) around) (inner ++ last) f in
          let c = split (of_defined see control (Some k) at (defines (reset at b e)) around) (read (Some k) control) g.0 in
          let l = defined_one control (Some k) at (defines (reset at b e)) around d (known.0 x d) c.0 in
          let m = split inner last g.1 in
          let i = split (links_of (k + 1) b see) (of_inside (seen_in (k + 1) b hid) (Some k) around ((k + 1) + own_size b) b) m.0 in (
            steers v (mine control l.1),
            (
              lower (r k) (r v) (reads_of e names (at_places (below Test w))) (reads_one v k (mine (Some k) l.0))
                  (expr_read see names agree control k [] (k ∷ []) (((k + 1) + own_size b) + size_inside b) (below Test w) e (inl refl) (λ p. t (Test ∷ p)) m.1),
              link_below (k + 1) (below Body w) b d i.0 (λ u. t (Body ∷ Named x ∷ []) u),
            ),
          )
      definition_below k w (automaton at ss) d known t f =
          let hid = seen_within (automaton at ss) see in
          let inner = of_states see control hid k (k + 1) around (k + 2) ss in
          let g = split (of_words control k at) (of_defined see control (Some k) at (defines (automaton at ss)) around ++ inner) f in
          let c = split (of_defined see control (Some k) at (defines (automaton at ss)) around) inner g.1 in
          let l = defined_one control (Some k) at (defines (automaton at ss)) around d (known.0 x d) c.0 in
          (steers v (mine control l.1), (by_read v (only (w (Active ∷ []))) (Some k) (t (Active ∷ []) k refl) (mine (Some k) l.0), states_link control hid k (k + 1) around (k + 2) (below StatesOf w) ss (λ p. t (StatesOf ∷ p)) c.1))

      definitions_below : (k : ℕ) (w : Whereabouts) (es : Eqns) → IsTrue (some_defines es x) → DeclaredInAll around es → Ties A (number_eqns k es) w → Falls Deps r (of_eqns see control around ds k es) → Below (r v) (both cs (of_definitions ds es names (at_places w) x))
      definitions_below k w no_eqn d known t f = absurd cc
      definitions_below k w (more_eqns e es) d known t f =
          let g = split (of_eqn see control around ds k e) (of_eqns see control around ds (k + size_of e) es) f in
          by (defines e x) d (λ h. definition_below k (below Head w) e h known.0 (λ p. t (Head ∷ p)) g.0) (λ h. definitions_below (k + size_of e) (below Tail w) es h known.1 (λ p. t (Tail ∷ p)) g.1) refl
        where
          by : (b : Bool) → IsTrue (b || some_defines es x) → (IsTrue (defines e x) → Below (r v) (both cs (reads_of_definition ds e names (at_places (below Head w)) x))) → (IsTrue (some_defines es x) → Below (r v) (both cs (of_definitions ds es names (at_places (below Tail w)) x)))
              → defines e x ≡ b → Below (r v) (both cs (if b then reads_of_definition ds e names (at_places (below Head w)) x else of_definitions ds es names (at_places (below Tail w)) x))
          by true d first rest e = first e
          by false d first rest e = rest d

  -- ---- the places of a block

  moved : (b : ℕ) (cs s t : Sources) → Below b (both (both cs s) t) → Below b (both cs (both s t))
  moved b cs s t h = (h.0.0, (h.0.1, h.1))

  strong_below : (out see : Sight) (names : NameSources) (agree : Agree A names out) (control : Option ℕ) (active next : ℕ) (around : List (List ℕ)) (k : ℕ) (w : Whereabouts) (ss : States) → Ties A (number_states k ss) w
      → Falls Deps r (of_states out control see active next around k ss) → Below (r active) (strong_ones ss (at_places w))
  strong_below out see names agree control active next around k w no_state t f = tt
  strong_below out see names agree control active next around k w (more_states q b until unless at ss) t f =
      let body = links_of k b out ++ of_inside (seen_in k b see) (Some active) around (k + own_size b) b in
      let weak = of_tests (seen_in k b see) (Some active) next ((k + own_size b) + size_inside b) until in
      let strong = of_tests out control active (((k + own_size b) + size_inside b) + size_of_tests until) unless in
      let g = split (body ++ (weak ++ strong)) (of_states out control see active next around ((((k + own_size b) + size_inside b) + size_of_tests until) + size_of_tests unless) ss) f in
      let l = split body (weak ++ strong) g.0 in
      let m = split weak strong l.1 in (
        tests_read out names agree control active (((k + own_size b) + size_inside b) + size_of_tests until) (below Unless (below Head w)) unless (λ p. t (Head ∷ Unless ∷ p)) m.1,
        strong_below out see names agree control active next around ((((k + own_size b) + size_inside b) + size_of_tests until) + size_of_tests unless) (below Tail w) ss (λ p. t (Tail ∷ p)) g.1,
      )

  block_agrees : (j k : ℕ) (b : Block) (names : NameSources) (see : Sight) (w : Whereabouts) → Agree A names see → Ties A (number_block j k b) w → Agree A (names_in_block b names (at_places w)) (seen_in j b see)
  block_agrees j k (block ds es) names see w agree t = agree_in A j ds es names see w agree (λ x v h. t (Named x ∷ []) v h)

  weak_below : (out see : Sight) (names : NameSources) (agree : Agree A names see) (control : Option ℕ) (active next : ℕ) (around : List (List ℕ)) (k : ℕ) (w : Whereabouts) (ss : States) → Ties A (number_states k ss) w
      → Falls Deps r (of_states out control see active next around k ss) → Below (r next) (weak_ones ss (at_places w))
  weak_below out see names agree control active next around k w no_state t f = tt
  weak_below out see names agree control active next around k w (more_states q b until unless at ss) t f =
      let body = links_of k b out ++ of_inside (seen_in k b see) (Some active) around (k + own_size b) b in
      let weak = of_tests (seen_in k b see) (Some active) next ((k + own_size b) + size_inside b) until in
      let strong = of_tests out control active (((k + own_size b) + size_inside b) + size_of_tests until) unless in
      let g = split (body ++ (weak ++ strong)) (of_states out control see active next around ((((k + own_size b) + size_inside b) + size_of_tests until) + size_of_tests unless) ss) f in
      let l = split body (weak ++ strong) g.0 in
      let m = split weak strong l.1 in (
        tests_read (seen_in k b see) (names_in_block b names (at_places (below Body (below Head w)))) (block_agrees k (k + own_size b) b names see (below Body (below Head w)) agree (λ p. t (Head ∷ Body ∷ p))) (Some active) next ((k + own_size b) + size_inside b)
            (below Until (below Head w)) until (λ p. t (Head ∷ Until ∷ p)) m.0,
        weak_below out see names agree control active next around ((((k + own_size b) + size_inside b) + size_of_tests until) + size_of_tests unless) (below Tail w) ss (λ p. t (Tail ∷ p)) g.1,
      )

  mutual
    inside_below : (see : Sight) (names : NameSources) (agree : Agree A names see) (control : Option ℕ) (cs : Sources) (steers : (u : ℕ) → Falls Deps r (read (Some u) control) → Below (r u) cs) (around : List (List ℕ)) (j k : ℕ) (w : Whereabouts) (b : Block)
        → Declared around b → Ties A (number_block j k b) w → Falls Deps r (of_inside (seen_in j b see) control around k b) → (p : Place) (v : ℕ) → number_block j k b p ≡ Some v → Below (r v) (both cs (in_block b names (at_places w) p))
    inside_below see names agree control cs steers around j k w (block ds es) known t f (Named x ∷ []) v h =
        let inner = agree_in A j ds es names see w agree (λ y u g. t (Named y ∷ []) u g) in
        let d = sym (listed_in x es) ∙ listed_numbered j (names_in es) x v h in
        definitions_below (seen_in j (block ds es) see) x v (over_there (numbered j (names_in es) x) (see x) v h) (names_inside es names (at_places w)) inner control cs steers (around ++ declared_names ds) ds k (below Equations w) es d known
        (λ p. t (Equations ∷ p)) f
    inside_below see names agree control cs steers around j k w (block ds es) known t f (Equations ∷ p) v h =
        let inner = agree_in A j ds es names see w agree (λ y u g. t (Named y ∷ []) u g) in
        eqns_below (seen_in j (block ds es) see) (names_inside es names (at_places w)) inner control cs steers (around ++ declared_names ds) ds k (below Equations w) es known (λ q. t (Equations ∷ q)) f p v h
    inside_below see names agree control cs steers around j k w b known t f p v h = absurd cc

    eqns_below : (see : Sight) (names : NameSources) (agree : Agree A names see) (control : Option ℕ) (cs : Sources) (steers : (u : ℕ) → Falls Deps r (read (Some u) control) → Below (r u) cs) (around : List (List ℕ)) (ds : List Decl) (k : ℕ) (w : Whereabouts) (es : Eqns)
        → DeclaredInAll around es → Ties A (number_eqns k es) w → Falls Deps r (of_eqns see control around ds k es) → (p : Place) (v : ℕ) → number_eqns k es p ≡ Some v → Below (r v) (both cs (in_equations ds es names (at_places w) p))
    eqns_below see names agree control cs steers around ds k w (more_eqns e es) known t f (Head ∷ p) v h =
        let g = split (of_eqn see control around ds k e) (of_eqns see control around ds (k + size_of e) es) f in
        eqn_below see names agree control cs steers around ds k (below Head w) e known.0 (λ q. t (Head ∷ q)) g.0 p v h
    eqns_below see names agree control cs steers around ds k w (more_eqns e es) known t f (Tail ∷ p) v h =
        let g = split (of_eqn see control around ds k e) (of_eqns see control around ds (k + size_of e) es) f in
        eqns_below see names agree control cs steers around ds (k + size_of e) (below Tail w) es known.1 (λ q. t (Tail ∷ q)) g.1 p v h
    eqns_below see names agree control cs steers around ds k w es known t f p v h = absurd cc

    eqn_below : (see : Sight) (names : NameSources) (agree : Agree A names see) (control : Option ℕ) (cs : Sources) (steers : (u : ℕ) → Falls Deps r (read (Some u) control) → Below (r u) cs) (around : List (List ℕ)) (ds : List Decl) (k : ℕ) (w : Whereabouts) (e : Eqn)
        → DeclaredInOne around e → Ties A (number_eqn k e) w → Falls Deps r (of_eqn see control around ds k e) → (p : Place) (v : ℕ) → number_eqn k e p ≡ Some v → Below (r v) (both cs (in_equation ds e names (at_places w) p))
    eqn_below see names agree control cs steers around ds k w (define at ys e) known t f (Right ∷ p) v h =
        let clock = clock_of ds ys e in
        let g = split (of_lefts see control (names_of_clock clock) ys) (of_expr see control (names_of_clock clock) (vertices_of see ys) k e) f in
        expr_below see names agree control cs steers clock (vertices_of see ys) k (below Right w) e (λ q. t (Right ∷ q)) g.1 p v h
    eqn_below see names agree control cs steers around ds k w (switch at e arms) known t f (Fresh ∷ []) v h =
        let g = split (of_control see control k at (defines (switch at e arms)) around) (of_expr see control [] (k ∷ []) (k + 1) e ++ of_arms see (seen_within (switch at e arms) see) (Some k) around ((k + 1) + calls_in e) arms) f in
        let c = split (of_defined see control (Some k) at (defines (switch at e arms)) around) (read (Some k) control) g.0 in
        (steers v (subst (λ u. Falls Deps r (read (Some u) control)) (one_number k v h) c.1), tt)
    eqn_below see names agree control cs steers around ds k w (switch at e arms) known t f (Test ∷ p) v h =
        let hid = seen_within (switch at e arms) see in
        let g = split (of_control see control k at (defines (switch at e arms)) around) (of_expr see control [] (k ∷ []) (k + 1) e ++ of_arms see hid (Some k) around ((k + 1) + calls_in e) arms) f in
        let m = split (of_expr see control [] (k ∷ []) (k + 1) e) (of_arms see hid (Some k) around ((k + 1) + calls_in e) arms) g.1 in
        expr_below see names agree control cs steers [] (k ∷ []) (k + 1) (below Test w) e (λ q. t (Test ∷ q)) m.0 p v h
    eqn_below see names agree control cs steers around ds k w (switch at e arms) known t f (ArmsOf ∷ p) v h =
        let eqn = switch at e arms in
        let hid = seen_within eqn see in
        let g = split (of_control see control k at (defines eqn) around) (of_expr see control [] (k ∷ []) (k + 1) e ++ of_arms see hid (Some k) around ((k + 1) + calls_in e) arms) f in
        let c = split (of_defined see control (Some k) at (defines eqn) around) (read (Some k) control) g.0 in
        let m = split (of_expr see control [] (k ∷ []) (k + 1) e) (of_arms see hid (Some k) around ((k + 1) + calls_in e) arms) g.1 in
        let test = reads_of e names (at_places (below Test w)) in
        let own : Below (r k) (both cs test) = (steers k c.1, expr_read see names agree control k [] (k ∷ []) (k + 1) (below Test w) e (inl refl) (λ q. t (Test ∷ q)) m.0) in
        moved (r v) cs test (in_each_arm arms (names_within eqn names) (at_places (below ArmsOf w)) p)
        (arms_below see hid (names_within eqn names) (agree_within A eqn names see agree) (Some k) (both cs test) (λ u x. lower (r k) (r u) (both cs test) (reads_one u k x) own) around ((k + 1) + calls_in e) (below ArmsOf w) arms known.1 (λ q. t (ArmsOf ∷ q)) m.1 p v h)
    eqn_below see names agree control cs steers around ds k w (reset at b e) known t f (Fresh ∷ []) v h =
        let inner = links_of (k + 1) b see ++ of_inside (seen_in (k + 1) b (seen_within (reset at b e) see)) (Some k) around ((k + 1) + own_size b) b in
        let last = of_expr see control [] (k ∷ []) (((k + 1) + own_size b) + size_inside b) e in
        let g = split (of_control see control k at (defines (reset at b e)) around) (inner ++ last) f in
        let c = split (of_defined see control (Some k) at (defines (reset at b e)) around) (read (Some k) control) g.0 in
        (steers v (subst (λ u. Falls Deps r (read (Some u) control)) (one_number k v h) c.1), tt)
    eqn_below see names agree control cs steers around ds k w (reset at b e) known t f (Test ∷ p) v h =
        let inner = links_of (k + 1) b see ++ of_inside (seen_in (k + 1) b (seen_within (reset at b e) see)) (Some k) around ((k + 1) + own_size b) b in
        let last = of_expr see control [] (k ∷ []) (((k + 1) + own_size b) + size_inside b) e in
        let g = split (of_control see control k at (defines (reset at b e)) around) (inner ++ last) f in
        let m = split inner last g.1 in
        expr_below see names agree control cs steers [] (k ∷ []) (((k + 1) + own_size b) + size_inside b) (below Test w) e (λ q. t (Test ∷ q)) m.1 p v h
    eqn_below see names agree control cs steers around ds k w (reset at b e) known t f (Body ∷ p) v h =
        let eqn = reset at b e in
        let hid = seen_within eqn see in
        let inside = of_inside (seen_in (k + 1) b hid) (Some k) around ((k + 1) + own_size b) b in
        let last = of_expr see control [] (k ∷ []) (((k + 1) + own_size b) + size_inside b) e in
        let g = split (of_control see control k at (defines eqn) around) ((links_of (k + 1) b see ++ inside) ++ last) f in
        let c = split (of_defined see control (Some k) at (defines eqn) around) (read (Some k) control) g.0 in
        let m = split (links_of (k + 1) b see ++ inside) last g.1 in
        let i = split (links_of (k + 1) b see) inside m.0 in
        let test = reads_of e names (at_places (below Test w)) in
        let own : Below (r k) (both cs test) = (steers k c.1, expr_read see names agree control k [] (k ∷ []) (((k + 1) + own_size b) + size_inside b) (below Test w) e (inl refl) (λ q. t (Test ∷ q)) m.1) in
        moved (r v) cs test (in_block b (names_within eqn names) (at_places (below Body w)) p)
        (inside_below hid (names_within eqn names) (agree_within A eqn names see agree) (Some k) (both cs test) (λ u x. lower (r k) (r u) (both cs test) (reads_one u k x) own) around (k + 1) ((k + 1) + own_size b) (below Body w) b known.1 (λ q. t (Body ∷ q)) i.1 p v h)
    eqn_below see names agree control cs steers around ds k w (automaton at ss) known t f (Active ∷ []) v h =
        let eqn = automaton at ss in
        let hid = seen_within eqn see in
        let inner = of_states see control hid k (k + 1) around (k + 2) ss in
        let g = split (of_words control k at) (of_defined see control (Some k) at (defines eqn) around ++ inner) f in
        let c = split (of_defined see control (Some k) at (defines eqn) around) inner g.1 in
        let a = split (stand kind.Active (codes "active") at (Some k)) (stand kind.Next (codes "next") at (Some (k + 1)) ++ (read (Some k) control ++ (read (Some (k + 1)) control ++ depend (Some (k + 1)) (Some k)))) g.0 in
        let n = split (stand kind.Next (codes "next") at (Some (k + 1))) (read (Some k) control ++ (read (Some (k + 1)) control ++ depend (Some (k + 1)) (Some k))) a.1 in
        let o = split (read (Some k) control) (read (Some (k + 1)) control ++ depend (Some (k + 1)) (Some k)) n.1 in
        subst (λ u. Below (r u) (both cs (strong_ones ss (at_places (below StatesOf w))))) (one_number k v h) (steers k o.0, strong_below see hid names agree control k (k + 1) around (k + 2) (below StatesOf w) ss (λ q. t (StatesOf ∷ q)) c.1)
    eqn_below see names agree control cs steers around ds k w (automaton at ss) known t f (Next ∷ []) v h =
        let eqn = automaton at ss in
        let hid = seen_within eqn see in
        let inner = of_states see control hid k (k + 1) around (k + 2) ss in
        let g = split (of_words control k at) (of_defined see control (Some k) at (defines eqn) around ++ inner) f in
        let c = split (of_defined see control (Some k) at (defines eqn) around) inner g.1 in
        let a = split (stand kind.Active (codes "active") at (Some k)) (stand kind.Next (codes "next") at (Some (k + 1)) ++ (read (Some k) control ++ (read (Some (k + 1)) control ++ depend (Some (k + 1)) (Some k)))) g.0 in
        let n = split (stand kind.Next (codes "next") at (Some (k + 1))) (read (Some k) control ++ (read (Some (k + 1)) control ++ depend (Some (k + 1)) (Some k))) a.1 in
        let o = split (read (Some k) control) (read (Some (k + 1)) control ++ depend (Some (k + 1)) (Some k)) n.1 in
        let q' = split (read (Some (k + 1)) control) (depend (Some (k + 1)) (Some k)) o.1 in
        let word : Deps → Below (r (k + 1)) (only (w (Active ∷ []))) = λ e. by_read (k + 1) (only (w (Active ∷ []))) (Some k) (t (Active ∷ []) k refl) (by_depend (k + 1) (only (w (Active ∷ []))) (Some k) (t (Active ∷ []) k refl) e q'.1) in
        subst (λ u. Below (r u) (both cs (both (also (only (w (Active ∷ [])))) (weak_ones ss (at_places (below StatesOf w)))))) (one_number (k + 1) v h)
        (steers (k + 1) q'.0, (word, weak_below see hid (names_within eqn names) (agree_within A eqn names see agree) control k (k + 1) around (k + 2) (below StatesOf w) ss (λ q. t (StatesOf ∷ q)) c.1))
    eqn_below see names agree control cs steers around ds k w (automaton at ss) known t f (StatesOf ∷ p) v h =
        let eqn = automaton at ss in
        let hid = seen_within eqn see in
        let inner = of_states see control hid k (k + 1) around (k + 2) ss in
        let g = split (of_words control k at) (of_defined see control (Some k) at (defines eqn) around ++ inner) f in
        let c = split (of_defined see control (Some k) at (defines eqn) around) inner g.1 in
        let a = split (stand kind.Active (codes "active") at (Some k)) (stand kind.Next (codes "next") at (Some (k + 1)) ++ (read (Some k) control ++ (read (Some (k + 1)) control ++ depend (Some (k + 1)) (Some k)))) g.0 in
        let n = split (stand kind.Next (codes "next") at (Some (k + 1))) (read (Some k) control ++ (read (Some (k + 1)) control ++ depend (Some (k + 1)) (Some k))) a.1 in
        let o = split (read (Some k) control) (read (Some (k + 1)) control ++ depend (Some (k + 1)) (Some k)) n.1 in
        states_below see hid names (names_within eqn names) agree (agree_within A eqn names see agree) control cs steers k (k + 1) (only (w (Active ∷ []))) (λ u x. by_read u (only (w (Active ∷ []))) (Some k) (t (Active ∷ []) k refl) x) (steers k o.0) around (k + 2)
        (below StatesOf w) ss known.1 (λ q. t (StatesOf ∷ q)) c.1 p v h
    eqn_below see names agree control cs steers around ds k w e known t f p v h = absurd cc

    arms_below : (out see : Sight) (names : NameSources) (agree : Agree A names see) (control : Option ℕ) (cs : Sources) (steers : (u : ℕ) → Falls Deps r (read (Some u) control) → Below (r u) cs) (around : List (List ℕ)) (k : ℕ) (w : Whereabouts) (arms : Arms)
        → DeclaredInArms around arms → Ties A (number_arms k arms) w → Falls Deps r (of_arms out see control around k arms) → (p : Place) (v : ℕ) → number_arms k arms p ≡ Some v → Below (r v) (both cs (in_each_arm arms names (at_places w) p))
    arms_below out see names agree control cs steers around k w (more_arms c b at arms) known t f (Head ∷ p) v h =
        let body = of_inside (seen_in k b see) control around (k + own_size b) b in
        let g = split (links_of k b out ++ body) (of_arms out see control around ((k + own_size b) + size_inside b) arms) f in
        inside_below see names agree control cs steers around k (k + own_size b) (below Head w) b known.0 (λ q. t (Head ∷ q)) (split (links_of k b out) body g.0).1 p v h
    arms_below out see names agree control cs steers around k w (more_arms c b at arms) known t f (Tail ∷ p) v h =
        let body = of_inside (seen_in k b see) control around (k + own_size b) b in
        let g = split (links_of k b out ++ body) (of_arms out see control around ((k + own_size b) + size_inside b) arms) f in
        arms_below out see names agree control cs steers around ((k + own_size b) + size_inside b) (below Tail w) arms known.1 (λ q. t (Tail ∷ q)) g.1 p v h
    arms_below out see names agree control cs steers around k w arms known t f p v h = absurd cc

    states_below : (out see : Sight) (outer names : NameSources) (agree : Agree A outer out) (within : Agree A names see) (control : Option ℕ) (cs : Sources) (steers : (u : ℕ) → Falls Deps r (read (Some u) control) → Below (r u) cs) (active next : ℕ) (word : Sources)
        (steered : (u : ℕ) → Falls Deps r (read (Some u) (Some active)) → Below (r u) word) (above : Below (r active) cs) (around : List (List ℕ)) (k : ℕ) (w : Whereabouts) (ss : States)
        → DeclaredInStates around ss → Ties A (number_states k ss) w → Falls Deps r (of_states out control see active next around k ss) → (p : Place) (v : ℕ) → number_states k ss p ≡ Some v → Below (r v) (both cs (in_each_state ss word outer names (at_places w) p))
    states_below out see outer names agree within control cs steers active next word steered above around k w (more_states q b until unless at ss) known t f (Head ∷ Body ∷ p) v h =
        let body = of_inside (seen_in k b see) (Some active) around (k + own_size b) b in
        let tests = of_tests (seen_in k b see) (Some active) next ((k + own_size b) + size_inside b) until ++ of_tests out control active (((k + own_size b) + size_inside b) + size_of_tests until) unless in
        let g = split ((links_of k b out ++ body) ++ tests) (of_states out control see active next around ((((k + own_size b) + size_inside b) + size_of_tests until) + size_of_tests unless) ss) f in
        let l = split (links_of k b out ++ body) tests g.0 in
        moved (r v) cs word (in_block b names (at_places (below Body (below Head w))) p)
        (inside_below see names within (Some active) (both cs word) (λ u x. (lower (r active) (r u) cs (reads_one u active x) above, steered u x)) around k (k + own_size b) (below Body (below Head w)) b known.0 (λ z. t (Head ∷ Body ∷ z)) (split (links_of k b out) body l.0).1 p v h)
    states_below out see outer names agree within control cs steers active next word steered above around k w (more_states q b until unless at ss) known t f (Head ∷ Until ∷ p) v h =
        let body = links_of k b out ++ of_inside (seen_in k b see) (Some active) around (k + own_size b) b in
        let weak = of_tests (seen_in k b see) (Some active) next ((k + own_size b) + size_inside b) until in
        let strong = of_tests out control active (((k + own_size b) + size_inside b) + size_of_tests until) unless in
        let g = split (body ++ (weak ++ strong)) (of_states out control see active next around ((((k + own_size b) + size_inside b) + size_of_tests until) + size_of_tests unless) ss) f in
        let l = split body (weak ++ strong) g.0 in
        let m = split weak strong l.1 in
        let inner = names_in_block b names (at_places (below Body (below Head w))) in
        moved (r v) cs word (at_conditions until inner (at_places (below Until (below Head w))) p)
        (tests_below (seen_in k b see) inner (block_agrees k (k + own_size b) b names see (below Body (below Head w)) within (λ z. t (Head ∷ Body ∷ z))) (Some active) (both cs word) (λ u x. (lower (r active) (r u) cs (reads_one u active x) above, steered u x)) next
        ((k + own_size b) + size_inside b) (below Until (below Head w)) until (λ z. t (Head ∷ Until ∷ z)) m.0 p v h)
    states_below out see outer names agree within control cs steers active next word steered above around k w (more_states q b until unless at ss) known t f (Head ∷ Unless ∷ p) v h =
        let body = links_of k b out ++ of_inside (seen_in k b see) (Some active) around (k + own_size b) b in
        let weak = of_tests (seen_in k b see) (Some active) next ((k + own_size b) + size_inside b) until in
        let strong = of_tests out control active (((k + own_size b) + size_inside b) + size_of_tests until) unless in
        let g = split (body ++ (weak ++ strong)) (of_states out control see active next around ((((k + own_size b) + size_inside b) + size_of_tests until) + size_of_tests unless) ss) f in
        let l = split body (weak ++ strong) g.0 in
        let m = split weak strong l.1 in
        tests_below out outer agree control cs steers active (((k + own_size b) + size_inside b) + size_of_tests until) (below Unless (below Head w)) unless (λ z. t (Head ∷ Unless ∷ z)) m.1 p v h
    states_below out see outer names agree within control cs steers active next word steered above around k w (more_states q b until unless at ss) known t f (Tail ∷ p) v h =
        let body = links_of k b out ++ of_inside (seen_in k b see) (Some active) around (k + own_size b) b in
        let tests = of_tests (seen_in k b see) (Some active) next ((k + own_size b) + size_inside b) until ++ of_tests out control active (((k + own_size b) + size_inside b) + size_of_tests until) unless in
        let g = split (body ++ tests) (of_states out control see active next around ((((k + own_size b) + size_inside b) + size_of_tests until) + size_of_tests unless) ss) f in
        states_below out see outer names agree within control cs steers active next word steered above around ((((k + own_size b) + size_inside b) + size_of_tests until) + size_of_tests unless) (below Tail w) ss known.1 (λ z. t (Tail ∷ z)) g.1 p v h
    states_below out see outer names agree within control cs steers active next word steered above around k w ss known t f p v h = absurd cc

  -- ---- a node

  free : (u : ℕ) → Falls Deps r (read (Some u) None) → Below (r u) none
  free u f = tt

  told_below : (see : Sight) (names : NameSources) (agree : Agree A names see) (k : ℕ) (w : Whereabouts) (o : Option Expr) → Ties A (number_told k o) w → Falls Deps r (of_told see k o) → (p : Place) (v : ℕ) → number_told k o p ≡ Some v → Below (r v) (at_told o names (at_places w) p)
  told_below see names agree k w None t f p v h = tt
  told_below see names agree k w (Some e) t f p v h = (expr_below see names agree None none free [] [] k w e t f p v h).1

  contract_below : (see : Sight) (names : NameSources) (agree : Agree A names see) (k : ℕ) (w : Whereabouts) (c : Option Contract) → DeclaredInContract c → Ties A (number_contract k c) w → Falls Deps r (of_contract see k c) → (p : Place) (v : ℕ) → number_contract k c p ≡ Some v
      → Below (r v) (in_contract c names (at_places w) p)
  contract_below see names agree k w (Some c) known t f (Observer ∷ p) v h =
      let own = seen_in k c.body see in
      let g = split (of_inside own None [] (k + own_size c.body) c.body) (of_told own ((k + own_size c.body) + size_inside c.body) c.assume ++ of_told own (((k + own_size c.body) + size_inside c.body) + size_of_told c.assume) c.enforce) f in
      (inside_below see names agree None none free [] k (k + own_size c.body) (below Observer w) c.body known (λ q. t (Observer ∷ q)) g.0 p v h).1
  contract_below see names agree k w (Some c) known t f (Assume ∷ p) v h =
      let own = seen_in k c.body see in
      let g = split (of_inside own None [] (k + own_size c.body) c.body) (of_told own ((k + own_size c.body) + size_inside c.body) c.assume ++ of_told own (((k + own_size c.body) + size_inside c.body) + size_of_told c.assume) c.enforce) f in
      let m = split (of_told own ((k + own_size c.body) + size_inside c.body) c.assume) (of_told own (((k + own_size c.body) + size_inside c.body) + size_of_told c.assume) c.enforce) g.1 in
      told_below own (names_in_block c.body names (at_places (below Observer w))) (block_agrees k (k + own_size c.body) c.body names see (below Observer w) agree (λ q. t (Observer ∷ q))) ((k + own_size c.body) + size_inside c.body) (below Assume w) c.assume (λ q. t (Assume ∷ q)) m.0 p v h
  contract_below see names agree k w (Some c) known t f (Enforce ∷ p) v h =
      let own = seen_in k c.body see in
      let g = split (of_inside own None [] (k + own_size c.body) c.body) (of_told own ((k + own_size c.body) + size_inside c.body) c.assume ++ of_told own (((k + own_size c.body) + size_inside c.body) + size_of_told c.assume) c.enforce) f in
      let m = split (of_told own ((k + own_size c.body) + size_inside c.body) c.assume) (of_told own (((k + own_size c.body) + size_inside c.body) + size_of_told c.assume) c.enforce) g.1 in
      told_below own (names_in_block c.body names (at_places (below Observer w))) (block_agrees k (k + own_size c.body) c.body names see (below Observer w) agree (λ q. t (Observer ∷ q))) (((k + own_size c.body) + size_inside c.body) + size_of_told c.assume) (below Enforce w) c.enforce (λ q. t (Enforce ∷ q)) m.1 p v h
  contract_below see names agree k w c known t f p v h = absurd cc

in_no_control : (c : Option Contract) (names : NameSources) (k : PlaceSources) (p : Place) → in_contract c names k (Controls ∷ p) ≡ none
in_no_control None names k p = refl
in_no_control (Some c) names k p = refl

no_name : (k : ℕ) (c : Option Contract) (x : List ℕ) (p : Place) (v : ℕ) → number_contract k c (Named x ∷ p) ≡ Some v → ⊥
no_name k None x p v h = absurd cc
no_name k (Some c) x p v h = absurd cc

pub node_below : (Deps : Type 0) (r : ℕ → ℕ) (n : Node) → NamesDeclared n → Falls Deps r (of_node n) → (p : Place) (v : ℕ) → number_node n p ≡ Some v → WithinReads Deps (λ q. rank_at r (number_node n q) < r v) (sources n p)
node_below Deps r n known f p v h =
    let A = number_node n in
    let ds = controls_of n.contract in
    let observer = of_contract (seen_outputs n) (first_of_contract n) n.contract in
    let body = of_inside (seen_in (first_of_body n) n.body (seen_controls n)) None (declared_names n.outputs) (first_inside n) n.body in
    let g = split Deps r A (of_controls 0 ds) (observer ++ body) f in
    let m = split Deps r A observer body g.1 in
    let outputs = agree_outputs A n.outputs (first_of_body n) (first_inside n) n.body (λ q. Body ∷ q) (λ x u e. e) in
    by p (λ q e. subst (λ s. WithinReads Deps (λ z. rank_at r (A z) < r v) s) (sym e) tt)
    (λ q u. (inside_below Deps r A (seen_controls n) (control_in ds (λ z. only (Controls ∷ z))) (agree_controls A 0 ds (λ z. Controls ∷ z) (λ z y e. e)) None none (free Deps r A) (declared_names n.outputs) (first_of_body n) (first_inside n) (λ z. Body ∷ z) n.body known.1 (λ z y e. e) m.1 q v u).1)
    (λ q u. contract_below Deps r A (seen_outputs n) (output_in n (λ z. only (Body ∷ z))) outputs (first_of_contract n) (λ z. z) n.contract known.0 (observer_ties n) m.0 q v u) h
  where
    by : (q : Place) → ((z : Place) → sources n (Controls ∷ z) ≡ none → WithinReads Deps (λ y. rank_at r (number_node n y) < r v) (sources n (Controls ∷ z)))
        → ((z : Place) → number_block (first_of_body n) (first_inside n) n.body z ≡ Some v → WithinReads Deps (λ y. rank_at r (number_node n y) < r v) (sources n (Body ∷ z)))
        → ((z : Place) → number_contract (first_of_contract n) n.contract z ≡ Some v → WithinReads Deps (λ y. rank_at r (number_node n y) < r v) (in_contract n.contract (output_in n (λ y. only (Body ∷ y))) only z))
        → number_node n q ≡ Some v → WithinReads Deps (λ y. rank_at r (number_node n y) < r v) (sources n q)
    by (Controls ∷ z) steer inner told h = steer z (in_no_control n.contract (output_in n (λ y. only (Body ∷ y))) only z)
    by (Body ∷ z) steer inner told h = inner z h
    by (Named x ∷ z) steer inner told h = absurd (no_name (first_of_contract n) n.contract x z v h)
    by z steer inner told h = told z h
