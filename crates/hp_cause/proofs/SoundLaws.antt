-- Along each edge lies a read: what is entered at its end is read at its beginning.
use Rattle.std.proofs.Common.{◌≡◌, ◌⊎◌, inl, inr, ⊎_elim, codes, ℕ, ◌+◌, List, [], ◌∷◌, ◌++◌, Bool, true, false, IsTrue, ◌&&◌, if◌then◌else◌, Option, None, Some, refl, sym, ap, subst, ◌∙◌, arith}
use Rattle.std.specs.Str.{bytes_eq}
use Rattle.std.proofs.lemmas.Slice.Eq.{bytes_eq-Decides}
use Rattle.hp_base.specs.declared.span.Span.{Span}
use Rattle.hp_tree.specs.declared.block.Trans.{Trans}
use Rattle.hp_tree.specs.Expressions.{Expr, constant, variable, last_of, one, two, choose, pre, fby, arrow, when_is, merge, call, Exprs, no_expr, more_exprs, Parts, no_part, more_parts}
use Rattle.hp_tree.specs.Blocks.{Decl, Block, block, Eqns, no_eqn, more_eqns, Eqn, define, switch, reset, automaton, Arms, no_arm, more_arms, States, no_state, more_states}
use Rattle.hp_tree.specs.Programs.{Contract, Node}
use Rattle.hp_tree.specs.Instant.{Controls, Body, Observer, Assume, Enforce, Named, Fresh, Equations, Head, Tail, Right, Test, Arms as ArmsOf, States as StatesOf, Until, Unless, Active, Next, First, Second, Third, Args, Place, Clock, without}
use Rattle.hp_tree.specs.Meaning.{declares, is_among, defines, some_defines, arms_define, states_define, block_defines, clock_of, controls_of, names_of as declared_names}
use Rattle.hp_meaning.specs.declared.causal.point.PointKind.TheVariants as kind
use Rattle.hp_meaning.specs.Causal.Points.{span_of, Whereabouts}
use Rattle.hp_meaning.specs.Causal.Sources.{Sources, none, only, both, also, NameSources, PlaceSources, below}
use Rattle.hp_meaning.specs.Causal.WhatIsRead.{of_clock, of_expr as reads_of, of_exprs as reads_of_all, of_parts as reads_of_parts, names_in as names_inside, names_within, names_in_block, in_arms, in_states, of_conditions, strong_ones, weak_ones, control_in, has_equation, output_in, at_expr, at_exprs, at_parts, at_conditions, of_definition as reads_of_definition, of_definitions, in_block, in_equations, in_equation, in_each_arm, in_each_state, at_told, in_contract}
use Rattle.hp_meaning.specs.Causal.Causality.{sources}
use Rattle.hp_meaning.proofs.CausalLemmas.Choices.{or_first, or_second}
use Rattle.hp_cause.specs.Facts.{Fact, stands, reads, depends, stand, read, depend, read_by_all}
use Rattle.hp_tables.specs.Defining.Layers.{numbered}
use Rattle.hp_tables.specs.Defining.Names.{listed, names_in, undeclared}
use Rattle.hp_cause.specs.Walked.{is_fresh, control_of_block, control_of_eqns, control_of_eqn, control_of_arms, control_of_states, control_of_contract, control_of_node, DefinedOnce, DefinedOnceInAll, DefinedOnceInOne, DefinedOnceInArms, DefinedOnceInStates, DefinedOnceInContract, NamesDefinedOnce}
use Rattle.hp_cause.specs.Vertices.{calls_in, own_of_test, is_call, size_of_tests, own_size, size_inside, size_of, size_of_told, Numbering, number_expr, number_exprs, number_parts, number_test, number_tests, number_block, number_eqns, number_eqn, number_arms, number_states, number_told, number_contract, number_controls, first_of_body, first_of_contract, first_inside, number_node}
use Rattle.hp_cause.specs.Gathering.{Sight, on_clock, names_of_clock, outer_clock, of_call, of_expr, of_exprs, of_parts, readers_of_test, of_test, of_tests, of_left, of_lefts, in_list, vertices_of, of_defined_name, of_name_if, of_defined, of_control, of_words, of_links, seen_in, seen_within, links_of, of_inside, of_eqns, of_eqn, of_arms, of_states, of_told, of_contract, of_controls, seen_controls, own_sight, seen_declared, seen_outputs, of_node}
use Rattle.hp_tables.proofs.DefiningLemmas.ListedLaws.{listed_in, listed_outer}
use Rattle.hp_cause.proofs.NumberLaws.{listed_numbered, numbered_listed, over_there}
use Rattle.hp_cause.proofs.AgreeLaws.{Is, outer_is, one_number, observer_ties, observer_sources, observer_controls}

-- What is read, or what is depended on, where `Deps` holds. A vertex is entered at some places, and left for some.
module _ (In : Place → Sources → Type 0) (here : (p : Place) → In p (only p)) (first : (p : Place) (s t : Sources) → In p s → In p (both s t)) (second : (p : Place) (s t : Sources) → In p t → In p (both s t)) (parts : (p : Place) (s t : Sources) → In p (both s t) → In p s ⊎ In p t)
    (never : (p : Place) → In p none → ⊥) (Deps : Type 0) (beside : (p : Place) (s : Sources) → Deps → In p s → In p (also s)) (Into Outof : ℕ → Place → Type 0) where
  abbrev at_places : Whereabouts → PlaceSources
  at_places w p = only (w p)

  abbrev pub Sound : List Fact → Type 0
  Sound [] = Unit {0}
  Sound (stands p v ∷ facts) = Sound facts
  Sound (reads v u ∷ facts) = ((x : Place) → Into u x → Outof v x) × Sound facts
  Sound (depends v u ∷ facts) = (Deps → (x : Place) → Into u x → Outof v x) × Sound facts

  join : (xs ys : List Fact) → Sound xs → Sound ys → Sound (xs ++ ys)
  join [] ys a b = b
  join (stands p v ∷ xs) ys a b = join xs ys a b
  join (reads v u ∷ xs) ys a b = (a.0, join xs ys a.1 b)
  join (depends v u ∷ xs) ys a b = (a.0, join xs ys a.1 b)

  sound_stand : (k : _) (x : List ℕ) (at : Span) (o : Option ℕ) → Sound (stand k x at o)
  unfolding stand
  sound_stand k x at None = tt
  sound_stand k x at (Some v) = tt

  sound_read : (o p : Option ℕ) → ((v u : ℕ) → o ≡ Some v → p ≡ Some u → (x : Place) → Into u x → Outof v x) → Sound (read o p)
  unfolding read
  sound_read None p h = tt
  sound_read (Some v) None h = tt
  sound_read (Some v) (Some u) h = (h v u refl refl, tt)

  sound_depend : (o p : Option ℕ) → ((v u : ℕ) → o ≡ Some v → p ≡ Some u → Deps → (x : Place) → Into u x → Outof v x) → Sound (depend o p)
  unfolding depend
  sound_depend None p h = tt
  sound_depend (Some v) None h = tt
  sound_depend (Some v) (Some u) h = (h v u refl refl, tt)

  sound_all : (vs : List ℕ) (o : Option ℕ) → ((v u : ℕ) → Is v vs → o ≡ Some u → (x : Place) → Into u x → Outof v x) → Sound (read_by_all vs o)
  sound_all [] o h = tt
  sound_all (v ∷ vs) o h =
      join (read (Some v) o) (read_by_all vs o) (sound_read (Some v) o (λ a u e g. h a u (inl (sym (one_number v a e))) g)) (sound_all vs o (λ a u i g. h a u (inr i) g))

  -- a place that is one of those that are read
  at : (x p : Place) → x ≡ p → In x (only p)
  at x p e = subst (λ z. In x (only z)) e (here x)

  same : (k v : ℕ) (x : Place) → Some k ≡ Some v → Outof k x → Outof v x
  same k v x e h = subst (λ n. Outof n x) (one_number k v e) h

  turned : (x : Place) (a b c : Sources) → In x (both (both a b) c) → In x (both a (both b c))
  turned x a b c h =
      ⊎_elim (λ l. ⊎_elim (λ i. first x a (both b c) i) (λ j. second x a (both b c) (first x b c j)) (parts x a b l)) (λ j. second x a (both b c) (second x b c j)) (parts x (both a b) c h)

  abbrev Enters : Numbering → Whereabouts → Type 0
  Enters number w = (p : Place) (v : ℕ) (x : Place) → number p ≡ Some v → is_fresh p ≡ false → Into v x → x ≡ w p

  abbrev Leaves : Numbering → PlaceSources → Type 0
  Leaves number s = (p : Place) (v : ℕ) (x : Place) → number p ≡ Some v → is_fresh p ≡ false → In x (s p) → Outof v x

  abbrev EntersControl : Numbering → PlaceSources → Type 0
  EntersControl number s = (p : Place) (v : ℕ) (x : Place) → number p ≡ Some v → is_fresh p ≡ true → Into v x → In x (s p)

  abbrev LeavesControl : Numbering → PlaceSources → Type 0
  LeavesControl number s = (p : Place) (v : ℕ) (x : Place) → number p ≡ Some v → is_fresh p ≡ true → In x (s p) → Outof v x

  abbrev under : Sources → PlaceSources → PlaceSources
  under cs s p = both cs (s p)

  abbrev Known : Sight → NameSources → Type 0
  Known see names = (x : List ℕ) (u : ℕ) (q : Place) → see x ≡ Some u → Into u q → In q (names x)

  abbrev Steers : Option ℕ → Sources → Type 0
  Steers control cs = (u : ℕ) (q : Place) → control ≡ Some u → Into u q → In q cs

  -- ---- expressions

  module _ (see : Sight) (names : NameSources) (known : Known see names) where
    sound_clock : (clock : Clock) (o : Option ℕ) → ((v : ℕ) → o ≡ Some v → Deps → (x : Place) → In x (of_clock clock names) → Outof v x) → Sound (on_clock see (names_of_clock clock) o)
    sound_clock [] o h = tt
    sound_clock (on ∷ clock) o h =
        join (depend o (see on.1)) (on_clock see (names_of_clock clock) o) (sound_depend o (see on.1) (λ v u e g d x i. h v e d x (first x (names on.1) (of_clock clock names) (known on.1 u x g i))))
        (sound_clock clock o (λ v e d x i. h v e d x (second x (names on.1) (of_clock clock names) i)))

    module _ (control : Option ℕ) (cs : Sources) (steers : Steers control cs) where
      abbrev Reading : List ℕ → Sources → Type 0
      Reading readers s = (v : ℕ) → Is v readers → (x : Place) → In x s → Outof v x

      nobody : (s : Sources) → Reading [] s
      nobody s v i x h = absurd i

      name_read : (readers : List ℕ) (x : List ℕ) → Reading readers (names x) → Sound (read_by_all readers (see x))
      name_read readers x by = sound_all readers (see x) (λ v u i e q h. by v i q (known x u q e h))

      mutual
        expr_sound : (clock : Clock) (readers : List ℕ) (k : ℕ) (w : Whereabouts) (e : Expr) → Enters (number_expr k e) w → Leaves (number_expr k e) (under cs (at_expr e clock names (at_places w))) → Reading readers (reads_of e names (at_places w)) → Sound (of_expr see control (names_of_clock clock) readers k e)
        expr_sound clock readers k w (constant s c) into out by = tt
        expr_sound clock readers k w (variable s x) into out by = name_read readers x by
        expr_sound clock readers k w (last_of s x) into out by = tt
        expr_sound clock readers k w (one s o a) into out by = expr_sound clock readers k (below First w) a (λ p. into (First ∷ p)) (λ p. out (First ∷ p)) by
        expr_sound clock readers k w (two s o a b) into out by =
            let ns = names_of_clock clock in
            join (of_expr see control ns readers k a) (of_expr see control ns readers (k + calls_in a) b)
            (expr_sound clock readers k (below First w) a (λ p. into (First ∷ p)) (λ p. out (First ∷ p)) (λ v i x h. by v i x (first x (reads_of a names (at_places (below First w))) (reads_of b names (at_places (below Second w))) h)))
            (expr_sound clock readers (k + calls_in a) (below Second w) b (λ p. into (Second ∷ p)) (λ p. out (Second ∷ p)) (λ v i x h. by v i x (second x (reads_of a names (at_places (below First w))) (reads_of b names (at_places (below Second w))) h)))
        expr_sound clock readers k w (choose s a b c) into out by =
            let ns = names_of_clock clock in
            let ra = reads_of a names (at_places (below First w)) in
            let rb = reads_of b names (at_places (below Second w)) in
            let rc = reads_of c names (at_places (below Third w)) in
            join (of_expr see control ns readers k a) (of_expr see control ns readers (k + calls_in a) b ++ of_expr see control ns readers ((k + calls_in a) + calls_in b) c)
            (expr_sound clock readers k (below First w) a (λ p. into (First ∷ p)) (λ p. out (First ∷ p)) (λ v i x h. by v i x (first x ra (both rb rc) h)))
            (join (of_expr see control ns readers (k + calls_in a) b) (of_expr see control ns readers ((k + calls_in a) + calls_in b) c)
            (expr_sound clock readers (k + calls_in a) (below Second w) b (λ p. into (Second ∷ p)) (λ p. out (Second ∷ p)) (λ v i x h. by v i x (second x ra (both rb rc) (first x rb rc h))))
            (expr_sound clock readers ((k + calls_in a) + calls_in b) (below Third w) c (λ p. into (Third ∷ p)) (λ p. out (Third ∷ p)) (λ v i x h. by v i x (second x ra (both rb rc) (second x rb rc h)))))
        expr_sound clock readers k w (pre s a) into out by = expr_sound clock [] k (below First w) a (λ p. into (First ∷ p)) (λ p. out (First ∷ p)) (nobody (reads_of a names (at_places (below First w))))
        expr_sound clock readers k w (fby s a b) into out by =
            let ns = names_of_clock clock in
            join (of_expr see control ns readers k a) (of_expr see control ns [] (k + calls_in a) b) (expr_sound clock readers k (below First w) a (λ p. into (First ∷ p)) (λ p. out (First ∷ p)) by)
            (expr_sound clock [] (k + calls_in a) (below Second w) b (λ p. into (Second ∷ p)) (λ p. out (Second ∷ p)) (nobody (reads_of b names (at_places (below Second w)))))
        expr_sound clock readers k w (arrow s a b) into out by =
            let ns = names_of_clock clock in
            join (of_expr see control ns readers k a) (of_expr see control ns readers (k + calls_in a) b)
            (expr_sound clock readers k (below First w) a (λ p. into (First ∷ p)) (λ p. out (First ∷ p)) (λ v i x h. by v i x (first x (reads_of a names (at_places (below First w))) (reads_of b names (at_places (below Second w))) h)))
            (expr_sound clock readers (k + calls_in a) (below Second w) b (λ p. into (Second ∷ p)) (λ p. out (Second ∷ p)) (λ v i x h. by v i x (second x (reads_of a names (at_places (below First w))) (reads_of b names (at_places (below Second w))) h)))
        expr_sound clock readers k w (when_is s a c x) into out by =
            let ra = reads_of a names (at_places (below First w)) in
            join (read_by_all readers (see x)) (of_expr see control (outer_clock (names_of_clock clock)) readers k a) (name_read readers x (λ v i q h. by v i q (first q (names x) ra h)))
            (subst (λ ns. Sound (of_expr see control ns readers k a)) (sym (outer_is clock))
            (expr_sound (without clock) readers k (below First w) a (λ p. into (First ∷ p)) (λ p. out (First ∷ p)) (λ v i q h. by v i q (second q (names x) ra h))))
        expr_sound clock readers k w (merge s x ps) into out by =
            let rs = reads_of_parts ps names (at_places (below Args w)) in
            join (read_by_all readers (see x)) (of_parts see control (x ∷ names_of_clock clock) readers k ps) (name_read readers x (λ v i q h. by v i q (first q (names x) rs h)))
            (parts_sound x clock readers k (below Args w) ps (λ p. into (Args ∷ p)) (λ p. out (Args ∷ p)) (λ v i q h. by v i q (second q (names x) rs h)))
        expr_sound clock readers k w (call s f n es) into out by =
            let ns = names_of_clock clock in
            let cl = also (of_clock clock names) in
            let rs = reads_of_all es names (at_places (below Args w)) in
            join (of_call see control ns readers f s k) (of_exprs see control ns (k ∷ []) (k + 1) es)
            (join (stand kind.Call f s (Some k)) (read_by_all readers (Some k) ++ (read (Some k) control ++ on_clock see ns (Some k))) (sound_stand kind.Call f s (Some k))
            (join (read_by_all readers (Some k)) (read (Some k) control ++ on_clock see ns (Some k)) (sound_all readers (Some k) (λ v u i e x h. by v i x (at x (w []) (into [] u x e refl h))))
            (join (read (Some k) control) (on_clock see ns (Some k)) (sound_read (Some k) control (λ v u e g x h. out [] v x e refl (first x cs (both cl rs) (steers u x g h))))
            (sound_clock clock (Some k) (λ v e d x h. out [] v x e refl (second x cs (both cl rs) (first x cl rs (beside x (of_clock clock names) d h))))))))
            (exprs_sound clock (k ∷ []) (k + 1) (below Args w) es (λ p. into (Args ∷ p)) (λ p. out (Args ∷ p))
            (λ v i x h. ⊎_elim (λ e. out [] v x (ap Some (sym e)) refl (second x cs (both cl rs) (second x cl rs h))) (λ j. absurd j) i))

        exprs_sound : (clock : Clock) (readers : List ℕ) (k : ℕ) (w : Whereabouts) (es : Exprs) → Enters (number_exprs k es) w → Leaves (number_exprs k es) (under cs (at_exprs es clock names (at_places w))) → Reading readers (reads_of_all es names (at_places w)) → Sound (of_exprs see control (names_of_clock clock) readers k es)
        exprs_sound clock readers k w no_expr into out by = tt
        exprs_sound clock readers k w (more_exprs e es) into out by =
            let ns = names_of_clock clock in
            join (of_expr see control ns readers k e) (of_exprs see control ns readers (k + calls_in e) es)
            (expr_sound clock readers k (below Head w) e (λ p. into (Head ∷ p)) (λ p. out (Head ∷ p)) (λ v i x h. by v i x (first x (reads_of e names (at_places (below Head w))) (reads_of_all es names (at_places (below Tail w))) h)))
            (exprs_sound clock readers (k + calls_in e) (below Tail w) es (λ p. into (Tail ∷ p)) (λ p. out (Tail ∷ p)) (λ v i x h. by v i x (second x (reads_of e names (at_places (below Head w))) (reads_of_all es names (at_places (below Tail w))) h)))

        parts_sound : (y : List ℕ) (clock : Clock) (readers : List ℕ) (k : ℕ) (w : Whereabouts) (ps : Parts) → Enters (number_parts k ps) w → Leaves (number_parts k ps) (under cs (at_parts ps y clock names (at_places w))) → Reading readers (reads_of_parts ps names (at_places w))
            → Sound (of_parts see control (y ∷ names_of_clock clock) readers k ps)
        parts_sound y clock readers k w no_part into out by = tt
        parts_sound y clock readers k w (more_parts c e ps) into out by =
            let ns = y ∷ names_of_clock clock in
            join (of_expr see control ns readers k e) (of_parts see control ns readers (k + calls_in e) ps)
            (expr_sound ((c, y) ∷ clock) readers k (below Head w) e (λ p. into (Head ∷ p)) (λ p. out (Head ∷ p)) (λ v i x h. by v i x (first x (reads_of e names (at_places (below Head w))) (reads_of_parts ps names (at_places (below Tail w))) h)))
            (parts_sound y clock readers (k + calls_in e) (below Tail w) ps (λ p. into (Tail ∷ p)) (λ p. out (Tail ∷ p)) (λ v i x h. by v i x (second x (reads_of e names (at_places (below Head w))) (reads_of_parts ps names (at_places (below Tail w))) h)))

      -- ---- conditions

      top_in : (w : Whereabouts) (e : Expr) (x : Place) → is_call e ≡ false → In x (reads_of e names (at_places w)) → In x (at_expr e [] names (at_places w) [])
      top_in w (constant s c) x d h = absurd (never x h)
      top_in w (variable s y) x d h = second x (also none) (names y) h
      top_in w (last_of s y) x d h = h
      top_in w (one s o a) x d h = second x (also none) (reads_of (one s o a) names (at_places w)) h
      top_in w (two s o a b) x d h = second x (also none) (reads_of (two s o a b) names (at_places w)) h
      top_in w (choose s a b c) x d h = second x (also none) (reads_of (choose s a b c) names (at_places w)) h
      top_in w (pre s a) x d h = absurd (never x h)
      top_in w (fby s a b) x d h = second x (also none) (reads_of (fby s a b) names (at_places w)) h
      top_in w (arrow s a b) x d h = second x (also none) (reads_of (arrow s a b) names (at_places w)) h
      top_in w (when_is s a c y) x d h = second x (also none) (reads_of (when_is s a c y) names (at_places w)) h
      top_in w (merge s y ps) x d h = second x (also none) (reads_of (merge s y ps) names (at_places w)) h
      top_in w (call s f i es) x d h = absurd cc

      test_number : (k : ℕ) (e : Expr) (p : Place) (v : ℕ) → number_expr (k + own_of_test e) e p ≡ Some v → number_test k e p ≡ Some v
      test_number k (call s f i es) [] v h = ap Some (let m : k ≡ k + 0 = omega arith in m) ∙ h
      test_number k e (q ∷ p) v h = h
      test_number k e [] v h = absurd cc

      test_sound : (reader k : ℕ) (w : Whereabouts) (e : Expr) → Enters (number_test k e) w → Leaves (number_test k e) (under cs (at_expr e [] names (at_places w))) → ((x : Place) → In x (only (w [])) → Outof reader x) → Sound (of_test see control reader k e)
      test_sound reader k w e into out by =
          let s = at_expr e [] names (at_places w) [] in
          join (stand kind.Cond (codes "cond") (span_of e) (Some k) ++ (read (Some reader) (Some k) ++ read (Some k) control)) (of_expr see control [] (readers_of_test k e) (k + own_of_test e) e)
          (join (stand kind.Cond (codes "cond") (span_of e) (Some k)) (read (Some reader) (Some k) ++ read (Some k) control) (sound_stand kind.Cond (codes "cond") (span_of e) (Some k))
          (join (read (Some reader) (Some k)) (read (Some k) control)
          (sound_read (Some reader) (Some k) (λ v u e' g x h. same reader v x e' (by x (at x (w []) (into [] u x g refl h)))))
          (sound_read (Some k) control (λ v u e' g x h. out [] v x e' refl (first x cs s (steers u x g h))))))
          (expr_sound [] (readers_of_test k e) (k + own_of_test e) w e (λ p v x h. into p v x (test_number k e p v h)) (λ p v x h. out p v x (test_number k e p v h)) (λ v i x h. reading (is_call e) refl v i x h))
        where
          reading : (d : Bool) → is_call e ≡ d → (v : ℕ) → Is v (if d then [] else k ∷ []) → (x : Place) → In x (reads_of e names (at_places w)) → Outof v x
          reading true d v i x h = absurd i
          reading false d v i x h = ⊎_elim (λ e'. out [] v x (ap Some (sym e')) refl (second x cs (at_expr e [] names (at_places w) []) (top_in w e x d h))) (λ j. absurd j) i

      tests_sound : (reader k : ℕ) (w : Whereabouts) (ts : List Trans) → Enters (number_tests k ts) w → Leaves (number_tests k ts) (under cs (at_conditions ts names (at_places w))) → ((x : Place) → In x (of_conditions ts (at_places w)) → Outof reader x) → Sound (of_tests see control reader k ts)
      tests_sound reader k w [] into out by = tt
      tests_sound reader k w (c ∷ ts) into out by =
          join (of_test see control reader k c.cond) (of_tests see control reader ((k + own_of_test c.cond) + calls_in c.cond) ts)
          (test_sound reader k (below Head w) c.cond (λ p. into (Head ∷ p)) (λ p. out (Head ∷ p)) (λ x h. by x (first x (only (w (Head ∷ []))) (of_conditions ts (at_places (below Tail w))) h)))
          (tests_sound reader ((k + own_of_test c.cond) + calls_in c.cond) (below Tail w) ts (λ p. into (Tail ∷ p)) (λ p. out (Tail ∷ p)) (λ x h. by x (second x (only (w (Head ∷ []))) (of_conditions ts (at_places (below Tail w))) h)))

  -- ---- the definitions of names

  -- what a name of a control equation reads in a block of it
  links_sound : (out own : Sight) (xs : List (List ℕ)) → ((x : List ℕ) → IsTrue (listed xs x) → (v u : ℕ) → out x ≡ Some v → own x ≡ Some u → (q : Place) → Into u q → Outof v q) → Sound (of_links out own xs)
  links_sound out own [] h = tt
  links_sound out own (x ∷ xs) h =
      join (read (out x) (own x)) (of_links out own xs) (sound_read (out x) (own x) (λ v u e g q i. h x (or_first (bytes_eq x x) (listed xs x) ((bytes_eq-Decides x x).1 refl)) v u e g q i))
      (links_sound out own xs (λ y l. h y (or_second (bytes_eq x y) (listed xs y) l)))

  block_links : (j k : ℕ) (w : Whereabouts) (b : Block) (out : Sight) → Enters (number_block j k b) w → ((x : List ℕ) (v : ℕ) → IsTrue (block_defines b x) → out x ≡ Some v → (q : Place) → In q (only (w (Named x ∷ []))) → Outof v q) → Sound (links_of j b out)
  block_links j k w (block ds es) out into feeds =
      links_sound out (numbered j (names_in es)) (undeclared ds (names_in es))
      (λ x l v u e g q i. feeds x v (sym (listed_outer x (block ds es)) ∙ l) e q (at q (w (Named x ∷ [])) (into (Named x ∷ []) u q g refl i)))

  lefts_sound : (see : Sight) (names : NameSources) (known : Known see names) (control : Option ℕ) (cs : Sources) (steers : Steers control cs) (clock : Clock) (rest : Sources) (ys : List (List ℕ × Span))
      → ((x : List ℕ) (v : ℕ) → IsTrue (is_among ys x) → see x ≡ Some v → (q : Place) → In q (both cs (both (also (of_clock clock names)) rest)) → Outof v q) → Sound (of_lefts see control (names_of_clock clock) ys)
  lefts_sound see names known control cs steers clock rest [] defs = tt
  lefts_sound see names known control cs steers clock rest (y ∷ ys) defs =
      let cl = also (of_clock clock names) in
      let is = or_first (bytes_eq y.0 y.0) (is_among ys y.0) ((bytes_eq-Decides y.0 y.0).1 refl) in
      join (of_left see control (names_of_clock clock) y.0 y.1) (of_lefts see control (names_of_clock clock) ys)
      (join (stand kind.Def y.0 y.1 (see y.0)) (read (see y.0) control ++ on_clock see (names_of_clock clock) (see y.0)) (sound_stand kind.Def y.0 y.1 (see y.0))
      (join (read (see y.0) control) (on_clock see (names_of_clock clock) (see y.0)) (sound_read (see y.0) control (λ v u e g q i. defs y.0 v is e q (first q cs (both cl rest) (steers u q g i))))
      (sound_clock see names known clock (see y.0) (λ v e d q i. defs y.0 v is e q (second q cs (both cl rest) (first q cl rest (beside q (of_clock clock names) d i)))))))
      (lefts_sound see names known control cs steers clock rest ys (λ x v l. defs x v (or_second (bytes_eq y.0 x) (is_among ys x) l)))

  vertex_of : (see : Sight) (ys : List (List ℕ × Span)) (v : ℕ) (C : Type 0) → Is v (vertices_of see ys) → ((x : List ℕ) → IsTrue (is_among ys x) → see x ≡ Some v → C) → C
  vertex_of see [] v C i h = absurd i
  vertex_of see (y ∷ ys) v C i h = by (see y.0) refl i (λ j. vertex_of see ys v C j (λ x l. h x (or_second (bytes_eq y.0 x) (is_among ys x) l)))
    where
      by : (o : Option ℕ) → see y.0 ≡ o → Is v (in_list o ++ vertices_of see ys) → (Is v (vertices_of see ys) → C) → C
      by None e i later = later i
      by (Some u) e i later = ⊎_elim (λ g. h y.0 (or_first (bytes_eq y.0 y.0) (is_among ys y.0) ((bytes_eq-Decides y.0 y.0).1 refl)) (e ∙ ap Some (sym g))) later i

  -- each name that a control equation defines reads its vertex, and the control around
  defined_sound : (see : Sight) (control : Option ℕ) (cs : Sources) (steers : Steers control cs) (k : ℕ) (at' : Span) (defined : List ℕ → Bool) (rest : List ℕ → Sources) (xs : List (List ℕ))
      → ((x : List ℕ) (v : ℕ) → IsTrue (defined x) → see x ≡ Some v → (q : Place) → In q (both cs (rest x)) → Outof v q) → ((x : List ℕ) (v : ℕ) → IsTrue (defined x) → see x ≡ Some v → (q : Place) → Into k q → Outof v q)
      → Sound (of_defined see control (Some k) at' defined xs)
  defined_sound see control cs steers k at' defined rest [] defs own = tt
  defined_sound see control cs steers k at' defined rest (x ∷ xs) defs own =
      join (of_name_if see control (Some k) at' defined x) (of_defined see control (Some k) at' defined xs) (by (defined x) refl) (defined_sound see control cs steers k at' defined rest xs defs own)
    where
      by : (d : Bool) → defined x ≡ d → Sound (if d then of_defined_name see control (Some k) at' x else [])
      by true d =
          join (stand kind.Def x at' (see x)) (read (see x) (Some k) ++ read (see x) control) (sound_stand kind.Def x at' (see x))
          (join (read (see x) (Some k)) (read (see x) control) (sound_read (see x) (Some k) (λ v u e g q i. own x v d e q (subst (λ n. Into n q) (sym (one_number k u g)) i)))
          (sound_read (see x) control (λ v u e g q i. defs x v d e q (first q cs (rest x) (steers u q g i)))))
      by false d = tt

  if_in : (d : Bool) (q : Place) (s : Sources) → IsTrue d → In q s → In q (if d then s else none)
  if_in true q s d h = h
  if_in false q s d h = absurd cc

  -- the first definition of a name, and the later ones
  first_in : (d : Bool) (q : Place) (s t : Sources) → IsTrue d → In q s → In q (if d then s else t)
  first_in true q s t d h = h
  first_in false q s t d h = absurd cc

  later_in : (d : Bool) (q : Place) (s t : Sources) → (IsTrue d → ⊥) → In q t → In q (if d then s else t)
  later_in true q s t d h = absurd (d refl)
  later_in false q s t d h = h

  in_both : (q : Place) (cs s t : Sources) → (In q s → In q t) → In q (both cs s) → In q (both cs t)
  in_both q cs s t f h = ⊎_elim (λ i. first q cs t i) (λ j. second q cs t (f j)) (parts q cs s h)

  known_in : (j k : ℕ) (b : Block) (names : NameSources) (see : Sight) (w : Whereabouts) → Known see names → Enters (number_block j k b) w → Known (seen_in j b see) (names_in_block b names (at_places w))
  known_in j k (block ds es) names see w known into x u q e i = by (some_defines es x) (numbered j (names_in es) x) (listed_in x es) refl (numbered_listed j (names_in es) x) (listed_numbered j (names_in es) x) e
    where
      by : (d : Bool) (o : Option ℕ) → listed (names_in es) x ≡ d → numbered j (names_in es) x ≡ o → (IsTrue (listed (names_in es) x) → (v : ℕ) × (numbered j (names_in es) x ≡ Some v)) → ((v : ℕ) → numbered j (names_in es) x ≡ Some v → IsTrue (listed (names_in es) x))
          → (elim o as (λ _. Option ℕ) [ None ↦ see x | Some v ↦ Some v ]) ≡ Some u → In q (if d then only (w (Named x ∷ [])) else names x)
      by true None l n some back e = let f = (some l).1 in absurd cc
      by true (Some v) l n some back e = at q (w (Named x ∷ [])) (into (Named x ∷ []) u q (n ∙ e) refl i)
      by false None l n some back e = known x u q e i
      by false (Some v) l n some back e = let f = back v n in absurd cc

  known_within : (e : Eqn) (names : NameSources) (see : Sight) → Known see names → Known (seen_within e see) (names_within e names)
  known_within e names see known x u q h i = by (defines e x) h
    where
      by : (d : Bool) → (if d then None else see x) ≡ Some u → In q (if d then none else names x)
      by true h = absurd cc
      by false h = known x u q h i

  mutual
    inside_sound : (see : Sight) (names : NameSources) (known : Known see names) (control : Option ℕ) (cs : Sources) (steers : Steers control cs) (around : List (List ℕ)) (j k : ℕ) (w : Whereabouts) (b : Block)
        → DefinedOnce b → Enters (number_block j k b) w → Leaves (number_block j k b) (under cs (in_block b names (at_places w))) → EntersControl (number_block j k b) (control_of_block b names cs (at_places w)) → LeavesControl (number_block j k b) (control_of_block b names cs (at_places w))
        → Sound (of_inside (seen_in j b see) control around k b)
    inside_sound see names known control cs steers around j k w (block ds es) once into out enter leave =
        let inner = known_in j k (block ds es) names see w known into in
        eqns_sound (seen_in j (block ds es) see) (names_inside es names (at_places w)) inner control cs steers (around ++ declared_names ds) ds k (below Equations w) es once
        (λ x v d e q h. out (Named x ∷ []) v q (own x v d e) refl h) (λ p. into (Equations ∷ p)) (λ p. out (Equations ∷ p)) (λ p. enter (Equations ∷ p)) (λ p. leave (Equations ∷ p))
      where
        own : (x : List ℕ) (v : ℕ) → IsTrue (some_defines es x) → seen_in j (block ds es) see x ≡ Some v → numbered j (names_in es) x ≡ Some v
        own x v d e = let found = numbered_listed j (names_in es) x (listed_in x es ∙ d) in found.1 ∙ sym (over_there (numbered j (names_in es) x) (see x) found.0 found.1) ∙ e

    eqns_sound : (see : Sight) (names : NameSources) (known : Known see names) (control : Option ℕ) (cs : Sources) (steers : Steers control cs) (around : List (List ℕ)) (ds : List Decl) (k : ℕ) (w : Whereabouts) (es : Eqns) → DefinedOnceInAll es
        → ((x : List ℕ) (v : ℕ) → IsTrue (some_defines es x) → see x ≡ Some v → (q : Place) → In q (both cs (of_definitions ds es names (at_places w) x)) → Outof v q)
        → Enters (number_eqns k es) w → Leaves (number_eqns k es) (under cs (in_equations ds es names (at_places w))) → EntersControl (number_eqns k es) (control_of_eqns es names cs (at_places w)) → LeavesControl (number_eqns k es) (control_of_eqns es names cs (at_places w))
        → Sound (of_eqns see control around ds k es)
    eqns_sound see names known control cs steers around ds k w no_eqn once defs into out enter leave = tt
    eqns_sound see names known control cs steers around ds k w (more_eqns e es) once defs into out enter leave =
        join (of_eqn see control around ds k e) (of_eqns see control around ds (k + size_of e) es)
        (eqn_sound see names known control cs steers around ds k (below Head w) e once.1
        (λ x v d g q h. defs x v (or_first (defines e x) (some_defines es x) d) g q (in_both q cs (reads_of_definition ds e names (at_places (below Head w)) x) (of_definitions ds (more_eqns e es) names (at_places w) x) (first_in (defines e x) q (reads_of_definition ds e names (at_places (below Head w)) x) (of_definitions ds es names (at_places (below Tail w)) x) d) h))
        (λ p. into (Head ∷ p)) (λ p. out (Head ∷ p)) (λ p. enter (Head ∷ p)) (λ p. leave (Head ∷ p)))
        (eqns_sound see names known control cs steers around ds (k + size_of e) (below Tail w) es once.2
        (λ x v d g q h. defs x v (or_second (defines e x) (some_defines es x) d) g q
        (in_both q cs (of_definitions ds es names (at_places (below Tail w)) x) (of_definitions ds (more_eqns e es) names (at_places w) x) (later_in (defines e x) q (reads_of_definition ds e names (at_places (below Head w)) x) (of_definitions ds es names (at_places (below Tail w)) x) (λ f. once.0 x f d)) h))
        (λ p. into (Tail ∷ p)) (λ p. out (Tail ∷ p)) (λ p. enter (Tail ∷ p)) (λ p. leave (Tail ∷ p)))

    eqn_sound : (see : Sight) (names : NameSources) (known : Known see names) (control : Option ℕ) (cs : Sources) (steers : Steers control cs) (around : List (List ℕ)) (ds : List Decl) (k : ℕ) (w : Whereabouts) (e : Eqn) → DefinedOnceInOne e
        → ((x : List ℕ) (v : ℕ) → IsTrue (defines e x) → see x ≡ Some v → (q : Place) → In q (both cs (reads_of_definition ds e names (at_places w) x)) → Outof v q)
        → Enters (number_eqn k e) w → Leaves (number_eqn k e) (under cs (in_equation ds e names (at_places w))) → EntersControl (number_eqn k e) (control_of_eqn e names cs (at_places w)) → LeavesControl (number_eqn k e) (control_of_eqn e names cs (at_places w))
        → Sound (of_eqn see control around ds k e)
    eqn_sound see names known control cs steers around ds k w (define at' ys e) once defs into out enter leave =
        let clock = clock_of ds ys e in
        let cl = also (of_clock clock names) in
        let rs = reads_of e names (at_places (below Right w)) in
        join (of_lefts see control (names_of_clock clock) ys) (of_expr see control (names_of_clock clock) (vertices_of see ys) k e) (lefts_sound see names known control cs steers clock rs ys defs)
        (expr_sound see names known control cs steers clock (vertices_of see ys) k (below Right w) e (λ p. into (Right ∷ p)) (λ p. out (Right ∷ p))
        (λ v i x h. vertex_of see ys v (Outof v x) i (λ y d g. defs y v d g x (second x cs (both cl rs) (second x cl rs h)))))
    eqn_sound see names known control cs steers around ds k w (switch at' e arms) once defs into out enter leave =
        let eqn = switch at' e arms in
        let hid = seen_within eqn see in
        let test = reads_of e names (at_places (below Test w)) in
        let rest : List ℕ → Sources = in_arms arms (at_places (below ArmsOf w)) in
        join (of_control see control k at' (defines eqn) around) (of_expr see control [] (k ∷ []) (k + 1) e ++ of_arms see hid (Some k) around ((k + 1) + calls_in e) arms)
        (join (of_defined see control (Some k) at' (defines eqn) around) (read (Some k) control)
        (defined_sound see control cs steers k at' (defines eqn) (λ x. both test (rest x)) around defs
        (λ x v d g q i. defs x v d g q (turned q cs test (rest x) (first q (both cs test) (rest x) (enter (Fresh ∷ []) k q refl refl i)))))
        (sound_read (Some k) control (λ v u g h q i. leave (Fresh ∷ []) v q g refl (first q cs test (steers u q h i)))))
        (join (of_expr see control [] (k ∷ []) (k + 1) e) (of_arms see hid (Some k) around ((k + 1) + calls_in e) arms)
        (expr_sound see names known control cs steers [] (k ∷ []) (k + 1) (below Test w) e (λ p. into (Test ∷ p)) (λ p. out (Test ∷ p))
        (λ v i x h. ⊎_elim (λ g. leave (Fresh ∷ []) v x (ap Some (sym g)) refl (second x cs test h)) (λ j. absurd j) i))
        (arms_sound see hid (names_within eqn names) (known_within eqn names see known) (Some k) (both cs test) (λ u q g i. enter (Fresh ∷ []) u q g refl i) around ((k + 1) + calls_in e) (below ArmsOf w) arms once
        (λ x v d g q h. defs x v d g q (second q cs (both test (rest x)) (second q test (rest x) h)))
        (λ p. into (ArmsOf ∷ p)) (λ p v x g f h. out (ArmsOf ∷ p) v x g f (turned x cs test (in_each_arm arms (names_within eqn names) (at_places (below ArmsOf w)) p) h)) (λ p. enter (ArmsOf ∷ p)) (λ p. leave (ArmsOf ∷ p))))
    eqn_sound see names known control cs steers around ds k w (reset at' b e) once defs into out enter leave =
        let eqn = reset at' b e in
        let hid = seen_within eqn see in
        let test = reads_of e names (at_places (below Test w)) in
        let inside = of_inside (seen_in (k + 1) b hid) (Some k) around ((k + 1) + own_size b) b in
        join (of_control see control k at' (defines eqn) around) ((links_of (k + 1) b see ++ inside) ++ of_expr see control [] (k ∷ []) (((k + 1) + own_size b) + size_inside b) e)
        (join (of_defined see control (Some k) at' (defines eqn) around) (read (Some k) control)
        (defined_sound see control cs steers k at' (defines eqn) (λ x. both test (only (w (Body ∷ Named x ∷ [])))) around defs
        (λ x v d g q i. defs x v d g q (turned q cs test (only (w (Body ∷ Named x ∷ []))) (first q (both cs test) (only (w (Body ∷ Named x ∷ []))) (enter (Fresh ∷ []) k q refl refl i)))))
        (sound_read (Some k) control (λ v u g h q i. leave (Fresh ∷ []) v q g refl (first q cs test (steers u q h i)))))
        (join (links_of (k + 1) b see ++ inside) (of_expr see control [] (k ∷ []) (((k + 1) + own_size b) + size_inside b) e)
        (join (links_of (k + 1) b see) inside
        (block_links (k + 1) ((k + 1) + own_size b) (below Body w) b see (λ p. into (Body ∷ p)) (λ x v d g q h. defs x v d g q (second q cs (both test (only (w (Body ∷ Named x ∷ [])))) (second q test (only (w (Body ∷ Named x ∷ []))) h))))
        (inside_sound hid (names_within eqn names) (known_within eqn names see known) (Some k) (both cs test) (λ u q g i. enter (Fresh ∷ []) u q g refl i) around (k + 1) ((k + 1) + own_size b) (below Body w) b once
        (λ p. into (Body ∷ p)) (λ p v x g f h. out (Body ∷ p) v x g f (turned x cs test (in_block b (names_within eqn names) (at_places (below Body w)) p) h)) (λ p. enter (Body ∷ p)) (λ p. leave (Body ∷ p))))
        (expr_sound see names known control cs steers [] (k ∷ []) (((k + 1) + own_size b) + size_inside b) (below Test w) e (λ p. into (Test ∷ p)) (λ p. out (Test ∷ p))
        (λ v i x h. ⊎_elim (λ g. leave (Fresh ∷ []) v x (ap Some (sym g)) refl (second x cs test h)) (λ j. absurd j) i)))
    eqn_sound see names known control cs steers around ds k w (automaton at' ss) once defs into out enter leave =
        let eqn = automaton at' ss in
        let hid = seen_within eqn see in
        let word = only (w (Active ∷ [])) in
        let strong = strong_ones ss (at_places (below StatesOf w)) in
        let weak = weak_ones ss (at_places (below StatesOf w)) in
        let rest : List ℕ → Sources = in_states ss (at_places (below StatesOf w)) in
        let inner = of_states see control hid k (k + 1) around (k + 2) ss in
        join (of_words control k at') (of_defined see control (Some k) at' (defines eqn) around ++ inner)
        (join (stand kind.Active (codes "active") at' (Some k)) (stand kind.Next (codes "next") at' (Some (k + 1)) ++ (read (Some k) control ++ (read (Some (k + 1)) control ++ depend (Some (k + 1)) (Some k)))) (sound_stand kind.Active (codes "active") at' (Some k))
        (join (stand kind.Next (codes "next") at' (Some (k + 1))) (read (Some k) control ++ (read (Some (k + 1)) control ++ depend (Some (k + 1)) (Some k))) (sound_stand kind.Next (codes "next") at' (Some (k + 1)))
        (join (read (Some k) control) (read (Some (k + 1)) control ++ depend (Some (k + 1)) (Some k)) (sound_read (Some k) control (λ v u g h q i. out (Active ∷ []) v q g refl (first q cs strong (steers u q h i))))
        (join (read (Some (k + 1)) control) (depend (Some (k + 1)) (Some k)) (sound_read (Some (k + 1)) control (λ v u g h q i. out (Next ∷ []) v q g refl (first q cs (both (also word) weak) (steers u q h i))))
        (sound_depend (Some (k + 1)) (Some k) (λ v u g h d q i. out (Next ∷ []) v q g refl (second q cs (both (also word) weak) (first q (also word) weak (beside q word d (at q (w (Active ∷ [])) (into (Active ∷ []) u q h refl i)))))))))))
        (join (of_defined see control (Some k) at' (defines eqn) around) inner
        (defined_sound see control cs steers k at' (defines eqn) (λ x. both word (rest x)) around defs
        (λ x v d g q i. defs x v d g q (second q cs (both word (rest x)) (first q word (rest x) (at q (w (Active ∷ [])) (into (Active ∷ []) k q refl refl i))))))
        (states_sound see hid names (names_within eqn names) known (known_within eqn names see known) control cs steers k (k + 1) word (λ u q g i. at q (w (Active ∷ [])) (into (Active ∷ []) u q g refl i)) around (k + 2) (below StatesOf w) ss once
        (λ x v d g q h. defs x v d g q (second q cs (both word (rest x)) (second q word (rest x) h)))
        (λ q h. out (Active ∷ []) k q refl refl (second q cs strong h)) (λ q h. out (Next ∷ []) (k + 1) q refl refl (second q cs (both (also word) weak) (second q (also word) weak h)))
        (λ p. into (StatesOf ∷ p)) (λ p. out (StatesOf ∷ p)) (λ p. enter (StatesOf ∷ p)) (λ p. leave (StatesOf ∷ p))))

    arms_sound : (out_see see : Sight) (names : NameSources) (known : Known see names) (control : Option ℕ) (cs : Sources) (steers : Steers control cs) (around : List (List ℕ)) (k : ℕ) (w : Whereabouts) (arms : Arms) → DefinedOnceInArms arms
        → ((x : List ℕ) (v : ℕ) → IsTrue (arms_define arms x) → out_see x ≡ Some v → (q : Place) → In q (in_arms arms (at_places w) x) → Outof v q)
        → Enters (number_arms k arms) w → Leaves (number_arms k arms) (under cs (in_each_arm arms names (at_places w))) → EntersControl (number_arms k arms) (control_of_arms arms names cs (at_places w)) → LeavesControl (number_arms k arms) (control_of_arms arms names cs (at_places w))
        → Sound (of_arms out_see see control around k arms)
    arms_sound out_see see names known control cs steers around k w no_arm once defs into out enter leave = tt
    arms_sound out_see see names known control cs steers around k w (more_arms c b at' arms) once defs into out enter leave =
        let inside = of_inside (seen_in k b see) control around (k + own_size b) b in
        let mine : List ℕ → Sources = λ x. if block_defines b x then only (w (Head ∷ Named x ∷ [])) else none in
        let others : List ℕ → Sources = in_arms arms (at_places (below Tail w)) in
        join (links_of k b out_see ++ inside) (of_arms out_see see control around ((k + own_size b) + size_inside b) arms)
        (join (links_of k b out_see) inside
        (block_links k (k + own_size b) (below Head w) b out_see (λ p. into (Head ∷ p))
        (λ x v d g q h. defs x v (or_first (block_defines b x) (arms_define arms x) d) g q (first q (mine x) (others x) (if_in (block_defines b x) q (only (w (Head ∷ Named x ∷ []))) d h))))
        (inside_sound see names known control cs steers around k (k + own_size b) (below Head w) b once.0 (λ p. into (Head ∷ p)) (λ p. out (Head ∷ p)) (λ p. enter (Head ∷ p)) (λ p. leave (Head ∷ p))))
        (arms_sound out_see see names known control cs steers around ((k + own_size b) + size_inside b) (below Tail w) arms once.1 (λ x v d g q h. defs x v (or_second (block_defines b x) (arms_define arms x) d) g q (second q (mine x) (others x) h))
        (λ p. into (Tail ∷ p)) (λ p. out (Tail ∷ p)) (λ p. enter (Tail ∷ p)) (λ p. leave (Tail ∷ p)))

    states_sound : (out_see see : Sight) (outer names : NameSources) (seen : Known out_see outer) (known : Known see names) (control : Option ℕ) (cs : Sources) (steers : Steers control cs) (active next : ℕ) (word : Sources) (steered : Steers (Some active) word) (around : List (List ℕ)) (k : ℕ) (w : Whereabouts) (ss : States)
        → DefinedOnceInStates ss
        → ((x : List ℕ) (v : ℕ) → IsTrue (states_define ss x) → out_see x ≡ Some v → (q : Place) → In q (in_states ss (at_places w) x) → Outof v q)
        → ((q : Place) → In q (strong_ones ss (at_places w)) → Outof active q) → ((q : Place) → In q (weak_ones ss (at_places w)) → Outof next q)
        → Enters (number_states k ss) w → Leaves (number_states k ss) (under cs (in_each_state ss word outer names (at_places w))) → EntersControl (number_states k ss) (control_of_states ss names (both cs word) (at_places w)) → LeavesControl (number_states k ss) (control_of_states ss names (both cs word) (at_places w))
        → Sound (of_states out_see control see active next around k ss)
    states_sound out_see see outer names seen known control cs steers active next word steered around k w no_state once defs strong weak into out enter leave = tt
    states_sound out_see see outer names seen known control cs steers active next word steered around k w (more_states f b until unless at' ss) once defs strong weak into out enter leave =
        let inside = of_inside (seen_in k b see) (Some active) around (k + own_size b) b in
        let first_tests = of_tests (seen_in k b see) (Some active) next ((k + own_size b) + size_inside b) until in
        let last_tests = of_tests out_see control active (((k + own_size b) + size_inside b) + size_of_tests until) unless in
        let mine : List ℕ → Sources = λ x. if block_defines b x then only (w (Head ∷ Body ∷ Named x ∷ [])) else none in
        let others : List ℕ → Sources = in_states ss (at_places (below Tail w)) in
        let body = names_in_block b names (at_places (below Body (below Head w))) in
        let both_steer : Steers (Some active) (both cs word) = λ u q g i. second q cs word (steered u q g i) in
        let until_w = below Until (below Head w) in
        let unless_w = below Unless (below Head w) in
        join ((links_of k b out_see ++ inside) ++ (first_tests ++ last_tests)) (of_states out_see control see active next around ((((k + own_size b) + size_inside b) + size_of_tests until) + size_of_tests unless) ss)
        (join (links_of k b out_see ++ inside) (first_tests ++ last_tests)
        (join (links_of k b out_see) inside
        (block_links k (k + own_size b) (below Body (below Head w)) b out_see (λ p. into (Head ∷ Body ∷ p))
        (λ x v d g q h. defs x v (or_first (block_defines b x) (states_define ss x) d) g q (first q (mine x) (others x) (if_in (block_defines b x) q (only (w (Head ∷ Body ∷ Named x ∷ []))) d h))))
        (inside_sound see names known (Some active) (both cs word) both_steer around k (k + own_size b) (below Body (below Head w)) b once.0 (λ p. into (Head ∷ Body ∷ p))
        (λ p v x g e h. out (Head ∷ Body ∷ p) v x g e (turned x cs word (in_block b names (at_places (below Body (below Head w))) p) h)) (λ p. enter (Head ∷ Body ∷ p)) (λ p. leave (Head ∷ Body ∷ p))))
        (join first_tests last_tests
        (tests_sound (seen_in k b see) body (known_in k (k + own_size b) b names see (below Body (below Head w)) known (λ p. into (Head ∷ Body ∷ p))) (Some active) (both cs word) both_steer next ((k + own_size b) + size_inside b) until_w until (λ p. into (Head ∷ Until ∷ p))
        (λ p v x g e h. out (Head ∷ Until ∷ p) v x g e (turned x cs word (at_conditions until body (at_places until_w) p) h)) (λ q h. weak q (first q (of_conditions until (at_places until_w)) (weak_ones ss (at_places (below Tail w))) h)))
        (tests_sound out_see outer seen control cs steers active (((k + own_size b) + size_inside b) + size_of_tests until) unless_w unless (λ p. into (Head ∷ Unless ∷ p)) (λ p. out (Head ∷ Unless ∷ p))
        (λ q h. strong q (first q (of_conditions unless (at_places unless_w)) (strong_ones ss (at_places (below Tail w))) h)))))
        (states_sound out_see see outer names seen known control cs steers active next word steered around ((((k + own_size b) + size_inside b) + size_of_tests until) + size_of_tests unless) (below Tail w) ss once.1
        (λ x v d g q h. defs x v (or_second (block_defines b x) (states_define ss x) d) g q (second q (mine x) (others x) h))
        (λ q h. strong q (second q (of_conditions unless (at_places unless_w)) (strong_ones ss (at_places (below Tail w))) h)) (λ q h. weak q (second q (of_conditions until (at_places until_w)) (weak_ones ss (at_places (below Tail w))) h))
        (λ p. into (Tail ∷ p)) (λ p. out (Tail ∷ p)) (λ p. enter (Tail ∷ p)) (λ p. leave (Tail ∷ p)))

  -- ---- a node

  told_sound : (see : Sight) (names : NameSources) (known : Known see names) (k : ℕ) (w : Whereabouts) (o : Option Expr) → Enters (number_told k o) w → Leaves (number_told k o) (at_told o names (at_places w)) → Sound (of_told see k o)
  told_sound see names known k w None into out = tt
  told_sound see names known k w (Some e) into out =
      expr_sound see names known None none (λ u q g i. absurd cc) [] [] k w e into (λ p v x g f h. out p v x g f (⊎_elim (λ i. absurd (never x i)) (λ i. i) (parts x none (at_expr e [] names (at_places w) p) h))) (λ v i x h. absurd i)

  bare : (number : Numbering) (s : PlaceSources) → Leaves number s → Leaves number (under none s)
  bare number s out p v x g f h = out p v x g f (⊎_elim (λ i. absurd (never x i)) (λ i. i) (parts x none (s p) h))

  contract_sound : (see : Sight) (names : NameSources) (known : Known see names) (k : ℕ) (w : Whereabouts) (c : Option Contract) → DefinedOnceInContract c → Enters (number_contract k c) w → Leaves (number_contract k c) (in_contract c names (at_places w))
      → EntersControl (number_contract k c) (control_of_contract c names (at_places w)) → LeavesControl (number_contract k c) (control_of_contract c names (at_places w)) → Sound (of_contract see k c)
  contract_sound see names known k w None once into out enter leave = tt
  contract_sound see names known k w (Some c) once into out enter leave =
      let own = seen_in k c.body see in
      let inner = names_in_block c.body names (at_places (below Observer w)) in
      let inside = known_in k (k + own_size c.body) c.body names see (below Observer w) known (λ p. into (Observer ∷ p)) in
      let n = (k + own_size c.body) + size_inside c.body in
      join (of_inside own None [] (k + own_size c.body) c.body) (of_told own n c.assume ++ of_told own (n + size_of_told c.assume) c.enforce)
      (inside_sound see names known None none (λ u q g i. absurd cc) [] k (k + own_size c.body) (below Observer w) c.body once (λ p. into (Observer ∷ p)) (bare (number_block k (k + own_size c.body) c.body) (in_block c.body names (at_places (below Observer w))) (λ p. out (Observer ∷ p)))
      (λ p. enter (Observer ∷ p)) (λ p. leave (Observer ∷ p)))
      (join (of_told own n c.assume) (of_told own (n + size_of_told c.assume) c.enforce)
      (told_sound own inner inside n (below Assume w) c.assume (λ p. into (Assume ∷ p)) (λ p. out (Assume ∷ p)))
      (told_sound own inner inside (n + size_of_told c.assume) (below Enforce w) c.enforce (λ p. into (Enforce ∷ p)) (λ p. out (Enforce ∷ p))))

  controls_sound : (k : ℕ) (ds : List Decl) → Sound (of_controls k ds)
  controls_sound k [] = tt
  controls_sound k (d ∷ ds) = join (stand kind.Def d.name d.span (Some k)) (of_controls (k + 1) ds) (sound_stand kind.Def d.name d.span (Some k)) (controls_sound (k + 1) ds)

  known_controls : (k : ℕ) (ds : List Decl) (w : Whereabouts) → Enters (number_controls k ds) w → Known (numbered k (declared_names ds)) (control_in ds (at_places w))
  known_controls k [] w into x u q h i = absurd cc
  known_controls k (d ∷ ds) w into x u q h i = by (bytes_eq d.name x) h (λ g. known_controls (k + 1) ds (λ p. w (Tail ∷ p)) (λ p. into (Tail ∷ p)) x u q g i)
    where
      by : (b : Bool) → (if b then Some k else numbered (k + 1) (declared_names ds) x) ≡ Some u → (numbered (k + 1) (declared_names ds) x ≡ Some u → In q (control_in ds (λ p. only (w (Tail ∷ p))) x)) → In q (if b then only (w (Head ∷ [])) else control_in ds (λ p. only (w (Tail ∷ p))) x)
      by true h rest = at q (w (Head ∷ [])) (into (Head ∷ []) u q h refl i)
      by false h rest = rest h

  known_outputs : (ds : List Decl) (j k : ℕ) (b : Block) (w : Whereabouts) → Enters (number_block j k b) w → Known (seen_declared ds (own_sight j b)) (λ x. if declares ds x && has_equation b x then only (w (Named x ∷ [])) else none)
  known_outputs ds j k (block ls es) w into x u q h i = by (declares ds x) h
    where
      inner : (e : some_defines es x ≡ true) → numbered j (names_in es) x ≡ Some u → In q (if some_defines es x then only (w (Named x ∷ [])) else none)
      inner e g = if_in (some_defines es x) q (only (w (Named x ∷ []))) e (at q (w (Named x ∷ [])) (into (Named x ∷ []) u q g refl i))

      by : (d : Bool) → (if d then numbered j (names_in es) x else None) ≡ Some u → In q (if d && some_defines es x then only (w (Named x ∷ [])) else none)
      by true g = inner (sym (listed_in x es) ∙ listed_numbered j (names_in es) x u g) g
      by false g = absurd cc

  pub node_sound : (n : Node) → NamesDefinedOnce n → Enters (number_node n) (λ p. p) → Leaves (number_node n) (sources n) → EntersControl (number_node n) (control_of_node n) → LeavesControl (number_node n) (control_of_node n) → Sound (of_node n)
  node_sound n once into out enter leave =
      let ds = controls_of n.contract in
      let observer = of_contract (seen_outputs n) (first_of_contract n) n.contract in
      let body = of_inside (seen_in (first_of_body n) n.body (seen_controls n)) None (declared_names n.outputs) (first_inside n) n.body in
      let outputs = output_in n (λ p. only (Body ∷ p)) in
      join (of_controls 0 ds) (observer ++ body) (controls_sound 0 ds)
      (join observer body
      (contract_sound (seen_outputs n) outputs (known_outputs n.outputs (first_of_body n) (first_inside n) n.body (λ p. Body ∷ p) (λ p. into (Body ∷ p))) (first_of_contract n) (λ p. p) n.contract once.0
      (λ p v x g f. into p v x (observer_ties n p v g) f) (λ p v x g f h. out p v x (observer_ties n p v g) f (subst (In x) (sym (observer_sources n p v g)) h))
      (λ p v x g f h. subst (In x) (observer_controls n p v g) (enter p v x (observer_ties n p v g) f h)) (λ p v x g f h. leave p v x (observer_ties n p v g) f (subst (In x) (sym (observer_controls n p v g)) h)))
      (inside_sound (seen_controls n) (control_in ds (λ p. only (Controls ∷ p))) (known_controls 0 ds (λ p. Controls ∷ p) (λ p. into (Controls ∷ p))) None none (λ u q g i. absurd cc) (declared_names n.outputs) (first_of_body n) (first_inside n) (λ p. Body ∷ p) n.body once.1
      (λ p. into (Body ∷ p)) (bare (number_block (first_of_body n) (first_inside n) n.body) (in_block n.body (control_in ds (λ p. only (Controls ∷ p))) (λ p. only (Body ∷ p))) (λ p. out (Body ∷ p))) (λ p. enter (Body ∷ p)) (λ p. leave (Body ∷ p))))
