-- From a control edges lead to controls around it alone, besides points: their numbers are smaller. No point stands at a control.
use Rattle.std.proofs.Common.{◌≡◌, ◌⊎◌, inl, inr, codes, ℕ, ◌+◌, ◌<◌, ◌≤◌, List, [], ◌∷◌, ◌++◌, Bool, true, false, if◌then◌else◌, Option, None, Some, refl, sym, ap, subst, ◌∙◌, arith}
use Rattle.std.specs.Str.{bytes_eq}
use Rattle.hp_base.specs.declared.span.Span.{Span}
use Rattle.hp_tree.specs.declared.block.Trans.{Trans}
use Rattle.hp_tree.specs.Expressions.{Expr, constant, variable, last_of, one, two, choose, pre, fby, arrow, when_is, merge, call, Exprs, no_expr, more_exprs, Parts, no_part, more_parts}
use Rattle.hp_tree.specs.Blocks.{Decl, Block, block, Eqns, no_eqn, more_eqns, Eqn, define, switch, reset, automaton, Arms, no_arm, more_arms, States, no_state, more_states}
use Rattle.hp_tree.specs.Programs.{Contract, Node}
use Rattle.hp_tree.specs.Instant.{Controls, Body, Observer, Assume, Enforce, Named, Equations, Head, Tail, Right, Test, Arms as ArmsOf, States as StatesOf, Until, Unless, Active, Next, First, Second, Third, Args, Place}
use Rattle.hp_tree.specs.Meaning.{declares, defines, clock_of, controls_of, names_of as declared_names}
use Rattle.hp_meaning.specs.declared.causal.point.PointKind.TheVariants as kind
use Rattle.hp_meaning.specs.Causal.Points.{span_of}
use Rattle.hp_cause.specs.Facts.{Fact, stands, reads, depends, stand, read, depend, read_by_all}
use Rattle.hp_tables.specs.Defining.Layers.{numbered}
use Rattle.hp_tables.specs.Defining.Names.{names_in, undeclared}
use Rattle.hp_cause.specs.Walked.{is_fresh}
use Rattle.hp_cause.specs.Vertices.{calls_in, own_of_test, size_of_tests, own_size, size_inside, size_of, size_of_told, Numbering, number_expr, number_exprs, number_parts, number_test, number_tests, number_block, number_eqns, number_eqn, number_arms, number_states, number_told, number_contract, number_controls, first_of_body, first_of_contract, first_inside, number_node}
use Rattle.hp_cause.specs.Gathering.{Sight, on_clock, names_of_clock, outer_clock, of_call, of_expr, of_exprs, of_parts, readers_of_test, of_test, of_tests, of_left, of_lefts, vertices_of, of_defined_name, of_name_if, of_defined, of_control, of_words, of_links, seen_in, seen_within, links_of, of_inside, of_eqns, of_eqn, of_arms, of_states, of_told, of_contract, of_controls, seen_controls, own_sight, seen_declared, seen_outputs, of_node}
use Rattle.hp_cause.proofs.AgreeLaws.{one_number, observer_ties}

-- F: the numbers of controls
module _ (F : ℕ → Type 0) where
  abbrev pub Down : List Fact → Type 0
  Down [] = Unit {0}
  Down (stands p v ∷ facts) = (F v → ⊥) × Down facts
  Down (reads v u ∷ facts) = (F v → F u → u < v) × Down facts
  Down (depends v u ∷ facts) = (F v → F u → u < v) × Down facts

  join : (xs ys : List Fact) → Down xs → Down ys → Down (xs ++ ys)
  join [] ys a b = b
  join (stands p v ∷ xs) ys a b = (a.0, join xs ys a.1 b)
  join (reads v u ∷ xs) ys a b = (a.0, join xs ys a.1 b)
  join (depends v u ∷ xs) ys a b = (a.0, join xs ys a.1 b)

  -- a vertex, if any, that is no control
  abbrev IsPoint : Option ℕ → Type 0
  IsPoint o = (v : ℕ) → o ≡ Some v → F v → ⊥

  point : (k : ℕ) → (F k → ⊥) → IsPoint (Some k)
  point k h v e f = h (subst F (sym (one_number k v e)) f)

  down_stand : (k : _) (x : List ℕ) (at : Span) (o : Option ℕ) → IsPoint o → Down (stand k x at o)
  unfolding stand
  down_stand k x at None h = tt
  down_stand k x at (Some v) h = (h v refl, tt)

  down_read : (o p : Option ℕ) → IsPoint o ⊎ IsPoint p → Down (read o p)
  unfolding read
  down_read None p h = tt
  down_read (Some v) None h = tt
  down_read (Some v) (Some u) (inl h) = (λ f g. absurd (h v refl f), tt)
  down_read (Some v) (Some u) (inr h) = (λ f g. absurd (h u refl g), tt)

  down_depend : (o p : Option ℕ) → IsPoint o ⊎ IsPoint p → Down (depend o p)
  unfolding depend
  down_depend None p h = tt
  down_depend (Some v) None h = tt
  down_depend (Some v) (Some u) (inl h) = (λ f g. absurd (h v refl f), tt)
  down_depend (Some v) (Some u) (inr h) = (λ f g. absurd (h u refl g), tt)

  down_control : (k : ℕ) (control : Option ℕ) → ((c : ℕ) → control ≡ Some c → c < k) → Down (read (Some k) control)
  unfolding read
  down_control k None h = tt
  down_control k (Some c) h = (λ f g. h c refl, tt)

  down_all : (vs : List ℕ) (o : Option ℕ) → IsPoint o → Down (read_by_all vs o)
  down_all [] o h = tt
  down_all (v ∷ vs) o h = join (read (Some v) o) (read_by_all vs o) (down_read (Some v) o (inr h)) (down_all vs o h)

  -- No vertex at these places, besides those of controls, has the number of a control.
  abbrev Points : Numbering → Type 0
  Points number = (p : Place) (v : ℕ) → number p ≡ Some v → is_fresh p ≡ false → F v → ⊥

  abbrev Sees : Sight → Type 0
  Sees see = (x : List ℕ) → IsPoint (see x)

  module _ (see : Sight) (sees : Sees see) where
    down_clock : (xs : List (List ℕ)) (o : Option ℕ) → Down (on_clock see xs o)
    down_clock [] o = tt
    down_clock (x ∷ xs) o = join (depend o (see x)) (on_clock see xs o) (down_depend o (see x) (inr (sees x))) (down_clock xs o)

    module _ (control : Option ℕ) where
      mutual
        down_expr : (clock : List (List ℕ)) (readers : List ℕ) (k : ℕ) (e : Expr) → Points (number_expr k e) → Down (of_expr see control clock readers k e)
        down_expr clock readers k (constant s c) t = tt
        down_expr clock readers k (variable s x) t = down_all readers (see x) (sees x)
        down_expr clock readers k (last_of s x) t = tt
        down_expr clock readers k (one s o a) t = down_expr clock readers k a (λ p. t (First ∷ p))
        down_expr clock readers k (two s o a b) t = join (of_expr see control clock readers k a) (of_expr see control clock readers (k + calls_in a) b) (down_expr clock readers k a (λ p. t (First ∷ p))) (down_expr clock readers (k + calls_in a) b (λ p. t (Second ∷ p)))
        down_expr clock readers k (choose s a b c) t =
            join (of_expr see control clock readers k a) (of_expr see control clock readers (k + calls_in a) b ++ of_expr see control clock readers ((k + calls_in a) + calls_in b) c) (down_expr clock readers k a (λ p. t (First ∷ p)))
            (join (of_expr see control clock readers (k + calls_in a) b) (of_expr see control clock readers ((k + calls_in a) + calls_in b) c) (down_expr clock readers (k + calls_in a) b (λ p. t (Second ∷ p))) (down_expr clock readers ((k + calls_in a) + calls_in b) c (λ p. t (Third ∷ p))))
        down_expr clock readers k (pre s a) t = down_expr clock [] k a (λ p. t (First ∷ p))
        down_expr clock readers k (fby s a b) t = join (of_expr see control clock readers k a) (of_expr see control clock [] (k + calls_in a) b) (down_expr clock readers k a (λ p. t (First ∷ p))) (down_expr clock [] (k + calls_in a) b (λ p. t (Second ∷ p)))
        down_expr clock readers k (arrow s a b) t = join (of_expr see control clock readers k a) (of_expr see control clock readers (k + calls_in a) b) (down_expr clock readers k a (λ p. t (First ∷ p))) (down_expr clock readers (k + calls_in a) b (λ p. t (Second ∷ p)))
        down_expr clock readers k (when_is s a c x) t = join (read_by_all readers (see x)) (of_expr see control (outer_clock clock) readers k a) (down_all readers (see x) (sees x)) (down_expr (outer_clock clock) readers k a (λ p. t (First ∷ p)))
        down_expr clock readers k (merge s x ps) t = join (read_by_all readers (see x)) (of_parts see control (x ∷ clock) readers k ps) (down_all readers (see x) (sees x)) (down_parts (x ∷ clock) readers k ps (λ p. t (Args ∷ p)))
        down_expr clock readers k (call s f i es) t =
            let own = point k (t [] k refl refl) in
            join (of_call see control clock readers f s k) (of_exprs see control clock (k ∷ []) (k + 1) es)
            (join (stand kind.Call f s (Some k)) (read_by_all readers (Some k) ++ (read (Some k) control ++ on_clock see clock (Some k))) (down_stand kind.Call f s (Some k) own)
            (join (read_by_all readers (Some k)) (read (Some k) control ++ on_clock see clock (Some k)) (down_all readers (Some k) own) (join (read (Some k) control) (on_clock see clock (Some k)) (down_read (Some k) control (inl own)) (down_clock clock (Some k)))))
            (down_exprs clock (k ∷ []) (k + 1) es (λ p. t (Args ∷ p)))

        down_exprs : (clock : List (List ℕ)) (readers : List ℕ) (k : ℕ) (es : Exprs) → Points (number_exprs k es) → Down (of_exprs see control clock readers k es)
        down_exprs clock readers k no_expr t = tt
        down_exprs clock readers k (more_exprs e es) t = join (of_expr see control clock readers k e) (of_exprs see control clock readers (k + calls_in e) es) (down_expr clock readers k e (λ p. t (Head ∷ p))) (down_exprs clock readers (k + calls_in e) es (λ p. t (Tail ∷ p)))

        down_parts : (clock : List (List ℕ)) (readers : List ℕ) (k : ℕ) (ps : Parts) → Points (number_parts k ps) → Down (of_parts see control clock readers k ps)
        down_parts clock readers k no_part t = tt
        down_parts clock readers k (more_parts c e ps) t = join (of_expr see control clock readers k e) (of_parts see control clock readers (k + calls_in e) ps) (down_expr clock readers k e (λ p. t (Head ∷ p))) (down_parts clock readers (k + calls_in e) ps (λ p. t (Tail ∷ p)))

      test_points : (k : ℕ) (e : Expr) → Points (number_test k e) → Points (number_expr (k + own_of_test e) e)
      test_points k (call s f i es) t [] v h = t [] v (ap Some (let m : k ≡ k + 0 = omega arith in m) ∙ h)
      test_points k e t (q ∷ p) v h = t (q ∷ p) v h
      test_points k e t [] v h = absurd cc

      down_tests : (reader k : ℕ) (ts : List Trans) → (F reader → ⊥) → Points (number_tests k ts) → Down (of_tests see control reader k ts)
      down_tests reader k [] h t = tt
      down_tests reader k (c ∷ ts) h t =
          let e = c.cond in
          let own = point k (t (Head ∷ []) k refl refl) in
          join (of_test see control reader k e) (of_tests see control reader ((k + own_of_test e) + calls_in e) ts)
          (join (stand kind.Cond (codes "cond") (span_of e) (Some k) ++ (read (Some reader) (Some k) ++ read (Some k) control)) (of_expr see control [] (readers_of_test k e) (k + own_of_test e) e)
          (join (stand kind.Cond (codes "cond") (span_of e) (Some k)) (read (Some reader) (Some k) ++ read (Some k) control) (down_stand kind.Cond (codes "cond") (span_of e) (Some k) own)
          (join (read (Some reader) (Some k)) (read (Some k) control) (down_read (Some reader) (Some k) (inr own)) (down_read (Some k) control (inl own))))
          (down_expr [] (readers_of_test k e) (k + own_of_test e) e (test_points k e (λ p. t (Head ∷ p)))))
          (down_tests reader ((k + own_of_test e) + calls_in e) ts h (λ p. t (Tail ∷ p)))

      down_lefts : (clock : List (List ℕ)) (ys : List (List ℕ × Span)) → Down (of_lefts see control clock ys)
      down_lefts clock [] = tt
      down_lefts clock (y ∷ ys) =
          join (of_left see control clock y.0 y.1) (of_lefts see control clock ys)
          (join (stand kind.Def y.0 y.1 (see y.0)) (read (see y.0) control ++ on_clock see clock (see y.0)) (down_stand kind.Def y.0 y.1 (see y.0) (sees y.0))
          (join (read (see y.0) control) (on_clock see clock (see y.0)) (down_read (see y.0) control (inl (sees y.0))) (down_clock clock (see y.0))))
          (down_lefts clock ys)

      down_defined : (v : Option ℕ) (at : Span) (defined : List ℕ → Bool) (xs : List (List ℕ)) → Down (of_defined see control v at defined xs)
      down_defined v at defined [] = tt
      down_defined v at defined (x ∷ xs) = join (of_name_if see control v at defined x) (of_defined see control v at defined xs) (by (defined x)) (down_defined v at defined xs)
        where
          by : (d : Bool) → Down (if d then of_defined_name see control v at x else [])
          by true =
              join (stand kind.Def x at (see x)) (read (see x) v ++ read (see x) control) (down_stand kind.Def x at (see x) (sees x)) (join (read (see x) v) (read (see x) control) (down_read (see x) v (inl (sees x))) (down_read (see x) control (inl (sees x))))
          by false = tt

    down_links : (own : Sight) (xs : List (List ℕ)) → Down (of_links see own xs)
    down_links own [] = tt
    down_links own (x ∷ xs) = join (read (see x) (own x)) (of_links see own xs) (down_read (see x) (own x) (inl (sees x))) (down_links own xs)

    down_block_links : (j : ℕ) (b : Block) → Down (links_of j b see)
    down_block_links j (block ds es) = down_links (numbered j (names_in es)) (undeclared ds (names_in es))

  sees_in : (j k : ℕ) (b : Block) (see : Sight) → Sees see → Points (number_block j k b) → Sees (seen_in j b see)
  sees_in j k (block ds es) see sees t x v e = by (numbered j (names_in es) x) refl e
    where
      by : (o : Option ℕ) → numbered j (names_in es) x ≡ o → (elim o as (λ _. Option ℕ) [ None ↦ see x | Some u ↦ Some u ]) ≡ Some v → F v → ⊥
      by None g e = sees x v e
      by (Some u) g e = t (Named x ∷ []) v (g ∙ e) refl

  sees_within : (e : Eqn) (see : Sight) → Sees see → Sees (seen_within e see)
  sees_within e see sees x v h = by (defines e x) h
    where
      by : (d : Bool) → (if d then None else see x) ≡ Some v → F v → ⊥
      by true h = absurd cc
      by false h = sees x v h

  -- The control is an earlier vertex.
  abbrev Earlier : Option ℕ → ℕ → Type 0
  Earlier control k = (c : ℕ) → control ≡ Some c → c < k

  later : (control : Option ℕ) (k m : ℕ) → k ≤ m → Earlier control k → Earlier control m
  later control k m h e c g = let f : c < k = e c g in omega arith

  mine : (k m : ℕ) → k < m → Earlier (Some k) m
  mine k m h c g = let e : k ≡ c = one_number k c g in omega arith

  mutual
    down_inside : (see : Sight) (sees : Sees see) (control : Option ℕ) (around : List (List ℕ)) (k : ℕ) (b : Block) → Earlier control k → ((p : Place) (v : ℕ) → number_block 0 k b (Equations ∷ p) ≡ Some v → is_fresh p ≡ false → F v → ⊥) → Down (of_inside see control around k b)
    down_inside see sees control around k (block ds es) h t = down_eqns see sees control (around ++ declared_names ds) ds k es h t

    down_eqns : (see : Sight) (sees : Sees see) (control : Option ℕ) (around : List (List ℕ)) (ds : List Decl) (k : ℕ) (es : Eqns) → Earlier control k → Points (number_eqns k es) → Down (of_eqns see control around ds k es)
    down_eqns see sees control around ds k no_eqn h t = tt
    down_eqns see sees control around ds k (more_eqns e es) h t =
        join (of_eqn see control around ds k e) (of_eqns see control around ds (k + size_of e) es) (down_eqn see sees control around ds k e h (λ p. t (Head ∷ p))) (down_eqns see sees control around ds (k + size_of e) es (later control k (k + size_of e) (omega arith) h) (λ p. t (Tail ∷ p)))

    down_block : (out see : Sight) (outs : Sees out) (sees : Sees see) (control : Option ℕ) (around : List (List ℕ)) (k : ℕ) (b : Block) → Earlier control k → Points (number_block k (k + own_size b) b) → Down (links_of k b out ++ of_inside (seen_in k b see) control around (k + own_size b) b)
    down_block out see outs sees control around k (block ds es) h t =
        let b = block ds es in
        let inner = sees_in k (k + own_size b) b see sees t in
        join (links_of k b out) (of_inside (seen_in k b see) control around (k + own_size b) b) (down_block_links out outs k b)
        (down_eqns (seen_in k b see) inner control (around ++ declared_names ds) ds (k + own_size b) es (later control k (k + own_size b) (omega arith) h) (λ p. t (Equations ∷ p)))

    down_eqn : (see : Sight) (sees : Sees see) (control : Option ℕ) (around : List (List ℕ)) (ds : List Decl) (k : ℕ) (e : Eqn) → Earlier control k → Points (number_eqn k e) → Down (of_eqn see control around ds k e)
    down_eqn see sees control around ds k (define at ys e) h t =
        let clock = names_of_clock (clock_of ds ys e) in
        join (of_lefts see control clock ys) (of_expr see control clock (vertices_of see ys) k e) (down_lefts see sees control clock ys) (down_expr see sees control clock (vertices_of see ys) k e (λ p. t (Right ∷ p)))
    down_eqn see sees control around ds k (switch at e arms) h t =
        let eqn = switch at e arms in
        let hid = seen_within eqn see in
        let n = (k + 1) + calls_in e in
        join (of_control see control k at (defines eqn) around) (of_expr see control [] (k ∷ []) (k + 1) e ++ of_arms see hid (Some k) around n arms)
        (join (of_defined see control (Some k) at (defines eqn) around) (read (Some k) control) (down_defined see sees control (Some k) at (defines eqn) around) (down_control k control h))
        (join (of_expr see control [] (k ∷ []) (k + 1) e) (of_arms see hid (Some k) around n arms) (down_expr see sees control [] (k ∷ []) (k + 1) e (λ p. t (Test ∷ p)))
        (down_arms see hid sees (sees_within eqn see sees) (Some k) around n arms (mine k n (omega arith)) (λ p. t (ArmsOf ∷ p))))
    down_eqn see sees control around ds k (reset at b e) h t =
        let eqn = reset at b e in
        let hid = seen_within eqn see in
        let inner = links_of (k + 1) b see ++ of_inside (seen_in (k + 1) b hid) (Some k) around ((k + 1) + own_size b) b in
        let n = ((k + 1) + own_size b) + size_inside b in
        join (of_control see control k at (defines eqn) around) (inner ++ of_expr see control [] (k ∷ []) n e)
        (join (of_defined see control (Some k) at (defines eqn) around) (read (Some k) control) (down_defined see sees control (Some k) at (defines eqn) around) (down_control k control h))
        (join inner (of_expr see control [] (k ∷ []) n e) (down_block see hid sees (sees_within eqn see sees) (Some k) around (k + 1) b (mine k (k + 1) (omega arith)) (λ p. t (Body ∷ p))) (down_expr see sees control [] (k ∷ []) n e (λ p. t (Test ∷ p))))
    down_eqn see sees control around ds k (automaton at ss) h t =
        let eqn = automaton at ss in
        let hid = seen_within eqn see in
        let active = point k (t (Active ∷ []) k refl refl) in
        let next = point (k + 1) (t (Next ∷ []) (k + 1) refl refl) in
        let inner = of_states see control hid k (k + 1) around (k + 2) ss in
        join (of_words control k at) (of_defined see control (Some k) at (defines eqn) around ++ inner)
        (join (stand kind.Active (codes "active") at (Some k)) (stand kind.Next (codes "next") at (Some (k + 1)) ++ (read (Some k) control ++ (read (Some (k + 1)) control ++ depend (Some (k + 1)) (Some k)))) (down_stand kind.Active (codes "active") at (Some k) active)
        (join (stand kind.Next (codes "next") at (Some (k + 1))) (read (Some k) control ++ (read (Some (k + 1)) control ++ depend (Some (k + 1)) (Some k))) (down_stand kind.Next (codes "next") at (Some (k + 1)) next)
        (join (read (Some k) control) (read (Some (k + 1)) control ++ depend (Some (k + 1)) (Some k)) (down_read (Some k) control (inl active))
        (join (read (Some (k + 1)) control) (depend (Some (k + 1)) (Some k)) (down_read (Some (k + 1)) control (inl next)) (down_depend (Some (k + 1)) (Some k) (inr active))))))
        (join (of_defined see control (Some k) at (defines eqn) around) inner (down_defined see sees control (Some k) at (defines eqn) around)
        (down_states see hid sees (sees_within eqn see sees) control k (k + 1) around (k + 2) ss (later control k (k + 2) (omega arith) h) (mine k (k + 2) (omega arith)) (t (Active ∷ []) k refl refl) (t (Next ∷ []) (k + 1) refl refl) (λ p. t (StatesOf ∷ p))))

    down_arms : (out see : Sight) (outs : Sees out) (sees : Sees see) (control : Option ℕ) (around : List (List ℕ)) (k : ℕ) (arms : Arms) → Earlier control k → Points (number_arms k arms) → Down (of_arms out see control around k arms)
    down_arms out see outs sees control around k no_arm h t = tt
    down_arms out see outs sees control around k (more_arms c b at arms) h t =
        let n = (k + own_size b) + size_inside b in
        join (links_of k b out ++ of_inside (seen_in k b see) control around (k + own_size b) b) (of_arms out see control around n arms) (down_block out see outs sees control around k b h (λ p. t (Head ∷ p)))
        (down_arms out see outs sees control around n arms (later control k n (omega arith) h) (λ p. t (Tail ∷ p)))

    down_states : (out see : Sight) (outs : Sees out) (sees : Sees see) (control : Option ℕ) (active next : ℕ) (around : List (List ℕ)) (k : ℕ) (ss : States) → Earlier control k → Earlier (Some active) k → (F active → ⊥) → (F next → ⊥) → Points (number_states k ss) → Down (of_states out control see active next around k ss)
    down_states out see outs sees control active next around k no_state h g a b t = tt
    down_states out see outs sees control active next around k (more_states f b until unless at ss) h g a n t =
        let body = links_of k b out ++ of_inside (seen_in k b see) (Some active) around (k + own_size b) b in
        let i = (k + own_size b) + size_inside b in
        let weak = of_tests (seen_in k b see) (Some active) next i until in
        let strong = of_tests out control active (i + size_of_tests until) unless in
        let m = (i + size_of_tests until) + size_of_tests unless in
        join (body ++ (weak ++ strong)) (of_states out control see active next around m ss)
        (join body (weak ++ strong) (down_block out see outs sees (Some active) around k b g (λ p. t (Head ∷ Body ∷ p)))
        (join weak strong (down_tests (seen_in k b see) (sees_in k (k + own_size b) b see sees (λ p. t (Head ∷ Body ∷ p))) (Some active) next i until n (λ p. t (Head ∷ Until ∷ p))) (down_tests out outs control active (i + size_of_tests until) unless a (λ p. t (Head ∷ Unless ∷ p)))))
        (down_states out see outs sees control active next around m ss (later control k m (omega arith) h) (later (Some active) k m (omega arith) g) a n (λ p. t (Tail ∷ p)))

  -- ---- a node

  down_told : (see : Sight) (sees : Sees see) (k : ℕ) (o : Option Expr) → Points (number_told k o) → Down (of_told see k o)
  down_told see sees k None t = tt
  down_told see sees k (Some e) t = down_expr see sees None [] [] k e t

  free : (k : ℕ) → Earlier None k
  free k c g = absurd cc

  inside_points : (j k : ℕ) (b : Block) → Points (number_block j k b) → (p : Place) (v : ℕ) → number_block 0 k b (Equations ∷ p) ≡ Some v → is_fresh p ≡ false → F v → ⊥
  inside_points j k (block ds es) t p = t (Equations ∷ p)

  down_contract : (see : Sight) (sees : Sees see) (k : ℕ) (c : Option Contract) → Points (number_contract k c) → Down (of_contract see k c)
  down_contract see sees k None t = tt
  down_contract see sees k (Some c) t =
      let own = seen_in k c.body see in
      let inner = sees_in k (k + own_size c.body) c.body see sees (λ p. t (Observer ∷ p)) in
      let n = (k + own_size c.body) + size_inside c.body in
      join (of_inside own None [] (k + own_size c.body) c.body) (of_told own n c.assume ++ of_told own (n + size_of_told c.assume) c.enforce)
      (down_inside own inner None [] (k + own_size c.body) c.body (free (k + own_size c.body)) (inside_points k (k + own_size c.body) c.body (λ p. t (Observer ∷ p))))
      (join (of_told own n c.assume) (of_told own (n + size_of_told c.assume) c.enforce) (down_told own inner n c.assume (λ p. t (Assume ∷ p))) (down_told own inner (n + size_of_told c.assume) c.enforce (λ p. t (Enforce ∷ p))))

  down_controls : (k : ℕ) (ds : List Decl) → Points (number_controls k ds) → Down (of_controls k ds)
  down_controls k [] t = tt
  down_controls k (d ∷ ds) t = join (stand kind.Def d.name d.span (Some k)) (of_controls (k + 1) ds) (down_stand kind.Def d.name d.span (Some k) (point k (t (Head ∷ []) k refl refl))) (down_controls (k + 1) ds (λ p. t (Tail ∷ p)))

  sees_controls : (k : ℕ) (ds : List Decl) → Points (number_controls k ds) → Sees (numbered k (declared_names ds))
  sees_controls k [] t x v h = absurd cc
  sees_controls k (d ∷ ds) t x v h = by (bytes_eq d.name x) h (sees_controls (k + 1) ds (λ p. t (Tail ∷ p)) x v)
    where
      by : (b : Bool) → (if b then Some k else numbered (k + 1) (declared_names ds) x) ≡ Some v → (numbered (k + 1) (declared_names ds) x ≡ Some v → F v → ⊥) → F v → ⊥
      by true h rest = t (Head ∷ []) v h refl
      by false h rest = rest h

  sees_outputs : (ds : List Decl) (j k : ℕ) (b : Block) → Points (number_block j k b) → Sees (seen_declared ds (own_sight j b))
  sees_outputs ds j k (block ls es) t x v h = by (declares ds x) h
    where
      by : (d : Bool) → (if d then numbered j (names_in es) x else None) ≡ Some v → F v → ⊥
      by true g = t (Named x ∷ []) v g refl
      by false g = absurd cc

  pub node_down : (n : Node) → Points (number_node n) → Down (of_node n)
  node_down n t =
      let ds = controls_of n.contract in
      let observer = of_contract (seen_outputs n) (first_of_contract n) n.contract in
      let body = of_inside (seen_in (first_of_body n) n.body (seen_controls n)) None (declared_names n.outputs) (first_inside n) n.body in
      join (of_controls 0 ds) (observer ++ body) (down_controls 0 ds (λ p. t (Controls ∷ p)))
      (join observer body (down_contract (seen_outputs n) (sees_outputs n.outputs (first_of_body n) (first_inside n) n.body (λ p. t (Body ∷ p))) (first_of_contract n) n.contract (λ p v h. t p v (observer_ties n p v h)))
      (down_inside (seen_in (first_of_body n) n.body (seen_controls n)) (sees_in (first_of_body n) (first_inside n) n.body (seen_controls n) (sees_controls 0 ds (λ p. t (Controls ∷ p))) (λ p. t (Body ∷ p))) None (declared_names n.outputs) (first_inside n) n.body
      (free (first_inside n)) (inside_points (first_of_body n) (first_inside n) n.body (λ p. t (Body ∷ p)))))
