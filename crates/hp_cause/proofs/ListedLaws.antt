-- The points that are gathered are the points of the node, each with the vertex at its place.
use Rattle.std.proofs.Common.{◌≡◌, ℕ, ◌+◌, List, [], ◌∷◌, ◌++◌, map, filter, cond, Bool, true, false, IsTrue, if◌then◌else◌, Option, None, Some, codes, refl, sym, ap, ap₂, ◌∙◌, arith}
use Rattle.std.proofs.lemmas.List.{append_assoc, append-nil, map-append}
use Rattle.std.proofs.lemmas.Slice.Eq.{bytes_eq-Decides}
use Rattle.hp_meaning.proofs.CausalLemmas.Choices.{or_first, or_second}
use Rattle.hp_cause.proofs.AgreeLaws.{observer_ties}
use Rattle.hp_tables.proofs.DefiningLemmas.ListedLaws.{listed_in}
use Rattle.hp_cause.proofs.NumberLaws.{numbered_listed, over_there}
use Rattle.std.specs.Str.{bytes_eq}
use Rattle.hp_base.specs.declared.span.Span.{Span}
use Rattle.hp_tree.specs.declared.block.Trans.{Trans}
use Rattle.hp_tree.specs.Expressions.{Expr, constant, variable, last_of, one, two, choose, pre, fby, arrow, when_is, merge, call, Exprs, no_expr, more_exprs, Parts, no_part, more_parts}
use Rattle.hp_tree.specs.Blocks.{Decl, Block, block, Eqns, no_eqn, more_eqns, Eqn, define, switch, reset, automaton, Arms, no_arm, more_arms, States, no_state, more_states}
use Rattle.hp_tree.specs.Programs.{Contract, Node}
use Rattle.hp_tree.specs.Instant.{Controls, Body, Observer, Assume, Enforce, Named, Equations, Head, Tail, Right, Test, Arms as ArmsOf, States as StatesOf, Until, Unless, Active, Next, First, Second, Third, Args, Place}
use Rattle.hp_tree.specs.Meaning.{is_among, defines, some_defines, clock_of, controls_of, names_of as declared_names}
use Rattle.hp_meaning.specs.declared.causal.point.Point.{Point}
use Rattle.hp_meaning.specs.declared.causal.point.PointKind.TheVariants as kind
use Rattle.hp_meaning.specs.Causal.Sources.{below}
use Rattle.hp_meaning.specs.Causal.Points.{Placed, Whereabouts, point_at, span_of, calls, calls_in_all as calls_of_all, calls_in_parts as calls_of_parts, conditions, lefts, defined_by, points_of, points_of_all, points_of_one, points_of_arms, points_of_states, controls, calls_told, points_of_contract, points}
use Rattle.hp_cause.specs.Facts.{Fact, stands, reads, depends, stand, read, depend, read_by_all}
use Rattle.hp_cause.specs.Falling.{table_in}
use Rattle.hp_tables.specs.Defining.Layers.{numbered}
use Rattle.hp_tables.specs.Defining.Names.{names_in, undeclared}
use Rattle.hp_cause.specs.Vertices.{calls_in, own_of_test, size_of_tests, own_size, size_inside, size_of, size_of_told, Numbering, number_expr, number_exprs, number_parts, number_test, number_tests, number_block, number_eqns, number_eqn, number_arms, number_states, number_told, number_contract, number_controls, first_of_body, first_of_contract, first_inside, number_node}
use Rattle.hp_cause.specs.Gathering.{Sight, on_clock, names_of_clock, outer_clock, of_call, of_expr, of_exprs, of_parts, readers_of_test, of_test, of_tests, of_left, of_lefts, vertices_of, of_defined_name, of_defined, of_control, of_words, of_links, seen_in, seen_within, links_of, of_inside, of_eqns, of_eqn, of_arms, of_states, of_told, of_contract, of_controls, seen_controls, seen_outputs, of_node}

abbrev Row : Type 0
Row = Point × Option ℕ

joined : (xs ys : List Fact) (a b : List Row) → table_in xs ≡ a → table_in ys ≡ b → table_in (xs ++ ys) ≡ a ++ b
joined [] ys a b h g = ap₂ (λ x y. x ++ y) h g
joined (stands p v ∷ xs) ys a b h g = ap (λ t. (p, Some v) ∷ t) (joined xs ys (table_in xs) b refl g) ∙ ap (λ t. t ++ b) h
joined (reads v u ∷ xs) ys a b h g = joined xs ys a b h g
joined (depends v u ∷ xs) ys a b h g = joined xs ys a b h g

-- what has no points
module _ where
  silent_read : (v u : Option ℕ) → table_in (read v u) ≡ []
  unfolding read
  silent_read None u = refl
  silent_read (Some v) None = refl
  silent_read (Some v) (Some u) = refl

  silent_depend : (v u : Option ℕ) → table_in (depend v u) ≡ []
  unfolding depend
  silent_depend None u = refl
  silent_depend (Some v) None = refl
  silent_depend (Some v) (Some u) = refl

  silent_all : (vs : List ℕ) (u : Option ℕ) → table_in (read_by_all vs u) ≡ []
  silent_all [] u = refl
  silent_all (v ∷ vs) u = joined (read (Some v) u) (read_by_all vs u) [] [] (silent_read (Some v) u) (silent_all vs u)

  silent_clock : (see : Sight) (xs : List (List ℕ)) (v : Option ℕ) → table_in (on_clock see xs v) ≡ []
  silent_clock see [] v = refl
  silent_clock see (x ∷ xs) v = joined (depend v (see x)) (on_clock see xs v) [] [] (silent_depend v (see x)) (silent_clock see xs v)

  silent_links : (out own : Sight) (xs : List (List ℕ)) → table_in (of_links out own xs) ≡ []
  silent_links out own [] = refl
  silent_links out own (x ∷ xs) = joined (read (out x) (own x)) (of_links out own xs) [] [] (silent_read (out x) (own x)) (silent_links out own xs)

  silent_block_links : (j : ℕ) (b : Block) (out : Sight) → table_in (links_of j b out) ≡ []
  silent_block_links j (block ds es) out = silent_links out (numbered j (names_in es)) (undeclared ds (names_in es))

  stood : (k : _) (x : List ℕ) (at : Span) (v : ℕ) → table_in (stand k x at (Some v)) ≡ (record { kind = k; name = x; span = at }, Some v) ∷ []
  unfolding stand
  stood k x at v = refl

module _ (A : Numbering) where
  abbrev row : Placed → Row
  row p = (p.point, A p.place)

  abbrev rows : List Placed → List Row
  rows ps = map row ps

  -- The vertices of a part have these numbers in the node.
  abbrev Ties : Numbering → Whereabouts → Type 0
  Ties number w = (p : Place) (v : ℕ) → number p ≡ Some v → A (w p) ≡ Some v

  two_parts : (xs ys : List Fact) (ps qs : List Placed) → table_in xs ≡ rows ps → table_in ys ≡ rows qs → table_in (xs ++ ys) ≡ rows (ps ++ qs)
  two_parts xs ys ps qs h g = joined xs ys (rows ps) (rows qs) h g ∙ sym (map-append row ps qs)

  behind : (xs ys : List Fact) (a : List Row) → table_in xs ≡ [] → table_in ys ≡ a → table_in (xs ++ ys) ≡ a
  behind xs ys a h g = joined xs ys [] a h g

  ahead : (xs ys : List Fact) (a : List Row) → table_in xs ≡ a → table_in ys ≡ [] → table_in (xs ++ ys) ≡ a
  ahead xs ys a h g = joined xs ys a [] h g ∙ append-nil a

  -- ---- expressions

  module _ (see : Sight) (control : Option ℕ) where
    call_stands : (clock : List (List ℕ)) (readers : List ℕ) (f : List ℕ) (at : Span) (k : ℕ) → table_in (of_call see control clock readers f at k) ≡ (record { kind = kind.Call; name = f; span = at }, Some k) ∷ []
    call_stands clock readers f at k =
        ahead (stand kind.Call f at (Some k)) (read_by_all readers (Some k) ++ (read (Some k) control ++ on_clock see clock (Some k))) ((record { kind = kind.Call; name = f; span = at }, Some k) ∷ []) (stood kind.Call f at k)
        (behind (read_by_all readers (Some k)) (read (Some k) control ++ on_clock see clock (Some k)) [] (silent_all readers (Some k))
        (behind (read (Some k) control) (on_clock see clock (Some k)) [] (silent_read (Some k) control) (silent_clock see clock (Some k))))

    mutual
      expr_listed : (clock : List (List ℕ)) (readers : List ℕ) (k : ℕ) (w : Whereabouts) (e : Expr) → Ties (number_expr k e) w → table_in (of_expr see control clock readers k e) ≡ rows (calls e w)
      expr_listed clock readers k w (constant s c) t = refl
      expr_listed clock readers k w (variable s x) t = silent_all readers (see x)
      expr_listed clock readers k w (last_of s x) t = refl
      expr_listed clock readers k w (one s o a) t = expr_listed clock readers k (below First w) a (λ p. t (First ∷ p))
      expr_listed clock readers k w (two s o a b) t =
          two_parts (of_expr see control clock readers k a) (of_expr see control clock readers (k + calls_in a) b) (calls a (below First w)) (calls b (below Second w))
          (expr_listed clock readers k (below First w) a (λ p. t (First ∷ p))) (expr_listed clock readers (k + calls_in a) (below Second w) b (λ p. t (Second ∷ p)))
      expr_listed clock readers k w (choose s a b c) t =
          two_parts (of_expr see control clock readers k a) (of_expr see control clock readers (k + calls_in a) b ++ of_expr see control clock readers ((k + calls_in a) + calls_in b) c)
          (calls a (below First w)) (calls b (below Second w) ++ calls c (below Third w))
          (expr_listed clock readers k (below First w) a (λ p. t (First ∷ p)))
          (two_parts (of_expr see control clock readers (k + calls_in a) b) (of_expr see control clock readers ((k + calls_in a) + calls_in b) c) (calls b (below Second w)) (calls c (below Third w))
          (expr_listed clock readers (k + calls_in a) (below Second w) b (λ p. t (Second ∷ p))) (expr_listed clock readers ((k + calls_in a) + calls_in b) (below Third w) c (λ p. t (Third ∷ p))))
      expr_listed clock readers k w (pre s a) t = expr_listed clock [] k (below First w) a (λ p. t (First ∷ p))
      expr_listed clock readers k w (fby s a b) t =
          two_parts (of_expr see control clock readers k a) (of_expr see control clock [] (k + calls_in a) b) (calls a (below First w)) (calls b (below Second w))
          (expr_listed clock readers k (below First w) a (λ p. t (First ∷ p))) (expr_listed clock [] (k + calls_in a) (below Second w) b (λ p. t (Second ∷ p)))
      expr_listed clock readers k w (arrow s a b) t =
          two_parts (of_expr see control clock readers k a) (of_expr see control clock readers (k + calls_in a) b) (calls a (below First w)) (calls b (below Second w))
          (expr_listed clock readers k (below First w) a (λ p. t (First ∷ p))) (expr_listed clock readers (k + calls_in a) (below Second w) b (λ p. t (Second ∷ p)))
      expr_listed clock readers k w (when_is s a c x) t =
          behind (read_by_all readers (see x)) (of_expr see control (outer_clock clock) readers k a) (rows (calls a (below First w))) (silent_all readers (see x))
          (expr_listed (outer_clock clock) readers k (below First w) a (λ p. t (First ∷ p)))
      expr_listed clock readers k w (merge s x ps) t =
          behind (read_by_all readers (see x)) (of_parts see control (x ∷ clock) readers k ps) (rows (calls_of_parts ps (below Args w))) (silent_all readers (see x))
          (parts_listed (x ∷ clock) readers k (below Args w) ps (λ p. t (Args ∷ p)))
      expr_listed clock readers k w (call s f i es) t =
          joined (of_call see control clock readers f s k) (of_exprs see control clock (k ∷ []) (k + 1) es) ((record { kind = kind.Call; name = f; span = s }, A (w [])) ∷ []) (rows (calls_of_all es (below Args w)))
          (call_stands clock readers f s k ∙ ap (λ o. (record { kind = kind.Call; name = f; span = s }, o) ∷ []) (sym (t [] k refl)))
          (exprs_listed clock (k ∷ []) (k + 1) (below Args w) es (λ p. t (Args ∷ p)))

      exprs_listed : (clock : List (List ℕ)) (readers : List ℕ) (k : ℕ) (w : Whereabouts) (es : Exprs) → Ties (number_exprs k es) w → table_in (of_exprs see control clock readers k es) ≡ rows (calls_of_all es w)
      exprs_listed clock readers k w no_expr t = refl
      exprs_listed clock readers k w (more_exprs e es) t =
          two_parts (of_expr see control clock readers k e) (of_exprs see control clock readers (k + calls_in e) es) (calls e (below Head w)) (calls_of_all es (below Tail w))
          (expr_listed clock readers k (below Head w) e (λ p. t (Head ∷ p))) (exprs_listed clock readers (k + calls_in e) (below Tail w) es (λ p. t (Tail ∷ p)))

      parts_listed : (clock : List (List ℕ)) (readers : List ℕ) (k : ℕ) (w : Whereabouts) (ps : Parts) → Ties (number_parts k ps) w → table_in (of_parts see control clock readers k ps) ≡ rows (calls_of_parts ps w)
      parts_listed clock readers k w no_part t = refl
      parts_listed clock readers k w (more_parts c e ps) t =
          two_parts (of_expr see control clock readers k e) (of_parts see control clock readers (k + calls_in e) ps) (calls e (below Head w)) (calls_of_parts ps (below Tail w))
          (expr_listed clock readers k (below Head w) e (λ p. t (Head ∷ p))) (parts_listed clock readers (k + calls_in e) (below Tail w) ps (λ p. t (Tail ∷ p)))

    test_ties : (k : ℕ) (e : Expr) (w : Whereabouts) → Ties (number_test k e) w → Ties (number_expr (k + own_of_test e) e) w
    test_ties k (call s f i es) w t [] v h = t [] k refl ∙ ap Some (let m : k ≡ k + 0 = omega arith in m) ∙ h
    test_ties k e w t (q ∷ p) v h = t (q ∷ p) v h
    test_ties k e w t [] v h = absurd cc

    test_listed : (reader k : ℕ) (w : Whereabouts) (e : Expr) → Ties (number_test k e) w → table_in (of_test see control reader k e) ≡ (record { kind = kind.Cond; name = codes "cond"; span = span_of e }, A (w [])) ∷ rows (calls e w)
    test_listed reader k w e t =
        joined (stand kind.Cond (codes "cond") (span_of e) (Some k) ++ (read (Some reader) (Some k) ++ read (Some k) control)) (of_expr see control [] (readers_of_test k e) (k + own_of_test e) e)
        ((record { kind = kind.Cond; name = codes "cond"; span = span_of e }, A (w [])) ∷ []) (rows (calls e w))
        (ahead (stand kind.Cond (codes "cond") (span_of e) (Some k)) (read (Some reader) (Some k) ++ read (Some k) control) ((record { kind = kind.Cond; name = codes "cond"; span = span_of e }, Some k) ∷ []) (stood kind.Cond (codes "cond") (span_of e) k)
        (behind (read (Some reader) (Some k)) (read (Some k) control) [] (silent_read (Some reader) (Some k)) (silent_read (Some k) control))
        ∙ ap (λ o. (record { kind = kind.Cond; name = codes "cond"; span = span_of e }, o) ∷ []) (sym (t [] k refl)))
        (expr_listed [] (readers_of_test k e) (k + own_of_test e) w e (test_ties k e w t))

    tests_listed : (reader k : ℕ) (w : Whereabouts) (ts : List Trans) → Ties (number_tests k ts) w → table_in (of_tests see control reader k ts) ≡ rows (conditions ts w)
    tests_listed reader k w [] t = refl
    tests_listed reader k w (c ∷ ts) t =
        two_parts (of_test see control reader k c.cond) (of_tests see control reader ((k + own_of_test c.cond) + calls_in c.cond) ts)
        (point_at kind.Cond (codes "cond") (span_of c.cond) (w (Head ∷ [])) ∷ calls c.cond (below Head w)) (conditions ts (below Tail w))
        (test_listed reader k (below Head w) c.cond (λ p. t (Head ∷ p)))
        (tests_listed reader ((k + own_of_test c.cond) + calls_in c.cond) (below Tail w) ts (λ p. t (Tail ∷ p)))

  -- ---- the names that an equation defines

  -- A name that is defined has a vertex, by which it is seen.
  abbrev Owns : Sight → (List ℕ → Place) → (List ℕ → Bool) → Type 0
  Owns see named defined = (x : List ℕ) → IsTrue (defined x) → (v : ℕ) × ((see x ≡ Some v) × (A (named x) ≡ Some v))

  def_stands : (see : Sight) (named : List ℕ → Place) (x : List ℕ) (at : Span) → (v : ℕ) × ((see x ≡ Some v) × (A (named x) ≡ Some v)) → table_in (stand kind.Def x at (see x)) ≡ row (point_at kind.Def x at (named x)) ∷ []
  def_stands see named x at (v, (seen, placed)) =
      ap (λ o. table_in (stand kind.Def x at o)) seen ∙ stood kind.Def x at v ∙ ap (λ o. (record { kind = kind.Def; name = x; span = at }, o) ∷ []) (sym placed)

  module _ (see : Sight) (control : Option ℕ) (named : List ℕ → Place) where
    lefts_listed : (clock : List (List ℕ)) (ys : List (List ℕ × Span)) → Owns see named (is_among ys) → table_in (of_lefts see control clock ys) ≡ rows (lefts ys named)
    lefts_listed clock [] own = refl
    lefts_listed clock (y ∷ ys) own =
        two_parts (of_left see control clock y.0 y.1) (of_lefts see control clock ys) (point_at kind.Def y.0 y.1 (named y.0) ∷ []) (lefts ys named)
        (ahead (stand kind.Def y.0 y.1 (see y.0)) (read (see y.0) control ++ on_clock see clock (see y.0)) (row (point_at kind.Def y.0 y.1 (named y.0)) ∷ [])
        (def_stands see named y.0 y.1 (own y.0 (or_first (bytes_eq y.0 y.0) (is_among ys y.0) ((bytes_eq-Decides y.0 y.0).1 refl))))
        (behind (read (see y.0) control) (on_clock see clock (see y.0)) [] (silent_read (see y.0) control) (silent_clock see clock (see y.0))))
        (lefts_listed clock ys (λ x d. own x (or_second (bytes_eq y.0 x) (is_among ys x) d)))

    module _ (v : Option ℕ) (at : Span) (defined : List ℕ → Bool) (own : Owns see named defined) where
      abbrev points_at : List (List ℕ) → List Placed
      points_at xs = map (λ x. point_at kind.Def x at (named x)) xs

      name_listed : (x : List ℕ) (d : Bool) (facts : List Fact) (rest : List (List ℕ)) → defined x ≡ d → table_in facts ≡ rows (points_at rest)
          → table_in ((if d then of_defined_name see control v at x else []) ++ facts) ≡ rows (points_at (cond d (x ∷ rest) rest))
      name_listed x true facts rest e h =
          two_parts (of_defined_name see control v at x) facts (point_at kind.Def x at (named x) ∷ []) (points_at rest)
          (ahead (stand kind.Def x at (see x)) (read (see x) v ++ read (see x) control) (row (point_at kind.Def x at (named x)) ∷ []) (def_stands see named x at (own x e))
          (behind (read (see x) v) (read (see x) control) [] (silent_read (see x) v) (silent_read (see x) control)))
          h
      name_listed x false facts rest e h = h

      defined_listed : (xs : List (List ℕ)) → table_in (of_defined see control v at defined xs) ≡ rows (points_at (filter defined xs))
      defined_listed [] = refl
      defined_listed (x ∷ xs) = name_listed x (defined x) (of_defined see control v at defined xs) (filter defined xs) refl (defined_listed xs)

      control_listed : (k : ℕ) (xs : List (List ℕ)) → v ≡ Some k → table_in (of_control see control k at defined xs) ≡ rows (points_at (filter defined xs))
      control_listed k xs e =
          ap (λ o. table_in (of_defined see control o at defined xs ++ read (Some k) control)) (sym e)
          ∙ ahead (of_defined see control v at defined xs) (read (Some k) control) (rows (points_at (filter defined xs))) (defined_listed xs) (silent_read (Some k) control)

  -- the names of a block are seen there by their vertices
  block_owns : (j : ℕ) (ds : List Decl) (es : Eqns) (see : Sight) (named : List ℕ → Place) → ((x : List ℕ) (v : ℕ) → numbered j (names_in es) x ≡ Some v → A (named x) ≡ Some v) → Owns (seen_in j (block ds es) see) named (some_defines es)
  block_owns j ds es see named t x d =
      let found = numbered_listed j (names_in es) x (listed_in x es ∙ d) in
      (found.0, (over_there (numbered j (names_in es) x) (see x) found.0 found.1, t x found.0 found.1))

  words_listed : (control : Option ℕ) (k : ℕ) (at : Span) (w : Whereabouts) → A (w (Active ∷ [])) ≡ Some k → A (w (Next ∷ [])) ≡ Some (k + 1)
      → table_in (of_words control k at) ≡ row (point_at kind.Active (codes "active") at (w (Active ∷ []))) ∷ (row (point_at kind.Next (codes "next") at (w (Next ∷ []))) ∷ [])
  words_listed control k at w a n =
      joined (stand kind.Active (codes "active") at (Some k)) (stand kind.Next (codes "next") at (Some (k + 1)) ++ (read (Some k) control ++ (read (Some (k + 1)) control ++ depend (Some (k + 1)) (Some k))))
      (row (point_at kind.Active (codes "active") at (w (Active ∷ []))) ∷ []) (row (point_at kind.Next (codes "next") at (w (Next ∷ []))) ∷ [])
      (stood kind.Active (codes "active") at k ∙ ap (λ o. (record { kind = kind.Active; name = codes "active"; span = at }, o) ∷ []) (sym a))
      (ahead (stand kind.Next (codes "next") at (Some (k + 1))) (read (Some k) control ++ (read (Some (k + 1)) control ++ depend (Some (k + 1)) (Some k))) (row (point_at kind.Next (codes "next") at (w (Next ∷ []))) ∷ [])
      (stood kind.Next (codes "next") at (k + 1) ∙ ap (λ o. (record { kind = kind.Next; name = codes "next"; span = at }, o) ∷ []) (sym n))
      (behind (read (Some k) control) (read (Some (k + 1)) control ++ depend (Some (k + 1)) (Some k)) [] (silent_read (Some k) control)
      (behind (read (Some (k + 1)) control) (depend (Some (k + 1)) (Some k)) [] (silent_read (Some (k + 1)) control) (silent_depend (Some (k + 1)) (Some k)))))

  mutual
    inside_listed : (see : Sight) (control : Option ℕ) (around : List (List ℕ)) (j k : ℕ) (w : Whereabouts) (b : Block) → Ties (number_block j k b) w
        → table_in (of_inside (seen_in j b see) control around k b) ≡ rows (points_of around b w)
    inside_listed see control around j k w (block ds es) t =
        eqns_listed (seen_in j (block ds es) see) control (around ++ declared_names ds) ds (λ x. w (Named x ∷ [])) k (below Equations w) es
        (block_owns j ds es see (λ x. w (Named x ∷ [])) (λ x v h. t (Named x ∷ []) v h)) (λ p. t (Equations ∷ p))

    block_listed : (out see : Sight) (control : Option ℕ) (around : List (List ℕ)) (k : ℕ) (w : Whereabouts) (b : Block) → Ties (number_block k (k + own_size b) b) w
        → table_in (links_of k b out ++ of_inside (seen_in k b see) control around (k + own_size b) b) ≡ rows (points_of around b w)
    block_listed out see control around k w (block ds es) t =
        behind (links_of k (block ds es) out) (of_inside (seen_in k (block ds es) see) control around (k + own_size (block ds es)) (block ds es)) (rows (points_of around (block ds es) w)) (silent_block_links k (block ds es) out)
        (eqns_listed (seen_in k (block ds es) see) control (around ++ declared_names ds) ds (λ x. w (Named x ∷ [])) (k + own_size (block ds es)) (below Equations w) es
        (block_owns k ds es see (λ x. w (Named x ∷ [])) (λ x v h. t (Named x ∷ []) v h)) (λ p. t (Equations ∷ p)))

    eqns_listed : (see : Sight) (control : Option ℕ) (around : List (List ℕ)) (ds : List Decl) (named : List ℕ → Place) (k : ℕ) (w : Whereabouts) (es : Eqns) → Owns see named (some_defines es) → Ties (number_eqns k es) w
        → table_in (of_eqns see control around ds k es) ≡ rows (points_of_all around named es w)
    eqns_listed see control around ds named k w no_eqn own t = refl
    eqns_listed see control around ds named k w (more_eqns e es) own t =
        two_parts (of_eqn see control around ds k e) (of_eqns see control around ds (k + size_of e) es) (points_of_one around named e (below Head w)) (points_of_all around named es (below Tail w))
        (eqn_listed see control around ds named k (below Head w) e (λ x d. own x (or_first (defines e x) (some_defines es x) d)) (λ p. t (Head ∷ p)))
        (eqns_listed see control around ds named (k + size_of e) (below Tail w) es (λ x d. own x (or_second (defines e x) (some_defines es x) d)) (λ p. t (Tail ∷ p)))

    eqn_listed : (see : Sight) (control : Option ℕ) (around : List (List ℕ)) (ds : List Decl) (named : List ℕ → Place) (k : ℕ) (w : Whereabouts) (e : Eqn) → Owns see named (defines e) → Ties (number_eqn k e) w
        → table_in (of_eqn see control around ds k e) ≡ rows (points_of_one around named e w)
    eqn_listed see control around ds named k w (define at ys e) own t =
        let clock = names_of_clock (clock_of ds ys e) in
        two_parts (of_lefts see control clock ys) (of_expr see control clock (vertices_of see ys) k e) (lefts ys named) (calls e (below Right w))
        (lefts_listed see control named clock ys own) (expr_listed see control clock (vertices_of see ys) k (below Right w) e (λ p. t (Right ∷ p)))
    eqn_listed see control around ds named k w (switch at e arms) own t =
        let hid = seen_within (switch at e arms) see in
        let inner = of_arms see hid (Some k) around ((k + 1) + calls_in e) arms in
        two_parts (of_control see control k at (defines (switch at e arms)) around) (of_expr see control [] (k ∷ []) (k + 1) e ++ inner) (defined_by (switch at e arms) at around named) (calls e (below Test w) ++ points_of_arms around arms (below ArmsOf w))
        (control_listed see control named (Some k) at (defines (switch at e arms)) own k around refl)
        (two_parts (of_expr see control [] (k ∷ []) (k + 1) e) inner (calls e (below Test w)) (points_of_arms around arms (below ArmsOf w))
        (expr_listed see control [] (k ∷ []) (k + 1) (below Test w) e (λ p. t (Test ∷ p)))
        (arms_listed see hid (Some k) around ((k + 1) + calls_in e) (below ArmsOf w) arms (λ p. t (ArmsOf ∷ p))))
    eqn_listed see control around ds named k w (reset at b e) own t =
        let hid = seen_within (reset at b e) see in
        let inner = links_of (k + 1) b see ++ of_inside (seen_in (k + 1) b hid) (Some k) around ((k + 1) + own_size b) b in
        let last = of_expr see control [] (k ∷ []) (((k + 1) + own_size b) + size_inside b) e in
        two_parts (of_control see control k at (defines (reset at b e)) around) (inner ++ last) (defined_by (reset at b e) at around named) (points_of around b (below Body w) ++ calls e (below Test w))
        (control_listed see control named (Some k) at (defines (reset at b e)) own k around refl)
        (two_parts inner last (points_of around b (below Body w)) (calls e (below Test w))
        (block_listed see hid (Some k) around (k + 1) (below Body w) b (λ p. t (Body ∷ p)))
        (expr_listed see control [] (k ∷ []) (((k + 1) + own_size b) + size_inside b) (below Test w) e (λ p. t (Test ∷ p))))
    eqn_listed see control around ds named k w (automaton at ss) own t =
        let hid = seen_within (automaton at ss) see in
        let inner = of_states see control hid k (k + 1) around (k + 2) ss in
        joined (of_words control k at) (of_defined see control (Some k) at (defines (automaton at ss)) around ++ inner)
        (row (point_at kind.Active (codes "active") at (w (Active ∷ []))) ∷ (row (point_at kind.Next (codes "next") at (w (Next ∷ []))) ∷ []))
        (rows (defined_by (automaton at ss) at around named ++ points_of_states around ss (below StatesOf w)))
        (words_listed control k at w (t (Active ∷ []) k refl) (t (Next ∷ []) (k + 1) refl))
        (two_parts (of_defined see control (Some k) at (defines (automaton at ss)) around) inner (defined_by (automaton at ss) at around named) (points_of_states around ss (below StatesOf w))
        (defined_listed see control named (Some k) at (defines (automaton at ss)) own around)
        (states_listed see control hid k (k + 1) around (k + 2) (below StatesOf w) ss (λ p. t (StatesOf ∷ p))))

    arms_listed : (out see : Sight) (control : Option ℕ) (around : List (List ℕ)) (k : ℕ) (w : Whereabouts) (arms : Arms) → Ties (number_arms k arms) w
        → table_in (of_arms out see control around k arms) ≡ rows (points_of_arms around arms w)
    arms_listed out see control around k w no_arm t = refl
    arms_listed out see control around k w (more_arms c b at arms) t =
        two_parts (links_of k b out ++ of_inside (seen_in k b see) control around (k + own_size b) b) (of_arms out see control around ((k + own_size b) + size_inside b) arms) (points_of around b (below Head w)) (points_of_arms around arms (below Tail w))
        (block_listed out see control around k (below Head w) b (λ p. t (Head ∷ p)))
        (arms_listed out see control around ((k + own_size b) + size_inside b) (below Tail w) arms (λ p. t (Tail ∷ p)))

    states_listed : (out : Sight) (control : Option ℕ) (see : Sight) (active next : ℕ) (around : List (List ℕ)) (k : ℕ) (w : Whereabouts) (ss : States) → Ties (number_states k ss) w
        → table_in (of_states out control see active next around k ss) ≡ rows (points_of_states around ss w)
    states_listed out control see active next around k w no_state t = refl
    states_listed out control see active next around k w (more_states f b until unless at ss) t =
        let inner = links_of k b out ++ of_inside (seen_in k b see) (Some active) around (k + own_size b) b in
        let weak = of_tests (seen_in k b see) (Some active) next ((k + own_size b) + size_inside b) until in
        let strong = of_tests out control active (((k + own_size b) + size_inside b) + size_of_tests until) unless in
        let rest = of_states out control see active next around ((((k + own_size b) + size_inside b) + size_of_tests until) + size_of_tests unless) ss in
        let ps = points_of around b (below Body (below Head w)) in
        let us = conditions until (below Until (below Head w)) in
        let xs = conditions unless (below Unless (below Head w)) in
        let qs = points_of_states around ss (below Tail w) in
        two_parts (inner ++ (weak ++ strong)) rest (ps ++ (us ++ xs)) qs
        (two_parts inner (weak ++ strong) ps (us ++ xs) (block_listed out see (Some active) around k (below Body (below Head w)) b (λ p. t (Head ∷ Body ∷ p)))
        (two_parts weak strong us xs
        (tests_listed (seen_in k b see) (Some active) next ((k + own_size b) + size_inside b) (below Until (below Head w)) until (λ p. t (Head ∷ Until ∷ p)))
        (tests_listed out control active (((k + own_size b) + size_inside b) + size_of_tests until) (below Unless (below Head w)) unless (λ p. t (Head ∷ Unless ∷ p)))))
        (states_listed out control see active next around ((((k + own_size b) + size_inside b) + size_of_tests until) + size_of_tests unless) (below Tail w) ss (λ p. t (Tail ∷ p)))
        ∙ ap rows (append_assoc ps (us ++ xs) qs ∙ ap (λ more. ps ++ more) (append_assoc us xs qs))

  -- ---- a node

  told_listed : (see : Sight) (k : ℕ) (w : Whereabouts) (o : Option Expr) → Ties (number_told k o) w → table_in (of_told see k o) ≡ rows (calls_told o w)
  told_listed see k w None t = refl
  told_listed see k w (Some e) t = expr_listed see None [] [] k w e t

  contract_listed : (see : Sight) (k : ℕ) (w : Whereabouts) (c : Option Contract) → Ties (number_contract k c) w → table_in (of_contract see k c) ≡ rows (points_of_contract c w)
  contract_listed see k w None t = refl
  contract_listed see k w (Some c) t =
      let own = seen_in k c.body see in
      let inner = of_inside own None [] (k + own_size c.body) c.body in
      let first = of_told own ((k + own_size c.body) + size_inside c.body) c.assume in
      let second = of_told own (((k + own_size c.body) + size_inside c.body) + size_of_told c.assume) c.enforce in
      two_parts inner (first ++ second) (points_of [] c.body (below Observer w)) (calls_told c.assume (below Assume w) ++ calls_told c.enforce (below Enforce w))
      (inside_listed see None [] k (k + own_size c.body) (below Observer w) c.body (λ p. t (Observer ∷ p)))
      (two_parts first second (calls_told c.assume (below Assume w)) (calls_told c.enforce (below Enforce w))
      (told_listed own ((k + own_size c.body) + size_inside c.body) (below Assume w) c.assume (λ p. t (Assume ∷ p)))
      (told_listed own (((k + own_size c.body) + size_inside c.body) + size_of_told c.assume) (below Enforce w) c.enforce (λ p. t (Enforce ∷ p))))

  controls_listed : (k : ℕ) (w : Whereabouts) (ds : List Decl) → Ties (number_controls k ds) w → table_in (of_controls k ds) ≡ rows (controls ds w)
  controls_listed k w [] t = refl
  controls_listed k w (d ∷ ds) t =
      two_parts (stand kind.Def d.name d.span (Some k)) (of_controls (k + 1) ds) (point_at kind.Def d.name d.span (w (Head ∷ [])) ∷ []) (controls ds (below Tail w))
      (stood kind.Def d.name d.span k ∙ ap (λ o. (record { kind = kind.Def; name = d.name; span = d.span }, o) ∷ []) (sym (t (Head ∷ []) k refl)))
      (controls_listed (k + 1) (below Tail w) ds (λ p. t (Tail ∷ p)))

pub node_listed : (n : Node) → table_in (of_node n) ≡ map (λ (p : Placed). (p.point, number_node n p.place)) (points n)
node_listed n =
    let A = number_node n in
    let ds = controls_of n.contract in
    let observer = of_contract (seen_outputs n) (first_of_contract n) n.contract in
    let body = of_inside (seen_in (first_of_body n) n.body (seen_controls n)) None (declared_names n.outputs) (first_inside n) n.body in
    two_parts A (of_controls 0 ds) (observer ++ body) (controls ds (λ p. Controls ∷ p)) (points_of_contract n.contract (λ p. p) ++ points_of (declared_names n.outputs) n.body (λ p. Body ∷ p))
    (controls_listed A 0 (λ p. Controls ∷ p) ds (λ p v h. h))
    (two_parts A observer body (points_of_contract n.contract (λ p. p)) (points_of (declared_names n.outputs) n.body (λ p. Body ∷ p))
    (contract_listed A (seen_outputs n) (first_of_contract n) (λ p. p) n.contract (observer_ties n))
    (inside_listed A (seen_controls n) None (declared_names n.outputs) (first_of_body n) (first_inside n) (λ p. Body ∷ p) n.body (λ p v h. h)))
