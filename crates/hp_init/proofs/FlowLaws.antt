-- The numbers of variables stand for their places: what is asked of numbers is what the definitions ask of places.
use Rattle.std.specs.Bool.{⊤}
use Rattle.std.proofs.Common.{◌≡◌, ℕ, ◌+◌, Bool, true, false, ◌||◌, IsTrue, if◌then◌else◌, List, [], ◌∷◌, ◌++◌, length, map, Option, None, Some, option_map, refl, sym, ap, subst, ◌∙◌}
use Rattle.std.specs.Str.{bytes_eq}
use Rattle.hp_base.specs.declared.span.Span.{Span}
use Rattle.hp_tree.specs.declared.decl.Cons.{Cons}
use Rattle.hp_tree.specs.declared.block.Trans.{Trans}
use Rattle.hp_tree.specs.Expressions.{Expr, constant, variable, last_of, one, two, choose, pre, fby, arrow, when_is, merge, call, Exprs, no_expr, more_exprs, Parts, no_part, more_parts}
use Rattle.hp_tree.specs.Blocks.{Decl, Block, block, Eqns, no_eqn, more_eqns, Eqn, define, switch, reset, automaton, Arms, no_arm, more_arms, States, no_state, more_states}
use Rattle.hp_tree.specs.Programs.{Node}
use Rattle.hp_tree.specs.Instant.{Body, Named, Equations, Head, Tail, Arms as ArmsOf, States as StatesOf, Place}
use Rattle.hp_tree.specs.Meaning.{declares, defines, some_defines, names_of as declared}
use Rattle.hp_meaning.specs.Causal.Points.{span_of}
use Rattle.hp_init.specs.declared.ask.Source.{Source}
use Rattle.hp_init.specs.declared.ask.Source.TheVariants.{Always, Class}
use Rattle.hp_init.specs.declared.ask.Ask.{Ask}
use Rattle.hp_init.specs.declared.ask.Ask.TheVariants.{Follows, First}
use Rattle.hp_init.specs.Classes.{Classes, Assignment, Known, is_second, or_first, with_declared, known_in, known_within, known_outputs, VariableFollows, LeftsFollow, BlockFollows, EqnsFollow, EqnFollows, ArmsFollow, StatesFollow}
use Rattle.hp_init.specs.Wants.{some_must}
use Rattle.hp_init.specs.Names.{Numbering, size, size_of, number_block, number_eqns, number_eqn, number_arms, number_states}
use Rattle.hp_tables.specs.Defining.Layers.{numbered}
use Rattle.hp_init.specs.Asks.{Sight, Seen, Goes, to_want, to_nothing, over, seen_in, seen_within, seen_outputs, tell, tell_name, of_expr, of_exprs, of_parts, of_path, of_clock, of_decls, targets_of, of_test, of_tests, of_told, of_block, of_eqns, of_eqn, of_arms, of_states, Valued, value_of, ObeysAll}

-- ---- what is obeyed

module _ (q : Valued) where
  pub both : (xs ys : List Ask) → ObeysAll q xs → ObeysAll q ys → ObeysAll q (xs ++ ys)
  both [] ys h g = g
  both (a ∷ xs) ys h g = (h.0, both xs ys h.1 g)

  pub fore : (xs ys : List Ask) → ObeysAll q (xs ++ ys) → ObeysAll q xs
  fore [] ys h = tt
  fore (a ∷ xs) ys h = (h.0, fore xs ys h.1)

  pub rear : (xs ys : List Ask) → ObeysAll q (xs ++ ys) → ObeysAll q ys
  rear [] ys h = h
  rear (a ∷ xs) ys h = rear xs ys h.1

  -- numbers are Second where something is
  abbrev pub AllFollow : List ℕ → Bool → Type 0
  AllFollow [] d = ⊤
  AllFollow (t ∷ ts) d = (IsTrue d → IsTrue (q t)) × AllFollow ts d

  pub none_follow : (ts : List ℕ) → AllFollow ts false
  none_follow [] = tt
  none_follow (t ∷ ts) = (λ h. absurd cc, none_follow ts)

  -- where one of two is Second
  pub join : (ts : List ℕ) (a b : Bool) → AllFollow ts a → AllFollow ts b → AllFollow ts (a || b)
  join ts true b h g = h
  join ts false b h g = g

  weaker : (ts : List ℕ) (a b : Bool) → (IsTrue a → IsTrue b) → AllFollow ts b → AllFollow ts a
  weaker [] a b f h = tt
  weaker (t ∷ ts) a b f h = (λ x. h.0 (f x), weaker ts a b f h.1)

  or_left : (a b : Bool) → IsTrue a → IsTrue (a || b)
  or_left true b h = refl
  or_left false b h = absurd cc

  or_right : (a b : Bool) → IsTrue b → IsTrue (a || b)
  or_right true b h = refl
  or_right false b h = h

  pub left : (ts : List ℕ) (a b : Bool) → AllFollow ts (a || b) → AllFollow ts a
  left ts a b h = weaker ts a (a || b) (or_left a b) h

  pub right : (ts : List ℕ) (a b : Bool) → AllFollow ts (a || b) → AllFollow ts b
  right ts a b h = weaker ts b (a || b) (or_right a b) h

  -- ---- sources
  told : (ts : List ℕ) (s : Source) → AllFollow ts (value_of q s) → ObeysAll q (map (Follows s) ts)
  told [] s h = tt
  told (t ∷ ts) s h = (h.0, told ts s h.1)

  heard : (ts : List ℕ) (s : Source) → ObeysAll q (map (Follows s) ts) → AllFollow ts (value_of q s)
  heard [] s h = tt
  heard (t ∷ ts) s h = (h.0, heard ts s h.1)

  pub tell_obeyed : (at : Span) (g : Goes) (s : Source) → AllFollow g.targets (value_of q s) → ObeysAll q (tell at g s)
  tell_obeyed at g s h = by g.wanted
    where
      by : (w : Bool) → ObeysAll q ((if w then First s at ∷ [] else []) ++ map (Follows s) g.targets)
      by true = (tt, told g.targets s h)
      by false = told g.targets s h

  pub tell_follows : (at : Span) (g : Goes) (s : Source) → ObeysAll q (tell at g s) → AllFollow g.targets (value_of q s)
  tell_follows at g s h = by g.wanted h
    where
      by : (w : Bool) → ObeysAll q ((if w then First s at ∷ [] else []) ++ map (Follows s) g.targets) → AllFollow g.targets (value_of q s)
      by true h = heard g.targets s h.1
      by false h = heard g.targets s h

  -- the class of what is seen
  abbrev pub class_of : Option ℕ → Bool
  class_of None = false
  class_of (Some k) = q k

  abbrev pub seen_as : Sight → Classes
  seen_as see x = class_of (see x)

  pub name_obeyed : (at : Span) (g : Goes) (o : Option ℕ) → AllFollow g.targets (class_of o) → ObeysAll q (elim o [ None ↦ [] | Some k ↦ tell at g (Class k) ])
  name_obeyed at g None h = tt
  name_obeyed at g (Some k) h = tell_obeyed at g (Class k) h

  pub name_follows : (at : Span) (g : Goes) (o : Option ℕ) → ObeysAll q (elim o [ None ↦ [] | Some k ↦ tell at g (Class k) ]) → AllFollow g.targets (class_of o)
  name_follows at g None h = none_follow g.targets
  name_follows at g (Some k) h = tell_follows at g (Class k) h

  module _ (see : Sight) (at : Span) where
    mutual
      pub expr_obeyed : (g : Goes) (e : Expr) → AllFollow g.targets (is_second (seen_as see) e) → ObeysAll q (of_expr see at g e)
      expr_obeyed g (constant s c) h = tt
      expr_obeyed g (variable s x) h = name_obeyed at g (see x) h
      expr_obeyed g (last_of s x) h = tt
      expr_obeyed g (one s o a) h = expr_obeyed g a h
      expr_obeyed g (two s o a b) h =
          let f = seen_as see in
          both (of_expr see at g a) (of_expr see at g b) (expr_obeyed g a (left g.targets (is_second f a) (is_second f b) h)) (expr_obeyed g b (right g.targets (is_second f a) (is_second f b) h))
      expr_obeyed g (choose s a b c) h =
          let f = seen_as see in
          let bc = right g.targets (is_second f a) (is_second f b || is_second f c) h in
          both (of_expr see at g a) (of_expr see at g b ++ of_expr see at g c) (expr_obeyed g a (left g.targets (is_second f a) (is_second f b || is_second f c) h))
          (both (of_expr see at g b) (of_expr see at g c) (expr_obeyed g b (left g.targets (is_second f b) (is_second f c) bc)) (expr_obeyed g c (right g.targets (is_second f b) (is_second f c) bc)))
      expr_obeyed g (pre s a) h = both (tell at g Always) (of_expr see at to_want a) (tell_obeyed at g Always h) (expr_obeyed to_want a tt)
      expr_obeyed g (fby s a b) h = both (of_expr see at g a) (of_expr see at to_want b) (expr_obeyed g a h) (expr_obeyed to_want b tt)
      expr_obeyed g (arrow s a b) h = both (of_expr see at g a) (of_expr see at to_nothing b) (expr_obeyed g a h) (expr_obeyed to_nothing b tt)
      expr_obeyed g (when_is s a c x) h = both (of_expr see at g a) (tell_name see at to_want x) (expr_obeyed g a h) (name_obeyed at to_want (see x) tt)
      expr_obeyed g (merge s x ps) h = both (tell_name see at to_want x) (of_parts see at ps) (name_obeyed at to_want (see x) tt) (parts_obeyed ps)
      expr_obeyed g (call s f i es) h = exprs_obeyed es

      pub exprs_obeyed : (es : Exprs) → ObeysAll q (of_exprs see at es)
      exprs_obeyed no_expr = tt
      exprs_obeyed (more_exprs e es) = both (of_expr see at to_want e) (of_exprs see at es) (expr_obeyed to_want e tt) (exprs_obeyed es)

      pub parts_obeyed : (ps : Parts) → ObeysAll q (of_parts see at ps)
      parts_obeyed no_part = tt
      parts_obeyed (more_parts c e ps) = both (of_expr see at to_want e) (of_parts see at ps) (expr_obeyed to_want e tt) (parts_obeyed ps)

    pub expr_follows : (g : Goes) (e : Expr) → ObeysAll q (of_expr see at g e) → AllFollow g.targets (is_second (seen_as see) e)
    expr_follows g (constant s c) h = none_follow g.targets
    expr_follows g (variable s x) h = name_follows at g (see x) h
    expr_follows g (last_of s x) h = none_follow g.targets
    expr_follows g (one s o a) h = expr_follows g a h
    expr_follows g (two s o a b) h =
        let f = seen_as see in
        join g.targets (is_second f a) (is_second f b) (expr_follows g a (fore (of_expr see at g a) (of_expr see at g b) h)) (expr_follows g b (rear (of_expr see at g a) (of_expr see at g b) h))
    expr_follows g (choose s a b c) h =
        let f = seen_as see in
        let bc = rear (of_expr see at g a) (of_expr see at g b ++ of_expr see at g c) h in
        join g.targets (is_second f a) (is_second f b || is_second f c) (expr_follows g a (fore (of_expr see at g a) (of_expr see at g b ++ of_expr see at g c) h))
        (join g.targets (is_second f b) (is_second f c) (expr_follows g b (fore (of_expr see at g b) (of_expr see at g c) bc)) (expr_follows g c (rear (of_expr see at g b) (of_expr see at g c) bc)))
    expr_follows g (pre s a) h = tell_follows at g Always (fore (tell at g Always) (of_expr see at to_want a) h)
    expr_follows g (fby s a b) h = expr_follows g a (fore (of_expr see at g a) (of_expr see at to_want b) h)
    expr_follows g (arrow s a b) h = expr_follows g a (fore (of_expr see at g a) (of_expr see at to_nothing b) h)
    expr_follows g (when_is s a c x) h = expr_follows g a (fore (of_expr see at g a) (tell_name see at to_want x) h)
    expr_follows g (merge s x ps) h = none_follow g.targets
    expr_follows g (call s f i es) h = none_follow g.targets

  -- ---- left sides
  module _ (see : Sight) where
    abbrev pub variables_as : List ℕ → Option Bool
    variables_as x = option_map q (see x)

    pub lefts_to : (ys : List (List ℕ × Span)) (d : Bool) → LeftsFollow variables_as ys d → AllFollow (targets_of see ys) d
    lefts_to [] d h = tt
    lefts_to (y ∷ ys) d h = by (see y.0) h.0 (lefts_to ys d h.1)
      where
        by : (o : Option ℕ) → VariableFollows (option_map q o) d → AllFollow (targets_of see ys) d → AllFollow (elim o [ None ↦ targets_of see ys | Some k ↦ k ∷ targets_of see ys ]) d
        by None h rest = rest
        by (Some k) h rest = (h, rest)

    pub lefts_from : (ys : List (List ℕ × Span)) (d : Bool) → AllFollow (targets_of see ys) d → LeftsFollow variables_as ys d
    lefts_from [] d h = tt
    lefts_from (y ∷ ys) d h = by (lefts_from ys d) (see y.0) h
      where
        by : (AllFollow (targets_of see ys) d → LeftsFollow variables_as ys d) → (o : Option ℕ) → AllFollow (elim o [ None ↦ targets_of see ys | Some k ↦ k ∷ targets_of see ys ]) d → VariableFollows (option_map q o) d × LeftsFollow variables_as ys d
        by rest None h = (tt, rest h)
        by rest (Some k) h = (h.0, rest h.1)

  -- ---- blocks
  -- What is numbered has the class of its number.
  abbrev pub Tied : Numbering → Assignment → Type 0
  Tied num class = (p : Place) (v : ℕ) → num p ≡ Some v → class p ≡ q v

  abbrev pub known_as : Seen → Known
  known_as see = record { variables = variables_as see.variables; values = seen_as see.values }

  found : (ds : List Decl) (k : ℕ) (x : List ℕ) → declares ds x ≡ true → (v : ℕ) × (numbered k (declared ds) x ≡ Some v)
  found [] k x h = absurd cc
  found (d ∷ ds) k x h = by (found ds (k + 1) x) (bytes_eq d.name x) h
    where
      by : (declares ds x ≡ true → (v : ℕ) × (numbered (k + 1) (declared ds) x ≡ Some v)) → (here : Bool) → here || declares ds x ≡ true
          → (v : ℕ) × ((if here then Some k else numbered (k + 1) (declared ds) x) ≡ Some v)
      by rest true h = (k, refl)
      by rest false h = rest h

  not_found : (ds : List Decl) (k : ℕ) (x : List ℕ) → declares ds x ≡ false → numbered k (declared ds) x ≡ None
  not_found [] k x h = refl
  not_found (d ∷ ds) k x h = by (not_found ds (k + 1) x) (bytes_eq d.name x) h
    where
      by : (declares ds x ≡ false → numbered (k + 1) (declared ds) x ≡ None) → (here : Bool) → here || declares ds x ≡ false
          → (if here then Some k else numbered (k + 1) (declared ds) x) ≡ None
      by rest true h = absurd cc
      by rest false h = rest h

  -- the variables of a block
  variable_in : (ds : List Decl) (k : ℕ) (see : Sight) (class : Assignment) → ((x : List ℕ) (v : ℕ) → numbered k (declared ds) x ≡ Some v → class (Named x ∷ []) ≡ q v)
      → (x : List ℕ) → with_declared ds class (variables_as see) x ≡ variables_as (over (numbered k (declared ds)) see) x
  variable_in ds k see class tied x = by (declares ds x) refl
    where
      by : (d : Bool) → declares ds x ≡ d → (if d then Some (class (Named x ∷ [])) else option_map q (see x)) ≡ option_map q (over (numbered k (declared ds)) see x)
      by true h =
          let n = found ds k x h in
          ap Some (tied x n.0 n.1) ∙ sym (ap (λ o. option_map q (elim o [ None ↦ see x | Some j ↦ Some j ])) n.1)
      by false h = sym (ap (λ o. option_map q (elim o [ None ↦ see x | Some j ↦ Some j ])) (not_found ds k x h))

  first_of : (o : Option ℕ) → or_first (option_map q o) ≡ class_of o
  first_of None = refl
  first_of (Some k) = refl

  value_in : (d : Bool) (o : Option Bool) (s t : Option ℕ) → o ≡ option_map q s → (if d then or_first o else class_of t) ≡ class_of (if d then s else t)
  value_in true o s t h = ap or_first h ∙ first_of s
  value_in false o s t h = refl

  pub known_law : (k : ℕ) (b : Block) (see : Seen) (class : Assignment) → Tied (number_block k b) class → known_in b class (known_as see) ≡ known_as (seen_in k b see)
  known_law k (block ds es) see class tied =
      let names : (x : List ℕ) → with_declared ds class (variables_as see.variables) x ≡ variables_as (over (numbered k (declared ds)) see.variables) x
      = variable_in ds k see.variables class (λ x v h. tied (Named x ∷ []) v h) in
      λ i. record {
        variables = λ x. names x i;
        values = λ x. value_in (some_defines es x) (with_declared ds class (variables_as see.variables) x) (over (numbered k (declared ds)) see.variables x) (see.values x) (names x) i;
      }

  pub outputs_law : (n : Node) (class : Assignment) → ((x : List ℕ) (v : ℕ) → numbered 0 (declared n.outputs) x ≡ Some v → class (Named x ∷ []) ≡ q v) → known_outputs n class ≡ known_as (seen_outputs n)
  outputs_law n class tied =
      let over_none : (o : Option ℕ) → (elim o [ None ↦ None | Some j ↦ Some j ]) ≡ o = λ o. elim o as (λ o. (elim o [ None ↦ None | Some j ↦ Some j ]) ≡ o) [ None ↦ refl | Some j ↦ refl ] in
      let names : (x : List ℕ) → with_declared n.outputs class (λ y. None) x ≡ variables_as (numbered 0 (declared n.outputs)) x
      = λ x. variable_in n.outputs 0 (λ y. None) class tied x ∙ ap (option_map q) (over_none (numbered 0 (declared n.outputs) x)) in
      λ i. record {
        variables = λ x. names x i;
        values = λ x. (ap or_first (names x) ∙ first_of (numbered 0 (declared n.outputs) x)) i;
      }

  hidden : (d : Bool) (o : Option ℕ) → (if d then false else class_of o) ≡ class_of (if d then None else o)
  hidden true o = refl
  hidden false o = refl

  pub within_law : (e : Eqn) (see : Seen) → known_within e (known_as see) ≡ known_as (seen_within e see)
  within_law e see = λ i. record { variables = variables_as see.variables; values = λ x. hidden (defines e x) (see.values x) i }

  -- ---- what only wants is obeyed
  pub test_obeyed : (see : Sight) (e : Expr) → ObeysAll q (of_test see e)
  test_obeyed see e = expr_obeyed see (span_of e) to_want e tt

  pub tests_obeyed : (see : Sight) (ts : List Trans) → ObeysAll q (of_tests see ts)
  tests_obeyed see [] = tt
  tests_obeyed see (t ∷ ts) = both (of_test see t.cond) (of_tests see ts) (test_obeyed see t.cond) (tests_obeyed see ts)

  path_obeyed : (see : Sight) (at : Span) (path : List (Cons × List ℕ)) → ObeysAll q (of_path see at path)
  path_obeyed see at [] = tt
  path_obeyed see at (on ∷ path) = both (tell_name see at to_want on.1) (of_path see at path) (name_obeyed at to_want (see on.1) tt) (path_obeyed see at path)

  clock_obeyed : (see : Sight) (at : Span) (clock : Option (List (Cons × List ℕ))) → ObeysAll q (of_clock see at clock)
  clock_obeyed see at None = tt
  clock_obeyed see at (Some path) = path_obeyed see at path

  decls_obeyed : (see : Sight) (ds : List Decl) → ObeysAll q (of_decls see ds)
  decls_obeyed see [] = tt
  decls_obeyed see (d ∷ ds) = both (of_clock see d.span d.clock) (of_decls see ds) (clock_obeyed see d.span d.clock) (decls_obeyed see ds)

  pub told_obeyed : (see : Sight) (e : Option Expr) → ObeysAll q (of_told see e)
  told_obeyed see None = tt
  told_obeyed see (Some e) = test_obeyed see e

  abbrev goes_to : Seen → List Decl → List (List ℕ × Span) → Goes
  goes_to see ds ys = record { wanted = some_must ds ys; targets = targets_of see.variables ys }

  -- ---- from places to numbers
  mutual
    pub block_obeyed : (see : Seen) (k : ℕ) (class : Assignment) (b : Block) → Tied (number_block k b) class → BlockFollows (known_as see) class b → ObeysAll q (of_block see k b)
    block_obeyed see k class (block ds es) tied h =
        let inner = seen_in k (block ds es) see in
        both (of_decls inner.values ds) (of_eqns inner ds (k + length ds) es) (decls_obeyed inner.values ds)
        (eqns_obeyed inner ds (k + length ds) (λ p. class (Equations ∷ p)) es (λ p v n. tied (Equations ∷ p) v n)
        (subst (λ known. EqnsFollow known (λ p. class (Equations ∷ p)) es) (known_law k (block ds es) see class tied) h))

    pub eqns_obeyed : (see : Seen) (ds : List Decl) (k : ℕ) (class : Assignment) (es : Eqns) → Tied (number_eqns k es) class → EqnsFollow (known_as see) class es → ObeysAll q (of_eqns see ds k es)
    eqns_obeyed see ds k class no_eqn tied h = tt
    eqns_obeyed see ds k class (more_eqns e es) tied h =
        both (of_eqn see ds k e) (of_eqns see ds (k + size_of e) es) (eqn_obeyed see ds k (λ p. class (Head ∷ p)) e (λ p v n. tied (Head ∷ p) v n) h.0)
        (eqns_obeyed see ds (k + size_of e) (λ p. class (Tail ∷ p)) es (λ p v n. tied (Tail ∷ p) v n) h.1)

    pub eqn_obeyed : (see : Seen) (ds : List Decl) (k : ℕ) (class : Assignment) (e : Eqn) → Tied (number_eqn k e) class → EqnFollows (known_as see) class e → ObeysAll q (of_eqn see ds k e)
    eqn_obeyed see ds k class (define at ys e) tied h = expr_obeyed see.values at (goes_to see ds ys) e (lefts_to see.variables ys (is_second (seen_as see.values) e) h)
    eqn_obeyed see ds k class (switch at e arms) tied h =
        let inner = seen_within (switch at e arms) see in
        both (of_test see.values e) (of_arms inner k arms) (test_obeyed see.values e)
        (arms_obeyed inner k (λ p. class (ArmsOf ∷ p)) arms (λ p v n. tied (ArmsOf ∷ p) v n) (subst (λ known. ArmsFollow known (λ p. class (ArmsOf ∷ p)) arms) (within_law (switch at e arms) see) h))
    eqn_obeyed see ds k class (reset at b e) tied h =
        let inner = seen_within (reset at b e) see in
        both (of_block inner k b) (of_test see.values e)
        (block_obeyed inner k (λ p. class (Body ∷ p)) b (λ p v n. tied (Body ∷ p) v n) (subst (λ known. BlockFollows known (λ p. class (Body ∷ p)) b) (within_law (reset at b e) see) h))
        (test_obeyed see.values e)
    eqn_obeyed see ds k class (automaton at ss) tied h =
        let inner = seen_within (automaton at ss) see in
        states_obeyed see inner k (λ p. class (StatesOf ∷ p)) ss (λ p v n. tied (StatesOf ∷ p) v n) (subst (λ known. StatesFollow known (λ p. class (StatesOf ∷ p)) ss) (within_law (automaton at ss) see) h)

    pub arms_obeyed : (see : Seen) (k : ℕ) (class : Assignment) (arms : Arms) → Tied (number_arms k arms) class → ArmsFollow (known_as see) class arms → ObeysAll q (of_arms see k arms)
    arms_obeyed see k class no_arm tied h = tt
    arms_obeyed see k class (more_arms c b at arms) tied h =
        both (of_block see k b) (of_arms see (k + size b) arms) (block_obeyed see k (λ p. class (Head ∷ p)) b (λ p v n. tied (Head ∷ p) v n) h.0)
        (arms_obeyed see (k + size b) (λ p. class (Tail ∷ p)) arms (λ p v n. tied (Tail ∷ p) v n) h.1)

    pub states_obeyed : (out see : Seen) (k : ℕ) (class : Assignment) (ss : States) → Tied (number_states k ss) class → StatesFollow (known_as see) class ss → ObeysAll q (of_states out see k ss)
    states_obeyed out see k class no_state tied h = tt
    states_obeyed out see k class (more_states f b until unless at ss) tied h =
        let inner = seen_in k b see in
        both (of_block see k b) (of_tests inner.values until ++ (of_tests out.values unless ++ of_states out see (k + size b) ss))
        (block_obeyed see k (λ p. class (Head ∷ Body ∷ p)) b (λ p v n. tied (Head ∷ Body ∷ p) v n) h.0)
        (both (of_tests inner.values until) (of_tests out.values unless ++ of_states out see (k + size b) ss) (tests_obeyed inner.values until)
        (both (of_tests out.values unless) (of_states out see (k + size b) ss) (tests_obeyed out.values unless)
        (states_obeyed out see (k + size b) (λ p. class (Tail ∷ p)) ss (λ p v n. tied (Tail ∷ p) v n) h.1)))

  -- ---- and back
  mutual
    pub block_follows : (see : Seen) (k : ℕ) (class : Assignment) (b : Block) → Tied (number_block k b) class → ObeysAll q (of_block see k b) → BlockFollows (known_as see) class b
    block_follows see k class (block ds es) tied h =
        let inner = seen_in k (block ds es) see in
        subst (λ known. EqnsFollow known (λ p. class (Equations ∷ p)) es) (sym (known_law k (block ds es) see class tied))
        (eqns_follow inner ds (k + length ds) (λ p. class (Equations ∷ p)) es (λ p v n. tied (Equations ∷ p) v n) (rear (of_decls inner.values ds) (of_eqns inner ds (k + length ds) es) h))

    pub eqns_follow : (see : Seen) (ds : List Decl) (k : ℕ) (class : Assignment) (es : Eqns) → Tied (number_eqns k es) class → ObeysAll q (of_eqns see ds k es) → EqnsFollow (known_as see) class es
    eqns_follow see ds k class no_eqn tied h = tt
    eqns_follow see ds k class (more_eqns e es) tied h = (
      eqn_follows see ds k (λ p. class (Head ∷ p)) e (λ p v n. tied (Head ∷ p) v n) (fore (of_eqn see ds k e) (of_eqns see ds (k + size_of e) es) h),
      eqns_follow see ds (k + size_of e) (λ p. class (Tail ∷ p)) es (λ p v n. tied (Tail ∷ p) v n) (rear (of_eqn see ds k e) (of_eqns see ds (k + size_of e) es) h),
    )

    pub eqn_follows : (see : Seen) (ds : List Decl) (k : ℕ) (class : Assignment) (e : Eqn) → Tied (number_eqn k e) class → ObeysAll q (of_eqn see ds k e) → EqnFollows (known_as see) class e
    eqn_follows see ds k class (define at ys e) tied h = lefts_from see.variables ys (is_second (seen_as see.values) e) (expr_follows see.values at (goes_to see ds ys) e h)
    eqn_follows see ds k class (switch at e arms) tied h =
        let inner = seen_within (switch at e arms) see in
        subst (λ known. ArmsFollow known (λ p. class (ArmsOf ∷ p)) arms) (sym (within_law (switch at e arms) see))
        (arms_follow inner k (λ p. class (ArmsOf ∷ p)) arms (λ p v n. tied (ArmsOf ∷ p) v n) (rear (of_test see.values e) (of_arms inner k arms) h))
    eqn_follows see ds k class (reset at b e) tied h =
        let inner = seen_within (reset at b e) see in
        subst (λ known. BlockFollows known (λ p. class (Body ∷ p)) b) (sym (within_law (reset at b e) see))
        (block_follows inner k (λ p. class (Body ∷ p)) b (λ p v n. tied (Body ∷ p) v n) (fore (of_block inner k b) (of_test see.values e) h))
    eqn_follows see ds k class (automaton at ss) tied h =
        let inner = seen_within (automaton at ss) see in
        subst (λ known. StatesFollow known (λ p. class (StatesOf ∷ p)) ss) (sym (within_law (automaton at ss) see))
        (states_follow see inner k (λ p. class (StatesOf ∷ p)) ss (λ p v n. tied (StatesOf ∷ p) v n) h)

    pub arms_follow : (see : Seen) (k : ℕ) (class : Assignment) (arms : Arms) → Tied (number_arms k arms) class → ObeysAll q (of_arms see k arms) → ArmsFollow (known_as see) class arms
    arms_follow see k class no_arm tied h = tt
    arms_follow see k class (more_arms c b at arms) tied h = (
      block_follows see k (λ p. class (Head ∷ p)) b (λ p v n. tied (Head ∷ p) v n) (fore (of_block see k b) (of_arms see (k + size b) arms) h),
      arms_follow see (k + size b) (λ p. class (Tail ∷ p)) arms (λ p v n. tied (Tail ∷ p) v n) (rear (of_block see k b) (of_arms see (k + size b) arms) h),
    )

    pub states_follow : (out see : Seen) (k : ℕ) (class : Assignment) (ss : States) → Tied (number_states k ss) class → ObeysAll q (of_states out see k ss) → StatesFollow (known_as see) class ss
    states_follow out see k class no_state tied h = tt
    states_follow out see k class (more_states f b until unless at ss) tied h =
        let inner = seen_in k b see in
        let others = of_tests out.values unless ++ of_states out see (k + size b) ss in
        let behind = rear (of_block see k b) (of_tests inner.values until ++ others) h in (
          block_follows see k (λ p. class (Head ∷ Body ∷ p)) b (λ p v n. tied (Head ∷ Body ∷ p) v n) (fore (of_block see k b) (of_tests inner.values until ++ others) h),
          states_follow out see (k + size b) (λ p. class (Tail ∷ p)) ss (λ p v n. tied (Tail ∷ p) v n) (rear (of_tests out.values unless) (of_states out see (k + size b) ss) (rear (of_tests inner.values until) others behind)),
        )
