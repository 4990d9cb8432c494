-- The first want that is not met, by numbers and by places.
use Rattle.std.proofs.Common.{◌≡◌, ℕ, ◌+◌, Bool, true, false, ◌||◌, ◌&&◌, not, if◌then◌else◌, List, [], ◌∷◌, ◌++◌, length, map, Option, None, Some, refl, sym, ap, ◌∙◌}
use Rattle.hp_base.specs.declared.span.Span.{Span}
use Rattle.hp_tree.specs.declared.decl.Cons.{Cons}
use Rattle.hp_tree.specs.declared.block.Trans.{Trans}
use Rattle.hp_tree.specs.Expressions.{Expr, constant, variable, last_of, one, two, choose, pre, fby, arrow, when_is, merge, call, Exprs, no_expr, more_exprs, Parts, no_part, more_parts}
use Rattle.hp_tree.specs.Blocks.{Decl, Block, block, Eqns, no_eqn, more_eqns, Eqn, define, switch, reset, automaton, Arms, no_arm, more_arms, States, no_state, more_states}
use Rattle.hp_tree.specs.Instant.{Body, Equations, Head, Tail, Arms as ArmsOf, States as StatesOf}
use Rattle.hp_meaning.specs.Causal.Points.{span_of}
use Rattle.hp_init.specs.declared.ask.Source.{Source}
use Rattle.hp_init.specs.declared.ask.Source.TheVariants.{Always, Class}
use Rattle.hp_init.specs.declared.ask.Ask.{Ask}
use Rattle.hp_init.specs.declared.ask.Ask.TheVariants.{Follows, First}
use Rattle.hp_init.specs.Classes.{Classes, Assignment, Known, is_second}
use Rattle.hp_init.specs.Wants.{is_met, are_first, parts_first, is_first, path_first, some_must, Wish}
use Rattle.hp_init.specs.Wants as wants
use Rattle.hp_init.specs.Initialised.{first_unmet}
use Rattle.hp_init.specs.Names.{size, size_of, number_block, number_eqns, number_eqn, number_arms, number_states}
use Rattle.hp_init.specs.Asks.{Sight, Seen, Goes, to_want, to_nothing, seen_in, seen_within, tell, tell_name, of_expr, of_exprs, of_parts, of_path, of_clock, of_decls, targets_of, of_test, of_tests, of_told, of_block, of_eqns, of_eqn, of_arms, of_states, Valued, value_of, unmet}
use Rattle.hp_init.proofs.FlowLaws.{class_of, seen_as, known_as, Tied, known_law, within_law}

-- ---- Booleans
swap : (a x y : Bool) → (a && x) && y ≡ (a && y) && x
swap false x y = refl
swap true true true = refl
swap true true false = refl
swap true false true = refl
swap true false false = refl

and_true : (a : Bool) → a && true ≡ a
and_true true = refl
and_true false = refl

and_comm : (a b : Bool) → a && b ≡ b && a
and_comm true b = sym (and_true b)
and_comm false true = refl
and_comm false false = refl

not_never : (w : Bool) → not (w && false) ≡ true
not_never true = refl
not_never false = refl

-- two operands
pair : (a s b t w : Bool) → (a && not (w && s)) && (b && not (w && t)) ≡ (a && b) && not (w && (s || t))
pair false s b t w = refl
pair true s b t false = refl
pair true false b t true = refl
pair true true true t true = refl
pair true true false t true = refl

-- ---- the first place
abbrev pub or_else : Option Span → Option Span → Option Span
or_else None o = o
or_else (Some s) o = Some s

-- the place, unless something holds
abbrev pub unless_met : Span → Bool → Option Span
unless_met at met = if met then None else Some at

both_met : (at : Span) (a b : Bool) → or_else (unless_met at a) (unless_met at b) ≡ unless_met at (a && b)
both_met at true b = refl
both_met at false b = refl

pub wishes-append : (xs ys : List Wish) → first_unmet (xs ++ ys) ≡ or_else (first_unmet xs) (first_unmet ys)
wishes-append [] ys = refl
wishes-append (x ∷ xs) ys = by x.met (wishes-append xs ys)
  where
    by : (d : Bool) → first_unmet (xs ++ ys) ≡ or_else (first_unmet xs) (first_unmet ys)
        → (if d then first_unmet (xs ++ ys) else Some x.at) ≡ or_else (if d then first_unmet xs else Some x.at) (first_unmet ys)
    by true h = h
    by false h = refl

module _ (q : Valued) where
  pub unmet-append : (xs ys : List Ask) → unmet q (xs ++ ys) ≡ or_else (unmet q xs) (unmet q ys)
  unmet-append [] ys = refl
  unmet-append (Follows s k ∷ xs) ys = unmet-append xs ys
  unmet-append (First s at ∷ xs) ys = by (value_of q s) (unmet-append xs ys)
    where
      by : (d : Bool) → unmet q (xs ++ ys) ≡ or_else (unmet q xs) (unmet q ys) → (if d then Some at else unmet q (xs ++ ys)) ≡ or_else (if d then Some at else unmet q xs) (unmet q ys)
      by true h = refl
      by false h = h

  no_wants : (s : Source) (ts : List ℕ) → unmet q (map (Follows s) ts) ≡ None
  no_wants s [] = refl
  no_wants s (t ∷ ts) = no_wants s ts

  told_by : (w : Bool) (at : Span) (s : Source) (ts : List ℕ) → unmet q ((if w then First s at ∷ [] else []) ++ map (Follows s) ts) ≡ unless_met at (not (w && value_of q s))
  told_by false at s ts = no_wants s ts
  told_by true at s ts = by (value_of q s)
    where
      by : (d : Bool) → (if d then Some at else unmet q (map (Follows s) ts)) ≡ unless_met at (not d)
      by true = refl
      by false = no_wants s ts

  name_by : (at : Span) (g : Goes) (o : Option ℕ) → unmet q (elim o [ None ↦ [] | Some k ↦ tell at g (Class k) ]) ≡ unless_met at (not (g.wanted && class_of q o))
  name_by at g None = sym (ap (unless_met at) (not_never g.wanted))
  name_by at g (Some k) = told_by g.wanted at (Class k) g.targets

  -- two lists, by what each has
  split : (at : Span) (xs ys : List Ask) (a b c : Bool) → unmet q xs ≡ unless_met at a → unmet q ys ≡ unless_met at b → a && b ≡ c → unmet q (xs ++ ys) ≡ unless_met at c
  split at xs ys a b c h g e = unmet-append xs ys ∙ ap (λ o. or_else o (unmet q ys)) h ∙ ap (or_else (unless_met at a)) g ∙ both_met at a b ∙ ap (unless_met at) e

  module _ (see : Sight) (at : Span) where
    abbrev f : Classes
    f = seen_as q see

    -- whether an expression has what it wants, and is First where it is wanted so
    abbrev fine : Goes → Expr → Bool
    fine g e = is_met f e && not (g.wanted && is_second f e)

    mutual
      pub expr_unmet : (g : Goes) (e : Expr) → unmet q (of_expr see at g e) ≡ unless_met at (fine g e)
      expr_unmet g (constant s c) = sym (ap (unless_met at) (not_never g.wanted))
      expr_unmet g (variable s x) = name_by at g (see x)
      expr_unmet g (last_of s x) = sym (ap (unless_met at) (not_never g.wanted))
      expr_unmet g (one s o a) = expr_unmet g a
      expr_unmet g (two s o a b) =
          split at (of_expr see at g a) (of_expr see at g b) (fine g a) (fine g b) (fine g (two s o a b)) (expr_unmet g a) (expr_unmet g b)
          (pair (is_met f a) (is_second f a) (is_met f b) (is_second f b) g.wanted)
      expr_unmet g (choose s a b c) =
          split at (of_expr see at g a) (of_expr see at g b ++ of_expr see at g c) (fine g a) ((is_met f b && is_met f c) && not (g.wanted && (is_second f b || is_second f c))) (fine g (choose s a b c)) (expr_unmet g a)
          (split at (of_expr see at g b) (of_expr see at g c) (fine g b) (fine g c) ((is_met f b && is_met f c) && not (g.wanted && (is_second f b || is_second f c))) (expr_unmet g b) (expr_unmet g c)
          (pair (is_met f b) (is_second f b) (is_met f c) (is_second f c) g.wanted))
          (pair (is_met f a) (is_second f a) (is_met f b && is_met f c) (is_second f b || is_second f c) g.wanted)
      expr_unmet g (pre s a) =
          split at (tell at g Always) (of_expr see at to_want a) (not (g.wanted && true)) (fine to_want a) (fine g (pre s a)) (told_by g.wanted at Always g.targets) (expr_unmet to_want a)
          (and_comm (not (g.wanted && true)) (fine to_want a))
      expr_unmet g (fby s a b) =
          split at (of_expr see at g a) (of_expr see at to_want b) (fine g a) (fine to_want b) (fine g (fby s a b)) (expr_unmet g a) (expr_unmet to_want b)
          (swap (is_met f a) (not (g.wanted && is_second f a)) (fine to_want b))
      expr_unmet g (arrow s a b) =
          split at (of_expr see at g a) (of_expr see at to_nothing b) (fine g a) (fine to_nothing b) (fine g (arrow s a b)) (expr_unmet g a) (expr_unmet to_nothing b)
          (swap (is_met f a) (not (g.wanted && is_second f a)) (fine to_nothing b) ∙ ap (λ b. (is_met f a && b) && not (g.wanted && is_second f a)) (and_true (is_met f b)))
      expr_unmet g (when_is s a c x) =
          split at (of_expr see at g a) (tell_name see at to_want x) (fine g a) (not (f x)) (fine g (when_is s a c x)) (expr_unmet g a) (name_by at to_want (see x))
          (swap (is_met f a) (not (g.wanted && is_second f a)) (not (f x)))
      expr_unmet g (merge s x ps) =
          split at (tell_name see at to_want x) (of_parts see at ps) (not (f x)) (parts_first f ps) (fine g (merge s x ps)) (name_by at to_want (see x)) (parts_unmet ps)
          (sym (ap (λ w. (not (f x) && parts_first f ps) && w) (not_never g.wanted) ∙ and_true (not (f x) && parts_first f ps)))
      expr_unmet g (call s h i es) = exprs_unmet es ∙ ap (unless_met at) (sym (ap (λ w. are_first f es && w) (not_never g.wanted) ∙ and_true (are_first f es)))

      pub exprs_unmet : (es : Exprs) → unmet q (of_exprs see at es) ≡ unless_met at (are_first f es)
      exprs_unmet no_expr = refl
      exprs_unmet (more_exprs e es) = split at (of_expr see at to_want e) (of_exprs see at es) (fine to_want e) (are_first f es) (are_first f (more_exprs e es)) (expr_unmet to_want e) (exprs_unmet es) refl

      pub parts_unmet : (ps : Parts) → unmet q (of_parts see at ps) ≡ unless_met at (parts_first f ps)
      parts_unmet no_part = refl
      parts_unmet (more_parts c e ps) = split at (of_expr see at to_want e) (of_parts see at ps) (fine to_want e) (parts_first f ps) (parts_first f (more_parts c e ps)) (expr_unmet to_want e) (parts_unmet ps) refl

    path_unmet : (path : List (Cons × List ℕ)) → unmet q (of_path see at path) ≡ unless_met at (path_first f path)
    path_unmet [] = refl
    path_unmet (on ∷ path) = split at (tell_name see at to_want on.1) (of_path see at path) (not (f on.1)) (path_first f path) (path_first f (on ∷ path)) (name_by at to_want (see on.1)) (path_unmet path) refl

  -- a list of what is asked, and a list of units
  pub joined : (xs ys : List Ask) (us ws : List Wish) → unmet q xs ≡ first_unmet us → unmet q ys ≡ first_unmet ws → unmet q (xs ++ ys) ≡ first_unmet (us ++ ws)
  joined xs ys us ws h g = unmet-append xs ys ∙ ap (λ o. or_else o (unmet q ys)) h ∙ ap (or_else (first_unmet us)) g ∙ sym (wishes-append us ws)

  module _ (see : Sight) where
    clock_unmet : (at : Span) (clock : Option (List (Cons × List ℕ))) → unmet q (of_clock see at clock) ≡ first_unmet (wants.of_clock (seen_as q see) at clock)
    clock_unmet at None = refl
    clock_unmet at (Some path) = path_unmet see at path

    decls_unmet : (ds : List Decl) → unmet q (of_decls see ds) ≡ first_unmet (wants.of_decls (seen_as q see) ds)
    decls_unmet [] = refl
    decls_unmet (d ∷ ds) = joined (of_clock see d.span d.clock) (of_decls see ds) (wants.of_clock (seen_as q see) d.span d.clock) (wants.of_decls (seen_as q see) ds) (clock_unmet d.span d.clock) (decls_unmet ds)

    pub test_unmet : (e : Expr) → unmet q (of_test see e) ≡ first_unmet (wants.of_test (seen_as q see) e)
    test_unmet e = expr_unmet see (span_of e) to_want e

    tests_unmet : (ts : List Trans) → unmet q (of_tests see ts) ≡ first_unmet (wants.of_tests (seen_as q see) ts)
    tests_unmet [] = refl
    tests_unmet (t ∷ ts) = joined (of_test see t.cond) (of_tests see ts) (wants.of_test (seen_as q see) t.cond) (wants.of_tests (seen_as q see) ts) (test_unmet t.cond) (tests_unmet ts)

    pub told_unmet : (e : Option Expr) → unmet q (of_told see e) ≡ first_unmet (wants.of_told (seen_as q see) e)
    told_unmet None = refl
    told_unmet (Some e) = test_unmet e

  mutual
    pub block_unmet : (see : Seen) (k : ℕ) (class : Assignment) (b : Block) → Tied q (number_block k b) class → unmet q (of_block see k b) ≡ first_unmet (wants.of_block (known_as q see) class b)
    block_unmet see k class (block ds es) tied =
        let inner = seen_in k (block ds es) see in
        joined (of_decls inner.values ds) (of_eqns inner ds (k + length ds) es) (wants.of_decls (seen_as q inner.values) ds) (wants.of_eqns (known_as q inner) ds (λ p. class (Equations ∷ p)) es)
        (decls_unmet inner.values ds) (eqns_unmet inner ds (k + length ds) (λ p. class (Equations ∷ p)) es (λ p v n. tied (Equations ∷ p) v n))
        ∙ ap (λ (known : Known). first_unmet (wants.of_decls known.values ds ++ wants.of_eqns known ds (λ p. class (Equations ∷ p)) es)) (sym (known_law q k (block ds es) see class tied))

    pub eqns_unmet : (see : Seen) (ds : List Decl) (k : ℕ) (class : Assignment) (es : Eqns) → Tied q (number_eqns k es) class
        → unmet q (of_eqns see ds k es) ≡ first_unmet (wants.of_eqns (known_as q see) ds class es)
    eqns_unmet see ds k class no_eqn tied = refl
    eqns_unmet see ds k class (more_eqns e es) tied =
        joined (of_eqn see ds k e) (of_eqns see ds (k + size_of e) es) (wants.of_eqn (known_as q see) ds (λ p. class (Head ∷ p)) e) (wants.of_eqns (known_as q see) ds (λ p. class (Tail ∷ p)) es)
        (eqn_unmet see ds k (λ p. class (Head ∷ p)) e (λ p v n. tied (Head ∷ p) v n)) (eqns_unmet see ds (k + size_of e) (λ p. class (Tail ∷ p)) es (λ p v n. tied (Tail ∷ p) v n))

    pub eqn_unmet : (see : Seen) (ds : List Decl) (k : ℕ) (class : Assignment) (e : Eqn) → Tied q (number_eqn k e) class
        → unmet q (of_eqn see ds k e) ≡ first_unmet (wants.of_eqn (known_as q see) ds class e)
    eqn_unmet see ds k class (define at ys e) tied = expr_unmet see.values at (record { wanted = some_must ds ys; targets = targets_of see.variables ys }) e
    eqn_unmet see ds k class (switch at e arms) tied =
        let inner = seen_within (switch at e arms) see in
        joined (of_test see.values e) (of_arms inner k arms) (wants.of_test (seen_as q see.values) e) (wants.of_arms (known_as q inner) (λ p. class (ArmsOf ∷ p)) arms)
        (test_unmet see.values e) (arms_unmet inner k (λ p. class (ArmsOf ∷ p)) arms (λ p v n. tied (ArmsOf ∷ p) v n))
        ∙ ap (λ (known : Known). first_unmet (wants.of_test (seen_as q see.values) e ++ wants.of_arms known (λ p. class (ArmsOf ∷ p)) arms)) (sym (within_law q (switch at e arms) see))
    eqn_unmet see ds k class (reset at b e) tied =
        let inner = seen_within (reset at b e) see in
        joined (of_block inner k b) (of_test see.values e) (wants.of_block (known_as q inner) (λ p. class (Body ∷ p)) b) (wants.of_test (seen_as q see.values) e)
        (block_unmet inner k (λ p. class (Body ∷ p)) b (λ p v n. tied (Body ∷ p) v n)) (test_unmet see.values e)
        ∙ ap (λ (known : Known). first_unmet (wants.of_block known (λ p. class (Body ∷ p)) b ++ wants.of_test (seen_as q see.values) e)) (sym (within_law q (reset at b e) see))
    eqn_unmet see ds k class (automaton at ss) tied =
        let inner = seen_within (automaton at ss) see in
        states_unmet see inner k (λ p. class (StatesOf ∷ p)) ss (λ p v n. tied (StatesOf ∷ p) v n)
        ∙ ap (λ (known : Known). first_unmet (wants.of_states (known_as q see) known (λ p. class (StatesOf ∷ p)) ss)) (sym (within_law q (automaton at ss) see))

    pub arms_unmet : (see : Seen) (k : ℕ) (class : Assignment) (arms : Arms) → Tied q (number_arms k arms) class → unmet q (of_arms see k arms) ≡ first_unmet (wants.of_arms (known_as q see) class arms)
    arms_unmet see k class no_arm tied = refl
    arms_unmet see k class (more_arms c b at arms) tied =
        joined (of_block see k b) (of_arms see (k + size b) arms) (wants.of_block (known_as q see) (λ p. class (Head ∷ p)) b) (wants.of_arms (known_as q see) (λ p. class (Tail ∷ p)) arms)
        (block_unmet see k (λ p. class (Head ∷ p)) b (λ p v n. tied (Head ∷ p) v n)) (arms_unmet see (k + size b) (λ p. class (Tail ∷ p)) arms (λ p v n. tied (Tail ∷ p) v n))

    pub states_unmet : (out see : Seen) (k : ℕ) (class : Assignment) (ss : States) → Tied q (number_states k ss) class
        → unmet q (of_states out see k ss) ≡ first_unmet (wants.of_states (known_as q out) (known_as q see) class ss)
    states_unmet out see k class no_state tied = refl
    states_unmet out see k class (more_states f b until unless at ss) tied =
        let inner = seen_in k b see in
        let others = of_tests out.values unless ++ of_states out see (k + size b) ss in
        let more = wants.of_tests (seen_as q out.values) unless ++ wants.of_states (known_as q out) (known_as q see) (λ p. class (Tail ∷ p)) ss in
        joined (of_block see k b) (of_tests inner.values until ++ others) (wants.of_block (known_as q see) (λ p. class (Head ∷ Body ∷ p)) b) (wants.of_tests (seen_as q inner.values) until ++ more)
        (block_unmet see k (λ p. class (Head ∷ Body ∷ p)) b (λ p v n. tied (Head ∷ Body ∷ p) v n))
        (joined (of_tests inner.values until) others (wants.of_tests (seen_as q inner.values) until) more (tests_unmet inner.values until)
        (joined (of_tests out.values unless) (of_states out see (k + size b) ss) (wants.of_tests (seen_as q out.values) unless) (wants.of_states (known_as q out) (known_as q see) (λ p. class (Tail ∷ p)) ss)
        (tests_unmet out.values unless) (states_unmet out see (k + size b) (λ p. class (Tail ∷ p)) ss (λ p v n. tied (Tail ∷ p) v n))))
        ∙ ap (λ (known : Known). first_unmet (wants.of_block (known_as q see) (λ p. class (Head ∷ Body ∷ p)) b ++ (wants.of_tests known.values until ++ more)))
        (sym (known_law q k b see (λ p. class (Head ∷ Body ∷ p)) (λ p v n. tied (Head ∷ Body ∷ p) v n)))
