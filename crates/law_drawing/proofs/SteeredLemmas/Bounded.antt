-- What places read is made of what names and other places stand for: where none of these leads further, nothing that is read does.
use Rattle.std.proofs.Common.{ℕ, Bool, true, false, if◌then◌else◌, List, [], ◌∷◌, Option, None, Some, inl, inr}
use Rattle.hp_tree.specs.declared.block.Trans.{Trans}
use Rattle.hp_tree.specs.Blocks.{Decl, Block, block, Eqns, no_eqn, more_eqns, Eqn, define, switch, reset, automaton, Arms, no_arm, more_arms, States, no_state, more_states}
use Rattle.hp_tree.specs.Expressions.{Expr, constant, variable, last_of, one, two, choose, pre, fby, arrow, when_is, merge, call, Exprs, no_expr, more_exprs, Parts, no_part, more_parts}
use Rattle.hp_tree.specs.Instant.{Body, Named, Equations, Head, Tail, Right, Test, Arms as ArmsOf, States as StatesOf, Until, Unless, Active, Next, Pending, First, Second, Third, Args, Instance, Clock, without, Place as TreePlace}
use Rattle.hp_tree.specs.Meaning.{defines, some_defines, block_defines, clock_of}
use Rattle.hp_meaning.specs.Causal.Sources.{Sources, none, both, also, NameSources, PlaceSources, below, nowhere, at_one, at_two, at_three, at_row, at_merge, at_call, at_block, at_right, at_arms, at_body, at_state, at_words}
use Rattle.hp_meaning.specs.Causal.WhatIsRead.{of_clock, of_expr, of_exprs, of_parts, names_in, names_within, names_in_block, in_arms, in_states, of_conditions, strong_ones, weak_ones, at_expr, at_exprs, at_parts, at_conditions, of_definition, of_definitions, in_block, in_equations, in_equation, in_each_arm, in_each_state, at_told}
use Rattle.law_drawing.specs.Steered.Marks.{Steering, Leads}

module _ (steers : Steering) (X : Type 0) where
  abbrev pub Goes : Sources → Type 0
  Goes s = Leads steers s → X

  abbrev pub AllGo : PlaceSources → Type 0
  AllGo k = (p : TreePlace) → Goes (k p)

  abbrev pub NamesGo : NameSources → Type 0
  NamesGo names = (x : List ℕ) → Goes (names x)

  two-go : (s t : Sources) → Goes s → Goes t → Goes (both s t)
  two-go s t f g (inl h) = f h
  two-go s t f g (inr h) = g h

  -- what is depended on besides is not read
  besides : (s t : Sources) → Goes t → Goes (both (also s) t)
  besides s t f (inl h) = absurd h
  besides s t f (inr h) = f h

  chosen : (d : Bool) (s t : Sources) → Goes s → Goes t → Goes (if d then s else t)
  chosen true s t f g = f
  chosen false s t f g = g

  -- ---- places, by those of their parts

  one-goes : (s : Sources) (k : PlaceSources) → Goes s → AllGo k → AllGo (at_one s k)
  one-goes s k a f [] = a
  one-goes s k a f (First ∷ p) = f p
  one-goes s k a f p = λ h. absurd h

  two-goes : (s : Sources) (k l : PlaceSources) → Goes s → AllGo k → AllGo l → AllGo (at_two s k l)
  two-goes s k l a f g [] = a
  two-goes s k l a f g (First ∷ p) = f p
  two-goes s k l a f g (Second ∷ p) = g p
  two-goes s k l a f g p = λ h. absurd h

  three-goes : (s : Sources) (k l m : PlaceSources) → Goes s → AllGo k → AllGo l → AllGo m → AllGo (at_three s k l m)
  three-goes s k l m a f g h [] = a
  three-goes s k l m a f g h (First ∷ p) = f p
  three-goes s k l m a f g h (Second ∷ p) = g p
  three-goes s k l m a f g h (Third ∷ p) = h p
  three-goes s k l m a f g h p = λ i. absurd i

  row-goes : (k l : PlaceSources) → AllGo k → AllGo l → AllGo (at_row k l)
  row-goes k l f g (Head ∷ p) = f p
  row-goes k l f g (Tail ∷ p) = g p
  row-goes k l f g p = λ h. absurd h

  merge-goes : (s : Sources) (k : PlaceSources) → Goes s → AllGo k → AllGo (at_merge s k)
  merge-goes s k a f [] = a
  merge-goes s k a f (Args ∷ p) = f p
  merge-goes s k a f p = λ h. absurd h

  call-goes : (s t : Sources) (k : PlaceSources) → Goes s → Goes t → AllGo k → AllGo (at_call s t k)
  call-goes s t k a b f [] = a
  call-goes s t k a b f (Args ∷ p) = f p
  call-goes s t k a b f (Instance ∷ p) = b
  call-goes s t k a b f p = λ h. absurd h

  block-goes : (names : NameSources) (k : PlaceSources) → NamesGo names → AllGo k → AllGo (at_block names k)
  block-goes names k h f (Named x ∷ []) = h x
  block-goes names k h f (Equations ∷ p) = f p
  block-goes names k h f p = λ i. absurd i

  right-goes : (k : PlaceSources) → AllGo k → AllGo (at_right k)
  right-goes k f (Right ∷ p) = f p
  right-goes k f p = λ h. absurd h

  arms-go : (k : PlaceSources) (s : Sources) (l : PlaceSources) → AllGo k → Goes s → AllGo l → AllGo (at_arms k s l)
  arms-go k s l f a g (Test ∷ p) = f p
  arms-go k s l f a g (ArmsOf ∷ p) = two-go s (l p) a (g p)
  arms-go k s l f a g p = λ h. absurd h

  body-goes : (k : PlaceSources) (s : Sources) (l : PlaceSources) → AllGo k → Goes s → AllGo l → AllGo (at_body k s l)
  body-goes k s l f a g (Test ∷ p) = f p
  body-goes k s l f a g (Body ∷ p) = two-go s (l p) a (g p)
  body-goes k s l f a g p = λ h. absurd h

  state-goes : (s : Sources) (k l m : PlaceSources) → Goes s → AllGo k → AllGo l → AllGo m → AllGo (at_state s k l m)
  state-goes s k l m a f g h (Body ∷ p) = two-go s (k p) a (f p)
  state-goes s k l m a f g h (Until ∷ p) = two-go s (l p) a (g p)
  state-goes s k l m a f g h (Unless ∷ p) = h p
  state-goes s k l m a f g h p = λ i. absurd i

  words-go : (s t : Sources) (k : PlaceSources) → Goes s → Goes t → AllGo k → AllGo (at_words s t k)
  words-go s t k a b f (Active ∷ []) = a
  words-go s t k a b f (Next ∷ []) = b
  words-go s t k a b f (Pending ∷ []) = b
  words-go s t k a b f (StatesOf ∷ p) = f p
  words-go s t k a b f p = λ h. absurd h

  -- ---- expressions

  mutual
    expr-read : (e : Expr) (names : NameSources) (k : PlaceSources) → NamesGo names → AllGo k → Goes (of_expr e names k)
    expr-read (constant s c) names k h f = λ i. absurd i
    expr-read (variable s x) names k h f = h x
    expr-read (last_of s x) names k h f = λ i. absurd i
    expr-read (one s o a) names k h f = expr-read a names (below First k) h (λ p. f (First ∷ p))
    expr-read (two s o a b) names k h f = two-go (of_expr a names (below First k)) (of_expr b names (below Second k)) (expr-read a names (below First k) h (λ p. f (First ∷ p))) (expr-read b names (below Second k) h (λ p. f (Second ∷ p)))
    expr-read (choose s a b c) names k h f =
        two-go (of_expr a names (below First k)) (both (of_expr b names (below Second k)) (of_expr c names (below Third k))) (expr-read a names (below First k) h (λ p. f (First ∷ p)))
        (two-go (of_expr b names (below Second k)) (of_expr c names (below Third k)) (expr-read b names (below Second k) h (λ p. f (Second ∷ p))) (expr-read c names (below Third k) h (λ p. f (Third ∷ p))))
    expr-read (pre s a) names k h f = λ i. absurd i
    expr-read (fby s a b) names k h f = expr-read a names (below First k) h (λ p. f (First ∷ p))
    expr-read (arrow s a b) names k h f = two-go (of_expr a names (below First k)) (of_expr b names (below Second k)) (expr-read a names (below First k) h (λ p. f (First ∷ p))) (expr-read b names (below Second k) h (λ p. f (Second ∷ p)))
    expr-read (when_is s a c x) names k h f = two-go (names x) (of_expr a names (below First k)) (h x) (expr-read a names (below First k) h (λ p. f (First ∷ p)))
    expr-read (merge s x ps) names k h f = two-go (names x) (of_parts ps names (below Args k)) (h x) (parts-read ps names (below Args k) h (λ p. f (Args ∷ p)))
    expr-read (call s g inlined es) names k h f = f []

    exprs-read : (es : Exprs) (names : NameSources) (k : PlaceSources) → NamesGo names → AllGo k → Goes (of_exprs es names k)
    exprs-read no_expr names k h f = λ i. absurd i
    exprs-read (more_exprs e es) names k h f = two-go (of_expr e names (below Head k)) (of_exprs es names (below Tail k)) (expr-read e names (below Head k) h (λ p. f (Head ∷ p))) (exprs-read es names (below Tail k) h (λ p. f (Tail ∷ p)))

    parts-read : (ps : Parts) (names : NameSources) (k : PlaceSources) → NamesGo names → AllGo k → Goes (of_parts ps names k)
    parts-read no_part names k h f = λ i. absurd i
    parts-read (more_parts c e ps) names k h f = two-go (of_expr e names (below Head k)) (of_parts ps names (below Tail k)) (expr-read e names (below Head k) h (λ p. f (Head ∷ p))) (parts-read ps names (below Tail k) h (λ p. f (Tail ∷ p)))

  mutual
    pub expr-places : (e : Expr) (clock : Clock) (names : NameSources) (k : PlaceSources) → NamesGo names → AllGo k → AllGo (at_expr e clock names k)
    expr-places (constant s c) clock names k h f = one-goes (also (of_clock clock names)) nowhere (λ i. absurd i) (λ p i. absurd i)
    expr-places (variable s x) clock names k h f = one-goes (both (also (of_clock clock names)) (names x)) nowhere (besides (of_clock clock names) (names x) (h x)) (λ p i. absurd i)
    expr-places (last_of s x) clock names k h f = λ p i. absurd i
    expr-places (one s o a) clock names k h f =
        one-goes (both (also (of_clock clock names)) (of_expr (one s o a) names k)) (at_expr a clock names (below First k)) (besides (of_clock clock names) (of_expr (one s o a) names k) (expr-read (one s o a) names k h f))
        (expr-places a clock names (below First k) h (λ p. f (First ∷ p)))
    expr-places (two s o a b) clock names k h f =
        two-goes (both (also (of_clock clock names)) (of_expr (two s o a b) names k)) (at_expr a clock names (below First k)) (at_expr b clock names (below Second k))
        (besides (of_clock clock names) (of_expr (two s o a b) names k) (expr-read (two s o a b) names k h f)) (expr-places a clock names (below First k) h (λ p. f (First ∷ p))) (expr-places b clock names (below Second k) h (λ p. f (Second ∷ p)))
    expr-places (choose s a b c) clock names k h f =
        three-goes (both (also (of_clock clock names)) (of_expr (choose s a b c) names k)) (at_expr a clock names (below First k)) (at_expr b clock names (below Second k)) (at_expr c clock names (below Third k))
        (besides (of_clock clock names) (of_expr (choose s a b c) names k) (expr-read (choose s a b c) names k h f)) (expr-places a clock names (below First k) h (λ p. f (First ∷ p))) (expr-places b clock names (below Second k) h (λ p. f (Second ∷ p)))
        (expr-places c clock names (below Third k) h (λ p. f (Third ∷ p)))
    expr-places (pre s a) clock names k h f = one-goes (also (of_clock clock names)) (at_expr a clock names (below First k)) (λ i. absurd i) (expr-places a clock names (below First k) h (λ p. f (First ∷ p)))
    expr-places (fby s a b) clock names k h f =
        two-goes (both (also (of_clock clock names)) (of_expr (fby s a b) names k)) (at_expr a clock names (below First k)) (at_expr b clock names (below Second k))
        (besides (of_clock clock names) (of_expr (fby s a b) names k) (expr-read (fby s a b) names k h f)) (expr-places a clock names (below First k) h (λ p. f (First ∷ p))) (expr-places b clock names (below Second k) h (λ p. f (Second ∷ p)))
    expr-places (arrow s a b) clock names k h f =
        two-goes (both (also (of_clock clock names)) (of_expr (arrow s a b) names k)) (at_expr a clock names (below First k)) (at_expr b clock names (below Second k))
        (besides (of_clock clock names) (of_expr (arrow s a b) names k) (expr-read (arrow s a b) names k h f)) (expr-places a clock names (below First k) h (λ p. f (First ∷ p))) (expr-places b clock names (below Second k) h (λ p. f (Second ∷ p)))
    expr-places (when_is s a c x) clock names k h f =
        one-goes (both (also (of_clock clock names)) (of_expr (when_is s a c x) names k)) (at_expr a (without clock) names (below First k)) (besides (of_clock clock names) (of_expr (when_is s a c x) names k) (expr-read (when_is s a c x) names k h f))
        (expr-places a (without clock) names (below First k) h (λ p. f (First ∷ p)))
    expr-places (merge s x ps) clock names k h f =
        merge-goes (both (also (of_clock clock names)) (of_expr (merge s x ps) names k)) (at_parts ps x clock names (below Args k)) (besides (of_clock clock names) (of_expr (merge s x ps) names k) (expr-read (merge s x ps) names k h f))
        (parts-places ps x clock names (below Args k) h (λ p. f (Args ∷ p)))
    expr-places (call s g inlined es) clock names k h f =
        call-goes (both (also (of_clock clock names)) (of_exprs es names (below Args k))) (both (also (of_clock clock names)) (k [])) (at_exprs es clock names (below Args k))
        (besides (of_clock clock names) (of_exprs es names (below Args k)) (exprs-read es names (below Args k) h (λ p. f (Args ∷ p)))) (besides (of_clock clock names) (k []) (f [])) (exprs-places es clock names (below Args k) h (λ p. f (Args ∷ p)))

    exprs-places : (es : Exprs) (clock : Clock) (names : NameSources) (k : PlaceSources) → NamesGo names → AllGo k → AllGo (at_exprs es clock names k)
    exprs-places no_expr clock names k h f = λ p i. absurd i
    exprs-places (more_exprs e es) clock names k h f =
        row-goes (at_expr e clock names (below Head k)) (at_exprs es clock names (below Tail k)) (expr-places e clock names (below Head k) h (λ p. f (Head ∷ p))) (exprs-places es clock names (below Tail k) h (λ p. f (Tail ∷ p)))

    parts-places : (ps : Parts) (x : List ℕ) (clock : Clock) (names : NameSources) (k : PlaceSources) → NamesGo names → AllGo k → AllGo (at_parts ps x clock names k)
    parts-places no_part x clock names k h f = λ p i. absurd i
    parts-places (more_parts c e ps) x clock names k h f =
        row-goes (at_expr e ((c, x) ∷ clock) names (below Head k)) (at_parts ps x clock names (below Tail k)) (expr-places e ((c, x) ∷ clock) names (below Head k) h (λ p. f (Head ∷ p))) (parts-places ps x clock names (below Tail k) h (λ p. f (Tail ∷ p)))

  conditions-places : (qs : List Trans) (names : NameSources) (k : PlaceSources) → NamesGo names → AllGo k → AllGo (at_conditions qs names k)
  conditions-places [] names k h f = λ p i. absurd i
  conditions-places (q ∷ qs) names k h f =
      row-goes (at_expr q.cond [] names (below Head k)) (at_conditions qs names (below Tail k)) (expr-places q.cond [] names (below Head k) h (λ p. f (Head ∷ p))) (conditions-places qs names (below Tail k) h (λ p. f (Tail ∷ p)))

  -- ---- names

  pub names-inside : (b : Block) (names : NameSources) (k : PlaceSources) → NamesGo names → AllGo k → NamesGo (names_in_block b names k)
  names-inside (block ds es) names k h f x = chosen (some_defines es x) (k (Named x ∷ [])) (names x) (f (Named x ∷ [])) (h x)

  names-hidden : (e : Eqn) (names : NameSources) → NamesGo names → NamesGo (names_within e names)
  names-hidden e names h x = chosen (defines e x) none (names x) (λ i. absurd i) (h x)

  arms-read : (arms : Arms) (k : PlaceSources) → AllGo k → NamesGo (in_arms arms k)
  arms-read no_arm k f x = λ i. absurd i
  arms-read (more_arms c b s arms) k f x =
      two-go (if block_defines b x then k (Head ∷ Named x ∷ []) else none) (in_arms arms (below Tail k) x) (chosen (block_defines b x) (k (Head ∷ Named x ∷ [])) none (f (Head ∷ Named x ∷ [])) (λ i. absurd i)) (arms-read arms (below Tail k) (λ p. f (Tail ∷ p)) x)

  states-read : (ss : States) (k : PlaceSources) → AllGo k → NamesGo (in_states ss k)
  states-read no_state k f x = λ i. absurd i
  states-read (more_states g b until unless s ss) k f x =
      two-go (if block_defines b x then k (Head ∷ Body ∷ Named x ∷ []) else none) (in_states ss (below Tail k) x) (chosen (block_defines b x) (k (Head ∷ Body ∷ Named x ∷ [])) none (f (Head ∷ Body ∷ Named x ∷ [])) (λ i. absurd i))
      (states-read ss (below Tail k) (λ p. f (Tail ∷ p)) x)

  conditions-read : (qs : List Trans) (k : PlaceSources) → AllGo k → Goes (of_conditions qs k)
  conditions-read [] k f = λ i. absurd i
  conditions-read (q ∷ qs) k f = two-go (k (Head ∷ [])) (of_conditions qs (below Tail k)) (f (Head ∷ [])) (conditions-read qs (below Tail k) (λ p. f (Tail ∷ p)))

  strong-read : (ss : States) (k : PlaceSources) → AllGo k → Goes (strong_ones ss k)
  strong-read no_state k f = λ i. absurd i
  strong-read (more_states g b until unless s ss) k f =
      two-go (of_conditions unless (below Unless (below Head k))) (strong_ones ss (below Tail k)) (conditions-read unless (below Unless (below Head k)) (λ p. f (Head ∷ Unless ∷ p))) (strong-read ss (below Tail k) (λ p. f (Tail ∷ p)))

  weak-read : (ss : States) (k : PlaceSources) → AllGo k → Goes (weak_ones ss k)
  weak-read no_state k f = λ i. absurd i
  weak-read (more_states g b until unless s ss) k f =
      two-go (of_conditions until (below Until (below Head k))) (weak_ones ss (below Tail k)) (conditions-read until (below Until (below Head k)) (λ p. f (Head ∷ Until ∷ p))) (weak-read ss (below Tail k) (λ p. f (Tail ∷ p)))

  definition-read : (ds : List Decl) (e : Eqn) (names : NameSources) (k : PlaceSources) → NamesGo names → AllGo k → NamesGo (of_definition ds e names k)
  definition-read ds (define s ys e) names k h f x = besides (of_clock (clock_of ds ys e) names) (of_expr e names (below Right k)) (expr-read e names (below Right k) h (λ p. f (Right ∷ p)))
  definition-read ds (switch s e arms) names k h f x = two-go (of_expr e names (below Test k)) (in_arms arms (below ArmsOf k) x) (expr-read e names (below Test k) h (λ p. f (Test ∷ p))) (arms-read arms (below ArmsOf k) (λ p. f (ArmsOf ∷ p)) x)
  definition-read ds (reset s b e) names k h f x = two-go (of_expr e names (below Test k)) (k (Body ∷ Named x ∷ [])) (expr-read e names (below Test k) h (λ p. f (Test ∷ p))) (f (Body ∷ Named x ∷ []))
  definition-read ds (automaton s ss) names k h f x = two-go (k (Active ∷ [])) (in_states ss (below StatesOf k) x) (f (Active ∷ [])) (states-read ss (below StatesOf k) (λ p. f (StatesOf ∷ p)) x)

  definitions-read : (ds : List Decl) (es : Eqns) (names : NameSources) (k : PlaceSources) → NamesGo names → AllGo k → NamesGo (of_definitions ds es names k)
  definitions-read ds no_eqn names k h f x = λ i. absurd i
  definitions-read ds (more_eqns e es) names k h f x =
      chosen (defines e x) (of_definition ds e names (below Head k) x) (of_definitions ds es names (below Tail k) x) (definition-read ds e names (below Head k) h (λ p. f (Head ∷ p)) x) (definitions-read ds es names (below Tail k) h (λ p. f (Tail ∷ p)) x)

  -- ---- blocks

  mutual
    pub block-places : (b : Block) (names : NameSources) (k : PlaceSources) → NamesGo names → AllGo k → AllGo (in_block b names k)
    block-places (block ds es) names k h f =
        let inner = names-inside (block ds es) names k h f in
        block-goes (of_definitions ds es (names_in es names k) (below Equations k)) (in_equations ds es (names_in es names k) (below Equations k)) (definitions-read ds es (names_in es names k) (below Equations k) inner (λ p. f (Equations ∷ p)))
        (eqns-places es ds (names_in es names k) (below Equations k) inner (λ p. f (Equations ∷ p)))

    eqns-places : (es : Eqns) (ds : List Decl) (names : NameSources) (k : PlaceSources) → NamesGo names → AllGo k → AllGo (in_equations ds es names k)
    eqns-places no_eqn ds names k h f = λ p i. absurd i
    eqns-places (more_eqns e es) ds names k h f =
        row-goes (in_equation ds e names (below Head k)) (in_equations ds es names (below Tail k)) (eqn-places e ds names (below Head k) h (λ p. f (Head ∷ p))) (eqns-places es ds names (below Tail k) h (λ p. f (Tail ∷ p)))

    eqn-places : (e : Eqn) (ds : List Decl) (names : NameSources) (k : PlaceSources) → NamesGo names → AllGo k → AllGo (in_equation ds e names k)
    eqn-places (define s ys e) ds names k h f = right-goes (at_expr e (clock_of ds ys e) names (below Right k)) (expr-places e (clock_of ds ys e) names (below Right k) h (λ p. f (Right ∷ p)))
    eqn-places (switch s e arms) ds names k h f =
        arms-go (at_expr e [] names (below Test k)) (of_expr e names (below Test k)) (in_each_arm arms (names_within (switch s e arms) names) (below ArmsOf k)) (expr-places e [] names (below Test k) h (λ p. f (Test ∷ p)))
        (expr-read e names (below Test k) h (λ p. f (Test ∷ p))) (arms-places arms (names_within (switch s e arms) names) (below ArmsOf k) (names-hidden (switch s e arms) names h) (λ p. f (ArmsOf ∷ p)))
    eqn-places (reset s b e) ds names k h f =
        body-goes (at_expr e [] names (below Test k)) (of_expr e names (below Test k)) (in_block b (names_within (reset s b e) names) (below Body k)) (expr-places e [] names (below Test k) h (λ p. f (Test ∷ p)))
        (expr-read e names (below Test k) h (λ p. f (Test ∷ p))) (block-places b (names_within (reset s b e) names) (below Body k) (names-hidden (reset s b e) names h) (λ p. f (Body ∷ p)))
    eqn-places (automaton s ss) ds names k h f =
        words-go (strong_ones ss (below StatesOf k)) (both (also (k (Active ∷ []))) (weak_ones ss (below StatesOf k))) (in_each_state ss (k (Active ∷ [])) names (names_within (automaton s ss) names) (below StatesOf k))
        (strong-read ss (below StatesOf k) (λ p. f (StatesOf ∷ p))) (besides (k (Active ∷ [])) (weak_ones ss (below StatesOf k)) (weak-read ss (below StatesOf k) (λ p. f (StatesOf ∷ p))))
        (states-places ss (k (Active ∷ [])) names (names_within (automaton s ss) names) (below StatesOf k) (f (Active ∷ [])) h (names-hidden (automaton s ss) names h) (λ p. f (StatesOf ∷ p)))

    arms-places : (arms : Arms) (names : NameSources) (k : PlaceSources) → NamesGo names → AllGo k → AllGo (in_each_arm arms names k)
    arms-places no_arm names k h f = λ p i. absurd i
    arms-places (more_arms c b s arms) names k h f =
        row-goes (in_block b names (below Head k)) (in_each_arm arms names (below Tail k)) (block-places b names (below Head k) h (λ p. f (Head ∷ p))) (arms-places arms names (below Tail k) h (λ p. f (Tail ∷ p)))

    states-places : (ss : States) (active : Sources) (out names : NameSources) (k : PlaceSources) → Goes active → NamesGo out → NamesGo names → AllGo k → AllGo (in_each_state ss active out names k)
    states-places no_state active out names k a o h f = λ p i. absurd i
    states-places (more_states g b until unless s ss) active out names k a o h f =
        row-goes
        (at_state active (in_block b names (below Body (below Head k))) (at_conditions until (names_in_block b names (below Body (below Head k))) (below Until (below Head k))) (at_conditions unless out (below Unless (below Head k))))
        (in_each_state ss active out names (below Tail k))
        (state-goes active (in_block b names (below Body (below Head k))) (at_conditions until (names_in_block b names (below Body (below Head k))) (below Until (below Head k))) (at_conditions unless out (below Unless (below Head k))) a
        (block-places b names (below Body (below Head k)) h (λ p. f (Head ∷ Body ∷ p)))
        (conditions-places until (names_in_block b names (below Body (below Head k))) (below Until (below Head k)) (names-inside b names (below Body (below Head k)) h (λ p. f (Head ∷ Body ∷ p))) (λ p. f (Head ∷ Until ∷ p)))
        (conditions-places unless out (below Unless (below Head k)) o (λ p. f (Head ∷ Unless ∷ p))))
        (states-places ss active out names (below Tail k) a o h (λ p. f (Tail ∷ p)))

  pub told-places : (o : Option Expr) (names : NameSources) (k : PlaceSources) → NamesGo names → AllGo k → AllGo (at_told o names k)
  told-places None names k h f = λ p i. absurd i
  told-places (Some e) names k h f = expr-places e [] names k h f
