-- Where each place is read as other ones, or as none, what the places of a part read is that of the part over the names and places so read.
use Rattle.std.proofs.Common.{◌≡◌, ℕ, List, [], ◌∷◌, inl, inr, refl, ap, ap₂, ◌∙◌, subst}
use Rattle.std.proofs.Math.Path.{fun_ext}
use Rattle.std.specs.Prelude.{Bool, true, false, if◌then◌else◌}
use Rattle.hp_tree.specs.declared.block.Trans.{Trans}
use Rattle.hp_tree.specs.Expressions.{Expr, constant, variable, last_of, one, two, choose, pre, fby, arrow, when_is, merge, call, Exprs, no_expr, more_exprs, Parts, no_part, more_parts}
use Rattle.hp_tree.specs.Blocks.{Decl, Block, block, Eqns, no_eqn, more_eqns, Eqn, define, switch, reset, automaton, Arms, no_arm, more_arms, States, no_state, more_states}
use Rattle.hp_tree.specs.Instant.{Body, Named, Equations, Head, Tail, Right, Test, Arms as ArmsOf, States as StatesOf, Until, Unless, Active, Next, Pending, First, Second, Third, Args, Instance, Place, Clock, without}
use Rattle.hp_tree.specs.Meaning.{defines, some_defines, block_defines, clock_of}
use Rattle.hp_meaning.specs.Causal.Sources.{Sources, none, only, both, also, IsRead, NameSources, PlaceSources, below, nowhere, at_one, at_two, at_three, at_row, at_merge, at_call, at_block, at_right, at_arms, at_body, at_state, at_words}
use Rattle.hp_meaning.specs.Causal.WhatIsRead.{of_clock, of_expr, of_exprs, of_parts, names_in, names_within, names_in_block, in_arms, in_states, of_conditions, strong_ones, weak_ones, at_expr, at_exprs, at_parts, at_conditions, of_definition, of_definitions, in_block, in_equations, in_equation, in_each_arm, in_each_state}

-- what each place is read as
module _ (g : Place → Sources) where
  abbrev pub moved : Sources → Sources
  moved none = none
  moved (only p) = g p
  moved (both s t) = both (moved s) (moved t)
  moved (also s) = also (moved s)

  abbrev pub mn : NameSources → NameSources
  mn names x = moved (names x)

  abbrev pub mk : PlaceSources → PlaceSources
  mk k p = moved (k p)

  -- ---- parts put together

  move_one : (s : Sources) (k : PlaceSources) → mk (at_one s k) ≡ at_one (moved s) (mk k)
  move_one s k = fun_ext each
    where
      each : (p : Place) → mk (at_one s k) p ≡ at_one (moved s) (mk k) p
      each [] = refl
      each (First ∷ p) = refl
      each p = refl

  move_two : (s : Sources) (k l : PlaceSources) → mk (at_two s k l) ≡ at_two (moved s) (mk k) (mk l)
  move_two s k l = fun_ext each
    where
      each : (p : Place) → mk (at_two s k l) p ≡ at_two (moved s) (mk k) (mk l) p
      each ([]) = refl
      each (First ∷ p) = refl
      each (Second ∷ p) = refl
      each p = refl

  move_three : (s : Sources) (k l m : PlaceSources) → mk (at_three s k l m) ≡ at_three (moved s) (mk k) (mk l) (mk m)
  move_three s k l m = fun_ext each
    where
      each : (p : Place) → mk (at_three s k l m) p ≡ at_three (moved s) (mk k) (mk l) (mk m) p
      each ([]) = refl
      each (First ∷ p) = refl
      each (Second ∷ p) = refl
      each (Third ∷ p) = refl
      each p = refl

  move_row : (k l : PlaceSources) → mk (at_row k l) ≡ at_row (mk k) (mk l)
  move_row k l = fun_ext each
    where
      each : (p : Place) → mk (at_row k l) p ≡ at_row (mk k) (mk l) p
      each (Head ∷ p) = refl
      each (Tail ∷ p) = refl
      each p = refl

  move_merge : (s : Sources) (k : PlaceSources) → mk (at_merge s k) ≡ at_merge (moved s) (mk k)
  move_merge s k = fun_ext each
    where
      each : (p : Place) → mk (at_merge s k) p ≡ at_merge (moved s) (mk k) p
      each ([]) = refl
      each (Args ∷ p) = refl
      each p = refl

  move_call : (s t : Sources) (k : PlaceSources) → mk (at_call s t k) ≡ at_call (moved s) (moved t) (mk k)
  move_call s t k = fun_ext each
    where
      each : (p : Place) → mk (at_call s t k) p ≡ at_call (moved s) (moved t) (mk k) p
      each ([]) = refl
      each (Args ∷ p) = refl
      each (Instance ∷ p) = refl
      each p = refl

  move_block : (names : NameSources) (k : PlaceSources) → mk (at_block names k) ≡ at_block (mn names) (mk k)
  move_block names k = fun_ext each
    where
      each : (p : Place) → mk (at_block names k) p ≡ at_block (mn names) (mk k) p
      each (Named x ∷ []) = refl
      each (Equations ∷ p) = refl
      each p = refl

  move_right : (k : PlaceSources) → mk (at_right k) ≡ at_right (mk k)
  move_right k = fun_ext each
    where
      each : (p : Place) → mk (at_right k) p ≡ at_right (mk k) p
      each (Right ∷ p) = refl
      each p = refl

  move_arms : (k : PlaceSources) (s : Sources) (l : PlaceSources) → mk (at_arms k s l) ≡ at_arms (mk k) (moved s) (mk l)
  move_arms k s l = fun_ext each
    where
      each : (p : Place) → mk (at_arms k s l) p ≡ at_arms (mk k) (moved s) (mk l) p
      each (Test ∷ p) = refl
      each (ArmsOf ∷ p) = refl
      each p = refl

  move_body : (k : PlaceSources) (s : Sources) (l : PlaceSources) → mk (at_body k s l) ≡ at_body (mk k) (moved s) (mk l)
  move_body k s l = fun_ext each
    where
      each : (p : Place) → mk (at_body k s l) p ≡ at_body (mk k) (moved s) (mk l) p
      each (Test ∷ p) = refl
      each (Body ∷ p) = refl
      each p = refl

  move_state : (s : Sources) (k l m : PlaceSources) → mk (at_state s k l m) ≡ at_state (moved s) (mk k) (mk l) (mk m)
  move_state s k l m = fun_ext each
    where
      each : (p : Place) → mk (at_state s k l m) p ≡ at_state (moved s) (mk k) (mk l) (mk m) p
      each (Body ∷ p) = refl
      each (Until ∷ p) = refl
      each (Unless ∷ p) = refl
      each p = refl

  move_words : (s t : Sources) (k : PlaceSources) → mk (at_words s t k) ≡ at_words (moved s) (moved t) (mk k)
  move_words s t k = fun_ext each
    where
      each : (p : Place) → mk (at_words s t k) p ≡ at_words (moved s) (moved t) (mk k) p
      each (Active ∷ []) = refl
      each (Next ∷ []) = refl
      each (Pending ∷ []) = refl
      each (StatesOf ∷ p) = refl
      each p = refl

  move_if : (d : Bool) (s t : Sources) → moved (if d then s else t) ≡ (if d then moved s else moved t)
  move_if true s t = refl
  move_if false s t = refl

  -- ---- names and expressions

  move_clock : (clock : Clock) (names : NameSources) → moved (of_clock clock names) ≡ of_clock clock (mn names)
  move_clock [] names = refl
  move_clock (on ∷ clock) names = ap (both (moved (names on.1))) (move_clock clock names)

  mutual
    pub move_of : (e : Expr) (names : NameSources) (k : PlaceSources) → moved (of_expr e names k) ≡ of_expr e (mn names) (mk k)
    move_of (constant s c) names k = refl
    move_of (variable s x) names k = refl
    move_of (last_of s x) names k = refl
    move_of (one s o a) names k = move_of a names (below First k)
    move_of (two s o a b) names k = ap₂ both (move_of a names (below First k)) (move_of b names (below Second k))
    move_of (choose s a b c) names k = ap₂ both (move_of a names (below First k)) (ap₂ both (move_of b names (below Second k)) (move_of c names (below Third k)))
    move_of (pre s a) names k = refl
    move_of (fby s a b) names k = move_of a names (below First k)
    move_of (arrow s a b) names k = ap₂ both (move_of a names (below First k)) (move_of b names (below Second k))
    move_of (when_is s a c x) names k = ap (both (moved (names x))) (move_of a names (below First k))
    move_of (merge s x ps) names k = ap (both (moved (names x))) (move_of_parts ps names (below Args k))
    move_of (call s f inlined es) names k = refl

    move_of_parts : (ps : Parts) (names : NameSources) (k : PlaceSources) → moved (of_parts ps names k) ≡ of_parts ps (mn names) (mk k)
    move_of_parts no_part names k = refl
    move_of_parts (more_parts c e ps) names k = ap₂ both (move_of e names (below Head k)) (move_of_parts ps names (below Tail k))

  move_of_all : (es : Exprs) (names : NameSources) (k : PlaceSources) → moved (of_exprs es names k) ≡ of_exprs es (mn names) (mk k)
  move_of_all no_expr names k = refl
  move_of_all (more_exprs e es) names k = ap₂ both (move_of e names (below Head k)) (move_of_all es names (below Tail k))

  move_names : (es : Eqns) (names : NameSources) (k : PlaceSources) → mn (names_in es names k) ≡ names_in es (mn names) (mk k)
  move_names es names k = fun_ext (λ x. move_if (some_defines es x) (k (Named x ∷ [])) (names x))

  move_within : (e : Eqn) (names : NameSources) → mn (names_within e names) ≡ names_within e (mn names)
  move_within e names = fun_ext (λ x. move_if (defines e x) none (names x))

  move_own : (b : Block) (names : NameSources) (k : PlaceSources) → mn (names_in_block b names k) ≡ names_in_block b (mn names) (mk k)
  move_own (block ds es) names k = move_names es names k

  move_in_arms : (arms : Arms) (k : PlaceSources) (x : List ℕ) → moved (in_arms arms k x) ≡ in_arms arms (mk k) x
  move_in_arms no_arm k x = refl
  move_in_arms (more_arms c b s arms) k x = ap₂ both (move_if (block_defines b x) (k (Head ∷ Named x ∷ [])) none) (move_in_arms arms (below Tail k) x)

  move_in_states : (ss : States) (k : PlaceSources) (x : List ℕ) → moved (in_states ss k x) ≡ in_states ss (mk k) x
  move_in_states no_state k x = refl
  move_in_states (more_states f b until unless s ss) k x = ap₂ both (move_if (block_defines b x) (k (Head ∷ Body ∷ Named x ∷ [])) none) (move_in_states ss (below Tail k) x)

  move_of_conditions : (ts : List Trans) (k : PlaceSources) → moved (of_conditions ts k) ≡ of_conditions ts (mk k)
  move_of_conditions [] k = refl
  move_of_conditions (t ∷ ts) k = ap (both (moved (k (Head ∷ [])))) (move_of_conditions ts (below Tail k))

  move_strong : (ss : States) (k : PlaceSources) → moved (strong_ones ss k) ≡ strong_ones ss (mk k)
  move_strong no_state k = refl
  move_strong (more_states f b until unless s ss) k = ap₂ both (move_of_conditions unless (below Unless (below Head k))) (move_strong ss (below Tail k))

  move_weak : (ss : States) (k : PlaceSources) → moved (weak_ones ss k) ≡ weak_ones ss (mk k)
  move_weak no_state k = refl
  move_weak (more_states f b until unless s ss) k = ap₂ both (move_of_conditions until (below Until (below Head k))) (move_weak ss (below Tail k))

  mutual
    pub move_expr : (e : Expr) (clock : Clock) (names : NameSources) (k : PlaceSources) → mk (at_expr e clock names k) ≡ at_expr e clock (mn names) (mk k)
    move_expr (constant s c) clock names k = move_one _ nowhere ∙ ap (λ s. at_one (also s) nowhere) (move_clock clock names)
    move_expr (variable s x) clock names k = move_one _ nowhere ∙ ap (λ s. at_one (both (also s) (moved (names x))) nowhere) (move_clock clock names)
    move_expr (last_of s x) clock names k = refl
    move_expr (one s o a) clock names k =
        move_one _ (at_expr a clock names (below First k)) ∙ ap₂ at_one (ap₂ (λ s t. both (also s) t) (move_clock clock names) (move_of (one s o a) names k)) (move_expr a clock names (below First k))
    move_expr (two s o a b) clock names k =
        let t = (ap₂ (λ s t. both (also s) t) (move_clock clock names) (move_of (two s o a b) names k)) in
        let u = move_expr a clock names (below First k) in
        let v = move_expr b clock names (below Second k) in
        move_two _ (at_expr a clock names (below First k)) (at_expr b clock names (below Second k)) ∙ λ d. at_two (t d) (u d) (v d)
    move_expr (choose s a b c) clock names k =
        let t = (ap₂ (λ s t. both (also s) t) (move_clock clock names) (move_of (choose s a b c) names k)) in
        let u = move_expr a clock names (below First k) in
        let v = move_expr b clock names (below Second k) in
        let x = move_expr c clock names (below Third k) in
        move_three _ (at_expr a clock names (below First k)) (at_expr b clock names (below Second k)) (at_expr c clock names (below Third k)) ∙ λ d. at_three (t d) (u d) (v d) (x d)
    move_expr (pre s a) clock names k =
        move_one _ (at_expr a clock names (below First k)) ∙ ap₂ (λ s t. at_one (also s) t) (move_clock clock names) (move_expr a clock names (below First k))
    move_expr (fby s a b) clock names k =
        let t = (ap₂ (λ s t. both (also s) t) (move_clock clock names) (move_of (fby s a b) names k)) in
        let u = move_expr a clock names (below First k) in
        let v = move_expr b clock names (below Second k) in
        move_two _ (at_expr a clock names (below First k)) (at_expr b clock names (below Second k)) ∙ λ d. at_two (t d) (u d) (v d)
    move_expr (arrow s a b) clock names k =
        let t = (ap₂ (λ s t. both (also s) t) (move_clock clock names) (move_of (arrow s a b) names k)) in
        let u = move_expr a clock names (below First k) in
        let v = move_expr b clock names (below Second k) in
        move_two _ (at_expr a clock names (below First k)) (at_expr b clock names (below Second k)) ∙ λ d. at_two (t d) (u d) (v d)
    move_expr (when_is s a c x) clock names k =
        move_one _ (at_expr a (without clock) names (below First k)) ∙ ap₂ at_one (ap₂ (λ s t. both (also s) t) (move_clock clock names) (move_of (when_is s a c x) names k)) (move_expr a (without clock) names (below First k))
    move_expr (merge s x ps) clock names k =
        move_merge _ (at_parts ps x clock names (below Args k)) ∙ ap₂ at_merge (ap₂ (λ s t. both (also s) t) (move_clock clock names) (move_of (merge s x ps) names k)) (move_parts ps x clock names (below Args k))
    move_expr (call s f inlined es) clock names k =
        let t = (ap₂ (λ s t. both (also s) t) (move_clock clock names) (move_of_all es names (below Args k))) in
        let u = ap (λ s. both (also s) (moved (k []))) (move_clock clock names) in
        let v = move_exprs es clock names (below Args k) in
        move_call _ _ (at_exprs es clock names (below Args k)) ∙ λ d. at_call (t d) (u d) (v d)

    move_exprs : (es : Exprs) (clock : Clock) (names : NameSources) (k : PlaceSources) → mk (at_exprs es clock names k) ≡ at_exprs es clock (mn names) (mk k)
    move_exprs no_expr clock names k = refl
    move_exprs (more_exprs e es) clock names k =
        move_row (at_expr e clock names (below Head k)) (at_exprs es clock names (below Tail k)) ∙ ap₂ at_row (move_expr e clock names (below Head k)) (move_exprs es clock names (below Tail k))

    move_parts : (ps : Parts) (x : List ℕ) (clock : Clock) (names : NameSources) (k : PlaceSources) → mk (at_parts ps x clock names k) ≡ at_parts ps x clock (mn names) (mk k)
    move_parts no_part x clock names k = refl
    move_parts (more_parts c e ps) x clock names k =
        move_row (at_expr e ((c, x) ∷ clock) names (below Head k)) (at_parts ps x clock names (below Tail k)) ∙ ap₂ at_row (move_expr e ((c, x) ∷ clock) names (below Head k)) (move_parts ps x clock names (below Tail k))

  move_conditions : (ts : List Trans) (names : NameSources) (k : PlaceSources) → mk (at_conditions ts names k) ≡ at_conditions ts (mn names) (mk k)
  move_conditions [] names k = refl
  move_conditions (t ∷ ts) names k =
      move_row (at_expr t.cond [] names (below Head k)) (at_conditions ts names (below Tail k)) ∙ ap₂ at_row (move_expr t.cond [] names (below Head k)) (move_conditions ts names (below Tail k))

  -- ---- definitions and blocks

  move_definition : (ds : List Decl) (e : Eqn) (names : NameSources) (k : PlaceSources) (x : List ℕ) → moved (of_definition ds e names k x) ≡ of_definition ds e (mn names) (mk k) x
  move_definition ds (define s ys e) names k x = ap₂ (λ s t. both (also s) t) (move_clock (clock_of ds ys e) names) (move_of e names (below Right k))
  move_definition ds (switch s e arms) names k x = ap₂ both (move_of e names (below Test k)) (move_in_arms arms (below ArmsOf k) x)
  move_definition ds (reset s b e) names k x = ap (λ s. both s (moved (k (Body ∷ Named x ∷ [])))) (move_of e names (below Test k))
  move_definition ds (automaton s ss) names k x = ap (both (moved (k (Active ∷ [])))) (move_in_states ss (below StatesOf k) x)

  move_definitions : (ds : List Decl) (es : Eqns) (names : NameSources) (k : PlaceSources) (x : List ℕ) → moved (of_definitions ds es names k x) ≡ of_definitions ds es (mn names) (mk k) x
  move_definitions ds no_eqn names k x = refl
  move_definitions ds (more_eqns e es) names k x =
      move_if (defines e x) (of_definition ds e names (below Head k) x) (of_definitions ds es names (below Tail k) x)
      ∙ ap₂ (λ s t. if defines e x then s else t) (move_definition ds e names (below Head k) x) (move_definitions ds es names (below Tail k) x)

  mutual
    pub move_in_block : (b : Block) (names : NameSources) (k : PlaceSources) → mk (in_block b names k) ≡ in_block b (mn names) (mk k)
    move_in_block (block ds es) names k =
        let t = fun_ext (λ x. move_definitions ds es (names_in es names k) (below Equations k) x) in
        let u = move_equations ds es (names_in es names k) (below Equations k) in
        move_block (of_definitions ds es (names_in es names k) (below Equations k)) (in_equations ds es (names_in es names k) (below Equations k))
        ∙ ap₂ at_block t u
        ∙ ap (λ n. at_block (of_definitions ds es n (below Equations (mk k))) (in_equations ds es n (below Equations (mk k)))) (move_names es names k)

    move_equations : (ds : List Decl) (es : Eqns) (names : NameSources) (k : PlaceSources) → mk (in_equations ds es names k) ≡ in_equations ds es (mn names) (mk k)
    move_equations ds no_eqn names k = refl
    move_equations ds (more_eqns e es) names k =
        move_row (in_equation ds e names (below Head k)) (in_equations ds es names (below Tail k)) ∙ ap₂ at_row (move_equation ds e names (below Head k)) (move_equations ds es names (below Tail k))

    move_equation : (ds : List Decl) (e : Eqn) (names : NameSources) (k : PlaceSources) → mk (in_equation ds e names k) ≡ in_equation ds e (mn names) (mk k)
    move_equation ds (define s ys e) names k = move_right (at_expr e (clock_of ds ys e) names (below Right k)) ∙ ap at_right (move_expr e (clock_of ds ys e) names (below Right k))
    move_equation ds (switch s e arms) names k =
        let t = move_expr e [] names (below Test k) in
        let u = move_of e names (below Test k) in
        let v = move_each_arm arms (names_within (switch s e arms) names) (below ArmsOf k) ∙ ap (λ n. in_each_arm arms n (below ArmsOf (mk k))) (move_within (switch s e arms) names) in
        move_arms (at_expr e [] names (below Test k)) (of_expr e names (below Test k)) (in_each_arm arms (names_within (switch s e arms) names) (below ArmsOf k)) ∙ λ d. at_arms (t d) (u d) (v d)
    move_equation ds (reset s b e) names k =
        let t = move_expr e [] names (below Test k) in
        let u = move_of e names (below Test k) in
        let v = move_in_block b (names_within (reset s b e) names) (below Body k) ∙ ap (λ n. in_block b n (below Body (mk k))) (move_within (reset s b e) names) in
        move_body (at_expr e [] names (below Test k)) (of_expr e names (below Test k)) (in_block b (names_within (reset s b e) names) (below Body k)) ∙ λ d. at_body (t d) (u d) (v d)
    move_equation ds (automaton s ss) names k =
        let t = move_strong ss (below StatesOf k) in
        let u = ap (both (also (moved (k (Active ∷ []))))) (move_weak ss (below StatesOf k)) in
        let inner = names_within (automaton s ss) names in
        let v = move_each_state ss (k (Active ∷ [])) names inner (below StatesOf k) ∙ ap (λ n. in_each_state ss (moved (k (Active ∷ []))) (mn names) n (below StatesOf (mk k))) (move_within (automaton s ss) names) in
        move_words (strong_ones ss (below StatesOf k)) (both (also (k (Active ∷ []))) (weak_ones ss (below StatesOf k))) (in_each_state ss (k (Active ∷ [])) names inner (below StatesOf k)) ∙ λ d. at_words (t d) (u d) (v d)

    move_each_arm : (arms : Arms) (names : NameSources) (k : PlaceSources) → mk (in_each_arm arms names k) ≡ in_each_arm arms (mn names) (mk k)
    move_each_arm no_arm names k = refl
    move_each_arm (more_arms c b s arms) names k =
        move_row (in_block b names (below Head k)) (in_each_arm arms names (below Tail k)) ∙ ap₂ at_row (move_in_block b names (below Head k)) (move_each_arm arms names (below Tail k))

    move_each_state : (ss : States) (active : Sources) (out names : NameSources) (k : PlaceSources) → mk (in_each_state ss active out names k) ≡ in_each_state ss (moved active) (mn out) (mn names) (mk k)
    move_each_state no_state active out names k = refl
    move_each_state (more_states f b until unless s ss) active out names k =
        let kb = below Body (below Head k) in
        let ku = below Until (below Head k) in
        let own = names_in_block b names kb in
        let t = move_in_block b names kb in
        let u = move_conditions until own ku ∙ ap (λ n. at_conditions until n (mk ku)) (move_own b names kb) in
        let v = move_conditions unless out (below Unless (below Head k)) in
        let state = move_state active (in_block b names kb) (at_conditions until own ku) (at_conditions unless out (below Unless (below Head k))) ∙ (λ d. at_state (moved active) (t d) (u d) (v d)) in
        move_row (at_state active (in_block b names kb) (at_conditions until own ku) (at_conditions unless out (below Unless (below Head k)))) (in_each_state ss active out names (below Tail k))
        ∙ ap₂ at_row state (move_each_state ss active out names (below Tail k))

  -- ---- what is read of sources so read

  pub reads_moved : (q : Place) (s : Sources) → IsRead q (moved s) → (r : Place) × IsRead r s × IsRead q (g r)
  reads_moved q none h = absurd h
  reads_moved q (only p) h = (p, refl, h)
  reads_moved q (both s t) (inl h) = let r = reads_moved q s h in (r.0, inl r.1, r.2)
  reads_moved q (both s t) (inr h) = let r = reads_moved q t h in (r.0, inr r.1, r.2)
  reads_moved q (also s) h = absurd h

  pub moved_reads : (q r : Place) (s : Sources) → IsRead r s → IsRead q (g r) → IsRead q (moved s)
  moved_reads q r none h k = absurd h
  moved_reads q r (only p) h k = subst (λ z. IsRead q (g z)) h k
  moved_reads q r (both s t) (inl h) k = inl (moved_reads q r s h k)
  moved_reads q r (both s t) (inr h) k = inr (moved_reads q r t h k)
  moved_reads q r (also s) h k = absurd h
