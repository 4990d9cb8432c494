-- Where inputs are places, what is read besides them is the same.
use Rattle.std.proofs.Common.{◌≡◌, ℕ, inl, inr, List, [], ◌∷◌, refl, sym, ap, ap₂, ◌∙◌, subst, None, Some}
use Rattle.std.proofs.Math.Path.{fun_ext}
use Rattle.std.specs.Prelude.{Bool, true, false, ◌&&◌, if◌then◌else◌, Option}
use Rattle.std.specs.Str.{bytes_eq}
use Rattle.hp_tree.specs.declared.block.Trans.{Trans}
use Rattle.hp_tree.specs.Expressions.{Expr, constant, variable, last_of, one, two, choose, pre, fby, arrow, when_is, merge, call, Exprs, no_expr, more_exprs, Parts, no_part, more_parts}
use Rattle.hp_tree.specs.Blocks.{Decl, Block, block, Eqns, no_eqn, more_eqns, Eqn, define, switch, reset, automaton, Arms, no_arm, more_arms, States, no_state, more_states}
use Rattle.hp_tree.specs.Programs.{Contract, Node}
use Rattle.hp_tree.specs.Instant.{Inputs, Controls, Body, Observer, Assume, Enforce, Named, Equations, Head, Tail, Right, Test, Arms as ArmsOf, States as StatesOf, Until, Unless, Active, Next, Pending, First, Second, Third, Args, Instance, Place, Clock, without}
use Rattle.hp_tree.specs.Meaning.{declares, defines, some_defines, block_defines, clock_of, controls_of}
use Rattle.hp_meaning.specs.Causal.Sources.{Sources, none, only, both, also, IsRead, NameSources, PlaceSources, below, nowhere, at_one, at_two, at_three, at_row, at_merge, at_call, at_block, at_right, at_arms, at_body, at_state, at_words}
use Rattle.hp_meaning.specs.Causal.WhatIsRead.{of_clock, of_expr, of_exprs, of_parts, names_in, names_within, names_in_block, in_arms, in_states, of_conditions, strong_ones, weak_ones, control_in, has_equation, output_in, at_expr, at_exprs, at_parts, at_conditions, of_definition, of_definitions, in_block, in_equations, in_equation, in_each_arm, in_each_state, at_told, in_contract, in_node}
use Rattle.hp_meaning.specs.Causal.InputDependence.{row_in, input_in, in_node_with_inputs, SameReadsLaw}

-- sources without the inputs among them
abbrev dropped : Sources → Sources
dropped none = none
dropped (only (Inputs ∷ p)) = none
dropped (only p) = only p
dropped (both s t) = both (dropped s) (dropped t)
dropped (also s) = also (dropped s)

abbrev dn : NameSources → NameSources
dn names x = dropped (names x)

abbrev dk : PlaceSources → PlaceSources
dk k p = dropped (k p)

-- ---- parts put together

drop_one : (s : Sources) (k : PlaceSources) → dk (at_one s k) ≡ at_one (dropped s) (dk k)
drop_one s k = fun_ext each
  where
    each : (p : Place) → dk (at_one s k) p ≡ at_one (dropped s) (dk k) p
    each [] = refl
    each (First ∷ p) = refl
    each p = refl

drop_two : (s : Sources) (k l : PlaceSources) → dk (at_two s k l) ≡ at_two (dropped s) (dk k) (dk l)
drop_two s k l = fun_ext each
  where
    each : (p : Place) → dk (at_two s k l) p ≡ at_two (dropped s) (dk k) (dk l) p
    each ([]) = refl
    each (First ∷ p) = refl
    each (Second ∷ p) = refl
    each p = refl

drop_three : (s : Sources) (k l m : PlaceSources) → dk (at_three s k l m) ≡ at_three (dropped s) (dk k) (dk l) (dk m)
drop_three s k l m = fun_ext each
  where
    each : (p : Place) → dk (at_three s k l m) p ≡ at_three (dropped s) (dk k) (dk l) (dk m) p
    each ([]) = refl
    each (First ∷ p) = refl
    each (Second ∷ p) = refl
    each (Third ∷ p) = refl
    each p = refl

drop_row : (k l : PlaceSources) → dk (at_row k l) ≡ at_row (dk k) (dk l)
drop_row k l = fun_ext each
  where
    each : (p : Place) → dk (at_row k l) p ≡ at_row (dk k) (dk l) p
    each (Head ∷ p) = refl
    each (Tail ∷ p) = refl
    each p = refl

drop_merge : (s : Sources) (k : PlaceSources) → dk (at_merge s k) ≡ at_merge (dropped s) (dk k)
drop_merge s k = fun_ext each
  where
    each : (p : Place) → dk (at_merge s k) p ≡ at_merge (dropped s) (dk k) p
    each ([]) = refl
    each (Args ∷ p) = refl
    each p = refl

drop_call : (s t : Sources) (k : PlaceSources) → dk (at_call s t k) ≡ at_call (dropped s) (dropped t) (dk k)
drop_call s t k = fun_ext each
  where
    each : (p : Place) → dk (at_call s t k) p ≡ at_call (dropped s) (dropped t) (dk k) p
    each ([]) = refl
    each (Args ∷ p) = refl
    each (Instance ∷ p) = refl
    each p = refl

drop_block : (names : NameSources) (k : PlaceSources) → dk (at_block names k) ≡ at_block (dn names) (dk k)
drop_block names k = fun_ext each
  where
    each : (p : Place) → dk (at_block names k) p ≡ at_block (dn names) (dk k) p
    each (Named x ∷ []) = refl
    each (Equations ∷ p) = refl
    each p = refl

drop_right : (k : PlaceSources) → dk (at_right k) ≡ at_right (dk k)
drop_right k = fun_ext each
  where
    each : (p : Place) → dk (at_right k) p ≡ at_right (dk k) p
    each (Right ∷ p) = refl
    each p = refl

drop_arms : (k : PlaceSources) (s : Sources) (l : PlaceSources) → dk (at_arms k s l) ≡ at_arms (dk k) (dropped s) (dk l)
drop_arms k s l = fun_ext each
  where
    each : (p : Place) → dk (at_arms k s l) p ≡ at_arms (dk k) (dropped s) (dk l) p
    each (Test ∷ p) = refl
    each (ArmsOf ∷ p) = refl
    each p = refl

drop_body : (k : PlaceSources) (s : Sources) (l : PlaceSources) → dk (at_body k s l) ≡ at_body (dk k) (dropped s) (dk l)
drop_body k s l = fun_ext each
  where
    each : (p : Place) → dk (at_body k s l) p ≡ at_body (dk k) (dropped s) (dk l) p
    each (Test ∷ p) = refl
    each (Body ∷ p) = refl
    each p = refl

drop_state : (s : Sources) (k l m : PlaceSources) → dk (at_state s k l m) ≡ at_state (dropped s) (dk k) (dk l) (dk m)
drop_state s k l m = fun_ext each
  where
    each : (p : Place) → dk (at_state s k l m) p ≡ at_state (dropped s) (dk k) (dk l) (dk m) p
    each (Body ∷ p) = refl
    each (Until ∷ p) = refl
    each (Unless ∷ p) = refl
    each p = refl

drop_words : (s t : Sources) (k : PlaceSources) → dk (at_words s t k) ≡ at_words (dropped s) (dropped t) (dk k)
drop_words s t k = fun_ext each
  where
    each : (p : Place) → dk (at_words s t k) p ≡ at_words (dropped s) (dropped t) (dk k) p
    each (Active ∷ []) = refl
    each (Next ∷ []) = refl
    each (Pending ∷ []) = refl
    each (StatesOf ∷ p) = refl
    each p = refl

drop_if : (d : Bool) (s t : Sources) → dropped (if d then s else t) ≡ (if d then dropped s else dropped t)
drop_if true s t = refl
drop_if false s t = refl

-- ---- names and expressions

drop_clock : (clock : Clock) (names : NameSources) → dropped (of_clock clock names) ≡ of_clock clock (dn names)
drop_clock [] names = refl
drop_clock (on ∷ clock) names = ap (both (dropped (names on.1))) (drop_clock clock names)

mutual
  drop_of : (e : Expr) (names : NameSources) (k : PlaceSources) → dropped (of_expr e names k) ≡ of_expr e (dn names) (dk k)
  drop_of (constant s c) names k = refl
  drop_of (variable s x) names k = refl
  drop_of (last_of s x) names k = refl
  drop_of (one s o a) names k = drop_of a names (below First k)
  drop_of (two s o a b) names k = ap₂ both (drop_of a names (below First k)) (drop_of b names (below Second k))
  drop_of (choose s a b c) names k = ap₂ both (drop_of a names (below First k)) (ap₂ both (drop_of b names (below Second k)) (drop_of c names (below Third k)))
  drop_of (pre s a) names k = refl
  drop_of (fby s a b) names k = drop_of a names (below First k)
  drop_of (arrow s a b) names k = ap₂ both (drop_of a names (below First k)) (drop_of b names (below Second k))
  drop_of (when_is s a c x) names k = ap (both (dropped (names x))) (drop_of a names (below First k))
  drop_of (merge s x ps) names k = ap (both (dropped (names x))) (drop_of_parts ps names (below Args k))
  drop_of (call s f inlined es) names k = refl

  drop_of_parts : (ps : Parts) (names : NameSources) (k : PlaceSources) → dropped (of_parts ps names k) ≡ of_parts ps (dn names) (dk k)
  drop_of_parts no_part names k = refl
  drop_of_parts (more_parts c e ps) names k = ap₂ both (drop_of e names (below Head k)) (drop_of_parts ps names (below Tail k))

drop_of_all : (es : Exprs) (names : NameSources) (k : PlaceSources) → dropped (of_exprs es names k) ≡ of_exprs es (dn names) (dk k)
drop_of_all no_expr names k = refl
drop_of_all (more_exprs e es) names k = ap₂ both (drop_of e names (below Head k)) (drop_of_all es names (below Tail k))

drop_names : (es : Eqns) (names : NameSources) (k : PlaceSources) → dn (names_in es names k) ≡ names_in es (dn names) (dk k)
drop_names es names k = fun_ext (λ x. drop_if (some_defines es x) (k (Named x ∷ [])) (names x))

drop_within : (e : Eqn) (names : NameSources) → dn (names_within e names) ≡ names_within e (dn names)
drop_within e names = fun_ext (λ x. drop_if (defines e x) none (names x))

drop_own : (b : Block) (names : NameSources) (k : PlaceSources) → dn (names_in_block b names k) ≡ names_in_block b (dn names) (dk k)
drop_own (block ds es) names k = drop_names es names k

drop_in_arms : (arms : Arms) (k : PlaceSources) (x : List ℕ) → dropped (in_arms arms k x) ≡ in_arms arms (dk k) x
drop_in_arms no_arm k x = refl
drop_in_arms (more_arms c b s arms) k x = ap₂ both (drop_if (block_defines b x) (k (Head ∷ Named x ∷ [])) none) (drop_in_arms arms (below Tail k) x)

drop_in_states : (ss : States) (k : PlaceSources) (x : List ℕ) → dropped (in_states ss k x) ≡ in_states ss (dk k) x
drop_in_states no_state k x = refl
drop_in_states (more_states f b until unless s ss) k x = ap₂ both (drop_if (block_defines b x) (k (Head ∷ Body ∷ Named x ∷ [])) none) (drop_in_states ss (below Tail k) x)

drop_of_conditions : (ts : List Trans) (k : PlaceSources) → dropped (of_conditions ts k) ≡ of_conditions ts (dk k)
drop_of_conditions [] k = refl
drop_of_conditions (t ∷ ts) k = ap (both (dropped (k (Head ∷ [])))) (drop_of_conditions ts (below Tail k))

drop_strong : (ss : States) (k : PlaceSources) → dropped (strong_ones ss k) ≡ strong_ones ss (dk k)
drop_strong no_state k = refl
drop_strong (more_states f b until unless s ss) k = ap₂ both (drop_of_conditions unless (below Unless (below Head k))) (drop_strong ss (below Tail k))

drop_weak : (ss : States) (k : PlaceSources) → dropped (weak_ones ss k) ≡ weak_ones ss (dk k)
drop_weak no_state k = refl
drop_weak (more_states f b until unless s ss) k = ap₂ both (drop_of_conditions until (below Until (below Head k))) (drop_weak ss (below Tail k))

mutual
  drop_expr : (e : Expr) (clock : Clock) (names : NameSources) (k : PlaceSources) → dk (at_expr e clock names k) ≡ at_expr e clock (dn names) (dk k)
  drop_expr (constant s c) clock names k = drop_one _ nowhere ∙ ap (λ s. at_one (also s) nowhere) (drop_clock clock names)
  drop_expr (variable s x) clock names k = drop_one _ nowhere ∙ ap (λ s. at_one (both (also s) (dropped (names x))) nowhere) (drop_clock clock names)
  drop_expr (last_of s x) clock names k = refl
  drop_expr (one s o a) clock names k =
      drop_one _ (at_expr a clock names (below First k)) ∙ ap₂ at_one (ap₂ (λ s t. both (also s) t) (drop_clock clock names) (drop_of (one s o a) names k)) (drop_expr a clock names (below First k))
  drop_expr (two s o a b) clock names k =
      let t = (ap₂ (λ s t. both (also s) t) (drop_clock clock names) (drop_of (two s o a b) names k)) in
      let u = drop_expr a clock names (below First k) in
      let v = drop_expr b clock names (below Second k) in
      drop_two _ (at_expr a clock names (below First k)) (at_expr b clock names (below Second k)) ∙ λ d. at_two (t d) (u d) (v d)
  drop_expr (choose s a b c) clock names k =
      let t = (ap₂ (λ s t. both (also s) t) (drop_clock clock names) (drop_of (choose s a b c) names k)) in
      let u = drop_expr a clock names (below First k) in
      let v = drop_expr b clock names (below Second k) in
      let x = drop_expr c clock names (below Third k) in
      drop_three _ (at_expr a clock names (below First k)) (at_expr b clock names (below Second k)) (at_expr c clock names (below Third k)) ∙ λ d. at_three (t d) (u d) (v d) (x d)
  drop_expr (pre s a) clock names k =
      drop_one _ (at_expr a clock names (below First k)) ∙ ap₂ (λ s t. at_one (also s) t) (drop_clock clock names) (drop_expr a clock names (below First k))
  drop_expr (fby s a b) clock names k =
      let t = (ap₂ (λ s t. both (also s) t) (drop_clock clock names) (drop_of (fby s a b) names k)) in
      let u = drop_expr a clock names (below First k) in
      let v = drop_expr b clock names (below Second k) in
      drop_two _ (at_expr a clock names (below First k)) (at_expr b clock names (below Second k)) ∙ λ d. at_two (t d) (u d) (v d)
  drop_expr (arrow s a b) clock names k =
      let t = (ap₂ (λ s t. both (also s) t) (drop_clock clock names) (drop_of (arrow s a b) names k)) in
      let u = drop_expr a clock names (below First k) in
      let v = drop_expr b clock names (below Second k) in
      drop_two _ (at_expr a clock names (below First k)) (at_expr b clock names (below Second k)) ∙ λ d. at_two (t d) (u d) (v d)
  drop_expr (when_is s a c x) clock names k =
      drop_one _ (at_expr a (without clock) names (below First k)) ∙ ap₂ at_one (ap₂ (λ s t. both (also s) t) (drop_clock clock names) (drop_of (when_is s a c x) names k)) (drop_expr a (without clock) names (below First k))
  drop_expr (merge s x ps) clock names k =
      drop_merge _ (at_parts ps x clock names (below Args k)) ∙ ap₂ at_merge (ap₂ (λ s t. both (also s) t) (drop_clock clock names) (drop_of (merge s x ps) names k)) (drop_parts ps x clock names (below Args k))
  drop_expr (call s f inlined es) clock names k =
      let t = (ap₂ (λ s t. both (also s) t) (drop_clock clock names) (drop_of_all es names (below Args k))) in
      let u = ap (λ s. both (also s) (dropped (k []))) (drop_clock clock names) in
      let v = drop_exprs es clock names (below Args k) in
      drop_call _ _ (at_exprs es clock names (below Args k)) ∙ λ d. at_call (t d) (u d) (v d)

  drop_exprs : (es : Exprs) (clock : Clock) (names : NameSources) (k : PlaceSources) → dk (at_exprs es clock names k) ≡ at_exprs es clock (dn names) (dk k)
  drop_exprs no_expr clock names k = refl
  drop_exprs (more_exprs e es) clock names k =
      drop_row (at_expr e clock names (below Head k)) (at_exprs es clock names (below Tail k)) ∙ ap₂ at_row (drop_expr e clock names (below Head k)) (drop_exprs es clock names (below Tail k))

  drop_parts : (ps : Parts) (x : List ℕ) (clock : Clock) (names : NameSources) (k : PlaceSources) → dk (at_parts ps x clock names k) ≡ at_parts ps x clock (dn names) (dk k)
  drop_parts no_part x clock names k = refl
  drop_parts (more_parts c e ps) x clock names k =
      drop_row (at_expr e ((c, x) ∷ clock) names (below Head k)) (at_parts ps x clock names (below Tail k)) ∙ ap₂ at_row (drop_expr e ((c, x) ∷ clock) names (below Head k)) (drop_parts ps x clock names (below Tail k))

drop_conditions : (ts : List Trans) (names : NameSources) (k : PlaceSources) → dk (at_conditions ts names k) ≡ at_conditions ts (dn names) (dk k)
drop_conditions [] names k = refl
drop_conditions (t ∷ ts) names k =
    drop_row (at_expr t.cond [] names (below Head k)) (at_conditions ts names (below Tail k)) ∙ ap₂ at_row (drop_expr t.cond [] names (below Head k)) (drop_conditions ts names (below Tail k))

-- ---- definitions and blocks

drop_definition : (ds : List Decl) (e : Eqn) (names : NameSources) (k : PlaceSources) (x : List ℕ) → dropped (of_definition ds e names k x) ≡ of_definition ds e (dn names) (dk k) x
drop_definition ds (define s ys e) names k x = ap₂ (λ s t. both (also s) t) (drop_clock (clock_of ds ys e) names) (drop_of e names (below Right k))
drop_definition ds (switch s e arms) names k x = ap₂ both (drop_of e names (below Test k)) (drop_in_arms arms (below ArmsOf k) x)
drop_definition ds (reset s b e) names k x = ap (λ s. both s (dropped (k (Body ∷ Named x ∷ [])))) (drop_of e names (below Test k))
drop_definition ds (automaton s ss) names k x = ap (both (dropped (k (Active ∷ [])))) (drop_in_states ss (below StatesOf k) x)

drop_definitions : (ds : List Decl) (es : Eqns) (names : NameSources) (k : PlaceSources) (x : List ℕ) → dropped (of_definitions ds es names k x) ≡ of_definitions ds es (dn names) (dk k) x
drop_definitions ds no_eqn names k x = refl
drop_definitions ds (more_eqns e es) names k x =
    drop_if (defines e x) (of_definition ds e names (below Head k) x) (of_definitions ds es names (below Tail k) x)
    ∙ ap₂ (λ s t. if defines e x then s else t) (drop_definition ds e names (below Head k) x) (drop_definitions ds es names (below Tail k) x)

mutual
  drop_in_block : (b : Block) (names : NameSources) (k : PlaceSources) → dk (in_block b names k) ≡ in_block b (dn names) (dk k)
  drop_in_block (block ds es) names k =
      let t = fun_ext (λ x. drop_definitions ds es (names_in es names k) (below Equations k) x) in
      let u = drop_equations ds es (names_in es names k) (below Equations k) in
      drop_block (of_definitions ds es (names_in es names k) (below Equations k)) (in_equations ds es (names_in es names k) (below Equations k))
      ∙ ap₂ at_block t u
      ∙ ap (λ n. at_block (of_definitions ds es n (below Equations (dk k))) (in_equations ds es n (below Equations (dk k)))) (drop_names es names k)

  drop_equations : (ds : List Decl) (es : Eqns) (names : NameSources) (k : PlaceSources) → dk (in_equations ds es names k) ≡ in_equations ds es (dn names) (dk k)
  drop_equations ds no_eqn names k = refl
  drop_equations ds (more_eqns e es) names k =
      drop_row (in_equation ds e names (below Head k)) (in_equations ds es names (below Tail k)) ∙ ap₂ at_row (drop_equation ds e names (below Head k)) (drop_equations ds es names (below Tail k))

  drop_equation : (ds : List Decl) (e : Eqn) (names : NameSources) (k : PlaceSources) → dk (in_equation ds e names k) ≡ in_equation ds e (dn names) (dk k)
  drop_equation ds (define s ys e) names k = drop_right (at_expr e (clock_of ds ys e) names (below Right k)) ∙ ap at_right (drop_expr e (clock_of ds ys e) names (below Right k))
  drop_equation ds (switch s e arms) names k =
      let t = drop_expr e [] names (below Test k) in
      let u = drop_of e names (below Test k) in
      let v = drop_each_arm arms (names_within (switch s e arms) names) (below ArmsOf k) ∙ ap (λ n. in_each_arm arms n (below ArmsOf (dk k))) (drop_within (switch s e arms) names) in
      drop_arms (at_expr e [] names (below Test k)) (of_expr e names (below Test k)) (in_each_arm arms (names_within (switch s e arms) names) (below ArmsOf k)) ∙ λ d. at_arms (t d) (u d) (v d)
  drop_equation ds (reset s b e) names k =
      let t = drop_expr e [] names (below Test k) in
      let u = drop_of e names (below Test k) in
      let v = drop_in_block b (names_within (reset s b e) names) (below Body k) ∙ ap (λ n. in_block b n (below Body (dk k))) (drop_within (reset s b e) names) in
      drop_body (at_expr e [] names (below Test k)) (of_expr e names (below Test k)) (in_block b (names_within (reset s b e) names) (below Body k)) ∙ λ d. at_body (t d) (u d) (v d)
  drop_equation ds (automaton s ss) names k =
      let t = drop_strong ss (below StatesOf k) in
      let u = ap (both (also (dropped (k (Active ∷ []))))) (drop_weak ss (below StatesOf k)) in
      let inner = names_within (automaton s ss) names in
      let v = drop_each_state ss (k (Active ∷ [])) names inner (below StatesOf k) ∙ ap (λ n. in_each_state ss (dropped (k (Active ∷ []))) (dn names) n (below StatesOf (dk k))) (drop_within (automaton s ss) names) in
      drop_words (strong_ones ss (below StatesOf k)) (both (also (k (Active ∷ []))) (weak_ones ss (below StatesOf k))) (in_each_state ss (k (Active ∷ [])) names inner (below StatesOf k)) ∙ λ d. at_words (t d) (u d) (v d)

  drop_each_arm : (arms : Arms) (names : NameSources) (k : PlaceSources) → dk (in_each_arm arms names k) ≡ in_each_arm arms (dn names) (dk k)
  drop_each_arm no_arm names k = refl
  drop_each_arm (more_arms c b s arms) names k =
      drop_row (in_block b names (below Head k)) (in_each_arm arms names (below Tail k)) ∙ ap₂ at_row (drop_in_block b names (below Head k)) (drop_each_arm arms names (below Tail k))

  drop_each_state : (ss : States) (active : Sources) (out names : NameSources) (k : PlaceSources) → dk (in_each_state ss active out names k) ≡ in_each_state ss (dropped active) (dn out) (dn names) (dk k)
  drop_each_state no_state active out names k = refl
  drop_each_state (more_states f b until unless s ss) active out names k =
      let kb = below Body (below Head k) in
      let ku = below Until (below Head k) in
      let own = names_in_block b names kb in
      let t = drop_in_block b names kb in
      let u = drop_conditions until own ku ∙ ap (λ n. at_conditions until n (dk ku)) (drop_own b names kb) in
      let v = drop_conditions unless out (below Unless (below Head k)) in
      let state = drop_state active (in_block b names kb) (at_conditions until own ku) (at_conditions unless out (below Unless (below Head k))) ∙ (λ d. at_state (dropped active) (t d) (u d) (v d)) in
      drop_row (at_state active (in_block b names kb) (at_conditions until own ku) (at_conditions unless out (below Unless (below Head k)))) (in_each_state ss active out names (below Tail k))
      ∙ ap₂ at_row state (drop_each_state ss active out names (below Tail k))

-- ---- nodes

drop_told : (e : Option Expr) (names : NameSources) (k : PlaceSources) → dk (at_told e names k) ≡ at_told e (dn names) (dk k)
drop_told None names k = refl
drop_told (Some e) names k = drop_expr e [] names k

drop_contract : (c : Option Contract) (names : NameSources) (k : PlaceSources) (p : Place) → dropped (in_contract c names k p) ≡ in_contract c (dn names) (dk k) p
drop_contract None names k p = refl
drop_contract (Some c) names k (Observer ∷ p) = ap (λ (f : PlaceSources). f p) (drop_in_block c.body names (below Observer k))
drop_contract (Some c) names k (Assume ∷ p) =
    ap (λ (f : PlaceSources). f p) (drop_told c.assume (names_in_block c.body names (below Observer k)) (below Assume k) ∙ ap (λ n. at_told c.assume n (below Assume (dk k))) (drop_own c.body names (below Observer k)))
drop_contract (Some c) names k (Enforce ∷ p) =
    ap (λ (f : PlaceSources). f p) (drop_told c.enforce (names_in_block c.body names (below Observer k)) (below Enforce k) ∙ ap (λ n. at_told c.enforce n (below Enforce (dk k))) (drop_own c.body names (below Observer k)))
drop_contract (Some c) names k p = refl

drop_row_in : (ds : List Decl) (k : PlaceSources) (out : NameSources) (x : List ℕ) → dropped (row_in ds k out x) ≡ row_in ds (dk k) (dn out) x
drop_row_in [] k out x = refl
drop_row_in (d ∷ ds) k out x =
    drop_if (bytes_eq d.name x) (k (Head ∷ [])) (row_in ds (below Tail k) out x) ∙ ap (λ s. if bytes_eq d.name x then dropped (k (Head ∷ [])) else s) (drop_row_in ds (below Tail k) out x)

either_none : (d : Bool) (s : Sources) → s ≡ none → (if d then none else s) ≡ none
either_none true s e = refl
either_none false s e = e

no_inputs : (ds : List Decl) (x : List ℕ) → row_in ds (λ p. none) (λ y. none) x ≡ none
no_inputs [] x = refl
no_inputs (d ∷ ds) x = either_none (bytes_eq d.name x) (row_in ds (λ p. none) (λ y. none) x) (no_inputs ds x)

as_controls : (ds : List Decl) (k : PlaceSources) (out : NameSources) (x : List ℕ) → out x ≡ none → row_in ds k out x ≡ control_in ds k x
as_controls [] k out x e = e
as_controls (d ∷ ds) k out x e = ap (λ s. if bytes_eq d.name x then k (Head ∷ []) else s) (as_controls ds (below Tail k) out x e)

drop_inputs : (n : Node) (x : List ℕ) → dropped (input_in n only x) ≡ none
drop_inputs n x = drop_row_in n.inputs (below Inputs only) (λ y. none) x ∙ no_inputs n.inputs x

body_names : (n : Node) (x : List ℕ) → dropped (row_in (controls_of n.contract) (below Controls only) (input_in n only) x) ≡ control_in (controls_of n.contract) (below Controls only) x
body_names n x = drop_row_in (controls_of n.contract) (below Controls only) (input_in n only) x ∙ as_controls (controls_of n.contract) (below Controls only) (dn (input_in n only)) x (drop_inputs n x)

or_none : (d e : Bool) (s : Sources) → (if d then (if d && e then s else none) else none) ≡ (if d && e then s else none)
or_none true e s = refl
or_none false e s = refl

contract_names : (n : Node) (x : List ℕ) → dropped (if declares n.outputs x then output_in n (below Body only) x else input_in n only x) ≡ output_in n (below Body only) x
contract_names n x =
    drop_if (declares n.outputs x) (output_in n (below Body only) x) (input_in n only x)
    ∙ ap₂ (λ s t. if declares n.outputs x then s else t) (drop_if (declares n.outputs x && has_equation n.body x) (only (Body ∷ Named x ∷ [])) none) (drop_inputs n x)
    ∙ or_none (declares n.outputs x) (has_equation n.body x) (only (Body ∷ Named x ∷ []))

contract_only : (c : Option Contract) (names : NameSources) (p : Place) → in_contract c names (dk only) p ≡ in_contract c names only p
contract_only None names p = refl
contract_only (Some c) names (Observer ∷ p) = refl
contract_only (Some c) names (Assume ∷ p) = refl
contract_only (Some c) names (Enforce ∷ p) = refl
contract_only (Some c) names p = refl

drop_node : (n : Node) (p : Place) → dropped (in_node_with_inputs n only p) ≡ in_node n only p
drop_node n (Named x ∷ []) = drop_if (declares n.outputs x && has_equation n.body x) (only (Body ∷ Named x ∷ [])) none
drop_node n (Body ∷ p) =
    ap (λ (f : PlaceSources). f p) (drop_in_block n.body (row_in (controls_of n.contract) (below Controls only) (input_in n only)) (below Body only))
    ∙ ap (λ m. in_block n.body m (below Body only) p) (fun_ext (body_names n))
drop_node n p =
    drop_contract n.contract (λ x. if declares n.outputs x then output_in n (below Body only) x else input_in n only x) only p
    ∙ ap (λ m. in_contract n.contract m (dk only) p) (fun_ext (contract_names n))
    ∙ contract_only n.contract (output_in n (below Body only)) p

kept : (q : Place) → ((r : Place) → q ≡ Inputs ∷ r → ⊥) → (s : Sources) → IsRead q s → IsRead q (dropped s)
kept q f none h = h
kept q f (only (Inputs ∷ p)) h = f p h
kept q f (only p) h = h
kept q f (both s t) (inl h) = inl (kept q f s h)
kept q f (both s t) (inr h) = inr (kept q f t h)
kept q f (also s) h = h

back : (q : Place) (s : Sources) → IsRead q (dropped s) → IsRead q s
back q none h = h
back q (only (Inputs ∷ p)) h = absurd h
back q (only p) h = h
back q (both s t) (inl h) = inl (back q s h)
back q (both s t) (inr h) = inr (back q t h)
back q (also s) h = h

pub same_reads : SameReadsLaw
same_reads n p q f = (
  λ h. subst (IsRead q) (drop_node n p) (kept q f (in_node_with_inputs n only p) h),
  λ h. back q (in_node_with_inputs n only p) (subst (IsRead q) (sym (drop_node n p)) h),
)
