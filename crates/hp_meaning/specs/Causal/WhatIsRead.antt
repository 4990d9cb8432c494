-- What each place of a node reads at one instant.
-- Source: the causality of Colaço, Pagano and Pouzet (EMSOFT 2005), said of places. What an earlier instant gives is not read.
use Rattle.std.specs.Prelude.{ℕ, Bool, ◌&&◌, List, [], ◌∷◌, Option, None, Some, if◌then◌else◌}
use Rattle.std.specs.Str.{bytes_eq}
use Rattle.hp_tree.specs.declared.block.Trans.{Trans}
use Rattle.hp_tree.specs.Expressions.{Expr, constant, variable, last_of, one, two, choose, pre, fby, arrow, when_is, merge, call, Exprs, no_expr, more_exprs, Parts, no_part, more_parts}
use Rattle.hp_tree.specs.Blocks.{Decl, Block, block, Eqns, no_eqn, more_eqns, Eqn, define, switch, reset, automaton, Arms, no_arm, more_arms, States, no_state, more_states}
use Rattle.hp_tree.specs.Programs.{Contract, Node}
use Rattle.hp_tree.specs.Instant.{Body, Controls, Observer, Assume, Enforce, Named, Equations, Head, Tail, Right, Test, Arms as ArmsOf, States as StatesOf, Until, Unless, Active, First, Second, Third, Args, Clock, without}
use Rattle.hp_tree.specs.Meaning.{declares, defines, some_defines, block_defines, clock_of, controls_of}
use Rattle.hp_meaning.specs.Causal.Sources.{Sources, none, both, also, NameSources, PlaceSources, below, nowhere, at_one, at_two, at_three, at_row, at_merge, at_call, at_block, at_right, at_arms, at_body, at_state, at_words}

-- the names of a clock
abbrev pub of_clock : Clock → NameSources → Sources
of_clock [] names = none
of_clock (on ∷ clock) names = both (names on.1) (of_clock clock names)

-- What an expression reads. What stands under `pre` and behind `fby` is not read, nor is `last x`; a call is read as a whole.
abbrev mutual
  pub of_expr : Expr → NameSources → PlaceSources → Sources
  of_expr (constant s c) names k = none
  of_expr (variable s x) names k = names x
  of_expr (last_of s x) names k = none
  of_expr (one s o a) names k = of_expr a names (below First k)
  of_expr (two s o a b) names k = both (of_expr a names (below First k)) (of_expr b names (below Second k))
  of_expr (choose s a b c) names k =
      both (of_expr a names (below First k)) (both (of_expr b names (below Second k)) (of_expr c names (below Third k)))
  of_expr (pre s a) names k = none
  of_expr (fby s a b) names k = of_expr a names (below First k)
  of_expr (arrow s a b) names k = both (of_expr a names (below First k)) (of_expr b names (below Second k))
  of_expr (when_is s a c x) names k = both (names x) (of_expr a names (below First k))
  of_expr (merge s x ps) names k = both (names x) (of_parts ps names (below Args k))
  of_expr (call s f inlined es) names k = k []

  pub of_exprs : Exprs → NameSources → PlaceSources → Sources
  of_exprs no_expr names k = none
  of_exprs (more_exprs e es) names k = both (of_expr e names (below Head k)) (of_exprs es names (below Tail k))

  pub of_parts : Parts → NameSources → PlaceSources → Sources
  of_parts no_part names k = none
  of_parts (more_parts c e ps) names k = both (of_expr e names (below Head k)) (of_parts ps names (below Tail k))

-- ---- names

-- A name that a block defines is its point there, and every other one is looked for further out.
abbrev pub names_in : Eqns → NameSources → PlaceSources → NameSources
names_in es names k x = if some_defines es x then k (Named x ∷ []) else names x

-- Inside the control equation that defines a name its last value is read, which reads nothing.
abbrev pub names_within : Eqn → NameSources → NameSources
names_within e names x = if defines e x then none else names x

abbrev pub names_in_block : Block → NameSources → PlaceSources → NameSources
names_in_block (block ds es) names k = names_in es names k

-- ---- what the definition of a name reads, and the words of an automaton

-- the definitions in the arms, or in the states
abbrev pub in_arms : Arms → PlaceSources → NameSources
in_arms no_arm k x = none
in_arms (more_arms c b s arms) k x =
    both (if block_defines b x then k (Head ∷ Named x ∷ []) else none) (in_arms arms (below Tail k) x)

abbrev pub in_states : States → PlaceSources → NameSources
in_states no_state k x = none
in_states (more_states f b until unless s ss) k x =
    both (if block_defines b x then k (Head ∷ Body ∷ Named x ∷ []) else none) (in_states ss (below Tail k) x)

-- conditions of transitions
abbrev pub of_conditions : List Trans → PlaceSources → Sources
of_conditions [] k = none
of_conditions (t ∷ ts) k = both (k (Head ∷ [])) (of_conditions ts (below Tail k))

abbrev pub strong_ones : States → PlaceSources → Sources
strong_ones no_state k = none
strong_ones (more_states f b until unless s ss) k =
    both (of_conditions unless (below Unless (below Head k))) (strong_ones ss (below Tail k))

abbrev pub weak_ones : States → PlaceSources → Sources
weak_ones no_state k = none
weak_ones (more_states f b until unless s ss) k =
    both (of_conditions until (below Until (below Head k))) (weak_ones ss (below Tail k))

-- ---- what a node's block and its contract see

-- a controllable variable is its place
abbrev pub control_in : List Decl → PlaceSources → NameSources
control_in [] k x = none
control_in (d ∷ ds) k x = if bytes_eq d.name x then k (Head ∷ []) else control_in ds (below Tail k) x

abbrev pub has_equation : Block → List ℕ → Bool
has_equation (block ds es) x = some_defines es x

-- an output is its definition in the body
abbrev pub output_in : Node → PlaceSources → NameSources
output_in n k x = if declares n.outputs x && has_equation n.body x then k (Named x ∷ []) else none

-- what the occurrences in an expression on a clock read
abbrev mutual
  pub at_expr : Expr → Clock → NameSources → PlaceSources → PlaceSources
  at_expr (constant s c) clock names k = at_one (also (of_clock clock names)) nowhere
  at_expr (variable s x) clock names k = at_one (both (also (of_clock clock names)) (names x)) nowhere
  at_expr (last_of s x) clock names k = nowhere
  at_expr (one s o a) clock names k =
      at_one (both (also (of_clock clock names)) (of_expr (one s o a) names k)) (at_expr a clock names (below First k))
  at_expr (two s o a b) clock names k =
      at_two (both (also (of_clock clock names)) (of_expr (two s o a b) names k))
      (at_expr a clock names (below First k)) (at_expr b clock names (below Second k))
  at_expr (choose s a b c) clock names k =
      at_three (both (also (of_clock clock names)) (of_expr (choose s a b c) names k))
      (at_expr a clock names (below First k)) (at_expr b clock names (below Second k)) (at_expr c clock names (below Third k))
  at_expr (pre s a) clock names k = at_one (also (of_clock clock names)) (at_expr a clock names (below First k))
  at_expr (fby s a b) clock names k =
      at_two (both (also (of_clock clock names)) (of_expr (fby s a b) names k))
      (at_expr a clock names (below First k)) (at_expr b clock names (below Second k))
  at_expr (arrow s a b) clock names k =
      at_two (both (also (of_clock clock names)) (of_expr (arrow s a b) names k))
      (at_expr a clock names (below First k)) (at_expr b clock names (below Second k))
  at_expr (when_is s a c x) clock names k =
      at_one (both (also (of_clock clock names)) (of_expr (when_is s a c x) names k)) (at_expr a (without clock) names (below First k))
  at_expr (merge s x ps) clock names k =
      at_merge (both (also (of_clock clock names)) (of_expr (merge s x ps) names k)) (at_parts ps x clock names (below Args k))
  at_expr (call s f inlined es) clock names k =
      at_call (both (also (of_clock clock names)) (of_exprs es names (below Args k))) (both (also (of_clock clock names)) (k []))
      (at_exprs es clock names (below Args k))

  pub at_exprs : Exprs → Clock → NameSources → PlaceSources → PlaceSources
  at_exprs no_expr clock names k = nowhere
  at_exprs (more_exprs e es) clock names k = at_row (at_expr e clock names (below Head k)) (at_exprs es clock names (below Tail k))

  pub at_parts : Parts → List ℕ → Clock → NameSources → PlaceSources → PlaceSources
  at_parts no_part x clock names k = nowhere
  at_parts (more_parts c e ps) x clock names k =
      at_row (at_expr e ((c, x) ∷ clock) names (below Head k)) (at_parts ps x clock names (below Tail k))

abbrev pub at_conditions : List Trans → NameSources → PlaceSources → PlaceSources
at_conditions [] names k = nowhere
at_conditions (t ∷ ts) names k = at_row (at_expr t.cond [] names (below Head k)) (at_conditions ts names (below Tail k))

-- what the definition of a name by an equation, or by one of some, reads
abbrev pub of_definition : List Decl → Eqn → NameSources → PlaceSources → NameSources
of_definition ds (define s ys e) names k x = both (also (of_clock (clock_of ds ys e) names)) (of_expr e names (below Right k))
of_definition ds (switch s e arms) names k x = both (of_expr e names (below Test k)) (in_arms arms (below ArmsOf k) x)
of_definition ds (reset s b e) names k x = both (of_expr e names (below Test k)) (k (Body ∷ Named x ∷ []))
of_definition ds (automaton s ss) names k x = both (k (Active ∷ [])) (in_states ss (below StatesOf k) x)

abbrev pub of_definitions : List Decl → Eqns → NameSources → PlaceSources → NameSources
of_definitions ds no_eqn names k x = none
of_definitions ds (more_eqns e es) names k x =
    if defines e x then of_definition ds e names (below Head k) x else of_definitions ds es names (below Tail k) x

-- what the places of a block read
abbrev mutual
  pub in_block : Block → NameSources → PlaceSources → PlaceSources
  in_block (block ds es) names k =
      at_block (of_definitions ds es (names_in es names k) (below Equations k)) (in_equations ds es (names_in es names k) (below Equations k))

  pub in_equations : List Decl → Eqns → NameSources → PlaceSources → PlaceSources
  in_equations ds no_eqn names k = nowhere
  in_equations ds (more_eqns e es) names k = at_row (in_equation ds e names (below Head k)) (in_equations ds es names (below Tail k))

  pub in_equation : List Decl → Eqn → NameSources → PlaceSources → PlaceSources
  in_equation ds (define s ys e) names k = at_right (at_expr e (clock_of ds ys e) names (below Right k))
  in_equation ds (switch s e arms) names k =
      at_arms (at_expr e [] names (below Test k)) (of_expr e names (below Test k))
      (in_each_arm arms (names_within (switch s e arms) names) (below ArmsOf k))
  in_equation ds (reset s b e) names k =
      at_body (at_expr e [] names (below Test k)) (of_expr e names (below Test k))
      (in_block b (names_within (reset s b e) names) (below Body k))
  in_equation ds (automaton s ss) names k =
      at_words (strong_ones ss (below StatesOf k)) (both (also (k (Active ∷ []))) (weak_ones ss (below StatesOf k)))
      (in_each_state ss (k (Active ∷ [])) names (names_within (automaton s ss) names) (below StatesOf k))

  pub in_each_arm : Arms → NameSources → PlaceSources → PlaceSources
  in_each_arm no_arm names k = nowhere
  in_each_arm (more_arms c b s arms) names k = at_row (in_block b names (below Head k)) (in_each_arm arms names (below Tail k))

  -- the states of an automaton with this active word: strong conditions are read with the names outside of it
  pub in_each_state : States → Sources → NameSources → NameSources → PlaceSources → PlaceSources
  in_each_state no_state active out names k = nowhere
  in_each_state (more_states f b until unless s ss) active out names k =
      at_row
      (at_state active
      (in_block b names (below Body (below Head k)))
      (at_conditions until (names_in_block b names (below Body (below Head k))) (below Until (below Head k)))
      (at_conditions unless out (below Unless (below Head k))))
      (in_each_state ss active out names (below Tail k))

-- ---- nodes

abbrev pub at_told : Option Expr → NameSources → PlaceSources → PlaceSources
at_told None names k = nowhere
at_told (Some e) names k = at_expr e [] names k

-- a contract, which sees the outputs
abbrev pub in_contract : Option Contract → NameSources → PlaceSources → PlaceSources
in_contract (Some c) names k (Observer ∷ p) = in_block c.body names (below Observer k) p
in_contract (Some c) names k (Assume ∷ p) = at_told c.assume (names_in_block c.body names (below Observer k)) (below Assume k) p
in_contract (Some c) names k (Enforce ∷ p) = at_told c.enforce (names_in_block c.body names (below Observer k)) (below Enforce k) p
in_contract contract names k p = none

abbrev pub in_node : Node → PlaceSources → PlaceSources
in_node n k (Named x ∷ []) = output_in n (below Body k) x
in_node n k (Body ∷ p) = in_block n.body (control_in (controls_of n.contract) (below Controls k)) (below Body k) p
in_node n k p = in_contract n.contract (output_in n (below Body k)) k p
