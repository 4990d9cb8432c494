-- The comparisons and calls of a part in the order of slots, each with the place where it stands in the program without automata.
-- Source: own. The order is that of a node's free places (`hp_meaning/specs/Contract/Slots.antt`): each operator before its operands; the body of a `reset` before its condition; of a state its body, then `until`, then `unless`.
use Rattle.std.specs.Prelude.{ℕ, if◌then◌else◌, List, [], ◌∷◌, ◌++◌}
use Rattle.hp_tree.specs.declared.block.Trans.{Trans}
use Rattle.hp_tree.specs.declared.expr.Op2.{Op2}
use Rattle.hp_tree.specs.Expressions.{Expr, constant, variable, last_of, one, two, choose, pre, fby, arrow, when_is, merge, call, Exprs, no_expr, more_exprs, Parts, no_part, more_parts}
use Rattle.hp_tree.specs.Blocks.{Block, block, Eqns, no_eqn, more_eqns, Eqn, define, switch, reset, automaton, Arms, no_arm, more_arms, States, no_state, more_states}
use Rattle.hp_tree.specs.Programs.{Node}
use Rattle.hp_tree.specs.Instant.{Body, Equations, Head, Tail, Right, Test, Arms as ArmsOf, States as StatesOf, Until, Unless, First, Second, Third, Args}
use Rattle.hp_tables.specs.Defining.Names.{names_of_states}
use Rattle.hp_automata.specs.Names.{once}
use Rattle.law_equations.specs.Flattened.Flatten.{Prefix, below}
use Rattle.hp_watch.specs.Walk.{compares}
use Rattle.law_choices.specs.Places.Spots.{Spot, compared, call_spot}

-- what stands behind so many in a row
abbrev pub behind : {A : Type 0} → List A → Prefix → Prefix
behind [] here = here
behind (x ∷ xs) here = behind xs (below Tail here)

-- where the equations of the states begin in what stands for an automaton
abbrev pub at_states : States → Prefix → Prefix
at_states ss here = behind (once (names_of_states ss)) (below Tail (below Tail (below Equations (below Body here))))

-- the equations of a state stand in a row: those of its strong transitions, the jump from it, the word whether it is active, and its `switch`; its body stands in the true arm of that
abbrev pub behind_state : List Trans → Prefix → Prefix
behind_state unless here = below Tail (below Tail (below Tail (behind unless here)))

abbrev pub at_body : List Trans → Prefix → Prefix
at_body unless here = below Body (below Head (below Equations (below Head (below ArmsOf (below Head (below Tail (below Tail (behind unless here))))))))

-- the condition of the transition that stands there
abbrev pub at_condition : Prefix → Prefix
at_condition here = below First (below Right (below Head here))

-- each where it stands in its part, and in what is made of that
abbrev pub Both : Type 0
Both = List (Spot × Spot)

module _ (outputs : List ℕ → List (List ℕ)) where
  abbrev pub both_compared : Op2 → Prefix → Prefix → Both
  both_compared o w here = if compares o then (compared o (w []), compared o (here [])) ∷ [] else []

  abbrev mutual
    pub found : Expr → Prefix → Prefix → Both
    found (constant s c) w here = []
    found (variable s x) w here = []
    found (last_of s x) w here = []
    found (one s o a) w here = found a (below First w) (below First here)
    found (two s o a b) w here = both_compared o w here ++ (found a (below First w) (below First here) ++ found b (below Second w) (below Second here))
    found (choose s a b c) w here = found a (below First w) (below First here) ++ (found b (below Second w) (below Second here) ++ found c (below Third w) (below Third here))
    found (pre s a) w here = found a (below First w) (below First here)
    found (fby s a b) w here = found a (below First w) (below First here) ++ found b (below Second w) (below Second here)
    found (arrow s a b) w here = found a (below First w) (below First here) ++ found b (below Second w) (below Second here)
    found (when_is s a c x) w here = found a (below First w) (below First here)
    found (merge s x ps) w here = found_in_parts ps (below Args w) (below Args here)
    found (call s f inlined es) w here = (call_spot outputs f w, call_spot outputs f here) ∷ found_in_all es (below Args w) (below Args here)

    pub found_in_all : Exprs → Prefix → Prefix → Both
    found_in_all no_expr w here = []
    found_in_all (more_exprs e es) w here = found e (below Head w) (below Head here) ++ found_in_all es (below Tail w) (below Tail here)

    pub found_in_parts : Parts → Prefix → Prefix → Both
    found_in_parts no_part w here = []
    found_in_parts (more_parts c e ps) w here = found e (below Head w) (below Head here) ++ found_in_parts ps (below Tail w) (below Tail here)

  abbrev pub found_in_conditions : List Trans → Prefix → Prefix → Both
  found_in_conditions [] w here = []
  found_in_conditions (t ∷ ts) w here = found t.cond (below Head w) (at_condition here) ++ found_in_conditions ts (below Tail w) (below Tail here)

  abbrev mutual
    pub found_in_block : Block → Prefix → Prefix → Both
    found_in_block (block ds es) w here = found_in_eqns es (below Equations w) (below Equations here)

    pub found_in_eqns : Eqns → Prefix → Prefix → Both
    found_in_eqns no_eqn w here = []
    found_in_eqns (more_eqns e es) w here = found_in_eqn e (below Head w) (below Head here) ++ found_in_eqns es (below Tail w) (below Tail here)

    pub found_in_eqn : Eqn → Prefix → Prefix → Both
    found_in_eqn (define s ys e) w here = found e (below Right w) (below Right here)
    found_in_eqn (switch s e arms) w here = found e (below Test w) (below Test here) ++ found_in_arms arms (below ArmsOf w) (below ArmsOf here)
    found_in_eqn (reset s b e) w here = found_in_block b (below Body w) (below Body here) ++ found e (below Test w) (below Test here)
    found_in_eqn (automaton s ss) w here = found_in_states ss (below StatesOf w) (at_states ss here)

    pub found_in_arms : Arms → Prefix → Prefix → Both
    found_in_arms no_arm w here = []
    found_in_arms (more_arms c b s arms) w here = found_in_block b (below Head w) (below Head here) ++ found_in_arms arms (below Tail w) (below Tail here)

    pub found_in_states : States → Prefix → Prefix → Both
    found_in_states no_state w here = []
    found_in_states (more_states f b until unless s ss) w here =
        found_in_body until b (below Body (below Head w)) (at_body unless here)
        ++ (found_in_conditions until (below Until (below Head w)) (below Equations (at_body unless here))
        ++ (found_in_conditions unless (below Unless (below Head w)) here ++ found_in_states ss (below Tail w) (behind_state unless here)))

    -- the body of a state, whose weak transitions stand in front, with the next jump behind them
    pub found_in_body : List Trans → Block → Prefix → Prefix → Both
    found_in_body until (block ds es) w here = found_in_eqns es (below Equations w) (below Tail (behind until (below Equations here)))

  -- the body of a node
  abbrev pub found_in_node : Node → Both
  found_in_node n = found_in_block n.body (λ p. Body ∷ p) (λ p. Body ∷ p)
