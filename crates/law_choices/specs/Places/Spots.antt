-- The comparisons and calls of a part without automata, in the order in which equations are made of them.
-- Source: own. Clocked equations (Biernacki, Colaço, Hamon, Pouzet, LCTES 2008) are made of an operator behind those of its operands.
use Rattle.std.specs.Prelude.{ℕ, if◌then◌else◌, List, [], ◌∷◌, ◌++◌, map}
use Rattle.hp_tree.specs.declared.expr.Op2.{Op2}
use Rattle.hp_tree.specs.Expressions.{Expr, constant, variable, last_of, one, two, choose, pre, fby, arrow, when_is, merge, call, Exprs, no_expr, more_exprs, Parts, no_part, more_parts}
use Rattle.hp_tree.specs.Blocks.{Block, block, Eqns, no_eqn, more_eqns, Eqn, define, switch, reset, automaton, Arms, no_arm, more_arms}
use Rattle.hp_tree.specs.Programs.{Node}
use Rattle.hp_tree.specs.Instant.{Body, Named, Equations, Head, Tail, Right, Test, Arms as ArmsOf, First, Second, Third, Args, Instance, Place}
use Rattle.law_equations.specs.Flattened.Flatten.{Prefix, below}
use Rattle.hp_watch.specs.Walk.{compares}

-- the place of a comparison, and the places of the outputs of a call
pub data Spot : Type 0 where
  compared : Op2 → Place → Spot
  called : List ℕ → List Place → Spot

module _ (outputs : List ℕ → List (List ℕ)) where
  abbrev pub call_spot : List ℕ → Prefix → Spot
  call_spot f here = called f (map (λ (o : List ℕ). here (Instance ∷ Named o ∷ [])) (outputs f))

  abbrev pub compared_spots : Op2 → Prefix → List Spot
  compared_spots o here = if compares o then compared o (here []) ∷ [] else []

  abbrev mutual
    pub spots : Expr → Prefix → List Spot
    spots (constant s c) here = []
    spots (variable s x) here = []
    spots (last_of s x) here = []
    spots (one s o a) here = spots a (below First here)
    spots (two s o a b) here = spots a (below First here) ++ (spots b (below Second here) ++ compared_spots o here)
    spots (choose s a b c) here = spots a (below First here) ++ (spots b (below Second here) ++ spots c (below Third here))
    spots (pre s a) here = spots a (below First here)
    spots (fby s a b) here = spots a (below First here) ++ spots b (below Second here)
    spots (arrow s a b) here = spots a (below First here) ++ spots b (below Second here)
    spots (when_is s a c x) here = spots a (below First here)
    spots (merge s x ps) here = spots_of_parts ps (below Args here)
    spots (call s f inlined es) here = spots_of_all es (below Args here) ++ call_spot f here ∷ []

    pub spots_of_all : Exprs → Prefix → List Spot
    spots_of_all no_expr here = []
    spots_of_all (more_exprs e es) here = spots e (below Head here) ++ spots_of_all es (below Tail here)

    pub spots_of_parts : Parts → Prefix → List Spot
    spots_of_parts no_part here = []
    spots_of_parts (more_parts c e ps) here = spots e (below Head here) ++ spots_of_parts ps (below Tail here)

  -- of blocks without automata: the condition of a `reset` before its body
  abbrev mutual
    pub spots_of_block : Block → Prefix → List Spot
    spots_of_block (block ds es) here = spots_of_eqns es (below Equations here)

    pub spots_of_eqns : Eqns → Prefix → List Spot
    spots_of_eqns no_eqn here = []
    spots_of_eqns (more_eqns e es) here = spots_of_eqn e (below Head here) ++ spots_of_eqns es (below Tail here)

    pub spots_of_eqn : Eqn → Prefix → List Spot
    spots_of_eqn (define s ys e) here = spots e (below Right here)
    spots_of_eqn (switch s e arms) here = spots e (below Test here) ++ spots_of_arms arms (below ArmsOf here)
    spots_of_eqn (reset s b e) here = spots e (below Test here) ++ spots_of_block b (below Body here)
    spots_of_eqn (automaton s ss) here = []

    pub spots_of_arms : Arms → Prefix → List Spot
    spots_of_arms no_arm here = []
    spots_of_arms (more_arms c b s arms) here = spots_of_block b (below Head here) ++ spots_of_arms arms (below Tail here)

  -- the body of a node
  abbrev pub spots_of_node : Node → List Spot
  spots_of_node n = spots_of_block n.body (λ p. Body ∷ p)
