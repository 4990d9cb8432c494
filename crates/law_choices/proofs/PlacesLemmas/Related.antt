-- What a walk over a part finds stands in a relation where each place does with the one that stands for it.
use Rattle.std.proofs.Common.{ℕ, List, [], ◌∷◌, ◌++◌, map}
use Rattle.std.specs.Prelude.{Bool, true, false, if◌then◌else◌}
use Rattle.hp_tree.specs.declared.block.Trans.{Trans}
use Rattle.hp_tree.specs.declared.expr.Op2.{Op2}
use Rattle.hp_tree.specs.Expressions.{Expr, constant, variable, last_of, one, two, choose, pre, fby, arrow, when_is, merge, call, Exprs, no_expr, more_exprs, Parts, no_part, more_parts}
use Rattle.hp_tree.specs.Blocks.{Block, block, Eqns, no_eqn, more_eqns, Eqn, define, switch, reset, automaton, Arms, no_arm, more_arms, States, no_state, more_states}
use Rattle.hp_tree.specs.Instant.{Body, Named, Equations, Head, Tail, Right, Test, Arms as ArmsOf, States as StatesOf, Until, Unless, First, Second, Third, Args, Instance, Place}
use Rattle.hp_tree.specs.Reaction.{Each}
use Rattle.law_automata.specs.Lowered.Standing.{Along}
use Rattle.law_equations.specs.Flattened.Flatten.{Prefix, below}
use Rattle.hp_watch.specs.Walk.{compares}
use Rattle.law_choices.specs.Places.Spots.{Spot, compared}
use Rattle.law_choices.specs.Places.Found.{at_states, behind, behind_state, at_body, at_condition, Both, both_compared, found, found_in_all, found_in_parts, found_in_conditions, found_in_block, found_in_eqns, found_in_eqn, found_in_arms, found_in_states, found_in_body}
use Rattle.law_choices.specs.Places.Laws.{places_of}

each-both : (P : Spot × Spot → Type 0) (xs ys : Both) → Each P xs → Each P ys → Each P (xs ++ ys)
each-both P [] ys h k = k
each-both P (x ∷ xs) ys h k = (h.0, each-both P xs ys h.1 k)

along-map : (P : Place → Place → Type 0) (f g : List ℕ → Place) (os : List (List ℕ)) → ((o : List ℕ) → P (f o) (g o)) → Along P (map f os) (map g os)
along-map P f g [] h = tt
along-map P f g (o ∷ os) h = (h o, along-map P f g os h)

module _ (outputs : List ℕ → List (List ℕ)) (R : Place → Place → Type 0) where
  abbrev pub All : Both → Type 0
  All fs = Each (λ (s : Spot × Spot). Along R (places_of s.0) (places_of s.1)) fs

  pub all-both : (fs gs : Both) → All fs → All gs → All (fs ++ gs)
  all-both fs gs h k = each-both (λ (s : Spot × Spot). Along R (places_of s.0) (places_of s.1)) fs gs h k

  compared-related : (o : Op2) (w here : Prefix) → R (w []) (here []) → All (both_compared outputs o w here)
  compared-related o w here h = by (compares o)
    where
      by : (c : Bool) → All (if c then (compared o (w []), compared o (here [])) ∷ [] else [])
      by true = ((h, tt), tt)
      by false = tt

  -- each place of a part and the one that stands for it
  abbrev pub Related : Prefix → Prefix → Type 0
  Related w here = (p : Place) → R (w p) (here p)

  -- each place of a part and any other one
  abbrev pub Hidden : Prefix → Type 0
  Hidden w = (p q : Place) → R (w p) q

  mutual
    pub expr-related : (e : Expr) (w here : Prefix) → Related w here → All (found outputs e w here)
    expr-related (constant s c) w here h = tt
    expr-related (variable s x) w here h = tt
    expr-related (last_of s x) w here h = tt
    expr-related (one s o a) w here h = expr-related a (below First w) (below First here) (λ p. h (First ∷ p))
    expr-related (two s o a b) w here h =
        all-both (both_compared outputs o w here) (found outputs a (below First w) (below First here) ++ found outputs b (below Second w) (below Second here)) (compared-related o w here (h []))
        (all-both (found outputs a (below First w) (below First here)) (found outputs b (below Second w) (below Second here)) (expr-related a (below First w) (below First here) (λ p. h (First ∷ p))) (expr-related b (below Second w) (below Second here) (λ p. h (Second ∷ p))))
    expr-related (choose s a b c) w here h =
        all-both (found outputs a (below First w) (below First here)) (found outputs b (below Second w) (below Second here) ++ found outputs c (below Third w) (below Third here)) (expr-related a (below First w) (below First here) (λ p. h (First ∷ p)))
        (all-both (found outputs b (below Second w) (below Second here)) (found outputs c (below Third w) (below Third here)) (expr-related b (below Second w) (below Second here) (λ p. h (Second ∷ p))) (expr-related c (below Third w) (below Third here) (λ p. h (Third ∷ p))))
    expr-related (pre s a) w here h = expr-related a (below First w) (below First here) (λ p. h (First ∷ p))
    expr-related (fby s a b) w here h =
        all-both (found outputs a (below First w) (below First here)) (found outputs b (below Second w) (below Second here)) (expr-related a (below First w) (below First here) (λ p. h (First ∷ p))) (expr-related b (below Second w) (below Second here) (λ p. h (Second ∷ p)))
    expr-related (arrow s a b) w here h =
        all-both (found outputs a (below First w) (below First here)) (found outputs b (below Second w) (below Second here)) (expr-related a (below First w) (below First here) (λ p. h (First ∷ p))) (expr-related b (below Second w) (below Second here) (λ p. h (Second ∷ p)))
    expr-related (when_is s a c x) w here h = expr-related a (below First w) (below First here) (λ p. h (First ∷ p))
    expr-related (merge s x ps) w here h = parts-related ps (below Args w) (below Args here) (λ p. h (Args ∷ p))
    expr-related (call s f inlined es) w here h = (
      along-map R (λ (o : List ℕ). w (Instance ∷ Named o ∷ [])) (λ (o : List ℕ). here (Instance ∷ Named o ∷ [])) (outputs f) (λ o. h (Instance ∷ Named o ∷ [])),
      all-related es (below Args w) (below Args here) (λ p. h (Args ∷ p)),
    )

    all-related : (es : Exprs) (w here : Prefix) → Related w here → All (found_in_all outputs es w here)
    all-related no_expr w here h = tt
    all-related (more_exprs e es) w here h =
        all-both (found outputs e (below Head w) (below Head here)) (found_in_all outputs es (below Tail w) (below Tail here)) (expr-related e (below Head w) (below Head here) (λ p. h (Head ∷ p))) (all-related es (below Tail w) (below Tail here) (λ p. h (Tail ∷ p)))

    parts-related : (ps : Parts) (w here : Prefix) → Related w here → All (found_in_parts outputs ps w here)
    parts-related no_part w here h = tt
    parts-related (more_parts c e ps) w here h =
        all-both (found outputs e (below Head w) (below Head here)) (found_in_parts outputs ps (below Tail w) (below Tail here)) (expr-related e (below Head w) (below Head here) (λ p. h (Head ∷ p))) (parts-related ps (below Tail w) (below Tail here) (λ p. h (Tail ∷ p)))

  pub conditions-hidden : (ts : List Trans) (w here : Prefix) → Hidden w → All (found_in_conditions outputs ts w here)
  conditions-hidden [] w here h = tt
  conditions-hidden (t ∷ ts) w here h =
      all-both (found outputs t.cond (below Head w) (at_condition here)) (found_in_conditions outputs ts (below Tail w) (below Tail here)) (expr-related t.cond (below Head w) (at_condition here) (λ p. h (Head ∷ p) ((at_condition here) p)))
      (conditions-hidden ts (below Tail w) (below Tail here) (λ p. h (Tail ∷ p)))

  mutual
    pub block-hidden : (b : Block) (w here : Prefix) → Hidden w → All (found_in_block outputs b w here)
    block-hidden (block ds es) w here h = eqns-hidden es (below Equations w) (below Equations here) (λ p. h (Equations ∷ p))

    pub body-hidden : (b : Block) (until : List Trans) (w here : Prefix) → Hidden w → All (found_in_body outputs until b w here)
    body-hidden (block ds es) until w here h = eqns-hidden es (below Equations w) (below Tail (behind until (below Equations here))) (λ p. h (Equations ∷ p))

    eqns-hidden : (es : Eqns) (w here : Prefix) → Hidden w → All (found_in_eqns outputs es w here)
    eqns-hidden no_eqn w here h = tt
    eqns-hidden (more_eqns e es) w here h =
        all-both (found_in_eqn outputs e (below Head w) (below Head here)) (found_in_eqns outputs es (below Tail w) (below Tail here)) (eqn-hidden e (below Head w) (below Head here) (λ p. h (Head ∷ p))) (eqns-hidden es (below Tail w) (below Tail here) (λ p. h (Tail ∷ p)))

    pub eqn-hidden : (e : Eqn) (w here : Prefix) → Hidden w → All (found_in_eqn outputs e w here)
    eqn-hidden (define s ys e) w here h = expr-related e (below Right w) (below Right here) (λ p. h (Right ∷ p) ((below Right here) p))
    eqn-hidden (switch s e arms) w here h =
        all-both (found outputs e (below Test w) (below Test here)) (found_in_arms outputs arms (below ArmsOf w) (below ArmsOf here)) (expr-related e (below Test w) (below Test here) (λ p. h (Test ∷ p) ((below Test here) p))) (arms-hidden arms (below ArmsOf w) (below ArmsOf here) (λ p. h (ArmsOf ∷ p)))
    eqn-hidden (reset s b e) w here h =
        all-both (found_in_block outputs b (below Body w) (below Body here)) (found outputs e (below Test w) (below Test here)) (block-hidden b (below Body w) (below Body here) (λ p. h (Body ∷ p))) (expr-related e (below Test w) (below Test here) (λ p. h (Test ∷ p) ((below Test here) p)))
    eqn-hidden (automaton s ss) w here h = states-hidden ss (below StatesOf w) (at_states ss here) (λ p. h (StatesOf ∷ p))

    pub arms-hidden : (arms : Arms) (w here : Prefix) → Hidden w → All (found_in_arms outputs arms w here)
    arms-hidden no_arm w here h = tt
    arms-hidden (more_arms c b s arms) w here h =
        all-both (found_in_block outputs b (below Head w) (below Head here)) (found_in_arms outputs arms (below Tail w) (below Tail here)) (block-hidden b (below Head w) (below Head here) (λ p. h (Head ∷ p))) (arms-hidden arms (below Tail w) (below Tail here) (λ p. h (Tail ∷ p)))

    pub states-hidden : (ss : States) (w here : Prefix) → Hidden w → All (found_in_states outputs ss w here)
    states-hidden no_state w here h = tt
    states-hidden (more_states f b until unless s ss) w here h =
        let P = found_in_body outputs until b (below Body (below Head w)) (at_body unless here) in
        let Q = found_in_conditions outputs until (below Until (below Head w)) (below Equations (at_body unless here)) in
        let U = found_in_conditions outputs unless (below Unless (below Head w)) here in
        let V = found_in_states outputs ss (below Tail w) (behind_state unless here) in
        all-both P (Q ++ (U ++ V)) (body-hidden b until (below Body (below Head w)) (at_body unless here) (λ p. h (Head ∷ Body ∷ p)))
        (all-both Q (U ++ V) (conditions-hidden until (below Until (below Head w)) (below Equations (at_body unless here)) (λ p. h (Head ∷ Until ∷ p)))
        (all-both U V (conditions-hidden unless (below Unless (below Head w)) here (λ p. h (Head ∷ Unless ∷ p))) (states-hidden ss (below Tail w) (behind_state unless here) (λ p. h (Tail ∷ p)))))
