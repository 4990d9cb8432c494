-- A walk over a contract is one over its observer, and finds there what stands for the places of the contract.
use Rattle.std.proofs.Common.{◌≡◌, ℕ, ◌+◌, List, [], ◌∷◌, ◌++◌, map, Option, None, Some, refl, sym, ap, ap₂, ◌∙◌}
use Rattle.std.specs.Prelude.{Bool, true, false, if◌then◌else◌}
use Rattle.std.proofs.lemmas.List.{append-nil, append_assoc, map-append}
use Rattle.hp_base.specs.declared.span.Span.{Span}
use Rattle.hp_tree.specs.declared.block.Trans.{Trans}
use Rattle.hp_tree.specs.declared.expr.Op2.{Op2}
use Rattle.hp_tree.specs.Expressions.{Expr, constant, variable, last_of, one, two, choose, pre, fby, arrow, when_is, merge, call, Exprs, no_expr, more_exprs, Parts, no_part, more_parts}
use Rattle.hp_tree.specs.Blocks.{Decl, Block, block, Eqns, no_eqn, more_eqns, Eqn, define, switch, reset, automaton, Arms, no_arm, more_arms, States, no_state, more_states, eqns_of, list_of_eqns}
use Rattle.hp_tree.specs.Programs.{Contract, Node}
use Rattle.hp_tree.specs.Instant.{Body, Observer, Assume, Enforce, Named, Equations, Head, Tail, Right, Test, Arms as ArmsOf, States as StatesOf, Until, Unless, First, Second, Third, Args, Instance, Place}
use Rattle.law_equations.specs.Flattened.Flatten.{Prefix, below}
use Rattle.hp_watch.specs.Observing.{all_handed_on, condition_of, lines_of, observer_of, with_lines}
use Rattle.hp_watch.specs.Walk.{compares, walk, walk_block, walk_condition, walk_contract, walk_eqn, walk_eqns}
use Rattle.law_choices.specs.Depending.Contracts.{at_assumed, at_enforced, behind_all, found_in_contract, found_told, in_observer, IsInContract}
use Rattle.law_choices.specs.Places.Found.{at_states, behind, behind_state, at_body, at_condition, Both, both_compared, found, found_in_all, found_in_parts, found_in_conditions, found_in_block, found_in_eqns, found_in_eqn, found_in_arms, found_in_states, found_in_body, found_in_node}
use Rattle.law_choices.specs.Places.Laws.{places_of}
use Rattle.law_choices.specs.Places.Spots.{call_spot, called, compared, Spot}
use Rattle.law_choices.proofs.PlacesLemmas.Related.{All, all-both, block-hidden, expr-related}

-- ---- what is found at other places

abbrev pub moved_spot : (Place → Place) → Spot → Spot
moved_spot g (compared o p) = compared o (g p)
moved_spot g (called f ps) = called f (map g ps)

pub moved_places : (g : Place → Place) (s : Spot) → places_of (moved_spot g s) ≡ map g (places_of s)
moved_places g (compared o p) = refl
moved_places g (called f ps) = refl

abbrev pub moved_pair : (Place → Place) → Spot × Spot → Spot × Spot
moved_pair g s = (moved_spot g s.0, s.1)

module _ (outputs : List ℕ → List (List ℕ)) (g : Place → Place) where
  abbrev elsewhere : Prefix → Prefix
  elsewhere w p = g (w p)

  abbrev all_moved : Both → Both
  all_moved fs = map (moved_pair g) fs

  joined : (xs ys vs ws : Both) → xs ≡ all_moved vs → ys ≡ all_moved ws → xs ++ ys ≡ all_moved (vs ++ ws)
  joined xs ys vs ws e h = ap₂ (λ a b. a ++ b) e h ∙ sym (map-append (moved_pair g) vs ws)

  compared-moved : (o : Op2) (w here : Prefix) → both_compared outputs o (elsewhere w) here ≡ all_moved (both_compared outputs o w here)
  compared-moved o w here = by (compares o)
    where
      by : (c : Bool) → (if c then (compared o (g (w [])), compared o (here [])) ∷ [] else []) ≡ all_moved (if c then (compared o (w []), compared o (here [])) ∷ [] else [])
      by true = refl
      by false = refl

  named-moved : (w : Prefix) (os : List (List ℕ)) → map (λ (o : List ℕ). g (w (Instance ∷ Named o ∷ []))) os ≡ map g (map (λ (o : List ℕ). w (Instance ∷ Named o ∷ [])) os)
  named-moved w [] = refl
  named-moved w (o ∷ os) = ap (λ ps. g (w (Instance ∷ Named o ∷ [])) ∷ ps) (named-moved w os)

  mutual
    pub expr-moved : (e : Expr) (w here : Prefix) → found outputs e (elsewhere w) here ≡ all_moved (found outputs e w here)
    expr-moved (constant s c) w here = refl
    expr-moved (variable s x) w here = refl
    expr-moved (last_of s x) w here = refl
    expr-moved (one s o a) w here = expr-moved a (below First w) (below First here)
    expr-moved (two s o a b) w here =
        let A = found outputs a (below First w) (below First here) in
        let B = found outputs b (below Second w) (below Second here) in
        joined (both_compared outputs o (elsewhere w) here) (found outputs a (below First (elsewhere w)) (below First here) ++ found outputs b (below Second (elsewhere w)) (below Second here)) (both_compared outputs o w here) (A ++ B) (compared-moved o w here)
        (joined (found outputs a (elsewhere (below First w)) (below First here)) (found outputs b (elsewhere (below Second w)) (below Second here)) (found outputs a (below First w) (below First here)) (found outputs b (below Second w) (below Second here)) (expr-moved a (below First w) (below First here)) (expr-moved b (below Second w) (below Second here)))
    expr-moved (choose s a b c) w here =
        let A = found outputs a (below First w) (below First here) in
        let B = found outputs b (below Second w) (below Second here) in
        let C = found outputs c (below Third w) (below Third here) in
        joined (found outputs a (below First (elsewhere w)) (below First here)) (found outputs b (below Second (elsewhere w)) (below Second here) ++ found outputs c (below Third (elsewhere w)) (below Third here)) A (B ++ C) (expr-moved a (below First w) (below First here))
        (joined (found outputs b (elsewhere (below Second w)) (below Second here)) (found outputs c (elsewhere (below Third w)) (below Third here)) (found outputs b (below Second w) (below Second here)) (found outputs c (below Third w) (below Third here)) (expr-moved b (below Second w) (below Second here)) (expr-moved c (below Third w) (below Third here)))
    expr-moved (pre s a) w here = expr-moved a (below First w) (below First here)
    expr-moved (fby s a b) w here = joined (found outputs a (elsewhere (below First w)) (below First here)) (found outputs b (elsewhere (below Second w)) (below Second here)) (found outputs a (below First w) (below First here)) (found outputs b (below Second w) (below Second here)) (expr-moved a (below First w) (below First here)) (expr-moved b (below Second w) (below Second here))
    expr-moved (arrow s a b) w here = joined (found outputs a (elsewhere (below First w)) (below First here)) (found outputs b (elsewhere (below Second w)) (below Second here)) (found outputs a (below First w) (below First here)) (found outputs b (below Second w) (below Second here)) (expr-moved a (below First w) (below First here)) (expr-moved b (below Second w) (below Second here))
    expr-moved (when_is s a c x) w here = expr-moved a (below First w) (below First here)
    expr-moved (merge s x ps) w here = parts-moved ps (below Args w) (below Args here)
    expr-moved (call s f inlined es) w here = ap₂ (λ (ps : List Place) (rest : Both). (called f ps, call_spot outputs f here) ∷ rest) (named-moved w (outputs f)) (exprs-moved es (below Args w) (below Args here))

    exprs-moved : (es : Exprs) (w here : Prefix) → found_in_all outputs es (elsewhere w) here ≡ all_moved (found_in_all outputs es w here)
    exprs-moved no_expr w here = refl
    exprs-moved (more_exprs e es) w here =
        joined (found outputs e (below Head (elsewhere w)) (below Head here)) (found_in_all outputs es (below Tail (elsewhere w)) (below Tail here)) (found outputs e (below Head w) (below Head here)) (found_in_all outputs es (below Tail w) (below Tail here))
        (expr-moved e (below Head w) (below Head here)) (exprs-moved es (below Tail w) (below Tail here))

    parts-moved : (ps : Parts) (w here : Prefix) → found_in_parts outputs ps (elsewhere w) here ≡ all_moved (found_in_parts outputs ps w here)
    parts-moved no_part w here = refl
    parts-moved (more_parts c e ps) w here =
        joined (found outputs e (below Head (elsewhere w)) (below Head here)) (found_in_parts outputs ps (below Tail (elsewhere w)) (below Tail here)) (found outputs e (below Head w) (below Head here)) (found_in_parts outputs ps (below Tail w) (below Tail here))
        (expr-moved e (below Head w) (below Head here)) (parts-moved ps (below Tail w) (below Tail here))

  conditions-moved : (ts : List Trans) (w here : Prefix) → found_in_conditions outputs ts (elsewhere w) here ≡ all_moved (found_in_conditions outputs ts w here)
  conditions-moved [] w here = refl
  conditions-moved (t ∷ ts) w here =
      joined (found outputs t.cond (below Head (elsewhere w)) (at_condition here)) (found_in_conditions outputs ts (below Tail (elsewhere w)) (below Tail here)) (found outputs t.cond (below Head w) (at_condition here)) (found_in_conditions outputs ts (below Tail w) (below Tail here))
      (expr-moved t.cond (below Head w) (at_condition here)) (conditions-moved ts (below Tail w) (below Tail here))

  mutual
    pub block-moved : (b : Block) (w here : Prefix) → found_in_block outputs b (elsewhere w) here ≡ all_moved (found_in_block outputs b w here)
    block-moved (block ds es) w here = eqns-moved es (below Equations w) (below Equations here)

    eqns-moved : (es : Eqns) (w here : Prefix) → found_in_eqns outputs es (elsewhere w) here ≡ all_moved (found_in_eqns outputs es w here)
    eqns-moved no_eqn w here = refl
    eqns-moved (more_eqns e es) w here =
        joined (found_in_eqn outputs e (below Head (elsewhere w)) (below Head here)) (found_in_eqns outputs es (below Tail (elsewhere w)) (below Tail here)) (found_in_eqn outputs e (below Head w) (below Head here)) (found_in_eqns outputs es (below Tail w) (below Tail here))
        (eqn-moved e (below Head w) (below Head here)) (eqns-moved es (below Tail w) (below Tail here))

    eqn-moved : (e : Eqn) (w here : Prefix) → found_in_eqn outputs e (elsewhere w) here ≡ all_moved (found_in_eqn outputs e w here)
    eqn-moved (define s ys e) w here = expr-moved e (below Right w) (below Right here)
    eqn-moved (switch s e arms) w here =
        joined (found outputs e (below Test (elsewhere w)) (below Test here)) (found_in_arms outputs arms (below ArmsOf (elsewhere w)) (below ArmsOf here)) (found outputs e (below Test w) (below Test here)) (found_in_arms outputs arms (below ArmsOf w) (below ArmsOf here))
        (expr-moved e (below Test w) (below Test here)) (arms-moved arms (below ArmsOf w) (below ArmsOf here))
    eqn-moved (reset s b e) w here =
        joined (found_in_block outputs b (below Body (elsewhere w)) (below Body here)) (found outputs e (below Test (elsewhere w)) (below Test here)) (found_in_block outputs b (below Body w) (below Body here)) (found outputs e (below Test w) (below Test here))
        (block-moved b (below Body w) (below Body here)) (expr-moved e (below Test w) (below Test here))
    eqn-moved (automaton s ss) w here = states-moved ss (below StatesOf w) (at_states ss here)

    arms-moved : (arms : Arms) (w here : Prefix) → found_in_arms outputs arms (elsewhere w) here ≡ all_moved (found_in_arms outputs arms w here)
    arms-moved no_arm w here = refl
    arms-moved (more_arms c b s arms) w here =
        joined (found_in_block outputs b (below Head (elsewhere w)) (below Head here)) (found_in_arms outputs arms (below Tail (elsewhere w)) (below Tail here)) (found_in_block outputs b (below Head w) (below Head here)) (found_in_arms outputs arms (below Tail w) (below Tail here))
        (block-moved b (below Head w) (below Head here)) (arms-moved arms (below Tail w) (below Tail here))

    states-moved : (ss : States) (w here : Prefix) → found_in_states outputs ss (elsewhere w) here ≡ all_moved (found_in_states outputs ss w here)
    states-moved no_state w here = refl
    states-moved (more_states f b until unless s ss) w here =
        let P : Prefix → Both = λ v. found_in_body outputs until b (below Body (below Head v)) (at_body unless here) in
        let Q : Prefix → Both = λ v. found_in_conditions outputs until (below Until (below Head v)) (below Equations (at_body unless here)) in
        let U : Prefix → Both = λ v. found_in_conditions outputs unless (below Unless (below Head v)) here in
        let V : Prefix → Both = λ v. found_in_states outputs ss (below Tail v) (behind_state unless here) in
        joined (P (elsewhere w)) (Q (elsewhere w) ++ (U (elsewhere w) ++ V (elsewhere w))) (P w) (Q w ++ (U w ++ V w)) (body-moved until b (below Body (below Head w)) (at_body unless here))
        (joined (Q (elsewhere w)) (U (elsewhere w) ++ V (elsewhere w)) (Q w) (U w ++ V w) (conditions-moved until (below Until (below Head w)) (below Equations (at_body unless here)))
        (joined (U (elsewhere w)) (V (elsewhere w)) (U w) (V w) (conditions-moved unless (below Unless (below Head w)) here) (states-moved ss (below Tail w) (behind_state unless here))))

    body-moved : (until : List Trans) (b : Block) (w here : Prefix) → found_in_body outputs until b (elsewhere w) here ≡ all_moved (found_in_body outputs until b w here)
    body-moved until (block ds es) w here = eqns-moved es (below Equations w) (below Tail (behind until (below Equations here)))

  told-moved : (o : Option Expr) (w here : Prefix) → found_told outputs o (elsewhere w) here ≡ all_moved (found_told outputs o w here)
  told-moved None w here = refl
  told-moved (Some e) w here = expr-moved e w here

-- ---- equations behind others

module _ (outputs : List ℕ → List (List ℕ)) where
  found-behind : (es : Eqns) (more : List Eqn) (w here : Prefix) → found_in_eqns outputs (eqns_of (list_of_eqns es ++ more)) w here ≡ found_in_eqns outputs es w here ++ found_in_eqns outputs (eqns_of more) (λ p. w (behind_all es p)) (λ p. here (behind_all es p))
  found-behind no_eqn more w here = refl
  found-behind (more_eqns e es) more w here =
      let first = found_in_eqn outputs e (below Head w) (below Head here) in
      let rest = found_in_eqns outputs es (below Tail w) (below Tail here) in
      let last = found_in_eqns outputs (eqns_of more) (λ p. w (Tail ∷ behind_all es p)) (λ p. here (Tail ∷ behind_all es p)) in
      ap (λ fs. first ++ fs) (found-behind es more (below Tail w) (below Tail here)) ∙ sym (append_assoc first rest last)

  handed-quiet : (i : ℕ) (os : List Decl) (w here : Prefix) → found_in_eqns outputs (eqns_of (all_handed_on i os)) w here ≡ []
  handed-quiet i [] w here = refl
  handed-quiet i (d ∷ os) w here = handed-quiet (i + 1) os (below Tail w) (below Tail here)

  condition-found : (o : Option Expr) (s : Span) (w here : Prefix) → found outputs (condition_of o s) w here ≡ found_told outputs o w here
  condition-found None s w here = refl
  condition-found (Some e) s w here = refl

  lines-found : (n : Node) (c : Contract) (w here : Prefix)
      → found_in_eqns outputs (eqns_of (lines_of n c)) w here ≡ found_told outputs c.assume (λ p. w (Head ∷ Right ∷ p)) (λ p. here (Head ∷ Right ∷ p)) ++ found_told outputs c.enforce (λ p. w (Tail ∷ Head ∷ Right ∷ p)) (λ p. here (Tail ∷ Head ∷ Right ∷ p))
  lines-found n c w here =
      ap₂ (λ a b. a ++ b) (condition-found c.assume c.span (λ p. w (Head ∷ Right ∷ p)) (λ p. here (Head ∷ Right ∷ p)))
      (ap₂ (λ a b. a ++ b) (condition-found c.enforce c.span (λ p. w (Tail ∷ Head ∷ Right ∷ p)) (λ p. here (Tail ∷ Head ∷ Right ∷ p))) (handed-quiet 0 n.outputs (λ p. w (Tail ∷ Tail ∷ p)) (λ p. here (Tail ∷ Tail ∷ p)))
      ∙ append-nil (found_told outputs c.enforce (λ p. w (Tail ∷ Head ∷ Right ∷ p)) (λ p. here (Tail ∷ Head ∷ Right ∷ p))))

  -- what a walk over the observer finds
  abbrev found_there : Block → Contract → Both
  found_there b c = found_in_block outputs b (λ p. Body ∷ p) (λ p. Body ∷ p) ++ (found_told outputs c.assume (at_assumed b) (at_assumed b) ++ found_told outputs c.enforce (at_enforced b) (at_enforced b))

  observer-found : (n : Node) (c : Contract) (b : Block) → found_in_block outputs (with_lines b n.outputs (lines_of n c)) (λ p. Body ∷ p) (λ p. Body ∷ p) ≡ found_there b c
  observer-found n c (block ds es) =
      let w : Prefix = λ p. Body ∷ Equations ∷ p in
      found-behind es (lines_of n c) w w ∙ ap (λ fs. found_in_eqns outputs es w w ++ fs) (lines-found n c (λ p. w (behind_all es p)) (λ p. w (behind_all es p)))

  there-moved : (c : Contract) → found_there c.body c ≡ map (moved_pair (in_observer c.body)) (found_in_contract outputs c)
  there-moved c =
      let b = c.body in
      let g : Place → Place = in_observer b in
      let B = found_in_block outputs b (λ p. Observer ∷ p) (λ p. Body ∷ p) in
      let A = found_told outputs c.assume (λ p. Assume ∷ p) (at_assumed b) in
      let E = found_told outputs c.enforce (λ p. Enforce ∷ p) (at_enforced b) in
      joined outputs g (found_in_block outputs b (λ p. Body ∷ p) (λ p. Body ∷ p)) (found_told outputs c.assume (at_assumed b) (at_assumed b) ++ found_told outputs c.enforce (at_enforced b) (at_enforced b)) B (A ++ E) (block-moved outputs g b (λ p. Observer ∷ p) (λ p. Body ∷ p))
      (joined outputs g (found_told outputs c.assume (at_assumed b) (at_assumed b)) (found_told outputs c.enforce (at_enforced b) (at_enforced b)) A E (told-moved outputs g c.assume (λ p. Assume ∷ p) (at_assumed b)) (told-moved outputs g c.enforce (λ p. Enforce ∷ p) (at_enforced b)))

  -- it stands for what one over the contract finds
  pub found-moved : (n : Node) (c : Contract) → found_in_node outputs (observer_of n c) ≡ map (moved_pair (in_observer c.body)) (found_in_contract outputs c)
  found-moved n c = observer-found n c c.body ∙ there-moved c

  -- ---- what is found in a contract stands there

  abbrev pub StandThere : Both → Type 0
  StandThere fs = All outputs (λ p q. IsInContract p) fs

  told-stands : (o : Option Expr) (w here : Prefix) → ((p : Place) → IsInContract (w p)) → StandThere (found_told outputs o w here)
  told-stands None w here h = tt
  told-stands (Some e) w here h = expr-related outputs (λ p q. IsInContract p) e w here h

  pub contract-stands : (c : Contract) → StandThere (found_in_contract outputs c)
  contract-stands c =
      let R : Place → Place → Type 0 = λ p q. IsInContract p in
      let B = found_in_block outputs c.body (λ p. Observer ∷ p) (λ p. Body ∷ p) in
      let A = found_told outputs c.assume (λ p. Assume ∷ p) (at_assumed c.body) in
      let E = found_told outputs c.enforce (λ p. Enforce ∷ p) (at_enforced c.body) in
      all-both outputs R B (A ++ E) (block-hidden outputs R c.body (λ p. Observer ∷ p) (λ p. Body ∷ p) (λ p q. tt))
      (all-both outputs R A E (told-stands c.assume (λ p. Assume ∷ p) (at_assumed c.body) (λ p. tt)) (told-stands c.enforce (λ p. Enforce ∷ p) (at_enforced c.body) (λ p. tt)))

-- ---- the walk

module _ {X : Type 0} where
  walk-behind : (es : Eqns) (more : List Eqn) (xs : List X) → (walk_eqns (eqns_of (list_of_eqns es ++ more)) xs).0 ≡ (walk_eqns es xs).0 ++ (walk_eqns (eqns_of more) (walk_eqns es xs).1).0
  walk-behind no_eqn more xs = refl
  walk-behind (more_eqns e es) more xs =
      let x = walk_eqn e xs in
      let y = walk_eqns es x.1 in
      ap (λ zs. x.0 ++ zs) (walk-behind es more x.1) ∙ sym (append_assoc x.0 y.0 (walk_eqns (eqns_of more) y.1).0)

  handed-walked : (i : ℕ) (os : List Decl) (xs : List X) → (walk_eqns (eqns_of (all_handed_on i os)) xs).0 ≡ []
  handed-walked i [] xs = refl
  handed-walked i (d ∷ os) xs = handed-walked (i + 1) os xs

  condition-walked : (o : Option Expr) (s : Span) (xs : List X) → walk (condition_of o s) xs ≡ walk_condition o xs
  condition-walked None s xs = refl
  condition-walked (Some e) s xs = refl

  lines-walked : (n : Node) (c : Contract) (xs : List X) → (walk_eqns (eqns_of (lines_of n c)) xs).0 ≡ (walk_condition c.assume xs).0 ++ (walk_condition c.enforce (walk_condition c.assume xs).1).0
  lines-walked n c xs =
      ap (λ (a : List X × List X). a.0 ++ ((walk (condition_of c.enforce c.span) a.1).0 ++ (walk_eqns (eqns_of (all_handed_on 0 n.outputs)) (walk (condition_of c.enforce c.span) a.1).1).0)) (condition-walked c.assume c.span xs)
      ∙ ap (λ zs. (walk_condition c.assume xs).0 ++ zs) (last (walk_condition c.assume xs).1)
    where
      last : (ys : List X) → (walk (condition_of c.enforce c.span) ys).0 ++ (walk_eqns (eqns_of (all_handed_on 0 n.outputs)) (walk (condition_of c.enforce c.span) ys).1).0 ≡ (walk_condition c.enforce ys).0
      last ys =
          let e = walk (condition_of c.enforce c.span) ys in
          ap (λ zs. e.0 ++ zs) (handed-walked 0 n.outputs e.1) ∙ append-nil e.0 ∙ ap (λ (z : List X × List X). z.0) (condition-walked c.enforce c.span ys)

  block-walked : (n : Node) (c : Contract) (b : Block) (xs : List X)
      → (walk_block (with_lines b n.outputs (lines_of n c)) xs).0 ≡ ((walk_block b xs).0 ++ (walk_condition c.assume (walk_block b xs).1).0) ++ (walk_condition c.enforce (walk_condition c.assume (walk_block b xs).1).1).0
  block-walked n c (block ds es) xs =
      let x = walk_eqns es xs in
      let a = walk_condition c.assume x.1 in
      walk-behind es (lines_of n c) xs ∙ ap (λ zs. x.0 ++ zs) (lines-walked n c x.1) ∙ sym (append_assoc x.0 a.0 (walk_condition c.enforce a.1).0)

  pub contract-walked : (n : Node) (c : Contract) (xs : List X) → (walk_block (observer_of n c).body xs).0 ≡ (walk_contract c xs).0
  contract-walked n c xs = block-walked n c c.body xs
