-- The labels of a body without automata are its comparisons and calls, in the order of making; so the variables of what a walk finds stand for their places.
use Rattle.std.proofs.Common.{◌≡◌, ℕ, Bool, true, false, if◌then◌else◌, List, [], ◌∷◌, ◌++◌, map, Option, None, Some, refl, sym, ap, ap₂, subst, ◌∙◌}
use Rattle.std.specs.Prelude.{is_some}
use Rattle.std.proofs.lemmas.List.{append-nil, append_assoc, map-append}
use Rattle.hp_base.specs.declared.ty.Const.{Const}
use Rattle.hp_obc.specs.declared.command.ObcOp.{ObcOp}
use Rattle.hp_obc.specs.declared.command.ObcOp.TheVariants as obc
use Rattle.hp_tree.specs.declared.expr.Op2.{Op2}
use Rattle.hp_tree.specs.Operators.{is_comparison}
use Rattle.hp_tree.specs.Expressions.{Expr, constant, variable, last_of, one, two, choose, pre, fby, arrow, when_is, merge, call, Exprs, no_expr, more_exprs, Parts, no_part, more_parts}
use Rattle.hp_tree.specs.Blocks.{Block, block, Eqns, no_eqn, more_eqns, Eqn, define, switch, reset, automaton, Arms, no_arm, more_arms}
use Rattle.hp_tree.specs.Instant.{Body, Equations, Head, Tail, Right as RightOf, Test, Arms as ArmsOf, First, Second, Third, Args, Place}
use Rattle.hp_flat.specs.Equations.{Right, operator, register, called, FlatEqn}
use Rattle.hp_automata.specs.Lowering.{lowered_node}
use Rattle.law_automata.specs.Lowered.Standing.{Along}
use Rattle.law_equations.specs.Flattened.Flatten.{FlatName, Prefix, ats, below, constant_in, is_false}
use Rattle.law_equations.specs.Flattened.Lifted.{in_body}
use Rattle.law_equations.specs.Made.Labels.{AreMadeAt, Label, arms_labels, block_labels, comparison, compares_or_calls, eqn_labels, eqns_labels, expr_labels, exprs_labels, parts_labels, with_comparison}
use Rattle.law_equations.specs.Made.Labels as made
use Rattle.hp_watch.specs.Walk.{compares, events_from, is_event, walk_block}
use Rattle.law_choices.specs.Places.Laws.{IsEventOf, events, places_of}
use Rattle.law_choices.specs.Places.Spots.{Spot, compared, compared_spots, spots, spots_of_all, spots_of_arms, spots_of_block, spots_of_eqn, spots_of_eqns, spots_of_node, spots_of_parts}
use Rattle.law_choices.specs.Places.Standing.{StandingLaw, StandsAtNumber, StandsForSpot}
use Rattle.law_choices.proofs.PlacesLemmas.Events.{constant-none, events-are, false-none}
use Rattle.law_choices.proofs.PlacesLemmas.Numbers.{numbered}
use Rattle.law_choices.proofs.PlacesLemmas.Relating.{block-goes}
use Rattle.law_choices.proofs.PlacesLemmas.Slots.{same-comparison}
use Rattle.law_choices.proofs.PlacesLemmas.Walks.{walk-finds}

-- ---- labels and spots

-- the places of labels, and those of spots, one by one
abbrev pub of_labels : List Label → List (List Place)
of_labels ls = map made.places_of ls

abbrev pub of_spots : List Spot → List (List Place)
of_spots ss = map places_of ss

-- two parts in a row, in front of what is behind
in-row : (xs ys : List Spot) (rest : List (List Place)) → of_spots xs ++ (of_spots ys ++ rest) ≡ of_spots (xs ++ ys) ++ rest
in-row xs ys rest = sym (append_assoc (of_spots xs) (of_spots ys) rest) ∙ ap (λ zs. zs ++ rest) (sym (map-append places_of xs ys))

module _ (outputs : List ℕ → List (List ℕ)) where
  with-comparison : (o : Op2) (here : Prefix) (rest : List Label) → of_labels (with_comparison o (here []) rest) ≡ of_spots (compared_spots outputs o here) ++ of_labels rest
  with-comparison o here rest = by (is_comparison o) (compares o) (same-comparison o)
    where
      by : (b c : Bool) → b ≡ c → of_labels (if b then comparison o (here []) ∷ rest else rest) ≡ of_spots (if c then compared o (here []) ∷ [] else []) ++ of_labels rest
      by true true e = refl
      by true false e = absurd cc
      by false true e = absurd cc
      by false false e = refl

  -- two parts, of which each is as it should be
  two-parts : (xs ys : List Spot) (a b : List (List Place)) (rest : List (List Place)) → a ≡ of_spots xs ++ b → b ≡ of_spots ys ++ rest → a ≡ of_spots (xs ++ ys) ++ rest
  two-parts xs ys a b rest h k = h ∙ ap (λ zs. of_spots xs ++ zs) k ∙ in-row xs ys rest

  mutual
    expr-labels : (e : Expr) (here : Prefix) (rest : List Label) → of_labels (expr_labels outputs e here rest) ≡ of_spots (spots outputs e here) ++ of_labels rest
    expr-labels (constant s c) here rest = refl
    expr-labels (variable s x) here rest = refl
    expr-labels (last_of s x) here rest = refl
    expr-labels (one s o a) here rest = expr-labels a (below First here) rest
    expr-labels (two s o a b) here rest =
        let last = with_comparison o (here []) rest in
        let second = expr_labels outputs b (below Second here) last in
        two-parts (spots outputs a (below First here)) (spots outputs b (below Second here) ++ compared_spots outputs o here) (of_labels (expr_labels outputs a (below First here) second)) (of_labels second) (of_labels rest)
        (expr-labels a (below First here) second)
        (two-parts (spots outputs b (below Second here)) (compared_spots outputs o here) (of_labels second) (of_labels last) (of_labels rest) (expr-labels b (below Second here) last) (with-comparison o here rest))
    expr-labels (choose s a b c) here rest =
        let third = expr_labels outputs c (below Third here) rest in
        let second = expr_labels outputs b (below Second here) third in
        two-parts (spots outputs a (below First here)) (spots outputs b (below Second here) ++ spots outputs c (below Third here)) (of_labels (expr_labels outputs a (below First here) second)) (of_labels second) (of_labels rest)
        (expr-labels a (below First here) second)
        (two-parts (spots outputs b (below Second here)) (spots outputs c (below Third here)) (of_labels second) (of_labels third) (of_labels rest) (expr-labels b (below Second here) third) (expr-labels c (below Third here) rest))
    expr-labels (pre s a) here rest = expr-labels a (below First here) rest
    expr-labels (fby s a b) here rest =
        let second = expr_labels outputs b (below Second here) rest in
        let first = spots outputs a (below First here) in
        let both = two-parts first (spots outputs b (below Second here)) (of_labels (expr_labels outputs a (below First here) second)) (of_labels second) (of_labels rest) (expr-labels a (below First here) second) (expr-labels b (below Second here) rest) in
        by (constant_in a) refl both (expr-labels b (below Second here) rest)
      where
        by : (o : Option Const) → constant_in a ≡ o → of_labels (expr_labels outputs a (below First here) (expr_labels outputs b (below Second here) rest)) ≡ of_spots (spots outputs a (below First here) ++ spots outputs b (below Second here)) ++ of_labels rest
            → of_labels (expr_labels outputs b (below Second here) rest) ≡ of_spots (spots outputs b (below Second here)) ++ of_labels rest
            → of_labels (if is_some o then expr_labels outputs b (below Second here) rest else expr_labels outputs a (below First here) (expr_labels outputs b (below Second here) rest)) ≡ of_spots (spots outputs a (below First here) ++ spots outputs b (below Second here)) ++ of_labels rest
        by None e both second = both
        by (Some c) e both second = second ∙ ap (λ ss. of_spots (ss ++ spots outputs b (below Second here)) ++ of_labels rest) (sym (constant-none outputs a c (below First here) e))
    expr-labels (arrow s a b) here rest =
        let second = expr_labels outputs b (below Second here) rest in
        two-parts (spots outputs a (below First here)) (spots outputs b (below Second here)) (of_labels (expr_labels outputs a (below First here) second)) (of_labels second) (of_labels rest) (expr-labels a (below First here) second) (expr-labels b (below Second here) rest)
    expr-labels (when_is s a c x) here rest = expr-labels a (below First here) rest
    expr-labels (merge s x ps) here rest = parts-labels ps (below Args here) rest
    expr-labels (call s f inlined es) here rest =
        let own = made.calling f (here []) (made.output_places (outputs f) here) ∷ rest in
        exprs-labels es (below Args here) own ∙ in-row (spots_of_all outputs es (below Args here)) (call_of f here) (of_labels rest)
      where
        call_of : List ℕ → Prefix → List Spot
        call_of f here = spots outputs (call s f inlined no_expr) here

    exprs-labels : (es : Exprs) (here : Prefix) (rest : List Label) → of_labels (exprs_labels outputs es here rest) ≡ of_spots (spots_of_all outputs es here) ++ of_labels rest
    exprs-labels no_expr here rest = refl
    exprs-labels (more_exprs e es) here rest =
        let later = exprs_labels outputs es (below Tail here) rest in
        two-parts (spots outputs e (below Head here)) (spots_of_all outputs es (below Tail here)) (of_labels (expr_labels outputs e (below Head here) later)) (of_labels later) (of_labels rest) (expr-labels e (below Head here) later) (exprs-labels es (below Tail here) rest)

    parts-labels : (ps : Parts) (here : Prefix) (rest : List Label) → of_labels (parts_labels outputs ps here rest) ≡ of_spots (spots_of_parts outputs ps here) ++ of_labels rest
    parts-labels no_part here rest = refl
    parts-labels (more_parts c e ps) here rest =
        let later = parts_labels outputs ps (below Tail here) rest in
        two-parts (spots outputs e (below Head here)) (spots_of_parts outputs ps (below Tail here)) (of_labels (expr_labels outputs e (below Head here) later)) (of_labels later) (of_labels rest) (expr-labels e (below Head here) later) (parts-labels ps (below Tail here) rest)

  mutual
    pub block-labels : (b : Block) (here : Prefix) (rest : List Label) → of_labels (block_labels outputs b here rest) ≡ of_spots (spots_of_block outputs b here) ++ of_labels rest
    block-labels (block ds es) here rest = eqns-labels es (below Equations here) rest

    eqns-labels : (es : Eqns) (here : Prefix) (rest : List Label) → of_labels (eqns_labels outputs es here rest) ≡ of_spots (spots_of_eqns outputs es here) ++ of_labels rest
    eqns-labels no_eqn here rest = refl
    eqns-labels (more_eqns e es) here rest =
        let later = eqns_labels outputs es (below Tail here) rest in
        two-parts (spots_of_eqn outputs e (below Head here)) (spots_of_eqns outputs es (below Tail here)) (of_labels (eqn_labels outputs e (below Head here) later)) (of_labels later) (of_labels rest) (eqn-labels e (below Head here) later) (eqns-labels es (below Tail here) rest)

    eqn-labels : (e : Eqn) (here : Prefix) (rest : List Label) → of_labels (eqn_labels outputs e here rest) ≡ of_spots (spots_of_eqn outputs e here) ++ of_labels rest
    eqn-labels (define s ys e) here rest = expr-labels e (below RightOf here) rest
    eqn-labels (switch s e arms) here rest =
        let later = arms_labels outputs arms (below ArmsOf here) rest in
        two-parts (spots outputs e (below Test here)) (spots_of_arms outputs arms (below ArmsOf here)) (of_labels (expr_labels outputs e (below Test here) later)) (of_labels later) (of_labels rest) (expr-labels e (below Test here) later) (arms-labels arms (below ArmsOf here) rest)
    eqn-labels (reset s b e) here rest =
        let later = block_labels outputs b (below Body here) rest in
        let both = two-parts (spots outputs e (below Test here)) (spots_of_block outputs b (below Body here)) (of_labels (expr_labels outputs e (below Test here) later)) (of_labels later) (of_labels rest) (expr-labels e (below Test here) later) (block-labels b (below Body here) rest) in
        by (is_false e) refl both (block-labels b (below Body here) rest)
      where
        by : (d : Bool) → is_false e ≡ d → of_labels (expr_labels outputs e (below Test here) (block_labels outputs b (below Body here) rest)) ≡ of_spots (spots outputs e (below Test here) ++ spots_of_block outputs b (below Body here)) ++ of_labels rest
            → of_labels (block_labels outputs b (below Body here) rest) ≡ of_spots (spots_of_block outputs b (below Body here)) ++ of_labels rest
            → of_labels (if d then block_labels outputs b (below Body here) rest else expr_labels outputs e (below Test here) (block_labels outputs b (below Body here) rest)) ≡ of_spots (spots outputs e (below Test here) ++ spots_of_block outputs b (below Body here)) ++ of_labels rest
        by false q both own = both
        by true q both own = own ∙ ap (λ ss. of_spots (ss ++ spots_of_block outputs b (below Body here)) ++ of_labels rest) (sym (false-none outputs e (below Test here) q))
    eqn-labels (automaton s ss) here rest = refl

    arms-labels : (arms : Arms) (here : Prefix) (rest : List Label) → of_labels (arms_labels outputs arms here rest) ≡ of_spots (spots_of_arms outputs arms here) ++ of_labels rest
    arms-labels no_arm here rest = refl
    arms-labels (more_arms c b s arms) here rest =
        let later = arms_labels outputs arms (below Tail here) rest in
        two-parts (spots_of_block outputs b (below Head here)) (spots_of_arms outputs arms (below Tail here)) (of_labels (block_labels outputs b (below Head here) later)) (of_labels later) (of_labels rest) (block-labels b (below Head here) later) (arms-labels arms (below Tail here) rest)

-- ---- the equations that compare or call are the events

op-alike : (o : ObcOp) → made.compares o ≡ is_event (operator o [])
op-alike obc.Copy = refl
op-alike obc.Not = refl
op-alike obc.Neg = refl
op-alike obc.Mux = refl
op-alike obc.And = refl
op-alike obc.Or = refl
op-alike obc.Xor = refl
op-alike obc.Imp = refl
op-alike obc.Eq = refl
op-alike obc.Ne = refl
op-alike obc.Lt = refl
op-alike obc.Le = refl
op-alike obc.Gt = refl
op-alike obc.Ge = refl
op-alike obc.Add = refl
op-alike obc.Sub = refl
op-alike obc.Mul = refl
op-alike obc.Div = refl
op-alike obc.Rem = refl

right-alike : (r : Right) → compares_or_calls r ≡ is_event r
right-alike (operator o args) = op-alike o
right-alike (register first next) = refl
right-alike (called f args) = refl

pub events-alike : (es : List FlatEqn) → made.events es ≡ events es
events-alike [] = refl
events-alike (e ∷ es) = ap₂ (λ (b : Bool) (fs : List FlatEqn). if b then e ∷ fs else fs) (right-alike e.right) (events-alike es)

-- ---- one by one

module _ (means : ℕ → FlatName) where
  both-stand : (es : List FlatEqn) (ls : List Label) (ss : List Spot) → AreMadeAt means es ls → of_labels ls ≡ of_spots ss → Along IsEventOf es ss → Along (StandsForSpot means) es ss
  both-stand [] ls [] h e k = tt
  both-stand [] ls (s ∷ ss) h e k = absurd k
  both-stand (q ∷ es) ls [] h e k = absurd k
  both-stand (q ∷ es) [] (s ∷ ss) h e k = absurd h
  both-stand (q ∷ es) (l ∷ ls) (s ∷ ss) h e k =
      let first : made.places_of l ≡ places_of s = cc in
      let others : of_labels ls ≡ of_spots ss = cc in
      ((k.0, (h.0).targets ∙ ap ats first), both-stand es ls ss h.1 others k.1)

pub standing-law : StandingLaw
standing-law outputs k enums n es means knows are labelled =
    let low = lowered_node enums n in
    let ss = spots_of_node outputs low in
    let places : of_labels (block_labels outputs low.body in_body []) ≡ of_spots ss = block-labels outputs low.body in_body [] ∙ append-nil (of_spots ss) in
    let stand = both-stand means (events es) (block_labels outputs low.body in_body []) ss (subst (λ fs. AreMadeAt means fs (block_labels outputs low.body in_body [])) (events-alike es) labelled) places (events-are outputs k low es knows are) in
    let numbers = numbered (StandsForSpot means) [] es ss stand in
    let g = block-goes (StandsAtNumber means es) n.body (events_from 0 es) ss numbers in
    subst (λ ps. Along (StandsAtNumber means es) (walk_block n.body (events_from 0 es)).0 ps) (ap (λ (x : List Spot × List Spot). x.0) (walk-finds outputs enums n)) g.0
