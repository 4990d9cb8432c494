-- A walk over the tree takes the events of what is made of it without automata.
use Rattle.std.proofs.Common.{◌≡◌, ℕ, List, [], ◌∷◌, ◌++◌, length, refl, sym, ap, ap₂, ◌∙◌}
use Rattle.std.specs.Prelude.{drop, ◌+◌}
use Rattle.std.proofs.lemmas.List.{append_assoc, append-nil}
use Rattle.hp_base.specs.declared.span.Span.{Span}
use Rattle.hp_tree.specs.declared.block.Trans.{Trans}
use Rattle.hp_tree.specs.Blocks.{Block, block, Eqns, no_eqn, more_eqns, Eqn, define, switch, reset, automaton, Arms, no_arm, more_arms, States, no_state, more_states}
use Rattle.hp_tree.specs.Programs.{Node}
use Rattle.hp_tree.specs.Instant.{Body, Equations, Head, Tail, Right, Test, Arms as ArmsOf, States as StatesOf, Until, Unless}
use Rattle.hp_tables.specs.Defining.Names.{names_of_arms}
use Rattle.hp_automata.specs.declared.new_names.Word.TheVariants.{Strong, Weak}
use Rattle.hp_automata.specs.Names.{once}
use Rattle.hp_automata.specs.Renaming.{renamed}
use Rattle.hp_automata.specs.Lowering.{Types, Enumerations, Frame, declaring, inner, frame, pending_of, stays, choices, idle, frame_eqns, joined, all_kept, same_name, types_of, lowered_block, lowered_eqns, lowered_eqn, lowered_arms, lowered_states, lowered_body, lowered_node}
use Rattle.law_equations.specs.Flattened.Flatten.{Prefix, below}
use Rattle.hp_watch.specs.Walk.{Walked, behind as later, before, walk, walk_conditions, walk_block, walk_eqns, walk_eqn, walk_arms, walk_states}
use Rattle.law_choices.specs.Places.Spots.{Spot, spots, spots_of_block, spots_of_eqn, spots_of_arms, spots_of_node}
use Rattle.law_choices.specs.Places.Found.{Both, behind, behind_state, at_states, at_body, found, found_in_conditions, found_in_block, found_in_eqns, found_in_eqn, found_in_arms, found_in_states, found_in_body, found_in_node}
use Rattle.law_choices.specs.Places.Laws.{WalkLaw}
use Rattle.law_choices.proofs.PlacesLemmas.Expressions.{made, made-append, Takes, takes-two, expr-takes}
use Rattle.law_choices.proofs.PlacesLemmas.Rows.{behind-map, R, rows-append, kept-none, frame-none, idle-none, conditions-take, state-rows, body-rows}

-- what is found before stands behind
pub takes-before : {X : Type 0} (v w : List X → Walked X) (A B P Q : List X) → Takes v A P → Takes w B Q → Takes (λ es. let x = v es in before x.0 (w x.1)) (A ++ B) (Q ++ P)
takes-before {X = X} v w A B P Q h k rest =
    ap (λ es. let x = v es in before x.0 (w x.1)) (append_assoc A B rest)
    ∙ ap (λ (x : Walked X). before x.0 (w x.1)) (h (B ++ rest))
    ∙ ap (λ (y : Walked X). before P y) (k rest)

-- the same events
pub taken-as : {X : Type 0} (v : List X → Walked X) (A B P : List X) → B ≡ A → Takes v A P → Takes v B P
taken-as v A B P e h rest = ap (λ xs. v (xs ++ rest)) e ∙ h rest

-- the conditions, the body and the states behind a state
pub state-takes : {X : Type 0} (strong weak body rest : List X → Walked X) (S W B M P Q U V : List X) (five : X × X × X × X × X) → Takes strong S U → Takes weak W Q → Takes body B P → Takes rest M V
    → Takes (λ es. let s = strong es in let w = weak (drop 5 s.1) in let b = body w.1 in later (b.0 ++ w.0 ++ s.0) (rest b.1))
    (S ++ (five.0 ∷ five.1 ∷ five.2 ∷ five.3 ∷ five.4 ∷ ((W ++ B) ++ M))) (P ++ (Q ++ (U ++ V)))
state-takes {X = X} strong weak body rest S W B M P Q U V five hs hw hb hm more =
    ap (λ es. let s = strong es in let w = weak (drop 5 s.1) in let b = body w.1 in later (b.0 ++ w.0 ++ s.0) (rest b.1))
    (append_assoc S (five.0 ∷ five.1 ∷ five.2 ∷ five.3 ∷ five.4 ∷ ((W ++ B) ++ M)) more
    ∙ ap (λ es. S ++ (five.0 ∷ five.1 ∷ five.2 ∷ five.3 ∷ five.4 ∷ es)) (append_assoc (W ++ B) M more ∙ append_assoc W B (M ++ more)))
    ∙ ap (λ (s : Walked X). let w = weak (drop 5 s.1) in let b = body w.1 in later (b.0 ++ w.0 ++ s.0) (rest b.1)) (hs (five.0 ∷ five.1 ∷ five.2 ∷ five.3 ∷ five.4 ∷ (W ++ (B ++ (M ++ more)))))
    ∙ ap (λ (w : Walked X). let b = body w.1 in later (b.0 ++ w.0 ++ U) (rest b.1)) (hw (B ++ (M ++ more)))
    ∙ ap (λ (b : Walked X). later (b.0 ++ Q ++ U) (rest b.1)) (hb (M ++ more))
    ∙ ap (λ (m : Walked X). later (P ++ Q ++ U) m) (hm more)
    ∙ ap (λ ps. (ps, more)) (append_assoc (P ++ Q) U V ∙ append_assoc P Q (U ++ V))

-- what is found in a state
state-made : (P Q U V : Both) → made (P ++ (Q ++ (U ++ V))) ≡ made P ++ (made Q ++ (made U ++ made V))
state-made P Q U V =
    made-append P (Q ++ (U ++ V)) ∙ ap (λ ps. made P ++ ps) (made-append Q (U ++ V) ∙ ap (λ ps. made Q ++ ps) (made-append U V))

module _ (outputs : List ℕ → List (List ℕ)) (enums : Enumerations) where
  abbrev AtEqns : Eqns → Type 0
  AtEqns es = (to : List ℕ → List ℕ) (types : Types) (d : ℕ) (w here : Prefix) → Takes (walk_eqns es) (R outputs (lowered_eqns enums to types d es) here) (made (found_in_eqns outputs es w here))

  abbrev AtBlock : Block → Type 0
  AtBlock b = (to : List ℕ → List ℕ) (types : Types) (d : ℕ) (s : Span) (xs : List (List ℕ)) (w here : Prefix) → Takes (walk_block b) (spots_of_block outputs (lowered_block enums to types d s xs b) here) (made (found_in_block outputs b w here))

  -- the body of a state behind its weak transitions
  abbrev AtBody : Block → Type 0
  AtBody b =
      (to : List ℕ → List ℕ) (types : Types) (f : Frame) (k : ℕ) (until : List Trans) (w here : Prefix)
      → (B : List Spot)
      × (spots_of_block outputs (lowered_body enums to types f k b until) here ≡ R outputs (choices (inner to f k) f Weak k (length until) (stays f k) 0 until) (below Equations here) ++ B)
      × Takes (walk_block b) B (made (found_in_body outputs until b w here))

  abbrev AtStates : States → Type 0
  AtStates ss = (to : List ℕ → List ℕ) (types : Types) (f : Frame) (k : ℕ) (w here : Prefix) → Takes (walk_states ss) (R outputs (lowered_states enums to types f k ss) here) (made (found_in_states outputs ss w here))

  abbrev AtArms : Arms → Type 0
  AtArms arms = (to : List ℕ → List ℕ) (types : Types) (d : ℕ) (xs : List (List ℕ)) (w here : Prefix) → Takes (walk_arms arms) (spots_of_arms outputs (lowered_arms enums to types d xs arms) here) (made (found_in_arms outputs arms w here))

  abbrev AtEqn : Eqn → Type 0
  AtEqn e = (to : List ℕ → List ℕ) (types : Types) (d : ℕ) (w here : Prefix) → Takes (walk_eqn e) (spots_of_eqn outputs (lowered_eqn enums to types d e) here) (made (found_in_eqn outputs e w here))

  mutual
    eqns-take : (es : Eqns) → AtEqns es
    eqns-take no_eqn to types d w here rest = refl
    eqns-take (more_eqns e es) to types d w here rest =
        let P = found_in_eqn outputs e (below Head w) (below Head here) in
        let Q = found_in_eqns outputs es (below Tail w) (below Tail here) in
        takes-two (walk_eqn e) (walk_eqns es) (spots_of_eqn outputs (lowered_eqn enums to types d e) (below Head here)) (R outputs (lowered_eqns enums to types d es) (below Tail here)) (made P) (made Q)
        (eqn-takes e to types d (below Head w) (below Head here)) (eqns-take es to types d (below Tail w) (below Tail here)) rest
        ∙ ap (λ ps. (ps, rest)) (sym (made-append P Q))

    block-takes : (b : Block) → AtBlock b
    block-takes (block ds es) to types d s xs w here =
        taken-as (walk_eqns es) (R outputs (lowered_eqns enums to (declaring types ds) d es) (below Equations here)) (spots_of_block outputs (lowered_block enums to types d s xs (block ds es)) here)
        (made (found_in_eqns outputs es (below Equations w) (below Equations here)))
        (rows-append outputs (lowered_eqns enums to (declaring types ds) d es) (all_kept to s xs (block ds es)) (below Equations here)
        ∙ ap (λ ys. R outputs (lowered_eqns enums to (declaring types ds) d es) (below Equations here) ++ ys) (kept-none outputs to s xs (block ds es) (behind (lowered_eqns enums to (declaring types ds) d es) (below Equations here)))
        ∙ append-nil (R outputs (lowered_eqns enums to (declaring types ds) d es) (below Equations here)))
        (eqns-take es to (declaring types ds) d (below Equations w) (below Equations here))

    body-takes : (b : Block) → AtBody b
    body-takes (block ds es) to types f k until w here =
        let to' = inner to f k in
        let L = lowered_eqns enums to' (declaring types ds) (f.depth + 1) es in
        let at = below Tail (behind until (below Equations here)) in (
          R outputs L at,
          body-rows outputs to' f k until L (all_kept to' f.at f.names (block ds es)) (below Equations here) (λ here. kept-none outputs to' f.at f.names (block ds es) here),
          eqns-take es to' (declaring types ds) (f.depth + 1) (below Equations w) at,
        )

    pub eqn-takes : (e : Eqn) → AtEqn e
    eqn-takes (define s ys e) to types d w here rest = expr-takes outputs to e (below Right w) (below Right here) rest
    eqn-takes (switch s e arms) to types d w here rest =
        let P = found outputs e (below Test w) (below Test here) in
        let Q = found_in_arms outputs arms (below ArmsOf w) (below ArmsOf here) in
        let xs = once (names_of_arms arms) in
        takes-two (walk e) (walk_arms arms) (spots outputs (renamed to e) (below Test here)) (spots_of_arms outputs (lowered_arms enums to types d xs arms) (below ArmsOf here)) (made P) (made Q)
        (expr-takes outputs to e (below Test w) (below Test here)) (arms-take arms to types d xs (below ArmsOf w) (below ArmsOf here)) rest
        ∙ ap (λ ps. (ps, rest)) (sym (made-append P Q))
    eqn-takes (reset s b e) to types d w here rest =
        let P = found outputs e (below Test w) (below Test here) in
        let Q = found_in_block outputs b (below Body w) (below Body here) in
        takes-before (walk e) (walk_block b) (spots outputs (renamed to e) (below Test here)) (spots_of_block outputs (lowered_block enums to types d s [] b) (below Body here)) (made P) (made Q)
        (expr-takes outputs to e (below Test w) (below Test here)) (block-takes b to types d s [] (below Body w) (below Body here)) rest
        ∙ ap (λ ps. (ps, rest)) (sym (made-append Q P))
    eqn-takes (automaton s ss) to types d w here rest =
        let f = frame s d ss in
        let own = below Equations (below Body here) in
        let F = frame_eqns enums to types f in
        taken-as (walk_states ss) (R outputs (lowered_states enums to types f 0 ss) (at_states ss here)) (spots_of_eqn outputs (lowered_eqn enums to types d (automaton s ss)) here)
        (made (found_in_states outputs ss (below StatesOf w) (at_states ss here)))
        (rows-append outputs F (lowered_states enums to types f 0 ss) own
        ∙ ap₂ (λ ys p. ys ++ R outputs (lowered_states enums to types f 0 ss) p) (frame-none outputs enums to types f own) (behind-map (joined enums to types f) f.names (below Tail (below Tail own))))
        (states-take ss to types f 0 (below StatesOf w) (at_states ss here)) rest

    arms-take : (arms : Arms) → AtArms arms
    arms-take no_arm to types d xs w here rest = refl
    arms-take (more_arms c b s arms) to types d xs w here rest =
        let P = found_in_block outputs b (below Head w) (below Head here) in
        let Q = found_in_arms outputs arms (below Tail w) (below Tail here) in
        takes-two (walk_block b) (walk_arms arms) (spots_of_block outputs (lowered_block enums to types d s xs b) (below Head here)) (spots_of_arms outputs (lowered_arms enums to types d xs arms) (below Tail here)) (made P) (made Q)
        (block-takes b to types d s xs (below Head w) (below Head here)) (arms-take arms to types d xs (below Tail w) (below Tail here)) rest
        ∙ ap (λ ps. (ps, rest)) (sym (made-append P Q))

    states-take : (ss : States) → AtStates ss
    states-take no_state to types f k w here rest = refl
    states-take (more_states q b until unless s ss) to types f k w here rest =
        let body = lowered_body enums to types f k b until in
        let more = lowered_states enums to types f (k + 1) ss in
        let S = state-rows outputs to f k unless body (idle enums types f k) more here (λ here. idle-none outputs enums types f k here) in
        let B = body-takes b to types f k until (below Body (below Head w)) (at_body unless here) in
        let C = R outputs (choices to f Strong k (length unless) (pending_of f) 0 unless) here in
        let W = R outputs (choices (inner to f k) f Weak k (length until) (stays f k) 0 until) (below Equations (at_body unless here)) in
        let M = R outputs more (behind_state unless here) in
        let P = found_in_body outputs until b (below Body (below Head w)) (at_body unless here) in
        let Q = found_in_conditions outputs until (below Until (below Head w)) (below Equations (at_body unless here)) in
        let U = found_in_conditions outputs unless (below Unless (below Head w)) here in
        let V = found_in_states outputs ss (below Tail w) (behind_state unless here) in
        ap (λ es. walk_states (more_states q b until unless s ss) (es ++ rest))
        (S.1 ∙ ap (λ es. C ++ (S.0.0 ∷ S.0.1 ∷ S.0.2 ∷ S.0.3 ∷ S.0.4 ∷ (es ++ M))) B.1)
        ∙ state-takes (walk_conditions unless) (walk_conditions until) (walk_block b) (walk_states ss) C W B.0 M (made P) (made Q) (made U) (made V) S.0
        (conditions-take outputs to f Strong k (length unless) (pending_of f) 0 (λ here. refl) unless (below Unless (below Head w)) here)
        (conditions-take outputs (inner to f k) f Weak k (length until) (stays f k) 0 (λ here. refl) until (below Until (below Head w)) (below Equations (at_body unless here)))
        B.2 (states-take ss to types f (k + 1) (below Tail w) (behind_state unless here)) rest
        ∙ ap (λ ps. (ps, rest)) (sym (state-made P Q U V))

-- A walk over a node takes the events of what is made of it.
pub node-takes : (outputs : List ℕ → List (List ℕ)) (enums : Enumerations) (n : Node) → Takes (walk_block n.body) (spots_of_node outputs (lowered_node enums n)) (made (found_in_node outputs n))
node-takes outputs enums n = block-takes outputs enums n.body same_name (types_of n) 0 n.span [] (λ p. Body ∷ p) (λ p. Body ∷ p)

pub walk-finds : WalkLaw
walk-finds outputs enums n = ap (walk_block n.body) (sym (append-nil (spots_of_node outputs (lowered_node enums n)))) ∙ node-takes outputs enums n []
