-- What the contracts of callees bring stands behind what calls bring without them.
use Rattle.std.proofs.Common.{◌≡◌, ℕ, ◌+◌, ◌≤◌, List, [], ◌∷◌, ◌++◌, length, refl, sym, ap, ap₂, ◌∙◌, arith}
use Rattle.std.specs.Prelude.{None, Option, Some}
use Rattle.std.proofs.lemmas.List.{append-nil, length-append}
use Rattle.hp_tree.specs.declared.block.Trans.{Trans}
use Rattle.hp_tree.specs.Expressions.{Expr, constant, variable, last_of, one, two, choose, pre, fby, arrow, when_is, merge, call, Exprs, no_expr, more_exprs, Parts, no_part, more_parts}
use Rattle.hp_tree.specs.ExpressionTypes.{Scope, scope_of, typed_in}
use Rattle.hp_tree.specs.Blocks.{Decl, Block, block, Eqns, no_eqn, more_eqns, Eqn, define, switch, reset, automaton, Arms, no_arm, more_arms, States, no_state, more_states}
use Rattle.hp_tree.specs.Programs.{Contract, TypeDecl}
use Rattle.hp_tree.specs.Instant.{Arms as ArmsOf, Args, Assume, Body, Enforce, Observer, Equations, First, Head, Instance, Right, Second, States as StatesOf, Tail, Test, Third, Unless, Until}
use Rattle.hp_meaning.specs.Contract.Slots.{FreePlace, Slot, free_among}
use Rattle.law_automata.specs.Lowered.Standing.{Along}
use Rattle.law_drawing.proofs.SteeredLemmas.Uncalled.{ArmsCallNothing, BlockCallsNothing, CallsNothing, ConditionsCallNothing, ContractCallsNothing, EqnCallsNothing, EqnsCallNothing, PartsCallNothing, StatesCallNothing, ToldCallsNothing}
use Rattle.law_equations.specs.Flattened.Flatten.{Prefix, below}
use Rattle.law_choices.specs.Places.Groups.{groups_of_contract, groups_of_told, compared_groups, free_outputs, groups, groups_of_all, groups_of_arms, groups_of_block, groups_of_conditions, groups_of_equation, groups_of_equations, groups_of_parts, groups_of_states, in_a_row}
use Rattle.law_choices.specs.Seeing.InBody.{no_slots}
use Rattle.law_choices.proofs.PlacesLemmas.Relating.{along-both}
use Rattle.law_choices.proofs.SeeingLemmas.Listed.{no-elements}

-- ---- what contracts of callees bring stands behind

-- the one begins with the other
abbrev pub Begins : List FreePlace → List FreePlace → Type 0
Begins long short = (rest : List FreePlace) × (long ≡ short ++ rest)

abbrev pub Bigger : List (List FreePlace) → List (List FreePlace) → Type 0
Bigger gs hs = Along Begins gs hs

same-bigger : (gs : List (List FreePlace)) → Bigger gs gs
same-bigger [] = tt
same-bigger (g ∷ gs) = (([], sym (append-nil g)), same-bigger gs)

pub bigger-least : (gs hs : List (List FreePlace)) → Bigger gs hs → length (in_a_row hs) ≤ length (in_a_row gs)
bigger-least [] [] b = omega arith
bigger-least [] (h ∷ hs) b = absurd b
bigger-least (g ∷ gs) [] b = absurd b
bigger-least (g ∷ gs) (h ∷ hs) b =
    let rest = bigger-least gs hs b.1 in
    let a = length-append g (in_a_row gs) in
    let d = length-append h (in_a_row hs) in
    let e = ap length b.0.1 ∙ length-append h b.0.0 in
    omega (arith, rest, a, d, e)

-- where there is no more of it, it is the same
pub bigger-same : (gs hs : List (List FreePlace)) → Bigger gs hs → length (in_a_row gs) ≡ length (in_a_row hs) → in_a_row gs ≡ in_a_row hs
bigger-same [] [] b l = refl
bigger-same [] (h ∷ hs) b l = absurd b
bigger-same (g ∷ gs) [] b l = absurd b
bigger-same (g ∷ gs) (h ∷ hs) b l =
    let least = bigger-least gs hs b.1 in
    let a = length-append g (in_a_row gs) in
    let d = length-append h (in_a_row hs) in
    let e = ap length b.0.1 ∙ length-append h b.0.0 in
    let none : b.0.0 ≡ [] = no-elements b.0.0 (omega (arith, l, least, a, d, e)) in
    let same : g ≡ h = b.0.1 ∙ ap (λ xs. h ++ xs) none ∙ append-nil h in
    ap₂ (λ (xs ys : List FreePlace). xs ++ ys) same (bigger-same gs hs b.1 (omega (arith, l, least, a, d, e, ap length none)))

module _ (types : List TypeDecl) (outs : List ℕ → List Decl) (callee : List ℕ → Prefix → List Slot) where
  pub two-bigger : (gs hs : List (List FreePlace)) (ks ls : List (List FreePlace)) → Bigger gs hs → Bigger ks ls → Bigger (gs ++ ks) (hs ++ ls)
  two-bigger gs hs ks ls a b = along-both Begins gs ks hs ls a b

  mutual
    pub expr-bigger : (e : Expr) (names : Scope) (w : Prefix) → Bigger (groups types outs callee e names w) (groups types outs no_slots e names w)
    expr-bigger (constant s c) names w = tt
    expr-bigger (variable s x) names w = tt
    expr-bigger (last_of s x) names w = tt
    expr-bigger (one s o a) names w = expr-bigger a names (below First w)
    expr-bigger (two s o a b) names w =
        two-bigger (compared_groups types outs callee o a names w) (compared_groups types outs no_slots o a names w) (groups types outs callee a names (below First w) ++ groups types outs callee b names (below Second w)) (groups types outs no_slots a names (below First w) ++ groups types outs no_slots b names (below Second w))
        (same-bigger (compared_groups types outs callee o a names w))
        (two-bigger (groups types outs callee a names (below First w)) (groups types outs no_slots a names (below First w)) (groups types outs callee b names (below Second w)) (groups types outs no_slots b names (below Second w)) (expr-bigger a names (below First w)) (expr-bigger b names (below Second w)))
    expr-bigger (choose s a b c) names w =
        two-bigger (groups types outs callee a names (below First w)) (groups types outs no_slots a names (below First w)) (groups types outs callee b names (below Second w) ++ groups types outs callee c names (below Third w)) (groups types outs no_slots b names (below Second w) ++ groups types outs no_slots c names (below Third w))
        (expr-bigger a names (below First w))
        (two-bigger (groups types outs callee b names (below Second w)) (groups types outs no_slots b names (below Second w)) (groups types outs callee c names (below Third w)) (groups types outs no_slots c names (below Third w)) (expr-bigger b names (below Second w)) (expr-bigger c names (below Third w)))
    expr-bigger (pre s a) names w = expr-bigger a names (below First w)
    expr-bigger (fby s a b) names w = two-bigger (groups types outs callee a names (below First w)) (groups types outs no_slots a names (below First w)) (groups types outs callee b names (below Second w)) (groups types outs no_slots b names (below Second w)) (expr-bigger a names (below First w)) (expr-bigger b names (below Second w))
    expr-bigger (arrow s a b) names w = two-bigger (groups types outs callee a names (below First w)) (groups types outs no_slots a names (below First w)) (groups types outs callee b names (below Second w)) (groups types outs no_slots b names (below Second w)) (expr-bigger a names (below First w)) (expr-bigger b names (below Second w))
    expr-bigger (when_is s a c x) names w = expr-bigger a names (below First w)
    expr-bigger (merge s x ps) names w = parts-bigger ps names (below Args w)
    expr-bigger (call s f inlined es) names w =
        let own = free_outputs (outs f) (below Instance w) in
        let more = free_among (callee f (below Instance w)) in
        ((more, ap (λ xs. xs ++ more) (sym (append-nil own))), all-bigger es names (below Args w))

    all-bigger : (es : Exprs) (names : Scope) (w : Prefix) → Bigger (groups_of_all types outs callee es names w) (groups_of_all types outs no_slots es names w)
    all-bigger no_expr names w = tt
    all-bigger (more_exprs e es) names w = two-bigger (groups types outs callee e names (below Head w)) (groups types outs no_slots e names (below Head w)) (groups_of_all types outs callee es names (below Tail w)) (groups_of_all types outs no_slots es names (below Tail w)) (expr-bigger e names (below Head w)) (all-bigger es names (below Tail w))

    parts-bigger : (ps : Parts) (names : Scope) (w : Prefix) → Bigger (groups_of_parts types outs callee ps names w) (groups_of_parts types outs no_slots ps names w)
    parts-bigger no_part names w = tt
    parts-bigger (more_parts c e ps) names w = two-bigger (groups types outs callee e names (below Head w)) (groups types outs no_slots e names (below Head w)) (groups_of_parts types outs callee ps names (below Tail w)) (groups_of_parts types outs no_slots ps names (below Tail w)) (expr-bigger e names (below Head w)) (parts-bigger ps names (below Tail w))

  conditions-bigger : (ts : List Trans) (names : Scope) (w : Prefix) → Bigger (groups_of_conditions types outs callee ts names w) (groups_of_conditions types outs no_slots ts names w)
  conditions-bigger [] names w = tt
  conditions-bigger (t ∷ ts) names w = two-bigger (groups types outs callee t.cond names (below Head w)) (groups types outs no_slots t.cond names (below Head w)) (groups_of_conditions types outs callee ts names (below Tail w)) (groups_of_conditions types outs no_slots ts names (below Tail w)) (expr-bigger t.cond names (below Head w)) (conditions-bigger ts names (below Tail w))

  mutual
    pub block-bigger : (b : Block) (names : Scope) (w : Prefix) → Bigger (groups_of_block types outs callee b names w) (groups_of_block types outs no_slots b names w)
    block-bigger (block ds es) names w = eqns-bigger es (typed_in ds names) (below Equations w)

    eqns-bigger : (es : Eqns) (names : Scope) (w : Prefix) → Bigger (groups_of_equations types outs callee es names w) (groups_of_equations types outs no_slots es names w)
    eqns-bigger no_eqn names w = tt
    eqns-bigger (more_eqns e es) names w = two-bigger (groups_of_equation types outs callee e names (below Head w)) (groups_of_equation types outs no_slots e names (below Head w)) (groups_of_equations types outs callee es names (below Tail w)) (groups_of_equations types outs no_slots es names (below Tail w)) (eqn-bigger e names (below Head w)) (eqns-bigger es names (below Tail w))

    eqn-bigger : (e : Eqn) (names : Scope) (w : Prefix) → Bigger (groups_of_equation types outs callee e names w) (groups_of_equation types outs no_slots e names w)
    eqn-bigger (define s ys e) names w = expr-bigger e names (below Right w)
    eqn-bigger (switch s e arms) names w = two-bigger (groups types outs callee e names (below Test w)) (groups types outs no_slots e names (below Test w)) (groups_of_arms types outs callee arms names (below ArmsOf w)) (groups_of_arms types outs no_slots arms names (below ArmsOf w)) (expr-bigger e names (below Test w)) (arms-bigger arms names (below ArmsOf w))
    eqn-bigger (reset s b e) names w = two-bigger (groups_of_block types outs callee b names (below Body w)) (groups_of_block types outs no_slots b names (below Body w)) (groups types outs callee e names (below Test w)) (groups types outs no_slots e names (below Test w)) (block-bigger b names (below Body w)) (expr-bigger e names (below Test w))
    eqn-bigger (automaton s ss) names w = states-bigger ss names (below StatesOf w)

    arms-bigger : (arms : Arms) (names : Scope) (w : Prefix) → Bigger (groups_of_arms types outs callee arms names w) (groups_of_arms types outs no_slots arms names w)
    arms-bigger no_arm names w = tt
    arms-bigger (more_arms c b s arms) names w = two-bigger (groups_of_block types outs callee b names (below Head w)) (groups_of_block types outs no_slots b names (below Head w)) (groups_of_arms types outs callee arms names (below Tail w)) (groups_of_arms types outs no_slots arms names (below Tail w)) (block-bigger b names (below Head w)) (arms-bigger arms names (below Tail w))

    states-bigger : (ss : States) (names : Scope) (w : Prefix) → Bigger (groups_of_states types outs callee ss names w) (groups_of_states types outs no_slots ss names w)
    states-bigger no_state names w = tt
    states-bigger (more_states f b until unless s ss) names w =
        let of_body = groups_of_block types outs callee b names (below Body (below Head w)) in
        let of_until = groups_of_conditions types outs callee until (scope_of b names) (below Until (below Head w)) in
        let of_unless = groups_of_conditions types outs callee unless names (below Unless (below Head w)) in
        let of_others = groups_of_states types outs callee ss names (below Tail w) in
        let body_alone = groups_of_block types outs no_slots b names (below Body (below Head w)) in
        let until_alone = groups_of_conditions types outs no_slots until (scope_of b names) (below Until (below Head w)) in
        let unless_alone = groups_of_conditions types outs no_slots unless names (below Unless (below Head w)) in
        let others_alone = groups_of_states types outs no_slots ss names (below Tail w) in
        two-bigger of_body body_alone (of_until ++ (of_unless ++ of_others)) (until_alone ++ (unless_alone ++ others_alone)) (block-bigger b names (below Body (below Head w)))
        (two-bigger of_until until_alone (of_unless ++ of_others) (unless_alone ++ others_alone) (conditions-bigger until (scope_of b names) (below Until (below Head w))) (two-bigger of_unless unless_alone of_others others_alone (conditions-bigger unless names (below Unless (below Head w))) (states-bigger ss names (below Tail w))))

-- ---- where nothing is called it is the same

module _ (types : List TypeDecl) (outs : List ℕ → List Decl) (callee : List ℕ → Prefix → List Slot) where
  mutual
    expr-same : (e : Expr) (names : Scope) (w : Prefix) → CallsNothing e → groups types outs callee e names w ≡ groups types outs no_slots e names w
    expr-same (constant s c) names w h = refl
    expr-same (variable s x) names w h = refl
    expr-same (last_of s x) names w h = refl
    expr-same (one s o a) names w h = expr-same a names (below First w) h
    expr-same (two s o a b) names w h = ap (λ (xs : List (List FreePlace)). compared_groups types outs no_slots o a names w ++ xs) (ap₂ (λ (xs ys : List (List FreePlace)). xs ++ ys) (expr-same a names (below First w) h.0) (expr-same b names (below Second w) h.1))
    expr-same (choose s a b c) names w h =
        ap₂ (λ (xs ys : List (List FreePlace)). xs ++ ys) (expr-same a names (below First w) h.0)
        (ap₂ (λ (xs ys : List (List FreePlace)). xs ++ ys) (expr-same b names (below Second w) h.1) (expr-same c names (below Third w) h.2))
    expr-same (pre s a) names w h = expr-same a names (below First w) h
    expr-same (fby s a b) names w h = ap₂ (λ (xs ys : List (List FreePlace)). xs ++ ys) (expr-same a names (below First w) h.0) (expr-same b names (below Second w) h.1)
    expr-same (arrow s a b) names w h = ap₂ (λ (xs ys : List (List FreePlace)). xs ++ ys) (expr-same a names (below First w) h.0) (expr-same b names (below Second w) h.1)
    expr-same (when_is s a c x) names w h = expr-same a names (below First w) h
    expr-same (merge s x ps) names w h = parts-same ps names (below Args w) h
    expr-same (call s f inlined es) names w h = absurd h

    parts-same : (ps : Parts) (names : Scope) (w : Prefix) → PartsCallNothing ps → groups_of_parts types outs callee ps names w ≡ groups_of_parts types outs no_slots ps names w
    parts-same no_part names w h = refl
    parts-same (more_parts c e ps) names w h = ap₂ (λ (xs ys : List (List FreePlace)). xs ++ ys) (expr-same e names (below Head w) h.0) (parts-same ps names (below Tail w) h.1)

  conditions-same : (ts : List Trans) (names : Scope) (w : Prefix) → ConditionsCallNothing ts → groups_of_conditions types outs callee ts names w ≡ groups_of_conditions types outs no_slots ts names w
  conditions-same [] names w h = refl
  conditions-same (t ∷ ts) names w h = ap₂ (λ (xs ys : List (List FreePlace)). xs ++ ys) (expr-same t.cond names (below Head w) h.0) (conditions-same ts names (below Tail w) h.1)

  mutual
    pub block-same : (b : Block) (names : Scope) (w : Prefix) → BlockCallsNothing b → groups_of_block types outs callee b names w ≡ groups_of_block types outs no_slots b names w
    block-same (block ds es) names w h = eqns-same es (typed_in ds names) (below Equations w) h

    eqns-same : (es : Eqns) (names : Scope) (w : Prefix) → EqnsCallNothing es → groups_of_equations types outs callee es names w ≡ groups_of_equations types outs no_slots es names w
    eqns-same no_eqn names w h = refl
    eqns-same (more_eqns e es) names w h = ap₂ (λ (xs ys : List (List FreePlace)). xs ++ ys) (eqn-same e names (below Head w) h.0) (eqns-same es names (below Tail w) h.1)

    eqn-same : (e : Eqn) (names : Scope) (w : Prefix) → EqnCallsNothing e → groups_of_equation types outs callee e names w ≡ groups_of_equation types outs no_slots e names w
    eqn-same (define s ys e) names w h = expr-same e names (below Right w) h
    eqn-same (switch s e arms) names w h = ap₂ (λ (xs ys : List (List FreePlace)). xs ++ ys) (expr-same e names (below Test w) h.0) (arms-same arms names (below ArmsOf w) h.1)
    eqn-same (reset s b e) names w h = ap₂ (λ (xs ys : List (List FreePlace)). xs ++ ys) (block-same b names (below Body w) h.0) (expr-same e names (below Test w) h.1)
    eqn-same (automaton s ss) names w h = states-same ss names (below StatesOf w) h

    arms-same : (arms : Arms) (names : Scope) (w : Prefix) → ArmsCallNothing arms → groups_of_arms types outs callee arms names w ≡ groups_of_arms types outs no_slots arms names w
    arms-same no_arm names w h = refl
    arms-same (more_arms c b s arms) names w h = ap₂ (λ (xs ys : List (List FreePlace)). xs ++ ys) (block-same b names (below Head w) h.0) (arms-same arms names (below Tail w) h.1)

    states-same : (ss : States) (names : Scope) (w : Prefix) → StatesCallNothing ss → groups_of_states types outs callee ss names w ≡ groups_of_states types outs no_slots ss names w
    states-same no_state names w h = refl
    states-same (more_states f b until unless s ss) names w h =
        ap₂ (λ (xs ys : List (List FreePlace)). xs ++ ys) (block-same b names (below Body (below Head w)) h.0)
        (ap₂ (λ (xs ys : List (List FreePlace)). xs ++ ys) (conditions-same until (scope_of b names) (below Until (below Head w)) h.1)
        (ap₂ (λ (xs ys : List (List FreePlace)). xs ++ ys) (conditions-same unless names (below Unless (below Head w)) h.2) (states-same ss names (below Tail w) h.3)))

  -- ---- contracts

  told-bigger : (o : Option Expr) (names : Scope) (w : Prefix) → Bigger (groups_of_told types outs callee o names w) (groups_of_told types outs no_slots o names w)
  told-bigger None names w = tt
  told-bigger (Some e) names w = expr-bigger types outs callee e names w

  pub contract-bigger : (c : Contract) (names : Scope) (w : Prefix) → Bigger (groups_of_contract types outs callee c names w) (groups_of_contract types outs no_slots c names w)
  contract-bigger c names w =
      let inside = scope_of c.body names in
      let body = groups_of_block types outs callee c.body names (below Observer w) in
      let assumed = groups_of_told types outs callee c.assume inside (below Assume w) in
      let enforced = groups_of_told types outs callee c.enforce inside (below Enforce w) in
      let body_alone = groups_of_block types outs no_slots c.body names (below Observer w) in
      let assumed_alone = groups_of_told types outs no_slots c.assume inside (below Assume w) in
      let enforced_alone = groups_of_told types outs no_slots c.enforce inside (below Enforce w) in
      two-bigger types outs callee body body_alone (assumed ++ enforced) (assumed_alone ++ enforced_alone) (block-bigger types outs callee c.body names (below Observer w))
      (two-bigger types outs callee assumed assumed_alone enforced enforced_alone (told-bigger c.assume inside (below Assume w)) (told-bigger c.enforce inside (below Enforce w)))

  told-same : (o : Option Expr) (names : Scope) (w : Prefix) → ToldCallsNothing o → groups_of_told types outs callee o names w ≡ groups_of_told types outs no_slots o names w
  told-same None names w h = refl
  told-same (Some e) names w h = expr-same e names w h

  pub contract-same : (c : Contract) (names : Scope) (w : Prefix) → ContractCallsNothing (Some c) → groups_of_contract types outs callee c names w ≡ groups_of_contract types outs no_slots c names w
  contract-same c names w h =
      ap₂ (λ (xs ys : List (List FreePlace)). xs ++ ys) (block-same c.body names (below Observer w) h.0)
      (ap₂ (λ (xs ys : List (List FreePlace)). xs ++ ys) (told-same c.assume (scope_of c.body names) (below Assume w) h.1) (told-same c.enforce (scope_of c.body names) (below Enforce w) h.2))
