-- The free places that a call brings of its callee's contract are early nowhere.
use Rattle.std.proofs.Common.{◌≡◌, ℕ, Bool, true, false, ◌||◌, if◌then◌else◌, List, [], ◌∷◌, ◌++◌, Option, None, Some, refl, sym, ap, subst, ◌∙◌}
use Rattle.std.specs.Prelude.{⊤, ◌&&◌}
use Rattle.std.specs.List.{AllByRecursion}
use Rattle.std.proofs.lemmas.List.{append_assoc}
use Rattle.hp_base.specs.declared.ty.Const.{Const}
use Rattle.hp_base.specs.declared.ty.Ty.TheVariants as ty
use Rattle.hp_tree.specs.declared.block.Trans.{Trans}
use Rattle.hp_tree.specs.Expressions.{Expr, constant, variable, last_of, one, two, choose, pre, fby, arrow, when_is, merge, call, Exprs, no_expr, more_exprs, Parts, no_part, more_parts}
use Rattle.hp_tree.specs.Blocks.{Decl, Block, block, Eqns, no_eqn, more_eqns, Eqn, define, switch, reset, automaton, Arms, no_arm, more_arms, States, no_state, more_states}
use Rattle.hp_tree.specs.Programs.{TypeDecl, Contract, Node}
use Rattle.hp_tree.specs.Operators.{is_comparison}
use Rattle.hp_tree.specs.ExpressionTypes.{Scope, typed_in, scope_of, type_of, untyped}
use Rattle.hp_tree.specs.Instant.{Step, Body, Observer, Assume, Enforce, Named, Equations, Head, Tail, Right, Test, Arms as ArmsOf, States as StatesOf, Until, Unless, First, Second, Third, Args, Instance, Place, Clock, without}
use Rattle.hp_tree.specs.Meaning.{clock_of}
use Rattle.hp_tree.specs.Reaction.{Each}
use Rattle.hp_meaning.specs.Causal.RanksOfPoints.{same_step}
use Rattle.hp_meaning.specs.Contract.FreePlaces.{FreeClocks, by_step, free_in, free_in_all, free_in_block, free_in_conditions, free_in_contract, free_in_equation, free_in_equations, free_in_parts, free_in_states, free_in_told, if_compared, outputs_free, own_free}
use Rattle.hp_meaning.specs.Contract.Slots.{Slot, register, free, input, control, FreePlace, callee_slots, free_among, is_int, slots, slots_of_all, slots_of_parts, slots_of_conditions, slots_of_block, slots_of_equations, slots_of_equation, slots_of_arms, slots_of_states, slots_of_contract}
use Rattle.hp_meaning.proofs.CausalLemmas.Ranking.{step_same}
use Rattle.law_equations.specs.Flattened.Flatten.{Prefix, below}
use Rattle.law_games.proofs.MirrorLemmas.Realised.{slots_told}
use Rattle.law_choices.proofs.PlacesLemmas.Grouped.{among-append}
use Rattle.law_choices.proofs.PlacesLemmas.Slots.{lasts_slots}

-- ---- places through a contract

-- a step from a node to a part of its contract
abbrev is_told : Step → Bool
is_told Observer = true
is_told Assume = true
is_told Enforce = true
is_told s = false

abbrev through : Place → Bool
through [] = false
through (s ∷ p) = is_told s || through p

through-behind : (q p : Place) (s : Step) → is_told s ≡ true → through (q ++ s ∷ p) ≡ true
through-behind [] p s h = ap (λ b. b || through p) h
through-behind (t ∷ q) p s h = by (is_told t) (through-behind q p s h)
  where
    by : (b : Bool) → through (q ++ s ∷ p) ≡ true → (b || through (q ++ s ∷ p)) ≡ true
    by true e = refl
    by false e = e

-- nothing is free of a part behind such a step
abbrev NeverFree : FreeClocks → Type 0
NeverFree k = (p : Place) → through p ≡ true → k p ≡ None

never-steps : (ks : List (Step × FreeClocks)) → AllByRecursion (λ (k : Step × FreeClocks). (is_told k.0 ≡ false) × NeverFree k.1) ks → NeverFree (by_step ks)
never-steps ks h [] e = absurd (let no : false ≡ true = e in cc)
never-steps [] h (s ∷ p) e = refl
never-steps (k ∷ ks) h (s ∷ p) e = by (same_step k.0 s) refl (never-steps ks h.1 (s ∷ p) e)
  where
    behind : (b : Bool) → is_told s ≡ b → b ≡ false → (b || through p) ≡ true → through p ≡ true
    behind b q r t = ap (λ c. c || through p) (sym r) ∙ t

    by : (b : Bool) → same_step k.0 s ≡ b → by_step ks (s ∷ p) ≡ None → (if b then k.1 p else by_step ks (s ∷ p)) ≡ None
    by true q r = h.0.1 p (behind (is_told s) refl (ap is_told (sym (step_same k.0 s q)) ∙ h.0.0) e)
    by false q r = r

never-compared : (b : Bool) (clock : Clock) (k : FreeClocks) → NeverFree k → NeverFree (if_compared b clock k)
never-compared b clock k h [] e = absurd (let no : false ≡ true = e in cc)
never-compared true clock k h (s ∷ p) e = h (s ∷ p) e
never-compared false clock k h (s ∷ p) e = h (s ∷ p) e

never-outputs : (clock : Clock) → NeverFree (outputs_free clock)
never-outputs clock (Named x ∷ []) e = absurd (let no : false ≡ true = e in cc)
never-outputs clock p e = refl

mutual
  never-expr : (e : Expr) (clock : Clock) → NeverFree (free_in e clock)
  never-expr (constant s c) clock p h = refl
  never-expr (variable s x) clock p h = refl
  never-expr (last_of s x) clock p h = refl
  never-expr (one s o a) clock p h = never-steps ((First, free_in a clock) ∷ []) (((refl, never-expr a clock), tt)) p h
  never-expr (two s o a b) clock p h = never-compared (is_comparison o) clock (by_step ((First, free_in a clock) ∷ (Second, free_in b clock) ∷ [])) (never-steps ((First, free_in a clock) ∷ (Second, free_in b clock) ∷ []) ((refl, never-expr a clock), ((refl, never-expr b clock), tt))) p h
  never-expr (choose s a b c) clock p h = never-steps ((First, free_in a clock) ∷ (Second, free_in b clock) ∷ (Third, free_in c clock) ∷ []) ((refl, never-expr a clock), ((refl, never-expr b clock), ((refl, never-expr c clock), tt))) p h
  never-expr (pre s a) clock p h = never-steps ((First, free_in a clock) ∷ []) ((refl, never-expr a clock), tt) p h
  never-expr (fby s a b) clock p h = never-steps ((First, free_in a clock) ∷ (Second, free_in b clock) ∷ []) ((refl, never-expr a clock), ((refl, never-expr b clock), tt)) p h
  never-expr (arrow s a b) clock p h = never-steps ((First, free_in a clock) ∷ (Second, free_in b clock) ∷ []) ((refl, never-expr a clock), ((refl, never-expr b clock), tt)) p h
  never-expr (when_is s a c x) clock p h = never-steps ((First, free_in a (without clock)) ∷ []) ((refl, never-expr a (without clock)), tt) p h
  never-expr (merge s x ps) clock p h = never-steps ((Args, free_in_parts ps x clock) ∷ []) ((refl, never-parts ps x clock), tt) p h
  never-expr (call s f inlined es) clock p h = never-steps ((Args, free_in_all es clock) ∷ (Instance, outputs_free clock) ∷ []) ((refl, never-all es clock), ((refl, never-outputs clock), tt)) p h

  never-all : (es : Exprs) (clock : Clock) → NeverFree (free_in_all es clock)
  never-all no_expr clock p h = refl
  never-all (more_exprs e es) clock p h = never-steps ((Head, free_in e clock) ∷ (Tail, free_in_all es clock) ∷ []) ((refl, never-expr e clock), ((refl, never-all es clock), tt)) p h

  never-parts : (ps : Parts) (x : List ℕ) (clock : Clock) → NeverFree (free_in_parts ps x clock)
  never-parts no_part x clock p h = refl
  never-parts (more_parts c e ps) x clock p h = never-steps ((Head, free_in e ((c, x) ∷ clock)) ∷ (Tail, free_in_parts ps x clock) ∷ []) ((refl, never-expr e ((c, x) ∷ clock)), ((refl, never-parts ps x clock), tt)) p h

never-conditions : (ts : List Trans) → NeverFree (free_in_conditions ts)
never-conditions [] p h = refl
never-conditions (t ∷ ts) p h = never-steps ((Head, free_in t.cond []) ∷ (Tail, free_in_conditions ts) ∷ []) ((refl, never-expr t.cond []), ((refl, never-conditions ts), tt)) p h

never-states : (ss : States) → NeverFree (free_in_states ss)
never-states no_state p h = refl
never-states (more_states f b until unless s ss) p h =
    never-steps ((Head, by_step ((Unless, free_in_conditions unless) ∷ [])) ∷ (Tail, free_in_states ss) ∷ []) ((refl, never-steps ((Unless, free_in_conditions unless) ∷ []) ((refl, never-conditions unless), tt)), ((refl, never-states ss), tt)) p h

never-equation : (ds : List Decl) (e : Eqn) → NeverFree (free_in_equation ds e)
never-equation ds (define s ys e) p h = never-steps ((Right, free_in e (clock_of ds ys e)) ∷ []) ((refl, never-expr e (clock_of ds ys e)), tt) p h
never-equation ds (switch s e arms) p h = never-steps ((Test, free_in e []) ∷ []) ((refl, never-expr e []), tt) p h
never-equation ds (reset s b e) p h = never-steps ((Test, free_in e []) ∷ []) ((refl, never-expr e []), tt) p h
never-equation ds (automaton s ss) p h = never-steps ((StatesOf, free_in_states ss) ∷ []) ((refl, never-states ss), tt) p h

never-equations : (ds : List Decl) (es : Eqns) → NeverFree (free_in_equations ds es)
never-equations ds no_eqn p h = refl
never-equations ds (more_eqns e es) p h = never-steps ((Head, free_in_equation ds e) ∷ (Tail, free_in_equations ds es) ∷ []) ((refl, never-equation ds e), ((refl, never-equations ds es), tt)) p h

never-block : (b : Block) → NeverFree (free_in_block b)
never-block (block ds es) p h = never-steps ((Equations, free_in_equations ds es) ∷ []) ((refl, never-equations ds es), tt) p h

never-told : (o : Option Expr) → NeverFree (free_in_told o)
never-told None p h = refl
never-told (Some e) p h = never-expr e [] p h

-- in front of that stands one step from the node
never-behind : (ks : List (Step × FreeClocks)) → AllByRecursion (λ (k : Step × FreeClocks). NeverFree k.1) ks → (s : Step) (p : Place) → through p ≡ true → by_step ks (s ∷ p) ≡ None
never-behind [] h s p e = refl
never-behind (k ∷ ks) h s p e = by (same_step k.0 s) (never-behind ks h.1 s p e)
  where
    by : (b : Bool) → by_step ks (s ∷ p) ≡ None → (if b then k.1 p else by_step ks (s ∷ p)) ≡ None
    by true r = h.0 p e
    by false r = r

contract-never : (o : Option Contract) → AllByRecursion (λ (k : Step × FreeClocks). NeverFree k.1) (free_in_contract o)
contract-never None = tt
contract-never (Some c) = (never-block c.body, (never-told c.assume, (never-told c.enforce, tt)))

-- So a place of a node behind a step to a contract, in front of which stands more, is not free in the node itself.
not-own : (n : Node) (s : Step) (q p : Place) (t : Step) → is_told t ≡ true → own_free n (s ∷ (q ++ t ∷ p)) ≡ None
not-own n s q p t h = never-behind ((Body, free_in_block n.body) ∷ free_in_contract n.contract) (never-block n.body, contract-never n.contract) s (q ++ t ∷ p) (through-behind q p t h)

-- ---- where slots stand

-- free places of slots stand in a part
abbrev StandIn : Prefix → List Slot → Type 0
StandIn w [] = ⊤
StandIn w (input p t ∷ ss) = ((r : Place) × (p ≡ w r)) × StandIn w ss
StandIn w (free p t ∷ ss) = ((r : Place) × (p ≡ w r)) × StandIn w ss
StandIn w (register p k ∷ ss) = StandIn w ss
StandIn w (control p t ∷ ss) = StandIn w ss

stand-both : (w : Prefix) (ss ts : List Slot) → StandIn w ss → StandIn w ts → StandIn w (ss ++ ts)
stand-both w [] ts h k = k
stand-both w (input p t ∷ ss) ts h k = (h.0, stand-both w ss ts h.1 k)
stand-both w (free p t ∷ ss) ts h k = (h.0, stand-both w ss ts h.1 k)
stand-both w (register p q ∷ ss) ts h k = stand-both w ss ts h k
stand-both w (control p t ∷ ss) ts h k = stand-both w ss ts h k

stand-below : (s : Step) (w : Prefix) (ss : List Slot) → StandIn (below s w) ss → StandIn w ss
stand-below s w [] h = tt
stand-below s w (input p t ∷ ss) h = ((s ∷ h.0.0, h.0.1), stand-below s w ss h.1)
stand-below s w (free p t ∷ ss) h = ((s ∷ h.0.0, h.0.1), stand-below s w ss h.1)
stand-below s w (register p q ∷ ss) h = stand-below s w ss h
stand-below s w (control p t ∷ ss) h = stand-below s w ss h

stand-lasts : (types : List TypeDecl) (ds : List Decl) (w v : Prefix) → StandIn v (lasts_slots types ds w)
stand-lasts types [] w v = tt
stand-lasts types (d ∷ ds) w v = by d.last (stand-lasts types ds w v)
  where
    by : (o : Option Const) → StandIn v (lasts_slots types ds w) → StandIn v (lasts_slots types (record d { last = o } ∷ ds) w)
    by None h = h
    by (Some c) h = h

stand-free : (w : Prefix) (ss : List Slot) → StandIn w ss → Each (λ (q : FreePlace). (r : Place) × (q.0 ≡ w r)) (free_among ss)
stand-free w [] h = tt
stand-free w (input p t ∷ ss) h = (h.0, stand-free w ss h.1)
stand-free w (free p t ∷ ss) h = (h.0, stand-free w ss h.1)
stand-free w (register p q ∷ ss) h = stand-free w ss h
stand-free w (control p t ∷ ss) h = stand-free w ss h

-- where nothing is called
abbrev outs : List ℕ → List Decl
outs f = []

abbrev callee : List ℕ → Prefix → List Slot
callee f w = []

module _ (types : List TypeDecl) where
  stand-compared : (b : Bool) (w : Prefix) → StandIn w (if b then free (w []) ty.Bool ∷ [] else [])
  stand-compared true w = (([], refl), tt)
  stand-compared false w = tt

  mutual
    expr-stands : (e : Expr) (names : Scope) (w : Prefix) → StandIn w (slots types outs callee e names w)
    expr-stands (constant s c) names w = tt
    expr-stands (variable s x) names w = tt
    expr-stands (last_of s x) names w = tt
    expr-stands (one s o a) names w = stand-below First w (slots types outs callee a names (below First w)) (expr-stands a names (below First w))
    expr-stands (two s o a b) names w =
        stand-both w (if is_comparison o && is_int (type_of types outs a names) then free (w []) ty.Bool ∷ [] else []) (slots types outs callee a names (below First w) ++ slots types outs callee b names (below Second w)) (stand-compared (is_comparison o && is_int (type_of types outs a names)) w)
        (stand-both w (slots types outs callee a names (below First w)) (slots types outs callee b names (below Second w)) (stand-below First w (slots types outs callee a names (below First w)) (expr-stands a names (below First w))) (stand-below Second w (slots types outs callee b names (below Second w)) (expr-stands b names (below Second w))))
    expr-stands (choose s a b c) names w =
        stand-both w (slots types outs callee a names (below First w)) (slots types outs callee b names (below Second w) ++ slots types outs callee c names (below Third w)) (stand-below First w (slots types outs callee a names (below First w)) (expr-stands a names (below First w)))
        (stand-both w (slots types outs callee b names (below Second w)) (slots types outs callee c names (below Third w)) (stand-below Second w (slots types outs callee b names (below Second w)) (expr-stands b names (below Second w))) (stand-below Third w (slots types outs callee c names (below Third w)) (expr-stands c names (below Third w))))
    expr-stands (pre s a) names w = stand-below First w (slots types outs callee a names (below First w)) (expr-stands a names (below First w))
    expr-stands (fby s a b) names w =
        stand-both w (slots types outs callee a names (below First w)) (slots types outs callee b names (below Second w)) (stand-below First w (slots types outs callee a names (below First w)) (expr-stands a names (below First w))) (stand-below Second w (slots types outs callee b names (below Second w)) (expr-stands b names (below Second w)))
    expr-stands (arrow s a b) names w =
        stand-both w (slots types outs callee a names (below First w)) (slots types outs callee b names (below Second w)) (stand-below First w (slots types outs callee a names (below First w)) (expr-stands a names (below First w))) (stand-below Second w (slots types outs callee b names (below Second w)) (expr-stands b names (below Second w)))
    expr-stands (when_is s a c x) names w = stand-below First w (slots types outs callee a names (below First w)) (expr-stands a names (below First w))
    expr-stands (merge s x ps) names w = stand-below Args w (slots_of_parts types outs callee ps names (below Args w)) (parts-stand ps names (below Args w))
    expr-stands (call s f inlined es) names w = stand-below Args w (slots_of_all types outs callee es names (below Args w)) (all-stand es names (below Args w))

    all-stand : (es : Exprs) (names : Scope) (w : Prefix) → StandIn w (slots_of_all types outs callee es names w)
    all-stand no_expr names w = tt
    all-stand (more_exprs e es) names w =
        stand-both w (slots types outs callee e names (below Head w)) (slots_of_all types outs callee es names (below Tail w)) (stand-below Head w (slots types outs callee e names (below Head w)) (expr-stands e names (below Head w))) (stand-below Tail w (slots_of_all types outs callee es names (below Tail w)) (all-stand es names (below Tail w)))

    parts-stand : (ps : Parts) (names : Scope) (w : Prefix) → StandIn w (slots_of_parts types outs callee ps names w)
    parts-stand no_part names w = tt
    parts-stand (more_parts c e ps) names w =
        stand-both w (slots types outs callee e names (below Head w)) (slots_of_parts types outs callee ps names (below Tail w)) (stand-below Head w (slots types outs callee e names (below Head w)) (expr-stands e names (below Head w))) (stand-below Tail w (slots_of_parts types outs callee ps names (below Tail w)) (parts-stand ps names (below Tail w)))

  conditions-stand : (ts : List Trans) (names : Scope) (w : Prefix) → StandIn w (slots_of_conditions types outs callee ts names w)
  conditions-stand [] names w = tt
  conditions-stand (t ∷ ts) names w =
      stand-both w (slots types outs callee t.cond names (below Head w)) (slots_of_conditions types outs callee ts names (below Tail w)) (stand-below Head w (slots types outs callee t.cond names (below Head w)) (expr-stands t.cond names (below Head w))) (stand-below Tail w (slots_of_conditions types outs callee ts names (below Tail w)) (conditions-stand ts names (below Tail w)))

  mutual
    block-stands : (b : Block) (names : Scope) (w : Prefix) → StandIn w (slots_of_block types outs callee b names w)
    block-stands (block ds es) names w =
        stand-both w (lasts_slots types ds w) (slots_of_equations types outs callee es (typed_in ds names) (below Equations w)) (stand-lasts types ds w w) (stand-below Equations w (slots_of_equations types outs callee es (typed_in ds names) (below Equations w)) (eqns-stand es (typed_in ds names) (below Equations w)))

    eqns-stand : (es : Eqns) (names : Scope) (w : Prefix) → StandIn w (slots_of_equations types outs callee es names w)
    eqns-stand no_eqn names w = tt
    eqns-stand (more_eqns e es) names w =
        stand-both w (slots_of_equation types outs callee e names (below Head w)) (slots_of_equations types outs callee es names (below Tail w)) (stand-below Head w (slots_of_equation types outs callee e names (below Head w)) (eqn-stands e names (below Head w)))
        (stand-below Tail w (slots_of_equations types outs callee es names (below Tail w)) (eqns-stand es names (below Tail w)))

    eqn-stands : (e : Eqn) (names : Scope) (w : Prefix) → StandIn w (slots_of_equation types outs callee e names w)
    eqn-stands (define s ys e) names w = stand-below Right w (slots types outs callee e names (below Right w)) (expr-stands e names (below Right w))
    eqn-stands (switch s e arms) names w =
        stand-both w (slots types outs callee e names (below Test w)) (slots_of_arms types outs callee arms names (below ArmsOf w)) (stand-below Test w (slots types outs callee e names (below Test w)) (expr-stands e names (below Test w))) (stand-below ArmsOf w (slots_of_arms types outs callee arms names (below ArmsOf w)) (arms-stand arms names (below ArmsOf w)))
    eqn-stands (reset s b e) names w =
        stand-both w (slots_of_block types outs callee b names (below Body w)) (slots types outs callee e names (below Test w)) (stand-below Body w (slots_of_block types outs callee b names (below Body w)) (block-stands b names (below Body w))) (stand-below Test w (slots types outs callee e names (below Test w)) (expr-stands e names (below Test w)))
    eqn-stands (automaton s ss) names w = stand-below StatesOf w (slots_of_states types outs callee ss names (below StatesOf w)) (states-stand ss names (below StatesOf w))

    arms-stand : (arms : Arms) (names : Scope) (w : Prefix) → StandIn w (slots_of_arms types outs callee arms names w)
    arms-stand no_arm names w = tt
    arms-stand (more_arms c b s arms) names w =
        stand-both w (slots_of_block types outs callee b names (below Head w)) (slots_of_arms types outs callee arms names (below Tail w)) (stand-below Head w (slots_of_block types outs callee b names (below Head w)) (block-stands b names (below Head w))) (stand-below Tail w (slots_of_arms types outs callee arms names (below Tail w)) (arms-stand arms names (below Tail w)))

    states-stand : (ss : States) (names : Scope) (w : Prefix) → StandIn w (slots_of_states types outs callee ss names w)
    states-stand no_state names w = tt
    states-stand (more_states f b until unless s ss) names w =
        let v = below Head w in
        let A = slots_of_block types outs callee b names (below Body v) in
        let C = slots_of_conditions types outs callee until (scope_of b names) (below Until v) in
        let D = slots_of_conditions types outs callee unless names (below Unless v) in
        let M = slots_of_states types outs callee ss names (below Tail w) in
        stand-both w A (C ++ (D ++ M)) (stand-below Head w A (stand-below Body v A (block-stands b names (below Body v))))
        (stand-both w C (D ++ M) (stand-below Head w C (stand-below Until v C (conditions-stand until (scope_of b names) (below Until v))))
        (stand-both w D M (stand-below Head w D (stand-below Unless v D (conditions-stand unless names (below Unless v)))) (stand-below Tail w M (states-stand ss names (below Tail w)))))

-- ---- callees

-- a place behind a step to a part of a contract
abbrev BehindTold : Prefix → FreePlace → Type 0
BehindTold w q = (t : Step) × (is_told t ≡ true) × (r : Place) × (q.0 ≡ w (t ∷ r))

each-both : (P : FreePlace → Type 0) (xs ys : List FreePlace) → Each P xs → Each P ys → Each P (xs ++ ys)
each-both P [] ys h k = k
each-both P (x ∷ xs) ys h k = (h.0, each-both P xs ys h.1 k)

pub each-as : (P Q : FreePlace → Type 0) → ((q : FreePlace) → P q → Q q) → (xs : List FreePlace) → Each P xs → Each Q xs
each-as P Q f [] h = tt
each-as P Q f (x ∷ xs) h = (f x h.0, each-as P Q f xs h.1)

module _ (types : List TypeDecl) where
  told-late : (o : Option Expr) (names : Scope) (t : Step) (w : Prefix) → is_told t ≡ true → Each (BehindTold w) (free_among (slots_told types outs callee o names (below t w)))
  told-late None names t w h = tt
  told-late (Some e) names t w h =
      let ss = slots types outs callee e names (below t w) in
      each-as (λ (q : FreePlace). (r : Place) × (q.0 ≡ below t w r)) (BehindTold w) (λ q k. (t, h, k.0, k.1)) (free_among ss) (stand-free (below t w) ss (expr-stands types e names (below t w)))

  contract-late : (c : Contract) (names : Scope) (w : Prefix) → Each (BehindTold w) (free_among (slots_of_contract types outs callee (Some c) names w))
  contract-late c names w =
      let B = slots_of_block types outs callee c.body names (below Observer w) in
      let A = slots_told types outs callee c.assume (scope_of c.body names) (below Assume w) in
      let E = slots_told types outs callee c.enforce (scope_of c.body names) (below Enforce w) in
      let first : Each (BehindTold w) (free_among B) = each-as (λ (q : FreePlace). (r : Place) × (q.0 ≡ below Observer w r)) (BehindTold w) (λ q k. (Observer, refl, k.0, k.1)) (free_among B) (stand-free (below Observer w) B (block-stands types c.body names (below Observer w))) in
      subst (Each (BehindTold w)) (sym (among-append B (A ++ E) ∙ ap (λ xs. free_among B ++ xs) (among-append A E)))
      (each-both (BehindTold w) (free_among B) (free_among A ++ free_among E) first
      (each-both (BehindTold w) (free_among A) (free_among E) (told-late c.assume (scope_of c.body names) Assume w refl) (told-late c.enforce (scope_of c.body names) Enforce w refl)))

  callee-late : (o : Option Node) (w : Prefix) → Each (BehindTold w) (free_among (callee_slots types o w))
  callee-late None w = tt
  callee-late (Some n) w = by n.contract
    where
      by : (o : Option Contract) → Each (BehindTold w) (free_among (callee_slots types (Some (record n { contract = o })) w))
      by None = tt
      by (Some c) =
          let names = typed_in n.inputs (typed_in n.outputs untyped) in
          let L = lasts_slots types n.outputs w in
          let S = slots_of_contract types outs callee (Some c) names w in
          subst (Each (BehindTold w)) (sym (among-append L S)) (each-both (BehindTold w) (free_among L) (free_among S) (each-as (λ (q : FreePlace). (r : Place) × (q.0 ≡ below Observer w r)) (BehindTold w) (λ q k. (Observer, refl, k.0, k.1)) (free_among L) (stand-free (below Observer w) L (stand-lasts types n.outputs w (below Observer w)))) (contract-late c names w))

-- a prefix that puts a step and more in front
abbrev pub IsInside : Prefix → Type 0
IsInside w = (s : Step) × (q : Place) × ((p : Place) → w p ≡ s ∷ (q ++ p))

pub inside-below : (s : Step) (w : Prefix) → IsInside w → IsInside (below s w)
inside-below s w h = (h.0, h.1 ++ s ∷ [], λ p. h.2 (s ∷ p) ∙ ap (λ z. h.0 ∷ z) (sym (append_assoc h.1 (s ∷ []) p)))

-- So the free places that a callee's contract brings are none of the node's own.
pub callee-not-own : (n : Node) (types : List TypeDecl) (o : Option Node) (w : Prefix) → IsInside w → Each (λ (q : FreePlace). own_free n q.0 ≡ None) (free_among (callee_slots types o w))
callee-not-own n types o w h =
    each-as (BehindTold w) (λ (q : FreePlace). own_free n q.0 ≡ None) (λ q k. ap (own_free n) (k.3 ∙ h.2 (k.0 ∷ k.2)) ∙ not-own n h.0 h.1 k.2 k.0 k.1) (free_among (callee_slots types o w)) (callee-late types o w)
