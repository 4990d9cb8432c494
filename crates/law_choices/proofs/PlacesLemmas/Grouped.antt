-- What a walk over a block finds brings the groups of free places, one by one, and in a row these are the free ones among the slots.
use Rattle.std.proofs.Common.{◌≡◌, ℕ, List, [], ◌∷◌, ◌++◌, map, inl, inr, refl, sym, ap, ap₂, ◌∙◌, None, Some}
use Rattle.std.specs.Prelude.{⊤, Bool, true, false, ◌&&◌, if◌then◌else◌, Option}
use Rattle.std.proofs.lemmas.List.{append_assoc}
use Rattle.hp_base.specs.declared.ty.Const.{Const}
use Rattle.hp_base.specs.declared.ty.Ty.{Ty}
use Rattle.hp_base.specs.declared.ty.Ty.TheVariants as ty
use Rattle.hp_tree.specs.declared.block.Trans.{Trans}
use Rattle.hp_tree.specs.declared.expr.Op2.{Op2}
use Rattle.hp_tree.specs.Expressions.{Expr, constant, variable, last_of, one, two, choose, pre, fby, arrow, when_is, merge, call, Exprs, no_expr, more_exprs, Parts, no_part, more_parts}
use Rattle.hp_tree.specs.Blocks.{Decl, Block, block, Eqns, no_eqn, more_eqns, Eqn, define, switch, reset, automaton, Arms, no_arm, more_arms, States, no_state, more_states}
use Rattle.hp_tree.specs.Programs.{TypeDecl, Contract}
use Rattle.hp_tree.specs.Operators.{is_comparison}
use Rattle.hp_tree.specs.ExpressionTypes.{Scope, typed_in, scope_of, type_of}
use Rattle.hp_tree.specs.Instant.{Body, Observer, Assume, Enforce, Named, Equations, Head, Tail, Right, Test, Arms as ArmsOf, States as StatesOf, Until, Unless, First, Second, Third, Args, Instance, Step}
use Rattle.hp_meaning.specs.Contract.Slots.{Slot, register, free, input, control, FreePlace, free_among, is_int, slots, slots_of_all, slots_of_parts, slots_of_conditions, slots_of_block, slots_of_equations, slots_of_equation, slots_of_arms, slots_of_states, slots_of_contract}
use Rattle.law_automata.specs.Lowered.Standing.{Along}
use Rattle.law_equations.specs.Flattened.Flatten.{Prefix, below}
use Rattle.law_games.proofs.MirrorLemmas.Realised.{slots_told}
use Rattle.hp_watch.specs.Walk.{compares}
use Rattle.law_choices.specs.Depending.Contracts.{at_assumed, at_enforced, found_in_contract, found_told}
use Rattle.law_choices.specs.Places.Spots.{Spot, compared}
use Rattle.law_choices.specs.Places.Found.{Both, behind, behind_state, at_body, at_states, at_condition, both_compared, found, found_in_all, found_in_parts, found_in_conditions, found_in_block, found_in_eqns, found_in_eqn, found_in_arms, found_in_states, found_in_body}
use Rattle.law_choices.specs.Places.Groups.{AreAlike, GroupsLaw, IsGroupOf, IsInFront, compared_groups, free_outputs, groups, groups_of_all, groups_of_arms, groups_of_block, groups_of_conditions, groups_of_contract, groups_of_equation, groups_of_equations, groups_of_parts, groups_of_states, groups_of_told, in_a_row, unless_integer}
use Rattle.law_choices.proofs.PlacesLemmas.Relating.{along-both}
use Rattle.law_choices.proofs.PlacesLemmas.Slots.{lasts_slots, outputs_slots, same-comparison}

-- ---- lists

pub among-append : (xs ys : List Slot) → free_among (xs ++ ys) ≡ free_among xs ++ free_among ys
among-append [] ys = refl
among-append (register p k ∷ xs) ys = among-append xs ys
among-append (free p t ∷ xs) ys = ap (λ zs. (p, t) ∷ zs) (among-append xs ys)
among-append (input p t ∷ xs) ys = ap (λ zs. (p, t) ∷ zs) (among-append xs ys)
among-append (control p t ∷ xs) ys = among-append xs ys

pub row-append : (xs ys : List (List FreePlace)) → in_a_row (xs ++ ys) ≡ in_a_row xs ++ in_a_row ys
row-append [] ys = refl
row-append (x ∷ xs) ys = ap (λ zs. x ++ zs) (row-append xs ys) ∙ sym (append_assoc x (in_a_row xs) (in_a_row ys))

pub lasts-none : (types : List TypeDecl) (ds : List Decl) (w : Prefix) → free_among (lasts_slots types ds w) ≡ []
lasts-none types [] w = refl
lasts-none types (d ∷ ds) w = by d.last (lasts-none types ds w)
  where
    by : (o : Option Const) → free_among (lasts_slots types ds w) ≡ [] → free_among (lasts_slots types (record d { last = o } ∷ ds) w) ≡ []
    by None h = h
    by (Some c) h = h

pub outputs-free : (ds : List Decl) (w : Prefix) → free_outputs ds w ≡ free_among (outputs_slots ds w)
outputs-free [] w = refl
outputs-free (d ∷ ds) w = by d.ty (outputs-free ds w)
  where
    by : (t : Ty) → free_outputs ds w ≡ free_among (outputs_slots ds w) → unless_integer (w (Named d.name ∷ [])) t ++ free_outputs ds w ≡ free_among (outputs_slots (record d { ty = t } ∷ ds) w)
    by ty.Bool h = ap (λ zs. (w (Named d.name ∷ []), ty.Bool) ∷ zs) h
    by ty.Int h = h
    by (ty.Enum x) h = ap (λ zs. (w (Named d.name ∷ []), ty.Enum x) ∷ zs) h

module _ (types : List TypeDecl) (outs : List ℕ → List Decl) (callee : List ℕ → Prefix → List Slot) (P : Prefix → Type 0) (closed : (s : Step) (w : Prefix) → P w → P (below s w)) where
  abbrev names_of : List ℕ → List (List ℕ)
  names_of f = map (λ (d : Decl). d.name) (outs f)

  abbrev OfPair : Spot × Spot → List FreePlace → Type 0
  OfPair c g = IsGroupOf types outs callee P c.0 g × AreAlike c.0 c.1

  abbrev Grouped : List Slot → Both → List (List FreePlace) → Type 0
  Grouped ss fs gs = Along OfPair fs gs × (in_a_row gs ≡ free_among ss)

  grouped-both : (ss ts : List Slot) (fs hs : Both) (gs ks : List (List FreePlace)) → Grouped ss fs gs → Grouped ts hs ks → Grouped (ss ++ ts) (fs ++ hs) (gs ++ ks)
  grouped-both ss ts fs hs gs ks h k = (along-both OfPair fs hs gs ks h.0 k.0, row-append gs ks ∙ ap₂ (λ xs ys. xs ++ ys) h.1 k.1 ∙ sym (among-append ss ts))

  grouped-compared : (o : Op2) (i : Bool) (w here : Prefix) → Grouped (if is_comparison o && i then free (w []) ty.Bool ∷ [] else []) (both_compared names_of o w here) (if compares o then (if i then (w [], ty.Bool) ∷ [] else []) ∷ [] else [])
  grouped-compared o i w here = by (is_comparison o) (compares o) i (same-comparison o)
    where
      by : (b c i : Bool) → b ≡ c → Grouped (if b && i then free (w []) ty.Bool ∷ [] else []) (if c then (compared o (w []), compared o (here [])) ∷ [] else []) (if c then (if i then (w [], ty.Bool) ∷ [] else []) ∷ [] else [])
      by true true true e = (((inr refl, refl), tt), refl)
      by true true false e = (((inl refl, refl), tt), refl)
      by true false i e = absurd cc
      by false true i e = absurd cc
      by false false i e = (tt, refl)

  -- the registers of a block are no free places
  behind-lasts : (ds : List Decl) (v : Prefix) (ss : List Slot) (fs : Both) (gs : List (List FreePlace)) → Grouped ss fs gs → Grouped (lasts_slots types ds v ++ ss) fs gs
  behind-lasts ds v ss fs gs h = (h.0, h.1 ∙ sym (among-append (lasts_slots types ds v) ss ∙ ap (λ xs. xs ++ free_among ss) (lasts-none types ds v)))

  mutual
    pub expr-grouped : (e : Expr) (names : Scope) (w here : Prefix) → P w → Grouped (slots types outs callee e names w) (found names_of e w here) (groups types outs callee e names w)
    expr-grouped (constant s c) names w here h = (tt, refl)
    expr-grouped (variable s x) names w here h = (tt, refl)
    expr-grouped (last_of s x) names w here h = (tt, refl)
    expr-grouped (one s o a) names w here h = expr-grouped a names (below First w) (below First here) (closed First w h)
    expr-grouped (two s o a b) names w here h =
        grouped-both (if is_comparison o && is_int (type_of types outs a names) then free (w []) ty.Bool ∷ [] else []) (slots types outs callee a names (below First w) ++ slots types outs callee b names (below Second w)) (both_compared names_of o w here) (found names_of a (below First w) (below First here) ++ found names_of b (below Second w) (below Second here)) (compared_groups types outs callee o a names w) (groups types outs callee a names (below First w) ++ groups types outs callee b names (below Second w))
        (grouped-compared o (is_int (type_of types outs a names)) w here)
        (grouped-both (slots types outs callee a names (below First w)) (slots types outs callee b names (below Second w)) (found names_of a (below First w) (below First here)) (found names_of b (below Second w) (below Second here)) (groups types outs callee a names (below First w)) (groups types outs callee b names (below Second w)) (expr-grouped a names (below First w) (below First here) (closed First w h)) (expr-grouped b names (below Second w) (below Second here) (closed Second w h)))
    expr-grouped (choose s a b c) names w here h =
        grouped-both (slots types outs callee a names (below First w)) (slots types outs callee b names (below Second w) ++ slots types outs callee c names (below Third w)) (found names_of a (below First w) (below First here)) (found names_of b (below Second w) (below Second here) ++ found names_of c (below Third w) (below Third here)) (groups types outs callee a names (below First w)) (groups types outs callee b names (below Second w) ++ groups types outs callee c names (below Third w))
        (expr-grouped a names (below First w) (below First here) (closed First w h))
        (grouped-both (slots types outs callee b names (below Second w)) (slots types outs callee c names (below Third w)) (found names_of b (below Second w) (below Second here)) (found names_of c (below Third w) (below Third here)) (groups types outs callee b names (below Second w)) (groups types outs callee c names (below Third w)) (expr-grouped b names (below Second w) (below Second here) (closed Second w h)) (expr-grouped c names (below Third w) (below Third here) (closed Third w h)))
    expr-grouped (pre s a) names w here h = expr-grouped a names (below First w) (below First here) (closed First w h)
    expr-grouped (fby s a b) names w here h =
        grouped-both (slots types outs callee a names (below First w)) (slots types outs callee b names (below Second w)) (found names_of a (below First w) (below First here)) (found names_of b (below Second w) (below Second here)) (groups types outs callee a names (below First w)) (groups types outs callee b names (below Second w))
        (expr-grouped a names (below First w) (below First here) (closed First w h)) (expr-grouped b names (below Second w) (below Second here) (closed Second w h))
    expr-grouped (arrow s a b) names w here h =
        grouped-both (slots types outs callee a names (below First w)) (slots types outs callee b names (below Second w)) (found names_of a (below First w) (below First here)) (found names_of b (below Second w) (below Second here)) (groups types outs callee a names (below First w)) (groups types outs callee b names (below Second w))
        (expr-grouped a names (below First w) (below First here) (closed First w h)) (expr-grouped b names (below Second w) (below Second here) (closed Second w h))
    expr-grouped (when_is s a c x) names w here h = expr-grouped a names (below First w) (below First here) (closed First w h)
    expr-grouped (merge s x ps) names w here h = parts-grouped ps names (below Args w) (below Args here) (closed Args w h)
    expr-grouped (call s f inlined es) names w here h =
        let v = below Instance w in
        let O = outputs_slots (outs f) v in
        let S = slots_of_all types outs callee es names (below Args w) in
        let args = all-grouped es names (below Args w) (below Args here) (closed Args w h) in (
          (((v, closed Instance w h, refl, refl), refl), args.0),
          append_assoc (free_outputs (outs f) v) (free_among (callee f v)) (in_a_row (groups_of_all types outs callee es names (below Args w)))
              ∙ ap₂ (λ xs ys. xs ++ (free_among (callee f v) ++ ys)) (outputs-free (outs f) v) args.1
              ∙ ap (λ xs. free_among O ++ xs) (sym (among-append (callee f v) S))
              ∙ sym (among-append O (callee f v ++ S)),
        )

    all-grouped : (es : Exprs) (names : Scope) (w here : Prefix) → P w → Grouped (slots_of_all types outs callee es names w) (found_in_all names_of es w here) (groups_of_all types outs callee es names w)
    all-grouped no_expr names w here h = (tt, refl)
    all-grouped (more_exprs e es) names w here h =
        grouped-both (slots types outs callee e names (below Head w)) (slots_of_all types outs callee es names (below Tail w)) (found names_of e (below Head w) (below Head here)) (found_in_all names_of es (below Tail w) (below Tail here)) (groups types outs callee e names (below Head w)) (groups_of_all types outs callee es names (below Tail w))
        (expr-grouped e names (below Head w) (below Head here) (closed Head w h)) (all-grouped es names (below Tail w) (below Tail here) (closed Tail w h))

    parts-grouped : (ps : Parts) (names : Scope) (w here : Prefix) → P w → Grouped (slots_of_parts types outs callee ps names w) (found_in_parts names_of ps w here) (groups_of_parts types outs callee ps names w)
    parts-grouped no_part names w here h = (tt, refl)
    parts-grouped (more_parts c e ps) names w here h =
        grouped-both (slots types outs callee e names (below Head w)) (slots_of_parts types outs callee ps names (below Tail w)) (found names_of e (below Head w) (below Head here)) (found_in_parts names_of ps (below Tail w) (below Tail here)) (groups types outs callee e names (below Head w)) (groups_of_parts types outs callee ps names (below Tail w))
        (expr-grouped e names (below Head w) (below Head here) (closed Head w h)) (parts-grouped ps names (below Tail w) (below Tail here) (closed Tail w h))

  conditions-grouped : (ts : List Trans) (names : Scope) (w here : Prefix) → P w → Grouped (slots_of_conditions types outs callee ts names w) (found_in_conditions names_of ts w here) (groups_of_conditions types outs callee ts names w)
  conditions-grouped [] names w here h = (tt, refl)
  conditions-grouped (t ∷ ts) names w here h =
      grouped-both (slots types outs callee t.cond names (below Head w)) (slots_of_conditions types outs callee ts names (below Tail w)) (found names_of t.cond (below Head w) (at_condition here)) (found_in_conditions names_of ts (below Tail w) (below Tail here)) (groups types outs callee t.cond names (below Head w)) (groups_of_conditions types outs callee ts names (below Tail w))
      (expr-grouped t.cond names (below Head w) (at_condition here) (closed Head w h)) (conditions-grouped ts names (below Tail w) (below Tail here) (closed Tail w h))

  mutual
    pub block-grouped : (b : Block) (names : Scope) (w here : Prefix) → P w → Grouped (slots_of_block types outs callee b names w) (found_in_block names_of b w here) (groups_of_block types outs callee b names w)
    block-grouped (block ds es) names w here h =
        behind-lasts ds w (slots_of_equations types outs callee es (typed_in ds names) (below Equations w)) (found_in_eqns names_of es (below Equations w) (below Equations here)) (groups_of_equations types outs callee es (typed_in ds names) (below Equations w))
        (eqns-grouped es (typed_in ds names) (below Equations w) (below Equations here) (closed Equations w h))

    -- the body of a state
    body-grouped : (b : Block) (until : List Trans) (names : Scope) (w here : Prefix) → P w → Grouped (slots_of_block types outs callee b names w) (found_in_body names_of until b w here) (groups_of_block types outs callee b names w)
    body-grouped (block ds es) until names w here h =
        behind-lasts ds w (slots_of_equations types outs callee es (typed_in ds names) (below Equations w)) (found_in_eqns names_of es (below Equations w) (below Tail (behind until (below Equations here)))) (groups_of_equations types outs callee es (typed_in ds names) (below Equations w))
        (eqns-grouped es (typed_in ds names) (below Equations w) (below Tail (behind until (below Equations here))) (closed Equations w h))

    eqns-grouped : (es : Eqns) (names : Scope) (w here : Prefix) → P w → Grouped (slots_of_equations types outs callee es names w) (found_in_eqns names_of es w here) (groups_of_equations types outs callee es names w)
    eqns-grouped no_eqn names w here h = (tt, refl)
    eqns-grouped (more_eqns e es) names w here h =
        grouped-both (slots_of_equation types outs callee e names (below Head w)) (slots_of_equations types outs callee es names (below Tail w)) (found_in_eqn names_of e (below Head w) (below Head here)) (found_in_eqns names_of es (below Tail w) (below Tail here)) (groups_of_equation types outs callee e names (below Head w)) (groups_of_equations types outs callee es names (below Tail w))
        (eqn-grouped e names (below Head w) (below Head here) (closed Head w h)) (eqns-grouped es names (below Tail w) (below Tail here) (closed Tail w h))

    eqn-grouped : (e : Eqn) (names : Scope) (w here : Prefix) → P w → Grouped (slots_of_equation types outs callee e names w) (found_in_eqn names_of e w here) (groups_of_equation types outs callee e names w)
    eqn-grouped (define s ys e) names w here h = expr-grouped e names (below Right w) (below Right here) (closed Right w h)
    eqn-grouped (switch s e arms) names w here h =
        grouped-both (slots types outs callee e names (below Test w)) (slots_of_arms types outs callee arms names (below ArmsOf w)) (found names_of e (below Test w) (below Test here)) (found_in_arms names_of arms (below ArmsOf w) (below ArmsOf here)) (groups types outs callee e names (below Test w)) (groups_of_arms types outs callee arms names (below ArmsOf w))
        (expr-grouped e names (below Test w) (below Test here) (closed Test w h)) (arms-grouped arms names (below ArmsOf w) (below ArmsOf here) (closed ArmsOf w h))
    eqn-grouped (reset s b e) names w here h =
        grouped-both (slots_of_block types outs callee b names (below Body w)) (slots types outs callee e names (below Test w)) (found_in_block names_of b (below Body w) (below Body here)) (found names_of e (below Test w) (below Test here)) (groups_of_block types outs callee b names (below Body w)) (groups types outs callee e names (below Test w))
        (block-grouped b names (below Body w) (below Body here) (closed Body w h)) (expr-grouped e names (below Test w) (below Test here) (closed Test w h))
    eqn-grouped (automaton s ss) names w here h = states-grouped ss names (below StatesOf w) (at_states ss here) (closed StatesOf w h)

    arms-grouped : (arms : Arms) (names : Scope) (w here : Prefix) → P w → Grouped (slots_of_arms types outs callee arms names w) (found_in_arms names_of arms w here) (groups_of_arms types outs callee arms names w)
    arms-grouped no_arm names w here h = (tt, refl)
    arms-grouped (more_arms c b s arms) names w here h =
        grouped-both (slots_of_block types outs callee b names (below Head w)) (slots_of_arms types outs callee arms names (below Tail w)) (found_in_block names_of b (below Head w) (below Head here)) (found_in_arms names_of arms (below Tail w) (below Tail here)) (groups_of_block types outs callee b names (below Head w)) (groups_of_arms types outs callee arms names (below Tail w))
        (block-grouped b names (below Head w) (below Head here) (closed Head w h)) (arms-grouped arms names (below Tail w) (below Tail here) (closed Tail w h))

    states-grouped : (ss : States) (names : Scope) (w here : Prefix) → P w → Grouped (slots_of_states types outs callee ss names w) (found_in_states names_of ss w here) (groups_of_states types outs callee ss names w)
    states-grouped no_state names w here h = (tt, refl)
    states-grouped (more_states f b until unless s ss) names w here h =
        let A = slots_of_block types outs callee b names (below Body (below Head w)) in
        let C = slots_of_conditions types outs callee until (scope_of b names) (below Until (below Head w)) in
        let D = slots_of_conditions types outs callee unless names (below Unless (below Head w)) in
        let M = slots_of_states types outs callee ss names (below Tail w) in
        let P = found_in_body names_of until b (below Body (below Head w)) (at_body unless here) in
        let Q = found_in_conditions names_of until (below Until (below Head w)) (below Equations (at_body unless here)) in
        let U = found_in_conditions names_of unless (below Unless (below Head w)) here in
        let V = found_in_states names_of ss (below Tail w) (behind_state unless here) in
        let GA = groups_of_block types outs callee b names (below Body (below Head w)) in
        let GC = groups_of_conditions types outs callee until (scope_of b names) (below Until (below Head w)) in
        let GD = groups_of_conditions types outs callee unless names (below Unless (below Head w)) in
        let GM = groups_of_states types outs callee ss names (below Tail w) in
        grouped-both A (C ++ (D ++ M)) P (Q ++ (U ++ V)) GA (GC ++ (GD ++ GM)) (body-grouped b until names (below Body (below Head w)) (at_body unless here) (closed Body (below Head w) (closed Head w h)))
        (grouped-both C (D ++ M) Q (U ++ V) GC (GD ++ GM) (conditions-grouped until (scope_of b names) (below Until (below Head w)) (below Equations (at_body unless here)) (closed Until (below Head w) (closed Head w h)))
        (grouped-both D M U V GD GM (conditions-grouped unless names (below Unless (below Head w)) here (closed Unless (below Head w) (closed Head w h))) (states-grouped ss names (below Tail w) (behind_state unless here) (closed Tail w h))))

  -- a contract, whose parts stand under the first steps from a node
  told-grouped : (o : Option Expr) (names : Scope) (w here : Prefix) → P w → Grouped (slots_told types outs callee o names w) (found_told names_of o w here) (groups_of_told types outs callee o names w)
  told-grouped None names w here h = (tt, refl)
  told-grouped (Some e) names w here h = expr-grouped e names w here h

  pub contract-grouped : (c : Contract) (names : Scope) → P (λ p. Observer ∷ p) → P (λ p. Assume ∷ p) → P (λ p. Enforce ∷ p) → Grouped (slots_of_contract types outs callee (Some c) names (λ p. p)) (found_in_contract names_of c) (groups_of_contract types outs callee c names (λ p. p))
  contract-grouped c names o a e =
      let inside = scope_of c.body names in
      let B = slots_of_block types outs callee c.body names (λ p. Observer ∷ p) in
      let A = slots_told types outs callee c.assume inside (λ p. Assume ∷ p) in
      let E = slots_told types outs callee c.enforce inside (λ p. Enforce ∷ p) in
      let fa = found_told names_of c.assume (λ p. Assume ∷ p) (at_assumed c.body) in
      let fe = found_told names_of c.enforce (λ p. Enforce ∷ p) (at_enforced c.body) in
      let ga = groups_of_told types outs callee c.assume inside (λ p. Assume ∷ p) in
      let ge = groups_of_told types outs callee c.enforce inside (λ p. Enforce ∷ p) in
      grouped-both B (A ++ E) (found_in_block names_of c.body (λ p. Observer ∷ p) (λ p. Body ∷ p)) (fa ++ fe) (groups_of_block types outs callee c.body names (λ p. Observer ∷ p)) (ga ++ ge) (block-grouped c.body names (λ p. Observer ∷ p) (λ p. Body ∷ p) o)
      (grouped-both A E fa fe ga ge (told-grouped c.assume inside (λ p. Assume ∷ p) (at_assumed c.body) a) (told-grouped c.enforce inside (λ p. Enforce ∷ p) (at_enforced c.body) e))

-- in a row they are the free places of a part
pub expr-row : (types : List TypeDecl) (outs : List ℕ → List Decl) (callee : List ℕ → Prefix → List Slot) (e : Expr) (names : Scope) (w : Prefix) → in_a_row (groups types outs callee e names w) ≡ free_among (slots types outs callee e names w)
expr-row types outs callee e names w = (expr-grouped types outs callee (λ w. ⊤) (λ s w h. tt) e names w w tt).1

pub eqns-row : (types : List TypeDecl) (outs : List ℕ → List Decl) (callee : List ℕ → Prefix → List Slot) (es : Eqns) (names : Scope) (w : Prefix) → in_a_row (groups_of_equations types outs callee es names w) ≡ free_among (slots_of_equations types outs callee es names w)
eqns-row types outs callee es names w = (eqns-grouped types outs callee (λ w. ⊤) (λ s w h. tt) es names w w tt).1

pub block-row : (types : List TypeDecl) (outs : List ℕ → List Decl) (callee : List ℕ → Prefix → List Slot) (b : Block) (names : Scope) (w : Prefix) → in_a_row (groups_of_block types outs callee b names w) ≡ free_among (slots_of_block types outs callee b names w)
block-row types outs callee b names w = (block-grouped types outs callee (λ w. ⊤) (λ s w h. tt) b names w w tt).1

told-row : (types : List TypeDecl) (outs : List ℕ → List Decl) (callee : List ℕ → Prefix → List Slot) (o : Option Expr) (names : Scope) (w : Prefix) → in_a_row (groups_of_told types outs callee o names w) ≡ free_among (slots_told types outs callee o names w)
told-row types outs callee None names w = refl
told-row types outs callee (Some e) names w = expr-row types outs callee e names w

pub contract-row : (types : List TypeDecl) (outs : List ℕ → List Decl) (callee : List ℕ → Prefix → List Slot) (c : Contract) (names : Scope) (w : Prefix) → in_a_row (groups_of_contract types outs callee c names w) ≡ free_among (slots_of_contract types outs callee (Some c) names w)
contract-row types outs callee c names w =
    let inside = scope_of c.body names in
    let B = slots_of_block types outs callee c.body names (below Observer w) in
    let A = slots_told types outs callee c.assume inside (below Assume w) in
    let E = slots_told types outs callee c.enforce inside (below Enforce w) in
    let gb = groups_of_block types outs callee c.body names (below Observer w) in
    let ga = groups_of_told types outs callee c.assume inside (below Assume w) in
    let ge = groups_of_told types outs callee c.enforce inside (below Enforce w) in
    row-append gb (ga ++ ge)
    ∙ ap₂ (λ xs ys. xs ++ ys) (block-row types outs callee c.body names (below Observer w)) (row-append ga ge ∙ ap₂ (λ xs ys. xs ++ ys) (told-row types outs callee c.assume inside (below Assume w)) (told-row types outs callee c.enforce inside (below Enforce w)) ∙ sym (among-append A E))
    ∙ sym (among-append B (A ++ E))

pub front-below : (s : Step) (w : Prefix) → IsInFront w → IsInFront (below s w)
front-below s w h = (h.0 ++ s ∷ [], λ p. h.1 (s ∷ p) ∙ sym (append_assoc h.0 (s ∷ []) p))

pub groups_law : GroupsLaw
groups_law types outs callee b names w here h = block-grouped types outs callee IsInFront front-below b names w here h
