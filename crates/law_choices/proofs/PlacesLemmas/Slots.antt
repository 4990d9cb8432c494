-- The free places of a block are some of those that a walk finds, in the same order.
use Rattle.std.proofs.Common.{◌≡◌, ℕ, List, [], ◌∷◌, ◌++◌, map, inl, inr, refl, sym, ap, ap₂, subst, ◌∙◌, None, Some}
use Rattle.std.specs.Prelude.{Bool, true, false, ◌&&◌, if◌then◌else◌, Option}
use Rattle.std.proofs.lemmas.List.{append_assoc}
use Rattle.hp_base.specs.declared.ty.Const.{Const}
use Rattle.hp_base.specs.declared.ty.Ty.{Ty}
use Rattle.hp_base.specs.declared.ty.Ty.TheVariants as ty
use Rattle.hp_tree.specs.declared.block.Trans.{Trans}
use Rattle.hp_tree.specs.declared.expr.Op2.{Op2}
use Rattle.hp_tree.specs.declared.expr.Op2.TheVariants as op
use Rattle.hp_tree.specs.Expressions.{Expr, constant, variable, last_of, one, two, choose, pre, fby, arrow, when_is, merge, call, Exprs, no_expr, more_exprs, Parts, no_part, more_parts}
use Rattle.hp_tree.specs.Blocks.{Decl, Block, block, Eqns, no_eqn, more_eqns, Eqn, define, switch, reset, automaton, Arms, no_arm, more_arms, States, no_state, more_states}
use Rattle.hp_tree.specs.Programs.{TypeDecl}
use Rattle.hp_tree.specs.Operators.{is_comparison}
use Rattle.hp_tree.specs.ExpressionTypes.{Scope, typed_in, scope_of, type_of}
use Rattle.hp_tree.specs.Instant.{Body, Named, Equations, Head, Tail, Right, Test, Arms as ArmsOf, States as StatesOf, Until, Unless, First, Second, Third, Args, Instance, Place}
use Rattle.hp_meaning.specs.Contract.Slots.{Slot, register, free, input, control, FreePlace, free_among, shape_of, is_int, slots, slots_of_all, slots_of_parts, slots_of_conditions, slots_of_block, slots_of_equations, slots_of_equation, slots_of_arms, slots_of_states}
use Rattle.law_equations.specs.Flattened.Flatten.{Prefix, below}
use Rattle.hp_watch.specs.Walk.{compares}
use Rattle.law_choices.specs.Places.Spots.{compared}
use Rattle.law_choices.specs.Places.Found.{Both, behind, behind_state, at_body, at_states, at_condition, both_compared, found, found_in_all, found_in_parts, found_in_conditions, found_in_block, found_in_eqns, found_in_eqn, found_in_arms, found_in_states, found_in_body}
use Rattle.law_choices.specs.Places.Laws.{places_of, own_places, IsPartOf, SlotsLaw}

-- ---- parts of lists

part-none : (ys : List Place) → IsPartOf [] ys
part-none [] = refl
part-none (y ∷ ys) = inl (part-none ys)

part-both : (xs vs ys ws : List Place) → IsPartOf xs ys → IsPartOf vs ws → IsPartOf (xs ++ vs) (ys ++ ws)
part-both xs vs [] ws h k = subst (λ zs. IsPartOf (zs ++ vs) ws) (sym h) k
part-both xs vs (y ∷ ys) ws (inl h) k = inl (part-both xs vs ys ws h k)
part-both xs vs (y ∷ ys) ws (inr (rest, e, h)) k = inr (rest ++ vs, ap (λ zs. zs ++ vs) e, part-both rest vs ys ws h k)

part-first : (x : Place) → IsPartOf (x ∷ []) (x ∷ [])
part-first x = inr ([], refl, refl)

-- the free ones among slots
abbrev free_in : List Slot → List Place
free_in ss = map (λ (q : FreePlace). q.0) (free_among ss)

free-append : (xs ys : List Slot) → free_in (xs ++ ys) ≡ free_in xs ++ free_in ys
free-append [] ys = refl
free-append (register p k ∷ xs) ys = free-append xs ys
free-append (free p t ∷ xs) ys = ap (λ zs. p ∷ zs) (free-append xs ys)
free-append (input p t ∷ xs) ys = ap (λ zs. p ∷ zs) (free-append xs ys)
free-append (control p t ∷ xs) ys = free-append xs ys

places-append : (xs ys : Both) → own_places (xs ++ ys) ≡ own_places xs ++ own_places ys
places-append [] ys = refl
places-append (x ∷ xs) ys = ap (λ zs. places_of x.0 ++ zs) (places-append xs ys) ∙ sym (append_assoc (places_of x.0) (own_places xs) (own_places ys))

-- what is free among slots is part of what is found
abbrev Among : List Slot → Both → Type 0
Among ss fs = IsPartOf (free_in ss) (own_places fs)

among-both : (ss ts : List Slot) (fs gs : Both) → Among ss fs → Among ts gs → Among (ss ++ ts) (fs ++ gs)
among-both ss ts fs gs h k =
    subst (λ xs. IsPartOf xs (own_places (fs ++ gs))) (sym (free-append ss ts))
    (subst (IsPartOf (free_in ss ++ free_in ts)) (sym (places-append fs gs)) (part-both (free_in ss) (free_in ts) (own_places fs) (own_places gs) h k))

-- a comparison, if it is one of integers
pub same-comparison : (o : Op2) → is_comparison o ≡ compares o
same-comparison op.And = refl
same-comparison op.Or = refl
same-comparison op.Xor = refl
same-comparison op.Imp = refl
same-comparison op.Eq = refl
same-comparison op.Ne = refl
same-comparison op.Lt = refl
same-comparison op.Le = refl
same-comparison op.Gt = refl
same-comparison op.Ge = refl
same-comparison op.Add = refl
same-comparison op.Sub = refl
same-comparison op.Mul = refl
same-comparison op.Div = refl
same-comparison op.Rem = refl

among-compared : (o : Op2) (i : Bool) (w here : Prefix) → Among (if is_comparison o && i then free (w []) ty.Bool ∷ [] else []) (both_compared (λ f. []) o w here)
among-compared o i w here = by (is_comparison o) (compares o) i (same-comparison o)
  where
    by : (b c i : Bool) → b ≡ c → Among (if b && i then free (w []) ty.Bool ∷ [] else []) (if c then (compared o (w []), compared o (here [])) ∷ [] else [])
    by true true true e = part-first (w [])
    by true true false e = inl refl
    by true false i e = absurd cc
    by false true i e = absurd cc
    by false false i e = refl

-- the outputs of a call, but integers
abbrev free_of : (Place → Ty → Slot) → Place → Ty → List Slot
free_of kind p ty.Int = []
free_of kind p t = kind p t ∷ []

abbrev pub outputs_slots : List Decl → (Place → Place) → List Slot
outputs_slots [] w = []
outputs_slots (d ∷ ds) w = free_of free (w (Named d.name ∷ [])) d.ty ++ outputs_slots ds w

output-part : (p : Place) (t : Ty) → IsPartOf (free_in (free_of free p t)) (p ∷ [])
output-part p ty.Bool = part-first p
output-part p ty.Int = inl refl
output-part p (ty.Enum x) = part-first p

outputs-part : (ds : List Decl) (w : Prefix) → IsPartOf (free_in (outputs_slots ds (below Instance w))) (map (λ (o : List ℕ). w (Instance ∷ Named o ∷ [])) (map (λ (d : Decl). d.name) ds))
outputs-part [] w = refl
outputs-part (d ∷ ds) w =
    subst (λ xs. IsPartOf xs (w (Instance ∷ Named d.name ∷ []) ∷ map (λ (o : List ℕ). w (Instance ∷ Named o ∷ [])) (map (λ (d : Decl). d.name) ds)))
    (sym (free-append (free_of free (w (Instance ∷ Named d.name ∷ [])) d.ty) (outputs_slots ds (below Instance w))))
    (part-both (free_in (free_of free (w (Instance ∷ Named d.name ∷ [])) d.ty)) (free_in (outputs_slots ds (below Instance w))) (w (Instance ∷ Named d.name ∷ []) ∷ [])
    (map (λ (o : List ℕ). w (Instance ∷ Named o ∷ [])) (map (λ (d : Decl). d.name) ds)) (output-part (w (Instance ∷ Named d.name ∷ [])) d.ty) (outputs-part ds w))

abbrev pub lasts_slots : List TypeDecl → List Decl → (Place → Place) → List Slot
lasts_slots types [] w = []
lasts_slots types (d ∷ ds) w = (elim d.last [ None ↦ [] | Some c ↦ register (w (Named d.name ∷ [])) (shape_of types d.ty) ∷ [] ]) ++ lasts_slots types ds w

module _ (types : List TypeDecl) (outs : List ℕ → List Decl) (callee : List ℕ → Prefix → List Slot) (none : (f : List ℕ) (v : Prefix) → free_among (callee f v) ≡ []) where
  abbrev names_of : List ℕ → List (List ℕ)
  names_of f = map (λ (d : Decl). d.name) (outs f)

  lasts-none : (ds : List Decl) (w : Prefix) → free_in (lasts_slots types ds w) ≡ []
  lasts-none [] w = refl
  lasts-none (d ∷ ds) w =
      free-append (elim d.last [ None ↦ [] | Some c ↦ register (w (Named d.name ∷ [])) (shape_of types d.ty) ∷ [] ]) (lasts_slots types ds w)
      ∙ ap₂ (λ xs ys. xs ++ ys) (by d.last) (lasts-none ds w)
    where
      by : (o : Option Const) → free_in (elim o [ None ↦ [] | Some c ↦ register (w (Named d.name ∷ [])) (shape_of types d.ty) ∷ [] ]) ≡ []
      by None = refl
      by (Some c) = refl

  mutual
    expr-among : (e : Expr) (names : Scope) (w here : Prefix) → Among (slots types outs callee e names w) (found names_of e w here)
    expr-among (constant s c) names w here = refl
    expr-among (variable s x) names w here = refl
    expr-among (last_of s x) names w here = refl
    expr-among (one s o a) names w here = expr-among a names (below First w) (below First here)
    expr-among (two s o a b) names w here =
        among-both (if is_comparison o && is_int (type_of types outs a names) then free (w []) ty.Bool ∷ [] else []) (slots types outs callee a names (below First w) ++ slots types outs callee b names (below Second w))
        (both_compared names_of o w here) (found names_of a (below First w) (below First here) ++ found names_of b (below Second w) (below Second here))
        (among-compared o (is_int (type_of types outs a names)) w here)
        (among-both (slots types outs callee a names (below First w)) (slots types outs callee b names (below Second w)) (found names_of a (below First w) (below First here)) (found names_of b (below Second w) (below Second here))
        (expr-among a names (below First w) (below First here)) (expr-among b names (below Second w) (below Second here)))
    expr-among (choose s a b c) names w here =
        among-both (slots types outs callee a names (below First w)) (slots types outs callee b names (below Second w) ++ slots types outs callee c names (below Third w))
        (found names_of a (below First w) (below First here)) (found names_of b (below Second w) (below Second here) ++ found names_of c (below Third w) (below Third here))
        (expr-among a names (below First w) (below First here))
        (among-both (slots types outs callee b names (below Second w)) (slots types outs callee c names (below Third w)) (found names_of b (below Second w) (below Second here)) (found names_of c (below Third w) (below Third here))
        (expr-among b names (below Second w) (below Second here)) (expr-among c names (below Third w) (below Third here)))
    expr-among (pre s a) names w here = expr-among a names (below First w) (below First here)
    expr-among (fby s a b) names w here =
        among-both (slots types outs callee a names (below First w)) (slots types outs callee b names (below Second w)) (found names_of a (below First w) (below First here)) (found names_of b (below Second w) (below Second here))
        (expr-among a names (below First w) (below First here)) (expr-among b names (below Second w) (below Second here))
    expr-among (arrow s a b) names w here =
        among-both (slots types outs callee a names (below First w)) (slots types outs callee b names (below Second w)) (found names_of a (below First w) (below First here)) (found names_of b (below Second w) (below Second here))
        (expr-among a names (below First w) (below First here)) (expr-among b names (below Second w) (below Second here))
    expr-among (when_is s a c x) names w here = expr-among a names (below First w) (below First here)
    expr-among (merge s x ps) names w here = parts-among ps names (below Args w) (below Args here)
    expr-among (call s f inlined es) names w here =
        let O = outputs_slots (outs f) (below Instance w) in
        let S = slots_of_all types outs callee es names (below Args w) in
        let F = found_in_all names_of es (below Args w) (below Args here) in
        subst (λ xs. IsPartOf xs (map (λ (o : List ℕ). w (Instance ∷ Named o ∷ [])) (names_of f) ++ own_places F))
        (sym (free-append O (callee f (below Instance w) ++ S) ∙ ap (λ xs. free_in O ++ xs) (free-append (callee f (below Instance w)) S ∙ ap (λ xs. map (λ (q : FreePlace). q.0) xs ++ free_in S) (none f (below Instance w)))))
        (part-both (free_in O) (free_in S) (map (λ (o : List ℕ). w (Instance ∷ Named o ∷ [])) (names_of f)) (own_places F) (outputs-part (outs f) w) (all-among es names (below Args w) (below Args here)))

    all-among : (es : Exprs) (names : Scope) (w here : Prefix) → Among (slots_of_all types outs callee es names w) (found_in_all names_of es w here)
    all-among no_expr names w here = refl
    all-among (more_exprs e es) names w here =
        among-both (slots types outs callee e names (below Head w)) (slots_of_all types outs callee es names (below Tail w)) (found names_of e (below Head w) (below Head here)) (found_in_all names_of es (below Tail w) (below Tail here))
        (expr-among e names (below Head w) (below Head here)) (all-among es names (below Tail w) (below Tail here))

    parts-among : (ps : Parts) (names : Scope) (w here : Prefix) → Among (slots_of_parts types outs callee ps names w) (found_in_parts names_of ps w here)
    parts-among no_part names w here = refl
    parts-among (more_parts c e ps) names w here =
        among-both (slots types outs callee e names (below Head w)) (slots_of_parts types outs callee ps names (below Tail w)) (found names_of e (below Head w) (below Head here)) (found_in_parts names_of ps (below Tail w) (below Tail here))
        (expr-among e names (below Head w) (below Head here)) (parts-among ps names (below Tail w) (below Tail here))

  conditions-among : (ts : List Trans) (names : Scope) (w here : Prefix) → Among (slots_of_conditions types outs callee ts names w) (found_in_conditions names_of ts w here)
  conditions-among [] names w here = refl
  conditions-among (t ∷ ts) names w here =
      among-both (slots types outs callee t.cond names (below Head w)) (slots_of_conditions types outs callee ts names (below Tail w)) (found names_of t.cond (below Head w) (at_condition here)) (found_in_conditions names_of ts (below Tail w) (below Tail here))
      (expr-among t.cond names (below Head w) (at_condition here)) (conditions-among ts names (below Tail w) (below Tail here))

  -- the registers of a block are no free places
  behind-lasts : (ds : List Decl) (v : Prefix) (ss : List Slot) (fs : Both) → Among ss fs → Among (lasts_slots types ds v ++ ss) fs
  behind-lasts ds v ss fs h = subst (λ xs. IsPartOf xs (own_places fs)) (sym (free-append (lasts_slots types ds v) ss ∙ ap (λ xs. xs ++ free_in ss) (lasts-none ds v))) h

  mutual
    block-among : (b : Block) (names : Scope) (w here : Prefix) → Among (slots_of_block types outs callee b names w) (found_in_block names_of b w here)
    block-among (block ds es) names w here = behind-lasts ds w (slots_of_equations types outs callee es (typed_in ds names) (below Equations w)) (found_in_eqns names_of es (below Equations w) (below Equations here)) (eqns-among es (typed_in ds names) (below Equations w) (below Equations here))

    -- the body of a state
    body-among : (b : Block) (until : List Trans) (names : Scope) (w here : Prefix) → Among (slots_of_block types outs callee b names w) (found_in_body names_of until b w here)
    body-among (block ds es) until names w here = behind-lasts ds w (slots_of_equations types outs callee es (typed_in ds names) (below Equations w)) (found_in_eqns names_of es (below Equations w) (below Tail (behind until (below Equations here))))
        (eqns-among es (typed_in ds names) (below Equations w) (below Tail (behind until (below Equations here))))

    eqns-among : (es : Eqns) (names : Scope) (w here : Prefix) → Among (slots_of_equations types outs callee es names w) (found_in_eqns names_of es w here)
    eqns-among no_eqn names w here = refl
    eqns-among (more_eqns e es) names w here =
        among-both (slots_of_equation types outs callee e names (below Head w)) (slots_of_equations types outs callee es names (below Tail w)) (found_in_eqn names_of e (below Head w) (below Head here)) (found_in_eqns names_of es (below Tail w) (below Tail here))
        (eqn-among e names (below Head w) (below Head here)) (eqns-among es names (below Tail w) (below Tail here))

    eqn-among : (e : Eqn) (names : Scope) (w here : Prefix) → Among (slots_of_equation types outs callee e names w) (found_in_eqn names_of e w here)
    eqn-among (define s ys e) names w here = expr-among e names (below Right w) (below Right here)
    eqn-among (switch s e arms) names w here =
        among-both (slots types outs callee e names (below Test w)) (slots_of_arms types outs callee arms names (below ArmsOf w)) (found names_of e (below Test w) (below Test here)) (found_in_arms names_of arms (below ArmsOf w) (below ArmsOf here))
        (expr-among e names (below Test w) (below Test here)) (arms-among arms names (below ArmsOf w) (below ArmsOf here))
    eqn-among (reset s b e) names w here =
        among-both (slots_of_block types outs callee b names (below Body w)) (slots types outs callee e names (below Test w)) (found_in_block names_of b (below Body w) (below Body here)) (found names_of e (below Test w) (below Test here))
        (block-among b names (below Body w) (below Body here)) (expr-among e names (below Test w) (below Test here))
    eqn-among (automaton s ss) names w here = states-among ss names (below StatesOf w) (at_states ss here)

    arms-among : (arms : Arms) (names : Scope) (w here : Prefix) → Among (slots_of_arms types outs callee arms names w) (found_in_arms names_of arms w here)
    arms-among no_arm names w here = refl
    arms-among (more_arms c b s arms) names w here =
        among-both (slots_of_block types outs callee b names (below Head w)) (slots_of_arms types outs callee arms names (below Tail w)) (found_in_block names_of b (below Head w) (below Head here)) (found_in_arms names_of arms (below Tail w) (below Tail here))
        (block-among b names (below Head w) (below Head here)) (arms-among arms names (below Tail w) (below Tail here))

    states-among : (ss : States) (names : Scope) (w here : Prefix) → Among (slots_of_states types outs callee ss names w) (found_in_states names_of ss w here)
    states-among no_state names w here = refl
    states-among (more_states f b until unless s ss) names w here =
        let A = slots_of_block types outs callee b names (below Body (below Head w)) in
        let C = slots_of_conditions types outs callee until (scope_of b names) (below Until (below Head w)) in
        let D = slots_of_conditions types outs callee unless names (below Unless (below Head w)) in
        let M = slots_of_states types outs callee ss names (below Tail w) in
        let P = found_in_body names_of until b (below Body (below Head w)) (at_body unless here) in
        let Q = found_in_conditions names_of until (below Until (below Head w)) (below Equations (at_body unless here)) in
        let U = found_in_conditions names_of unless (below Unless (below Head w)) here in
        let V = found_in_states names_of ss (below Tail w) (behind_state unless here) in
        among-both A (C ++ (D ++ M)) P (Q ++ (U ++ V)) (body-among b until names (below Body (below Head w)) (at_body unless here))
        (among-both C (D ++ M) Q (U ++ V) (conditions-among until (scope_of b names) (below Until (below Head w)) (below Equations (at_body unless here)))
        (among-both D M U V (conditions-among unless names (below Unless (below Head w)) here) (states-among ss names (below Tail w) (behind_state unless here))))

pub slots-found : SlotsLaw
slots-found types outs callee b names w here none = block-among types outs callee none b names w here
