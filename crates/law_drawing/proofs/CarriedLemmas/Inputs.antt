-- Of the slots of a node those of its inputs alone are inputs, those of its contract and its body are registers and free places, and no input is an early place.
use Rattle.std.proofs.Common.{◌≡◌, ℕ, Bool, true, false, ◌&&◌, if◌then◌else◌, List, [], ◌∷◌, ◌++◌, Option, None, Some, refl, sym, ap, ◌∙◌}
use Rattle.std.specs.Prelude.{⊤, reverse}
use Rattle.hp_base.specs.declared.ty.Ty.{Ty}
use Rattle.hp_base.specs.declared.ty.Ty.TheVariants as ty
use Rattle.hp_base.specs.declared.ty.Const.{Const}
use Rattle.hp_tree.specs.declared.block.Trans.{Trans}
use Rattle.hp_tree.specs.declared.program.Item.{Item}
use Rattle.hp_tree.specs.Blocks.{Decl, Block, block, Eqns, no_eqn, more_eqns, Eqn, define, switch, reset, automaton, Arms, no_arm, more_arms, States, no_state, more_states}
use Rattle.hp_tree.specs.Expressions.{Expr, constant, variable, last_of, one, two, choose, pre, fby, arrow, when_is, merge, call, Exprs, no_expr, more_exprs, Parts, no_part, more_parts}
use Rattle.hp_tree.specs.ExpressionTypes.{Scope, typed_in, untyped, scope_of, type_of}
use Rattle.hp_tree.specs.Instant.{Head, Tail, Inputs, Controls, First, Second, Third, Args, Instance, Named, Equations, Right, Test, Arms as ArmsOf, States as StatesOf, Body, Until, Unless, Observer, Assume, Enforce, Place}
use Rattle.hp_tree.specs.Meaning.{types_of, controls_of, node_among}
use Rattle.hp_tree.specs.Operators.{is_comparison}
use Rattle.hp_tree.specs.Programs.{Contract, Node, TypeDecl}
use Rattle.hp_meaning.specs.Causal.Sources.{below}
use Rattle.hp_meaning.specs.Contract.FreePlaces.{IsEarly, own_free}
use Rattle.hp_meaning.specs.Contract.Slots as slots
use Rattle.hp_meaning.specs.Contract.Slots.{Slot, register, free, input, control, shape_of, is_int, callee_slots, slots_of_all, slots_of_parts, slots_of_conditions, slots_of_block, slots_of_equations, slots_of_equation, slots_of_arms, slots_of_states, slots_of_contract, slots_of_node}
use Rattle.law_games.proofs.MirrorLemmas.SlotLists.{OnlyFree, only_joined}

abbrev pub InputsAlone : List Slot → Type 0
InputsAlone [] = ⊤
InputsAlone (register p s ∷ ss) = InputsAlone ss
InputsAlone (free p t ∷ ss) = InputsAlone ss
InputsAlone (input p t ∷ ss) = ((q : Place) × (p ≡ Inputs ∷ q)) × InputsAlone ss
InputsAlone (control p t ∷ ss) = InputsAlone ss

both : (xs ys : List Slot) → InputsAlone xs → InputsAlone ys → InputsAlone (xs ++ ys)
both [] ys a b = b
both (register p s ∷ xs) ys a b = both xs ys a b
both (free p t ∷ xs) ys a b = both xs ys a b
both (input p t ∷ xs) ys a b = (a.0, both xs ys a.1 b)
both (control p t ∷ xs) ys a b = both xs ys a b

free_alone : (ss : List Slot) → OnlyFree ss → InputsAlone ss
free_alone [] h = tt
free_alone (register p s ∷ ss) h = free_alone ss h
free_alone (free p t ∷ ss) h = free_alone ss h
free_alone (input p t ∷ ss) h = absurd h
free_alone (control p t ∷ ss) h = absurd h

-- ---- rows

abbrev free_of : (Place → Ty → Slot) → Place → Ty → List Slot
free_of kind p ty.Int = []
free_of kind p t = kind p t ∷ []

one_free : (p : Place) (t : Ty) → OnlyFree (free_of free p t)
one_free p ty.Int = tt
one_free p ty.Bool = tt
one_free p (ty.Enum x) = tt

one_control : (p : Place) (t : Ty) → InputsAlone (free_of control p t)
one_control p ty.Int = tt
one_control p ty.Bool = tt
one_control p (ty.Enum x) = tt

one_input : (p q : Place) (t : Ty) → p ≡ Inputs ∷ q → InputsAlone (free_of input p t)
one_input p q ty.Int e = tt
one_input p q ty.Bool e = ((q, e), tt)
one_input p q (ty.Enum x) e = ((q, e), tt)

one_last : (o : Option Const) (p : Place) (t : slots.Shape) → OnlyFree (elim o [ None ↦ [] | Some c ↦ register p t ∷ [] ])
one_last None p t = tt
one_last (Some c) p t = tt

abbrev pub lasts_slots : List TypeDecl → List Decl → (Place → Place) → List Slot
lasts_slots types [] w = []
lasts_slots types (d ∷ ds) w = (elim d.last [ None ↦ [] | Some c ↦ register (w (Named d.name ∷ [])) (shape_of types d.ty) ∷ [] ]) ++ lasts_slots types ds w

pub lasts : (types : List TypeDecl) (ds : List Decl) (w : Place → Place) → OnlyFree (lasts_slots types ds w)
lasts types [] w = tt
lasts types (d ∷ ds) w =
    only_joined (elim d.last [ None ↦ [] | Some c ↦ register (w (Named d.name ∷ [])) (shape_of types d.ty) ∷ [] ]) (lasts_slots types ds w) (one_last d.last (w (Named d.name ∷ [])) (shape_of types d.ty)) (lasts types ds w)

abbrev outputs_slots : List Decl → (Place → Place) → List Slot
outputs_slots [] w = []
outputs_slots (d ∷ ds) w = free_of free (w (Named d.name ∷ [])) d.ty ++ outputs_slots ds w

outputs_free : (ds : List Decl) (w : Place → Place) → OnlyFree (outputs_slots ds w)
outputs_free [] w = tt
outputs_free (d ∷ ds) w = only_joined (free_of free (w (Named d.name ∷ [])) d.ty) (outputs_slots ds w) (one_free (w (Named d.name ∷ [])) d.ty) (outputs_free ds w)

abbrev pub row_slots : (Place → Ty → Slot) → List Decl → (Place → Place) → List Slot
row_slots kind [] w = []
row_slots kind (d ∷ ds) w = free_of kind (w (Head ∷ [])) d.ty ++ row_slots kind ds (below Tail w)

controls_row : (ds : List Decl) (w : Place → Place) → InputsAlone (row_slots control ds w)
controls_row [] w = tt
controls_row (d ∷ ds) w = both (free_of control (w (Head ∷ [])) d.ty) (row_slots control ds (below Tail w)) (one_control (w (Head ∷ [])) d.ty) (controls_row ds (below Tail w))

inputs_row : (ds : List Decl) (w : Place → Place) → ((p : Place) → (q : Place) × (w p ≡ Inputs ∷ q)) → InputsAlone (row_slots input ds w)
inputs_row [] w h = tt
inputs_row (d ∷ ds) w h =
    both (free_of input (w (Head ∷ [])) d.ty) (row_slots input ds (below Tail w)) (one_input (w (Head ∷ [])) (h (Head ∷ [])).0 d.ty (h (Head ∷ [])).1) (inputs_row ds (below Tail w) (λ p. h (Tail ∷ p)))

compared : (b : Bool) (p : Place) → OnlyFree (if b then free p ty.Bool ∷ [] else [])
compared true p = tt
compared false p = tt

-- ---- expressions and blocks

module _ (types : List TypeDecl) (outs : List ℕ → List Decl) (callee : List ℕ → (Place → Place) → List Slot) (called : (f : List ℕ) (w : Place → Place) → OnlyFree (callee f w)) where
  abbrev of : Expr → Scope → (Place → Place) → List Slot
  of e names w = slots.slots types outs callee e names w

  mutual
    expr : (e : Expr) (names : Scope) (w : Place → Place) → OnlyFree (of e names w)
    expr (constant s c) names w = tt
    expr (variable s x) names w = tt
    expr (last_of s x) names w = tt
    expr (one s o a) names w = expr a names (below First w)
    expr (two s o a b) names w =
        only_joined (if is_comparison o && is_int (type_of types outs a names) then free (w []) ty.Bool ∷ [] else []) (of a names (below First w) ++ of b names (below Second w)) (compared (is_comparison o && is_int (type_of types outs a names)) (w []))
        (only_joined (of a names (below First w)) (of b names (below Second w)) (expr a names (below First w)) (expr b names (below Second w)))
    expr (choose s a b c) names w =
        only_joined (of a names (below First w)) (of b names (below Second w) ++ of c names (below Third w)) (expr a names (below First w))
        (only_joined (of b names (below Second w)) (of c names (below Third w)) (expr b names (below Second w)) (expr c names (below Third w)))
    expr (pre s a) names w = expr a names (below First w)
    expr (fby s a b) names w = only_joined (of a names (below First w)) (of b names (below Second w)) (expr a names (below First w)) (expr b names (below Second w))
    expr (arrow s a b) names w = only_joined (of a names (below First w)) (of b names (below Second w)) (expr a names (below First w)) (expr b names (below Second w))
    expr (when_is s a c x) names w = expr a names (below First w)
    expr (merge s x ps) names w = parts ps names (below Args w)
    expr (call s f inlined es) names w =
        only_joined (outputs_slots (outs f) (below Instance w)) (callee f (below Instance w) ++ slots_of_all types outs callee es names (below Args w)) (outputs_free (outs f) (below Instance w))
        (only_joined (callee f (below Instance w)) (slots_of_all types outs callee es names (below Args w)) (called f (below Instance w)) (exprs es names (below Args w)))

    exprs : (es : Exprs) (names : Scope) (w : Place → Place) → OnlyFree (slots_of_all types outs callee es names w)
    exprs no_expr names w = tt
    exprs (more_exprs e es) names w = only_joined (of e names (below Head w)) (slots_of_all types outs callee es names (below Tail w)) (expr e names (below Head w)) (exprs es names (below Tail w))

    parts : (ps : Parts) (names : Scope) (w : Place → Place) → OnlyFree (slots_of_parts types outs callee ps names w)
    parts no_part names w = tt
    parts (more_parts c e ps) names w = only_joined (of e names (below Head w)) (slots_of_parts types outs callee ps names (below Tail w)) (expr e names (below Head w)) (parts ps names (below Tail w))

  conditions : (ts : List Trans) (names : Scope) (w : Place → Place) → OnlyFree (slots_of_conditions types outs callee ts names w)
  conditions [] names w = tt
  conditions (t ∷ ts) names w = only_joined (of t.cond names (below Head w)) (slots_of_conditions types outs callee ts names (below Tail w)) (expr t.cond names (below Head w)) (conditions ts names (below Tail w))

  mutual
    body_of : (b : Block) (out : Scope) (w : Place → Place) → OnlyFree (slots_of_block types outs callee b out w)
    body_of (block ds es) out w =
        only_joined (lasts_slots types ds w) (slots_of_equations types outs callee es (typed_in ds out) (below Equations w)) (lasts types ds w) (eqns es (typed_in ds out) (below Equations w))

    eqns : (es : Eqns) (names : Scope) (w : Place → Place) → OnlyFree (slots_of_equations types outs callee es names w)
    eqns no_eqn names w = tt
    eqns (more_eqns e es) names w =
        only_joined (slots_of_equation types outs callee e names (below Head w)) (slots_of_equations types outs callee es names (below Tail w)) (eqn e names (below Head w)) (eqns es names (below Tail w))

    eqn : (e : Eqn) (names : Scope) (w : Place → Place) → OnlyFree (slots_of_equation types outs callee e names w)
    eqn (define s ys e) names w = expr e names (below Right w)
    eqn (switch s e arms) names w = only_joined (of e names (below Test w)) (slots_of_arms types outs callee arms names (below ArmsOf w)) (expr e names (below Test w)) (arms_of arms names (below ArmsOf w))
    eqn (reset s b e) names w = only_joined (slots_of_block types outs callee b names (below Body w)) (of e names (below Test w)) (body_of b names (below Body w)) (expr e names (below Test w))
    eqn (automaton s ss) names w = states_of ss names (below StatesOf w)

    arms_of : (arms : Arms) (names : Scope) (w : Place → Place) → OnlyFree (slots_of_arms types outs callee arms names w)
    arms_of no_arm names w = tt
    arms_of (more_arms c b s arms) names w = only_joined (slots_of_block types outs callee b names (below Head w)) (slots_of_arms types outs callee arms names (below Tail w)) (body_of b names (below Head w)) (arms_of arms names (below Tail w))

    states_of : (ss : States) (names : Scope) (w : Place → Place) → OnlyFree (slots_of_states types outs callee ss names w)
    states_of no_state names w = tt
    states_of (more_states f b until unless s ss) names w =
        only_joined (slots_of_block types outs callee b names (below Body (below Head w)))
        (slots_of_conditions types outs callee until (scope_of b names) (below Until (below Head w))
        ++ (slots_of_conditions types outs callee unless names (below Unless (below Head w)) ++ slots_of_states types outs callee ss names (below Tail w)))
        (body_of b names (below Body (below Head w)))
        (only_joined (slots_of_conditions types outs callee until (scope_of b names) (below Until (below Head w)))
        (slots_of_conditions types outs callee unless names (below Unless (below Head w)) ++ slots_of_states types outs callee ss names (below Tail w)) (conditions until (scope_of b names) (below Until (below Head w)))
        (only_joined (slots_of_conditions types outs callee unless names (below Unless (below Head w))) (slots_of_states types outs callee ss names (below Tail w)) (conditions unless names (below Unless (below Head w)))
        (states_of ss names (below Tail w))))

  abbrev slots_told : Option Expr → Scope → (Place → Place) → List Slot
  slots_told None names w = []
  slots_told (Some e) names w = of e names w

  told : (o : Option Expr) (names : Scope) (w : Place → Place) → OnlyFree (slots_told o names w)
  told None names w = tt
  told (Some e) names w = expr e names w

  contract : (o : Option Contract) (names : Scope) (w : Place → Place) → OnlyFree (slots_of_contract types outs callee o names w)
  contract None names w = tt
  contract (Some c) names w =
      only_joined (slots_of_block types outs callee c.body names (below Observer w)) (slots_told c.assume (scope_of c.body names) (below Assume w) ++ slots_told c.enforce (scope_of c.body names) (below Enforce w)) (body_of c.body names (below Observer w))
      (only_joined (slots_told c.assume (scope_of c.body names) (below Assume w)) (slots_told c.enforce (scope_of c.body names) (below Enforce w)) (told c.assume (scope_of c.body names) (below Assume w)) (told c.enforce (scope_of c.body names) (below Enforce w)))

-- ---- nodes

abbrev no_slots : List ℕ → (Place → Place) → List Slot
no_slots f w = []

callee_free : (types : List TypeDecl) (o : Option Node) (w : Place → Place) → OnlyFree (callee_slots types o w)
callee_free types None w = tt
callee_free types (Some n) w = by n.contract where
  by : (o : Option Contract)
      → OnlyFree (elim o [ None ↦ [] | Some c ↦ lasts_slots types n.outputs w ++ slots_of_contract types (λ f. []) no_slots (Some c) (typed_in n.inputs (typed_in n.outputs untyped)) w ])
  by None = tt
  by (Some c) =
      only_joined (lasts_slots types n.outputs w) (slots_of_contract types (λ f. []) no_slots (Some c) (typed_in n.inputs (typed_in n.outputs untyped)) w) (lasts types n.outputs w)
      (contract types (λ f. []) no_slots (λ f w. tt) (Some c) (typed_in n.inputs (typed_in n.outputs untyped)) w)

abbrev decls_by : Option Node → List Decl
decls_by None = []
decls_by (Some n) = n.outputs

abbrev outs : List Item → List ℕ → List Decl
outs program f = decls_by (node_among (reverse program) f)

abbrev callee : List Item → List ℕ → (Place → Place) → List Slot
callee program f w = callee_slots (types_of program) (node_among (reverse program) f) w

-- the slots of the contract and of the body
abbrev pub inner_slots : List Item → Node → List Slot
inner_slots program n =
    let here : Place → Place = λ p. p in
    let seen = typed_in n.inputs (typed_in n.outputs untyped) in
    slots_of_contract (types_of program) (outs program) (callee program) n.contract seen here ++ slots_of_block (types_of program) (outs program) (callee program) n.body (typed_in (controls_of n.contract) seen) (below Body here)

pub inner_free : (program : List Item) (n : Node) → OnlyFree (inner_slots program n)
inner_free program n =
    let here : Place → Place = λ p. p in
    let seen = typed_in n.inputs (typed_in n.outputs untyped) in
    let called : (f : List ℕ) (w : Place → Place) → OnlyFree (callee program f w) = λ f w. callee_free (types_of program) (node_among (reverse program) f) w in
    only_joined (slots_of_contract (types_of program) (outs program) (callee program) n.contract seen here)
    (slots_of_block (types_of program) (outs program) (callee program) n.body (typed_in (controls_of n.contract) seen) (below Body here))
    (contract (types_of program) (outs program) (callee program) called n.contract seen here)
    (body_of (types_of program) (outs program) (callee program) called n.body (typed_in (controls_of n.contract) seen) (below Body here))

pub node_alone : (program : List Item) (n : Node) → InputsAlone (slots_of_node program n)
node_alone program n =
    let here : Place → Place = λ p. p in
    let controls = row_slots control (controls_of n.contract) (below Controls here) in
    let own = lasts_slots (types_of program) n.outputs here in
    both (row_slots input n.inputs (below Inputs here)) (own ++ (controls ++ inner_slots program n)) (inputs_row n.inputs (below Inputs here) (λ p. (p, refl)))
    (both own (controls ++ inner_slots program n) (free_alone own (lasts (types_of program) n.outputs here))
    (both controls (inner_slots program n) (controls_row (controls_of n.contract) (below Controls here)) (free_alone (inner_slots program n) (inner_free program n))))

-- ---- no input is early

pub no_input : (program : List Item) (n : Node) (q : Place) → IsEarly program n (Inputs ∷ q) → ⊥
no_input program n q e = by n.contract refl e.on_base where
  by : (o : Option Contract) → n.contract ≡ o → own_free n (Inputs ∷ q) ≡ Some [] → ⊥
  by None c h = absurd (let no : own_free (record n { contract = None }) (Inputs ∷ q) ≡ Some [] = sym (ap (λ o. own_free (record n { contract = o }) (Inputs ∷ q)) c) ∙ h in cc)
  by (Some k) c h = absurd (let no : own_free (record n { contract = Some k }) (Inputs ∷ q) ≡ Some [] = sym (ap (λ o. own_free (record n { contract = o }) (Inputs ∷ q)) c) ∙ h in cc)
