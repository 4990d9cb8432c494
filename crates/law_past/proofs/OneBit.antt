-- A variable that remembers has one register: all others stand elsewhere in the node, and it is declared once.
use Rattle.std.proofs.Common.{◌≡◌, ℕ, suc, Bool, true, false, ◌&&◌, ◌||◌, cond, if◌then◌else◌, List, [], ◌∷◌, ◌++◌, reverse, Option, None, Some, refl, sym, ap, ap₂, ◌∙◌, subst}
use Rattle.std.specs.Str.{bytes_eq}
use Rattle.hp_base.specs.declared.ty.Const.{Const}
use Rattle.hp_base.specs.declared.ty.Const.TheVariants as constant
use Rattle.hp_base.specs.declared.ty.Ty.{Ty}
use Rattle.hp_base.specs.declared.ty.Ty.TheVariants as ty
use Rattle.hp_base.specs.declared.value.Value.TheVariants.{B}
use Rattle.hp_tree.specs.declared.block.Trans.{Trans}
use Rattle.hp_tree.specs.declared.program.Item.{Item}
use Rattle.hp_tree.specs.declared.program.Item.TheVariants.{TypeItem, NodeItem}
use Rattle.hp_tree.specs.Expressions.{Expr, constant, variable, last_of, one, two, choose, pre, fby, arrow, when_is, merge, call, Exprs, no_expr, more_exprs, Parts, no_part, more_parts}
use Rattle.hp_tree.specs.Blocks.{Decl, Block, block, Eqns, no_eqn, more_eqns, Eqn, define, switch, reset, automaton, Arms, no_arm, more_arms, States, no_state, more_states}
use Rattle.hp_tree.specs.Programs.{TypeDecl, Contract, Node}
use Rattle.hp_tree.specs.Operators.{constant_of, is_comparison}
use Rattle.hp_tree.specs.Instant.{Inputs, Controls, Body, Observer, Assume, Enforce, Named, Fresh, Equations, Head, Tail, Right, Test, Arms as ArmsOf, States as StatesOf, Until, Unless, Next, Pending, First, Second, Third, Args, Instance, Place}
use Rattle.hp_tree.specs.Meaning.{controls_of, declares, node_among, types_of}
use Rattle.hp_tree.specs.Values.{IsOf}
use Rattle.hp_tree.specs.ExpressionTypes.{Scope, typed_in, untyped, scope_of, type_of}
use Rattle.hp_meaning.specs.Causal.Sources.{below}
use Rattle.hp_meaning.specs.Causal.RanksOfPoints.{same_place}
use Rattle.hp_meaning.specs.Causal.Points.{NamesDeclared}
use Rattle.hp_meaning.specs.Clocking.Clocking.{AreOnce, NodeNamed}
use Rattle.hp_meaning.specs.Contract.Slots.{Shape, truth, cons, Slot, register, free, input, control, is_int, shape_of, registers_among, registers, slots, slots_of_all, slots_of_parts, slots_of_conditions, slots_of_block, slots_of_equations, slots_of_equation, slots_of_arms, slots_of_states, slots_of_contract, callee_slots}
use Rattle.hp_past.specs.Remembering.{last_among}
use Rattle.hp_past.specs.Own.{locals_of}
use Rattle.hp_past.specs.Remembered.{variable_of}
use Rattle.hp_typing.specs.Scopes.{inside_node, with_variables}
use Rattle.hp_expand.specs.Numbering.{replaced}
use Rattle.law_judged.specs.Typed.Scopes as Scopes
use Rattle.law_judged.specs.Named.Scoped.{BlockScoped, ContractScoped, EachNode, Names, NodeScoped, interface, no_names}
use Rattle.law_judged.specs.Clocked.Laws.{HasClocks}
use Rattle.law_judged.proofs.ClockedLemmas.Clocked.{clocked}
use Rattle.law_judged.proofs.NamedLemmas.Sets.{same_name}
use Rattle.law_judged.proofs.ReplacedLemmas.JudgedReplaced.{judged_replaced}
use Rattle.law_values.specs.Accepted.Laws.{IsReady}
use Rattle.law_values.specs.Valued.Judged.{BlockSound, ContractSound, DeclsSound, FirstSound, Lasts, lasts_in, no_lasts}
use Rattle.law_values.specs.Valued.Values.{scope_behind}
use Rattle.law_values.proofs.AcceptedLemmas.Laws.{accepted}
use Rattle.law_values.proofs.FilledLemmas.Programs.{each_reverse}
use Rattle.law_past.specs.OneBit.{place_of, at_place, OneBitLaw}
use Rattle.law_past.proofs.Holding.{first_of, some_is, keeps_by}
use Rattle.law_past.proofs.Remembered.{found as found_node, ready}
use Rattle.law_past.proofs.Programs.{kept_law}

-- ---- the registers at a place, among slots

abbrev found : Place → List Slot → List (Place × Shape)
found p ss = at_place p (registers_among ss)

either_front : {A : Type 0} (b : Bool) (x : A) (xs ys zs : List A) → xs ≡ ys ++ zs → cond b (x ∷ xs) xs ≡ cond b (x ∷ ys) ys ++ zs
either_front true x xs ys zs e = ap (λ l. x ∷ l) e
either_front false x xs ys zs e = e

found_append : (p : Place) (ss ts : List Slot) → found p (ss ++ ts) ≡ found p ss ++ found p ts
found_append p [] ts = refl
found_append p (register q k ∷ ss) ts = either_front (same_place q p) (q, k) (found p (ss ++ ts)) (found p ss) (found p ts) (found_append p ss ts)
found_append p (free q t ∷ ss) ts = found_append p ss ts
found_append p (input q t ∷ ss) ts = found_append p ss ts
found_append p (control q t ∷ ss) ts = found_append p ss ts

-- none is there
abbrev IsBare : Place → List Slot → Type 0
IsBare p ss = found p ss ≡ []

both_bare : (p : Place) (ss ts : List Slot) → IsBare p ss → IsBare p ts → IsBare p (ss ++ ts)
both_bare p ss ts h k = found_append p ss ts ∙ ap₂ ◌++◌ h k

three_bare : (p : Place) (ss ts us : List Slot) → IsBare p ss → IsBare p ts → IsBare p us → IsBare p (ss ++ (ts ++ us))
three_bare p ss ts us h k l = both_bare p ss (ts ++ us) h (both_bare p ts us k l)

one_bare : (p q : Place) (k : Shape) (ss : List Slot) → same_place q p ≡ false → IsBare p ss → IsBare p (register q k ∷ ss)
one_bare p q k ss a h = ap (λ b. cond b ((q, k) ∷ found p ss) (found p ss)) a ∙ h

free_bare : (p q : Place) (b : Bool) (t : Ty) → IsBare p (if b then free q t ∷ [] else [])
free_bare p q true t = refl
free_bare p q false t = refl

-- ---- slots of declarations, as the definitions of slots have them

abbrev lasts_slots : List TypeDecl → List Decl → (Place → Place) → List Slot
lasts_slots types [] w = []
lasts_slots types (d ∷ ds) w = (elim d.last [ None ↦ [] | Some c ↦ register (w (Named d.name ∷ [])) (shape_of types d.ty) ∷ [] ]) ++ lasts_slots types ds w

abbrev free_of : (Place → Ty → Slot) → Place → Ty → List Slot
free_of kind p ty.Int = []
free_of kind p t = kind p t ∷ []

abbrev outputs_slots : List Decl → (Place → Place) → List Slot
outputs_slots [] w = []
outputs_slots (d ∷ ds) w = free_of free (w (Named d.name ∷ [])) d.ty ++ outputs_slots ds w

abbrev row_slots : (Place → Ty → Slot) → List Decl → (Place → Place) → List Slot
row_slots kind [] w = []
row_slots kind (d ∷ ds) w = free_of kind (w (Head ∷ [])) d.ty ++ row_slots kind ds (below Tail w)

abbrev slots_told : (List TypeDecl) → (List ℕ → List Decl) → (List ℕ → (Place → Place) → List Slot) → Option Expr → Scope → (Place → Place) → List Slot
slots_told types outputs callee None names w = []
slots_told types outputs callee (Some e) names w = slots types outputs callee e names w

abbrev count_states : States → ℕ
count_states no_state = 0
count_states (more_states f b until unless s ss) = suc (count_states ss)

abbrev no_slots : List ℕ → (Place → Place) → List Slot
no_slots f w = []

abbrev decls_by : Option Node → List Decl
decls_by None = []
decls_by (Some n) = n.outputs

-- a row of free places has no register
outputs_bare : (p : Place) (ds : List Decl) (w : Place → Place) → IsBare p (outputs_slots ds w)
outputs_bare p [] w = refl
outputs_bare p (d ∷ ds) w = both_bare p (free_of free (w (Named d.name ∷ [])) d.ty) (outputs_slots ds w) (by d.ty) (outputs_bare p ds w)
  where
    by : (t : Ty) → IsBare p (free_of free (w (Named d.name ∷ [])) t)
    by ty.Bool = refl
    by ty.Int = refl
    by (ty.Enum t) = refl

inputs_bare : (p : Place) (ds : List Decl) (w : Place → Place) → IsBare p (row_slots input ds w)
inputs_bare p [] w = refl
inputs_bare p (d ∷ ds) w = both_bare p (free_of input (w (Head ∷ [])) d.ty) (row_slots input ds (below Tail w)) (by d.ty) (inputs_bare p ds (below Tail w))
  where
    by : (t : Ty) → IsBare p (free_of input (w (Head ∷ [])) t)
    by ty.Bool = refl
    by ty.Int = refl
    by (ty.Enum t) = refl

controls_bare : (p : Place) (ds : List Decl) (w : Place → Place) → IsBare p (row_slots control ds w)
controls_bare p [] w = refl
controls_bare p (d ∷ ds) w = both_bare p (free_of control (w (Head ∷ [])) d.ty) (row_slots control ds (below Tail w)) (by d.ty) (controls_bare p ds (below Tail w))
  where
    by : (t : Ty) → IsBare p (free_of control (w (Head ∷ [])) t)
    by ty.Bool = refl
    by ty.Int = refl
    by (ty.Enum t) = refl

-- variables whose registers stand elsewhere
lasts_bare : (p : Place) (types : List TypeDecl) (ds : List Decl) (w : Place → Place) → ((x : List ℕ) → same_place (w (Named x ∷ [])) p ≡ false) → IsBare p (lasts_slots types ds w)
lasts_bare p types [] w a = refl
lasts_bare p types (d ∷ ds) w a = by d.last (lasts_bare p types ds w a)
  where
    by : (c : Option Const) → IsBare p (lasts_slots types ds w) → IsBare p ((elim c [ None ↦ [] | Some k ↦ register (w (Named d.name ∷ [])) (shape_of types d.ty) ∷ [] ]) ++ lasts_slots types ds w)
    by None h = h
    by (Some k) h = one_bare p (w (Named d.name ∷ [])) (shape_of types d.ty) (lasts_slots types ds w) (a d.name) h

-- ---- parts that stand elsewhere

abbrev Elsewhere : Place → (Place → Place) → Type 0
Elsewhere p w = (q : Place) → same_place (w q) p ≡ false

module _ (p : Place) (types : List TypeDecl) (outputs : List ℕ → List Decl) (callee : List ℕ → (Place → Place) → List Slot) (callee_bare : (f : List ℕ) (w : Place → Place) → Elsewhere p w → IsBare p (callee f w)) where
  abbrev part_of : Expr → Scope → (Place → Place) → List Slot
  part_of = slots types outputs callee

  mutual
    expr_bare : (e : Expr) (names : Scope) (w : Place → Place) → Elsewhere p w → IsBare p (slots types outputs callee e names w)
    expr_bare (constant s c) names w a = refl
    expr_bare (variable s x) names w a = refl
    expr_bare (last_of s x) names w a = refl
    expr_bare (one s o e) names w a = expr_bare e names (below First w) (λ q. a (First ∷ q))
    expr_bare (two s o e f) names w a =
        three_bare p (if is_comparison o && is_int (type_of types outputs e names) then free (w []) ty.Bool ∷ [] else []) (part_of e names (below First w)) (part_of f names (below Second w))
        (free_bare p (w []) (is_comparison o && is_int (type_of types outputs e names)) ty.Bool) (expr_bare e names (below First w) (λ q. a (First ∷ q))) (expr_bare f names (below Second w) (λ q. a (Second ∷ q)))
    expr_bare (choose s e f g) names w a =
        three_bare p (part_of e names (below First w)) (part_of f names (below Second w)) (part_of g names (below Third w))
        (expr_bare e names (below First w) (λ q. a (First ∷ q))) (expr_bare f names (below Second w) (λ q. a (Second ∷ q))) (expr_bare g names (below Third w) (λ q. a (Third ∷ q)))
    expr_bare (pre s e) names w a = one_bare p (w []) (shape_of types (type_of types outputs e names)) (part_of e names (below First w)) (a []) (expr_bare e names (below First w) (λ q. a (First ∷ q)))
    expr_bare (fby s e f) names w a =
        one_bare p (w []) (shape_of types (type_of types outputs e names)) (register (w (Fresh ∷ [])) truth ∷ (part_of e names (below First w) ++ part_of f names (below Second w))) (a [])
        (one_bare p (w (Fresh ∷ [])) truth (part_of e names (below First w) ++ part_of f names (below Second w)) (a (Fresh ∷ []))
        (both_bare p (part_of e names (below First w)) (part_of f names (below Second w)) (expr_bare e names (below First w) (λ q. a (First ∷ q))) (expr_bare f names (below Second w) (λ q. a (Second ∷ q)))))
    expr_bare (arrow s e f) names w a =
        one_bare p (w (Fresh ∷ [])) truth (part_of e names (below First w) ++ part_of f names (below Second w)) (a (Fresh ∷ []))
        (both_bare p (part_of e names (below First w)) (part_of f names (below Second w)) (expr_bare e names (below First w) (λ q. a (First ∷ q))) (expr_bare f names (below Second w) (λ q. a (Second ∷ q))))
    expr_bare (when_is s e c x) names w a = expr_bare e names (below First w) (λ q. a (First ∷ q))
    expr_bare (merge s x ps) names w a = parts_bare ps names (below Args w) (λ q. a (Args ∷ q))
    expr_bare (call s f inlined es) names w a =
        three_bare p (outputs_slots (outputs f) (below Instance w)) (callee f (below Instance w)) (slots_of_all types outputs callee es names (below Args w))
        (outputs_bare p (outputs f) (below Instance w)) (callee_bare f (below Instance w) (λ q. a (Instance ∷ q))) (exprs_bare es names (below Args w) (λ q. a (Args ∷ q)))

    exprs_bare : (es : Exprs) (names : Scope) (w : Place → Place) → Elsewhere p w → IsBare p (slots_of_all types outputs callee es names w)
    exprs_bare no_expr names w a = refl
    exprs_bare (more_exprs e es) names w a =
        both_bare p (part_of e names (below Head w)) (slots_of_all types outputs callee es names (below Tail w)) (expr_bare e names (below Head w) (λ q. a (Head ∷ q))) (exprs_bare es names (below Tail w) (λ q. a (Tail ∷ q)))

    parts_bare : (ps : Parts) (names : Scope) (w : Place → Place) → Elsewhere p w → IsBare p (slots_of_parts types outputs callee ps names w)
    parts_bare no_part names w a = refl
    parts_bare (more_parts c e ps) names w a =
        both_bare p (part_of e names (below Head w)) (slots_of_parts types outputs callee ps names (below Tail w)) (expr_bare e names (below Head w) (λ q. a (Head ∷ q))) (parts_bare ps names (below Tail w) (λ q. a (Tail ∷ q)))

  conditions_bare : (ts : List Trans) (names : Scope) (w : Place → Place) → Elsewhere p w → IsBare p (slots_of_conditions types outputs callee ts names w)
  conditions_bare [] names w a = refl
  conditions_bare (t ∷ ts) names w a =
      both_bare p (part_of t.cond names (below Head w)) (slots_of_conditions types outputs callee ts names (below Tail w)) (expr_bare t.cond names (below Head w) (λ q. a (Head ∷ q))) (conditions_bare ts names (below Tail w) (λ q. a (Tail ∷ q)))

  mutual
    block_bare : (b : Block) (out : Scope) (w : Place → Place) → Elsewhere p w → IsBare p (slots_of_block types outputs callee b out w)
    block_bare (block ds es) out w a =
        both_bare p (lasts_slots types ds w) (slots_of_equations types outputs callee es (typed_in ds out) (below Equations w)) (lasts_bare p types ds w (λ x. a (Named x ∷ []))) (eqns_bare es (typed_in ds out) (below Equations w) (λ q. a (Equations ∷ q)))

    eqns_bare : (es : Eqns) (names : Scope) (w : Place → Place) → Elsewhere p w → IsBare p (slots_of_equations types outputs callee es names w)
    eqns_bare no_eqn names w a = refl
    eqns_bare (more_eqns e es) names w a =
        both_bare p (slots_of_equation types outputs callee e names (below Head w)) (slots_of_equations types outputs callee es names (below Tail w)) (eqn_bare e names (below Head w) (λ q. a (Head ∷ q))) (eqns_bare es names (below Tail w) (λ q. a (Tail ∷ q)))

    eqn_bare : (e : Eqn) (names : Scope) (w : Place → Place) → Elsewhere p w → IsBare p (slots_of_equation types outputs callee e names w)
    eqn_bare (define s ys e) names w a = expr_bare e names (below Right w) (λ q. a (Right ∷ q))
    eqn_bare (switch s e arms) names w a =
        both_bare p (part_of e names (below Test w)) (slots_of_arms types outputs callee arms names (below ArmsOf w)) (expr_bare e names (below Test w) (λ q. a (Test ∷ q))) (arms_bare arms names (below ArmsOf w) (λ q. a (ArmsOf ∷ q)))
    eqn_bare (reset s b e) names w a =
        both_bare p (slots_of_block types outputs callee b names (below Body w)) (part_of e names (below Test w)) (block_bare b names (below Body w) (λ q. a (Body ∷ q))) (expr_bare e names (below Test w) (λ q. a (Test ∷ q)))
    eqn_bare (automaton s ss) names w a =
        let rest = slots_of_states types outputs callee ss names (below StatesOf w) in
        one_bare p (w (Next ∷ [])) (cons 0 (count_states ss)) (register (w (Pending ∷ [])) truth ∷ rest) (a (Next ∷ [])) (one_bare p (w (Pending ∷ [])) truth rest (a (Pending ∷ [])) (states_bare ss names (below StatesOf w) (λ q. a (StatesOf ∷ q))))

    arms_bare : (arms : Arms) (names : Scope) (w : Place → Place) → Elsewhere p w → IsBare p (slots_of_arms types outputs callee arms names w)
    arms_bare no_arm names w a = refl
    arms_bare (more_arms c b s arms) names w a =
        both_bare p (slots_of_block types outputs callee b names (below Head w)) (slots_of_arms types outputs callee arms names (below Tail w)) (block_bare b names (below Head w) (λ q. a (Head ∷ q))) (arms_bare arms names (below Tail w) (λ q. a (Tail ∷ q)))

    states_bare : (ss : States) (names : Scope) (w : Place → Place) → Elsewhere p w → IsBare p (slots_of_states types outputs callee ss names w)
    states_bare no_state names w a = refl
    states_bare (more_states f b until unless s ss) names w a =
        both_bare p (slots_of_block types outputs callee b names (below Body (below Head w)))
        (slots_of_conditions types outputs callee until (scope_of b names) (below Until (below Head w)) ++ (slots_of_conditions types outputs callee unless names (below Unless (below Head w)) ++ slots_of_states types outputs callee ss names (below Tail w)))
        (block_bare b names (below Body (below Head w)) (λ q. a (Head ∷ Body ∷ q)))
        (three_bare p (slots_of_conditions types outputs callee until (scope_of b names) (below Until (below Head w))) (slots_of_conditions types outputs callee unless names (below Unless (below Head w))) (slots_of_states types outputs callee ss names (below Tail w))
        (conditions_bare until (scope_of b names) (below Until (below Head w)) (λ q. a (Head ∷ Until ∷ q))) (conditions_bare unless names (below Unless (below Head w)) (λ q. a (Head ∷ Unless ∷ q))) (states_bare ss names (below Tail w) (λ q. a (Tail ∷ q))))

  told_bare : (o : Option Expr) (names : Scope) (w : Place → Place) → Elsewhere p w → IsBare p (slots_told types outputs callee o names w)
  told_bare None names w a = refl
  told_bare (Some e) names w a = expr_bare e names w a

-- no callee stands in a contract's part of a callee
none_bare : (p : Place) (f : List ℕ) (w : Place → Place) → Elsewhere p w → IsBare p (no_slots f w)
none_bare p f w a = refl

-- the contract part of a callee
module _ (p : Place) (types : List TypeDecl) where
  abbrev no_outputs : List ℕ → List Decl
  no_outputs f = []

  callee_part : (n : Node) (o : Option Contract) (w : Place → Place) → Elsewhere p w
      → IsBare p (elim o [ None ↦ [] | Some c ↦ lasts_slots types n.outputs w ++ slots_of_contract types no_outputs no_slots (Some c) (typed_in n.inputs (typed_in n.outputs untyped)) w ])
  callee_part n None w a = refl
  callee_part n (Some c) w a =
      let seen = typed_in n.inputs (typed_in n.outputs untyped) in
      both_bare p (lasts_slots types n.outputs w) (slots_of_contract types no_outputs no_slots (Some c) seen w) (lasts_bare p types n.outputs w (λ x. a (Named x ∷ [])))
      (three_bare p (slots_of_block types no_outputs no_slots c.body seen (below Observer w)) (slots_told types no_outputs no_slots c.assume (scope_of c.body seen) (below Assume w)) (slots_told types no_outputs no_slots c.enforce (scope_of c.body seen) (below Enforce w))
      (block_bare p types no_outputs no_slots (none_bare p) c.body seen (below Observer w) (λ q. a (Observer ∷ q)))
      (told_bare p types no_outputs no_slots (none_bare p) c.assume (scope_of c.body seen) (below Assume w) (λ q. a (Assume ∷ q)))
      (told_bare p types no_outputs no_slots (none_bare p) c.enforce (scope_of c.body seen) (below Enforce w) (λ q. a (Enforce ∷ q))))

  part_bare : (o : Option Node) (w : Place → Place) → Elsewhere p w → IsBare p (callee_slots types o w)
  part_bare None w a = refl
  part_bare (Some n) w a = callee_part n n.contract w a

-- ---- the declarations of the contract's own block

abbrev own : Place → Place
own q = Observer ∷ q

-- the places of two names are one where the names are
named_place : (x v : List ℕ) (same : Bool) → bytes_eq x v ≡ same → same_place (place_of x) (place_of v) ≡ same
named_place x v true h = ap (λ b. b && true) h
named_place x v false h = ap (λ b. b && true) h

not_first : (a b : Bool) → (a || b) ≡ false → (a ≡ false) × (b ≡ false)
not_first true b h = absurd cc
not_first false b h = (refl, h)

absent_bare : (types : List TypeDecl) (v : List ℕ) (ds : List Decl) → declares ds v ≡ false → IsBare (place_of v) (lasts_slots types ds own)
absent_bare types v [] h = refl
absent_bare types v (d ∷ ds) h = let other = not_first (bytes_eq d.name v) (declares ds v) h in by other.0 d.last (absent_bare types v ds other.1)
  where
    by : bytes_eq d.name v ≡ false → (c : Option Const) → IsBare (place_of v) (lasts_slots types ds own) → IsBare (place_of v) ((elim c [ None ↦ [] | Some k ↦ register (place_of d.name) (shape_of types d.ty) ∷ [] ]) ++ lasts_slots types ds own)
    by is None k = k
    by is (Some x) k = one_bare (place_of v) (place_of d.name) (shape_of types d.ty) (lasts_slots types ds own) (named_place d.name v false is) k

abbrev HasOne : List ℕ → List Slot → Type 0
HasOne v ss = found (place_of v) ss ≡ (place_of v, truth) ∷ []

-- a first value that is a truth value tells the type
truth_type : (types : List TypeDecl) (t : Ty) (b : Bool) → IsOf types t (B b) → t ≡ ty.Bool
truth_type types ty.Bool b h = refl
truth_type types ty.Int b h = absurd h
truth_type types (ty.Enum x) b h = absurd h

module _ (types : List TypeDecl) (among : List ℕ → Option Node) (s : Scopes.Scope) (es : Eqns) (v : List ℕ) (b : Bool) where
  declared_one : (ds : List Decl) → DeclsSound types among s es ds → AreOnce ds → last_among ds v ≡ Some (constant.B b) → HasOne v (lasts_slots types ds own)
  declared_one [] h o l = absurd cc
  declared_one (d ∷ ds) h o l = by (bytes_eq d.name v) refl (declared_one ds h.1 o.1) l
    where
      here : bytes_eq d.name v ≡ true → (c : Option Const) → FirstSound types among d.ty c → c ≡ Some (constant.B b)
          → HasOne v ((elim c [ None ↦ [] | Some k ↦ register (place_of d.name) (shape_of types d.ty) ∷ [] ]) ++ lasts_slots types ds own)
      here is None f e = absurd cc
      here is (Some k) f e =
          let name : d.name ≡ v = same_name d.name v is in
          let rest : found (place_of v) (lasts_slots types ds own) ≡ [] = absent_bare types v ds (ap (declares ds) (sym name) ∙ o.0) in
          let boolean : d.ty ≡ ty.Bool = truth_type types d.ty b (subst (λ x. IsOf types d.ty (constant_of types x)) (some_is k (constant.B b) e) f) in
          ap (λ z. cond z ((place_of d.name, shape_of types d.ty) ∷ found (place_of v) (lasts_slots types ds own)) (found (place_of v) (lasts_slots types ds own))) (named_place d.name v true is)
          ∙ (λ j. (place_of (name j), shape_of types (boolean j)) ∷ rest j)

      there : bytes_eq d.name v ≡ false → (c : Option Const) → HasOne v (lasts_slots types ds own) → HasOne v ((elim c [ None ↦ [] | Some k ↦ register (place_of d.name) (shape_of types d.ty) ∷ [] ]) ++ lasts_slots types ds own)
      there is None h = h
      there is (Some k) h = ap (λ z. cond z ((place_of d.name, shape_of types d.ty) ∷ found (place_of v) (lasts_slots types ds own)) (found (place_of v) (lasts_slots types ds own))) (named_place d.name v false is) ∙ h

      by : (same : Bool) → bytes_eq d.name v ≡ same → (last_among ds v ≡ Some (constant.B b) → HasOne v (lasts_slots types ds own)) → (if same then d.last else last_among ds v) ≡ Some (constant.B b) → HasOne v (lasts_slots types (d ∷ ds) own)
      by true is rest k = here is d.last h.0.1.1 k
      by false is rest k = there is d.last (rest k)

-- ---- a node

-- all other parts of a node have their registers elsewhere
module _ (types : List TypeDecl) (outputs : List ℕ → List Decl) (callee : List ℕ → (Place → Place) → List Slot) (v : List ℕ) (callee_bare : (f : List ℕ) (w : Place → Place) → Elsewhere (place_of v) w → IsBare (place_of v) (callee f w)) where
  abbrev p : Place
  p = place_of v

  block_one : (ds : List Decl) (es : Eqns) (names : Scope) → HasOne v (lasts_slots types ds own) → HasOne v (slots_of_block types outputs callee (block ds es) names own)
  block_one ds es names h =
      let inner = slots_of_equations types outputs callee es (typed_in ds names) (below Equations own) in
      found_append p (lasts_slots types ds own) inner ∙ ap₂ ◌++◌ h (eqns_bare p types outputs callee callee_bare es (typed_in ds names) (below Equations own) (λ q. refl))

  one_front : (ss ts : List Slot) → HasOne v ss → IsBare p ts → HasOne v (ss ++ ts)
  one_front ss ts h k = found_append p ss ts ∙ ap₂ ◌++◌ h k

  one_behind : (ss ts : List Slot) → IsBare p ss → HasOne v ts → HasOne v (ss ++ ts)
  one_behind ss ts h k = found_append p ss ts ∙ ap₂ ◌++◌ h k

  abbrev here : Place → Place
  here q = q

  contract_one : (o : Option Contract) (c : Contract) (names : Scope) → o ≡ Some c → HasOne v (lasts_slots types (locals_of c.body) own) → HasOne v (slots_of_contract types outputs callee o names here)
  contract_one o c names e h = subst (λ z. HasOne v (slots_of_contract types outputs callee z names here)) (sym e) (one_front body (assumed ++ enforced) (by c.body h) (both_bare p assumed enforced
      (told_bare p types outputs callee callee_bare c.assume (scope_of c.body names) (below Assume here) (λ q. refl)) (told_bare p types outputs callee callee_bare c.enforce (scope_of c.body names) (below Enforce here) (λ q. refl))))
    where
      body : List Slot
      body = slots_of_block types outputs callee c.body names own

      assumed : List Slot
      assumed = slots_told types outputs callee c.assume (scope_of c.body names) (below Assume here)

      enforced : List Slot
      enforced = slots_told types outputs callee c.enforce (scope_of c.body names) (below Enforce here)

      by : (b : Block) → HasOne v (lasts_slots types (locals_of b) own) → HasOne v (slots_of_block types outputs callee b names own)
      by (block ds es) k = block_one ds es names k

  node_one : (n : Node) (c : Contract) (seen : Scope) → n.contract ≡ Some c → HasOne v (lasts_slots types (locals_of c.body) own)
      → HasOne v (row_slots input n.inputs (below Inputs here)
      ++ (lasts_slots types n.outputs here ++ (row_slots control (controls_of n.contract) (below Controls here) ++ (slots_of_contract types outputs callee n.contract seen here ++ slots_of_block types outputs callee n.body (typed_in (controls_of n.contract) seen) (below Body here)))))
  node_one n c seen e h =
      let body = slots_of_block types outputs callee n.body (typed_in (controls_of n.contract) seen) (below Body here) in
      let contract = slots_of_contract types outputs callee n.contract seen here in
      let controls = row_slots control (controls_of n.contract) (below Controls here) in
      let lasts = lasts_slots types n.outputs here in
      one_behind (row_slots input n.inputs (below Inputs here)) (lasts ++ (controls ++ (contract ++ body))) (inputs_bare p n.inputs (below Inputs here))
      (one_behind lasts (controls ++ (contract ++ body)) (lasts_bare p types n.outputs here (λ x. refl))
      (one_behind controls (contract ++ body) (controls_bare p (controls_of n.contract) (below Controls here))
      (one_front contract body (contract_one n.contract c seen e h) (block_bare p types outputs callee callee_bare n.body (typed_in (controls_of n.contract) seen) (below Body here) (λ q. refl)))))

node_has_one : (program : List Item) (n : Node) (c : Contract) (v : List ℕ) → n.contract ≡ Some c → HasOne v (lasts_slots (types_of program) (locals_of c.body) own) → at_place (place_of v) (registers program n) ≡ (place_of v, truth) ∷ []
node_has_one program n c v e h =
    let types = types_of program in
    let named : List ℕ → Option Node = λ f. node_among (reverse program) f in
    node_one types (λ f. decls_by (named f)) (λ f w. callee_slots types (named f) w) v (λ f w a. part_bare (place_of v) types (named f) w a) n c (typed_in n.inputs (typed_in n.outputs untyped)) e h

-- ---- accepted programs

each_found : (P : Node → Type 0) (items : List Item) (f : List ℕ) (n : Node) → EachNode P items → node_among items f ≡ Some n → P n
each_found P [] f n h e = absurd cc
each_found P (TypeItem t ∷ items) f n h e = each_found P items f n h e
each_found P (NodeItem m ∷ items) f n h e = by (bytes_eq m.name f) e (each_found P items f n h.1)
  where
    by : (b : Bool) → (if b then Some m else node_among items f) ≡ Some n → (node_among items f ≡ Some n → P n) → P n
    by true k r = subst P (some_is m n k) h.0
    by false k r = r k

scoped_nodes : (items : List Item) → EachNode (λ n. NodeScoped n × NodeNamed n × NamesDeclared n) items → EachNode NodeScoped items
scoped_nodes [] h = tt
scoped_nodes (TypeItem t ∷ items) h = scoped_nodes items h
scoped_nodes (NodeItem n ∷ items) h = (h.0.0, scoped_nodes items h.1)

-- each node of an accepted program declares its names once
scoped_node : (program after : List Item) (f : List ℕ) (n : Node) → IsReady program after → node_among (reverse after) f ≡ Some n → NodeScoped n
scoped_node program after f n r e =
    let before = scoped_nodes (replaced program) (judged_replaced program r.named r.typed r.defined r.limits r.merges r.names r.calls) in
    let has : HasClocks n = each_found HasClocks (reverse after) f n (each_reverse HasClocks after (clocked (replaced program) after before r.clocks)) e in
    has.scoped

module _ (types : List TypeDecl) (among : List ℕ → Option Node) (s : Scopes.Scope) (lasts : Lasts) (seen : Names) (v : List ℕ) (b : Bool) where
  block_declares : (d : Block) → BlockSound types among s lasts d → BlockScoped seen no_names d → last_among (locals_of d) v ≡ Some (constant.B b) → HasOne v (lasts_slots types (locals_of d) own)
  block_declares (block ds es) h o l = declared_one types among (with_variables s ds) es v b ds h.0 o.0 l

  contract_declares : (o : Option Contract) (c : Contract) → o ≡ Some c → ContractSound types among s lasts o → ContractScoped seen o → last_among (locals_of c.body) v ≡ Some (constant.B b) → HasOne v (lasts_slots types (locals_of c.body) own)
  contract_declares o c e h k l = block_declares c.body (subst (ContractSound types among s lasts) e h).0 (subst (ContractScoped seen) e k) l

pub one_bit_law : OneBitLaw
one_bit_law text tokens program after ranks a f c h m k =
    let kept = kept_law text tokens program after ranks a f c h m k in
    let d = kept.0 in
    let n = kept.1.node in
    let r = ready text tokens program after ranks a in
    let class = accepted program after r in
    let there = found_node (types_of after) true class.0 (reverse after) f n class.1 kept.1.is_node in
    let sound = there.accepted.sound in
    let by = keeps_by d.body m kept.2 in
    let one = contract_declares (types_of after) (node_among there.others) (inside_node (scope_behind there.others) n) (lasts_in n.outputs no_lasts) (interface n) (variable_of m) (first_of m) n.contract d kept.1.has sound.1.1.1.1.1
    (scoped_node program after f n r kept.1.is_node).contract by.1.remembers.begins in
    record { node = n; is_node = kept.1.is_node; register = node_has_one after n d (variable_of m) kept.1.has one }
