-- Among the slots of a block no inputs stand, so the flags of its free places say which of these are early; nor do they behind the inputs of a node.
use Rattle.std.proofs.Common.{◌≡◌, ℕ, Bool, true, false, if◌then◌else◌, List, [], ◌∷◌, ◌++◌, reverse, Option, None, Some, refl, sym, ap, ◌∙◌}
use Rattle.std.specs.Prelude.{⊤, ◌&&◌}
use Rattle.std.proofs.lemmas.List.{append_cancel_left}
use Rattle.hp_base.specs.declared.ty.Const.{Const}
use Rattle.hp_base.specs.declared.ty.Ty.{Ty}
use Rattle.hp_base.specs.declared.ty.Ty.TheVariants as ty
use Rattle.hp_tree.specs.declared.block.Trans.{Trans}
use Rattle.hp_tree.specs.Expressions.{Expr, constant, variable, last_of, one, two, choose, pre, fby, arrow, when_is, merge, call, Exprs, no_expr, more_exprs, Parts, no_part, more_parts}
use Rattle.hp_tree.specs.Blocks.{Decl, Block, block, Eqns, no_eqn, more_eqns, Eqn, define, switch, reset, automaton, Arms, no_arm, more_arms, States, no_state, more_states}
use Rattle.hp_tree.specs.Programs.{Contract, Node, TypeDecl}
use Rattle.hp_tree.specs.declared.program.Item.{Item}
use Rattle.hp_tree.specs.Meaning.{controls_of, node_among, types_of}
use Rattle.hp_tree.specs.Reaction.{Each}
use Rattle.hp_tree.specs.Operators.{is_comparison}
use Rattle.hp_tree.specs.ExpressionTypes.{Scope, typed_in, scope_of, type_of, untyped}
use Rattle.hp_tree.specs.Instant.{Assume, Body, Controls, Enforce, Inputs, Observer, Equations, Head, Tail, Right, Test, Arms as ArmsOf, States as StatesOf, Until, Unless, First, Second, Third, Args, Instance, Place}
use Rattle.hp_meaning.specs.Contract.FreePlaces.{declared_outputs}
use Rattle.hp_meaning.specs.Contract.Slots.{Slot, register, free, input, control, FreePlace, callee_slots, free_among, free_places, slots_of_contract, slots_of_node, is_int, slots, slots_of_all, slots_of_parts, slots_of_conditions, slots_of_block, slots_of_equations, slots_of_equation, slots_of_arms, slots_of_states}
use Rattle.law_automata.specs.Lowered.Standing.{Along}
use Rattle.law_equations.specs.Flattened.Flatten.{Prefix, below}
use Rattle.hp_watch.specs.declared.watching.Free.{Free}
use Rattle.law_choices.specs.Playing.Mirrored.{early_flags}
use Rattle.law_games.specs.Mirror.Mirrored.{late_among}
use Rattle.law_games.proofs.MirrorLemmas.Realised.{slots_told}
use Rattle.law_games.proofs.MirrorLemmas.SlotLists.{late_joined}
use Rattle.law_choices.specs.Playing.Inputs.{places_in_row}
use Rattle.law_choices.proofs.PlacesLemmas.Slots.{lasts_slots, outputs_slots}
use Rattle.law_choices.proofs.PlayingLemmas.Inputs.{free-append, row, row-free, row_of_slots, slot_of}

-- none of the slots is an input
abbrev pub HasNoInput : List Slot → Type 0
HasNoInput [] = ⊤
HasNoInput (input p t ∷ ss) = ⊥
HasNoInput (register p k ∷ ss) = HasNoInput ss
HasNoInput (free p t ∷ ss) = HasNoInput ss
HasNoInput (control p t ∷ ss) = HasNoInput ss

pub none-both : (ss ts : List Slot) → HasNoInput ss → HasNoInput ts → HasNoInput (ss ++ ts)
none-both [] ts h k = k
none-both (register p q ∷ ss) ts h k = none-both ss ts h k
none-both (free p t ∷ ss) ts h k = none-both ss ts h k
none-both (control p t ∷ ss) ts h k = none-both ss ts h k
none-both (input p t ∷ ss) ts h k = absurd h

-- What is so of free places whose place is early is so of those whose flag is set.
pub flags-kept : (early : Place → Bool) (E : Place → Type 0) (D : Free → Type 0) (ss : List Slot) (fs : List Free) → HasNoInput ss → Each (λ (q : FreePlace). early q.0 ≡ true → E q.0) (free_among ss) → Along (λ (f : Free) (q : FreePlace). E q.0 → D f) fs (free_among ss)
    → Along (λ (f : Free) (b : Bool). b ≡ true → D f) fs (early_flags early ss)
flags-kept early E D [] [] h e k = tt
flags-kept early E D [] (f ∷ fs) h e k = absurd k
flags-kept early E D (register p t ∷ ss) fs h e k = flags-kept early E D ss fs h e k
flags-kept early E D (control p t ∷ ss) fs h e k = flags-kept early E D ss fs h e k
flags-kept early E D (input p t ∷ ss) fs h e k = absurd h
flags-kept early E D (free p t ∷ ss) [] h e k = absurd k
flags-kept early E D (free p t ∷ ss) (f ∷ fs) h e k = ((λ b. k.0 (e.0 b)), flags-kept early E D ss fs h e.1 k.1)

lasts-none : (types : List TypeDecl) (ds : List Decl) (w : Prefix) → HasNoInput (lasts_slots types ds w)
lasts-none types [] w = tt
lasts-none types (d ∷ ds) w = by d.last (lasts-none types ds w)
  where
    by : (o : Option Const) → HasNoInput (lasts_slots types ds w) → HasNoInput (lasts_slots types (record d { last = o } ∷ ds) w)
    by None h = h
    by (Some c) h = h

outputs-none : (ds : List Decl) (w : Prefix) → HasNoInput (outputs_slots ds w)
outputs-none [] w = tt
outputs-none (d ∷ ds) w = by d.ty (outputs-none ds w)
  where
    by : (t : Ty) → HasNoInput (outputs_slots ds w) → HasNoInput (outputs_slots (record d { ty = t } ∷ ds) w)
    by ty.Bool h = h
    by ty.Int h = h
    by (ty.Enum x) h = h

compared-none : (b : Bool) (p : Place) → HasNoInput (if b then free p ty.Bool ∷ [] else [])
compared-none true p = tt
compared-none false p = tt

module _ (types : List TypeDecl) (outs : List ℕ → List Decl) (callee : List ℕ → Prefix → List Slot) (none : (f : List ℕ) (w : Prefix) → HasNoInput (callee f w)) where
  mutual
    expr-none : (e : Expr) (names : Scope) (w : Prefix) → HasNoInput (slots types outs callee e names w)
    expr-none (constant s c) names w = tt
    expr-none (variable s x) names w = tt
    expr-none (last_of s x) names w = tt
    expr-none (one s o a) names w = expr-none a names (below First w)
    expr-none (two s o a b) names w =
        none-both (if is_comparison o && is_int (type_of types outs a names) then free (w []) ty.Bool ∷ [] else []) (slots types outs callee a names (below First w) ++ slots types outs callee b names (below Second w))
        (compared-none (is_comparison o && is_int (type_of types outs a names)) (w []))
        (none-both (slots types outs callee a names (below First w)) (slots types outs callee b names (below Second w)) (expr-none a names (below First w)) (expr-none b names (below Second w)))
    expr-none (choose s a b c) names w =
        none-both (slots types outs callee a names (below First w)) (slots types outs callee b names (below Second w) ++ slots types outs callee c names (below Third w)) (expr-none a names (below First w))
        (none-both (slots types outs callee b names (below Second w)) (slots types outs callee c names (below Third w)) (expr-none b names (below Second w)) (expr-none c names (below Third w)))
    expr-none (pre s a) names w = expr-none a names (below First w)
    expr-none (fby s a b) names w = none-both (slots types outs callee a names (below First w)) (slots types outs callee b names (below Second w)) (expr-none a names (below First w)) (expr-none b names (below Second w))
    expr-none (arrow s a b) names w = none-both (slots types outs callee a names (below First w)) (slots types outs callee b names (below Second w)) (expr-none a names (below First w)) (expr-none b names (below Second w))
    expr-none (when_is s a c x) names w = expr-none a names (below First w)
    expr-none (merge s x ps) names w = parts-none ps names (below Args w)
    expr-none (call s f inlined es) names w =
        none-both (outputs_slots (outs f) (below Instance w)) (callee f (below Instance w) ++ slots_of_all types outs callee es names (below Args w)) (outputs-none (outs f) (below Instance w))
        (none-both (callee f (below Instance w)) (slots_of_all types outs callee es names (below Args w)) (none f (below Instance w)) (all-none es names (below Args w)))

    all-none : (es : Exprs) (names : Scope) (w : Prefix) → HasNoInput (slots_of_all types outs callee es names w)
    all-none no_expr names w = tt
    all-none (more_exprs e es) names w = none-both (slots types outs callee e names (below Head w)) (slots_of_all types outs callee es names (below Tail w)) (expr-none e names (below Head w)) (all-none es names (below Tail w))

    parts-none : (ps : Parts) (names : Scope) (w : Prefix) → HasNoInput (slots_of_parts types outs callee ps names w)
    parts-none no_part names w = tt
    parts-none (more_parts c e ps) names w = none-both (slots types outs callee e names (below Head w)) (slots_of_parts types outs callee ps names (below Tail w)) (expr-none e names (below Head w)) (parts-none ps names (below Tail w))

  conditions-none : (ts : List Trans) (names : Scope) (w : Prefix) → HasNoInput (slots_of_conditions types outs callee ts names w)
  conditions-none [] names w = tt
  conditions-none (t ∷ ts) names w = none-both (slots types outs callee t.cond names (below Head w)) (slots_of_conditions types outs callee ts names (below Tail w)) (expr-none t.cond names (below Head w)) (conditions-none ts names (below Tail w))

  mutual
    pub block-none : (b : Block) (names : Scope) (w : Prefix) → HasNoInput (slots_of_block types outs callee b names w)
    block-none (block ds es) names w = none-both (lasts_slots types ds w) (slots_of_equations types outs callee es (typed_in ds names) (below Equations w)) (lasts-none types ds w) (eqns-none es (typed_in ds names) (below Equations w))

    eqns-none : (es : Eqns) (names : Scope) (w : Prefix) → HasNoInput (slots_of_equations types outs callee es names w)
    eqns-none no_eqn names w = tt
    eqns-none (more_eqns e es) names w = none-both (slots_of_equation types outs callee e names (below Head w)) (slots_of_equations types outs callee es names (below Tail w)) (eqn-none e names (below Head w)) (eqns-none es names (below Tail w))

    eqn-none : (e : Eqn) (names : Scope) (w : Prefix) → HasNoInput (slots_of_equation types outs callee e names w)
    eqn-none (define s ys e) names w = expr-none e names (below Right w)
    eqn-none (switch s e arms) names w = none-both (slots types outs callee e names (below Test w)) (slots_of_arms types outs callee arms names (below ArmsOf w)) (expr-none e names (below Test w)) (arms-none arms names (below ArmsOf w))
    eqn-none (reset s b e) names w = none-both (slots_of_block types outs callee b names (below Body w)) (slots types outs callee e names (below Test w)) (block-none b names (below Body w)) (expr-none e names (below Test w))
    eqn-none (automaton s ss) names w = states-none ss names (below StatesOf w)

    arms-none : (arms : Arms) (names : Scope) (w : Prefix) → HasNoInput (slots_of_arms types outs callee arms names w)
    arms-none no_arm names w = tt
    arms-none (more_arms c b s arms) names w = none-both (slots_of_block types outs callee b names (below Head w)) (slots_of_arms types outs callee arms names (below Tail w)) (block-none b names (below Head w)) (arms-none arms names (below Tail w))

    states-none : (ss : States) (names : Scope) (w : Prefix) → HasNoInput (slots_of_states types outs callee ss names w)
    states-none no_state names w = tt
    states-none (more_states f b until unless s ss) names w =
        let A = slots_of_block types outs callee b names (below Body (below Head w)) in
        let C = slots_of_conditions types outs callee until (scope_of b names) (below Until (below Head w)) in
        let D = slots_of_conditions types outs callee unless names (below Unless (below Head w)) in
        let M = slots_of_states types outs callee ss names (below Tail w) in
        none-both A (C ++ (D ++ M)) (block-none b names (below Body (below Head w)))
        (none-both C (D ++ M) (conditions-none until (scope_of b names) (below Until (below Head w))) (none-both D M (conditions-none unless names (below Unless (below Head w))) (states-none ss names (below Tail w))))

  told-none : (o : Option Expr) (names : Scope) (w : Prefix) → HasNoInput (slots_told types outs callee o names w)
  told-none None names w = tt
  told-none (Some e) names w = expr-none e names w

  pub contract-none : (o : Option Contract) (names : Scope) (w : Prefix) → HasNoInput (slots_of_contract types outs callee o names w)
  contract-none None names w = tt
  contract-none (Some c) names w =
      let A = slots_told types outs callee c.assume (scope_of c.body names) (below Assume w) in
      let E = slots_told types outs callee c.enforce (scope_of c.body names) (below Enforce w) in
      none-both (slots_of_block types outs callee c.body names (below Observer w)) (A ++ E) (block-none c.body names (below Observer w)) (none-both A E (told-none c.assume (scope_of c.body names) (below Assume w)) (told-none c.enforce (scope_of c.body names) (below Enforce w)))

-- ---- a node

pub callee-none : (types : List TypeDecl) (o : Option Node) (w : Prefix) → HasNoInput (callee_slots types o w)
callee-none types None w = tt
callee-none types (Some n) w = by n.contract
  where
    by : (o : Option Contract) → HasNoInput (callee_slots types (Some (record n { contract = o })) w)
    by None = tt
    by (Some c) =
        let K = slots_of_contract types (λ f. []) (λ f w. []) (Some c) (typed_in n.inputs (typed_in n.outputs untyped)) w in
        none-both (lasts_slots types n.outputs w) K (lasts-none types n.outputs w) (contract-none types (λ f. []) (λ f w. []) (λ f w. tt) (Some c) (typed_in n.inputs (typed_in n.outputs untyped)) w)

controls-none : (ds : List Decl) (w : Prefix) → HasNoInput (row_of_slots control ds w)
controls-none [] w = tt
controls-none (d ∷ ds) w = by d.ty (controls-none ds (below Tail w))
  where
    by : (t : Ty) → HasNoInput (row_of_slots control ds (below Tail w)) → HasNoInput (slot_of control (w (Head ∷ [])) t ++ row_of_slots control ds (below Tail w))
    by ty.Bool h = h
    by ty.Int h = h
    by (ty.Enum x) h = h

-- where nothing is early, what is late are the free places that are no inputs
late-free : (ss : List Slot) → HasNoInput ss → late_among (λ p. false) ss ≡ free_among ss
late-free [] h = refl
late-free (register p k ∷ ss) h = late-free ss h
late-free (free p t ∷ ss) h = ap (λ qs. (p, t) ∷ qs) (late-free ss h)
late-free (control p t ∷ ss) h = late-free ss h
late-free (input p t ∷ ss) h = absurd h

row-late : (ds : List Decl) (w : Prefix) → late_among (λ p. false) (row ds w) ≡ []
row-late [] w = refl
row-late (d ∷ ds) w = by d.ty (row-late ds (below Tail w))
  where
    by : (t : Ty) → late_among (λ p. false) (row ds (below Tail w)) ≡ [] → late_among (λ p. false) (slot_of input (w (Head ∷ [])) t ++ row ds (below Tail w)) ≡ []
    by ty.Bool h = h
    by ty.Int h = h
    by (ty.Enum x) h = h

pub late-places : (program : List Item) (n : Node) (qs : List FreePlace) → free_places program n ≡ places_in_row n.inputs (below Inputs (λ p. p)) ++ qs → late_among (λ p. false) (slots_of_node program n) ≡ qs
late-places program n qs are =
    let types = types_of program in
    let outs = λ (f : List ℕ). declared_outputs (node_among (reverse program) f) in
    let callee = λ (f : List ℕ) (w : Prefix). callee_slots types (node_among (reverse program) f) w in
    let here : Prefix = λ p. p in
    let around = typed_in n.inputs (typed_in n.outputs untyped) in
    let I = row n.inputs (below Inputs here) in
    let L = lasts_slots types n.outputs here in
    let C = row_of_slots control (controls_of n.contract) (below Controls here) in
    let K = slots_of_contract types outs callee n.contract around here in
    let B = slots_of_block types outs callee n.body (typed_in (controls_of n.contract) around) (below Body here) in
    let rest = L ++ (C ++ (K ++ B)) in
    let none = λ (f : List ℕ) (w : Prefix). callee-none types (node_among (reverse program) f) w in
    let no_input : HasNoInput rest =
    none-both L (C ++ (K ++ B)) (lasts-none types n.outputs here) (none-both C (K ++ B) (controls-none (controls_of n.contract) (below Controls here))
    (none-both K B (contract-none types outs callee none n.contract around here) (block-none types outs callee none n.body (typed_in (controls_of n.contract) around) (below Body here)))) in
    let places = places_in_row n.inputs (below Inputs here) in
    let free : places ++ free_among rest ≡ places ++ qs = sym (free-append I rest ∙ ap (λ xs. xs ++ free_among rest) (row-free n.inputs (below Inputs here))) ∙ are in
    late_joined (λ p. false) I rest ∙ ap (λ xs. xs ++ late_among (λ p. false) rest) (row-late n.inputs (below Inputs here)) ∙ late-free rest no_input ∙ append_cancel_left places (free_among rest) qs free
