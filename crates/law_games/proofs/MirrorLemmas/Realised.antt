-- For all values of the free places of a part of a node there is what is given for the part: it fits, has these values at the places, and at each `pre` what its register holds at the start.
-- Source: own. What is given is made part by part, so that places are apart shows by itself; the outputs of a call are apart by their names.
use Rattle.std.proofs.Common.{◌≡◌, ℕ, List, [], ◌∷◌, ◌++◌, refl, sym, ap, ap₂, subst, ◌∙◌, append_assoc}
use Rattle.std.specs.Prelude.{Bool, true, false, ◌&&◌, if◌then◌else◌, Option, None, Some, ⊤}
use Rattle.hp_base.specs.declared.ty.Const.{Const}
use Rattle.hp_base.specs.declared.ty.Ty.{Ty}
use Rattle.hp_base.specs.declared.ty.Ty.TheVariants as ty
use Rattle.hp_base.specs.declared.value.Value.{Value}
use Rattle.hp_base.specs.declared.value.Value.TheVariants.{Absent, B}
use Rattle.hp_tree.specs.declared.block.Trans.{Trans}
use Rattle.hp_tree.specs.declared.expr.Op2.{Op2}
use Rattle.hp_tree.specs.Expressions.{Expr, constant, variable, last_of, one, two, choose, pre, fby, arrow, when_is, merge, call, Exprs, no_expr, more_exprs, Parts, no_part, more_parts}
use Rattle.hp_tree.specs.Blocks.{Decl, Block, block, Eqns, no_eqn, more_eqns, Eqn, define, switch, reset, automaton, Arms, no_arm, more_arms, States, no_state, more_states}
use Rattle.hp_tree.specs.Programs.{TypeDecl, Contract}
use Rattle.hp_tree.specs.Operators.{is_comparison}
use Rattle.hp_tree.specs.ExpressionTypes.{Scope as Types, typed_in, scope_of, type_of as typed_of}
use Rattle.hp_tree.specs.Instant.{Body, Observer, Assume, Enforce, Named, Equations, Head, Tail, Right, Test, Arms as ArmsOf, States as StatesOf, Until, Unless, First, Second, Third, Args, Instance, Place, Instant, part, nothing, alone, with_one, with_two, with_three, of_two, in_right, with_arms, with_body, in_state, with_words, in_observer}
use Rattle.hp_tree.specs.Values.{IsOf}
use Rattle.hp_meaning.specs.Causal.Sources.{below}
use Rattle.hp_typing.specs.Scopes.{with_variables, inside as into}
use Rattle.hp_typing.specs.Types.{type_of}
use Rattle.law_judged.specs.Typed.Scopes.{Scope}
use Rattle.hp_meaning.specs.Contract.Slots.{Slot, register, free, is_int, shape_of, slots, slots_of_all, slots_of_parts, slots_of_conditions, slots_of_block, slots_of_equations, slots_of_equation, slots_of_arms, slots_of_states, slots_of_contract}
use Rattle.law_games.specs.Wires.Wired.{Callees, Fills, FillsAll, FillsParts}
use Rattle.law_games.specs.Wires.WiredBlocks.{FillsConditions, FillsBlock, FillsEquations, FillsEquation, FillsArms, FillsStates}
use Rattle.law_games.specs.Wires.WiredNodes.{FillsTold, FillsObserver}
use Rattle.law_games.specs.Wiretyped.Typed.{IsFlag}
use Rattle.law_games.specs.Wiretyped.Kept.{ComparisonGiven, ExprGiven, ExprsGiven, PartsGiven, TestsGiven, BlockGiven, EqnsGiven, EqnGiven, ArmsGiven, StatesGiven, ToldGiven, ContractGiven}
use Rattle.law_games.specs.Mirror.Mirrored.{early_among, late_among}
use Rattle.law_games.proofs.MirrorLemmas.SlotLists.{values_at, AreValues, split, values_joined, early_joined, late_joined, OnlyFree, only_joined}

-- Of a whole: it has what is given at some places, and so at those of a contract.
abbrev pub Under : (Place → Place) → Instant → Instant → Type 0
Under w root i = (p : Place) → root (w p) ≡ i p

abbrev pub Told : (Place → Place) → Instant → Instant → Type 0
Told w root i = ((p : Place) → root (w (Assume ∷ p)) ≡ i (Assume ∷ p)) × ((p : Place) → root (w (Enforce ∷ p)) ≡ i (Enforce ∷ p))

abbrev pub Observers : (Place → Place) → Instant → Instant → Type 0
Observers w root i = ((p : Place) → root (w (Observer ∷ p)) ≡ i (Observer ∷ p)) × Told w root i

-- the slots of `last` variables, of what is told and of outputs, as those of a node have them
abbrev pub lasts_slots : List TypeDecl → List Decl → (Place → Place) → List Slot
lasts_slots types [] w = []
lasts_slots types (d ∷ ds) w = (elim d.last [ None ↦ [] | Some c ↦ register (w (Named d.name ∷ [])) (shape_of types d.ty) ∷ [] ]) ++ lasts_slots types ds w

abbrev pub slots_told : List TypeDecl → (List ℕ → List Decl) → (List ℕ → (Place → Place) → List Slot) → Option Expr → Types → (Place → Place) → List Slot
slots_told types outputs called None names w = []
slots_told types outputs called (Some e) names w = slots types outputs called e names w

abbrev pub free_of : Place → Ty → List Slot
free_of p ty.Int = []
free_of p t = free p t ∷ []

abbrev pub outputs_slots : List Decl → (Place → Place) → List Slot
outputs_slots [] w = []
outputs_slots (d ∷ ds) w = free_of (w (Named d.name ∷ [])) d.ty ++ outputs_slots ds w

module _ (types : List TypeDecl) (early : Place → Bool) where
  -- For all values at these slots there is an instant of a kind, such that what is over it has the values.
  abbrev pub Realised : List Slot → (Instant → Instant → Type 0) → (Instant → Type 0) → Type 0
  Realised ss Over P =
      OnlyFree ss
      × ((vs ws : List Value) → AreValues types (early_among early ss) vs → AreValues types (late_among early ss) ws
      → (i : Instant) × P i × ((root : Instant) → Over root i → (values_at (early_among early ss) root ≡ vs) × (values_at (late_among early ss) root ≡ ws)))

  pub none : (Over : Instant → Instant → Type 0) (P : Instant → Type 0) (i : Instant) → P i → Realised [] Over P
  none Over P i p = (tt, λ vs ws hv hw. (i, p, λ root o. (sym (empty vs hv), sym (empty ws hw))))
    where
      empty : (vs : List Value) → AreValues types [] vs → vs ≡ []
      empty [] h = refl
      empty (v ∷ vs) h = absurd h

  -- one behind the other
  pub join : (ss ts : List Slot) (O1 O2 Over : Instant → Instant → Type 0) (P Q R : Instant → Type 0) → Realised ss O1 P → Realised ts O2 Q → (build : Instant → Instant → Instant)
      → ((root i j : Instant) → Over root (build i j) → O1 root i × O2 root j) → ((i j : Instant) → P i → Q j → R (build i j)) → Realised (ss ++ ts) Over R
  join ss ts O1 O2 Over P Q R r s build over has = (
    only_joined ss ts r.0 s.0,
    λ vs ws hv hw.
        let sv = split types (early_among early ss) (early_among early ts) vs (subst (λ ps. AreValues types ps vs) (early_joined early ss ts) hv) in
        let sw = split types (late_among early ss) (late_among early ts) ws (subst (λ ps. AreValues types ps ws) (late_joined early ss ts) hw) in
        let x = r.1 sv.0 sw.0 sv.2 sw.2 in
        let y = s.1 sv.1 sw.1 sv.3 sw.3 in (
          build x.0 y.0,
          has x.0 y.0 x.1 y.1,
          λ root o.
              let both = over root x.0 y.0 o in
              let a = x.2 root both.0 in
              let b = y.2 root both.1 in (
                ap (λ ps. values_at ps root) (early_joined early ss ts) ∙ values_joined (early_among early ss) (early_among early ts) root ∙ ap₂ (λ p q. p ++ q) a.0 b.0 ∙ sym sv.4,
                ap (λ ps. values_at ps root) (late_joined early ss ts) ∙ values_joined (late_among early ss) (late_among early ts) root ∙ ap₂ (λ p q. p ++ q) a.1 b.1 ∙ sym sw.4,
              ),
        ),
  )

  -- the same of a part
  inside : (ss : List Slot) (O1 Over : Instant → Instant → Type 0) (P R : Instant → Type 0) → Realised ss O1 P → (build : Instant → Instant) → ((root i : Instant) → Over root (build i) → O1 root i) → ((i : Instant) → P i → R (build i)) → Realised ss Over R
  inside ss O1 Over P R r build over has = (r.0, λ vs ws hv hw. let x = r.1 vs ws hv hw in (build x.0, has x.0 x.1, λ root o. x.2 root (over root x.0 o)))

  -- one free place
  pub single : (q : Place) (t : Ty) → Realised (free q t ∷ []) (λ root i. root q ≡ i []) (λ i. IsOf types t (i []))
  single q t = (tt, λ vs ws hv hw. by (early q) vs ws hv hw)
    where
      one_of : (vs : List Value) → AreValues types ((q, t) ∷ []) vs → (v : Value) × IsOf types t v × (vs ≡ v ∷ [])
      one_of [] h = absurd h
      one_of (v ∷ []) h = (v, h.0, refl)
      one_of (v ∷ w ∷ vs) h = absurd h.1

      no_one : (vs : List Value) → AreValues types [] vs → vs ≡ []
      no_one [] h = refl
      no_one (v ∷ vs) h = absurd h

      by : (b : Bool) (vs ws : List Value) → AreValues types (if b then (q, t) ∷ [] else []) vs → AreValues types (if b then [] else (q, t) ∷ []) ws
          → (i : Instant) × IsOf types t (i []) × ((root : Instant) → root q ≡ i [] → (values_at (if b then (q, t) ∷ [] else []) root ≡ vs) × (values_at (if b then [] else (q, t) ∷ []) root ≡ ws))
      by true vs ws hv hw = let x = one_of vs hv in (alone x.0, x.1, λ root o. (ap (λ v. v ∷ []) o ∙ sym x.2, sym (no_one ws hw)))
      by false vs ws hv hw = let x = one_of ws hw in (alone x.0, x.1, λ root o. (sym (no_one vs hv), ap (λ v. v ∷ []) o ∙ sym x.2))

  -- `last` variables are registers
  pub lasts : (ds : List Decl) (w : Place → Place) → Realised (lasts_slots types ds w) (λ root i. ⊤) (λ i. ⊤)
  lasts [] w = none (λ root i. ⊤) (λ i. ⊤) nothing tt
  lasts (d ∷ ds) w =
      join (elim d.last [ None ↦ [] | Some c ↦ register (w (Named d.name ∷ [])) (shape_of types d.ty) ∷ [] ]) (lasts_slots types ds w) (λ root i. ⊤) (λ root i. ⊤) (λ root i. ⊤) (λ i. ⊤) (λ i. ⊤) (λ i. ⊤)
      (by d.last) (lasts ds w) (λ i j. nothing) (λ root i j h. (tt, tt)) (λ i j g k. tt)
    where
      by : (o : Option Const) → Realised (elim o [ None ↦ [] | Some c ↦ register (w (Named d.name ∷ [])) (shape_of types d.ty) ∷ [] ]) (λ root i. ⊤) (λ i. ⊤)
      by None = none (λ root i. ⊤) (λ i. ⊤) nothing tt
      by (Some c) = none (λ root i. ⊤) (λ i. ⊤) nothing tt

  flag : (v : Value) → IsOf types ty.Bool v → IsFlag v
  flag (B b) h = (b, refl)
  flag v h = absurd h

  compared : (o : Op2) (t : Option Ty) (v : Value) → IsOf types ty.Bool v → ComparisonGiven o t v
  compared o None v h = tt
  compared o (Some ty.Bool) v h = tt
  compared o (Some ty.Int) v h = λ c. flag v h
  compared o (Some (ty.Enum t)) v h = tt

  -- a comparison of integers is free, and else nothing is asked
  if_free : (b : Bool) (q : Place) → Realised (if b then free q ty.Bool ∷ [] else []) (λ root i. root q ≡ i []) (λ i. IsOf types ty.Bool (i []))
  if_free true q = single q ty.Bool
  if_free false q = none (λ root i. root q ≡ i []) (λ i. IsOf types ty.Bool (i [])) (alone (B true)) tt

  -- with another value at the top
  abbrev topped : Value → Instant → Instant
  topped v i [] = v
  topped v i p = i p

  abbrev in_args : Instant → Instant → Instant
  in_args i j (Args ∷ p) = i p
  in_args i j (Instance ∷ p) = j p
  in_args i j p = Absent

  module _ (C : Callees) (start : Instant) (outputs : List ℕ → List Decl) (called : List ℕ → (Place → Place) → List Slot) (Given : List ℕ → Instant → Type 0)
      (calls : (f : List ℕ) (w : Place → Place) → Realised (outputs_slots (outputs f) w ++ called f w) (Under w) (λ i. Given f i × C.fills f (λ p. start (w p)) i)) where
    -- what is given for an instance
    abbrev Called : List ℕ → (Place → Place) → Instant → Type 0
    Called f w i = Given f i × C.fills f (λ p. start (w p)) i

    abbrev OfExpr : Expr → (Place → Place) → Instant → Type 0
    OfExpr e w i = ((s : Scope) → ExprGiven types Given s e i) × Fills types C e (λ p. start (w p)) i

    abbrev OfExprs : Exprs → (Place → Place) → Instant → Type 0
    OfExprs es w i = ((s : Scope) → ExprsGiven types Given s es i) × FillsAll types C es (λ p. start (w p)) i

    abbrev OfParts : Parts → (Place → Place) → Instant → Type 0
    OfParts ps w i = ((s : Scope) → PartsGiven types Given s ps i) × FillsParts types C ps (λ p. start (w p)) i

    -- two operands, with something at the top
    abbrev Operands : (Place → Place) → Instant → Instant → Type 0
    Operands w root i = ((p : Place) → root (w (First ∷ p)) ≡ i (First ∷ p)) × ((p : Place) → root (w (Second ∷ p)) ≡ i (Second ∷ p))

    operands : (a b : Expr) (ss ts : List Slot) (w : Place → Place) → Realised ss (Under (below First w)) (OfExpr a (below First w)) → Realised ts (Under (below Second w)) (OfExpr b (below Second w))
        → Realised (ss ++ ts) (Operands w) (λ i. OfExpr a (below First w) (part First i) × OfExpr b (below Second w) (part Second i))
    operands a b ss ts w r k =
        join ss ts (Under (below First w)) (Under (below Second w)) (Operands w) (OfExpr a (below First w)) (OfExpr b (below Second w)) (λ i. OfExpr a (below First w) (part First i) × OfExpr b (below Second w) (part Second i)) r k
        (λ i j. with_two Absent i j) (λ root i j h. h) (λ i j g k. (g, k))

    mutual
      pub expr : (e : Expr) (names : Types) (w : Place → Place) → Realised (slots types outputs called e names w) (Under w) (OfExpr e w)
      expr (constant at c) names w = none (Under w) (OfExpr (constant at c) w) nothing ((λ s. tt), tt)
      expr (variable at x) names w = none (Under w) (OfExpr (variable at x) w) nothing ((λ s. tt), tt)
      expr (last_of at x) names w = none (Under w) (OfExpr (last_of at x) w) nothing ((λ s. tt), tt)
      expr (one at o a) names w =
          inside (slots types outputs called a names (below First w)) (Under (below First w)) (Under w) (OfExpr a (below First w)) (OfExpr (one at o a) w) (expr a names (below First w)) (λ i. with_one Absent i) (λ root i h p. h (First ∷ p)) (λ i g. g)
      expr (two at o a b) names w =
          join (if is_comparison o && is_int (typed_of types outputs a names) then free (w []) ty.Bool ∷ [] else []) (slots types outputs called a names (below First w) ++ slots types outputs called b names (below Second w))
          (λ root i. root (w []) ≡ i []) (Operands w) (Under w) (λ i. IsOf types ty.Bool (i [])) (λ i. OfExpr a (below First w) (part First i) × OfExpr b (below Second w) (part Second i)) (OfExpr (two at o a b) w)
          (if_free (is_comparison o && is_int (typed_of types outputs a names)) (w []))
          (operands a b (slots types outputs called a names (below First w)) (slots types outputs called b names (below Second w)) w (expr a names (below First w)) (expr b names (below Second w)))
          (λ i j. topped (i []) j)
          (λ root i j h. (h [], ((λ p. h (First ∷ p)), (λ p. h (Second ∷ p)))))
          (λ i j h k. ((λ s. (compared o (type_of s a) (i []) h, (k.0.0 s, k.1.0 s))), (k.0.1, k.1.1)))
      expr (choose at a b c) names w =
          join (slots types outputs called a names (below First w)) (slots types outputs called b names (below Second w) ++ slots types outputs called c names (below Third w))
          (Under (below First w)) (λ root i. ((p : Place) → root (w (Second ∷ p)) ≡ i (Second ∷ p)) × ((p : Place) → root (w (Third ∷ p)) ≡ i (Third ∷ p))) (Under w)
          (OfExpr a (below First w)) (λ i. OfExpr b (below Second w) (part Second i) × OfExpr c (below Third w) (part Third i)) (OfExpr (choose at a b c) w)
          (expr a names (below First w))
          (join (slots types outputs called b names (below Second w)) (slots types outputs called c names (below Third w))
          (Under (below Second w)) (Under (below Third w)) (λ root i. ((p : Place) → root (w (Second ∷ p)) ≡ i (Second ∷ p)) × ((p : Place) → root (w (Third ∷ p)) ≡ i (Third ∷ p)))
          (OfExpr b (below Second w)) (OfExpr c (below Third w)) (λ i. OfExpr b (below Second w) (part Second i) × OfExpr c (below Third w) (part Third i))
          (expr b names (below Second w)) (expr c names (below Third w)) (λ i j. with_three Absent nothing i j) (λ root i j h. h) (λ i j g k. (g, k)))
          (λ i j. with_three Absent i (part Second j) (part Third j))
          (λ root i j h. ((λ p. h (First ∷ p)), ((λ p. h (Second ∷ p)), (λ p. h (Third ∷ p)))))
          (λ i j g k. ((λ s. (g.0 s, (k.0.0 s, k.1.0 s))), (g.1, k.0.1, k.1.1)))
      expr (pre at a) names w =
          inside (slots types outputs called a names (below First w)) (Under (below First w)) (Under w) (OfExpr a (below First w)) (OfExpr (pre at a) w) (expr a names (below First w)) (λ i. with_one (start (w [])) i) (λ root i h p. h (First ∷ p)) (λ i g. (g.0, (refl, g.1)))
      expr (fby at a b) names w =
          inside (slots types outputs called a names (below First w) ++ slots types outputs called b names (below Second w)) (Operands w) (Under w) (λ i. OfExpr a (below First w) (part First i) × OfExpr b (below Second w) (part Second i)) (OfExpr (fby at a b) w) (operands a b (slots types outputs called a names (below First w)) (slots types outputs called b names (below Second w)) w (expr a names (below First w)) (expr b names (below Second w))) (λ i. i)
          (λ root i h. ((λ p. h (First ∷ p)), (λ p. h (Second ∷ p)))) (λ i g. ((λ s. (g.0.0 s, g.1.0 s)), (g.0.1, g.1.1)))
      expr (arrow at a b) names w =
          inside (slots types outputs called a names (below First w) ++ slots types outputs called b names (below Second w)) (Operands w) (Under w) (λ i. OfExpr a (below First w) (part First i) × OfExpr b (below Second w) (part Second i)) (OfExpr (arrow at a b) w) (operands a b (slots types outputs called a names (below First w)) (slots types outputs called b names (below Second w)) w (expr a names (below First w)) (expr b names (below Second w))) (λ i. i)
          (λ root i h. ((λ p. h (First ∷ p)), (λ p. h (Second ∷ p)))) (λ i g. ((λ s. (g.0.0 s, g.1.0 s)), (g.0.1, g.1.1)))
      expr (when_is at a c x) names w =
          inside (slots types outputs called a names (below First w)) (Under (below First w)) (Under w) (OfExpr a (below First w)) (OfExpr (when_is at a c x) w) (expr a names (below First w)) (λ i. with_one Absent i) (λ root i h p. h (First ∷ p)) (λ i g. g)
      expr (merge at x ps) names w =
          inside (slots_of_parts types outputs called ps names (below Args w)) (Under (below Args w)) (Under w) (OfParts ps (below Args w)) (OfExpr (merge at x ps) w) (parts ps names (below Args w)) (λ i. in_args i nothing) (λ root i h p. h (Args ∷ p)) (λ i g. g)
      expr (call at f inlined es) names w =
          subst (λ ss. Realised ss (Under w) (OfExpr (call at f inlined es) w)) (append_assoc (outputs_slots (outputs f) (below Instance w)) (called f (below Instance w)) (slots_of_all types outputs called es names (below Args w)))
          (join (outputs_slots (outputs f) (below Instance w) ++ called f (below Instance w)) (slots_of_all types outputs called es names (below Args w))
          (Under (below Instance w)) (Under (below Args w)) (Under w) (Called f (below Instance w)) (OfExprs es (below Args w)) (OfExpr (call at f inlined es) w)
          (calls f (below Instance w)) (exprs es names (below Args w)) (λ i j. in_args j i) (λ root i j h. ((λ p. h (Instance ∷ p)), (λ p. h (Args ∷ p)))) (λ i j g k. ((λ s. (k.0 s, g.0)), (k.1, g.1))))

      exprs : (es : Exprs) (names : Types) (w : Place → Place) → Realised (slots_of_all types outputs called es names w) (Under w) (OfExprs es w)
      exprs no_expr names w = none (Under w) (OfExprs no_expr w) nothing ((λ s. tt), tt)
      exprs (more_exprs e es) names w =
          join (slots types outputs called e names (below Head w)) (slots_of_all types outputs called es names (below Tail w)) (Under (below Head w)) (Under (below Tail w)) (Under w) (OfExpr e (below Head w)) (OfExprs es (below Tail w)) (OfExprs (more_exprs e es) w)
          (expr e names (below Head w)) (exprs es names (below Tail w)) (λ i j. of_two i j) (λ root i j h. ((λ p. h (Head ∷ p)), (λ p. h (Tail ∷ p)))) (λ i j g k. ((λ s. (g.0 s, k.0 s)), (g.1, k.1)))

      parts : (ps : Parts) (names : Types) (w : Place → Place) → Realised (slots_of_parts types outputs called ps names w) (Under w) (OfParts ps w)
      parts no_part names w = none (Under w) (OfParts no_part w) nothing ((λ s. tt), tt)
      parts (more_parts c e ps) names w =
          join (slots types outputs called e names (below Head w)) (slots_of_parts types outputs called ps names (below Tail w)) (Under (below Head w)) (Under (below Tail w)) (Under w) (OfExpr e (below Head w)) (OfParts ps (below Tail w)) (OfParts (more_parts c e ps) w)
          (expr e names (below Head w)) (parts ps names (below Tail w)) (λ i j. of_two i j) (λ root i j h. ((λ p. h (Head ∷ p)), (λ p. h (Tail ∷ p)))) (λ i j g k. ((λ s. (g.0 s, k.0 s)), (g.1, k.1)))

    -- ---- conditions of transitions

    abbrev OfTests : List Trans → (Place → Place) → Instant → Type 0
    OfTests ts w i = ((s : Scope) → TestsGiven types Given s ts i) × FillsConditions types C ts (λ p. start (w p)) i

    tests : (ts : List Trans) (names : Types) (w : Place → Place) → Realised (slots_of_conditions types outputs called ts names w) (Under w) (OfTests ts w)
    tests [] names w = none (Under w) (OfTests [] w) nothing ((λ s. tt), tt)
    tests (t ∷ ts) names w =
        join (slots types outputs called t.cond names (below Head w)) (slots_of_conditions types outputs called ts names (below Tail w)) (Under (below Head w)) (Under (below Tail w)) (Under w) (OfExpr t.cond (below Head w)) (OfTests ts (below Tail w)) (OfTests (t ∷ ts) w)
        (expr t.cond names (below Head w)) (tests ts names (below Tail w)) (λ i j. of_two i j) (λ root i j h. ((λ p. h (Head ∷ p)), (λ p. h (Tail ∷ p)))) (λ i j g k. ((λ s. (g.0 s, k.0 s)), (g.1, k.1)))

    -- ---- blocks

    abbrev pub OfBlock : Block → (Place → Place) → Instant → Type 0
    OfBlock b w i = ((s : Scope) → BlockGiven types Given s b i) × FillsBlock types C b (λ p. start (w p)) i

    abbrev OfEqns : Eqns → (Place → Place) → Instant → Type 0
    OfEqns es w i = ((s : Scope) → EqnsGiven types Given s es i) × FillsEquations types C es (λ p. start (w p)) i

    abbrev OfEqn : Eqn → (Place → Place) → Instant → Type 0
    OfEqn e w i = ((s : Scope) → EqnGiven types Given s e i) × FillsEquation types C e (λ p. start (w p)) i

    abbrev OfArms : Arms → (Place → Place) → Instant → Type 0
    OfArms arms w i = ((s : Scope) → ArmsGiven types Given s arms i) × FillsArms types C arms (λ p. start (w p)) i

    abbrev OfStates : States → (Place → Place) → Instant → Type 0
    OfStates ss w i = ((s : Scope) → StatesGiven types Given s ss i) × FillsStates types C ss (λ p. start (w p)) i

    -- the parts of a state, and those behind it
    abbrev Last : (Place → Place) → Instant → Instant → Type 0
    Last w root i = ((p : Place) → root (w (Head ∷ Unless ∷ p)) ≡ i (Head ∷ Unless ∷ p)) × ((p : Place) → root (w (Tail ∷ p)) ≡ i (Tail ∷ p))

    abbrev Later : (Place → Place) → Instant → Instant → Type 0
    Later w root i = ((p : Place) → root (w (Head ∷ Until ∷ p)) ≡ i (Head ∷ Until ∷ p)) × Last w root i

    abbrev equations_at : Instant → Instant
    equations_at i (Equations ∷ p) = i p
    equations_at i p = Absent

    mutual
      pub block_of : (b : Block) (names : Types) (w : Place → Place) → Realised (slots_of_block types outputs called b names w) (Under w) (OfBlock b w)
      block_of (block ds es) names w =
          join (lasts_slots types ds w) (slots_of_equations types outputs called es (typed_in ds names) (below Equations w)) (λ root i. ⊤) (Under (below Equations w)) (Under w) (λ i. ⊤) (OfEqns es (below Equations w)) (OfBlock (block ds es) w)
          (lasts ds w) (equations es (typed_in ds names) (below Equations w)) (λ i j. equations_at j) (λ root i j h. (tt, (λ p. h (Equations ∷ p)))) (λ i j g k. ((λ s. k.0 (with_variables s ds)), k.1))

      equations : (es : Eqns) (names : Types) (w : Place → Place) → Realised (slots_of_equations types outputs called es names w) (Under w) (OfEqns es w)
      equations no_eqn names w = none (Under w) (OfEqns no_eqn w) nothing ((λ s. tt), tt)
      equations (more_eqns e es) names w =
          join (slots_of_equation types outputs called e names (below Head w)) (slots_of_equations types outputs called es names (below Tail w)) (Under (below Head w)) (Under (below Tail w)) (Under w) (OfEqn e (below Head w)) (OfEqns es (below Tail w)) (OfEqns (more_eqns e es) w)
          (equation e names (below Head w)) (equations es names (below Tail w)) (λ i j. of_two i j) (λ root i j h. ((λ p. h (Head ∷ p)), (λ p. h (Tail ∷ p)))) (λ i j g k. ((λ s. (g.0 s, k.0 s)), (g.1, k.1)))

      equation : (e : Eqn) (names : Types) (w : Place → Place) → Realised (slots_of_equation types outputs called e names w) (Under w) (OfEqn e w)
      equation (define at ys e) names w =
          inside (slots types outputs called e names (below Right w)) (Under (below Right w)) (Under w) (OfExpr e (below Right w)) (OfEqn (define at ys e) w) (expr e names (below Right w)) (λ i. in_right i) (λ root i h p. h (Right ∷ p)) (λ i g. g)
      equation (switch at e arms) names w =
          join (slots types outputs called e names (below Test w)) (slots_of_arms types outputs called arms names (below ArmsOf w)) (Under (below Test w)) (Under (below ArmsOf w)) (Under w) (OfExpr e (below Test w)) (OfArms arms (below ArmsOf w)) (OfEqn (switch at e arms) w)
          (expr e names (below Test w)) (arms_of arms names (below ArmsOf w)) (λ i j. with_arms i j) (λ root i j h. ((λ p. h (Test ∷ p)), (λ p. h (ArmsOf ∷ p)))) (λ i j g k. ((λ s. (g.0 s, k.0 s)), (g.1, k.1)))
      equation (reset at b e) names w =
          join (slots_of_block types outputs called b names (below Body w)) (slots types outputs called e names (below Test w)) (Under (below Body w)) (Under (below Test w)) (Under w) (OfBlock b (below Body w)) (OfExpr e (below Test w)) (OfEqn (reset at b e) w)
          (block_of b names (below Body w)) (expr e names (below Test w)) (λ i j. with_body j i) (λ root i j h. ((λ p. h (Body ∷ p)), (λ p. h (Test ∷ p)))) (λ i j g k. ((λ s. (k.0 s, g.0 s)), (k.1, g.1)))
      equation (automaton at ss) names w =
          inside (slots_of_states types outputs called ss names (below StatesOf w)) (Under (below StatesOf w)) (Under w) (OfStates ss (below StatesOf w)) (OfEqn (automaton at ss) w) (states ss names (below StatesOf w))
          (λ i. with_words Absent Absent Absent i) (λ root i h p. h (StatesOf ∷ p)) (λ i g. g)

      arms_of : (arms : Arms) (names : Types) (w : Place → Place) → Realised (slots_of_arms types outputs called arms names w) (Under w) (OfArms arms w)
      arms_of no_arm names w = none (Under w) (OfArms no_arm w) nothing ((λ s. tt), tt)
      arms_of (more_arms c b at arms) names w =
          join (slots_of_block types outputs called b names (below Head w)) (slots_of_arms types outputs called arms names (below Tail w)) (Under (below Head w)) (Under (below Tail w)) (Under w) (OfBlock b (below Head w)) (OfArms arms (below Tail w)) (OfArms (more_arms c b at arms) w)
          (block_of b names (below Head w)) (arms_of arms names (below Tail w)) (λ i j. of_two i j) (λ root i j h. ((λ p. h (Head ∷ p)), (λ p. h (Tail ∷ p)))) (λ i j g k. ((λ s. (g.0 s, k.0 s)), (g.1, k.1)))

      states : (ss : States) (names : Types) (w : Place → Place) → Realised (slots_of_states types outputs called ss names w) (Under w) (OfStates ss w)
      states no_state names w = none (Under w) (OfStates no_state w) nothing ((λ s. tt), tt)
      states (more_states f b until unless at ss) names w =
          join (slots_of_block types outputs called b names (below Body (below Head w)))
          (slots_of_conditions types outputs called until (scope_of b names) (below Until (below Head w)) ++ (slots_of_conditions types outputs called unless names (below Unless (below Head w)) ++ slots_of_states types outputs called ss names (below Tail w)))
          (Under (below Body (below Head w))) (Later w) (Under w) (OfBlock b (below Body (below Head w))) (λ i. OfTests until (below Until (below Head w)) (part Until (part Head i)) × (OfTests unless (below Unless (below Head w)) (part Unless (part Head i)) × OfStates ss (below Tail w) (part Tail i))) (OfStates (more_states f b until unless at ss) w)
          (block_of b names (below Body (below Head w)))
          (join (slots_of_conditions types outputs called until (scope_of b names) (below Until (below Head w))) (slots_of_conditions types outputs called unless names (below Unless (below Head w)) ++ slots_of_states types outputs called ss names (below Tail w))
          (Under (below Until (below Head w))) (Last w) (Later w) (OfTests until (below Until (below Head w))) (λ i. OfTests unless (below Unless (below Head w)) (part Unless (part Head i)) × OfStates ss (below Tail w) (part Tail i)) (λ i. OfTests until (below Until (below Head w)) (part Until (part Head i)) × (OfTests unless (below Unless (below Head w)) (part Unless (part Head i)) × OfStates ss (below Tail w) (part Tail i)))
          (tests until (scope_of b names) (below Until (below Head w)))
          (join (slots_of_conditions types outputs called unless names (below Unless (below Head w))) (slots_of_states types outputs called ss names (below Tail w)) (Under (below Unless (below Head w))) (Under (below Tail w)) (Last w)
          (OfTests unless (below Unless (below Head w))) (OfStates ss (below Tail w)) (λ i. OfTests unless (below Unless (below Head w)) (part Unless (part Head i)) × OfStates ss (below Tail w) (part Tail i))
          (tests unless names (below Unless (below Head w))) (states ss names (below Tail w)) (λ i j. of_two (in_state nothing nothing i) j) (λ root i j h. h) (λ i j g k. (g, k)))
          (λ i j. of_two (in_state nothing i (part Unless (part Head j))) (part Tail j)) (λ root i j h. h) (λ i j g k. (g, k)))
          (λ i j. of_two (in_state i (part Until (part Head j)) (part Unless (part Head j))) (part Tail j))
          (λ root i j h. ((λ p. h (Head ∷ Body ∷ p)), ((λ p. h (Head ∷ Until ∷ p)), ((λ p. h (Head ∷ Unless ∷ p)), (λ p. h (Tail ∷ p))))))
          (λ i j g k. ((λ s. (g.0 s, (k.0.0 (into s b), (k.1.0.0 s, k.1.1.0 s)))), (g.1, k.0.1, k.1.0.1, k.1.1.1)))

    -- ---- contracts

    abbrev pub OfTold : Option Expr → (Place → Place) → Instant → Type 0
    OfTold o w i = ((s : Scope) → ToldGiven types Given s o i) × FillsTold types C o (λ p. start (w p)) i

    abbrev pub OfContract : Option Contract → (Place → Place) → Instant → Type 0
    OfContract o w i = ((s : Scope) → ContractGiven types Given s o i) × FillsObserver types C o (λ p. start (w p)) i

    told : (o : Option Expr) (names : Types) (w : Place → Place) → Realised (slots_told types outputs called o names w) (Under w) (OfTold o w)
    told None names w = none (Under w) (OfTold None w) nothing ((λ s. tt), tt)
    told (Some e) names w = expr e names w

    pub contract_of : (o : Option Contract) (names : Types) (w : Place → Place) → Realised (slots_of_contract types outputs called o names w) (Observers w) (OfContract o w)
    contract_of None names w = none (Observers w) (OfContract None w) nothing ((λ s. tt), tt)
    contract_of (Some c) names w =
        join (slots_of_block types outputs called c.body names (below Observer w)) (slots_told types outputs called c.assume (scope_of c.body names) (below Assume w) ++ slots_told types outputs called c.enforce (scope_of c.body names) (below Enforce w))
        (Under (below Observer w)) (Told w) (Observers w) (OfBlock c.body (below Observer w)) (λ i. OfTold c.assume (below Assume w) (part Assume i) × OfTold c.enforce (below Enforce w) (part Enforce i)) (OfContract (Some c) w)
        (block_of c.body names (below Observer w))
        (join (slots_told types outputs called c.assume (scope_of c.body names) (below Assume w)) (slots_told types outputs called c.enforce (scope_of c.body names) (below Enforce w)) (Under (below Assume w)) (Under (below Enforce w)) (Told w)
        (OfTold c.assume (below Assume w)) (OfTold c.enforce (below Enforce w)) (λ i. OfTold c.assume (below Assume w) (part Assume i) × OfTold c.enforce (below Enforce w) (part Enforce i))
        (told c.assume (scope_of c.body names) (below Assume w)) (told c.enforce (scope_of c.body names) (below Enforce w)) (λ i j. in_observer nothing i j) (λ root i j h. h) (λ i j g k. (g, k)))
        (λ i j. in_observer i (part Assume j) (part Enforce j))
        (λ root i j h. h)
        (λ i j g k. ((λ s. (g.0 s, (k.0.0 (into s c.body), k.1.0 (into s c.body)))), (g.1, k.0.1, k.1.1)))
