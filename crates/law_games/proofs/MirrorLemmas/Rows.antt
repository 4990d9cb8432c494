-- Inputs and controllable variables: values of their slots are a list of inputs, and a choice.
use Rattle.std.proofs.Common.{◌≡◌, inl, inr, ℕ, zero, suc, List, [], ◌∷◌, ◌++◌, map, refl, sym, ap, ap₂, subst, ◌∙◌, arith}
use Rattle.std.specs.Prelude.{Bool, true, false, Contains}
use Rattle.hp_base.specs.declared.ty.Ty.{Ty}
use Rattle.hp_base.specs.declared.ty.Ty.TheVariants as ty
use Rattle.hp_base.specs.declared.value.Value.{Value}
use Rattle.hp_base.specs.declared.value.Value.TheVariants.{B, E, Star}
use Rattle.hp_tree.specs.Blocks.{Decl}
use Rattle.hp_tree.specs.Programs.{TypeDecl}
use Rattle.hp_tree.specs.Operators.{constructor_from}
use Rattle.hp_tree.specs.Instant.{Head, Tail, Place, Instant, alone, in_row}
use Rattle.hp_tree.specs.Values.{constructors_of, IsOf}
use Rattle.hp_meaning.specs.Causal.Sources.{below}
use Rattle.hp_meaning.specs.Contract.Game.{Choice, choices_of, IsAmong, AreChoices}
use Rattle.hp_meaning.specs.Contract.Slots.{Slot, input, control}
use Rattle.law_games.specs.Wiretyped.Typed.{IsWire, AreWires}
use Rattle.law_games.specs.Wiretyped.Kept.{RowGiven}
use Rattle.law_games.specs.Mirror.Mirrored.{early_among, late_among, controls_among}
use Rattle.law_games.proofs.MirrorLemmas.SlotLists.{values_at, AreValues}

-- the slots of a row, as those of a node have them
abbrev free_of : (Place → Ty → Slot) → Place → Ty → List Slot
free_of kind p ty.Int = []
free_of kind p t = kind p t ∷ []

abbrev pub row_slots : (Place → Ty → Slot) → List Decl → (Place → Place) → List Slot
row_slots kind [] w = []
row_slots kind (d ∷ ds) w = free_of kind (w (Head ∷ [])) d.ty ++ row_slots kind ds (below Tail w)

-- what is over it has a row at some places
abbrev pub HasRow : (Place → Place) → List Value → Instant → Type 0
HasRow w vs root = (p : Place) → root (w p) ≡ in_row (map alone vs) p

module _ (types : List TypeDecl) (early : Place → Bool) where
  -- ---- inputs

  abbrev Inputs : List Decl → (Place → Place) → List Value → Type 0
  Inputs ds w vs = (inputs : List Value) × AreWires types ds inputs × ((root : Instant) → HasRow w inputs root → values_at (early_among early (row_slots input ds w)) root ≡ vs)

  -- the first one, and those behind it
  abbrev FirstInput : List Decl → (Place → Place) → Ty → List Value → Type 0
  FirstInput ds w t vs =
      (v : Value) × (others : List Value) × IsWire types t v × AreWires types ds others
      × ((root : Instant) → root (w (Head ∷ [])) ≡ v → HasRow (below Tail w) others root → values_at (early_among early (free_of input (w (Head ∷ [])) t ++ row_slots input ds (below Tail w))) root ≡ vs)

  pub inputs_of : (ds : List Decl) (w : Place → Place) (vs : List Value) → AreValues types (early_among early (row_slots input ds w)) vs → Inputs ds w vs
  inputs_of [] w [] h = ([], tt, λ root o. refl)
  inputs_of [] w (v ∷ vs) h = absurd h
  inputs_of (d ∷ ds) w vs h =
      let x = by d.ty vs h (λ vs h. inputs_of ds (below Tail w) vs h) in
      (x.0 ∷ x.1, (x.2, x.3), λ root o. x.4 root (o (Head ∷ [])) (λ p. o (Tail ∷ p)))
    where
      by : (t : Ty) (vs : List Value) → AreValues types (early_among early (free_of input (w (Head ∷ [])) t ++ row_slots input ds (below Tail w))) vs
          → ((vs : List Value) → AreValues types (early_among early (row_slots input ds (below Tail w))) vs → Inputs ds (below Tail w) vs) → FirstInput ds w t vs
      by ty.Bool [] h more = absurd h
      by ty.Bool (v ∷ vs) h more = let r = more vs h.1 in (v, r.0, h.0, r.1, λ root a b. ap₂ (λ v vs. v ∷ vs) a (r.2 root b))
      by ty.Int vs h more = let r = more vs h in (Star, r.0, refl, r.1, λ root a b. r.2 root b)
      by (ty.Enum t) [] h more = absurd h
      by (ty.Enum t) (v ∷ vs) h more = let r = more vs h.1 in (v, r.0, h.0, r.1, λ root a b. ap₂ (λ v vs. v ∷ vs) a (r.2 root b))

  -- the same row gives the same values
  pub row_same : (ds : List Decl) (w : Place → Place) (i j : Instant) → ((p : Place) → i (w p) ≡ j (w p)) → values_at (early_among early (row_slots input ds w)) i ≡ values_at (early_among early (row_slots input ds w)) j
  row_same [] w i j h = refl
  row_same (d ∷ ds) w i j h = by d.ty (h (Head ∷ [])) (row_same ds (below Tail w) i j (λ p. h (Tail ∷ p)))
    where
      by : (t : Ty) → i (w (Head ∷ [])) ≡ j (w (Head ∷ [])) → values_at (early_among early (row_slots input ds (below Tail w))) i ≡ values_at (early_among early (row_slots input ds (below Tail w))) j
          → values_at (early_among early (free_of input (w (Head ∷ [])) t ++ row_slots input ds (below Tail w))) i ≡ values_at (early_among early (free_of input (w (Head ∷ [])) t ++ row_slots input ds (below Tail w))) j
      by ty.Bool a b = ap₂ (λ v vs. v ∷ vs) a b
      by ty.Int a b = b
      by (ty.Enum t) a b = ap₂ (λ v vs. v ∷ vs) a b

  -- inputs are neither late nor controllable
  pub inputs_not_late : (ds : List Decl) (w : Place → Place) → late_among early (row_slots input ds w) ≡ []
  inputs_not_late [] w = refl
  inputs_not_late (d ∷ ds) w = by d.ty (inputs_not_late ds (below Tail w))
    where
      by : (t : Ty) → late_among early (row_slots input ds (below Tail w)) ≡ [] → late_among early (free_of input (w (Head ∷ [])) t ++ row_slots input ds (below Tail w)) ≡ []
      by ty.Bool e = e
      by ty.Int e = e
      by (ty.Enum t) e = e

  pub inputs_not_controls : (ds : List Decl) (w : Place → Place) → controls_among (row_slots input ds w) ≡ []
  inputs_not_controls [] w = refl
  inputs_not_controls (d ∷ ds) w = by d.ty (inputs_not_controls ds (below Tail w))
    where
      by : (t : Ty) → controls_among (row_slots input ds (below Tail w)) ≡ [] → controls_among (free_of input (w (Head ∷ [])) t ++ row_slots input ds (below Tail w)) ≡ []
      by ty.Bool e = e
      by ty.Int e = e
      by (ty.Enum t) e = e

  -- and controllable variables neither early nor late
  pub controls_not_early : (ds : List Decl) (w : Place → Place) → early_among early (row_slots control ds w) ≡ []
  controls_not_early [] w = refl
  controls_not_early (d ∷ ds) w = by d.ty (controls_not_early ds (below Tail w))
    where
      by : (t : Ty) → early_among early (row_slots control ds (below Tail w)) ≡ [] → early_among early (free_of control (w (Head ∷ [])) t ++ row_slots control ds (below Tail w)) ≡ []
      by ty.Bool e = e
      by ty.Int e = e
      by (ty.Enum t) e = e

  pub controls_not_late : (ds : List Decl) (w : Place → Place) → late_among early (row_slots control ds w) ≡ []
  controls_not_late [] w = refl
  controls_not_late (d ∷ ds) w = by d.ty (controls_not_late ds (below Tail w))
    where
      by : (t : Ty) → late_among early (row_slots control ds (below Tail w)) ≡ [] → late_among early (free_of control (w (Head ∷ [])) t ++ row_slots control ds (below Tail w)) ≡ []
      by ty.Bool e = e
      by ty.Int e = e
      by (ty.Enum t) e = e

  -- ---- controllable variables

  chosen : (t : Ty) (v w : Value) → IsOf types t v → IsAmong (choices_of types t) w → IsAmong (choices_of types t) v
  chosen ty.Bool (B true) w h k = inl refl
  chosen ty.Bool (B false) w h k = inr (inl refl)
  chosen ty.Bool v w h k = absurd h
  chosen ty.Int v w h k = absurd k
  chosen (ty.Enum t) (E u k) w h some = among (constructors_of types t) h.0 h.1 h.2
    where
      among : (cs : List (List ℕ)) (c : List ℕ) → Contains cs c → E u k ≡ constructor_from 0 types c → IsAmong (map (constructor_from 0 types) cs) (E u k)
      among [] c (j, l, e) g = absurd (omega arith)
      among (x ∷ cs) c (zero, l, e) g = inl (g ∙ ap (constructor_from 0 types) (sym e))
      among (x ∷ cs) c (suc j, l, e) g = inr (among cs c (j, omega arith, e) g)
  chosen (ty.Enum t) v w h k = absurd h

  abbrev Choices : List Decl → (Place → Place) → List Value → Type 0
  Choices ds w vs = (c : Choice) × AreChoices types ds c × ((root : Instant) → HasRow w c root → values_at (controls_among (row_slots control ds w)) root ≡ vs)

  abbrev FirstChoice : List Decl → (Place → Place) → Ty → List Value → Type 0
  FirstChoice ds w t vs =
      (v : Value) × (c : Choice) × IsAmong (choices_of types t) v × AreChoices types ds c
      × ((root : Instant) → root (w (Head ∷ [])) ≡ v → HasRow (below Tail w) c root → values_at (controls_among (free_of control (w (Head ∷ [])) t ++ row_slots control ds (below Tail w))) root ≡ vs)

  -- where there is some choice, values of controllable variables are one
  pub choice_of : (ds : List Decl) (some : Choice) → AreChoices types ds some → (w : Place → Place) (vs : List Value) → AreValues types (controls_among (row_slots control ds w)) vs → Choices ds w vs
  choice_of [] some is w [] h = ([], tt, λ root o. refl)
  choice_of [] some is w (v ∷ vs) h = absurd h
  choice_of (d ∷ ds) [] is w vs h = absurd is
  choice_of (d ∷ ds) (s ∷ some) is w vs h =
      let x = by d.ty is.0 vs h (λ vs h. choice_of ds some is.1 (below Tail w) vs h) in
      (x.0 ∷ x.1, (x.2, x.3), λ root o. x.4 root (o (Head ∷ [])) (λ p. o (Tail ∷ p)))
    where
      by : (t : Ty) → IsAmong (choices_of types t) s → (vs : List Value) → AreValues types (controls_among (free_of control (w (Head ∷ [])) t ++ row_slots control ds (below Tail w))) vs
          → ((vs : List Value) → AreValues types (controls_among (row_slots control ds (below Tail w))) vs → Choices ds (below Tail w) vs) → FirstChoice ds w t vs
      by ty.Bool k [] h more = absurd h
      by ty.Bool k (v ∷ vs) h more = let r = more vs h.1 in (v, r.0, chosen ty.Bool v s h.0 k, r.1, λ root a b. ap₂ (λ v vs. v ∷ vs) a (r.2 root b))
      by ty.Int k vs h more = absurd k
      by (ty.Enum t) k [] h more = absurd h
      by (ty.Enum t) k (v ∷ vs) h more = let r = more vs h.1 in (v, r.0, chosen (ty.Enum t) v s h.0 k, r.1, λ root a b. ap₂ (λ v vs. v ∷ vs) a (r.2 root b))

  -- the same choice has the same values
  pub choice_same : (ds : List Decl) (w : Place → Place) (i j : Instant) → ((p : Place) → i (w p) ≡ j (w p)) → values_at (controls_among (row_slots control ds w)) i ≡ values_at (controls_among (row_slots control ds w)) j
  choice_same [] w i j h = refl
  choice_same (d ∷ ds) w i j h = by d.ty (h (Head ∷ [])) (choice_same ds (below Tail w) i j (λ p. h (Tail ∷ p)))
    where
      by : (t : Ty) → i (w (Head ∷ [])) ≡ j (w (Head ∷ [])) → values_at (controls_among (row_slots control ds (below Tail w))) i ≡ values_at (controls_among (row_slots control ds (below Tail w))) j
          → values_at (controls_among (free_of control (w (Head ∷ [])) t ++ row_slots control ds (below Tail w))) i ≡ values_at (controls_among (free_of control (w (Head ∷ [])) t ++ row_slots control ds (below Tail w))) j
      by ty.Bool a b = ap₂ (λ v vs. v ∷ vs) a b
      by ty.Int a b = b
      by (ty.Enum t) a b = ap₂ (λ v vs. v ∷ vs) a b

  -- what is given for controllable variables has their values
  pub row_values : (ds : List Decl) (w : Place → Place) (root i : Instant) → RowGiven types ds i → ((p : Place) → root (w p) ≡ i p) → AreValues types (controls_among (row_slots control ds w)) (values_at (controls_among (row_slots control ds w)) root)
  row_values [] w root i g o = tt
  row_values (d ∷ ds) w root i g o = by d.ty g.0 (o (Head ∷ [])) (row_values ds (below Tail w) root (λ p. i (Tail ∷ p)) g.1 (λ p. o (Tail ∷ p)))
    where
      by : (t : Ty) → IsWire types t (i (Head ∷ [])) → root (w (Head ∷ [])) ≡ i (Head ∷ []) → AreValues types (controls_among (row_slots control ds (below Tail w))) (values_at (controls_among (row_slots control ds (below Tail w))) root)
          → AreValues types (controls_among (free_of control (w (Head ∷ [])) t ++ row_slots control ds (below Tail w))) (values_at (controls_among (free_of control (w (Head ∷ [])) t ++ row_slots control ds (below Tail w))) root)
      by ty.Bool h e k = (subst (IsOf types ty.Bool) (sym e) h, k)
      by ty.Int h e k = k
      by (ty.Enum t) h e k = (subst (IsOf types (ty.Enum t)) (sym e) h, k)
