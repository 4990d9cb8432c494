-- What the equations of an observer hold for the comparisons of its contract, beside an instant of the node.
use Rattle.std.proofs.Common.{◌≡◌, inl, inr, ℕ, ◌<◌, ◌≤◌, Bool, true, false, List, [], ◌∷◌, ◌++◌, length, slice_get, Some, refl, sym, ap, ap₂, subst, ◌∙◌, if◌then◌else◌}
use Rattle.std.specs.List.{AllByRecursion, flat_map}
use Rattle.std.specs.Prelude.{IsTrue}
use Rattle.hp_base.specs.declared.ty.Ty.{Ty}
use Rattle.hp_base.specs.declared.ty.Ty.TheVariants as ty
use Rattle.hp_base.specs.declared.value.Value.TheVariants.{Absent}
use Rattle.hp_tree.specs.Instant.{Instant, Place}
use Rattle.hp_tree.specs.Operators.{is_there}
use Rattle.hp_flat.specs.declared.equation.Atom.{Atom}
use Rattle.hp_flat.specs.declared.node.FlatTy.{FlatTy}
use Rattle.hp_flat.specs.declared.node.FlatTy.TheVariants as flat
use Rattle.hp_flat.specs.Equations.{FlatEqn, Right, called}
use Rattle.hp_flat.specs.Nodes.{FlatNode}
use Rattle.hp_meaning.specs.Contract.Slots.{FreePlace}
use Rattle.law_automata.specs.Lowered.Standing.{Along}
use Rattle.law_equations.specs.Flattened.Flatten.{Prefix}
use Rattle.law_equations.specs.Made.Making.{Known, Sketch, flat_type}
use Rattle.law_equations.specs.Meaning.Instants as flows
use Rattle.law_equations.specs.Meaning.Reactions.{is_set}
use Rattle.law_wellmade.proofs.BegunLemmas.Keeping.{HasType}
use Rattle.hp_watch.specs.Adding.{type_at, type_of}
use Rattle.hp_watch.specs.Watching.{free_at, free_by, free_of, free_target, is_integer}
use Rattle.hp_watch.specs.declared.watching.Free.{Free}
use Rattle.law_choices.specs.Embedded.Found.{IsSeenBeside}
use Rattle.law_choices.specs.Flat.Places.{IsOn}
use Rattle.law_choices.specs.Places.Found.{Both}
use Rattle.law_choices.specs.Places.Groups.{in_a_row}
use Rattle.law_choices.specs.Places.Laws.{places_of}
use Rattle.law_choices.specs.Places.Spots.{Spot, called as call_at, compared}
use Rattle.law_choices.proofs.AddingLemmas.Surveyed.{at_number, number_below}
use Rattle.law_choices.proofs.BroughtLemmas.Apiece.{types_apiece, types_of_places}
use Rattle.law_choices.proofs.BroughtLemmas.Brought.{Brings, Compares, of_compared}
use Rattle.law_choices.proofs.FlatLemmas.Alone.{off-unset}
use Rattle.law_choices.proofs.PlacesLemmas.Numbers.{AtNumber}
use Rattle.law_choices.proofs.PlacesLemmas.Relating.{along-both}
use Rattle.law_choices.proofs.SeeingLemmas.HeldInBody.{IsTold, there-some}
use Rattle.law_choices.proofs.SeeingLemmas.Looked.{IsSome}
use Rattle.law_choices.proofs.SeeingLemmas.Rowed.{NumberHas, TargetsAre, of-integers}

-- an equation calls nothing
abbrev pub IsNoCall : Right → Type 0
IsNoCall r = (f : List ℕ) (args : List Atom) → r ≡ called f args → ⊥

-- A free place of a contract that stands below a prefix, with the variable of the observer that has its value.
pub record IsContractRow (g : FlatNode) (w : Prefix) (j : flows.Instant) (now : Instant) (q : FreePlace) (f : Free) : Type 0 where
  pub place : Place
  pub is : q ≡ (w place, ty.Bool)
  pub typed : type_at g f.variable ≡ flat.Bool
  pub within : f.variable < length g.variables
  pub number : ℕ
  pub numbered : f.eqn ≡ Some number
  pub eqn : FlatEqn
  pub there : slice_get g.eqns number ≡ Some eqn
  pub told : IsSome (now place) → IsTrue (flows.holds eqn.clock j) × (j f.variable ≡ now place)

module _ (given : List ℕ → List Ty) (k : Known) (d : Sketch) (g : FlatNode) (laid : g.variables ≡ d.variables) (alone : AllByRecursion (λ (e : FlatEqn). IsNoCall e.right) g.eqns) (no_inputs : AllByRecursion (λ (e : FlatEqn). AllByRecursion (λ x. g.inputs ≤ x) e.targets) g.eqns)
    (w : Prefix) (j : flows.Instant) (now observing : Instant) (others : (x : ℕ) → g.inputs ≤ x → is_set g.eqns j x ≡ false → j x ≡ Absent) where
  abbrev IsRow : FreePlace → Free → Type 0
  IsRow q f = IsContractRow g w j now q f

  typed : (x : ℕ) (t : FlatTy) → HasType d x t → (type_at g x ≡ t) × (x < length g.variables)
  typed x t h =
      let at : slice_get g.variables x ≡ Some h.0 = ap (λ vs. slice_get vs x) laid ∙ h.1 in
      (ap type_of at ∙ h.2, number_below g.variables x h.0 at)

  abbrev IsSingle : FlatEqn → Type 0
  IsSingle e = AllByRecursion (λ x. IsOn x e.clock g.eqns) e.targets

  module _ (m : ℕ) (e : FlatEqn) (at : slice_get g.eqns m ≡ Some e) (single : IsSingle e) where
    -- what is not integers brings nothing
    none : (l : List Ty) → l ≡ [] → Compares k d e l → free_at g m ≡ []
    none l empty x =
        ap (free_of g m) at ∙ ap₂ (λ (q : Right) ts. free_by g m q ts) x.right x.targets
        ∙ ap (λ u. if is_integer u then flat_map (free_target g m) (x.target ∷ []) else []) (typed x.first (flat_type k.types x.type) x.typed).0 ∙ by x.type (sym x.brings ∙ empty)
      where
        by : (t : Ty) → of_compared (Some t) ≡ [] → (if is_integer (flat_type k.types t) then flat_map (free_target g m) (x.target ∷ []) else []) ≡ []
        by ty.Bool h = refl
        by ty.Int h = absurd cc
        by (ty.Enum y) h = refl

    -- a comparison of integers is there where its value is
    one-told : (p q : Place) (x : ℕ) → e.targets ≡ x ∷ [] → now q ≡ observing p → Along (IsTold j observing) e.targets (p ∷ []) → IsSome (now q) → IsTrue (flows.holds e.clock j) × (j x ≡ now q)
    one-told p q x targets same told some = (by (flows.holds e.clock j) refl, value)
      where
        its : Along (IsTold j observing) (x ∷ []) (p ∷ [])
        its = subst (λ xs. Along (IsTold j observing) xs (p ∷ [])) targets told

        value : j x ≡ now q
        value = (its).0 (subst (λ v. IsTrue (is_there v)) same (there-some (now q) some.1)) (λ h. some.0 (same ∙ h)) ∙ sym same

        on : IsOn x e.clock g.eqns
        on = (subst (AllByRecursion (λ y. IsOn y e.clock g.eqns)) targets single).0

        no_input : g.inputs ≤ x
        no_input = (subst (AllByRecursion (λ y. g.inputs ≤ y)) targets (at_number (λ (u : FlatEqn). AllByRecursion (λ y. g.inputs ≤ y) u.targets) g.eqns m e at no_inputs)).0

        by : (b : Bool) → flows.holds e.clock j ≡ b → IsTrue (flows.holds e.clock j)
        by true h = h
        by false h = absurd (some.1 (sym value ∙ others x no_input (off-unset x e.clock g.eqns j on h)))

    row : (l : List Ty) (p q : Place) (x : Compares k d e l) → l ≡ ty.Bool ∷ [] → now q ≡ observing p → Along (IsTold j observing) e.targets (p ∷ []) → Along IsRow ((w q, ty.Bool) ∷ []) (free_at g m)
    row l p q x truth same told =
        let first : type_at g x.first ≡ flat.Int = (typed x.first (flat_type k.types x.type) x.typed).0 ∙ ap (flat_type k.types) (of-integers x.type (sym x.brings ∙ truth)) in
        let target = typed x.target flat.Bool x.truth in
        let f : Free = record { variable = x.target; eqn = Some m } in
        let are : free_at g m ≡ f ∷ [] =
        ap (free_of g m) at ∙ ap₂ (λ (r : Right) ts. free_by g m r ts) x.right x.targets ∙ ap (λ u. if is_integer u then flat_map (free_target g m) (x.target ∷ []) else []) first
        ∙ ap (λ u. (if is_integer u then [] else record { variable = x.target; eqn = Some m } ∷ []) ++ []) target.0 in
        let its : IsRow (w q, ty.Bool) f = record { place = q; is = refl; typed = target.0; within = target.1; number = m; numbered = refl; eqn = e; there = at; told = one-told p q x.target x.targets same told } in
        subst (Along IsRow ((w q, ty.Bool) ∷ [])) (sym are) (its, tt)

    one : (l : List Ty) (s : Spot × Spot) (places : List FreePlace) → Brings given k d e l → l ≡ types_of_places places → Along (IsTold j observing) e.targets (places_of s.0) → IsSeenBeside w now observing s.0 places → Along IsRow places (free_at g m)
    one l (compared o p, z) places (inl b) is told (inl empty) =
        subst (λ qs. Along IsRow qs (free_at g m)) (sym empty) (subst (Along IsRow []) (sym (none l (is ∙ ap types_of_places empty) b)) tt)
    one l (compared o p, z) places (inl b) is told (inr some) =
        subst (λ qs. Along IsRow qs (free_at g m)) (sym some.1) (row l p some.0 b (is ∙ ap types_of_places some.1) some.2 told)
    one l (compared o p, z) places (inr b) is told seen = absurd (at_number (λ (u : FlatEqn). IsNoCall u.right) g.eqns m e at alone b.callee b.args b.right)
    one l (call_at f ps, z) places b is told seen = absurd seen

  -- the equation of a number
  same_eqn : (m : ℕ) (e u : FlatEqn) → slice_get g.eqns m ≡ Some e → slice_get g.eqns m ≡ Some u → u ≡ e
  same_eqn m e u h i = let both = sym i ∙ h in cc

  pub all-rows : (order : List ℕ) (L : List (List Ty)) (fs : Both) (gs : List (List FreePlace)) → Along (AtNumber (Brings given k d) g.eqns) order L → L ≡ types_apiece gs → AllByRecursion (NumberHas IsSingle g.eqns) order → Along (TargetsAre (IsTold j observing) g.eqns) order fs
      → Along (λ (s : Spot × Spot) (places : List FreePlace). IsSeenBeside w now observing s.0 places) fs gs → Along IsRow (in_a_row gs) (flat_map (free_at g) order)
  all-rows [] L [] [] a e single t h = tt
  all-rows [] L [] (places ∷ gs) a e single t h = absurd h
  all-rows [] L (s ∷ fs) gs a e single t h = absurd t
  all-rows (m ∷ order) [] fs gs a e single t h = absurd a
  all-rows (m ∷ order) (l ∷ L) [] gs a e single t h = absurd t
  all-rows (m ∷ order) (l ∷ L) (s ∷ fs) [] a e single t h = absurd h
  all-rows (m ∷ order) (l ∷ L) (s ∷ fs) (places ∷ gs) a e single t h =
      let u = a.0.0 in
      let at = a.0.1 in
      let first : l ≡ types_of_places places = cc in
      let behind : L ≡ types_apiece gs = cc in
      let own : IsSingle u = subst IsSingle (same_eqn m u single.0.0 at single.0.1) single.0.2 in
      let told : Along (IsTold j observing) u.targets (places_of s.0) = subst (λ (z : FlatEqn). Along (IsTold j observing) z.targets (places_of s.0)) (same_eqn m u t.0.0 at t.0.1) t.0.2 in
      along-both IsRow places (in_a_row gs) (free_at g m) (flat_map (free_at g) order) (one m u at own l s places a.0.2 first told h.0) (all-rows order L fs gs a.1 behind single.1 t.1 h.1)
