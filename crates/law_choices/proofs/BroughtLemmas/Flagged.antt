-- What is so of the targets of comparisons and calls, and of their places, is so of the free places that these bring, one by one in the order of slots.
use Rattle.std.proofs.Common.{◌≡◌, ℕ, Bool, true, false, if◌then◌else◌, List, [], ◌∷◌, ◌++◌, length, map, slice_get, Option, Some, inl, inr, sym, ap, ap₂, subst, ◌∙◌, arith}
use Rattle.std.specs.Prelude.{◌⊎◌, ◌+◌}
use Rattle.std.specs.List.{flat_map}
use Rattle.std.proofs.lemmas.List.{append-nil, length-append, length-map}
use Rattle.hp_base.specs.declared.ty.Ty.{Ty}
use Rattle.hp_base.specs.declared.ty.Ty.TheVariants as ty
use Rattle.hp_tree.specs.Blocks.{Decl}
use Rattle.hp_tree.specs.Programs.{TypeDecl}
use Rattle.hp_tree.specs.Instant.{Named, Place}
use Rattle.hp_tree.specs.Reaction.{Each}
use Rattle.hp_flat.specs.declared.node.FlatTy.{FlatTy}
use Rattle.hp_obc.specs.declared.command.ObcOp.{ObcOp}
use Rattle.hp_flat.specs.declared.equation.Atom.{Atom}
use Rattle.hp_flat.specs.declared.equation.Atom.TheVariants.{Variable as Read}
use Rattle.hp_flat.specs.Equations.{FlatEqn, Right, operator, called as call_of}
use Rattle.hp_flat.specs.Nodes.{FlatNode}
use Rattle.hp_meaning.specs.Contract.Slots.{FreePlace, Slot, free_among}
use Rattle.law_automata.specs.Lowered.Standing.{Along}
use Rattle.law_equations.specs.Flattened.Flatten.{Prefix}
use Rattle.law_equations.specs.Made.Making.{Known, Sketch, flat_type, numbers_from, outputs_of}
use Rattle.law_wellmade.proofs.BegunLemmas.Keeping.{HasType}
use Rattle.law_wellmade.proofs.RegularLemmas.Expressions.{Outputs}
use Rattle.hp_watch.specs.declared.watching.Free.{Free}
use Rattle.hp_watch.specs.Adding.{type_at}
use Rattle.hp_watch.specs.Watching.{free_by, free_target, is_integer}
use Rattle.law_choices.specs.Places.Found.{Both}
use Rattle.law_choices.specs.Places.Groups.{AreAlike, IsGroupOf, free_outputs, in_a_row, unless_integer}
use Rattle.law_choices.specs.Places.Laws.{IsEventOf, IsNumberOf, places_of}
use Rattle.law_choices.specs.Places.Spots.{Spot, called, compared}
use Rattle.law_choices.proofs.BroughtLemmas.Apiece.{types_apiece, types_of_places}
use Rattle.law_choices.proofs.BroughtLemmas.Brought.{Brings, Calls, Compares}
use Rattle.law_choices.proofs.BroughtLemmas.Placed.{types_in}
use Rattle.law_choices.proofs.PlacesLemmas.Numbers.{AtNumber}
use Rattle.law_choices.proofs.PlacesLemmas.Relating.{along-both, along-length}

module _ (V : Free → Place → Type 0) where
  -- so it is of free places and places, one by one
  abbrev pub Kept : List Free → List FreePlace → Type 0
  Kept fs g = Along (λ (f : Free) (q : FreePlace). V f q.0) fs g

  none-kept : (fs : List Free) → length fs ≡ 0 → Kept fs []
  none-kept [] e = tt
  none-kept (f ∷ fs) e = absurd (omega (arith, e))

  -- whatever the free places are
  whatever : (fs : List Free) (g : List FreePlace) → Each (λ (q : FreePlace). (f : Free) → V f q.0) g → length fs ≡ length g → Kept fs g
  whatever [] [] h e = tt
  whatever [] (q ∷ g) h e = absurd (omega (arith, e))
  whatever (f ∷ fs) [] h e = absurd (omega (arith, e))
  whatever (f ∷ fs) (q ∷ g) h e = (h.0 f, whatever fs g h.1 (omega (arith, e)))

  -- a variable at an equation
  abbrev pub At : ℕ → ℕ → Place → Type 0
  At i x p = V (record { variable = x; eqn = Some i }) p

  -- a comparison, where it compares integers or not
  compared-kept : (n : FlatNode) (i x : ℕ) (p : Place) (b : Bool) (g : List FreePlace) → At i x p → length (if b then free_target n i x ++ [] else []) ≡ length g → (g ≡ []) ⊎ (g ≡ (p, ty.Bool) ∷ [])
      → Kept (if b then free_target n i x ++ [] else []) g
  compared-kept n i x p b g h e (inl none) =
      let fs : List Free = if b then free_target n i x ++ [] else [] in
      subst (Kept fs) (sym none) (none-kept fs (e ∙ ap (λ (z : List FreePlace). length z) none))
  compared-kept n i x p b g h e (inr one) =
      let fs : List Free = if b then free_target n i x ++ [] else [] in
      subst (Kept fs) (sym one) (by b (is_integer (type_at n x)) (e ∙ ap (λ (z : List FreePlace). length z) one))
    where
      by : (b c : Bool) → length {A = Free} (if b then (if c then [] else record { variable = x; eqn = Some i } ∷ []) ++ [] else []) ≡ 1 → Kept (if b then (if c then [] else record { variable = x; eqn = Some i } ∷ []) ++ [] else []) ((p, ty.Bool) ∷ [])
      by true false l = (h, tt)
      by true true l = absurd (omega (arith, l))
      by false c l = absurd (omega (arith, l))

  -- an output of a call, unless it is an integer
  output-kept : (n : FlatNode) (i x : ℕ) (p : Place) (places : List ℕ → Option ℕ) (t : Ty) → type_at n x ≡ flat_type places t → At i x p → Kept (free_target n i x) (unless_integer p t)
  output-kept n i x p places ty.Bool e h = subst (λ u. Kept (if is_integer u then [] else record { variable = x; eqn = Some i } ∷ []) ((p, ty.Bool) ∷ [])) (sym e) (h, tt)
  output-kept n i x p places ty.Int e h = subst (λ u. Kept (if is_integer u then [] else record { variable = x; eqn = Some i } ∷ []) []) (sym e) tt
  output-kept n i x p places (ty.Enum y) e h = subst (λ u. Kept (if is_integer u then [] else record { variable = x; eqn = Some i } ∷ []) ((p, ty.Enum y) ∷ [])) (sym e) (h, tt)

  outputs-kept : (n : FlatNode) (k : Known) (d : Sketch) → ((x : ℕ) (t : FlatTy) → HasType d x t → type_at n x ≡ t) → (i from : ℕ) (ds : List Decl) (v : Prefix) → Outputs k d from ds
      → Along (At i) (numbers_from from ds) (map (λ (o : List ℕ). v (Named o ∷ [])) (map (λ (d : Decl). d.name) ds)) → Kept (flat_map (free_target n i) (numbers_from from ds)) (free_outputs ds v)
  outputs-kept n k d types i from [] v o h = tt
  outputs-kept n k d types i from (c ∷ ds) v o h =
      along-both (λ (f : Free) (q : FreePlace). V f q.0) (free_target n i from) (flat_map (free_target n i) (numbers_from (from + 1) ds)) (unless_integer (v (Named c.name ∷ [])) c.ty) (free_outputs ds v)
      (output-kept n i from (v (Named c.name ∷ [])) k.types c.ty (types from (flat_type k.types c.ty) o.0) h.0) (outputs-kept n k d types i (from + 1) ds v o.1 h.1)

-- The equation of this number has such targets, with the own places of what a walk finds.
abbrev pub Targets : (Free → Place → Type 0) → List FlatEqn → ℕ → Spot × Spot → Type 0
Targets V es i c = (e : FlatEqn) × (slice_get es i ≡ Some e) × Along (At V i) e.targets (places_of c.0)

-- Free places of equations, in a node that has their variables: what an equation gives itself, and more where it calls.
module _ (there : FlatNode) (es : List FlatEqn) (its_free : ℕ → List Free) (more : ℕ → Right → List Free)
    (are : (i : ℕ) (e : FlatEqn) → slice_get es i ≡ Some e → its_free i ≡ free_by there i e.right e.targets ++ more i e.right) (alone : (i : ℕ) (o : ObcOp) (args : List Atom) → more i (operator o args) ≡ [])
    (given : List ℕ → List Ty) (k : Known) (d : Sketch) (typed : (x : ℕ) (t : FlatTy) → HasType d x t → type_at there x ≡ t)
    (one-types : (i : ℕ) (e : FlatEqn) (l : List Ty) → slice_get es i ≡ Some e → Brings given k d e l → types_in there (its_free i) ≡ map (flat_type k.types) l)
    (types : List TypeDecl) (outs : List ℕ → List Decl) (callee : List ℕ → Prefix → List Slot) (P : Prefix → Type 0) (V : Free → Place → Type 0)
    (other : (f : List ℕ) (w : Prefix) → P w → Each (λ (q : FreePlace). (f : Free) → V f q.0) (free_among (callee f w))) (same : (i : ℕ) (e : FlatEqn) (f : List ℕ) (args : List Atom) → slice_get es i ≡ Some e → e.right ≡ call_of f args → outs f ≡ outputs_of (k.nodes f)) where
  abbrev Of : Free → FreePlace → Type 0
  Of f q = V f q.0

  -- there are as many
  as-many : (i : ℕ) (e : FlatEqn) (l : List Ty) (g : List FreePlace) → slice_get es i ≡ Some e → Brings given k d e l → l ≡ types_of_places g → length (its_free i) ≡ length g
  as-many i e l g at b is =
      sym (length-map (its_free i) (λ (f : Free). type_at there f.variable)) ∙ ap length (one-types i e l at b) ∙ length-map l (flat_type k.types) ∙ ap length is ∙ length-map g (λ (q : FreePlace). q.1)

  -- a comparison
  of-comparison : (i : ℕ) (e : FlatEqn) (l : List Ty) (p : Place) (g : List FreePlace) → slice_get es i ≡ Some e → Compares k d e l → length (its_free i) ≡ length g → (g ≡ []) ⊎ (g ≡ (p, ty.Bool) ∷ []) → Along (At V i) e.targets (p ∷ []) → Kept V (its_free i) g
  of-comparison i e l p g at c many is h =
      let b = is_integer (type_at there c.first) in
      let fs : List Free = if b then free_target there i c.target ++ [] else [] in
      let all : its_free i ≡ fs =
      are i e at ∙ ap₂ (λ r xs. free_by there i r xs ++ more i r) c.right c.targets ∙ ap (λ zs. fs ++ zs) (alone i c.op (Read c.first ∷ c.second ∷ [])) ∙ append-nil fs in
      let mine : Along (At V i) (c.target ∷ []) (p ∷ []) = subst (λ xs. Along (At V i) xs (p ∷ [])) c.targets h in
      subst (λ zs. Kept V zs g) (sym all) (compared-kept V there i c.target p b g mine.0 (sym (ap length all) ∙ many) is)

  -- a call
  of-call : (i : ℕ) (e : FlatEqn) (l : List Ty) (f : List ℕ) (v : Prefix) (g : List FreePlace) → slice_get es i ≡ Some e → (c : Calls given k d e l) → c.callee ≡ f → length (its_free i) ≡ length g → P v → g ≡ free_outputs (outs f) v ++ free_among (callee f v)
      → Along (At V i) e.targets (map (λ (o : List ℕ). v (Named o ∷ [])) (map (λ (d : Decl). d.name) (outs f))) → Kept V (its_free i) g
  of-call i e l f v g at c it many p is h =
      let ds = outs f in
      let outputs : outputs_of (k.nodes c.callee) ≡ ds = ap (λ z. outputs_of (k.nodes z)) it ∙ sym (subst (λ z. outs z ≡ outputs_of (k.nodes z)) it (same i e c.callee c.args at c.right)) in
      let targets : e.targets ≡ numbers_from c.from ds = c.targets ∙ ap (numbers_from c.from) outputs in
      let own = flat_map (free_target there i) (numbers_from c.from ds) in
      let rest = more i e.right in
      let G = free_outputs ds v in
      let H = free_among (callee f v) in
      let all : its_free i ≡ own ++ rest = are i e at ∙ ap₂ (λ r xs. free_by there i r xs ++ rest) c.right targets in
      let first : Kept V own G = outputs-kept V there k d typed i c.from ds v (subst (Outputs k d c.from) outputs c.typed) (subst (λ xs. Along (At V i) xs (map (λ (o : List ℕ). v (Named o ∷ [])) (map (λ (d : Decl). d.name) ds))) targets h) in
      let a : length own ≡ length G = along-length Of own G first in
      let b : length own + length rest ≡ length G + length H = sym (length-append own rest) ∙ sym (ap length all) ∙ many ∙ ap length is ∙ length-append G H in
      let second : Kept V rest H = whatever V rest H (other f v p) (omega (arith, a, b)) in
      subst (λ zs. Kept V zs g) (sym all) (subst (Kept V (own ++ rest)) (sym is) (along-both Of own rest G H first second))

  one-kept : (i : ℕ) (e : FlatEqn) (l : List Ty) (c : Spot × Spot) (g : List FreePlace) → slice_get es i ≡ Some e → Brings given k d e l → length (its_free i) ≡ length g → IsEventOf e c.1 → AreAlike c.0 c.1 → IsGroupOf types outs callee P c.0 g
      → Along (At V i) e.targets (places_of c.0) → Kept V (its_free i) g
  one-kept i e l (compared o p, compared u q) g at (inl c) many ev al is h = of-comparison i e l p g at c many is h
  one-kept i e l (compared o p, compared u q) g at (inr c) many ev al is h = absurd (let no = sym ev.3 ∙ c.right in cc)
  one-kept i e l (called f ps, called m qs) g at (inl c) many ev al is h = absurd (let no = sym ev.1 ∙ c.right in cc)
  one-kept i e l (called f ps, called m qs) g at (inr c) many ev al is h =
      let right = sym ev.1 ∙ c.right in
      let it : c.callee ≡ f = cc in
      of-call i e l f is.0 g at c it many is.1 is.3 (subst (Along (At V i) e.targets) is.2 h)
  one-kept i e l (compared o p, called m qs) g at b many ev al is h = absurd al
  one-kept i e l (called f ps, compared u q) g at b many ev al is h = absurd al

  same_eqn : (i : ℕ) (e u : FlatEqn) → slice_get es i ≡ Some e → slice_get es i ≡ Some u → u ≡ e
  same_eqn i e u h k = let both = sym k ∙ h in cc

  pub all-kept : (order : List ℕ) (L : List (List Ty)) (fs : Both) (gs : List (List FreePlace)) → Along (AtNumber (Brings given k d) es) order L → L ≡ types_apiece gs → Along (IsNumberOf es) order (map (λ (s : Spot × Spot). s.1) fs)
      → Along (λ (c : Spot × Spot) (g : List FreePlace). IsGroupOf types outs callee P c.0 g × AreAlike c.0 c.1) fs gs → Along (Targets V es) order fs → Kept V (flat_map its_free order) (in_a_row gs)
  all-kept [] L [] [] a e b h t = tt
  all-kept [] L [] (g ∷ gs) a e b h t = absurd h
  all-kept [] L (c ∷ fs) gs a e b h t = absurd t
  all-kept (i ∷ order) [] fs gs a e b h t = absurd a
  all-kept (i ∷ order) (l ∷ L) [] gs a e b h t = absurd t
  all-kept (i ∷ order) (l ∷ L) (c ∷ fs) [] a e b h t = absurd h
  all-kept (i ∷ order) (l ∷ L) (c ∷ fs) (g ∷ gs) a e b h t =
      let at = a.0.1 in
      let u = a.0.0 in
      let first : l ≡ types_of_places g = cc in
      let others : L ≡ types_apiece gs = cc in
      let event : IsEventOf u c.1 = subst (λ (z : FlatEqn). IsEventOf z c.1) (same_eqn i u b.0.0 at b.0.1) b.0.2 in
      let mine : Along (At V i) u.targets (places_of c.0) = subst (λ (z : FlatEqn). Along (At V i) z.targets (places_of c.0)) (same_eqn i u t.0.0 at t.0.1) t.0.2 in
      along-both Of (its_free i) (flat_map its_free order) g (in_a_row gs)
      (one-kept i u l c g at a.0.2 (as-many i u l g at a.0.2 first) event h.0.1 h.0.0 mine) (all-kept order L fs gs a.1 others b.1 h.1 t.1)
