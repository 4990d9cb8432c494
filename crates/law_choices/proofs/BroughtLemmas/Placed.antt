-- The types of the free places of a node in which observers stand.
use Rattle.std.proofs.Common.{◌≡◌, inl, inr, ℕ, zero, suc, ◌+◌, ◌<◌, ◌≤◌, Bool, true, false, if◌then◌else◌, nat_lt, List, [], ◌∷◌, ◌++◌, length, map, slice_get, Option, None, Some, refl, sym, ap, ap₂, subst, ◌∙◌, arith}
use Rattle.std.specs.List.{AllByRecursion, flat_map}
use Rattle.std.proofs.lemmas.Bool.Decides.{nat_tests}
use Rattle.std.proofs.lemmas.List.{append-nil, length-append, map-append}
use Rattle.hp_base.specs.declared.ty.Ty.{Ty}
use Rattle.hp_base.specs.declared.ty.Ty.TheVariants as ty
use Rattle.hp_flat.specs.declared.node.FlatTy.{FlatTy}
use Rattle.hp_flat.specs.declared.node.FlatTy.TheVariants as flat
use Rattle.hp_flat.specs.Equations.{FlatEqn, Right, called, operator, register}
use Rattle.hp_flat.specs.Nodes.{FlatNode}
use Rattle.hp_tree.specs.Blocks.{Decl}
use Rattle.hp_watch.specs.declared.embedding.Shift.{Shift}
use Rattle.hp_watch.specs.declared.watching.Free.{Free}
use Rattle.hp_watch.specs.Adding.{type_at, type_of}
use Rattle.hp_watch.specs.Embedding.{Site, embedded, shift_of}
use Rattle.hp_watch.specs.Growing.{Grows}
use Rattle.hp_watch.specs.Watching.{Observed, Observing, Placed, called_by, free_at, free_by, free_of, free_moved, free_placed, free_placed_by, free_target, is_integer, moved_free, or_none, placed, shift_at, site_of, with_called, with_observer}
use Rattle.law_automata.specs.Lowered.Standing.{Along}
use Rattle.law_equations.specs.Flattened.Flatten.{Prefix}
use Rattle.law_equations.specs.Made.Making.{Known, Sketch, flat_type, numbers_from, outputs_of}
use Rattle.law_wellmade.proofs.BegunLemmas.Keeping.{HasType}
use Rattle.law_wellmade.proofs.RegularLemmas.Expressions.{Outputs}
use Rattle.law_choices.proofs.AddingLemmas.Embeds.{embedded-grows, embedded-type}
use Rattle.law_choices.proofs.AddingLemmas.One.{grows-both, grows-length, grows-self, type-grown}
use Rattle.law_choices.proofs.AddingLemmas.Surveyed.{get_front, get_last, get_some, number_below}
use Rattle.law_choices.proofs.BroughtLemmas.Brought.{Brings, Calls, Compares, free_types, joined_types, of_compared}
use Rattle.law_choices.proofs.PlacesLemmas.Numbers.{AtNumber}
use Rattle.law_choices.proofs.PlacesLemmas.Slots.{outputs_slots}

-- ---- types of places

abbrev pub types_in : FlatNode → List Free → List FlatTy
types_in n fs = map (λ (f : Free). type_at n f.variable) fs

-- they are variables of the node
abbrev pub AreIn : FlatNode → List Free → Type 0
AreIn n fs = AllByRecursion (λ (f : Free). f.variable < length n.variables) fs

pub in-both : (n : FlatNode) (fs gs : List Free) → AreIn n fs → AreIn n gs → AreIn n (fs ++ gs)
in-both n [] gs h k = k
in-both n (f ∷ fs) gs h k = (h.0, in-both n fs gs h.1 k)

pub types-grown : (n m : FlatNode) → Grows n m → (fs : List Free) → AreIn n fs → types_in m fs ≡ types_in n fs
types-grown n m g [] h = refl
types-grown n m g (f ∷ fs) h = ap₂ (λ t ts. t ∷ ts) (type-grown n m f.variable g h.0) (types-grown n m g fs h.1)

pub in-grown : (n m : FlatNode) → Grows n m → (fs : List Free) → AreIn n fs → AreIn m fs
in-grown n m g [] h = tt
in-grown n m g (f ∷ fs) h = let l = grows-length n m g in let b = h.0 in (omega (arith, l, b), in-grown n m g fs h.1)

-- those of an observer, where it stands
pub types-moved : (observer : FlatNode) (site : Site) (n : FlatNode) (fs : List Free) → AreIn observer fs → types_in (embedded observer site n) (map (moved_free (shift_of observer site n)) fs) ≡ types_in observer fs
types-moved observer site n [] h = refl
types-moved observer site n (f ∷ fs) h = ap₂ (λ t ts. t ∷ ts) (embedded-type observer site n f.variable h.0).0 (types-moved observer site n fs h.1)

pub in-moved : (observer : FlatNode) (site : Site) (n : FlatNode) (fs : List Free) → AreIn observer fs → AreIn (embedded observer site n) (map (moved_free (shift_of observer site n)) fs)
in-moved observer site n [] h = tt
in-moved observer site n (f ∷ fs) h = ((embedded-type observer site n f.variable h.0).1, in-moved observer site n fs h.1)

-- ---- one equation

-- integers are no free places
abbrev pub shown : FlatTy → List FlatTy
shown t = if is_integer t then [] else t ∷ []

abbrev pub shown_types : (List ℕ → Option ℕ) → List Decl → List FlatTy
shown_types places [] = []
shown_types places (d ∷ ds) = shown (flat_type places d.ty) ++ shown_types places ds

target-types : (n : FlatNode) (i x : ℕ) (t : FlatTy) → type_at n x ≡ t → types_in n (free_target n i x) ≡ shown t
target-types n i x flat.Bool e = ap (λ u. types_in n (if is_integer u then [] else record { variable = x; eqn = Some i } ∷ [])) e ∙ ap (λ u. u ∷ []) e
target-types n i x flat.Int e = ap (λ u. types_in n (if is_integer u then [] else record { variable = x; eqn = Some i } ∷ [])) e
target-types n i x (flat.Enum y) e = ap (λ u. types_in n (if is_integer u then [] else record { variable = x; eqn = Some i } ∷ [])) e ∙ ap (λ u. u ∷ []) e

target-in : (n : FlatNode) (i x : ℕ) → x < length n.variables → AreIn n (free_target n i x)
target-in n i x l = by (is_integer (type_at n x))
  where
    by : (b : Bool) → AreIn n (if b then [] else record { variable = x; eqn = Some i } ∷ [])
    by true = tt
    by false = (l, tt)

either-in : (n : FlatNode) (b : Bool) (fs : List Free) → AreIn n fs → AreIn n (if b then fs else [])
either-in n true fs h = h
either-in n false fs h = tt

module _ (given : List ℕ → List Ty) (k : Known) (d : Sketch) (n : FlatNode) (types : (x : ℕ) (t : FlatTy) → HasType d x t → (type_at n x ≡ t) × (x < length n.variables)) where
  targets-types : (i from : ℕ) (os : List Decl) → Outputs k d from os → types_in n (flat_map (free_target n i) (numbers_from from os)) ≡ shown_types k.types os
  targets-types i from [] h = refl
  targets-types i from (o ∷ os) h =
      map-append (λ (f : Free). type_at n f.variable) (free_target n i from) (flat_map (free_target n i) (numbers_from (from + 1) os))
      ∙ ap₂ (λ xs ys. xs ++ ys) (target-types n i from (flat_type k.types o.ty) (types from (flat_type k.types o.ty) h.0).0) (targets-types i (from + 1) os h.1)

  targets-in : (i from : ℕ) (os : List Decl) → Outputs k d from os → AreIn n (flat_map (free_target n i) (numbers_from from os))
  targets-in i from [] h = tt
  targets-in i from (o ∷ os) h = in-both n (free_target n i from) (flat_map (free_target n i) (numbers_from (from + 1) os)) (target-in n i from (types from (flat_type k.types o.ty) h.0).1) (targets-in i (from + 1) os h.1)

  -- a comparison
  pub compared-types : (i : ℕ) (e : FlatEqn) (l : List Ty) → Compares k d e l → types_in n (free_by n i e.right e.targets) ≡ map (flat_type k.types) l
  compared-types i e l c =
      ap₂ (λ r xs. types_in n (free_by n i r xs)) c.right c.targets ∙ ap (λ t. types_in n (if is_integer t then free_target n i c.target ++ [] else [])) (types c.first (flat_type k.types c.type) c.typed).0
      ∙ by c.type ∙ ap (map (flat_type k.types)) (sym c.brings)
    where
      one : types_in n (free_target n i c.target ++ []) ≡ flat.Bool ∷ []
      one = ap (types_in n) (append-nil (free_target n i c.target)) ∙ target-types n i c.target flat.Bool (types c.target flat.Bool c.truth).0

      by : (t : Ty) → types_in n (if is_integer (flat_type k.types t) then free_target n i c.target ++ [] else []) ≡ map (flat_type k.types) (of_compared (Some t))
      by ty.Bool = refl
      by ty.Int = one
      by (ty.Enum x) = refl

  -- the outputs of a call
  pub called-types : (i : ℕ) (e : FlatEqn) (l : List Ty) (c : Calls given k d e l) → types_in n (free_by n i e.right e.targets) ≡ shown_types k.types (outputs_of (k.nodes c.callee))
  called-types i e l c = ap₂ (λ r xs. types_in n (free_by n i r xs)) c.right c.targets ∙ targets-types i c.from (outputs_of (k.nodes c.callee)) c.typed

  pub brought-in : (i : ℕ) (e : FlatEqn) (l : List Ty) → Brings given k d e l → AreIn n (free_by n i e.right e.targets)
  brought-in i e l (inl c) =
      subst (λ r. AreIn n (free_by n i r e.targets)) (sym c.right) (subst (λ xs. AreIn n (if is_integer (type_at n c.first) then flat_map (free_target n i) xs else [])) (sym c.targets)
      (either-in n (is_integer (type_at n c.first)) (free_target n i c.target ++ []) (in-both n (free_target n i c.target) [] (target-in n i c.target (types c.target flat.Bool c.truth).1) tt)))
  brought-in i e l (inr c) =
      subst (λ r. AreIn n (free_by n i r e.targets)) (sym c.right) (subst (λ xs. AreIn n (flat_map (free_target n i) xs)) (sym c.targets) (targets-in i c.from (outputs_of (k.nodes c.callee)) c.typed))

-- ---- observers of calls

-- the types of the free places of an observer, if there is one
abbrev pub observed_types : Option Observed → List FlatTy
observed_types None = []
observed_types (Some o) = types_in o.node o.free

module _ (observers : Observing) (inside : (f : List ℕ) (o : Observed) → observers f ≡ Some o → AreIn o.node o.free) (n begun : FlatNode) (grown : Grows n begun) where
  called-inside : (r : Right) (o : Observed) → called_by observers r ≡ Some o → AreIn o.node o.free
  called-inside (called f args) o e = inside f o e
  called-inside (operator op args) o e = absurd cc
  called-inside (register v a) o e = absurd cc

  -- those of the first so many equations stand, with their types
  record Stands (k : ℕ) (p : Placed) : Type 0 where
    later : Grows begun p.node
    count : length p.shifts ≡ k
    calls : (j : ℕ) (e : FlatEqn) (o : Observed) → j < k → slice_get n.eqns j ≡ Some e → called_by observers e.right ≡ Some o
        → (s : Shift) × (shift_at p.shifts j ≡ Some s) × (types_in p.node (map (moved_free s) o.free) ≡ types_in o.node o.free) × AreIn p.node (map (moved_free s) o.free)

  some_same : {A : Type 0} (x y : A) → Some x ≡ Some y → x ≡ y
  some_same x y e = cc

  not_less : (j k : ℕ) → nat_lt j k ≡ false → j < suc k → j ≡ k
  not_less j k e l = grind (arith, nat_tests, e, l)

  less : (j k : ℕ) → nat_lt j k ≡ true → j < k
  less j k e = grind (arith, nat_tests, e)

  module _ (k : ℕ) (p : Placed) (t : Stands k p) (e : FlatEqn) (at : slice_get n.eqns k ≡ Some e) where
    -- where they stood
    earlier : (x : Option Shift) (j : ℕ) → j < k → shift_at (p.shifts ++ x ∷ []) j ≡ shift_at p.shifts j
    earlier x j l = let c = t.count in ap or_none (get_front p.shifts (x ∷ []) j (omega (arith, c, l)))

    last : (x : Option Shift) → shift_at (p.shifts ++ x ∷ []) k ≡ x
    last x = let c = t.count in ap (λ i. or_none (slice_get (p.shifts ++ x ∷ []) i)) (sym c) ∙ ap or_none (get_last p.shifts x)

    counted : (x : Option Shift) → length (p.shifts ++ x ∷ []) ≡ suc k
    counted x = let c = t.count in let l = length-append p.shifts (x ∷ []) in omega (arith, c, l)

    more : (u : Option Observed) → called_by observers e.right ≡ u → Stands (suc k) (with_observer u (site_of e) p)
    more None is = record {
      later = t.later;
      count = counted None;
      calls = λ j d o l there by_it. by j d o there by_it (nat_lt j k) refl l;
    }
      where
        by : (j : ℕ) (d : FlatEqn) (o : Observed) → slice_get n.eqns j ≡ Some d → called_by observers d.right ≡ Some o → (b : Bool) → nat_lt j k ≡ b → j < suc k
            → (s : Shift) × (shift_at (p.shifts ++ None ∷ []) j ≡ Some s) × (types_in p.node (map (moved_free s) o.free) ≡ types_in o.node o.free) × AreIn p.node (map (moved_free s) o.free)
        by j d o there c true q l = let h = t.calls j d o (less j k q) there c in (h.0, earlier None j (less j k q) ∙ h.1, h.2, h.3)
        by j d o there c false q l =
            let same : d ≡ e = some_same d e (sym there ∙ ap (slice_get n.eqns) (not_less j k q l) ∙ at) in
            absurd (let no : Some o ≡ None = sym c ∙ ap (λ (z : FlatEqn). called_by observers z.right) same ∙ is in cc)
    more (Some o) is = record {
      later = grows-both begun p.node there_node t.later grows;
      count = counted (Some shift);
      calls = λ j d u l there by_it. by j d u there by_it (nat_lt j k) refl l;
    }
      where
        site : Site
        site = site_of e

        there_node : FlatNode
        there_node = embedded o.node (site_of e) p.node

        shift : Shift
        shift = shift_of o.node (site_of e) p.node

        grows : Grows p.node (embedded o.node (site_of e) p.node)
        grows = embedded-grows o.node (site_of e) p.node

        by : (j : ℕ) (d : FlatEqn) (u : Observed) → slice_get n.eqns j ≡ Some d → called_by observers d.right ≡ Some u → (b : Bool) → nat_lt j k ≡ b → j < suc k
            → (s : Shift) × (shift_at (p.shifts ++ Some (shift_of o.node (site_of e) p.node) ∷ []) j ≡ Some s) × (types_in (embedded o.node (site_of e) p.node) (map (moved_free s) u.free) ≡ types_in u.node u.free)
            × AreIn (embedded o.node (site_of e) p.node) (map (moved_free s) u.free)
        by j d u there c true q l =
            let h = t.calls j d u (less j k q) there c in
            let m = embedded o.node (site_of e) p.node in
            let g = embedded-grows o.node (site_of e) p.node in (
              h.0,
              earlier (Some (shift_of o.node (site_of e) p.node)) j (less j k q) ∙ h.1,
              types-grown p.node m g (map (moved_free h.0) u.free) h.3 ∙ h.2,
              in-grown p.node m g (map (moved_free h.0) u.free) h.3,
            )
        by j d u there c false q l =
            let here = not_less j k q l in
            let same : d ≡ e = some_same d e (sym there ∙ ap (slice_get n.eqns) here ∙ at) in
            let one : u ≡ o = some_same u o (sym c ∙ ap (λ (z : FlatEqn). called_by observers z.right) same ∙ is) in
            let s = shift_of o.node (site_of e) p.node in
            let m = embedded o.node (site_of e) p.node in
            let known = called-inside e.right o is in (
              s,
              ap (shift_at (p.shifts ++ Some s ∷ [])) here ∙ last (Some s),
              subst (λ (z : Observed). types_in m (map (moved_free s) z.free) ≡ types_in z.node z.free) (sym one) (types-moved o.node (site_of e) p.node o.free known),
              subst (λ (z : Observed). AreIn m (map (moved_free s) z.free)) (sym one) (in-moved o.node (site_of e) p.node o.free known),
            )

  same_at : (k : ℕ) (p : Placed) (t : Stands k p) (j : ℕ) → j < length n.eqns → slice_get p.node.eqns j ≡ slice_get n.eqns j
  same_at k p t j l = let g = grows-both n begun p.node grown t.later in let e = g.eqns in ap (λ es. slice_get es j) e.1 ∙ get_front n.eqns e.0 j l

  all-stand : (k : ℕ) → k ≤ length n.eqns → Stands k (placed observers k begun)
  all-stand zero l = record { later = grows-self begun; count = refl; calls = λ j e o m there c. absurd (omega (arith, m)) }
  all-stand (suc k) l =
      let p = placed observers k begun in
      let t = all-stand k (omega (arith, l)) in
      let some = get_some n.eqns k (omega (arith, l)) in
      subst (λ u. Stands (suc k) (with_called observers u p)) (sym (same_at k p t k (omega (arith, l)) ∙ some.1)) (more k p t some.0 some.1 (called_by observers (some.0).right) refl)

  abbrev pub last_placed : Placed
  last_placed = placed observers (length n.eqns) begun

  last-stands : Stands (length n.eqns) (placed observers (length n.eqns) begun)
  last-stands = all-stand (length n.eqns) (omega arith)

  -- where an equation of the node stands, with what its call brings
  pub placed-is : (i : ℕ) (e : FlatEqn) → slice_get n.eqns i ≡ Some e → free_placed observers last_placed i ≡ free_by last_placed.node i e.right e.targets ++ free_moved (called_by observers e.right) (shift_at last_placed.shifts i)
  placed-is i e at = ap (λ u. free_placed_by observers last_placed i u) (same_at (length n.eqns) last_placed last-stands i (number_below n.eqns i e at) ∙ at)

  pub placed-grows : Grows begun last_placed.node
  placed-grows = (last-stands).later

  -- ---- the free places of comparisons and calls

  module _ (given : List ℕ → List Ty) (k : Known) (d : Sketch) (variables : n.variables ≡ d.variables) (gives : (f : List ℕ) → map (flat_type k.types) (given f) ≡ shown_types k.types (outputs_of (k.nodes f)) ++ observed_types (observers f)) where
    abbrev there : FlatNode
    there = last_placed.node

    pub typed-there : (x : ℕ) (t : FlatTy) → HasType d x t → (type_at there x ≡ t) × (x < length there.variables)
    typed-there x t h =
        let g = grows-both n begun there grown placed-grows in
        let in_node : slice_get n.variables x ≡ Some h.0 = ap (λ vs. slice_get vs x) variables ∙ h.1 in
        let l = number_below n.variables x h.0 in_node in
        let m = grows-length n there g in
        (type-grown n there x g l ∙ ap type_of in_node ∙ h.2, omega (arith, l, m))

    -- those that an observer brings at a call
    moved-types : (i : ℕ) (e : FlatEqn) → slice_get n.eqns i ≡ Some e → (u : Option Observed) → called_by observers e.right ≡ u → types_in there (free_moved u (shift_at last_placed.shifts i)) ≡ observed_types u
    moved-types i e at None is = refl
    moved-types i e at (Some o) is =
        let l = number_below n.eqns i e at in
        let h = (last-stands).calls i e o l at is in
        ap (λ s. types_in there (free_moved (Some o) s)) h.1 ∙ h.2

    pub one-types : (i : ℕ) (e : FlatEqn) (l : List Ty) → slice_get n.eqns i ≡ Some e → Brings given k d e l → types_in there (free_placed observers last_placed i) ≡ map (flat_type k.types) l
    one-types i e l at b =
        let below = number_below n.eqns i e at in
        ap (λ u. types_in there (free_placed_by observers last_placed i u)) (same_at (length n.eqns) last_placed last-stands i below ∙ at)
        ∙ map-append (λ (f : Free). type_at there f.variable) (free_by there i e.right e.targets) (free_moved (called_by observers e.right) (shift_at last_placed.shifts i))
        ∙ ap (λ ts. types_in there (free_by there i e.right e.targets) ++ ts) (moved-types i e at (called_by observers e.right) refl)
        ∙ by b
      where
        by : Brings given k d e l → types_in there (free_by there i e.right e.targets) ++ observed_types (called_by observers e.right) ≡ map (flat_type k.types) l
        by (inl c) =
            ap₂ (λ ts r. ts ++ observed_types (called_by observers r)) (compared-types given k d there typed-there i e l c) c.right ∙ append-nil (map (flat_type k.types) l)
        by (inr c) =
            ap₂ (λ ts r. ts ++ observed_types (called_by observers r)) (called-types given k d there typed-there i e l c) c.right ∙ sym (gives c.callee) ∙ ap (map (flat_type k.types)) (sym c.brings)

    pub placed-types : (order : List ℕ) (L : List (List Ty)) → Along (AtNumber (Brings given k d) n.eqns) order L → types_in there (flat_map (free_placed observers last_placed) order) ≡ map (flat_type k.types) (joined_types L)
    placed-types [] [] a = refl
    placed-types [] (l ∷ L) a = absurd a
    placed-types (i ∷ order) [] a = absurd a
    placed-types (i ∷ order) (l ∷ L) a =
        map-append (λ (f : Free). type_at there f.variable) (free_placed observers last_placed i) (flat_map (free_placed observers last_placed) order)
        ∙ ap₂ (λ xs ys. xs ++ ys) (one-types i a.0.0 l a.0.1 a.0.2) (placed-types order L a.1)
        ∙ sym (map-append (flat_type k.types) l (joined_types L))

    moved-in : (i : ℕ) (e : FlatEqn) → slice_get n.eqns i ≡ Some e → (u : Option Observed) → called_by observers e.right ≡ u → AreIn there (free_moved u (shift_at last_placed.shifts i))
    moved-in i e at None is = tt
    moved-in i e at (Some o) is =
        let h = (last-stands).calls i e o (number_below n.eqns i e at) at is in
        subst (λ s. AreIn there (free_moved (Some o) s)) (sym h.1) h.3

    one-in : (i : ℕ) (e : FlatEqn) (l : List Ty) → slice_get n.eqns i ≡ Some e → Brings given k d e l → AreIn there (free_placed observers last_placed i)
    one-in i e l at b =
        subst (λ u. AreIn there (free_placed_by observers last_placed i u)) (sym (same_at (length n.eqns) last_placed last-stands i (number_below n.eqns i e at) ∙ at))
        (in-both there (free_by there i e.right e.targets) (free_moved (called_by observers e.right) (shift_at last_placed.shifts i)) (brought-in given k d there typed-there i e l b) (moved-in i e at (called_by observers e.right) refl))

    pub placed-in : (order : List ℕ) (L : List (List Ty)) → Along (AtNumber (Brings given k d) n.eqns) order L → AreIn there (flat_map (free_placed observers last_placed) order)
    placed-in [] [] a = tt
    placed-in [] (l ∷ L) a = absurd a
    placed-in (i ∷ order) [] a = absurd a
    placed-in (i ∷ order) (l ∷ L) a =
        in-both there (free_placed observers last_placed i) (flat_map (free_placed observers last_placed) order) (one-in i a.0.0 l a.0.1 a.0.2) (placed-in order L a.1)

-- ---- the free places of an observer

module _ (given : List ℕ → List Ty) (k : Known) (d : Sketch) (n : FlatNode) (variables : n.variables ≡ d.variables) (gives : (f : List ℕ) → map (flat_type k.types) (given f) ≡ shown_types k.types (outputs_of (k.nodes f))) where
  pub typed-here : (x : ℕ) (t : FlatTy) → HasType d x t → (type_at n x ≡ t) × (x < length n.variables)
  typed-here x t h =
      let at : slice_get n.variables x ≡ Some h.0 = ap (λ vs. slice_get vs x) variables ∙ h.1 in
      (ap type_of at ∙ h.2, number_below n.variables x h.0 at)

  pub here-types : (i : ℕ) (e : FlatEqn) (l : List Ty) → Brings given k d e l → types_in n (free_by n i e.right e.targets) ≡ map (flat_type k.types) l
  here-types i e l (inl c) = compared-types given k d n typed-here i e l c
  here-types i e l (inr c) = called-types given k d n typed-here i e l c ∙ sym (gives c.callee) ∙ ap (map (flat_type k.types)) (sym c.brings)

  pub own-types : (order : List ℕ) (L : List (List Ty)) → Along (AtNumber (Brings given k d) n.eqns) order L → (types_in n (flat_map (free_at n) order) ≡ map (flat_type k.types) (joined_types L)) × AreIn n (flat_map (free_at n) order)
  own-types [] [] a = (refl, tt)
  own-types [] (l ∷ L) a = absurd a
  own-types (i ∷ order) [] a = absurd a
  own-types (i ∷ order) (l ∷ L) a =
      let e = a.0.0 in
      let rest = own-types order L a.1 in
      let one : types_in n (free_at n i) ≡ map (flat_type k.types) l = ap (λ u. types_in n (free_of n i u)) a.0.1 ∙ here-types i e l a.0.2 in
      let within : AreIn n (free_at n i) = subst (λ u. AreIn n (free_of n i u)) (sym a.0.1) (brought-in given k d n typed-here i e l a.0.2) in (
        map-append (λ (f : Free). type_at n f.variable) (free_at n i) (flat_map (free_at n) order) ∙ ap₂ (λ xs ys. xs ++ ys) one rest.0 ∙ sym (map-append (flat_type k.types) l (joined_types L)),
        in-both n (free_at n i) (flat_map (free_at n) order) within rest.1,
      )

-- ---- declarations in a row

-- integers are no slots of outputs either
pub outputs-shown : (places : List ℕ → Option ℕ) (ds : List Decl) (w : Prefix) → map (flat_type places) (free_types (outputs_slots ds w)) ≡ shown_types places ds
outputs-shown places [] w = refl
outputs-shown places (d ∷ ds) w = by d.ty (outputs-shown places ds w)
  where
    by : (t : Ty) → map (flat_type places) (free_types (outputs_slots ds w)) ≡ shown_types places ds → map (flat_type places) (free_types (outputs_slots (record d { ty = t } ∷ ds) w)) ≡ shown_types places (record d { ty = t } ∷ ds)
    by ty.Bool h = ap (λ ts. flat.Bool ∷ ts) h
    by ty.Int h = h
    by (ty.Enum x) h = ap (λ ts. flat_type places (ty.Enum x) ∷ ts) h
