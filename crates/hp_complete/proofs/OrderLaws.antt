-- Ranks of the graph of some equations are ranks of the equations, and a cycle of it is a circle of them.
use Rattle.std.proofs.Common.{◌≡◌, ℕ, zero, suc, ◌+◌, ◌<◌, ◌≤◌, nat_eq, get_or, map, Bool, true, false, ◌||◌, List, [], ◌∷◌, ◌++◌, Some, refl, sym, ap, subst, ◌∙◌, inl, inr, ◌⊎◌, arith}
use Rattle.std.specs.Prelude.{All, Contains, slice_get}
use Rattle.std.specs.List.{AllByRecursion, flat_map}
use Rattle.std.proofs.lemmas.Bool.{eqb-true}
use Rattle.std.proofs.lemmas.List.Elements.{All-head, All-tail, All-nil, All-cons, All-append, All-map, All-weaker, All-contains, All-contains_itself, recursion_from_All, Contains-append_right}
use Rattle.hp_flat.specs.Equations.{Right, operator, register, called, FlatEqn}
use Rattle.hp_flat.specs.declared.equation.Atom.{Atom}
use Rattle.hp_flat.specs.declared.equation.Atom.TheVariants.{Variable, Value}
use Rattle.law_equations.specs.Meaning.Fitting.{atom_variables}
use Rattle.law_equations.specs.Meaning.Reactions.{has}
use Rattle.law_equations.specs.Meaning.Scheduling.{clock_variables, right_reads, reads, IsDefinedBelow, IsRanked}
use Rattle.hp_graph.specs.Graphs.{IsEdge, Leads, IsCycle}
use Rattle.hp_complete.specs.Edges.{edges_to, edges_from, edges_of_eqn, edges_of, placed}
use Rattle.hp_complete.specs.Ordering.{unplaced, ReadsOf, ReadOn, IsCircular}
use Rattle.hp_complete.specs.Ranges.{AtomWithin, RightWithin, EqnWithin}

-- ---- ranks

by_has : (P : ℕ → Type 0) (y x : ℕ) (d r : Bool) → nat_eq y x ≡ d → P y → (r ≡ true → P x) → (d || r) ≡ true → P x
by_has P y x true r e p rest h = subst P (eqb-true y x e) p
by_has P y x false r e p rest h = rest h

-- what holds of all numbers of a list holds of one
each-has : (P : ℕ → Type 0) (ys : List ℕ) (x : ℕ) → All P ys → has ys x ≡ true → P x
each-has P [] x h t = absurd cc
each-has P (y ∷ ys) x h t = by_has P y x (nat_eq y x) (has ys x) refl (All-head P y ys h) (each-has P ys x (All-tail P y ys h)) t

all_first : {A : Type 0} (P : A → Type 0) (xs ys : List A) → All P (xs ++ ys) → All P xs
all_first P [] ys h = All-nil P
all_first P (x ∷ xs) ys h = All-cons P x xs (All-head P x (xs ++ ys) h) (all_first P xs ys (All-tail P x (xs ++ ys) h))

all_second : {A : Type 0} (P : A → Type 0) (xs ys : List A) → All P (xs ++ ys) → All P ys
all_second P [] ys h = h
all_second P (x ∷ xs) ys h = all_second P xs ys (All-tail P x (xs ++ ys) h)

mapped : {A B : Type 0} (P : B → Type 0) (f : A → B) (xs : List A) → All P (map f xs) → All (λ x. P (f x)) xs
mapped P f [] h = All-nil (λ x. P (f x))
mapped P f (x ∷ xs) h = All-cons (λ y. P (f y)) x xs (All-head P (f x) (map f xs) h) (mapped P f xs (All-tail P (f x) (map f xs) h))

module _ (ranks : List ℕ) where
  abbrev rank : ℕ → ℕ
  rank x = get_or ranks x 0

  abbrev Falls : ℕ × ℕ → Type 0
  Falls e = rank e.1 < rank e.0

  -- an equation is placed above the ranks of what it reads
  abbrev ReadsBelow : FlatEqn → Type 0
  ReadsBelow e = All (λ x. rank x < e.at) (reads e)

  -- and below those of what it defines
  abbrev DefinesAbove : FlatEqn → Type 0
  DefinesAbove d = All (λ x. d.at < rank x) d.targets

  reads_below : (v : ℕ) (es : List FlatEqn) → All Falls (edges_of v es) → All ReadsBelow (placed ranks v es)
  reads_below v [] h = All-nil ReadsBelow
  reads_below v (e ∷ es) h =
      All-cons ReadsBelow (record e { at = rank v }) (placed ranks (v + 1) es)
      (mapped Falls (λ x. (v, x)) (reads e) (all_first Falls (edges_to v (reads e)) (edges_from v e.targets) (all_first Falls (edges_of_eqn v e) (edges_of (v + 1) es) h)))
      (reads_below (v + 1) es (all_second Falls (edges_of_eqn v e) (edges_of (v + 1) es) h))

  defines_above : (v : ℕ) (es : List FlatEqn) → All Falls (edges_of v es) → All DefinesAbove (placed ranks v es)
  defines_above v [] h = All-nil DefinesAbove
  defines_above v (e ∷ es) h =
      All-cons DefinesAbove (record e { at = rank v }) (placed ranks (v + 1) es)
      (mapped Falls (λ x. (x, v)) e.targets (all_second Falls (edges_to v (reads e)) (edges_from v e.targets) (all_first Falls (edges_of_eqn v e) (edges_of (v + 1) es) h)))
      (defines_above (v + 1) es (all_second Falls (edges_of_eqn v e) (edges_of (v + 1) es) h))

  below_by : (es : List FlatEqn) (e : FlatEqn) (x : ℕ) → All DefinesAbove es → rank x < e.at → IsDefinedBelow es e x
  below_by es e x h lt =
      recursion_from_All (λ (d : FlatEqn). has d.targets x ≡ true → d.at < e.at) es
      (All-weaker DefinesAbove (λ (d : FlatEqn). has d.targets x ≡ true → d.at < e.at) (λ d above t. let low : d.at < rank x = each-has (λ y. d.at < rank y) d.targets x above t in omega arith) es h)

  -- where ranks fall along all edges, the equations at their ranks are ranked
  pub ranked-placed : (v : ℕ) (es : List FlatEqn) → All Falls (edges_of v es) → IsRanked (placed ranks v es)
  ranked-placed v es h =
      let ps = placed ranks v es in
      recursion_from_All (λ (e : FlatEqn). AllByRecursion (IsDefinedBelow ps e) (reads e)) ps
      (All-weaker ReadsBelow (λ (e : FlatEqn). AllByRecursion (IsDefinedBelow ps e) (reads e))
      (λ e below. recursion_from_All (IsDefinedBelow ps e) (reads e) (All-weaker (λ x. rank x < e.at) (IsDefinedBelow ps e) (λ x lt. below_by ps e x (defines_above v es h) lt) (reads e) below))
      ps (reads_below v es h))

  -- they are the same equations
  pub same-placed : (v : ℕ) (es : List FlatEqn) → map unplaced (placed ranks v es) ≡ map unplaced es
  same-placed v [] = refl
  same-placed v (e ∷ es) = ap (λ more. unplaced e ∷ more) (same-placed (v + 1) es)

-- ---- what an equation within some variables reads

module _ (n : ℕ) where
  abbrev Low : ℕ → Type 0
  Low x = x < n

  atom_low : (a : Atom) → AtomWithin n a → All Low (atom_variables a)
  atom_low (Variable x) h = All-cons Low x [] h (All-nil Low)
  atom_low (Value v) h = All-nil Low

  atoms_low : (xs : List Atom) → All (AtomWithin n) xs → All Low (flat_map atom_variables xs)
  atoms_low [] h = All-nil Low
  atoms_low (a ∷ xs) h =
      All-append Low (atom_variables a) (flat_map atom_variables xs) (atom_low a (All-head (AtomWithin n) a xs h)) (atoms_low xs (All-tail (AtomWithin n) a xs h))

  right_low : (r : Right) → RightWithin n r → All Low (right_reads r)
  right_low (operator op args) h = atoms_low args h
  right_low (register first next) h = All-nil Low
  right_low (called f args) h = atoms_low args h

  reads_low : (e : FlatEqn) → EqnWithin n e → All Low (reads e)
  reads_low e h =
      All-append Low (clock_variables e.clock) (e.restart ++ right_reads e.right) (All-map Low (λ (s : ℕ × ℕ). s.0) e.clock h.clock)
      (All-append Low e.restart (right_reads e.right) h.restart (right_low e.right h.right))

-- ---- circles

-- an equation is the vertex of its place, from a number on
pub record IsVertex (v : ℕ) (es : List FlatEqn) (u : ℕ) (e : FlatEqn) : Type 0 where
  pub place : ℕ
  pub is : u ≡ v + place
  pub there : slice_get es place ≡ Some e

got : (es : List FlatEqn) (i : ℕ) (e : FlatEqn) → slice_get es i ≡ Some e → Contains es e
got [] i e h = absurd cc
got (d ∷ es) zero e h = let same : d ≡ e = cc in subst (Contains (d ∷ es)) same (All-head (Contains (d ∷ es)) d es (All-contains_itself (d ∷ es)))
got (d ∷ es) (suc i) e h = Contains-append_right (d ∷ []) es e (got es i e h)

module _ (v : ℕ) (es : List FlatEqn) where
  vertex_there : (u : ℕ) (e : FlatEqn) → IsVertex v es u e → Contains es e
  vertex_there u e at = got es at.place e at.there

  one_vertex : (u : ℕ) (e d : FlatEqn) → IsVertex v es u e → IsVertex v es u d → e ≡ d
  one_vertex u e d at other =
      let first : u ≡ v + at.place = at.is in
      let second : u ≡ v + other.place = other.is in
      let same : at.place ≡ other.place = omega arith in
      let both : Some e ≡ Some d = sym at.there ∙ ap (slice_get es) same ∙ other.there in
      cc

  module _ (n : ℕ) where
    -- an edge leads from an equation to a variable that it reads, or from a variable to an equation that defines it
    abbrev FromEqn : ℕ × ℕ → Type 0
    FromEqn p = (e : FlatEqn) × IsVertex v es p.0 e × Contains (reads e) p.1 × (p.1 < n)

    abbrev ToEqn : ℕ × ℕ → Type 0
    ToEqn p = (e : FlatEqn) × IsVertex v es p.1 e × Contains e.targets p.0 × (p.0 < n)

    abbrev Leaves : ℕ × ℕ → Type 0
    Leaves p = FromEqn p ⊎ ToEqn p

later_vertex : (v : ℕ) (d : FlatEqn) (es : List FlatEqn) (u : ℕ) (e : FlatEqn) → IsVertex (v + 1) es u e → IsVertex v (d ∷ es) u e
later_vertex v d es u e at =
    let first : u ≡ v + 1 + at.place = at.is in
    record { place = suc at.place; is = omega arith; there = at.there }

later_edge : (v : ℕ) (d : FlatEqn) (es : List FlatEqn) (n : ℕ) (p : ℕ × ℕ) → Leaves (v + 1) es n p → Leaves v (d ∷ es) n p
later_edge v d es n p (inl f) = inl (f.0, later_vertex v d es p.0 f.0 f.1, f.2, f.3)
later_edge v d es n p (inr f) = inr (f.0, later_vertex v d es p.1 f.0 f.1, f.2, f.3)

first_vertex : (v : ℕ) (e : FlatEqn) (es : List FlatEqn) → IsVertex v (e ∷ es) v e
first_vertex v e es = record { place = 0; is = omega arith; there = refl }

edges_leave : (v : ℕ) (es : List FlatEqn) (n : ℕ) → All (EqnWithin n) es → All (Leaves v es n) (edges_of v es)
edges_leave v [] n h = All-nil (Leaves v [] n)
edges_leave v (e ∷ es) n h =
    let own = All-head (EqnWithin n) e es h in
    All-append (Leaves v (e ∷ es) n) (edges_of_eqn v e) (edges_of (v + 1) es)
    (All-append (Leaves v (e ∷ es) n) (edges_to v (reads e)) (edges_from v e.targets)
    (All-map (Leaves v (e ∷ es) n) (λ x. (v, x)) (reads e) (λ k d lt. inl (e, first_vertex v e es, All-contains_itself (reads e) k d lt, reads_low n e own k d lt)))
    (All-map (Leaves v (e ∷ es) n) (λ x. (x, v)) e.targets (λ k d lt. inr (e, first_vertex v e es, All-contains_itself e.targets k d lt, own.targets k d lt))))
    (All-weaker (Leaves (v + 1) es n) (Leaves v (e ∷ es) n) (later_edge v e es n) (edges_of (v + 1) es) (edges_leave (v + 1) es n (All-tail (EqnWithin n) e es h)))

module _ (n v : ℕ) (above : n ≤ v) (es : List FlatEqn) where
  too_low : {A : Type 0} (u : ℕ) (e : FlatEqn) → IsVertex v es u e → u < n → A
  too_low u e at lt =
      let is : u ≡ v + at.place = at.is in
      absurd (omega arith)

  module _ (target : FlatEqn) where
    -- equations of which an equation reads, and so on to the target
    pub record ComesBack (e : FlatEqn) : Type 0 where
      pub others : List FlatEqn
      pub there : All (Contains es) others
      pub on : ReadOn e others target

    -- an equation that defines a variable, and is the target or comes back to it
    pub record Defined (x : ℕ) : Type 0 where
      pub eqn : FlatEqn
      pub there : Contains es eqn
      pub defines : Contains eqn.targets x
      pub after : (eqn ≡ target) ⊎ ComesBack eqn

    read_by : (e d : FlatEqn) → Contains es d → ReadsOf e d → (d ≡ target) ⊎ ComesBack d → ComesBack e
    read_by e d there reads_of (inl same) = record { others = []; there = All-nil (Contains es); on = subst (ReadsOf e) same reads_of }
    read_by e d there reads_of (inr back) = record { others = d ∷ back.others; there = All-cons (Contains es) d back.others there back.there; on = (reads_of, back.on) }

    read_then : (e : FlatEqn) (x : ℕ) → Contains (reads e) x → Defined x → ComesBack e
    read_then e x h d = read_by e d.eqn d.there (x, h, d.defines) d.after

    module _ (end : ℕ) (at_end : IsVertex v es end target) where
      from_eqn_by : (u b : ℕ) (e : FlatEqn) → IsVertex v es u e → Leaves v es n (u, b) → (b < n → Defined b) → ComesBack e
      from_eqn_by u b e at (inl f) after =
          let same : f.0 ≡ e = one_vertex v es u f.0 e f.1 at in
          subst ComesBack same (read_then f.0 b f.2 (after f.3))
      from_eqn_by u b e at (inr f) after = too_low u e at f.3

      from_variable_by : (x b : ℕ) → x < n → Leaves v es n (x, b) → ((d : FlatEqn) → IsVertex v es b d → (d ≡ target) ⊎ ComesBack d) → Defined x
      from_variable_by x b lt (inl f) after = too_low x f.0 f.1 lt
      from_variable_by x b lt (inr f) after = record { eqn = f.0; there = vertex_there v es b f.0 f.1; defines = f.2; after = after f.0 f.1 }

      module _ (edges : List (ℕ × ℕ)) (each : All (Leaves v es n) edges) where
        edge : (a b : ℕ) → IsEdge edges a b → Leaves v es n (a, b)
        edge a b h = All-contains (Leaves v es n) edges (a, b) each h

        mutual
          pub from_eqn : (bs : List ℕ) (u : ℕ) (e : FlatEqn) → IsVertex v es u e → Leads edges u bs end → ComesBack e
          from_eqn [] u e at h = from_eqn_by u end e at (edge u end h) (λ lt. too_low end target at_end lt)
          from_eqn (b ∷ bs) u e at h = from_eqn_by u b e at (edge u b h.0) (λ lt. from_variable bs b lt h.1)

          from_variable : (bs : List ℕ) (x : ℕ) → x < n → Leads edges x bs end → Defined x
          from_variable [] x lt h = from_variable_by x end lt (edge x end h) (λ d at. inl (one_vertex v es end d target at at_end))
          from_variable (b ∷ bs) x lt h = from_variable_by x b lt (edge x b h.0) (λ d at. inr (from_eqn bs b d at h.1))

    closed : (e : FlatEqn) → Contains es e → e ≡ target → ComesBack e → IsCircular es
    closed e there same back = record {
      first = e;
      others = back.others;
      there = All-cons (Contains es) e back.others there back.there;
      circle = subst (ReadOn e back.others) (sym same) back.on;
    }

leads_more : (edges : List (ℕ × ℕ)) (bs : List ℕ) (a b c : ℕ) → Leads edges a bs b → IsEdge edges b c → Leads edges a (bs ++ b ∷ []) c
leads_more edges [] a b c h g = (h, g)
leads_more edges (d ∷ bs) a b c h g = (h.0, leads_more edges bs d b c h.1 g)

module _ (n : ℕ) (es : List FlatEqn) (within : All (EqnWithin n) es) where
  abbrev edges : List (ℕ × ℕ)
  edges = edges_of n es

  each : All (Leaves n es n) edges
  each = edges_leave n es n within

  round : (bs : List ℕ) (u : ℕ) (e : FlatEqn) → IsVertex n es u e → Leads edges u bs u → IsCircular es
  round bs u e at h = closed n n (omega arith) es e e (vertex_there n es u e at) refl (from_eqn n n (omega arith) es e u at edges each bs u e at h)

  -- from the first edge on
  round_by : (a b : ℕ) (bs : List ℕ) → Leaves n es n (a, b) → IsEdge edges a b → Leads edges b bs a → (FromEqn n es n (a, b) → IsCircular es) → IsCircular es
  round_by a b bs (inl f) e h own = own f
  round_by a b bs (inr f) e h own = round (bs ++ a ∷ []) b f.0 f.1 (leads_more edges bs b a b h e)

  itself : (a : ℕ) → Leaves n es n (a, a) → IsEdge edges a a → IsCircular es
  itself a (inl f) e = round [] a f.0 f.1 e
  itself a (inr f) e = round [] a f.0 f.1 e

  -- a cycle of the graph is a circle of the equations
  pub circular-cycle : (cycle : List ℕ) → IsCycle edges cycle → IsCircular es
  circular-cycle [] h = absurd h
  circular-cycle (a ∷ []) h = itself a (All-contains (Leaves n es n) edges (a, a) each h.0) h.0
  circular-cycle (a ∷ (b ∷ bs)) h = round_by a b bs (All-contains (Leaves n es n) edges (a, b) each h.0.0) h.0.0 h.0.1 (λ f. round (b ∷ bs) a f.0 f.1 h.0)
