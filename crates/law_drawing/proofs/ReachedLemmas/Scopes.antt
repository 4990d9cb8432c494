-- Names in blocks and in control equations: what is hidden, what is joined, and the wires that they read.
use Rattle.std.proofs.Common.{◌≡◌, ℕ, Bool, true, false, List, [], ◌∷◌, Option, None, Some, refl, sym, ap, subst, ◌∙◌, inl, inr}
use Rattle.std.specs.Prelude.{is_some}
use Rattle.std.specs.Str.{bytes_eq}
use Rattle.std.proofs.lemmas.Option.{same_Some, none-some}
use Rattle.hp_tree.specs.Blocks.{Decl, Eqns, Eqn}
use Rattle.hp_tree.specs.Meaning.{declares, some_defines, defines}
use Rattle.hp_drawing.specs.declared.parts.Entry.{Entry}
use Rattle.hp_drawing.specs.declared.parts.Place.{Place as Spot}
use Rattle.hp_drawing.specs.Told.{Told, or_none}
use Rattle.hp_drawing.specs.Sketch.{Sketch, read}
use Rattle.hp_drawing.specs.Scopes.{Scope, Layer, entry_if, entry_in, add, or_found, found, outer_layers, value_by, value_in, own_entry, top_layer, push_values, push_lasts, names_of_eqn, enter, hidden_entry, hide_name_by, hide_names, last_wire, branch_wire, own_wire, branch_value, with_hole, join_name, join_names, join_layers, join, read_by_names}
use Rattle.law_drawing.proofs.CarryingLemmas.Layers.{Knows, Occurs, same-name, self-name, knows-add, knows-added, eqn-names, eqn-occurs}
use Rattle.law_drawing.proofs.CarryingLemmas.Layers as layers
use Rattle.law_drawing.proofs.CarryingLemmas.Own.{entered-own, own-top, top-value}
use Rattle.law_drawing.specs.Steered.Marks.{Each}
use Rattle.law_drawing.proofs.SteeredLemmas.Hiding.{each-add, each-found}
use Rattle.law_drawing.proofs.EarlyLemmas.Running.{joined_names-run, read_names-run}
use Rattle.law_drawing.proofs.ReachedLemmas.Closed.{Closed, Runs, running, read-gives}
use Rattle.law_drawing.proofs.ReachedLemmas.Steps.{chain-gives}

-- ---- the scope of a block

-- a name that is defined has a wire in the innermost layer, which is said later
abbrev pub Owned : Scope → (List ℕ → Bool) → Type 0
Owned z d = (x : List ℕ) → d x ≡ true → (e : Entry) × (own_entry z x ≡ Some e) × ((value_in z x).wire ≡ e.hole)

is-there : (o : Option Entry) → is_some o ≡ true → (e : Entry) × (o ≡ Some e)
is-there None h = absurd cc
is-there (Some e) h = (e, refl)

pub entered-owned : (t : Told) (z : Scope) (spot : Spot) (ds : List Decl) (es : Eqns) (s : Sketch) → Owned (enter t z spot ds es s).0 (some_defines es)
entered-owned t z spot ds es s x h =
    let y = (enter t z spot ds es s).0 in
    let own = entered-own t z spot ds es s in
    let e = is-there (entry_in (top_layer y) x) (own.known x h) in
    (e.0, own-top y x ∙ e.1, top-value y x e.0 e.1 ∙ ap or_none (own.owned x e.0 e.1).hole_is)

entered-value : (t : Told) (z : Scope) (spot : Spot) (ds : List Decl) (es : Eqns) (s : Sketch) (x : List ℕ) → entry_in (top_layer (enter t z spot ds es s).0) x ≡ None → value_in (enter t z spot ds es s).0 x ≡ value_in z x
unfolding enter push_values push_lasts value_in top_layer
entered-value t z spot ds es s x q = ap (λ o. value_by (or_found o (found z.values x))) q

apart : (b : Bool) → b ≡ true → b ≡ false → ⊥
apart b h k = let c : true ≡ false = sym h ∙ k in cc

-- where each name that is declared is defined, another name is that of the scope outside
pub entered-outside : (t : Told) (z : Scope) (spot : Spot) (ds : List Decl) (es : Eqns) (s : Sketch) (x : List ℕ) → ((y : List ℕ) → declares ds y ≡ true → some_defines es y ≡ true) → some_defines es x ≡ false → value_in (enter t z spot ds es s).0 x ≡ value_in z x
entered-outside t z spot ds es s x filled h = entered-value t z spot ds es s x (by (entry_in (top_layer (enter t z spot ds es s).0) x) refl)
  where
    declared : (b : Bool) → declares ds x ≡ b → (declares ds x ≡ false → some_defines es x ≡ true) → ⊥
    declared true d f = apart (some_defines es x) (filled x d) h
    declared false d f = apart (some_defines es x) (f d) h

    by : (o : Option Entry) → entry_in (top_layer (enter t z spot ds es s).0) x ≡ o → o ≡ None
    by None q = refl
    by (Some e) q = absurd (declared (declares ds x) refl ((entered-own t z spot ds es s).owned x e q).defined)

-- what a block gives to a name that it defines and does not declare is its wire there
pub branch-is : (t : Told) (z : Scope) (spot : Spot) (ds : List Decl) (es : Eqns) (s : Sketch) (x : List ℕ) (e : Entry) → some_defines es x ≡ true → declares ds x ≡ false
    → (branch_value (top_layer (enter t z spot ds es s).0) x e).wire ≡ (value_in (enter t z spot ds es s).0 x).wire
branch-is t z spot ds es s x e d n =
    let y = (enter t z spot ds es s).0 in
    let own = entered-own t z spot ds es s in
    let i = is-there (entry_in (top_layer y) x) (own.known x d) in
    ap (λ o. or_none (branch_wire o e.wire)) i.1 ∙ by i.0 i.0.decl refl ((own.owned x i.0 i.1).declared ∙ n) ∙ sym (top-value y x i.0 i.1)
  where
    by : (i : Entry) (k : Option ℕ) → i.decl ≡ k → is_some i.decl ≡ false → or_none (own_wire i.decl i.wire e.wire) ≡ or_none i.wire
    by i None q n = ap (λ k. or_none (own_wire k i.wire e.wire)) q
    by i (Some k) q n = absurd (let c : true ≡ false = sym (ap is_some q) ∙ n in cc)

-- ---- hidden names

-- what is hidden has the wire that is to be said of the name
abbrev pub IsHidden : Eqn → Scope → List ℕ × Entry → Type 0
IsHidden e z p = (defines e p.0 ≡ true) × ((own : Entry) × (own_entry z p.0 ≡ Some own) × (p.1.hole ≡ own.hole))

hides : (e : Eqn) (z : Scope) (xs : List (List ℕ)) (l : Layer) → layers.Each (λ x. defines e x ≡ true) xs → Each (IsHidden e z) l
    → Each (IsHidden e z) (hide_names z xs l) × ((x : List ℕ) → Knows l x → Knows (hide_names z xs l) x) × ((x : List ℕ) → Occurs xs x → is_some (own_entry z x) ≡ true → Knows (hide_names z xs l) x)
hides e z [] l d h = (h, λ x k. k, λ x o. absurd o)
hides e z (y ∷ xs) l d h = by (own_entry z y) refl (λ l h. hides e z xs l d.1 h)
  where
    by : (o : Option Entry) → own_entry z y ≡ o → ((l : Layer) → Each (IsHidden e z) l → Each (IsHidden e z) (hide_names z xs l) × ((x : List ℕ) → Knows l x → Knows (hide_names z xs l) x) × ((x : List ℕ) → Occurs xs x → is_some (own_entry z x) ≡ true → Knows (hide_names z xs l) x))
        → Each (IsHidden e z) (hide_names z xs (hide_name_by o (last_wire z y) y l)) × ((x : List ℕ) → Knows l x → Knows (hide_names z xs (hide_name_by o (last_wire z y) y l)) x)
        × ((x : List ℕ) → Occurs (y ∷ xs) x → is_some (own_entry z x) ≡ true → Knows (hide_names z xs (hide_name_by o (last_wire z y) y l)) x)
    by None q ih = let more = ih l h in (more.0, more.1, λ a b k. elim b [ inl i ↦ absurd (let c : false ≡ true = ap is_some (sym q) ∙ subst (λ n. is_some (own_entry z n) ≡ true) (sym i) k in cc) | inr o ↦ more.2 a o k ])
    by (Some own) q ih =
        let hid = hidden_entry own (last_wire z y) in
        let l1 = add l y hid in
        let more = ih l1 (each-add (IsHidden e z) l y hid h (d.0, (own, q, refl))) in
        (more.0, λ a k. more.1 a (knows-add l y hid a k), λ a b k. elim b [ inl i ↦ more.1 a (subst (λ m. Knows l1 m) i (knows-added l y hid)) | inr o ↦ more.2 a o k ])

-- the layer of what an equation hides
abbrev pub hidden_layer : Eqn → Scope → Layer
hidden_layer e z = hide_names z (names_of_eqn e) []

pub hidden-at : (e : Eqn) (z : Scope) (x : List ℕ) → Owned z (defines e) → defines e x ≡ true → (i : Entry) × (entry_in (hidden_layer e z) x ≡ Some i) × (i.hole ≡ (value_in z x).wire)
hidden-at e z x owned d =
    let o = owned x d in
    let h = hides e z (names_of_eqn e) [] (eqn-names e) tt in
    let i = is-there (entry_in (hidden_layer e z) x) (h.2 x (eqn-occurs e x d) (ap is_some o.1)) in
    let k = (each-found (IsHidden e z) (hidden_layer e z) x i.0 h.0 i.1).1 in
    (i.0, i.1, k.2 ∙ ap (λ n. n.hole) (same_Some k.0 o.0 (sym k.1 ∙ o.1)) ∙ sym o.2)

-- another name is not hidden
pub hidden-not : (e : Eqn) (z : Scope) (x : List ℕ) → defines e x ≡ false → entry_in (hidden_layer e z) x ≡ None
hidden-not e z x d = by (entry_in (hidden_layer e z) x) refl
  where
    by : (o : Option Entry) → entry_in (hidden_layer e z) x ≡ o → entry_in (hidden_layer e z) x ≡ None
    by None q = q
    by (Some i) q = absurd (apart (defines e x) (each-found (IsHidden e z) (hidden_layer e z) x i (hides e z (names_of_eqn e) [] (eqn-names e) tt).0 q).0 d)

pub pushed-value : (l : Layer) (z : Scope) (x : List ℕ) → value_in (push_values l z) x ≡ value_by (or_found (entry_in l x) (found z.values x))
unfolding value_in push_values
pushed-value l z x = refl

pub plain-value : (z : Scope) (x : List ℕ) → value_in z x ≡ value_by (found z.values x)
unfolding value_in
plain-value z x = refl

-- ---- joining

module _ (S : ℕ → Type 0) (P : ℕ → ℕ → Type 0) where
  abbrev R : Sketch → Sketch → Type 0
  R = Runs S P

  -- a hidden name is said to be what the block gives where the condition holds, and else what is said later
  pub joined-at : (own : Layer) (c : ℕ) (l : Layer) (s : Sketch) (x : List ℕ) (e : Entry) → entry_in l x ≡ Some e → Closed S (join_names own c l s).1
      → (rest : ℕ) × (entry_in (join_names own c l s).0 x ≡ Some (with_hole e rest)) × (S c → S e.hole) × (S (branch_value own x e).wire → S e.hole) × (S rest → S e.hole)
  joined-at own c [] s x e q k = absurd (none-some e q)
  joined-at own c (p ∷ l) s x e q k = by (bytes_eq x p.0) refl q (λ r. joined-at own c l rest.1 x e r k)
    where
      rest : ℕ × Sketch
      rest = join_name own c p.0 p.1 s

      others : Layer
      others = (join_names own c l rest.1).0

      here : (x ≡ p.0) → (p.1 ≡ e) → (S c → S e.hole) × (S (branch_value own x e).wire → S e.hole) × (S rest.0 → S e.hole)
      here i j =
          let g = chain-gives S p.1.hole c (branch_value own p.0 p.1) s ((joined_names-run R (running S P) own c l rest.1).closed k) in
          let to : S p.1.hole → S e.hole = subst (λ n. S n.hole) j in
          (λ h. to (g.0 h), λ h. to (g.1 (subst (λ n. S (branch_value own n p.1).wire) i (subst (λ n. S (branch_value own x n).wire) (sym j) h))), λ h. to (g.2 h))

      by : (b : Bool) → bytes_eq x p.0 ≡ b → entry_if b p.1 (entry_in l x) ≡ Some e
          → (entry_in l x ≡ Some e → (n : ℕ) × (entry_in others x ≡ Some (with_hole e n)) × (S c → S e.hole) × (S (branch_value own x e).wire → S e.hole) × (S n → S e.hole))
          → (n : ℕ) × (entry_if (bytes_eq x p.0) (with_hole p.1 rest.0) (entry_in others x) ≡ Some (with_hole e n)) × (S c → S e.hole) × (S (branch_value own x e).wire → S e.hole) × (S n → S e.hole)
      by true i r more =
          let j = same_Some p.1 e r in
          let g = here (same-name x p.0 i) j in
          (rest.0, ap (λ b. entry_if b (with_hole p.1 rest.0) (entry_in others x)) i ∙ ap (λ n. Some (with_hole n rest.0)) j, g.0, g.1, g.2)
      by false i r more = let m = more r in (m.0, ap (λ b. entry_if b (with_hole p.1 rest.0) (entry_in others x)) i ∙ m.1, m.2, m.3, m.4)

  -- the wires that names read stay
  pub joined-value : (own : Layer) (c : ℕ) (l : Layer) (s : Sketch) (x : List ℕ) (o : Option Entry) → value_by (or_found (entry_in (join_names own c l s).0 x) o) ≡ value_by (or_found (entry_in l x) o)
  joined-value own c [] s x o = refl
  joined-value own c (p ∷ l) s x o = by (bytes_eq x p.0) (joined-value own c l (join_name own c p.0 p.1 s).1 x o)
    where
      rest : ℕ × Sketch
      rest = join_name own c p.0 p.1 s

      by : (b : Bool) → value_by (or_found (entry_in (join_names own c l rest.1).0 x) o) ≡ value_by (or_found (entry_in l x) o)
          → value_by (or_found (entry_if b (with_hole p.1 rest.0) (entry_in (join_names own c l rest.1).0 x)) o) ≡ value_by (or_found (entry_if b p.1 (entry_in l x)) o)
      by true more = refl
      by false more = more

  -- names that read a wire
  pub read-at : (l : Layer) (w : ℕ) (s : Sketch) (x : List ℕ) (e : Entry) → entry_in l x ≡ Some e → Closed S (read_by_names l w s) → S w → S e.hole
  read-at [] w s x e q k = absurd (none-some e q)
  read-at (p ∷ l) w s x e q k = by (bytes_eq x p.0) q (λ r. read-at l w (read p.1.hole w s) x e r k)
    where
      by : (b : Bool) → entry_if b p.1 (entry_in l x) ≡ Some e → (entry_in l x ≡ Some e → S w → S e.hole) → S w → S e.hole
      by true r more = λ h. subst (λ n. S n.hole) (same_Some p.1 e r) (read-gives S p.1.hole w s ((read_names-run R (running S P) l w (read p.1.hole w s)).closed k) h)
      by false r more = more r

-- where a block is left in which the scope has one layer more
pub join-is : (c : ℕ) (z i : Scope) (h : Layer) (s : Sketch) → outer_layers i.values ≡ (push_values h z).values → outer_layers i.lasts ≡ (push_values h z).lasts
    → (let d = join_names (top_layer i) c h s in join c i s ≡ (push_values d.0 z, d.1))
unfolding join push_values
join-is c z i h s p q =
    ap (λ v. let d = join_layers (top_layer i) c v s in (record { values = d.0; lasts = outer_layers i.lasts }, d.1)) p
    ∙ ap (λ l. let d = join_names (top_layer i) c h s in (record { values = d.0 ∷ z.values; lasts = l }, d.1)) q
