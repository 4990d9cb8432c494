-- Inside a control equation the names that it defines are hidden, and they are joined where its blocks are left, with marks.
use Rattle.std.proofs.Common.{◌≡◌, ℕ, Bool, true, false, if◌then◌else◌, List, [], ◌∷◌, Option, None, Some, refl, sym, ap, subst, ◌∙◌, inl, inr}
use Rattle.std.specs.Prelude.{is_some}
use Rattle.std.specs.Str.{bytes_eq}
use Rattle.std.proofs.lemmas.Option.{same_Some, none-some}
use Rattle.hp_tree.specs.Blocks.{Eqn}
use Rattle.hp_tree.specs.Meaning.{defines}
use Rattle.hp_meaning.specs.Causal.Sources.{Sources, none, both, NameSources}
use Rattle.hp_meaning.specs.Causal.WhatIsRead.{names_within}
use Rattle.hp_drawing.specs.declared.parts.Entry.{Entry}
use Rattle.hp_drawing.specs.Kept.{is_mark}
use Rattle.hp_drawing.specs.Told.{or_none}
use Rattle.hp_drawing.specs.Sketch.{Sketch}
use Rattle.hp_drawing.specs.Places.{chain_end}
use Rattle.hp_drawing.specs.Scopes.{Scope, Layer, entry_if, entry_in, put, put_if, add, add_if, value_by, wire_by, or_found, found, value_in, last_in, last_wire, own_entry, push_values, hidden_entry, hide_name_by, hide_names, hide, names_of_eqn, branch_value, join_name, join_names, end_name, end_names}
use Rattle.law_drawing.proofs.CarryingLemmas.Layers.{same-name, Knows, knows-add, knows-added, Occurs, eqn-occurs}
use Rattle.law_drawing.specs.Steered.Marks.{Steering, Marks, Grows, Has, Each, Low, AreMarked}
use Rattle.law_drawing.specs.Steered.Asked.{AreSeen}
use Rattle.law_drawing.proofs.SteeredLemmas.Steps.{grows-none, grows-both, has-grows, low-grows}
use Rattle.law_drawing.proofs.SteeredLemmas.Parts.{chain_add-marked, chain_end-marked}
use Rattle.law_drawing.proofs.SteeredLemmas.Values.{low-context}

-- ---- layers, entry by entry

module _ (P : List ℕ × Entry → Type 0) where
  pub each-put : (l : Layer) (y : List ℕ) (e : Entry) → Each P l → P (y, e) → Each P (put l y e)
  each-put [] y e h k = (k, tt)
  each-put (p ∷ l) y e h k = by (bytes_eq y p.0) refl (each-put l y e h.1 k)
    where
      by : (b : Bool) → bytes_eq y p.0 ≡ b → Each P (put l y e) → Each P (put_if b p e l (put l y e))
      by true q more = (subst (λ n. P (n, e)) (same-name y p.0 q) k, h.1)
      by false q more = (h.0, more)

  pub each-add : (l : Layer) (y : List ℕ) (e : Entry) → Each P l → P (y, e) → Each P (add l y e)
  each-add l y e h k = by (entry_in l y)
    where
      by : (o : Option Entry) → Each P (add_if o l y e)
      by None = each-put l y e h k
      by (Some old) = h

  pub each-found : (l : Layer) (x : List ℕ) (e : Entry) → Each P l → entry_in l x ≡ Some e → P (x, e)
  each-found [] x e h q = absurd (none-some e q)
  each-found (p ∷ l) x e h q = by (bytes_eq x p.0) refl q (each-found l x e h.1)
    where
      by : (b : Bool) → bytes_eq x p.0 ≡ b → entry_if b p.1 (entry_in l x) ≡ Some e → (entry_in l x ≡ Some e → P (x, e)) → P (x, e)
      by true r k more = subst (λ n. P (n, e)) (sym (same-name x p.0 r)) (subst (λ o. P (p.0, o)) (same_Some p.1 e k) h.0)
      by false r k more = more k

last-same : (o : Option Entry) → or_none (wire_by o) ≡ (value_by o).wire
last-same None = refl
last-same (Some e) = refl

pub none-unknown : (l : Layer) (x : List ℕ) → entry_in l x ≡ None → Knows l x → ⊥
none-unknown l x q k = let c : false ≡ true = ap is_some (sym q) ∙ k in cc

module _ (steers : Steering) (z : Scope) (context : Sources) (inner : NameSources) where
  -- a hidden name reads its last value, and what it is to be has its mark
  abbrev pub IsHidden : Marks → List ℕ × Entry → Type 0
  IsHidden ms p = Low steers ms (or_none p.1.wire) context × Has ms p.1.hole (both context (inner p.0))

  abbrev pub AreHidden : Marks → Layer → Type 0
  AreHidden ms l = Each (IsHidden ms) l

  abbrev pub AreHoled : Marks → Type 0
  AreHoled ms = (x : List ℕ) (e : Entry) → own_entry z x ≡ Some e → Has ms e.hole (both context (inner x))

  pub hidden-names : (xs : List (List ℕ)) (l : Layer) (ms : Marks) → ((x : List ℕ) → Low steers ms (last_in z x).wire context) → AreHoled ms → ((x : List ℕ) → Occurs xs x → is_some (own_entry z x) ≡ true) → AreHidden ms l
      → AreHidden ms (hide_names z xs l) × ((x : List ℕ) → Knows l x → Knows (hide_names z xs l) x) × ((x : List ℕ) → Occurs xs x → Knows (hide_names z xs l) x)
  unfolding last_in last_wire
  hidden-names [] l ms v k own h = (h, λ x q. q, λ x q. absurd q)
  hidden-names (y ∷ xs) l ms v k own h = by (own_entry z y) refl (own y (inl refl)) (λ l h. hidden-names xs l ms v k (λ x o. own x (inr o)) h)
    where
      by : (o : Option Entry) → own_entry z y ≡ o → is_some o ≡ true → ((l : Layer) → AreHidden ms l → AreHidden ms (hide_names z xs l) × ((x : List ℕ) → Knows l x → Knows (hide_names z xs l) x) × ((x : List ℕ) → Occurs xs x → Knows (hide_names z xs l) x))
          → AreHidden ms (hide_names z xs (hide_name_by o (last_wire z y) y l)) × ((x : List ℕ) → Knows l x → Knows (hide_names z xs (hide_name_by o (last_wire z y) y l)) x) × ((x : List ℕ) → Occurs (y ∷ xs) x → Knows (hide_names z xs (hide_name_by o (last_wire z y) y l)) x)
      by None q n ih = absurd cc
      by (Some e) q n ih =
          let hid = hidden_entry e (last_wire z y) in
          let l1 = add l y hid in
          let h1 = each-add (IsHidden ms) l y hid h (subst (λ w. Low steers ms w context) (sym (last-same (found z.lasts y))) (v y), k y e q) in
          let more = ih l1 h1 in
          (more.0, λ a b. more.1 a (knows-add l y hid a b), λ a b. elim b [ inl i ↦ more.1 a (subst (λ m. Knows l1 m) i (knows-added l y hid)) | inr o ↦ more.2 a o ])

  -- so a control equation's parts see what the tree says of names within it
  pub hidden-seen : (e : Eqn) (ms : Marks) → AreSeen steers ms z context inner → AreHoled ms → ((x : List ℕ) → Occurs (names_of_eqn e) x → is_some (own_entry z x) ≡ true)
      → AreSeen steers ms (hide z e) context (names_within e inner) × AreHidden ms (hide_names z (names_of_eqn e) [])
  unfolding hide push_values value_in last_in
  hidden-seen e ms seen holes own =
      let l = hide_names z (names_of_eqn e) [] in
      let h = hidden-names (names_of_eqn e) [] ms seen.lasts holes own tt in
      (record { values = λ x. value-at l x h.0 h.2 (seen.values x); lasts = seen.lasts }, h.0)
    where
      value-at : (l : Layer) (x : List ℕ) → AreHidden ms l → ((x : List ℕ) → Occurs (names_of_eqn e) x → Knows l x) → Low steers ms (value_by (found z.values x)).wire (both context (inner x))
          → Low steers ms (value_by (or_found (entry_in l x) (found z.values x))).wire (both context (names_within e inner x))
      value-at l x h all low = by (entry_in l x) refl
        where
          defined : (b : Bool) → defines e x ≡ b → entry_in l x ≡ None → b ≡ false
          defined true d q = absurd (none-unknown l x q (all x (eqn-occurs e x d)))
          defined false d q = refl

          by : (o : Option Entry) → entry_in l x ≡ o → Low steers ms (value_by (or_found o (found z.values x))).wire (both context (names_within e inner x))
          by None q = subst (λ b. Low steers ms (value_by (found z.values x)).wire (both context (if b then none else inner x))) (sym (defined (defines e x) refl q)) low
          by (Some o) q = low-context steers z context inner ms (or_none o.wire) (names_within e inner x) (each-found (IsHidden ms) l x o h q).0

  -- ---- joining what blocks give to hidden names

  -- the condition, and what a block gives to the name, lead where the name does
  abbrev pub IsGiven : Marks → Layer → ℕ → List ℕ × Entry → Type 0
  IsGiven ms own c p = Low steers ms c (both context (inner p.0)) × Low steers ms (branch_value own p.0 p.1).wire (both context (inner p.0))

  pub hidden-grows : (ms ms' : Marks) → Grows ms ms' → (l : Layer) → AreHidden ms l → AreHidden ms' l
  hidden-grows ms ms' g [] h = tt
  hidden-grows ms ms' g (p ∷ l) h = ((low-grows steers ms ms' g (or_none p.1.wire) context h.0.0, has-grows ms ms' g p.1.hole (both context (inner p.0)) h.0.1), hidden-grows ms ms' g l h.1)

  given-grows : (ms ms' : Marks) → Grows ms ms' → (own : Layer) (c : ℕ) (l : Layer) → Each (IsGiven ms own c) l → Each (IsGiven ms' own c) l
  given-grows ms ms' g own c [] h = tt
  given-grows ms ms' g own c (p ∷ l) h =
      ((low-grows steers ms ms' g c (both context (inner p.0)) h.0.0, low-grows steers ms ms' g (branch_value own p.0 p.1).wire (both context (inner p.0)) h.0.1), given-grows ms ms' g own c l h.1)

  pub joined : (own : Layer) (c : ℕ) (l : Layer) (s : Sketch) (ms : Marks) → AreMarked steers s ms → AreHidden ms l → Each (IsGiven ms own c) l
      → (ms' : Marks) × Grows ms ms' × AreMarked steers (join_names own c l s).1 ms' × AreHidden ms' (join_names own c l s).0
  joined own c [] s ms a h k = (ms, grows-none ms, a, tt)
  joined own c (p ∷ l) s ms a h k =
      let v = branch_value own p.0 p.1 in
      let m = both context (inner p.0) in
      let u = chain_add-marked steers p.1.hole c v s ms m a h.0.1 k.0.0 k.0.1 in
      let rest = join_name own c p.0 p.1 s in
      let w = joined own c l rest.1 u.0 u.2 (hidden-grows ms u.0 u.1 l h.1) (given-grows ms u.0 u.1 own c l k.1) in
      let g = grows-both ms u.0 w.0 u.1 w.1 in
      (w.0, g, w.2, ((low-grows steers ms w.0 g (or_none p.1.wire) context h.0.0, has-grows u.0 w.0 w.1 rest.0 m u.3), w.3))

  pub ended : (l : Layer) (s : Sketch) (ms : Marks) → AreMarked steers s ms → AreHidden ms l → AreMarked steers (end_names l s) ms
  ended [] s ms a h = a
  ended (p ∷ l) s ms a h = ended l (end_name p.1 s) ms (by (is_mark p.1.shape)) h.1
    where
      by : (b : Bool) → AreMarked steers (if b then s else chain_end p.1.hole s) ms
      by true = a
      by false = chain_end-marked steers p.1.hole s ms (both context (inner p.0)) a h.0.1
