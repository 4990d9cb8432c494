-- Inside a control equation the names that it defines are hidden, and they are joined where its blocks are left, with marks.
use Rattle.std.proofs.Common.{◌≡◌, ◌⊎◌, ℕ, Bool, true, false, if◌then◌else◌, List, [], ◌∷◌, Option, None, Some, refl, sym, ap, subst, ◌∙◌, inl, inr}
use Rattle.std.specs.Prelude.{is_some}
use Rattle.std.specs.Str.{bytes_eq}
use Rattle.std.proofs.lemmas.Option.{same_Some, none-some}
use Rattle.hp_tree.specs.Instant.{Place as TreePlace}
use Rattle.hp_meaning.specs.Causal.Sources.{NameSources}
use Rattle.hp_drawing.specs.declared.parts.Entry.{Entry}
use Rattle.hp_drawing.specs.Kept.{is_mark}
use Rattle.hp_drawing.specs.Told.{or_none}
use Rattle.hp_drawing.specs.Sketch.{Sketch}
use Rattle.hp_drawing.specs.Places.{chain_end}
use Rattle.hp_drawing.specs.Scopes.{Scope, Layer, entry_if, entry_in, add, value_by, wire_by, found, last_in, last_wire, own_entry, hidden_entry, hide_name_by, hide_names, with_hole, branch_value, join_name, join_names, end_name, end_names}
use Rattle.law_drawing.proofs.CarryingLemmas.Layers.{Knows, knows-add, knows-added, Occurs}
use Rattle.law_drawing.specs.Steered.Marks.{Each}
use Rattle.law_drawing.proofs.SteeredLemmas.Hiding.{each-add}
use Rattle.law_drawing.specs.NoCircle.Marks.{Mark, Marks, Grows, Has, Low, Under, Frame, later, AreMarked, around}
use Rattle.law_drawing.proofs.NoCircleLemmas.Steps.{grows-none, grows-both, has-grows, low-grows, under-grows, weaken}
use Rattle.law_drawing.proofs.NoCircleLemmas.Parts.{Rest, chain_add-marked, chain_end-marked}

last-same : (o : Option Entry) → or_none (wire_by o) ≡ (value_by o).wire
last-same None = refl
last-same (Some e) = refl

-- the holes of a layer that are to be said, entry by entry
abbrev pub AnyHole : Layer → ℕ → Type 0
AnyHole [] k = ⊥
AnyHole (p ∷ l) k = Rest (is_mark p.1.shape) p.1.hole k ⊎ AnyHole l k

-- what a layer says of a name is one of its entries
pub any-found : (l : Layer) (x : List ℕ) (e : Entry) → entry_in l x ≡ Some e → is_mark e.shape ≡ false → AnyHole l e.hole
any-found [] x e q part = absurd (none-some e q)
any-found (p ∷ l) x e q part = by (bytes_eq x p.0) q (λ r. any-found l x e r part)
  where
    by : (b : Bool) → entry_if b p.1 (entry_in l x) ≡ Some e → (entry_in l x ≡ Some e → AnyHole l e.hole) → AnyHole (p ∷ l) e.hole
    by true r more = let same : p.1 ≡ e = same_Some p.1 e r in inl (ap (λ (i : Entry). is_mark i.shape) same ∙ part, ap (λ (i : Entry). i.hole) (sym same))
    by false r more = inr (more r)

module _ (rank : TreePlace → ℕ) (z : Scope) (context : Mark) (inner : NameSources) where
  -- a hidden name reads its last value, and what it is to be has its mark
  abbrev pub IsHidden : Marks → List ℕ × Entry → Type 0
  IsHidden ms p = Low ms (or_none p.1.wire) context × Has ms p.1.hole (around rank context (inner p.0))

  abbrev pub AreHidden : Marks → Layer → Type 0
  AreHidden ms l = Each (IsHidden ms) l

  abbrev pub AreHoled : Marks → Type 0
  AreHoled ms = (x : List ℕ) (e : Entry) → own_entry z x ≡ Some e → Has ms e.hole (around rank context (inner x))

  pub hidden-names : (xs : List (List ℕ)) (l : Layer) (ms : Marks) → ((x : List ℕ) → Low ms (last_in z x).wire context) → AreHoled ms → ((x : List ℕ) → Occurs xs x → is_some (own_entry z x) ≡ true) → AreHidden ms l
      → AreHidden ms (hide_names z xs l) × ((x : List ℕ) → Knows l x → Knows (hide_names z xs l) x) × ((x : List ℕ) → Occurs xs x → Knows (hide_names z xs l) x)
  unfolding last_in last_wire
  hidden-names [] l ms v k own h = (h, λ x q. q, λ x q. absurd q)
  hidden-names (y ∷ xs) l ms v k own h = by (own_entry z y) refl (own y (inl refl)) (λ l h. hidden-names xs l ms v k (λ x o. own x (inr o)) h)
    where
      by : (o : Option Entry) → own_entry z y ≡ o → is_some o ≡ true → ((l : Layer) → AreHidden ms l → AreHidden ms (hide_names z xs l) × ((x : List ℕ) → Knows l x → Knows (hide_names z xs l) x) × ((x : List ℕ) → Occurs xs x → Knows (hide_names z xs l) x))
          → AreHidden ms (hide_names z xs (hide_name_by o (last_wire z y) y l)) × ((x : List ℕ) → Knows l x → Knows (hide_names z xs (hide_name_by o (last_wire z y) y l)) x) × ((x : List ℕ) → Occurs (y ∷ xs) x → Knows (hide_names z xs (hide_name_by o (last_wire z y) y l)) x)
      by None q n ih = absurd cc
      by (Some e) q n ih =
          let hid = hidden_entry e (last_wire z y) in
          let l1 = add l y hid in
          let h1 = each-add (IsHidden ms) l y hid h (subst (λ w. Low ms w context) (sym (last-same (found z.lasts y))) (v y), k y e q) in
          let more = ih l1 h1 in
          (more.0, λ a b. more.1 a (knows-add l y hid a b), λ a b. elim b [ inl i ↦ more.1 a (subst (λ m. Knows l1 m) i (knows-added l y hid)) | inr o ↦ more.2 a o ])

  -- ---- joining what blocks give to hidden names

  -- the condition, and what a block gives to the name, stand below the name
  abbrev pub IsGiven : Marks → Layer → ℕ → List ℕ × Entry → Type 0
  IsGiven ms own c p = Under ms c (around rank context (inner p.0)) × Under ms (branch_value own p.0 p.1).wire (around rank context (inner p.0))

  pub hidden-grows : (ms ms' : Marks) → Grows ms ms' → (l : Layer) → AreHidden ms l → AreHidden ms' l
  hidden-grows ms ms' g [] h = tt
  hidden-grows ms ms' g (p ∷ l) h = ((low-grows ms ms' g (or_none p.1.wire) context h.0.0, has-grows ms ms' g p.1.hole (around rank context (inner p.0)) h.0.1), hidden-grows ms ms' g l h.1)

  given-grows : (ms ms' : Marks) → Grows ms ms' → (own : Layer) (c : ℕ) (l : Layer) → Each (IsGiven ms own c) l → Each (IsGiven ms' own c) l
  given-grows ms ms' g own c [] h = tt
  given-grows ms ms' g own c (p ∷ l) h =
      ((under-grows ms ms' g c (around rank context (inner p.0)) h.0.0, under-grows ms ms' g (branch_value own p.0 p.1).wire (around rank context (inner p.0)) h.0.1), given-grows ms ms' g own c l h.1)

  -- the holes that are to be said
  pub joined : (F : Frame) (own : Layer) (c : ℕ) (l : Layer) (s : Sketch) (ms : Marks) → AreMarked (later F (AnyHole l)) s ms → AreHidden ms l → Each (IsGiven ms own c) l
      → (ms' : Marks) × Grows ms ms' × AreMarked (later F (AnyHole (join_names own c l s).0)) (join_names own c l s).1 ms' × AreHidden ms' (join_names own c l s).0
  joined F own c [] s ms a h k = (ms, grows-none ms, a, tt)
  joined F own c (p ∷ l) s ms a h k =
      let v = branch_value own p.0 p.1 in
      let m = around rank context (inner p.0) in
      let whole = is_mark p.1.shape in
      let first : AreMarked (later (later F (AnyHole l)) (Rest whole p.1.hole)) s ms = weaken (later (later F (AnyHole l)) (Rest whole p.1.hole)).late s ms (λ i q. elim q [ inl o ↦ inl (inl o) | inr o ↦ elim o [ inl y ↦ inr y | inr y ↦ inl (inr y) ] ]) a in
      let u = chain_add-marked (later F (AnyHole l)) whole p.1.hole c v s ms m (λ e. e) first h.0.1 k.0.0 k.0.1 in
      let rest = join_name own c p.0 p.1 s in
      let turned : AreMarked (later (later F (Rest whole rest.0)) (AnyHole l)) rest.1 u.0 = weaken (later (later F (Rest whole rest.0)) (AnyHole l)).late rest.1 u.0 (λ i q. elim q [ inl o ↦ elim o [ inl y ↦ inl (inl y) | inr y ↦ inr y ] | inr o ↦ inl (inr o) ]) u.2 in
      let w = joined (later F (Rest whole rest.0)) own c l rest.1 u.0 turned (hidden-grows ms u.0 u.1 l h.1) (given-grows ms u.0 u.1 own c l k.1) in
      let others = join_names own c l rest.1 in
      let g = grows-both ms u.0 w.0 u.1 w.1 in (
        w.0,
        g,
        weaken (later F (AnyHole ((p.0, with_hole p.1 rest.0) ∷ others.0))).late others.1 w.0 (λ i q. elim q [ inl o ↦ elim o [ inl y ↦ inl y | inr y ↦ inr (inl y) ] | inr o ↦ inr (inr o) ]) w.2,
        ((low-grows ms w.0 g (or_none p.1.wire) context h.0.0, has-grows u.0 w.0 w.1 rest.0 m u.3), w.3),
      )

  pub ended : (F : Frame) (l : Layer) (s : Sketch) (ms : Marks) → AreMarked (later F (AnyHole l)) s ms → AreHidden ms l → AreMarked F (end_names l s) ms
  ended F [] s ms a h = weaken F.late s ms (λ i q. elim q [ inl o ↦ o | inr o ↦ absurd o ]) a
  ended F (p ∷ l) s ms a h =
      ended F l (end_name p.1 s) ms (by (is_mark p.1.shape) (weaken (later (later F (AnyHole l)) (Rest (is_mark p.1.shape) p.1.hole)).late s ms (λ i q. elim q [ inl o ↦ inl (inl o) | inr o ↦ elim o [ inl y ↦ inr y | inr y ↦ inl (inr y) ] ]) a)) h.1
    where
      by : (b : Bool) → AreMarked (later (later F (AnyHole l)) (Rest b p.1.hole)) s ms → AreMarked (later F (AnyHole l)) (if b then s else chain_end p.1.hole s) ms
      by true a = weaken (later F (AnyHole l)).late s ms (λ i q. elim q [ inl o ↦ o | inr o ↦ absurd (let c : true ≡ false = o.0 in cc) ]) a
      by false a = chain_end-marked (later F (AnyHole l)) false p.1.hole s ms (around rank context (inner p.0)) a h.0.1
