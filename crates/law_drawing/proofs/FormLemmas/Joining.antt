-- The names that a control equation defines are hidden in its blocks, and are joined where these are left.
use Rattle.std.proofs.Common.{◌≡◌, ℕ, Bool, true, false, if◌then◌else◌, not, ◌&&◌, List, [], ◌∷◌, Option, None, Some, refl, sym, ap, subst, ◌∙◌, inl, inr}
use Rattle.std.specs.Prelude.{is_some}
use Rattle.hp_base.specs.declared.ty.Ty.{Ty}
use Rattle.hp_tree.specs.Blocks.{Decl, Block, block, Eqns, Eqn}
use Rattle.hp_tree.specs.Meaning.{declares, defines, some_defines}
use Rattle.hp_tree.specs.Programs.{TypeDecl, Node}
use Rattle.hp_base.specs.Known.Known.{lookup}
use Rattle.hp_typing.specs.Scopes.{with_variables, inside}
use Rattle.law_judged.specs.Typed.Scopes.{Scope as TypeScope}
use Rattle.law_values.specs.Valued.Judged.{Lasts, Completes, OthersKnown}
use Rattle.law_values.proofs.ValuedLemmas.Scoped.{still_known}
use Rattle.hp_circuit.specs.declared.circuit.Shape.TheVariants.{Truth}
use Rattle.hp_drawing.specs.declared.parts.Entry.{Entry}
use Rattle.hp_drawing.specs.Kept.{is_mark}
use Rattle.hp_drawing.specs.Told.{Told, type_shape, or_none}
use Rattle.hp_drawing.specs.Sketch.{Sketch, read}
use Rattle.hp_drawing.specs.Places.{chain_end}
use Rattle.hp_drawing.specs.Scopes.{Scope, Layer, entry_in, add, value_by, wire_by, shape_by, or_found, found, value_in, last_in, last_wire, shapes_in, own_entry, own_wire, branch_wire, innermost, outer_layers, push_values, top_layer, hidden_entry, hide_name_by, hide_names, names_of_eqn, branch_value, join_name, join_names, join_layers, join, read_by_names, read_by_hidden, end_name, end_names, end_hidden}
use Rattle.hp_drawing.specs.DrawnBlocks.{join_drawn, leave_hidden}
use Rattle.law_drawing.proofs.CarryingLemmas.Layers.{same-name, Knows, knows-add, knows-added, Occurs, eqn-names, eqn-occurs}
use Rattle.law_drawing.proofs.CarryingLemmas.Layers as layers
use Rattle.law_drawing.proofs.CarryingLemmas.Own.{OwnsNames, own-top}
use Rattle.law_drawing.specs.Steered.Marks.{Each}
use Rattle.law_drawing.proofs.SteeredLemmas.Hiding.{each-add, each-found, none-unknown}
use Rattle.law_drawing.proofs.SteeredLemmas.Joining.{joined-known, some_in}
use Rattle.law_drawing.proofs.FormLemmas.Views.{Has, IsThere, view_of, IsFormed, IsHole, Step, still, onward, has-on, hole-on}
use Rattle.law_drawing.proofs.FormLemmas.Steps.{read-step}
use Rattle.law_drawing.proofs.FormLemmas.Parts.{chain_end-step}
use Rattle.law_drawing.proofs.FormLemmas.Values.{Carried, none_lacks, AreSeen}
use Rattle.law_drawing.proofs.FormLemmas.Delays.{chain-step}
use Rattle.law_drawing.proofs.FormLemmas.Definitions.{AreOwned, top-shape}

last-same : (o : Option Entry) → or_none (wire_by o) ≡ (value_by o).wire
last-same None = refl
last-same (Some e) = refl

last-wire : (z : Scope) (x : List ℕ) → or_none (last_wire z x) ≡ (last_in z x).wire
unfolding last_wire last_in
last-wire z x = last-same (found z.lasts x)

-- ---- the scope of a control equation

-- where a block is left in which the scope has one layer more
join-is : (c : ℕ) (z i : Scope) (h : Layer) (s : Sketch) → outer_layers i.values ≡ (push_values h z).values → outer_layers i.lasts ≡ (push_values h z).lasts
    → (let d = join_names (top_layer i) c h s in join c i s ≡ (push_values d.0 z, d.1))
unfolding join push_values
join-is c z i h s p q =
    ap (λ v. let d = join_layers (top_layer i) c v s in (record { values = d.0; lasts = outer_layers i.lasts }, d.1)) p
    ∙ ap (λ l. let d = join_names (top_layer i) c h s in (record { values = d.0 ∷ z.values; lasts = l }, d.1)) q

-- what a block says of its names
abbrev pub Owns : Block → Scope → Type 0
Owns (block ds es) i = OwnsNames ds es i

some-first : (a b : Bool) → a && b ≡ true → a ≡ true
some-first true b h = refl
some-first false b h = h

not-second : (a b : Bool) → b ≡ true → a && not b ≡ true → ⊥
not-second true true e h = absurd cc
not-second true false e h = absurd cc
not-second false b e h = absurd cc

module _ (types : List TypeDecl) (among : List ℕ → Option Node) (t : Told) (ts : TypeScope) (has_last : Lasts) (z : Scope) (e : Eqn) where
  -- A hidden name reads its last value; what it is to be is said later, and carries what the name does.
  abbrev pub IsHidden : Sketch → List ℕ × Entry → Type 0
  IsHidden s p = IsHole s p.1.hole p.1.shape × (p.1.shape ≡ shapes_in z p.0) × (p.1.wire ≡ last_wire z p.0) × (defines e p.0 ≡ true)

  -- the layer of what the equation hides
  pub record IsOver (s : Sketch) (h : Layer) : Type 0 where
    pub hidden : Each (IsHidden s) h
    pub known : (x : List ℕ) → defines e x ≡ true → Knows h x

  hidden-on : (P : List ℕ) (s s' : Sketch) (h : Layer) → Step P s s' → Each (IsHidden s) h → Each (IsHidden s') h
  hidden-on P s s' [] st k = tt
  hidden-on P s s' (p ∷ h) st k = ((hole-on P s s' p.1.hole p.1.shape st k.0.0, k.0.1, k.0.2, k.0.3), hidden-on P s s' h st k.1)

  pub over-on : (P : List ℕ) (s s' : Sketch) (h : Layer) → Step P s s' → IsOver s h → IsOver s' h
  over-on P s s' h st o = record { hidden = hidden-on P s s' h st o.hidden; known = o.known }

  hidden-names : (xs : List (List ℕ)) (l : Layer) (s : Sketch) → AreOwned z s (λ x. defines e x) → layers.Each (λ x. defines e x ≡ true) xs → Each (IsHidden s) l
      → Each (IsHidden s) (hide_names z xs l) × ((x : List ℕ) → Knows l x → Knows (hide_names z xs l) x) × ((x : List ℕ) → Occurs xs x → Knows (hide_names z xs l) x)
  hidden-names [] l s own d h = (h, λ x q. q, λ x q. absurd q)
  hidden-names (y ∷ xs) l s own d h = by (own_entry z y) refl (subst (λ o. is_some o ≡ true) (sym (own-top z y)) (own.known y d.0)) (λ l h. hidden-names xs l s own d.1 h)
    where
      by : (o : Option Entry) → own_entry z y ≡ o → is_some o ≡ true
          → ((l : Layer) → Each (IsHidden s) l → Each (IsHidden s) (hide_names z xs l) × ((x : List ℕ) → Knows l x → Knows (hide_names z xs l) x) × ((x : List ℕ) → Occurs xs x → Knows (hide_names z xs l) x))
          → Each (IsHidden s) (hide_names z xs (hide_name_by o (last_wire z y) y l)) × ((x : List ℕ) → Knows l x → Knows (hide_names z xs (hide_name_by o (last_wire z y) y l)) x)
          × ((x : List ℕ) → Occurs (y ∷ xs) x → Knows (hide_names z xs (hide_name_by o (last_wire z y) y l)) x)
      by None q n ih = absurd cc
      by (Some i) q n ih =
          let hid = hidden_entry i (last_wire z y) in
          let l1 = add l y hid in
          let top = sym (own-top z y) ∙ q in
          let h1 = each-add (IsHidden s) l y hid h ((own.holes y i top).1, sym (top-shape z y i top), refl, d.0) in
          let more = ih l1 h1 in
          (more.0, λ a b. more.1 a (knows-add l y hid a b), λ a b. elim b [ inl j ↦ more.1 a (subst (λ m. Knows l1 m) j (knows-added l y hid)) | inr o ↦ more.2 a o ])

  pub over-begins : (s : Sketch) → AreOwned z s (λ x. defines e x) → IsOver s (hide_names z (names_of_eqn e) [])
  over-begins s own = let h = hidden-names (names_of_eqn e) [] s own (eqn-names e) tt in record { hidden = h.0; known = λ x d. h.2 x (eqn-occurs e x d) }

  -- the names that lack a value in the blocks of the equation
  abbrev pub lacks_within : List ℕ → Bool
  lacks_within x = defines e x && not (has_last x)

  abbrev Seen : Sketch → Type 0
  Seen s = AreSeen t ts has_last none_lacks z s

  -- what a hidden name reads, where it has a last value
  last-carried : (s : Sketch) (p : List ℕ × Entry) → Seen s → IsHidden s p → has_last p.0 ≡ true → Has s.shapes (or_none p.1.wire) p.1.shape
  last-carried s p seen h l =
      let k = seen.lasts p.0 l in
      subst (λ q. Has s.shapes (or_none p.1.wire) q) (sym (h.1 ∙ seen.shapes p.0 k.0 k.1)) (subst (λ w. Has s.shapes w (type_shape t k.0)) (sym (ap or_none h.2 ∙ last-wire z p.0)) k.2.1)

  -- so the blocks of the equation see names with values of their types, but for those
  pub over-seen : (s : Sketch) (h : Layer) → Seen s → IsOver s h → AreSeen t ts has_last lacks_within (push_values h z) s
  unfolding push_values value_in last_in shapes_in
  over-seen s h seen o = record { known = seen.known; shapes = λ x u q. shape-at x u q; values = λ x u q l. value-at x u q l; lasts = seen.lasts }
    where
      shape-at : (x : List ℕ) (u : Ty) → lookup ts.variables x ≡ Some u → shape_by (or_found (entry_in h x) (found z.values x)) ≡ type_shape t u
      shape-at x u q = by (entry_in h x) refl
        where
          by : (i : Option Entry) → entry_in h x ≡ i → shape_by (or_found i (found z.values x)) ≡ type_shape t u
          by None r = seen.shapes x u q
          by (Some i) r = (each-found (IsHidden s) h x i o.hidden r).1 ∙ seen.shapes x u q

      value-at : (x : List ℕ) (u : Ty) → lookup ts.variables x ≡ Some u → lacks_within x ≡ false → Carried s (value_by (or_found (entry_in h x) (found z.values x))) (type_shape t u)
      value-at x u q l = by (entry_in h x) refl
        where
          has : (a b : Bool) → a ≡ true → a && not b ≡ false → b ≡ true
          has true true d k = refl
          has true false d k = absurd cc
          has false b d k = absurd cc

          by : (i : Option Entry) → entry_in h x ≡ i → Carried s (value_by (or_found i (found z.values x))) (type_shape t u)
          by None r = seen.values x u q refl
          by (Some i) r =
              let k = each-found (IsHidden s) h x i o.hidden r in
              let is = k.1 ∙ seen.shapes x u q in
              (is, subst (λ p. Has s.shapes (or_none i.wire) p) is (last-carried s (x, i) seen k (has (defines e x) (has_last x) k.3 l)))

  -- ---- joining a block

  -- what the block gives to a hidden name
  abbrev IsGiven : Sketch → Layer → List ℕ × Entry → Type 0
  IsGiven s own p = Has s.shapes (branch_value own p.0 p.1).wire p.1.shape

  given-on : (P : List ℕ) (s s' : Sketch) (own : Layer) (h : Layer) → Step P s s' → Each (IsGiven s own) h → Each (IsGiven s' own) h
  given-on P s s' own [] st k = tt
  given-on P s s' own (p ∷ h) st k = (has-on P s s' (branch_value own p.0 p.1).wire p.1.shape st k.0, given-on P s s' own h st k.1)

  joined : (P : List ℕ) (own : Layer) (c : ℕ) (h : Layer) (s : Sketch) → IsFormed P s → Has s.shapes c Truth → Each (IsHidden s) h → Each (IsGiven s own) h → Step P s (join_names own c h s).1 × Each (IsHidden (join_names own c h s).1) (join_names own c h s).0
  joined P own c [] s a l k g = (still P s a, tt)
  joined P own c (p ∷ h) s a l k g =
      let v = branch_value own p.0 p.1 in
      let rest = join_name own c p.0 p.1 s in
      let b = chain-step P p.1.hole c v p.1.shape s a k.0.0 l (refl, g.0) in
      let others = join_names own c h rest.1 in
      let more = joined P own c h rest.1 b.0.formed (has-on P s rest.1 c Truth b.0 l) (hidden-on P s rest.1 h b.0 k.1) (given-on P s rest.1 own h b.0 g.1) in
      (onward P P s rest.1 others.1 b.0 more.0, ((hole-on P rest.1 others.1 rest.0 p.1.shape more.0 b.1, k.0.1, k.0.2, k.0.3), more.1))

  given-all : (ds : List Decl) (es : Eqns) (i : Scope) (s : Sketch) → OwnsNames ds es i → AreOwned i s (λ x. some_defines es x) → ((x : List ℕ) (u : Ty) → lookup (with_variables ts ds).variables x ≡ Some u → shapes_in i x ≡ type_shape t u) → Completes types among e has_last (block ds es) → OthersKnown types among (block ds es) ts
      → Seen s → (h : Layer) → Each (IsHidden s) h → Each (IsGiven s (top_layer i)) h
  given-all ds es i s O own shapes full others seen [] k = tt
  given-all ds es i s O own shapes full others seen (p ∷ h) k = (by (entry_in (top_layer i) p.0) refl, given-all ds es i s O own shapes full others seen h k.1)
    where
      last : has_last p.0 ≡ true → Has s.shapes (or_none p.1.wire) p.1.shape
      last l = last-carried s p seen k.0 l

      by : (o : Option Entry) → entry_in (top_layer i) p.0 ≡ o → Has s.shapes (or_none (branch_wire o p.1.wire)) p.1.shape
      by None q = elim (full p.0 k.0.3) [
        | inl d ↦ absurd (none-unknown (top_layer i) p.0 q (O.known p.0 (some-first (some_defines es p.0) (not (declares ds p.0)) d)))
        | inr l ↦ last l
      ]
      by (Some n) q = of n.decl (O.owned p.0 n q).declared
        where
          of : (d : Option ℕ) → is_some d ≡ declares ds p.0 → Has s.shapes (or_none (own_wire d n.wire p.1.wire)) p.1.shape
          of (Some j) r = elim (full p.0 k.0.3) [
            | inl d ↦ absurd (not-second (some_defines es p.0) (declares ds p.0) (sym r) d)
            | inr l ↦ last l
          ]
          of None r =
              let w = own.holes p.0 n q in
              let u = others p.0 ((O.owned p.0 n q).defined (sym r)) (sym r) in
              let is : n.shape ≡ p.1.shape = sym (top-shape i p.0 n q) ∙ shapes p.0 u.0 (still_known p.0 ds ts u.0 u.1) ∙ sym (k.0.1 ∙ seen.shapes p.0 u.0 u.1) in
              subst (λ y. Has s.shapes (or_none n.wire) y) is (subst (λ y. Has s.shapes (or_none y) n.shape) (sym w.0) w.1.0)

  -- what the parts of the equation leave behind: the same scope, but for what is to be said next
  abbrev pub Left : List ℕ → Sketch → Scope × Sketch → Type 0
  Left P s d = (h : Layer) × (d.0 ≡ push_values h z) × Step P s d.1 × IsOver d.1 h

  pub left-on : (P Q : List ℕ) (s s1 : Sketch) (d : Scope × Sketch) → Step P s s1 → Left Q s1 d → Left Q s d
  left-on P Q s s1 d st l = (l.0, l.1, onward P Q s s1 d.1 st l.2, l.3)

  -- what is drawn in the scope that is left
  pub left-through : (P : List ℕ) (s s' : Sketch) (d : Scope × Sketch) (l : Left P s d) (f : Scope → Scope × Sketch) → Left P s' (f (push_values l.0 z)) → Left P s' (f d.0)
  left-through P s s' d l f h = subst (λ y. Left P s' (f y)) (sym l.1) h

  -- a block that is left
  pub record IsLeft (b : Block) (h : Layer) (i : Scope) (s : Sketch) : Type 0 where
    pub values : outer_layers i.values ≡ (push_values h z).values
    pub lasts : outer_layers i.lasts ≡ (push_values h z).lasts
    pub owns : Owns b i
    pub owned : AreOwned i s (λ x. some_in b x)
    pub shapes : (x : List ℕ) (u : Ty) → lookup (inside ts b).variables x ≡ Some u → shapes_in i x ≡ type_shape t u

  pub left-more : (P : List ℕ) (b : Block) (h : Layer) (i : Scope) (s s' : Sketch) → Step P s s' → IsLeft b h i s → IsLeft b h i s'
  left-more P b h i s s' st l = record { values = l.values; lasts = l.lasts; owns = l.owns; owned = record { known = l.owned.known; holes = λ x n q. let k = l.owned.holes x n q in (k.0, hole-on P s s' n.hole n.shape st k.1) }; shapes = l.shapes }

  pub join-step : (P : List ℕ) (b : Block) (h : Layer) (d : Scope × Sketch) (c : ℕ) → IsFormed P d.1 → Has d.1.shapes c Truth → Seen d.1 → IsOver d.1 h → IsLeft b h d.0 d.1 → Completes types among e has_last b → OthersKnown types among b ts → Left P d.1 (join_drawn c d)
  join-step P (block ds es) h d c a l seen o left full others =
      let own = top_layer d.0 in
      let u = joined P own c h d.1 a l o.hidden (given-all ds es d.0 d.1 left.owns left.owned left.shapes full others seen h o.hidden) in
      let r = join_names own c h d.1 in
      let is : Left P d.1 (push_values r.0 z, r.1) = (r.0, refl, u.0, record { hidden = u.1; known = λ x i. joined-known own c h d.1 x (o.known x i) }) in
      subst (Left P d.1) (sym (join-is c z d.0 h d.1 left.values left.lasts)) is

  -- ---- leaving the equation

  ended : (P : List ℕ) (h : Layer) (s : Sketch) → IsFormed P s → Each (IsHidden s) h → Step P s (end_names h s)
  ended P [] s a k = still P s a
  ended P (p ∷ h) s a k =
      let s1 = end_name p.1 s in
      let st = by (is_mark p.1.shape) in
      onward P P s s1 (end_names h s1) st (ended P h s1 st.formed (hidden-on P s s1 h st k.1))
    where
      by : (b : Bool) → Step P s (if b then s else chain_end p.1.hole s)
      by true = still P s a
      by false = chain_end-step P p.1.hole p.1.shape s a k.0.0

  pub left-ends : (P : List ℕ) (s : Sketch) (d : Scope × Sketch) → Left P s d → Step P s (leave_hidden d)
  unfolding end_hidden top_layer push_values
  left-ends P s d l = onward P P s d.1 (end_hidden d.0 d.1) l.2 (subst (λ y. Step P d.1 (end_names (innermost y.values) d.1)) (sym l.1) (ended P l.0 d.1 l.2.formed l.3.hidden))

  -- the names of the equation read a wire
  pub read-by-step : (P : List ℕ) (w : ℕ) (h : Layer) (s : Sketch) → IsFormed P s → IsOver s h → IsThere (view_of s) w → Step P s (read_by_hidden (push_values h z) w s)
  unfolding read_by_hidden top_layer push_values
  read-by-step P w h s a o l = each h s a o.hidden l
    where
      each : (h : Layer) (s : Sketch) → IsFormed P s → Each (IsHidden s) h → IsThere (view_of s) w → Step P s (read_by_names h w s)
      each [] s a k l = still P s a
      each (p ∷ h) s a k l =
          let s1 = read p.1.hole w s in
          let st = read-step P p.1.hole w s a (p.1.shape, k.0.0.0) l in
          onward P P s s1 (read_by_names h w s1) st (each h s1 st.formed (hidden-on P s s1 h st k.1) (l.0, has-on P s s1 w l.0 st l.1))
