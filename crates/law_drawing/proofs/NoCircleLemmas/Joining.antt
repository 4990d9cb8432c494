-- The blocks of a control equation are joined one after another: what it hides stays hidden, with marks.
use Rattle.std.proofs.Common.{◌≡◌, ◌⊎◌, ℕ, ◌<◌, arith, Bool, true, false, if◌then◌else◌, not, ◌&&◌, List, [], ◌∷◌, Option, None, Some, refl, sym, ap, subst, ◌∙◌, inl, inr}
use Rattle.std.specs.Prelude.{is_some}
use Rattle.std.specs.Str.{bytes_eq}
use Rattle.std.proofs.lemmas.Option.{same_Some, none-some}
use Rattle.hp_drawing.specs.Kept.{is_mark}
use Rattle.hp_tree.specs.Blocks.{Block, block, Eqn}
use Rattle.hp_tree.specs.Instant.{Named, Place as TreePlace}
use Rattle.hp_tree.specs.Meaning.{defines, some_defines, declares, block_defines}
use Rattle.hp_meaning.specs.Causal.Sources.{none, NameSources, PlaceSources}
use Rattle.hp_meaning.specs.Causal.WhatIsRead.{names_within, names_in_block}
use Rattle.hp_drawing.specs.declared.parts.Entry.{Entry}
use Rattle.hp_drawing.specs.Told.{or_none}
use Rattle.hp_drawing.specs.Sketch.{Sketch, read}
use Rattle.hp_drawing.specs.Scopes.{Scope, Layer, entry_if, entry_in, value_by, or_found, found, value_in, last_in, last_wire, own_entry, own_wire, branch_wire, innermost, outer_layers, add, add_if, push_values, top_layer, hide_name_by, hide_names, names_of_eqn, hidden_entry, join_name, join_names, join_layers, join, read_by_names, read_by_hidden, end_names, end_hidden}
use Rattle.hp_drawing.specs.DrawnBlocks.{join_drawn, leave_hidden}
use Rattle.law_drawing.proofs.CarryingLemmas.Layers.{same-name, put-found, Knows, knows-add, knows-added, Occurs, eqn-names, eqn-occurs}
use Rattle.law_drawing.proofs.CarryingLemmas.Layers as layers
use Rattle.law_drawing.specs.Steered.Marks.{Each}
use Rattle.law_drawing.proofs.SteeredLemmas.Hiding.{each-add, each-found, none-unknown}
use Rattle.law_drawing.proofs.SteeredLemmas.Joining.{joined-known, joined-keys, some_in}
use Rattle.law_drawing.specs.NoCircle.Marks.{Mark, Marks, Less, Grows, Has, Low, Under, Frame, later, AreMarked, top, around}
use Rattle.hp_base.specs.declared.ty.Ty.{Ty}
use Rattle.hp_base.specs.Known.Known.{lookup}
use Rattle.law_judged.specs.Typed.Scopes.{Scope as TypeScope}
use Rattle.law_values.specs.Valued.Judged.{Lasts}
use Rattle.hp_meaning.specs.Contract.Slots.{is_int}
use Rattle.law_drawing.specs.NoCircle.Typed.{AreTyped}
use Rattle.law_drawing.specs.NoCircle.Asked.{AreSeen, IsOwned, AreFirst, Owed}
use Rattle.law_drawing.proofs.NoCircleLemmas.Steps.{low-own, low-under, Step, read-marked}
use Rattle.law_drawing.proofs.NoCircleLemmas.Values.{low-around}
use Rattle.law_drawing.proofs.NoCircleLemmas.Hiding.{AnyHole, any-found, AreHidden, IsHidden, IsGiven, hidden-names, hidden-grows, joined, ended}
use Rattle.law_drawing.proofs.SteeredLemmas.Outer.{IsOuter, IsWithin}

hidden-keys : (P : List ℕ → Type 0) (z : Scope) (xs : List (List ℕ)) (l : Layer) → layers.Each P xs → Each (λ p. P p.0) l → Each (λ p. P p.0) (hide_names z xs l)
hidden-keys P z [] l d h = h
hidden-keys P z (x ∷ xs) l d h = by (own_entry z x) (λ l h. hidden-keys P z xs l d.1 h)
  where
    by : (o : Option Entry) → ((l : Layer) → Each (λ p. P p.0) l → Each (λ p. P p.0) (hide_names z xs l)) → Each (λ p. P p.0) (hide_names z xs (hide_name_by o (last_wire z x) x l))
    by None more = more l h
    by (Some own) more = more (hide_name_by (Some own) (last_wire z x) x l) (each-add (λ p. P p.0) l x (hidden_entry own (last_wire z x)) h d.0)

-- hidden names are carried as they are around
hidden-carried : (z : Scope) (xs : List (List ℕ)) (l : Layer) → AreFirst z → Each (λ p. p.1.shape ≡ (value_in z p.0).shape) l → Each (λ p. p.1.shape ≡ (value_in z p.0).shape) (hide_names z xs l)
hidden-carried z [] l first h = h
hidden-carried z (x ∷ xs) l first h = by (own_entry z x) refl (λ l h. hidden-carried z xs l first h)
  where
    by : (o : Option Entry) → own_entry z x ≡ o → ((l : Layer) → Each (λ p. p.1.shape ≡ (value_in z p.0).shape) l → Each (λ p. p.1.shape ≡ (value_in z p.0).shape) (hide_names z xs l)) → Each (λ p. p.1.shape ≡ (value_in z p.0).shape) (hide_names z xs (hide_name_by o (last_wire z x) x l))
    by None q more = more l h
    by (Some own) q more = more (hide_name_by (Some own) (last_wire z x) x l) (each-add (λ p. p.1.shape ≡ (value_in z p.0).shape) l x (hidden_entry own (last_wire z x)) h (sym (first x own q).1))

joined-carried : (z : Scope) (own : Layer) (c : ℕ) (l : Layer) (s : Sketch) → Each (λ p. p.1.shape ≡ (value_in z p.0).shape) l → Each (λ p. p.1.shape ≡ (value_in z p.0).shape) (join_names own c l s).0
joined-carried z own c [] s h = tt
joined-carried z own c (p ∷ l) s h = (h.0, joined-carried z own c l (join_name own c p.0 p.1 s).1 h.1)

-- a hidden name is what its layer says of it
hidden-found : (z : Scope) (xs : List (List ℕ)) (l : Layer) (x : List ℕ) (e : Entry) → own_entry z x ≡ Some e → Knows l x ⊎ Occurs xs x → ((n : Entry) → entry_in l x ≡ Some n → (n.hole ≡ e.hole) × (n.shape ≡ e.shape))
    → (n : Entry) × (entry_in (hide_names z xs l) x ≡ Some n) × (n.hole ≡ e.hole) × (n.shape ≡ e.shape)
hidden-found z [] l x e q (inl k) f = by (entry_in l x) refl k
  where
    by : (o : Option Entry) → entry_in l x ≡ o → is_some o ≡ true → (n : Entry) × (entry_in l x ≡ Some n) × (n.hole ≡ e.hole) × (n.shape ≡ e.shape)
    by None r k = absurd cc
    by (Some n) r k = let a = f n r in (n, r, a.0, a.1)
hidden-found z [] l x e q (inr k) f = absurd k
hidden-found z (y ∷ xs) l x e q k f = by (own_entry z y) refl k f (λ l k f. hidden-found z xs l x e q k f)
  where
    Goal : Layer → Type 0
    Goal l = (n : Entry) × (entry_in (hide_names z xs l) x ≡ Some n) × (n.hole ≡ e.hole) × (n.shape ≡ e.shape)

    More : Type 0
    More = (l : Layer) → Knows l x ⊎ Occurs xs x → ((n : Entry) → entry_in l x ≡ Some n → (n.hole ≡ e.hole) × (n.shape ≡ e.shape)) → Goal l

    same : (n : Entry) → own_entry z y ≡ Some n → y ≡ x → n ≡ e
    same n r s = same_Some n e (sym r ∙ ap (own_entry z) s ∙ q)

    by : (o : Option Entry) → own_entry z y ≡ o → Knows l x ⊎ Occurs (y ∷ xs) x → ((n : Entry) → entry_in l x ≡ Some n → (n.hole ≡ e.hole) × (n.shape ≡ e.shape)) → More → Goal (hide_name_by o (last_wire z y) y l)
    by None r (inl k) f more = more l (inl k) f
    by None r (inr (inl s)) f more = absurd (none-some e (sym r ∙ ap (own_entry z) s ∙ q))
    by None r (inr (inr k)) f more = more l (inr k) f
    by (Some o) r k f more =
        let n = hidden_entry o (last_wire z y) in
        more (add l y n) (elim k [ inl a ↦ inl (knows-add l y n x a) | inr a ↦ elim a [ inl s ↦ inl (subst (Knows (add l y n)) s (knows-added l y n)) | inr b ↦ inr b ] ])
        (added n (λ s. let a = same o r s in (ap (λ (i : Entry). i.hole) a, ap (λ (i : Entry). i.shape) a)) (entry_in l y))
      where
        added : (n : Entry) → (y ≡ x → (n.hole ≡ e.hole) × (n.shape ≡ e.shape)) → (i : Option Entry) → (m : Entry) → entry_in (add_if i l y n) x ≡ Some m → (m.hole ≡ e.hole) × (m.shape ≡ e.shape)
        added n g None m s = of (bytes_eq x y) refl (sym (put-found l y n x) ∙ s)
          where
            of : (b : Bool) → bytes_eq x y ≡ b → entry_if b n (entry_in l x) ≡ Some m → (m.hole ≡ e.hole) × (m.shape ≡ e.shape)
            of true p s = let a = g (sym (same-name x y p)) in let c = same_Some n m s in (ap (λ (i : Entry). i.hole) (sym c) ∙ a.0, ap (λ (i : Entry). i.shape) (sym c) ∙ a.1)
            of false p s = f m s
        added n g (Some old) m s = f m s

-- ---- the scope of a control equation

-- where a block is left in which the scope has one layer more
join-is : (c : ℕ) (z i : Scope) (h : Layer) (s : Sketch) → outer_layers i.values ≡ (push_values h z).values → outer_layers i.lasts ≡ (push_values h z).lasts
    → (let d = join_names (top_layer i) c h s in join c i s ≡ (push_values d.0 z, d.1))
unfolding join push_values
join-is c z i h s p q =
    ap (λ v. let d = join_layers (top_layer i) c v s in (record { values = d.0; lasts = outer_layers i.lasts }, d.1)) p
    ∙ ap (λ l. let d = join_names (top_layer i) c h s in (record { values = d.0 ∷ z.values; lasts = l }, d.1)) q

some-of : (a b : Bool) → a && b ≡ true → a ≡ true
some-of true b h = refl
some-of false b h = h

inside-is : (b : Block) (names : NameSources) (k : PlaceSources) (x : List ℕ) → block_defines b x ≡ true → names_in_block b names k x ≡ k (Named x ∷ [])
inside-is (block ds es) names k x h = ap (λ d. if d then k (Named x ∷ []) else names x) (some-of (some_defines es x) (not (declares ds x)) h)

block-some : (b : Block) (x : List ℕ) → block_defines b x ≡ true → some_in b x ≡ true
block-some (block ds es) x h = some-of (some_defines es x) (not (declares ds x)) h

module _ (rank : TreePlace → ℕ) (z : Scope) (context : Mark) (names : NameSources) (e : Eqn) where
  -- the layer of what the equation hides
  pub record IsOver (ms : Marks) (h : Layer) : Type 0 where
    pub hidden : AreHidden rank z context names ms h
    pub keys : Each (λ p. defines e p.0 ≡ true) h
    pub known : (x : List ℕ) → defines e x ≡ true → Knows h x
    pub above : (x : List ℕ) → defines e x ≡ true → context.0 < top rank (names x)
    pub carried : Each (λ p. p.1.shape ≡ (value_in z p.0).shape) h

  pub over-grows : (ms ms' : Marks) → Grows ms ms' → (h : Layer) → IsOver ms h → IsOver ms' h
  over-grows ms ms' g h o = record { hidden = hidden-grows rank z context names ms ms' g h o.hidden; keys = o.keys; known = o.known; above = o.above; carried = o.carried }

  -- at first
  pub over-begins : (ms : Marks) → AreSeen rank ms z context names → IsOwned rank ms z context names (defines e) → ((x : List ℕ) → defines e x ≡ true → context.0 < top rank (names x)) → AreFirst z → IsOver ms (hide_names z (names_of_eqn e) [])
  over-begins ms seen own above first =
      let h = hidden-names rank z context names (names_of_eqn e) [] ms seen.lasts own.holes (λ x o. own.known x (occurring (names_of_eqn e) (eqn-names e) x o)) tt in
      record { hidden = h.0; keys = hidden-keys (λ x. defines e x ≡ true) z (names_of_eqn e) [] (eqn-names e) tt; known = λ x d. h.2 x (eqn-occurs e x d); above = above; carried = hidden-carried z (names_of_eqn e) [] first tt }
    where
      occurring : (xs : List (List ℕ)) → layers.Each (λ x. defines e x ≡ true) xs → (x : List ℕ) → Occurs xs x → defines e x ≡ true
      occurring [] h x o = absurd o
      occurring (y ∷ xs) h x (inl i) = subst (λ n. defines e n ≡ true) i h.0
      occurring (y ∷ xs) h x (inr o) = occurring xs h.1 x o

  -- what the equation owes are the holes of what it hides
  pub over-late : (k : ℕ) → Owed z (defines e) k → AnyHole (hide_names z (names_of_eqn e) []) k
  over-late k (x, o, q, part, same, d) =
      let r = hidden-found z (names_of_eqn e) [] x o q (inr (eqn-occurs e x d)) (λ n r. absurd (none-some n r)) in
      subst (AnyHole (hide_names z (names_of_eqn e) [])) (r.2 ∙ sym same) (any-found (hide_names z (names_of_eqn e) []) x r.0 r.1 (ap is_mark r.3 ∙ part))

  -- so the parts of the equation see what the tree says of names within it
  pub over-seen : (ms : Marks) (h : Layer) → IsOver ms h → AreSeen rank ms z context names → AreSeen rank ms (push_values h z) context (names_within e names)
  unfolding push_values value_in last_in
  over-seen ms h o seen = record { values = λ x. value-at x (seen.values x); lasts = seen.lasts }
    where
      value-at : (x : List ℕ) → Low ms (value_by (found z.values x)).wire (around rank context (names x)) → Low ms (value_by (or_found (entry_in h x) (found z.values x))).wire (around rank context (names_within e names x))
      value-at x low = by (entry_in h x) refl
        where
          defined : (b : Bool) → defines e x ≡ b → entry_in h x ≡ None → b ≡ false
          defined true d q = absurd (none-unknown h x q (o.known x d))
          defined false d q = refl

          by : (i : Option Entry) → entry_in h x ≡ i → Low ms (value_by (or_found i (found z.values x))).wire (around rank context (names_within e names x))
          by None q = subst (λ b. Low ms (value_by (found z.values x)).wire (around rank context (if b then none else names x))) (sym (defined (defines e x) refl q)) low
          by (Some i) q = low-around rank z context names ms (or_none i.wire) (names_within e names x) (each-found (IsHidden rank z context names ms) h x i o.hidden q).0

  -- and it carries names as they are carried around
  pub over-typed : (g : TypeScope) (has_last : Lasts) (ms : Marks) (h : Layer) → IsOver ms h → AreTyped g has_last z → AreTyped g has_last (push_values h z)
  unfolding push_values value_in last_in
  over-typed g has_last ms h o S = record { values = λ x u k. value-of x u k (entry_in h x) refl; lasts = S.lasts; known = S.known }
    where
      value-of : (x : List ℕ) (u : Ty) → lookup g.variables x ≡ Some u → (i : Option Entry) → entry_in h x ≡ i → is_mark (value_by (or_found i (found z.values x))).shape ≡ is_int u
      value-of x u k None q = S.values x u k
      value-of x u k (Some i) q = ap is_mark (each-found (λ p. p.1.shape ≡ (value_in z p.0).shape) h x i o.carried q) ∙ S.values x u k

  -- what the parts of the equation leave behind: the same scope, but for what is to be said next
  abbrev pub Left : Frame → Marks → Scope × Sketch → Type 0
  Left F ms d = (h : Layer) × (d.0 ≡ push_values h z) × (ms' : Marks) × Grows ms ms' × AreMarked (later F (AnyHole h)) d.1 ms' × IsOver ms' h

  -- ---- joining a block

  module _ (context' : Mark) (k : PlaceSources) where
    -- the condition, and what the block gives, lead where the names do that the equation defines
    given-all : (b : Block) (ms : Marks) (i : Scope) (c : ℕ) → IsOuter (λ x. block_defines b x ≡ true) (top_layer i) → IsOwned rank ms i context' (names_in_block b (names_within e names) k) (some_in b)
        → ((x : List ℕ) → defines e x ≡ true → Under ms c (around rank context (names x)))
        → ((x : List ℕ) → defines e x ≡ true → block_defines b x ≡ true → Less (around rank context' (k (Named x ∷ []))) (around rank context (names x)))
        → ((x : List ℕ) → defines e x ≡ true → context.0 < top rank (names x)) → (h : Layer) → AreHidden rank z context names ms h → Each (λ p. defines e p.0 ≡ true) h → Each (IsGiven rank z context names ms (top_layer i) c) h
    unfolding top_layer value_in own_entry
    given-all b ms i c outer own condition gives above [] hidden keys = tt
    given-all b ms i c outer own condition gives above (p ∷ h) hidden keys = ((condition p.0 keys.0, by (entry_in (innermost i.values) p.0) refl), given-all b ms i c outer own condition gives above h hidden.1 keys.1)
      where
        top-wire : (ls : List Layer) (x : List ℕ) (o : Entry) → entry_in (innermost ls) x ≡ Some o → (value_by (found ls x)).wire ≡ or_none o.wire
        top-wire [] x o q = absurd cc
        top-wire (l ∷ ls) x o q = ap (λ a. (value_by (or_found a (found ls x))).wire) q

        hid : Under ms (or_none p.1.wire) (around rank context (names p.0))
        hid = let n = above p.0 keys.0 in low-under ms (or_none p.1.wire) context (around rank context (names p.0)) (inl (omega (arith, n))) hidden.0.0

        by : (o : Option Entry) → entry_in (innermost i.values) p.0 ≡ o → Under ms (or_none (branch_wire o p.1.wire)) (around rank context (names p.0))
        by None q = hid
        by (Some o) q = of o.decl refl
          where
            of : (n : Option ℕ) → o.decl ≡ n → Under ms (or_none (own_wire n o.wire p.1.wire)) (around rank context (names p.0))
            of (Some n) r = hid
            of None r =
                let d = outer p.0 o q r in
                let has = subst (λ w. Has ms w (around rank context' (names_in_block b (names_within e names) k p.0))) (top-wire i.values p.0 o q) (own.wires p.0 (block-some b p.0 d)) in
                low-under ms (or_none o.wire) (around rank context' (k (Named p.0 ∷ []))) (around rank context (names p.0)) (gives p.0 keys.0 d)
                (subst (λ m. Low ms (or_none o.wire) (around rank context' m)) (inside-is b (names_within e names) k p.0 d) (low-own ms (or_none o.wire) (around rank context' (names_in_block b (names_within e names) k p.0)) has))

    pub join-marked : (F : Frame) (b : Block) (h : Layer) (d : Scope × Sketch) (c : ℕ) (ms : Marks) → IsWithin b (push_values h z) d.0 → AreMarked (later F (AnyHole h)) d.1 ms → IsOver ms h → IsOwned rank ms d.0 context' (names_in_block b (names_within e names) k) (some_in b)
        → ((x : List ℕ) → defines e x ≡ true → Under ms c (around rank context (names x)))
        → ((x : List ℕ) → defines e x ≡ true → block_defines b x ≡ true → Less (around rank context' (k (Named x ∷ []))) (around rank context (names x)))
        → Left F ms (join_drawn c d)
    join-marked F b h d c ms within a o own condition gives =
        let given = given-all b ms d.0 c within.outer own condition gives o.above h o.hidden o.keys in
        let own_layer = top_layer d.0 in
        let u = joined rank z context names F own_layer c h d.1 ms a o.hidden given in
        let r = join_names own_layer c h d.1 in
        let left : Left F ms (push_values r.0 z, r.1) = (r.0, refl, u.0, u.1, u.2, record { hidden = u.3; keys = joined-keys (λ x. defines e x ≡ true) own_layer c h d.1 o.keys; known = λ x i. joined-known own_layer c h d.1 x (o.known x i); above = o.above; carried = joined-carried z own_layer c h d.1 o.carried }) in
        subst (Left F ms) (sym (join-is c z d.0 h d.1 within.values within.lasts)) left

  -- ---- leaving the equation

  pub left-ends : (F : Frame) (d : Scope × Sketch) (ms : Marks) → Left F ms d → Step F ms (leave_hidden d)
  unfolding end_hidden top_layer push_values
  left-ends F d ms l = (l.2, l.3, subst (λ y. AreMarked F (end_names (innermost y.values) d.1) l.2) (sym l.1) (ended rank z context names F l.0 d.1 l.2 l.4 l.5.hidden))

  -- the names of the equation read a wire
  pub read-by-marked : {F : Frame} (w : ℕ) (h : Layer) (s : Sketch) (ms : Marks) → AreMarked F s ms → IsOver ms h → ((x : List ℕ) → defines e x ≡ true → Under ms w (around rank context (names x))) → AreMarked F (read_by_hidden (push_values h z) w s) ms
  unfolding read_by_hidden top_layer push_values
  read-by-marked {F} w h s ms a o f = each h s a o.hidden o.keys
    where
      each : (l : Layer) (s : Sketch) → AreMarked F s ms → AreHidden rank z context names ms l → Each (λ p. defines e p.0 ≡ true) l → AreMarked F (read_by_names l w s) ms
      each [] s a h k = a
      each (p ∷ l) s a h k = each l (read p.1.hole w s) (read-marked p.1.hole w s ms (around rank context (names p.0)) a h.0.1 (f p.0 k.0)) h.1 k.1
