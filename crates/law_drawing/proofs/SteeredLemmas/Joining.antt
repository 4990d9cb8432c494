-- The blocks of a control equation are joined one after another: what it hides stays hidden, with marks.
use Rattle.std.proofs.Common.{◌≡◌, ℕ, Bool, true, false, if◌then◌else◌, not, ◌&&◌, List, [], ◌∷◌, Option, None, Some, refl, sym, ap, subst, ◌∙◌, inl, inr}
use Rattle.std.specs.Prelude.{is_some}
use Rattle.std.specs.Str.{bytes_eq}
use Rattle.hp_tree.specs.Blocks.{Block, block, Eqn}
use Rattle.hp_tree.specs.Instant.{Named}
use Rattle.hp_tree.specs.Meaning.{defines, some_defines, declares, block_defines}
use Rattle.hp_meaning.specs.Causal.Sources.{Sources, none, both, NameSources, PlaceSources}
use Rattle.hp_meaning.specs.Causal.WhatIsRead.{names_within, names_in_block}
use Rattle.hp_drawing.specs.declared.parts.Entry.{Entry}
use Rattle.hp_drawing.specs.Told.{or_none}
use Rattle.hp_drawing.specs.Sketch.{Sketch, read}
use Rattle.hp_drawing.specs.Scopes.{Scope, Layer, entry_if, entry_in, value_by, or_found, found, value_in, last_in, last_wire, own_entry, own_wire, branch_wire, with_hole, innermost, outer_layers, push_values, pop_values, top_layer, hide_name_by, hide_names, hide, names_of_eqn, hidden_entry, join_name, join_names, join_layers, join, read_by_names, read_by_hidden, end_names, end_hidden}
use Rattle.hp_drawing.specs.DrawnBlocks.{join_drawn, leave_hidden}
use Rattle.law_drawing.proofs.CarryingLemmas.Layers.{Knows, Occurs, eqn-names, eqn-occurs}
use Rattle.law_drawing.proofs.CarryingLemmas.Layers as layers
use Rattle.law_drawing.specs.Steered.Marks.{Steering, Marks, Grows, Has, Each, Leads, Low, AreMarked}
use Rattle.law_drawing.specs.Steered.Asked.{AreSeen, IsOwned}
use Rattle.law_drawing.proofs.SteeredLemmas.Steps.{low-own, low-up, Step, read-marked}
use Rattle.law_drawing.proofs.SteeredLemmas.Values.{low-context}
use Rattle.law_drawing.proofs.SteeredLemmas.Hiding.{each-add, each-found, none-unknown, AreHidden, IsHidden, IsGiven, hidden-names, hidden-grows, joined, ended}
use Rattle.law_drawing.proofs.SteeredLemmas.Outer.{IsOuter, IsWithin}

-- ---- layers that are joined know what they knew

pub joined-known : (own : Layer) (c : ℕ) (l : Layer) (s : Sketch) (x : List ℕ) → Knows l x → Knows (join_names own c l s).0 x
joined-known own c [] s x h = h
joined-known own c (p ∷ l) s x h = by (bytes_eq x p.0) h (joined-known own c l (join_name own c p.0 p.1 s).1 x)
  where
    rest : Layer
    rest = (join_names own c l (join_name own c p.0 p.1 s).1).0

    by : (b : Bool) → is_some (entry_if b p.1 (entry_in l x)) ≡ true → (Knows l x → Knows rest x) → is_some (entry_if b (with_hole p.1 (join_name own c p.0 p.1 s).0) (entry_in rest x)) ≡ true
    by true h more = refl
    by false h more = more h

pub joined-keys : (P : List ℕ → Type 0) (own : Layer) (c : ℕ) (l : Layer) (s : Sketch) → Each (λ p. P p.0) l → Each (λ p. P p.0) (join_names own c l s).0
joined-keys P own c [] s h = tt
joined-keys P own c (p ∷ l) s h = (h.0, joined-keys P own c l (join_name own c p.0 p.1 s).1 h.1)

hidden-keys : (P : List ℕ → Type 0) (z : Scope) (xs : List (List ℕ)) (l : Layer) → layers.Each P xs → Each (λ p. P p.0) l → Each (λ p. P p.0) (hide_names z xs l)
hidden-keys P z [] l d h = h
hidden-keys P z (x ∷ xs) l d h = by (own_entry z x) (λ l h. hidden-keys P z xs l d.1 h)
  where
    by : (o : Option Entry) → ((l : Layer) → Each (λ p. P p.0) l → Each (λ p. P p.0) (hide_names z xs l)) → Each (λ p. P p.0) (hide_names z xs (hide_name_by o (last_wire z x) x l))
    by None more = more l h
    by (Some own) more = more (hide_name_by (Some own) (last_wire z x) x l) (each-add (λ p. P p.0) l x (hidden_entry own (last_wire z x)) h d.0)

-- ---- the scope of a control equation

pub hide-is : (z : Scope) (e : Eqn) → hide z e ≡ push_values (hide_names z (names_of_eqn e) []) z
unfolding hide
hide-is z e = refl

pub pop-is : (z : Scope) (h : Layer) → pop_values (push_values h z) ≡ z
unfolding pop_values push_values
pop-is z h = refl

-- where a block is left in which the scope has one layer more
join-is : (c : ℕ) (z i : Scope) (h : Layer) (s : Sketch) → outer_layers i.values ≡ (push_values h z).values → outer_layers i.lasts ≡ (push_values h z).lasts
    → (let d = join_names (top_layer i) c h s in join c i s ≡ (push_values d.0 z, d.1))
unfolding join push_values
join-is c z i h s p q =
    ap (λ v. let d = join_layers (top_layer i) c v s in (record { values = d.0; lasts = outer_layers i.lasts }, d.1)) p
    ∙ ap (λ l. let d = join_names (top_layer i) c h s in (record { values = d.0 ∷ z.values; lasts = l }, d.1)) q

some-of : (a b : Bool) → a && b ≡ true → a ≡ true
some-of true b h = refl
some-of false b h = h

inside-is : (b : Block) (names : NameSources) (k : PlaceSources) (x : List ℕ) → block_defines b x ≡ true → names_in_block b names k x ≡ k (Named x ∷ [])
inside-is (block ds es) names k x h = ap (λ d. if d then k (Named x ∷ []) else names x) (some-of (some_defines es x) (not (declares ds x)) h)

-- its equations define a name
abbrev pub some_in : Block → List ℕ → Bool
some_in (block ds es) = some_defines es

block-some : (b : Block) (x : List ℕ) → block_defines b x ≡ true → some_in b x ≡ true
block-some (block ds es) x h = some-of (some_defines es x) (not (declares ds x)) h

module _ (steers : Steering) (z : Scope) (context : Sources) (names : NameSources) (e : Eqn) where
  -- the layer of what the equation hides
  pub record IsOver (ms : Marks) (h : Layer) : Type 0 where
    pub hidden : AreHidden steers z context names ms h
    pub keys : Each (λ p. defines e p.0 ≡ true) h
    pub known : (x : List ℕ) → defines e x ≡ true → Knows h x

  pub over-grows : (ms ms' : Marks) → Grows ms ms' → (h : Layer) → IsOver ms h → IsOver ms' h
  over-grows ms ms' g h o = record { hidden = hidden-grows steers z context names ms ms' g h o.hidden; keys = o.keys; known = o.known }

  -- at first
  pub over-begins : (ms : Marks) → AreSeen steers ms z context names → IsOwned ms z context names (defines e) → IsOver ms (hide_names z (names_of_eqn e) [])
  over-begins ms seen own =
      let h = hidden-names steers z context names (names_of_eqn e) [] ms seen.lasts own.holes (λ x o. own.known x (occurring (names_of_eqn e) (eqn-names e) x o)) tt in
      record { hidden = h.0; keys = hidden-keys (λ x. defines e x ≡ true) z (names_of_eqn e) [] (eqn-names e) tt; known = λ x d. h.2 x (eqn-occurs e x d) }
    where
      occurring : (xs : List (List ℕ)) → layers.Each (λ x. defines e x ≡ true) xs → (x : List ℕ) → Occurs xs x → defines e x ≡ true
      occurring [] h x o = absurd o
      occurring (y ∷ xs) h x (inl i) = subst (λ n. defines e n ≡ true) i h.0
      occurring (y ∷ xs) h x (inr o) = occurring xs h.1 x o

  -- so the parts of the equation see what the tree says of names within it
  pub over-seen : (ms : Marks) (h : Layer) → IsOver ms h → AreSeen steers ms z context names → AreSeen steers ms (push_values h z) context (names_within e names)
  unfolding push_values value_in last_in
  over-seen ms h o seen = record { values = λ x. value-at x (seen.values x); lasts = seen.lasts }
    where
      value-at : (x : List ℕ) → Low steers ms (value_by (found z.values x)).wire (both context (names x)) → Low steers ms (value_by (or_found (entry_in h x) (found z.values x))).wire (both context (names_within e names x))
      value-at x low = by (entry_in h x) refl
        where
          defined : (b : Bool) → defines e x ≡ b → entry_in h x ≡ None → b ≡ false
          defined true d q = absurd (none-unknown h x q (o.known x d))
          defined false d q = refl

          by : (i : Option Entry) → entry_in h x ≡ i → Low steers ms (value_by (or_found i (found z.values x))).wire (both context (names_within e names x))
          by None q = subst (λ b. Low steers ms (value_by (found z.values x)).wire (both context (if b then none else names x))) (sym (defined (defines e x) refl q)) low
          by (Some i) q = low-context steers z context names ms (or_none i.wire) (names_within e names x) (each-found (IsHidden steers z context names ms) h x i o.hidden q).0

  -- what the parts of the equation leave behind: the same scope, but for what is to be said next
  abbrev pub Left : Marks → Scope × Sketch → Type 0
  Left ms d = (h : Layer) × (d.0 ≡ push_values h z) × (ms' : Marks) × Grows ms ms' × AreMarked steers d.1 ms' × IsOver ms' h

  -- ---- joining a block

  module _ (context' : Sources) (k : PlaceSources) where
    -- the condition, and what the block gives, lead where the names do that the equation defines
    given-all : (b : Block) (ms : Marks) (i : Scope) (c : ℕ) → IsOuter (λ x. block_defines b x ≡ true) (top_layer i) → IsOwned ms i context' (names_in_block b (names_within e names) k) (some_in b)
        → ((x : List ℕ) → defines e x ≡ true → Low steers ms c (both context (names x)))
        → ((x : List ℕ) → defines e x ≡ true → block_defines b x ≡ true → Leads steers (both context' (k (Named x ∷ []))) → Leads steers (both context (names x)))
        → (h : Layer) → AreHidden steers z context names ms h → Each (λ p. defines e p.0 ≡ true) h → Each (IsGiven steers z context names ms (top_layer i) c) h
    unfolding top_layer value_in own_entry
    given-all b ms i c outer own condition gives [] hidden keys = tt
    given-all b ms i c outer own condition gives (p ∷ h) hidden keys = ((condition p.0 keys.0, by (entry_in (innermost i.values) p.0) refl), given-all b ms i c outer own condition gives h hidden.1 keys.1)
      where
        top-wire : (ls : List Layer) (x : List ℕ) (o : Entry) → entry_in (innermost ls) x ≡ Some o → (value_by (found ls x)).wire ≡ or_none o.wire
        top-wire [] x o q = absurd cc
        top-wire (l ∷ ls) x o q = ap (λ a. (value_by (or_found a (found ls x))).wire) q

        hid : Low steers ms (or_none p.1.wire) (both context (names p.0))
        hid = low-context steers z context names ms (or_none p.1.wire) (names p.0) hidden.0.0

        by : (o : Option Entry) → entry_in (innermost i.values) p.0 ≡ o → Low steers ms (or_none (branch_wire o p.1.wire)) (both context (names p.0))
        by None q = hid
        by (Some o) q = of o.decl refl
          where
            of : (n : Option ℕ) → o.decl ≡ n → Low steers ms (or_none (own_wire n o.wire p.1.wire)) (both context (names p.0))
            of (Some n) r = hid
            of None r =
                let d = outer p.0 o q r in
                let has = subst (λ w. Has ms w (both context' (names_in_block b (names_within e names) k p.0))) (top-wire i.values p.0 o q) (own.wires p.0 (block-some b p.0 d)) in
                low-up steers ms (or_none o.wire) (both context' (k (Named p.0 ∷ []))) (both context (names p.0)) (gives p.0 keys.0 d)
                (subst (λ m. Low steers ms (or_none o.wire) (both context' m)) (inside-is b (names_within e names) k p.0 d) (low-own steers ms (or_none o.wire) (both context' (names_in_block b (names_within e names) k p.0)) has))

    pub join-marked : (b : Block) (h : Layer) (d : Scope × Sketch) (c : ℕ) (ms : Marks) → IsWithin b (push_values h z) d.0 → AreMarked steers d.1 ms → IsOver ms h → IsOwned ms d.0 context' (names_in_block b (names_within e names) k) (some_in b)
        → ((x : List ℕ) → defines e x ≡ true → Low steers ms c (both context (names x)))
        → ((x : List ℕ) → defines e x ≡ true → block_defines b x ≡ true → Leads steers (both context' (k (Named x ∷ []))) → Leads steers (both context (names x)))
        → Left ms (join_drawn c d)
    join-marked b h d c ms within a o own condition gives =
        let given = given-all b ms d.0 c within.outer own condition gives h o.hidden o.keys in
        let own_layer = top_layer d.0 in
        let u = joined steers z context names own_layer c h d.1 ms a o.hidden given in
        let r = join_names own_layer c h d.1 in
        let left : Left ms (push_values r.0 z, r.1) = (r.0, refl, u.0, u.1, u.2, record { hidden = u.3; keys = joined-keys (λ x. defines e x ≡ true) own_layer c h d.1 o.keys; known = λ x i. joined-known own_layer c h d.1 x (o.known x i) }) in
        subst (Left ms) (sym (join-is c z d.0 h d.1 within.values within.lasts)) left

  -- ---- leaving the equation

  pub left-ends : (d : Scope × Sketch) (ms : Marks) → Left ms d → Step steers ms (leave_hidden d)
  unfolding end_hidden top_layer push_values
  left-ends d ms l = (l.2, l.3, subst (λ y. AreMarked steers (end_names (innermost y.values) d.1) l.2) (sym l.1) (ended steers z context names l.0 d.1 l.2 l.4 l.5.hidden))

  -- the names of the equation read a wire
  pub read-by-marked : (w : ℕ) (h : Layer) (s : Sketch) (ms : Marks) → AreMarked steers s ms → IsOver ms h → ((x : List ℕ) → defines e x ≡ true → Low steers ms w (both context (names x))) → AreMarked steers (read_by_hidden (push_values h z) w s) ms
  unfolding read_by_hidden top_layer push_values
  read-by-marked w h s ms a o f = each h s a o.hidden o.keys
    where
      each : (l : Layer) (s : Sketch) → AreMarked steers s ms → AreHidden steers z context names ms l → Each (λ p. defines e p.0 ≡ true) l → AreMarked steers (read_by_names l w s) ms
      each [] s a h k = a
      each (p ∷ l) s a h k = each l (read p.1.hole w s) (read-marked steers p.1.hole w s ms (both context (names p.0)) a h.0.1 (f p.0 k.0)) h.1 k.1
