-- The names that a control equation defines: each has a wire whose value is said block by block.
use Rattle.std.proofs.Common.{◌≡◌, ℕ, Bool, true, false, if◌then◌else◌, List, [], ◌∷◌, Option, None, Some, refl, sym, ap, subst, ◌∙◌}
use Rattle.std.specs.Prelude.{⊤}
use Rattle.std.specs.Str.{bytes_eq}
use Rattle.std.proofs.lemmas.Option.{same_Some, none-some}
use Rattle.hp_base.specs.declared.ty.Ty.{Ty}
use Rattle.hp_tree.specs.Blocks.{Decl, Eqns, Eqn}
use Rattle.hp_tree.specs.ExpressionTypes as types_shown
use Rattle.hp_tree.specs.Instant.{Instant, Clock}
use Rattle.hp_tree.specs.Meaning.{Names, defines}
use Rattle.hp_tree.specs.Programs.{TypeDecl}
use Rattle.hp_base.specs.Known.Known.{lookup}
use Rattle.law_judged.specs.Typed.Scopes.{Scope as TypeScope}
use Rattle.law_values.specs.Valued.Judged.{Lasts}
use Rattle.hp_meaning.specs.Causal.Points.{Placed}
use Rattle.hp_meaning.specs.Contract.Memory.{number_in}
use Rattle.hp_meaning.specs.Contract.Slots.{is_int}
use Rattle.hp_circuit.specs.declared.circuit.Shape.{Shape}
use Rattle.hp_circuit.specs.Meaning.{truth}
use Rattle.hp_drawing.specs.declared.parts.Entry.{Entry}
use Rattle.hp_drawing.specs.declared.parts.Place.{Place}
use Rattle.hp_drawing.specs.declared.parts.Value.{Value as Carried}
use Rattle.hp_drawing.specs.Kept.{is_mark}
use Rattle.hp_drawing.specs.Told.{Told, or_none}
use Rattle.hp_drawing.specs.Scopes.{Scope, Layer, entry_in, entry_if, put, put_if, add, add_if, found, or_found, value_by, shape_by, value_in, last_in, last_wire, shapes_in, own_entry, top_layer, push_values, push_lasts, pop_values, hidden_entry, hide_name_by, hide_names, hide, names_of_eqn, branch_wire, branch_value, with_hole, join_name, join_names, join, enter, read_by_names, end_name, end_names, end_hidden}
use Rattle.hp_drawing.specs.Sketch.{Sketch, read}
use Rattle.hp_drawing.specs.Places.{chain_end}
use Rattle.law_drawing.specs.Carrying.Solving.{Has}
use Rattle.law_drawing.specs.Carrying.Drawing.{IsSolved, IsDrawn, IsReady, AreShaped}
use Rattle.law_drawing.proofs.CarryingLemmas.Steps.{stays, both, nothing-drawn, read-drawn}
use Rattle.law_drawing.proofs.CarryingLemmas.Stored.{chain-drawn, chain-ended}
use Rattle.law_drawing.proofs.CarryingLemmas.Layers.{Each, same-name, eqn-names}
use Rattle.law_drawing.proofs.CarryingLemmas.Hiding.{own-shape, last-same}
use Rattle.law_drawing.proofs.CarryingLemmas.Own.{top-value}

-- ---- scopes that give the same

pub record SameScope (y z : Scope) : Type 0 where
  pub values : (x : List ℕ) → value_in y x ≡ value_in z x
  pub shapes : (x : List ℕ) → shapes_in y x ≡ shapes_in z x
  pub lasts : (x : List ℕ) → last_in y x ≡ last_in z x

pub ready-same : (slot : ℕ → ℕ) (types : List TypeDecl) (names last : Names) (y z : Scope) (place : Place) (clock : Clock) (here cut kept : Bool) (d : Sketch) (ns : List ℕ) → SameScope y z → IsReady slot types names last y place clock here cut kept d ns → IsReady slot types names last z place clock here cut kept d ns
ready-same slot types names last y z place clock here cut kept d ns h r = record {
  solved = r.solved;
  place_is = r.place_is;
  clock_is = r.clock_is;
  values = λ x. subst (λ v. Has ns v.wire (number_in (names x))) (h.values x) (r.values x);
  lasts = λ x. subst (λ v. Has ns v.wire (number_in (last x))) (h.lasts x) (r.lasts x);
}

pub shaped-same : (s : TypeScope) (has_last : Lasts) (scope : types_shown.Scope) (y z : Scope) → SameScope y z → AreShaped s has_last scope y → AreShaped s has_last scope z
shaped-same s has_last scope y z h S = record {
  values = λ x t k. ap (λ v. is_mark v.shape) (sym (h.values x)) ∙ S.values x t k;
  shapes = λ x t k. ap is_mark (sym (h.shapes x)) ∙ S.shapes x t k;
  lasts = λ x t l k. ap (λ v. is_mark v.shape) (sym (h.lasts x)) ∙ S.lasts x t l k;
  types = S.types;
}

-- ---- layers that say the same of names, but for what is to be said next

abbrev seen : Option Entry → Option (Option ℕ × Shape)
seen None = None
seen (Some e) = Some (e.wire, e.shape)

abbrev pub SameSeen : Layer → Layer → Type 0
SameSeen l k = (x : List ℕ) → seen (entry_in l x) ≡ seen (entry_in k x)

abbrev value_seen : Option (Option ℕ × Shape) → Carried → Carried
value_seen None other = other
value_seen (Some p) other = record { wire = or_none p.0; shape = p.1 }

abbrev shape_seen : Option (Option ℕ × Shape) → Shape → Shape
shape_seen None other = other
shape_seen (Some p) other = p.1

value-over-seen : (o q : Option Entry) → value_by (or_found o q) ≡ value_seen (seen o) (value_by q)
value-over-seen None q = refl
value-over-seen (Some e) q = refl

shape-over-seen : (o q : Option Entry) → shape_by (or_found o q) ≡ shape_seen (seen o) (shape_by q)
shape-over-seen None q = refl
shape-over-seen (Some e) q = refl

pub same-pushed : (l k : Layer) (z : Scope) → SameSeen l k → SameScope (push_values l z) (push_values k z)
unfolding push_values value_in shapes_in last_in
same-pushed l k z h = record {
  values = λ x. value-over-seen (entry_in l x) (found z.values x) ∙ ap (λ o. value_seen o (value_by (found z.values x))) (h x) ∙ sym (value-over-seen (entry_in k x) (found z.values x));
  shapes = λ x. shape-over-seen (entry_in l x) (found z.values x) ∙ ap (λ o. shape_seen o (shape_by (found z.values x))) (h x) ∙ sym (shape-over-seen (entry_in k x) (found z.values x));
  lasts = λ x. refl;
}

pub pop-pushed : (l : Layer) (z : Scope) → SameScope (pop_values (push_values l z)) z
unfolding push_values pop_values value_in shapes_in last_in
pop-pushed l z = record { values = λ x. refl; shapes = λ x. refl; lasts = λ x. refl }

pub pushed-pop : (l : Layer) (z : Scope) → SameScope z (pop_values (push_values l z))
unfolding push_values pop_values value_in shapes_in last_in
pushed-pop l z = record { values = λ x. refl; shapes = λ x. refl; lasts = λ x. refl }

pub same-join : (l k m : Layer) → SameSeen l k → SameSeen k m → SameSeen l m
same-join l k m f g x = f x ∙ g x

-- ---- hidden names

module _ (e : Eqn) (s : TypeScope) (last : Names) where
  -- A hidden name is defined by the equation; what is to be said next has a number, and its last value is read.
  pub record IsHidden (ns : List ℕ) (G : List ℕ → ℕ) (x : List ℕ) (n : Entry) : Type 0 where
    pub defined : defines e x ≡ true
    pub next_is : Has ns n.hole (G x)
    pub last_is : Has ns (or_none n.wire) (number_in (last x))
    pub shaped : (t : Ty) → lookup s.variables x ≡ Some t → is_mark n.shape ≡ is_int t

  abbrev pub AreHidden : List ℕ → (List ℕ → ℕ) → Layer → Type 0
  AreHidden ns G [] = ⊤
  AreHidden ns G (p ∷ l) = IsHidden ns G p.0 p.1 × AreHidden ns G l

  hidden-put : (ns : List ℕ) (G : List ℕ → ℕ) (l : Layer) (y : List ℕ) (n : Entry) → AreHidden ns G l → IsHidden ns G y n → AreHidden ns G (put l y n)
  hidden-put ns G [] y n h k = (k, tt)
  hidden-put ns G (p ∷ l) y n h k = by (bytes_eq y p.0) refl (hidden-put ns G l y n h.1 k)
    where
      by : (b : Bool) → bytes_eq y p.0 ≡ b → AreHidden ns G (put l y n) → AreHidden ns G (put_if b p n l (put l y n))
      by true q ih = (subst (λ x. IsHidden ns G x n) (same-name y p.0 q) k, h.1)
      by false q ih = (h.0, ih)

  hidden-add : (ns : List ℕ) (G : List ℕ → ℕ) (l : Layer) (y : List ℕ) (n : Entry) → AreHidden ns G l → IsHidden ns G y n → AreHidden ns G (add l y n)
  hidden-add ns G l y n h k = by (entry_in l y)
    where
      by : (o : Option Entry) → AreHidden ns G (add_if o l y n)
      by None = hidden-put ns G l y n h k
      by (Some old) = h

  pub hidden-more : (ns ns' : List ℕ) (G : List ℕ → ℕ) (l : Layer) → ((w k : ℕ) → Has ns w k → Has ns' w k) → AreHidden ns G l → AreHidden ns' G l
  hidden-more ns ns' G [] f h = tt
  hidden-more ns ns' G (p ∷ l) f h = (
    record { defined = h.0.defined; next_is = f p.1.hole (G p.0) h.0.next_is; last_is = f (or_none p.1.wire) (number_in (last p.0)) h.0.last_is; shaped = h.0.shaped },
    hidden-more ns ns' G l f h.1,
  )

  -- the same numbers, where the equation defines names
  pub hidden-as : (ns : List ℕ) (G H : List ℕ → ℕ) (l : Layer) → ((x : List ℕ) → defines e x ≡ true → G x ≡ H x) → AreHidden ns G l → AreHidden ns H l
  hidden-as ns G H [] f h = tt
  hidden-as ns G H (p ∷ l) f h = (
    record { defined = h.0.defined; next_is = subst (λ k. Has ns p.1.hole k) (f p.0 h.0.defined) h.0.next_is; last_is = h.0.last_is; shaped = h.0.shaped },
    hidden-as ns G H l f h.1,
  )

  -- at first each has the wire that the block around it has for the name
  module _ (z : Scope) (names : Names) (has_last : Lasts) (scope : types_shown.Scope) (S : AreShaped s has_last scope z) (ns : List ℕ) (values : (x : List ℕ) → Has ns (value_in z x).wire (number_in (names x))) (lasts : (x : List ℕ) → Has ns (last_in z x).wire (number_in (last x)))
      (holes : (x : List ℕ) (n : Entry) → entry_in (top_layer z) x ≡ Some n → n.wire ≡ Some n.hole) where
    abbrev first : List ℕ → ℕ
    first x = number_in (names x)

    top-shape : (x : List ℕ) (n : Entry) → entry_in (top_layer z) x ≡ Some n → (value_in z x).shape ≡ n.shape
    unfolding top_layer value_in
    top-shape x n q = own-shape z.values x n q

    last-number : (x : List ℕ) → Has ns (or_none (last_wire z x)) (number_in (last x))
    unfolding last_wire last_in
    last-number x = subst (λ w. Has ns w (number_in (last x))) (sym (last-same (found z.lasts x))) (lasts x)

    hidden-names : (xs : List (List ℕ)) (l : Layer) → Each (λ x. defines e x ≡ true) xs → AreHidden ns first l → AreHidden ns first (hide_names z xs l)
    unfolding own_entry top_layer
    hidden-names [] l d h = h
    hidden-names (y ∷ xs) l d h = hidden-names xs (hide_name_by (own_entry z y) (last_wire z y) y l) d.1 (by (own_entry z y) refl)
      where
        by : (o : Option Entry) → entry_in (top_layer z) y ≡ o → AreHidden ns first (hide_name_by o (last_wire z y) y l)
        by None q = h
        by (Some n) q =
            hidden-add ns first l y (hidden_entry n (last_wire z y)) h
            (record {
              defined = d.0;
              next_is = subst (λ w. Has ns w (number_in (names y))) (top-value z y n q ∙ ap or_none (holes y n q)) (values y);
              last_is = last-number y;
              shaped = λ t k. ap is_mark (sym (top-shape y n q)) ∙ S.values y t k;
            })

    pub hidden-first : AreHidden ns first (hide_names z (names_of_eqn e) [])
    hidden-first = hidden-names (names_of_eqn e) [] (eqn-names e) tt

  -- ---- a block is left: what it gives is taken where its condition holds

  module _ (slot : ℕ → ℕ) (next : Instant) (supposes owes : Placed → Bool) where
    abbrev Joined : Layer → List ℕ → Sketch → (List ℕ → ℕ) → Layer × Sketch → Type 0
    Joined l ns d H r = (ns' : List ℕ) × IsDrawn slot next supposes owes d ns [] [] r.1 ns' × AreHidden ns' H r.0 × SameSeen l r.0

    seen-next : (p : List ℕ × Entry) (l k : Layer) (w : ℕ) → SameSeen l k → SameSeen (p ∷ l) ((p.0, with_hole p.1 w) ∷ k)
    seen-next p l k w h x = by (bytes_eq x p.0)
      where
        by : (b : Bool) → seen (entry_if b p.1 (entry_in l x)) ≡ seen (entry_if b (with_hole p.1 w) (entry_in k x))
        by true = refl
        by false = h x

    pub joined : (own : Layer) (c : ℕ) (taken : Bool) (B H : List ℕ → ℕ) (l : Layer) (d : Sketch) (ns : List ℕ) → IsSolved slot d ns → Has ns c (truth taken) → AreHidden ns (λ x. if taken then B x else H x) l
        → ((ns' : List ℕ) → ((w k : ℕ) → Has ns w k → Has ns' w k) → (x : List ℕ) (w : Option ℕ) → defines e x ≡ true → Has ns' (or_none w) (number_in (last x)) → Has ns' (or_none (branch_wire (entry_in own x) w)) (B x))
        → ((x : List ℕ) (p : Shape) → defines e x ≡ true → ((t : Ty) → lookup s.variables x ≡ Some t → is_mark p ≡ is_int t) → is_mark p ≡ true → (B x ≡ 0) × (H x ≡ 0))
        → Joined l ns d H (join_names own c l d)
    joined own c taken B H [] d ns g k h b m = (ns, nothing-drawn slot next supposes owes d ns g, tt, λ x. refl)
    joined own c taken B H (p ∷ l) d ns g k h b m =
        let v = branch_value own p.0 p.1 in
        let a = chain-drawn slot next supposes owes p.1.hole c v taken (B p.0) (H p.0) d ns g h.0.next_is k (b ns (λ w n q. q) p.0 p.1.wire h.0.defined h.0.last_is) (m p.0 p.1.shape h.0.defined h.0.shaped) in
        let r = join_name own c p.0 p.1 d in
        let more : (w n : ℕ) → Has ns w n → Has a.0 w n = stays slot next supposes owes d ns [] [] r.1 a.0 a.1 in
        let x = joined own c taken B H l r.1 a.0 a.1.solved (more c (truth taken) k) (hidden-more ns a.0 (λ x. if taken then B x else H x) l more h.1)
        (λ ns' f x w q i. b ns' (λ u n j. f u n (more u n j)) x w q i) m in
        let q = join_names own c l r.1 in (
          x.0,
          both slot next supposes owes d ns [] [] r.1 a.0 [] [] q.1 x.0 a.1 x.1,
          (
            record {
              defined = h.0.defined;
              next_is = stays slot next supposes owes r.1 a.0 [] [] q.1 x.0 x.1 r.0 (H p.0) a.2;
              last_is = stays slot next supposes owes r.1 a.0 [] [] q.1 x.0 x.1 (or_none p.1.wire) (number_in (last p.0)) (more (or_none p.1.wire) (number_in (last p.0)) h.0.last_is);
              shaped = h.0.shaped;
            },
            x.2,
          ),
          seen-next p l q.0 r.0 x.3,
        )

    -- where nothing more is said the value is the one of zeros
    pub ended-names : (l : Layer) (d : Sketch) (ns : List ℕ) → IsSolved slot d ns → AreHidden ns (λ x. 0) l → IsDrawn slot next supposes owes d ns [] [] (end_names l d) ns
    ended-names [] d ns g h = nothing-drawn slot next supposes owes d ns g
    ended-names (p ∷ l) d ns g h =
        let a = by (is_mark p.1.shape) in
        both slot next supposes owes d ns [] [] (end_name p.1 d) ns [] [] (end_names l (end_name p.1 d)) ns a (ended-names l (end_name p.1 d) ns a.solved h.1)
      where
        by : (b : Bool) → IsDrawn slot next supposes owes d ns [] [] (if b then d else chain_end p.1.hole d) ns
        by true = nothing-drawn slot next supposes owes d ns g
        by false = chain-ended slot next supposes owes p.1.hole d ns g h.0.next_is

    pub read-names : (l : Layer) (w : ℕ) (d : Sketch) (ns : List ℕ) → IsSolved slot d ns → IsDrawn slot next supposes owes d ns [] [] (read_by_names l w d) ns
    read-names [] w d ns g = nothing-drawn slot next supposes owes d ns g
    read-names (p ∷ l) w d ns g =
        let a = read-drawn slot next supposes owes p.1.hole w d ns g in
        both slot next supposes owes d ns [] [] (read p.1.hole w d) ns [] [] (read_by_names l w (read p.1.hole w d)) ns a (read-names l w (read p.1.hole w d) ns a.solved)

-- the scope behind a block that is left: that of the control equation, where its names have other wires to be said
pub join-scope : (told : Told) (z : Scope) (place : Place) (ds : List Decl) (es : Eqns) (l : Layer) (c : ℕ) (d d' : Sketch)
    → join c (enter told (push_values l z) place ds es d).0 d' ≡ (push_values (join_names (top_layer (enter told (push_values l z) place ds es d).0) c l d').0 z, (join_names (top_layer (enter told (push_values l z) place ds es d).0) c l d').1)
unfolding join enter push_values push_lasts top_layer
join-scope told z place ds es l c d d' = refl

pub end-pushed : (l : Layer) (z : Scope) (d : Sketch) → end_hidden (push_values l z) d ≡ end_names l d
unfolding end_hidden push_values top_layer
end-pushed l z d = refl

pub hide-pushed : (z : Scope) (e : Eqn) → hide z e ≡ push_values (hide_names z (names_of_eqn e) []) z
unfolding hide
hide-pushed z e = refl

-- what is found in such a layer
pub hidden-found : (e : Eqn) (s : TypeScope) (last : Names) (ns : List ℕ) (G : List ℕ → ℕ) (l : Layer) (x : List ℕ) (n : Entry) → AreHidden e s last ns G l → entry_in l x ≡ Some n → IsHidden e s last ns G x n
hidden-found e s last ns G [] x n h q = absurd (none-some n q)
hidden-found e s last ns G (p ∷ l) x n h q = by (bytes_eq x p.0) refl q (λ r. hidden-found e s last ns G l x n h.1 r)
  where
    by : (b : Bool) → bytes_eq x p.0 ≡ b → entry_if b p.1 (entry_in l x) ≡ Some n → (entry_in l x ≡ Some n → IsHidden e s last ns G x n) → IsHidden e s last ns G x n
    by true t r ih = subst (λ y. IsHidden e s last ns G y n) (sym (same-name x p.0 t)) (subst (λ m. IsHidden e s last ns G p.0 m) (same_Some p.1 n r) h.0)
    by false t r ih = ih r
