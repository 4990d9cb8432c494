-- Inside a control equation the names that it defines are hidden: their last values are read.
use Rattle.std.proofs.Common.{◌≡◌, ℕ, Bool, true, false, if◌then◌else◌, List, [], ◌∷◌, Option, None, Some, refl, sym, ap, subst, ◌∙◌, inl, inr}
use Rattle.std.specs.Prelude.{is_some}
use Rattle.hp_tree.specs.Blocks.{Eqn}
use Rattle.hp_tree.specs.ExpressionTypes as types_shown
use Rattle.hp_tree.specs.Meaning.{Names, defines, within}
use Rattle.hp_tree.specs.Programs.{TypeDecl}
use Rattle.law_judged.specs.Typed.Scopes.{Scope as TypeScope}
use Rattle.law_values.specs.Valued.Judged.{Lasts}
use Rattle.hp_meaning.specs.Contract.Memory.{number_in}
use Rattle.hp_meaning.specs.Contract.Slots.{is_int}
use Rattle.hp_drawing.specs.declared.parts.Entry.{Entry}
use Rattle.hp_drawing.specs.declared.parts.Place.{Place}
use Rattle.hp_drawing.specs.Kept.{is_mark}
use Rattle.hp_drawing.specs.Told.{Told, or_none}
use Rattle.hp_drawing.specs.Scopes.{Scope, Layer, entry_in, found, or_found, add, value_by, wire_by, innermost, value_in, last_in, last_wire, shapes_in, own_entry, push_values, hidden_entry, hide_name_by, hide_names, hide, names_of_eqn}
use Rattle.hp_drawing.specs.Sketch.{Sketch}
use Rattle.law_drawing.specs.Carrying.Solving.{Has}
use Rattle.law_drawing.specs.Carrying.Drawing.{IsReady, AreShaped}
use Rattle.law_drawing.proofs.CarryingLemmas.Layers.{Knows, knows-add, knows-added, Occurs, Each, eqn-occurs, IsLayer, no-layer, layer-add}
use Rattle.law_drawing.proofs.CarryingLemmas.Enter.{value-over, shape-over, shapes-over, none-unknown, true_or_not}

-- what the innermost layer says of a name is its value
pub own-shape : (ls : List Layer) (x : List ℕ) (e : Entry) → entry_in (innermost ls) x ≡ Some e → (value_by (found ls x)).shape ≡ e.shape
own-shape [] x e q = absurd cc
own-shape (l ∷ ls) x e q = ap (λ o. (value_by (or_found o (found ls x))).shape) q

pub last-same : (o : Option Entry) → or_none (wire_by o) ≡ (value_by o).wire
last-same None = refl
last-same (Some e) = refl

module _ (slot : ℕ → ℕ) (types : List TypeDecl) (told : Told) (names last : Names) (z : Scope) (s : TypeScope) (has_last : Lasts) (scope : types_shown.Scope) (S : AreShaped s has_last scope z) (place : Place) (here cut kept : Bool) where
  hidden-names : (xs : List (List ℕ)) (l : Layer) (ns : List ℕ) → ((x : List ℕ) → Has ns (last_in z x).wire (number_in (last x))) → Each (λ x. is_some (own_entry z x) ≡ true) xs → IsLayer types told s last ns l
      → IsLayer types told s last ns (hide_names z xs l) × ((x : List ℕ) → Knows l x → Knows (hide_names z xs l) x) × ((x : List ℕ) → Occurs xs x → Knows (hide_names z xs l) x)
  unfolding last_in last_wire own_entry value_in
  hidden-names [] l ns v k h = (h, λ x q. q, λ x q. absurd q)
  hidden-names (y ∷ xs) l ns v k h = by (own_entry z y) refl k.0 (λ l h. hidden-names xs l ns v k.1 h)
    where
      by : (o : Option Entry) → own_entry z y ≡ o → is_some o ≡ true
          → ((l : Layer) → IsLayer types told s last ns l → IsLayer types told s last ns (hide_names z xs l) × ((x : List ℕ) → Knows l x → Knows (hide_names z xs l) x) × ((x : List ℕ) → Occurs xs x → Knows (hide_names z xs l) x))
          → IsLayer types told s last ns (hide_names z xs (hide_name_by o (last_wire z y) y l)) × ((x : List ℕ) → Knows l x → Knows (hide_names z xs (hide_name_by o (last_wire z y) y l)) x)
          × ((x : List ℕ) → Occurs (y ∷ xs) x → Knows (hide_names z xs (hide_name_by o (last_wire z y) y l)) x)
      by None q n ih = absurd cc
      by (Some own) q n ih =
          let e = hidden_entry own (last_wire z y) in
          let l1 = add l y e in
          let h1 = layer-add types told s last ns l y e h (subst (λ w. Has ns w (number_in (last y))) (sym (last-same (found z.lasts y))) (v y)) (λ u r. ap is_mark (sym (own-shape z.values y own q)) ∙ S.values y u r) in
          let x = ih l1 h1 in
          (x.0, λ a b. x.1 a (knows-add l y e a b), λ a b. elim b [ inl i ↦ x.1 a (subst (λ m. Knows l1 m) i (knows-added l y e)) | inr o ↦ x.2 a o ])

  -- So a control equation's parts read last values of the names that it defines.
  pub hidden-ready : (e : Eqn) (d : Sketch) (ns : List ℕ) → IsReady slot types names last z place [] here cut kept d ns → ((x : List ℕ) → defines e x ≡ true → is_some (own_entry z x) ≡ true) → Each (λ x. is_some (own_entry z x) ≡ true) (names_of_eqn e)
      → ((x : List ℕ) → is_some (entry_in (hide_names z (names_of_eqn e) []) x) ≡ true → defines e x ≡ true)
      → IsReady slot types (λ x. within e names last x) last (hide z e) place [] here cut kept d ns × AreShaped s has_last scope (hide z e)
  unfolding hide push_values value_in last_in shapes_in
  hidden-ready e d ns r own each only =
      let l = hide_names z (names_of_eqn e) [] in
      let h = hidden-names (names_of_eqn e) [] ns r.lasts each (no-layer types told s last ns) in
      let undefined : (x : List ℕ) → entry_in l x ≡ None → defines e x ≡ false = λ x q. true_or_not (defines e x) (λ i. absurd (none-unknown l x q (h.2 x (eqn-occurs e x i)))) (λ i. i) in (
        record {
          solved = r.solved;
          place_is = r.place_is;
          clock_is = r.clock_is;
          values = λ x. value-over slot ns l z.values x (number_in (within e names last x)) (number_in (names x)) (λ w q. subst (λ k. Has ns (or_none w.wire) k) (ap number_in (sym (ap (λ b. if b then last x else names x) (only x (ap is_some q))))) (h.0.carries x w q))
              (λ q. ap number_in (ap (λ b. if b then last x else names x) (undefined x q))) (r.values x);
          lasts = r.lasts;
        },
        record {
          values = λ x t k. shape-over l z.values x (is_int t) (λ w q. h.0.shaped x w t q k) (λ q. S.values x t k);
          shapes = λ x t k. shapes-over l z.values x (is_int t) (λ w q. h.0.shaped x w t q k) (λ q. S.shapes x t k);
          lasts = S.lasts;
          types = S.types;
        },
      )
