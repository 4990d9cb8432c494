-- Last values: the registers of variables, and the wires that read them.
use Rattle.std.proofs.Common.{◌≡◌, ℕ, ◌+◌, Bool, true, false, if◌then◌else◌, List, [], ◌∷◌, ◌++◌, length, Option, None, Some, refl, sym, ap, subst, ◌∙◌, inl, inr, ◌⊎◌}
use Rattle.std.specs.Prelude.{⊤}
use Rattle.std.specs.Str.{bytes_eq}
use Rattle.std.proofs.lemmas.Option.{same_Some}
use Rattle.hp_base.specs.declared.ty.Ty.{Ty}
use Rattle.hp_base.specs.declared.ty.Const.{Const}
use Rattle.hp_tree.specs.Blocks.{Decl}
use Rattle.hp_tree.specs.Instant.{Named, Instant, Place as TreePlace}
use Rattle.hp_tree.specs.Meaning.{Names}
use Rattle.hp_tree.specs.Programs.{TypeDecl}
use Rattle.hp_base.specs.Known.Known.{lookup}
use Rattle.law_judged.specs.Typed.Scopes.{Scope as TypeScope}
use Rattle.hp_meaning.specs.Causal.Points.{Placed}
use Rattle.hp_meaning.specs.Contract.Memory.{number_in, is_last}
use Rattle.hp_meaning.specs.Contract.Slots as slots
use Rattle.hp_meaning.specs.Contract.Slots.{register, is_int, shape_of}
use Rattle.hp_circuit.specs.declared.circuit.Shape.{Shape}
use Rattle.law_games.specs.Wiretyped.Typed.{IsWire}
use Rattle.hp_drawing.specs.declared.parts.Entry.{Entry}
use Rattle.hp_drawing.specs.declared.parts.Place.{Place}
use Rattle.hp_drawing.specs.Kept.{is_mark}
use Rattle.hp_drawing.specs.Told.{Told, type_shape, constant_number, or_none}
use Rattle.hp_drawing.specs.Scopes.{Scope, Layer, put, wire_in, last_entry, last_entry_if, add_last, add_lasts}
use Rattle.hp_drawing.specs.Sketch.{Sketch, mark}
use Rattle.hp_drawing.specs.Places.{new_register, takes}
use Rattle.law_drawing.specs.Carrying.Calls.{lasts_slots}
use Rattle.law_drawing.specs.Carrying.Solving.{Has}
use Rattle.law_drawing.specs.Carrying.Drawing.{AreHeld, IsDrawn, IsReady, IsStored}
use Rattle.law_drawing.proofs.CarryingLemmas.Slots.{held-first}
use Rattle.law_drawing.proofs.CarryingLemmas.Steps.{stays, both, nothing-drawn, mark-drawn}
use Rattle.law_drawing.proofs.CarryingLemmas.Registers.{begins, closed, register-opened, register-takes}
use Rattle.law_drawing.proofs.CarryingLemmas.Values.{int-zero}
use Rattle.law_drawing.proofs.CarryingLemmas.Stored.{read-number, take-number, ready-more, as-mark}
use Rattle.law_drawing.proofs.CarryingLemmas.Marks.{type-mark}
use Rattle.law_drawing.proofs.CarryingLemmas.Parts.{held-behind, pending-ready}
use Rattle.law_drawing.proofs.CarryingLemmas.Combining.{TakesNext, laid-register, taken, read-as}
use Rattle.law_drawing.proofs.CarryingLemmas.Layers.{knows-split, wire-known, Knows, knows-put, knows-own, same-name, IsLayer, layer-more, layer-put}

module _ (slot : ℕ → ℕ) (raw next given : Instant) (supposes owes : Placed → Bool) (types : List TypeDecl) (told : Told) (names last : Names) (z : Scope) (place : Place) (here cut kept : Bool) where
  abbrev Ready : Sketch → List ℕ → Type 0
  Ready d ns = IsReady slot types names last z place [] here cut kept d ns

  -- a register that takes the value of a wire
  pub register-of : (p : TreePlace) (t : Ty) (first i w : ℕ) (shape : Shape) (d : Sketch) (ns : List ℕ) → is_int t ≡ false → Ready d ns → Has ns w i → TakesNext slot raw next given supposes owes types names last z place [] here cut kept p first i
      → AreHeld slot raw given (register p (shape_of types t) ∷ []) (length d.slots)
      → (ns' : List ℕ) × IsDrawn slot next supposes owes d ns (register p (shape_of types t) ∷ []) [] (takes (new_register place first shape d).0 place w (new_register place first shape d).1) ns'
      × Has ns' (new_register place first shape d).0.read (if cut then first else number_in (raw p))
  register-of p t first i w shape d ns e r h tk hd =
      let at = laid-register slot raw next given supposes owes types names last z place [] here cut kept p t e in
      let reg = new_register place first shape d in
      let hr = at.hold [] (length d.slots) hd in
      let held = slot (length d.slots) in
      let a = register-opened slot next supposes owes d ns [] d ns place here cut kept first shape (begins slot next supposes owes d ns r.solved) r.place_is in
      let rr = pending-ready slot next supposes owes types names last z place [] here cut kept d ns (a.1 ∷ []) [] [] reg.1 a.0 a.3 r in
      let t' = register-takes slot next supposes owes types names d ns [] a.1 [] [] [] reg.1 a.0 place here cut kept [] reg.0 first held a.2.0 w i a.3 rr.place_is rr.clock_is a.4 a.2.1 (a.5 w i h) in (
        t'.0,
        closed slot next supposes owes d ns (t'.1 ∷ []) (register p (shape_of types t) ∷ []) [] [] (takes reg.0 place w reg.1) t'.0 t'.2
            (at.lay t'.0 [] t'.1 [] (taken slot raw next given supposes owes types names last z place [] here cut kept t'.0 p first i held t'.1 hr.0 tk t'.3) refl),
        t'.4 reg.0.read (if cut then first else number_in (raw p)) (read-as slot raw next given supposes owes types names last z place [] here cut kept a.0 reg.0 p (length d.slots + 0) first held hr.0 a.4),
      )

  module _ (w : TreePlace → TreePlace) (begin memory stay after : Instant) (sto : IsStored here cut kept begin memory stay after (λ p. raw (w p)) (λ p. next (w p))) (same : here ≡ true → kept ≡ cut) (s : TypeScope) (N : Names) (all : List Decl) where
    -- the last value of a variable, as memory has it
    abbrev M : Names
    M x = memory (Named x ∷ [])

    -- what is asked of a variable that has a last value
    abbrev pub LastFits : Decl → Option Const → Type 0
    LastFits d None = ⊤
    LastFits d (Some c) =
        (number_in (begin (Named d.name ∷ [])) ≡ constant_number told c) × (number_in (after (Named d.name ∷ [])) ≡ number_in (N d.name)) × (lookup s.variables d.name ≡ Some d.ty) × IsWire types d.ty (memory (Named d.name ∷ []))
        × (is_last all d.name ≡ true)

    abbrev pub LastsFit : List Decl → Type 0
    LastsFit [] = ⊤
    LastsFit (d ∷ ds) = LastFits d d.last × LastsFit ds

    abbrev slot_of : Decl → Option Const → List slots.Slot
    slot_of d o = elim o [ None ↦ [] | Some c ↦ register (w (Named d.name ∷ [])) (shape_of types d.ty) ∷ [] ]

    -- the register of a variable
    entry-drawn : (o : Decl) (first wv : ℕ) (d : Sketch) (ns : List ℕ) → Ready d ns → Has ns wv (number_in (N o.name)) → number_in (begin (Named o.name ∷ [])) ≡ first → number_in (after (Named o.name ∷ [])) ≡ number_in (N o.name) → IsWire types o.ty (M o.name)
        → AreHeld slot raw given (register (w (Named o.name ∷ [])) (shape_of types o.ty) ∷ []) (length d.slots)
        → (ns' : List ℕ) × IsDrawn slot next supposes owes d ns (register (w (Named o.name ∷ [])) (shape_of types o.ty) ∷ []) [] (last_entry place first (type_shape told o.ty) wv d).1 ns'
        × Has ns' (or_none (last_entry place first (type_shape told o.ty) wv d).0.wire) (number_in (M o.name)) × (is_mark (last_entry place first (type_shape told o.ty) wv d).0.shape ≡ is_int o.ty)
    unfolding last_entry
    entry-drawn o first wv d ns r h b a t hd = by (is_mark (type_shape told o.ty)) (type-mark told o.ty)
      where
        p : TreePlace
        p = w (Named o.name ∷ [])

        by : (c : Bool) → c ≡ is_int o.ty
            → (ns' : List ℕ) × IsDrawn slot next supposes owes d ns (register (w (Named o.name ∷ [])) (shape_of types o.ty) ∷ []) [] (last_entry_if c place first (type_shape told o.ty) wv d).1 ns'
            × Has ns' (or_none (last_entry_if c place first (type_shape told o.ty) wv d).0.wire) (number_in (M o.name)) × (is_mark (last_entry_if c place first (type_shape told o.ty) wv d).0.shape ≡ is_int o.ty)
        by true e =
            let m = mark-drawn slot next supposes owes d ns r.solved in
            (m.0, as-mark slot next supposes owes types o.ty (w (Named o.name ∷ [])) d ns [] [] (mark d).1 m.0 (sym e) m.1, subst (λ n. Has m.0 (mark d).0 n) (sym (int-zero types o.ty (M o.name) (sym e) t)) m.2, type-mark told o.ty)
        by false e =
            let x = register-of (w (Named o.name ∷ [])) o.ty first (number_in (N o.name)) wv (type_shape told o.ty) d ns (sym e) r h
            (take-number here cut kept true begin memory stay after (λ p. raw (w p)) (λ p. next (w p)) (Named o.name ∷ []) first (number_in (raw (w (Named o.name ∷ [])))) (number_in (N o.name)) sto same (sym b) refl a) hd in
            (x.0, x.1, subst (λ n. Has x.0 (new_register place first (type_shape told o.ty) d).0.read n) (read-number here cut kept begin memory stay after (λ p. raw (w p)) (λ p. next (w p)) (Named o.name ∷ []) first (number_in (raw (w (Named o.name ∷ [])))) sto (sym b) refl) x.2, type-mark told o.ty)

    -- all of them
    abbrev LastsDrawn : List Decl → Layer → Layer → Sketch → List ℕ → List slots.Slot → Layer × Sketch → Type 0
    LastsDrawn ds values l d ns ss a =
        (ns' : List ℕ) × IsDrawn slot next supposes owes d ns ss [] (add_lasts told place ds values a.0 a.1).1 ns' × IsLayer types told s M ns' (add_lasts told place ds values a.0 a.1).0
        × ((x : List ℕ) → Knows l x → Knows (add_lasts told place ds values a.0 a.1).0 x) × ((x : List ℕ) → Knows (add_lasts told place ds values a.0 a.1).0 x → Knows l x ⊎ (is_last all x ≡ true))

    pub lasts-drawn : (ds : List Decl) (values l : Layer) (d : Sketch) (ns : List ℕ) → Ready d ns → IsLayer types told s N ns values → ((x : List ℕ) → is_last all x ≡ true → Knows values x) → IsLayer types told s M ns l → LastsFit ds → AreHeld slot raw given (lasts_slots types ds w) (length d.slots)
        → (ns' : List ℕ) × IsDrawn slot next supposes owes d ns (lasts_slots types ds w) [] (add_lasts told place ds values l d).1 ns' × IsLayer types told s M ns' (add_lasts told place ds values l d).0
        × ((x : List ℕ) → Knows l x → Knows (add_lasts told place ds values l d).0 x) × ((x : List ℕ) → Knows (add_lasts told place ds values l d).0 x → Knows l x ⊎ (is_last all x ≡ true))
        × ((x : List ℕ) → is_last ds x ≡ true → Knows (add_lasts told place ds values l d).0 x)
    lasts-drawn [] values l d ns r hv kv hl f hd = (ns, nothing-drawn slot next supposes owes d ns r.solved, hl, λ x k. k, λ x k. inl k, λ x k. absurd cc)
    lasts-drawn (o ∷ ds) values l d ns r hv kv hl f hd = by o.last f.0 hd (λ l d ns r hv hl hd. lasts-drawn ds values l d ns r hv kv hl f.1 hd)
      where
        by : (c : Option Const) → LastFits o c → AreHeld slot raw given (slot_of o c ++ lasts_slots types ds w) (length d.slots)
            → ((l : Layer) (d : Sketch) (ns : List ℕ) → Ready d ns → IsLayer types told s N ns values → IsLayer types told s M ns l → AreHeld slot raw given (lasts_slots types ds w) (length d.slots)
            → (ns' : List ℕ) × IsDrawn slot next supposes owes d ns (lasts_slots types ds w) [] (add_lasts told place ds values l d).1 ns' × IsLayer types told s M ns' (add_lasts told place ds values l d).0
            × ((x : List ℕ) → Knows l x → Knows (add_lasts told place ds values l d).0 x) × ((x : List ℕ) → Knows (add_lasts told place ds values l d).0 x → Knows l x ⊎ (is_last all x ≡ true))
            × ((x : List ℕ) → is_last ds x ≡ true → Knows (add_lasts told place ds values l d).0 x))
            → (ns' : List ℕ) × IsDrawn slot next supposes owes d ns (slot_of o c ++ lasts_slots types ds w) [] (add_lasts told place ds values (add_last told place o c values l d).0 (add_last told place o c values l d).1).1 ns'
            × IsLayer types told s M ns' (add_lasts told place ds values (add_last told place o c values l d).0 (add_last told place o c values l d).1).0
            × ((x : List ℕ) → Knows l x → Knows (add_lasts told place ds values (add_last told place o c values l d).0 (add_last told place o c values l d).1).0 x)
            × ((x : List ℕ) → Knows (add_lasts told place ds values (add_last told place o c values l d).0 (add_last told place o c values l d).1).0 x → Knows l x ⊎ (is_last all x ≡ true))
            × ((x : List ℕ) → (if bytes_eq o.name x then (elim c [ None ↦ false | Some k ↦ true ]) else is_last ds x) ≡ true → Knows (add_lasts told place ds values (add_last told place o c values l d).0 (add_last told place o c values l d).1).0 x)
        by None f hd ih =
            let x = ih l d ns r hv hl hd in
            (x.0, x.1, x.2, x.3, x.4, λ y k. known (bytes_eq o.name y) (is_last ds y) k (x.5 y))
          where
            known : {X : Type 0} (b c : Bool) → (if b then false else c) ≡ true → (c ≡ true → X) → X
            known true c k g = absurd cc
            known false c k g = g k
        by (Some c) f hd ih =
            let first = constant_number told c in
            let wv = wire_in values o.name in
            let one = register (w (Named o.name ∷ [])) (shape_of types o.ty) ∷ [] in
            let a = entry-drawn o first wv d ns r (wire-known types told s N ns values o.name hv (kv o.name f.4)) f.0 f.1 f.3 (held-first slot raw given one (lasts_slots types ds w) (length d.slots) hd) in
            let e = last_entry place first (type_shape told o.ty) wv d in
            let l1 = put l o.name e.0 in
            let more : (wr k : ℕ) → Has ns wr k → Has a.0 wr k = stays slot next supposes owes d ns one [] e.1 a.0 a.1 in
            let h1 = layer-put types told s M a.0 l o.name e.0 (layer-more types told s M ns a.0 l more hl) a.2 (λ u q. a.3 ∙ ap is_int (same_Some o.ty u (sym f.2 ∙ q))) in
            let x = ih l1 e.1 a.0 (ready-more slot next supposes owes types names last z place [] here cut kept d ns one [] e.1 a.0 a.1 r) (layer-more types told s N ns a.0 values more hv) h1 (held-behind slot next supposes owes raw given d ns one [] e.1 a.0 (lasts_slots types ds w) a.1 hd) in (
              x.0,
              both slot next supposes owes d ns one [] e.1 a.0 (lasts_slots types ds w) [] (add_lasts told place ds values l1 e.1).1 x.0 a.1 x.1,
              x.2,
              λ y k. x.3 y (knows-put l o.name e.0 y k),
              λ y k. elim (x.4 y k) [ inl q ↦ split y e.0 q f.4 | inr q ↦ inr q ],
              λ y k. known (bytes_eq o.name y) (is_last ds y) k (λ b. x.3 y (subst (λ n. Knows l1 n) (same-name o.name y b) (knows-own l o.name e.0))) (x.5 y),
            )
          where
            known : {X : Type 0} (b c : Bool) → (if b then true else c) ≡ true → (b ≡ true → X) → (c ≡ true → X) → X
            known true c k f g = f refl
            known false c k f g = g k

            split : (y : List ℕ) (e : Entry) → Knows (put l o.name e) y → is_last all o.name ≡ true → Knows l y ⊎ (is_last all y ≡ true)
            split y e k q = elim (knows-split l o.name e y k) [ inl m ↦ inr (subst (λ n. is_last all n ≡ true) (sym m) q) | inr m ↦ inl m ]
