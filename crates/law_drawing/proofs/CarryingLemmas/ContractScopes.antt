-- What a contract sees: inputs, outputs, and the last values of outputs.
use Rattle.std.proofs.Common.{◌≡◌, ℕ, ◌+◌, Bool, true, false, ◌||◌, if◌then◌else◌, List, [], ◌∷◌, ◌++◌, length, Option, None, Some, refl, sym, ap, subst, ◌∙◌, inl, inr, ◌⊎◌, arith}
use Rattle.std.specs.Prelude.{is_some}
use Rattle.std.specs.Str.{bytes_eq}
use Rattle.std.proofs.lemmas.List.{append_assoc}
use Rattle.hp_base.specs.declared.ty.Ty.{Ty}
use Rattle.hp_base.specs.declared.ty.Const.{Const}
use Rattle.hp_base.specs.declared.value.Value.{Value}
use Rattle.hp_base.specs.declared.value.Value.TheVariants.{Absent}
use Rattle.hp_tree.specs.Blocks.{Decl}
use Rattle.hp_tree.specs.ExpressionTypes.{typed_in, untyped}
use Rattle.hp_tree.specs.Instant.{Named, Instant, Place as TreePlace}
use Rattle.hp_tree.specs.Meaning.{Names, declares, input_of, lasts, absent}
use Rattle.hp_tree.specs.Programs.{TypeDecl, Node}
use Rattle.hp_base.specs.Known.Known.{lookup}
use Rattle.law_judged.specs.Typed.Scopes.{Scope as TypeScope}
use Rattle.hp_meaning.specs.Causal.Points.{Placed}
use Rattle.law_values.specs.Valued.Judged.{lasts_in as known_lasts, no_lasts, HaveOwnTypes}
use Rattle.hp_meaning.specs.Contract.Memory.{number_in, is_last}
use Rattle.hp_meaning.specs.Contract.Slots.{is_int}
use Rattle.law_games.specs.Mirror.Memories.{AreApart}
use Rattle.law_games.specs.Wires.Wired.{lasts_in, value}
use Rattle.law_games.specs.Wiretyped.Typed.{AreWires, OutputsTyped}
use Rattle.law_games.specs.Wiretyped.Kept.{LastsKept}
use Rattle.law_games.proofs.WiretypedLemmas.Scopes.{last_declared, last_further}
use Rattle.hp_drawing.specs.declared.parts.Entry.{Entry}
use Rattle.hp_drawing.specs.declared.parts.Place.{Place}
use Rattle.hp_drawing.specs.Kept.{is_mark}
use Rattle.hp_drawing.specs.Told.{Told, type_shape, or_none}
use Rattle.hp_drawing.specs.Scopes.{no_scope, Layer, entry_at, entry_in, or_found, value_by, add_lasts, push_values, push_lasts, value_in, last_in, shapes_in}
use Rattle.hp_drawing.specs.Sketch.{Sketch, base}
use Rattle.hp_drawing.specs.DrawnNodes.{put_from, contract_layer, contract_scope}
use Rattle.law_drawing.specs.Carrying.Solving.{Has}
use Rattle.law_drawing.specs.Carrying.Drawing.{AreHeld, IsSolved, IsDrawn, IsPlace, IsReady, IsStored, AreShaped}
use Rattle.law_drawing.specs.Carrying.Calls.{lasts_slots}
use Rattle.law_drawing.specs.Carrying.Typing.{AreNumbered}
use Rattle.law_drawing.proofs.CarryingLemmas.Steps.{stays}
use Rattle.law_drawing.proofs.CarryingLemmas.Values.{constant-number}
use Rattle.law_drawing.proofs.CarryingLemmas.Stored.{ready-more}
use Rattle.law_drawing.proofs.CarryingLemmas.Layers.{Knows, IsLayer, no-layer, same-name}
use Rattle.law_drawing.proofs.CarryingLemmas.Lasts.{LastFits, LastsFit, lasts-drawn}
use Rattle.law_drawing.proofs.CarryingLemmas.Enter.{true_or_not, first-value, is-last-at, apart-front}
use Rattle.law_drawing.proofs.CarryingLemmas.Rows.{row_entry, row-found, RowHas, row-over, ValueIs, ShapeIs, row-shape, row-type}

-- the values of outputs
abbrev pub output_values : List Decl → Instant → List Value
output_values [] i = []
output_values (d ∷ ds) i = i (Named d.name ∷ []) ∷ output_values ds i

pub outputs-wires : (types : List TypeDecl) (ds : List Decl) (i : Instant) → OutputsTyped types ds i → AreWires types ds (output_values ds i)
outputs-wires types [] i h = tt
outputs-wires types (d ∷ ds) i h = (h.0, outputs-wires types ds i h.1)

-- a name that a row does not declare is read further out
pub input-falls : (ds : List Decl) (vs : List Value) (out : Names) (x : List ℕ) → declares ds x ≡ false → input_of ds vs out x ≡ out x
input-falls [] vs out x f = refl
input-falls (d ∷ ds) [] out x f = refl
input-falls (d ∷ ds) (v ∷ vs) out x f = by (bytes_eq d.name x) f (input-falls ds vs out x)
  where
    by : (b : Bool) → b || declares ds x ≡ false → (declares ds x ≡ false → input_of ds vs out x ≡ out x) → (if b then v else input_of ds vs out x) ≡ out x
    by true f ih = absurd cc
    by false f ih = ih f

pub input-same : (ds : List Decl) (vs : List Value) (out other : Names) (x : List ℕ) → out x ≡ other x → input_of ds vs out x ≡ input_of ds vs other x
input-same [] vs out other x e = e
input-same (d ∷ ds) [] out other x e = e
input-same (d ∷ ds) (v ∷ vs) out other x e = by (bytes_eq d.name x) (input-same ds vs out other x e)
  where
    by : (b : Bool) → input_of ds vs out x ≡ input_of ds vs other x → (if b then v else input_of ds vs out x) ≡ (if b then v else input_of ds vs other x)
    by true ih = refl
    by false ih = ih

pub output-named : (ds : List Decl) (i : Instant) (out : Names) (x : List ℕ) → declares ds x ≡ true → input_of ds (output_values ds i) out x ≡ i (Named x ∷ [])
output-named [] i out x h = absurd cc
output-named (d ∷ ds) i out x h = by (bytes_eq d.name x) refl h (output-named ds i out x)
  where
    by : (b : Bool) → bytes_eq d.name x ≡ b → b || declares ds x ≡ true → (declares ds x ≡ true → input_of ds (output_values ds i) out x ≡ i (Named x ∷ [])) → (if b then i (Named d.name ∷ []) else input_of ds (output_values ds i) out x) ≡ i (Named x ∷ [])
    by true p h ih = ap (λ y. i (Named y ∷ [])) (same-name d.name x p)
    by false p h ih = ih h

pub row-known : (t : Told) (first k : ℕ) (ds : List Decl) (x : List ℕ) → declares ds x ≡ true → is_some (row_entry t first k ds x) ≡ true
row-known t first k [] x h = absurd cc
row-known t first k (d ∷ ds) x h = by (bytes_eq d.name x) (entry_at (first + k) (type_shape t d.ty)) h (row-known t first (k + 1) ds x)
  where
    by : (b : Bool) (e : Entry) → b || declares ds x ≡ true → (declares ds x ≡ true → is_some (row_entry t first (k + 1) ds x) ≡ true) → is_some (if b then Some e else row_entry t first (k + 1) ds x) ≡ true
    by true e h ih = refl
    by false e h ih = ih h

pub found-none : (o : Option Entry) → or_found o None ≡ o
found-none None = refl
found-none (Some e) = refl

found-right : (o p : Option Entry) → is_some p ≡ true → is_some (or_found o p) ≡ true
found-right None p h = h
found-right (Some e) p h = refl

module _ (slot : ℕ → ℕ) (raw next given : Instant) (supposes owes : Placed → Bool) (types : List TypeDecl) (told : Told) (among : List ℕ → Option Node) where
  -- the `last` variables of a row fit
  module _ (place : Place) (here cut kept : Bool) (w : TreePlace → TreePlace) (begin memory stay after : Instant) (sto : IsStored here cut kept begin memory stay after (λ p. raw (w p)) (λ p. next (w p))) (same : here ≡ true → kept ≡ cut) (s : TypeScope) (N : Names) (all : List Decl)
      (A : AreNumbered types told s) (begins : (x : List ℕ) → begin (Named x ∷ []) ≡ (if is_last all x then lasts (value types) all [] absent x else Absent)) (named : (d : Decl) (c : Const) → is_last all d.name ≡ true → after (Named d.name ∷ []) ≡ N d.name) (lk : LastsKept types s all memory) where
    one-fits : (front : List Decl) (d : Decl) (os : List Decl) (o : Option Const) → d.last ≡ o → front ++ d ∷ os ≡ all → declares front d.name ≡ false → lookup s.variables d.name ≡ Some d.ty
        → LastFits slot raw next given supposes owes types told absent absent no_scope place here cut kept w begin memory stay after sto same s N all d o
    one-fits front d os None q e f l = tt
    one-fits front d os (Some c) q e f l =
        let il : is_last all d.name ≡ true = subst (λ a. is_last a d.name ≡ true) e (is-last-at slot raw next given supposes owes types told among absent absent no_scope place here cut kept front d os c q f) in
        let fv : lasts (value types) all [] absent d.name ≡ value types c = subst (λ a. lasts (value types) a [] absent d.name ≡ value types c) e (first-value slot raw next given supposes owes types told among absent absent no_scope place here cut kept front d os c q f) in
        (ap number_in (begins d.name ∙ ap (λ b. if b then lasts (value types) all [] absent d.name else Absent) il ∙ fv) ∙ constant-number types told s A c, ap number_in (named d c il), l, lk d.name d.ty il l, il)

    row-fits : AreApart all → (front os : List Decl) → front ++ os ≡ all → HaveOwnTypes types among s os → LastsFit slot raw next given supposes owes types told absent absent no_scope place here cut kept w begin memory stay after sto same s N all os
    row-fits ap' front [] e h = tt
    row-fits ap' front (d ∷ os) e h = (
      one-fits front d os d.last refl e (apart-front slot raw next given supposes owes types told among absent absent no_scope place here cut kept front d os (subst AreApart (sym e) ap')) h.0,
      row-fits ap' (front ++ d ∷ []) os (append_assoc front (d ∷ []) os ∙ e) h.1,
    )

  pub contract-scoped : (n : Node) (s : TypeScope) (ins : List Value) (now : Instant) (N : Names) (w : TreePlace → TreePlace) (begin memory stay after : Instant) (place : Place) (here cut kept : Bool) (inputs outputs : ℕ) (d : Sketch) (ns : List ℕ)
      → AreNumbered types told s → HaveOwnTypes types among s n.inputs → HaveOwnTypes types among s n.outputs → AreApart n.outputs → ((x : List ℕ) → declares n.inputs x ≡ true → declares n.outputs x ≡ false)
      → ((x : List ℕ) (t : Ty) → lookup s.variables x ≡ Some t → declares n.inputs x ≡ false → declares n.outputs x ≡ true)
      → AreWires types n.inputs ins → OutputsTyped types n.outputs now → ((x : List ℕ) → declares n.outputs x ≡ true → N x ≡ now (Named x ∷ [])) → ((x : List ℕ) → declares n.outputs x ≡ false → N x ≡ input_of n.inputs ins absent x)
      → IsStored here cut kept begin memory stay after (λ p. raw (w p)) (λ p. next (w p)) → (here ≡ true → kept ≡ cut)
      → ((x : List ℕ) → begin (Named x ∷ []) ≡ (if is_last n.outputs x then lasts (value types) n.outputs [] absent x else Absent)) → ((x : List ℕ) → after (Named x ∷ []) ≡ (if is_last n.outputs x then now (Named x ∷ []) else Absent))
      → LastsKept types s n.outputs memory → IsSolved slot d ns → IsPlace ns place here cut kept → place.clock ≡ base → RowHas ns inputs ins → RowHas ns outputs (output_values n.outputs now)
      → AreHeld slot raw given (lasts_slots types n.outputs w) (length d.slots)
      → (ns' : List ℕ) × IsDrawn slot next supposes owes d ns (lasts_slots types n.outputs w) [] (contract_scope told place n inputs outputs d).1 ns'
      × IsReady slot types N (λ x. lasts_in n.outputs memory absent x) (contract_scope told place n inputs outputs d).0 place [] here cut kept (contract_scope told place n inputs outputs d).1 ns'
      × AreShaped s (known_lasts n.outputs no_lasts) (typed_in n.inputs (typed_in n.outputs untyped)) (contract_scope told place n inputs outputs d).0
  unfolding contract_scope push_values push_lasts value_in last_in shapes_in
  contract-scoped n s ins now N w begin memory stay after place here cut kept inputs outputs d ns A hi ho ap' apart known ai ao nd ni sto same be ae lk g pl cl ri ro h =
      let layer = contract_layer told n inputs outputs in
      let oi : List ℕ → Option Entry = λ x. row_entry told inputs 0 n.inputs x in
      let oo : List ℕ → Option Entry = λ x. row_entry told outputs 0 n.outputs x in
      let found : (x : List ℕ) → entry_in layer x ≡ or_found (oi x) (oo x) = λ x. row-found told outputs 0 n.outputs (put_from told inputs 0 n.inputs []) x ∙ ap (λ o. or_found o (oo x)) (row-found told inputs 0 n.inputs [] x) in
      let ov = output_values n.outputs now in
      let out : Names = λ x. input_of n.outputs ov absent x in
      let ri0 : RowHas ns (inputs + 0) ins = subst (λ i. RowHas ns i ins) (let e : inputs ≡ inputs + 0 = omega arith in e) ri in
      let ro0 : RowHas ns (outputs + 0) ov = subst (λ i. RowHas ns i ov) (let e : outputs ≡ outputs + 0 = omega arith in e) ro in
      let vo : (x : List ℕ) → ValueIs ns (oo x) (number_in (out x)) = λ x. subst (λ o. ValueIs ns o (number_in (out x))) (found-none (oo x)) (row-over types told ns outputs 0 n.outputs ov absent None x (outputs-wires types n.outputs now ao) ro0 g.low_is) in
      let vi : (x : List ℕ) → ValueIs ns (or_found (oi x) (oo x)) (number_in (input_of n.inputs ins out x)) = λ x. row-over types told ns inputs 0 n.inputs ins out (oo x) x ai ri0 (vo x) in
      let is : (x : List ℕ) → input_of n.inputs ins out x ≡ N x = λ x. true_or_not (declares n.outputs x)
      (λ q. input-falls n.inputs ins out x (true_or_not (declares n.inputs x) (λ i. absurd (let c : true ≡ false = sym q ∙ apart x i in cc)) (λ i. i)) ∙ output-named n.outputs now absent x q ∙ sym (nd x q))
      (λ q. input-same n.inputs ins out absent x (input-falls n.outputs ov absent x q) ∙ sym (ni x q))
      in
      let v : (x : List ℕ) → ValueIs ns (entry_in layer x) (number_in (N x)) = λ x. subst (λ o. ValueIs ns o (number_in (N x))) (sym (found x)) (subst (λ a. ValueIs ns (or_found (oi x) (oo x)) (number_in a)) (is x) (vi x)) in
      let sh : (x : List ℕ) (u : Ty) → lookup s.variables x ≡ Some u → ShapeIs (entry_in layer x) (is_int u) = λ x u l. subst (λ o. ShapeIs o (is_int u)) (sym (found x))
      (row-shape types among s u told inputs 0 n.inputs (oo x) x hi l (λ q. subst (λ o. ShapeIs o (is_int u)) (found-none (oo x)) (row-shape types among s u told outputs 0 n.outputs None x ho l (λ f. absurd (let c : true ≡ false = sym (known x u l q) ∙ f in cc)))))
      in
      let hl : IsLayer types told s N ns layer = record { carries = λ x e q. subst (λ o. ValueIs ns o (number_in (N x))) q (v x); shaped = λ x e u q l. (subst (λ o. ShapeIs o (is_int u)) q (sh x u l)).0 } in
      let kn : (x : List ℕ) → is_last n.outputs x ≡ true → Knows layer x = λ x q. subst (λ o. is_some o ≡ true) (sym (found x)) (found-right (oi x) (oo x) (row-known told outputs 0 n.outputs x (last_declared n.outputs x q))) in
      let rd : IsReady slot types absent absent no_scope place [] here cut kept d ns = record { solved = g; place_is = pl; clock_is = cl; values = λ x. g.low_is; lasts = λ x. g.low_is } in
      let named : (o : Decl) (c : Const) → is_last n.outputs o.name ≡ true → after (Named o.name ∷ []) ≡ N o.name = λ o c q. ae o.name ∙ ap (λ b. if b then now (Named o.name ∷ []) else Absent) q ∙ sym (nd o.name (last_declared n.outputs o.name q)) in
      let x = lasts-drawn slot raw next given supposes owes types told absent absent no_scope place here cut kept w begin memory stay after sto same s N n.outputs n.outputs layer [] d ns rd hl kn (no-layer types told s (λ y. memory (Named y ∷ [])) ns)
      (row-fits place here cut kept w begin memory stay after sto same s N n.outputs A be named lk ap' [] n.outputs refl ho) h in
      let ll = add_lasts told place n.outputs layer [] d in
      let more : (a k : ℕ) → Has ns a k → Has x.0 a k = stays slot next supposes owes d ns (lasts_slots types n.outputs w) [] ll.1 x.0 x.1 in
      let r1 = ready-more slot next supposes owes types absent absent no_scope place [] here cut kept d ns (lasts_slots types n.outputs w) [] ll.1 x.0 x.1 rd in
      let last_value : (y : List ℕ) (o : Option Entry) → entry_in ll.0 y ≡ o → Has x.0 (value_by (or_found o None)).wire (number_in (lasts_in n.outputs memory absent y)) = λ y o. last-value y o x.2 x.4 x.5 x.1.solved in (
        x.0,
        x.1,
        record {
          solved = x.1.solved;
          place_is = r1.place_is;
          clock_is = cl;
          values = λ y. more (value_by (or_found (entry_in layer y) None)).wire (number_in (N y)) (subst (λ o. ValueIs ns o (number_in (N y))) (sym (found-none (entry_in layer y))) (v y));
          lasts = λ y. last_value y (entry_in ll.0 y) refl;
        },
        record {
          values = λ y t l. (subst (λ o. ShapeIs o (is_int t)) (sym (found-none (entry_in layer y))) (sh y t l)).0;
          shapes = λ y t l. (subst (λ o. ShapeIs o (is_int t)) (sym (found-none (entry_in layer y))) (sh y t l)).1;
          lasts = λ y t hl l. last-shape y t l (entry_in ll.0 y) refl (x.5 y (true_or_not (is_last n.outputs y) (λ q. q) (λ q. absurd (let c : false ≡ true = last_further n.outputs no_lasts y hl q in cc)))) x.2;
          types = λ y t l. row-type types among s t n.inputs (typed_in n.outputs untyped) y hi l (λ q. row-type types among s t n.outputs untyped y ho l (λ f. absurd (let c : true ≡ false = sym (known y t l q) ∙ f in cc)));
        },
      )
    where
      last-value : {l : Layer} {ns1 : List ℕ} {d1 : Sketch} (y : List ℕ) (o : Option Entry) → IsLayer types told s (λ x. memory (Named x ∷ [])) ns1 l → ((x : List ℕ) → Knows l x → Knows [] x ⊎ (is_last n.outputs x ≡ true)) → ((x : List ℕ) → is_last n.outputs x ≡ true → Knows l x) → IsSolved slot d1 ns1 → entry_in l y ≡ o
          → Has ns1 (value_by (or_found o None)).wire (number_in (lasts_in n.outputs memory absent y))
      last-value {l = l} {ns1 = ns1} y None h k m g q =
          subst (λ v. Has ns1 0 (number_in v)) (sym (ap (λ b. if b then memory (Named y ∷ []) else Absent) (true_or_not (is_last n.outputs y) (λ i. absurd (let c : false ≡ true = ap is_some (sym q) ∙ m y i in cc)) (λ i. i)))) g.low_is
      last-value {l = l} {ns1 = ns1} y (Some e) h k m g q =
          let i : is_last n.outputs y ≡ true = elim (k y (ap is_some q)) [ inl a ↦ absurd (let c : false ≡ true = a in cc) | inr a ↦ a ] in
          subst (λ v. Has ns1 (or_none e.wire) (number_in v)) (sym (ap (λ b. if b then memory (Named y ∷ []) else Absent) i)) (h.carries y e q)

      last-shape : {l : Layer} {ns1 : List ℕ} (y : List ℕ) (t : Ty) → lookup s.variables y ≡ Some t → (o : Option Entry) → entry_in l y ≡ o → Knows l y → IsLayer types told s (λ x. memory (Named x ∷ [])) ns1 l → is_mark (value_by (or_found o None)).shape ≡ is_int t
      last-shape y t l None q k h = absurd (let c : false ≡ true = ap is_some (sym q) ∙ k in cc)
      last-shape y t l (Some e) q k h = h.shaped y e t q l
