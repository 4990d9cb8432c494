-- What is drawn of a call beside its contract: the wires of its outputs, and what it supposes and owes.
use Rattle.std.proofs.Common.{◌≡◌, ℕ, ◌+◌, Bool, true, false, not, ◌&&◌, ◌||◌, List, [], ◌∷◌, ◌++◌, length, Some, refl, sym, ap, subst, ◌∙◌}
use Rattle.std.specs.Prelude.{⊤, slice_get}
use Rattle.std.proofs.lemmas.List.{append_assoc}
use Rattle.std.proofs.lemmas.Option.{same_Some}
use Rattle.hp_tree.specs.Blocks.{Decl}
use Rattle.hp_tree.specs.Instant.{Named, Instant, Place as TreePlace}
use Rattle.hp_tree.specs.Programs.{TypeDecl}
use Rattle.hp_meaning.specs.Causal.Points.{Placed}
use Rattle.hp_meaning.specs.Contract.Memory.{number_in}
use Rattle.hp_meaning.specs.Contract.Slots as slots
use Rattle.hp_meaning.specs.Contract.Slots.{free, is_int}
use Rattle.hp_circuit.specs.declared.circuit.Role.{Role}
use Rattle.hp_circuit.specs.declared.circuit.Role.TheVariants as role
use Rattle.hp_circuit.specs.declared.circuit.Shape.{Shape}
use Rattle.hp_circuit.specs.declared.circuit.Shape.TheVariants.{Truth, Cons, Mark}
use Rattle.hp_circuit.specs.Meaning.{truth}
use Rattle.law_games.specs.Wiretyped.Typed.{AreWires}
use Rattle.hp_drawing.specs.Kept.{is_mark}
use Rattle.hp_drawing.specs.Told.{Told, type_shape}
use Rattle.hp_drawing.specs.Sketch.{Sketch, next_wire, given, mark, push, read, slot as slot_step, not_gate, or_gate, and_gate, add_call, add_told, with_hyp, with_duty, hyp_of, duty_of}
use Rattle.hp_drawing.specs.DrawnExpressions.{add_outputs}
use Rattle.law_drawing.specs.Carrying.Calls.{outputs_slots}
use Rattle.law_drawing.specs.Carrying.Solving.{Has}
use Rattle.law_drawing.specs.Carrying.Drawing.{AreHeld, IsSolved, IsTold, IsDrawn}
use Rattle.law_drawing.specs.Carrying.Nodes.{free_of}
use Rattle.law_drawing.proofs.CarryingLemmas.Numbers.{get-front, get-next}
use Rattle.law_drawing.proofs.CarryingLemmas.Slots.{held-first}
use Rattle.law_drawing.proofs.CarryingLemmas.Steps.{stays, both, ended, nothing-drawn, read-drawn, and-true}
use Rattle.law_drawing.proofs.CarryingLemmas.Gates.{not-drawn, or-drawn, and-drawn}
use Rattle.law_drawing.proofs.CarryingLemmas.Parts.{held-behind}
use Rattle.law_drawing.proofs.CarryingLemmas.Marks.{type-mark}
use Rattle.law_drawing.proofs.CarryingLemmas.Rows.{RowHas, one-given, free-kind}
use Rattle.law_drawing.proofs.CarryingLemmas.ContractScopes.{output_values}
use Rattle.law_drawing.proofs.CarryingLemmas.NodeParts.{gate-hyp}

truth-same : (a b : Bool) → truth a ≡ truth b → a ≡ b
truth-same true true e = refl
truth-same true false e = absurd cc
truth-same false true e = absurd cc
truth-same false false e = refl

-- what wires carry, one behind the other
abbrev pub RowShapes : List Shape → ℕ → List Decl → Type 0
RowShapes shapes first [] = ⊤
RowShapes shapes first (d ∷ ds) = ((p : Shape) × (slice_get shapes first ≡ Some p) × (is_mark p ≡ is_int d.ty)) × RowShapes shapes (first + 1) ds

pub shapes-more : (shapes more : List Shape) (first : ℕ) (ds : List Decl) → RowShapes shapes first ds → RowShapes (shapes ++ more) first ds
shapes-more shapes more first [] h = tt
shapes-more shapes more first (d ∷ ds) h = ((h.0.0, get-front shapes more first h.0.0 h.0.1, h.0.2), shapes-more shapes more (first + 1) ds h.1)

-- what is given for outputs has the numbers of their values
abbrev pub OutputsAre : Instant → (TreePlace → TreePlace) → List Decl → Instant → Type 0
OutputsAre given w [] now = ⊤
OutputsAre given w (d ∷ ds) now = (number_in (given (w (Named d.name ∷ []))) ≡ number_in (now (Named d.name ∷ []))) × OutputsAre given w ds now

given-shape : (r : Role) (p : Shape) (d : Sketch) → length d.shapes ≡ length d.wires → slice_get (given r p d).1.shapes (next_wire d) ≡ Some p
unfolding given mark slot_step push next_wire
given-shape r Mark d e = subst (λ i. slice_get (d.shapes ++ Mark ∷ []) i ≡ Some Mark) e (get-next d.shapes Mark)
given-shape r Truth d e = subst (λ i. slice_get (d.shapes ++ Truth ∷ []) i ≡ Some Truth) e (get-next d.shapes Truth)
given-shape r (Cons m) d e = subst (λ i. slice_get (d.shapes ++ Cons m ∷ []) i ≡ Some (Cons m)) e (get-next d.shapes (Cons m))

read-next : (w other : ℕ) (d : Sketch) → (next_wire (read w other d) ≡ next_wire d) × ((read w other d).shapes ≡ d.shapes)
unfolding read next_wire
read-next w other d = (refl, refl)

module _ (slot : ℕ → ℕ) (next : Instant) (supposes owes : Placed → Bool) where
  abbrev Draws : Sketch → List ℕ → List slots.Slot → Sketch → List ℕ → Type 0
  Draws d ns ss d' ns' = IsDrawn slot next supposes owes d ns ss [] d' ns'

  pub outputs-given : (raw given_by : Instant) (types : List TypeDecl) (told : Told) (early : Bool) (ds : List Decl) (now : Instant) (w : TreePlace → TreePlace) (reads : ℕ) (d : Sketch) (ns : List ℕ) → AreWires types ds (output_values ds now) → OutputsAre given_by w ds now → IsSolved slot d ns
      → AreHeld slot raw given_by (outputs_slots ds w) (length d.slots)
      → (ns' : List ℕ) × Draws d ns (outputs_slots ds w) (add_outputs told early ds reads d) ns' × RowHas ns' (next_wire d) (output_values ds now) × RowShapes (add_outputs told early ds reads d).shapes (next_wire d) ds
  outputs-given raw given_by types told early [] now w reads d ns a e g h = (ns, nothing-drawn slot next supposes owes d ns g, tt, tt)
  outputs-given raw given_by types told early (o ∷ ds) now w reads d ns a e g h =
      let p = w (Named o.name ∷ []) in
      let v = now (Named o.name ∷ []) in
      let ss = free_of free p o.ty in
      let ts = outputs_slots ds w in
      let shape = type_shape told o.ty in
      let r = given (role.Free early) shape d in
      let m = one-given slot next supposes owes raw given_by free (free-kind slot next supposes owes raw given_by) types told (role.Free early) p o.ty v d ns a.0 e.0 g (held-first slot raw given_by ss ts (length d.slots) h) in
      let x = read-drawn slot next supposes owes r.0 reads r.1 m.0 m.1.solved in
      let s1 = read r.0 reads r.1 in
      let rn = read-next r.0 reads r.1 in
      let d1 = ended slot next supposes owes d ns ss [] r.1 m.0 s1 m.0 m.1 x in
      let y = outputs-given raw given_by types told early ds now w reads s1 m.0 a.1 e.1 x.solved (held-behind slot next supposes owes raw given_by d ns ss [] s1 m.0 ts d1 h) in
      let s2 = add_outputs told early ds reads s1 in
      let n : next_wire s1 ≡ next_wire d + 1 = rn.0 ∙ m.4 in
      let sh : slice_get s1.shapes (next_wire d) ≡ Some shape = ap (λ l. slice_get l (next_wire d)) rn.1 ∙ given-shape (role.Free early) shape d g.shaped in (
        y.0,
        both slot next supposes owes d ns ss [] s1 m.0 ts [] s2 y.0 d1 y.1,
        (stays slot next supposes owes s1 m.0 ts [] s2 y.0 y.1 (next_wire d) (number_in v) (subst (λ i. Has m.0 i (number_in v)) m.3 m.2), subst (λ i. RowHas y.0 i (output_values ds now)) n y.2),
        ((shape, ap (λ l. slice_get l (next_wire d)) y.1.shapes ∙ get-front s1.shapes y.1.more_shapes (next_wire d) shape sh, type-mark told o.ty), subst (λ i. RowShapes s2.shapes i ds) n y.3),
      )

  -- ---- what a call supposes and owes

  -- where it asks for nothing
  pub nothing-asked : (point : Placed) (d : Sketch) (ns : List ℕ) (ss : List slots.Slot) (b : Sketch) (ns' : List ℕ) → supposes point ≡ true → owes point ≡ true → Draws d ns ss b ns' → IsDrawn slot next supposes owes d ns ss (point ∷ []) b ns'
  nothing-asked point d ns ss b ns' e f a = record {
    more = a.more;
    grown = a.grown;
    solved = a.solved;
    more_clocks = a.more_clocks;
    clocks = a.clocks;
    more_shapes = a.more_shapes;
    shapes = a.shapes;
    laid = a.laid;
    slots = a.slots;
    are_laid = a.are_laid;
    told = λ p o t.
        let k = a.told p o t in
        record { hyp = subst (λ q. Has ns' b.hyp (truth (p && (q && true)))) (sym e) k.hyp; duty = subst (λ q. Has ns' b.duty (truth (o && (q && true)))) (sym f) k.duty };
  }

  -- what is supposed and owed besides what is so far
  hyp-added : (w : ℕ) (b : Bool) (d : Sketch) (ns : List ℕ) → IsSolved slot d ns → Has ns w (truth b)
      → (ns' : List ℕ) × ((more : List ℕ) × (ns' ≡ ns ++ more)) × IsDrawn slot next supposes owes d ns [] [] (and_gate d.hyp w d).1 ns' × IsSolved slot (record (and_gate d.hyp w d).1 { hyp = (and_gate d.hyp w d).0 }) ns'
      × ((p : Bool) → Has ns d.hyp (truth p) → Has ns' (and_gate d.hyp w d).0 (truth (p && b)))
  hyp-added w b d ns g h =
      let p0 = g.hyp_is.0 in
      let x = and-drawn slot next supposes owes d.hyp w p0 b d ns g g.hyp_is.1 h in (
        x.0,
        (x.1.more, x.1.grown),
        x.1,
        record { solved = x.1.solved.solved; low_is = x.1.solved.low_is; high_is = x.1.solved.high_is; base_is = x.1.solved.base_is; shaped = x.1.solved.shaped; hyp_is = (p0 && b, x.2); duty_is = x.1.solved.duty_is },
        λ p k. subst (λ q. Has x.0 (and_gate d.hyp w d).0 (truth (q && b))) (sym (truth-same p p0 (same_Some (truth p) (truth p0) (sym k ∙ g.hyp_is.1)))) x.2,
      )

  duty-added : (w : ℕ) (b : Bool) (d : Sketch) (ns : List ℕ) → IsSolved slot d ns → Has ns w (truth b)
      → (ns' : List ℕ) × IsDrawn slot next supposes owes d ns [] [] (and_gate d.duty w d).1 ns' × IsSolved slot (record (and_gate d.duty w d).1 { duty = (and_gate d.duty w d).0 }) ns' × ((p : Bool) → Has ns d.duty (truth p) → Has ns' (and_gate d.duty w d).0 (truth (p && b)))
  duty-added w b d ns g h =
      let p0 = g.duty_is.0 in
      let x = and-drawn slot next supposes owes d.duty w p0 b d ns g g.duty_is.1 h in (
        x.0,
        x.1,
        record { solved = x.1.solved.solved; low_is = x.1.solved.low_is; high_is = x.1.solved.high_is; base_is = x.1.solved.base_is; shaped = x.1.solved.shaped; hyp_is = x.1.solved.hyp_is; duty_is = (p0 && b, x.2) },
        λ p k. subst (λ q. Has x.0 (and_gate d.duty w d).0 (truth (q && b))) (sym (truth-same p p0 (same_Some (truth p) (truth p0) (sym k ∙ g.duty_is.1)))) x.2,
      )

  -- one step behind another, of which it is said what is told
  told-joined : (point : Placed) (d d1 d1' d2 d2' : Sketch) (ns ns1 ns2 : List ℕ) → IsDrawn slot next supposes owes d ns [] [] d1 ns1 → d1'.clocks ≡ d1.clocks → d1'.shapes ≡ d1.shapes → d1'.slots ≡ d1.slots → IsDrawn slot next supposes owes d1' ns1 [] [] d2 ns2
      → d2'.clocks ≡ d2.clocks → d2'.shapes ≡ d2.shapes → d2'.slots ≡ d2.slots → IsSolved slot d2' ns2 → ((p o : Bool) → IsTold d ns p o → IsTold d2' ns2 (p && (supposes point && true)) (o && (owes point && true))) → IsDrawn slot next supposes owes d ns [] (point ∷ []) d2' ns2
  told-joined point d d1 d1' d2 d2' ns ns1 ns2 a c1 p1 l1 b c2 p2 l2 g t = record {
    more = a.more ++ b.more;
    grown = b.grown ∙ ap (λ l. l ++ b.more) a.grown ∙ append_assoc ns a.more b.more;
    solved = g;
    more_clocks = a.more_clocks ++ b.more_clocks;
    clocks = c2 ∙ b.clocks ∙ ap (λ l. l ++ b.more_clocks) (c1 ∙ a.clocks) ∙ append_assoc d.clocks a.more_clocks b.more_clocks;
    more_shapes = a.more_shapes ++ b.more_shapes;
    shapes = p2 ∙ b.shapes ∙ ap (λ l. l ++ b.more_shapes) (p1 ∙ a.shapes) ∙ append_assoc d.shapes a.more_shapes b.more_shapes;
    laid = a.laid ++ b.laid;
    slots = l2 ∙ b.slots ∙ ap (λ l. l ++ b.laid) (l1 ∙ a.slots) ∙ append_assoc d.slots a.laid b.laid;
    are_laid = ap (λ l. l ++ b.laid) a.are_laid ∙ b.are_laid;
    told = t;
  }

  told-added : (point : Placed) (sw ow : ℕ) (s o : Bool) (d : Sketch) (ns : List ℕ) → IsSolved slot d ns → Has ns sw (truth s) → Has ns ow (truth o) → supposes point ≡ s → owes point ≡ o → (ns' : List ℕ) × IsDrawn slot next supposes owes d ns [] (point ∷ []) (add_told sw ow d) ns'
  unfolding add_told with_hyp with_duty hyp_of duty_of
  told-added point sw ow s o d ns g hs ho es eo =
      let x = hyp-added sw s d ns g hs in
      let u = and_gate d.hyp sw d in
      let d1 : Sketch = record u.1 { hyp = u.0 } in
      let m1 : (w k : ℕ) → Has ns w k → Has x.0 w k = stays slot next supposes owes d ns [] [] u.1 x.0 x.2 in
      let y = duty-added ow o d1 x.0 x.3 (m1 ow (truth o) ho) in
      let v = and_gate d1.duty ow d1 in
      let d2 : Sketch = record v.1 { duty = v.0 } in
      let m2 : (w k : ℕ) → Has x.0 w k → Has y.0 w k = stays slot next supposes owes d1 x.0 [] [] v.1 y.0 y.1 in
      let hyp-kept : v.1.hyp ≡ u.0 = gate-hyp d1.duty ow d1 in (
        y.0,
        told-joined point d u.1 d1 v.1 d2 ns x.0 y.0 x.2 refl refl refl y.1 refl refl refl y.2
            (λ p q t.
            let t1 = x.2.told p q t in
            record {
              hyp = subst (λ w. Has y.0 w (truth (p && (supposes point && true)))) (sym hyp-kept) (subst (λ b. Has y.0 u.0 (truth (p && b))) (sym es ∙ sym (and-true (supposes point))) (m2 u.0 (truth (p && s)) (x.4 p t.hyp)));
              duty = subst (λ b. Has y.0 v.0 (truth (q && b))) (sym eo ∙ sym (and-true (owes point))) (y.3 q (subst (λ b. Has x.0 u.1.duty (truth b)) (and-true q) t1.duty));
            }),
      )

  gates-drawn : (here assume enforce : ℕ) (h a e : Bool) (d : Sketch) (ns : List ℕ) → IsSolved slot d ns → Has ns here (truth h) → Has ns assume (truth a) → Has ns enforce (truth e)
      → let away = not_gate here d in
      let un = not_gate assume away.1 in
      let kept = or_gate un.0 enforce un.1 in
      let supposed = or_gate away.0 kept.0 kept.1 in
      let owed = or_gate away.0 assume supposed.1 in
      (ns' : List ℕ) × IsDrawn slot next supposes owes d ns [] [] owed.1 ns' × Has ns' supposed.0 (truth (not h || (not a || e))) × Has ns' owed.0 (truth (not h || a))
  gates-drawn here assume enforce h a e d ns g hh ha he =
      let away = not_gate here d in
      let w1 = not-drawn slot next supposes owes here h d ns g hh in
      let m1 : (w k : ℕ) → Has ns w k → Has w1.0 w k = stays slot next supposes owes d ns [] [] away.1 w1.0 w1.1 in
      let un = not_gate assume away.1 in
      let w2 = not-drawn slot next supposes owes assume a away.1 w1.0 w1.1.solved (m1 assume (truth a) ha) in
      let m2 : (w k : ℕ) → Has w1.0 w k → Has w2.0 w k = stays slot next supposes owes away.1 w1.0 [] [] un.1 w2.0 w2.1 in
      let kept = or_gate un.0 enforce un.1 in
      let w3 = or-drawn slot next supposes owes un.0 enforce (not a) e un.1 w2.0 w2.1.solved w2.2 (m2 enforce (truth e) (m1 enforce (truth e) he)) in
      let m3 : (w k : ℕ) → Has w2.0 w k → Has w3.0 w k = stays slot next supposes owes un.1 w2.0 [] [] kept.1 w3.0 w3.1 in
      let supposed = or_gate away.0 kept.0 kept.1 in
      let away3 = m3 away.0 (truth (not h)) (m2 away.0 (truth (not h)) w1.2) in
      let w4 = or-drawn slot next supposes owes away.0 kept.0 (not h) (not a || e) kept.1 w3.0 w3.1.solved away3 w3.2 in
      let m4 : (w k : ℕ) → Has w3.0 w k → Has w4.0 w k = stays slot next supposes owes kept.1 w3.0 [] [] supposed.1 w4.0 w4.1 in
      let owed = or_gate away.0 assume supposed.1 in
      let w5 = or-drawn slot next supposes owes away.0 assume (not h) a supposed.1 w4.0 w4.1.solved (m4 away.0 (truth (not h)) away3) (m4 assume (truth a) (m3 assume (truth a) (m2 assume (truth a) (m1 assume (truth a) ha)))) in
      let m5 : (w k : ℕ) → Has w4.0 w k → Has w5.0 w k = stays slot next supposes owes supposed.1 w4.0 [] [] owed.1 w5.0 w5.1 in
      let d12 = both slot next supposes owes d ns [] [] away.1 w1.0 [] [] un.1 w2.0 w1.1 w2.1 in
      let d13 = both slot next supposes owes d ns [] [] un.1 w2.0 [] [] kept.1 w3.0 d12 w3.1 in
      let d14 = both slot next supposes owes d ns [] [] kept.1 w3.0 [] [] supposed.1 w4.0 d13 w4.1 in
      (w5.0, both slot next supposes owes d ns [] [] supposed.1 w4.0 [] [] owed.1 w5.0 d14 w5.1, m5 supposed.0 (truth (not h || (not a || e))) w4.2, w5.2)

  pub call-told : (point : Placed) (here assume enforce : ℕ) (h a e : Bool) (d : Sketch) (ns : List ℕ) → IsSolved slot d ns → Has ns here (truth h) → Has ns assume (truth a) → Has ns enforce (truth e) → supposes point ≡ not h || (not a || e) → owes point ≡ not h || a
      → (ns' : List ℕ) × IsDrawn slot next supposes owes d ns [] (point ∷ []) (add_call here assume enforce d) ns'
  unfolding add_call
  call-told point here assume enforce h a e d ns g hh ha he es eo =
      let x = gates-drawn here assume enforce h a e d ns g hh ha he in
      let away = not_gate here d in
      let un = not_gate assume away.1 in
      let kept = or_gate un.0 enforce un.1 in
      let supposed = or_gate away.0 kept.0 kept.1 in
      let owed = or_gate away.0 assume supposed.1 in
      let y = told-added point supposed.0 owed.0 (not h || (not a || e)) (not h || a) owed.1 x.0 x.1.solved x.2 x.3 es eo in
      (y.0, both slot next supposes owes d ns [] [] owed.1 x.0 [] (point ∷ []) (add_told supposed.0 owed.0 owed.1) y.0 x.1 y.1)

-- the same of other calls, where none is there
pub other-calls : (slot : ℕ → ℕ) (next : Instant) (sup owe sup' owe' : Placed → Bool) (d : Sketch) (ns : List ℕ) (ss : List slots.Slot) (b : Sketch) (ns' : List ℕ) → IsDrawn slot next sup owe d ns ss [] b ns' → IsDrawn slot next sup' owe' d ns ss [] b ns'
other-calls slot next sup owe sup' owe' d ns ss b ns' a = record {
  more = a.more;
  grown = a.grown;
  solved = a.solved;
  more_clocks = a.more_clocks;
  clocks = a.clocks;
  more_shapes = a.more_shapes;
  shapes = a.shapes;
  laid = a.laid;
  slots = a.slots;
  are_laid = a.are_laid;
  told = a.told;
}
