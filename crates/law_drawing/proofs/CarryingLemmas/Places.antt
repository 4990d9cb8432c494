-- The places of blocks in control equations, and the jumps of automata.
use Rattle.std.proofs.Common.{◌≡◌, ℕ, Bool, true, false, ◌&&◌, ◌||◌, if◌then◌else◌, List, [], refl, sym, ap, subst, ◌∙◌}
use Rattle.hp_tree.specs.Instant.{Instant}
use Rattle.hp_tree.specs.Meaning as meaning
use Rattle.hp_meaning.specs.Causal.Points.{Placed}
use Rattle.hp_circuit.specs.declared.circuit.Shape.{Shape}
use Rattle.hp_circuit.specs.declared.circuit.Shape.TheVariants.{Truth}
use Rattle.hp_circuit.specs.declared.circuit.Wire.TheVariants as wire
use Rattle.hp_circuit.specs.Meaning.{truth}
use Rattle.hp_drawing.specs.declared.parts.Jump.{Jump}
use Rattle.hp_drawing.specs.declared.parts.Place.{Place}
use Rattle.hp_drawing.specs.Kept.{is_mark}
use Rattle.hp_drawing.specs.Sketch.{Sketch, base, hole, set, push, and_gate, or_gate, choose_gate}
use Rattle.hp_drawing.specs.Places.{within, reset_by, jump_hole, jump_to, jump_add, jump_end}
use Rattle.law_drawing.specs.Carrying.Solving.{Has}
use Rattle.law_drawing.specs.Carrying.Drawing.{IsSolved, IsDrawn, IsPlace}
use Rattle.law_drawing.proofs.CarryingLemmas.Steps.{stays, both, gate, set-drawn, hole-drawn, high-truth}
use Rattle.law_drawing.proofs.CarryingLemmas.Gates.{and-drawn, or-drawn, choose-drawn}

pub and-left : (a b : Bool) → a && b ≡ true → a ≡ true
and-left true b e = refl
and-left false b e = absurd cc

either-truth : (b x y : Bool) → (if b then truth x else truth y) ≡ truth (if b then x else y)
either-truth true x y = refl
either-truth false x y = refl

module _ (slot : ℕ → ℕ) (next : Instant) (supposes owes : Placed → Bool) where
  -- a place that is made, with what it says
  abbrev pub Placing : Sketch → List ℕ → Bool → Bool → Bool → Place × Sketch → Type 0
  Placing d ns here cut kept r = (ns' : List ℕ) × IsDrawn slot next supposes owes d ns [] [] r.1 ns' × IsPlace ns' r.0 here cut kept × (r.0.clock ≡ base)

  pub within-drawn : (p : Place) (c : ℕ) (here cut kept taken : Bool) (d : Sketch) (ns : List ℕ) → IsSolved slot d ns → IsPlace ns p here cut kept → Has ns c (truth taken) → Placing d ns (here && taken) cut kept (within p c d)
  unfolding within
  within-drawn p c here cut kept taken d ns g h k =
      let a = and-drawn slot next supposes owes p.here c here taken d ns g h.here_is k in
      let more : (w n : ℕ) → Has ns w n → Has a.0 w n = stays slot next supposes owes d ns [] [] (and_gate p.here c d).1 a.0 a.1 in (
        a.0,
        a.1,
        record { here_is = a.2; cut_is = more p.cut (truth cut) h.cut_is; kept_is = more p.kept (truth kept) h.kept_is; same = λ e. h.same (and-left here taken e) },
        refl,
      )

  pub reset-drawn : (p : Place) (c : ℕ) (here cut kept fresh : Bool) (d : Sketch) (ns : List ℕ) → IsSolved slot d ns → IsPlace ns p here cut kept → Has ns c (truth fresh)
      → Placing d ns here (cut || fresh) (if here then cut || fresh else kept) (reset_by p c d)
  unfolding reset_by
  reset-drawn p c here cut kept fresh d ns g h k =
      let a = or-drawn slot next supposes owes p.cut c cut fresh d ns g h.cut_is k in
      let o = or_gate p.cut c d in
      let more : (w n : ℕ) → Has ns w n → Has a.0 w n = stays slot next supposes owes d ns [] [] o.1 a.0 a.1 in
      let b = choose-drawn slot next supposes owes p.here o.0 p.kept Truth here (truth (cut || fresh)) (truth kept) o.1 a.0 a.1.solved (more p.here (truth here) h.here_is) a.2 (more p.kept (truth kept) h.kept_is) in
      let q = choose_gate p.here o.0 p.kept Truth o.1 in
      let more-b : (w n : ℕ) → Has a.0 w n → Has b.0 w n = stays slot next supposes owes o.1 a.0 [] [] q.1 b.0 b.1 in (
        b.0,
        both slot next supposes owes d ns [] [] o.1 a.0 [] [] q.1 b.0 a.1 b.1,
        record {
          here_is = more-b p.here (truth here) (more p.here (truth here) h.here_is);
          cut_is = more-b o.0 (truth (cut || fresh)) a.2;
          kept_is = subst (λ n. Has b.0 q.0 n) (either-truth here (cut || fresh) kept) b.2;
          same = same here;
        },
        refl,
      )
    where
      same : (here : Bool) → here ≡ true → (if here then cut || fresh else kept) ≡ cut || fresh
      same true e = refl
      same false e = absurd cc

  -- ---- jumps

  -- where a jump goes, by its wires
  abbrev pub GoesTo : List ℕ → Jump → meaning.Jump → Type 0
  GoesTo ns j v = Has ns j.state v.state × Has ns j.restart (truth v.restart)

  pub goes-more : (ns ns' : List ℕ) (j : Jump) (v : meaning.Jump) → ((w k : ℕ) → Has ns w k → Has ns' w k) → GoesTo ns j v → GoesTo ns' j v
  goes-more ns ns' j v f h = (f j.state v.state h.0, f j.restart (truth v.restart) h.1)

  abbrev pub Jumping : Sketch → List ℕ → meaning.Jump → Jump × Sketch → Type 0
  Jumping d ns v r = (ns' : List ℕ) × IsDrawn slot next supposes owes d ns [] [] r.1 ns' × GoesTo ns' r.0 v

  pub jump-opened : (m : Shape) → is_mark m ≡ false → (v : meaning.Jump) (d : Sketch) (ns : List ℕ) → IsSolved slot d ns → Jumping d ns v (jump_hole m d)
  unfolding jump_hole
  jump-opened m e v d ns g =
      let a = hole-drawn slot next supposes owes m d ns v.state g (λ q. absurd (let c : false ≡ true = sym e ∙ ap is_mark q in cc)) in
      let s = hole m d in
      let b = hole-drawn slot next supposes owes Truth s.1 a.0 (truth v.restart) a.1.solved (λ e. absurd cc) in
      let t = hole Truth s.1 in
      (b.0, both slot next supposes owes d ns [] [] s.1 a.0 [] [] t.1 b.0 a.1 b.1, (stays slot next supposes owes s.1 a.0 [] [] t.1 b.0 b.1 s.0 v.state a.2, b.2))

  either-state : (b : Bool) (u v : meaning.Jump) → (if b then u else v).state ≡ (if b then u.state else v.state)
  either-state true u v = refl
  either-state false u v = refl

  either-restart : (b : Bool) (u v : meaning.Jump) → truth (if b then u else v).restart ≡ (if b then truth u.restart else truth v.restart)
  either-restart true u v = refl
  either-restart false u v = refl

  -- it goes where another one does where a condition holds
  pub jump-added : (j : Jump) (m : Shape) → is_mark m ≡ false → (c : ℕ) (source : Jump) (b : Bool) (u v : meaning.Jump) (d : Sketch) (ns : List ℕ) → IsSolved slot d ns → GoesTo ns j (if b then u else v) → Has ns c (truth b) → GoesTo ns source u → Jumping d ns v (jump_add j m c source d)
  unfolding jump_add
  jump-added j m e c source b u v d ns g h k l =
      let a = jump-opened m e v d ns g in
      let r = jump_hole m d in
      let more : (w n : ℕ) → Has ns w n → Has a.0 w n = stays slot next supposes owes d ns [] [] r.1 a.0 a.1 in
      let w1 = wire.If c source.state r.0.state in
      let x = set-drawn slot next supposes owes j.state w1 r.1 a.0 (if b then u else v).state a.1.solved (more j.state (if b then u else v).state h.0)
      (truth b, u.state, v.state, more c (truth b) k, more source.state u.state l.0, a.2.0, either-state b u v ∙ ap (λ q. if q then u.state else v.state) (sym (high-truth b))) in
      let d1 = set j.state w1 r.1 in
      let w2 = wire.If c source.restart r.0.restart in
      let y = set-drawn slot next supposes owes j.restart w2 d1 a.0 (truth (if b then u else v).restart) x.solved (more j.restart (truth (if b then u else v).restart) h.1)
      (truth b, truth u.restart, truth v.restart, more c (truth b) k, more source.restart (truth u.restart) l.1, a.2.1, either-restart b u v ∙ ap (λ q. if q then truth u.restart else truth v.restart) (sym (high-truth b))) in
      (a.0, both slot next supposes owes d ns [] [] r.1 a.0 [] [] (set j.restart w2 d1) a.0 a.1 (both slot next supposes owes r.1 a.0 [] [] d1 a.0 [] [] (set j.restart w2 d1) a.0 x y), a.2)

  -- or where the other does
  pub jump-ended : (j source : Jump) (v : meaning.Jump) (d : Sketch) (ns : List ℕ) → IsSolved slot d ns → GoesTo ns j v → GoesTo ns source v → IsDrawn slot next supposes owes d ns [] [] (jump_end j source d) ns
  unfolding jump_end
  jump-ended j source v d ns g h l =
      let x = set-drawn slot next supposes owes j.state (wire.Copy source.state) d ns v.state g h.0 l.0 in
      let d1 = set j.state (wire.Copy source.state) d in
      both slot next supposes owes d ns [] [] d1 ns [] [] (set j.restart (wire.Copy source.restart) d1) ns x (set-drawn slot next supposes owes j.restart (wire.Copy source.restart) d1 ns (truth v.restart) x.solved h.1 l.1)

  -- the state of a number
  pub jump-made : (m : Shape) (number restart : ℕ) (b : Bool) (d : Sketch) (ns : List ℕ) → IsSolved slot d ns → Has ns restart (truth b) → Jumping d ns (record { state = number; restart = b }) (jump_to m number restart d)
  unfolding jump_to
  jump-made m number restart b d ns g h =
      let a = gate slot next supposes owes (wire.Constant number) m d ns number g refl in
      (a.0, a.1, (a.2, stays slot next supposes owes d ns [] [] (push (wire.Constant number) m d).1 a.0 a.1 restart (truth b) h))
