-- The wires of a sketch that read a controllable variable have each wire that reads one of them.
use Rattle.std.proofs.Common.{◌≡◌, ℕ, zero, suc, ◌+◌, ◌<◌, true, List, [], ◌∷◌, ◌++◌, length, Contains, Some, refl, ap, subst, ◌∙◌, arith}
use Rattle.std.specs.List.{slice_get}
use Rattle.std.proofs.lemmas.Option.{same_Some, none-some}
use Rattle.hp_circuit.specs.declared.circuit.Role.TheVariants as role
use Rattle.hp_circuit.specs.declared.circuit.Slot.{Slot}
use Rattle.hp_circuit.specs.declared.circuit.Wire.{Wire}
use Rattle.hp_circuit.specs.declared.circuit.Wire.TheVariants as wire
use Rattle.hp_circuit.specs.Forms.{slot_at}
use Rattle.hp_circuit.specs.Reading.{operand_edges, wire_edges, edges_of, IsSteered, controls, reads}
use Rattle.hp_drawing.specs.Sketch.{Sketch}
use Rattle.law_drawing.proofs.EarlyLemmas.Flags.{IsControlAt}
use Rattle.law_drawing.specs.Steered.Marks.{Each}
use Rattle.law_drawing.proofs.ReachedLemmas.Closed.{Gives, IsGiven, Closed, IsEarlyRight, AreEarlyRight}

each-of : {A : Type 0} (Q : A → Type 0) (xs : List A) → ((x : A) → Contains xs x → Q x) → Each Q xs
each-of Q [] f = tt
each-of Q (x ∷ xs) f = (f x (0, (let l : 0 < suc (length xs) = omega arith in l), refl), each-of Q xs (λ y c. f y (suc c.0, within c.0 (length xs) c.1, c.2)))
  where
    within : (i k : ℕ) → i < k → suc i < suc k
    within i k l = omega (arith, l)

each-both : {A : Type 0} (Q : A → Type 0) (xs ys : List A) → Each Q (xs ++ ys) → Each Q xs × Each Q ys
each-both Q [] ys h = (tt, h)
each-both Q (x ∷ xs) ys h = let k = each-both Q xs ys h.1 in ((h.0, k.0), k.1)

module _ (S : ℕ → Type 0) where
  operands-give : (w : ℕ) (g : Wire) → Each (IsGiven S) (operand_edges w g) → Gives S w g
  operands-give w (wire.Slot i) h = tt
  operands-give w (wire.Constant k) h = tt
  operands-give w (wire.Copy a) h = h.0
  operands-give w (wire.Not a) h = h.0
  operands-give w (wire.And a b) h = (h.0, h.1.0)
  operands-give w (wire.Or a b) h = (h.0, h.1.0)
  operands-give w (wire.Xor a b) h = (h.0, h.1.0)
  operands-give w (wire.Equal a b) h = (h.0, h.1.0)
  operands-give w (wire.Is a k) h = h.0
  operands-give w (wire.If t a b) h = (h.0, h.1.0, h.1.1.0)

  edges-give : (i : ℕ) (ws : List Wire) → Each (IsGiven S) (wire_edges i ws) → (w : ℕ) (g : Wire) → slice_get ws w ≡ Some g → Gives S (w + i) g
  edges-give i [] h w g e = absurd (none-some g e)
  edges-give i (v ∷ ws) h zero g e = subst (λ j. Gives S j g) (let z : i ≡ 0 + i = omega arith in z) (subst (Gives S i) (same_Some v g e) (operands-give i v (each-both (IsGiven S) (operand_edges i v) (wire_edges (suc i) ws) h).0))
  edges-give i (v ∷ ws) h (suc w) g e = subst (λ j. Gives S j g) (let z : w + suc i ≡ suc w + i = omega arith in z) (edges-give (suc i) ws (each-both (IsGiven S) (operand_edges i v) (wire_edges (suc i) ws) h).1 w g e)

  -- a slot that may be early, by its number
  pub early-at : (P : ℕ → ℕ → Type 0) (i : ℕ) (cs : List Slot) (j : ℕ) → AreEarlyRight S P i cs → j < length cs → (slot_at cs j).role ≡ role.Free true → P (j + i) (slot_at cs j).wire
  early-at P i [] j h l e = absurd (omega (arith, l))
  early-at P i (c ∷ cs) zero h l e = subst (λ k. P k c.wire) (let z : i ≡ 0 + i = omega arith in z) (subst (IsEarlyRight S P i c.wire) e h.0)
  early-at P i (c ∷ cs) (suc j) h l e = subst (λ k. P k (slot_at cs j).wire) (let z : j + suc i ≡ suc j + i = omega arith in z) (early-at P (suc i) cs j h.1 (omega (arith, l)) e)

-- those that read a controllable variable
abbrev pub Steered : Sketch → ℕ → Type 0
Steered s w = IsSteered s.slots (edges_of s.wires s.reads) w

pub steered-closed : (s : Sketch) → Closed (Steered s) s
steered-closed s =
    let each : Each (IsGiven (Steered s)) (edges_of s.wires s.reads) = each-of (IsGiven (Steered s)) (edges_of s.wires s.reads) (λ r c h. reads r.0 r.1 c h) in
    let both = each-both (IsGiven (Steered s)) (wire_edges 0 s.wires) s.reads each in
    record { wires = λ w g e. subst (λ j. Gives (Steered s) j g) (let z : w + 0 ≡ w = omega arith in z) (edges-give (Steered s) 0 s.wires both.0 w g e); reads = both.1 }

slot-found : (cs : List Slot) (i : ℕ) (c : Slot) → slice_get cs i ≡ Some c → (i < length cs) × (slot_at cs i ≡ c)
slot-found [] i c e = absurd (none-some c e)
slot-found (d ∷ cs) zero c e = ((let l : 0 < suc (length cs) = omega arith in l), same_Some d c e)
slot-found (d ∷ cs) (suc i) c e = let k = slot-found cs i c e in (within i (length cs) k.0, k.1)
  where
    within : (i k : ℕ) → i < k → suc i < suc k
    within i k l = omega (arith, l)

pub control-steered : (s : Sketch) (i w : ℕ) → IsControlAt s.slots i w → Steered s w
control-steered s i w h =
    let k = slot-found s.slots i h.0 h.1 in
    controls w (i, k.0, ap (λ c. c.role) k.1 ∙ h.2, ap (λ c. c.wire) k.1 ∙ h.3)
