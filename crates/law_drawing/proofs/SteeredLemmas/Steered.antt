-- A wire that reads a controllable variable has a mark that leads to one.
use Rattle.std.proofs.Common.{◌≡◌, ℕ, Bool, zero, suc, ◌+◌, ◌<◌, List, [], ◌∷◌, ◌++◌, length, Contains, slice_index_or, Some, refl, sym, subst, ◌∙◌, arith}
use Rattle.std.specs.List.{slice_get}
use Rattle.std.proofs.lemmas.List.{append_assoc, length-append}
use Rattle.std.proofs.lemmas.Option.{same_Some}
use Rattle.hp_meaning.specs.Causal.Sources.{Sources}
use Rattle.hp_circuit.specs.declared.circuit.Role.{Role}
use Rattle.hp_circuit.specs.declared.circuit.Role.TheVariants as role
use Rattle.hp_circuit.specs.declared.circuit.Slot.{Slot}
use Rattle.hp_circuit.specs.declared.circuit.Wire.{Wire}
use Rattle.hp_circuit.specs.declared.circuit.Wire.TheVariants as wire
use Rattle.hp_circuit.specs.Forms.{slot_at}
use Rattle.hp_circuit.specs.Reading.{operand_edges, wire_edges, edges_of, IsSteered, controls, reads}
use Rattle.hp_drawing.specs.Sketch.{Sketch}
use Rattle.law_drawing.specs.Steered.Marks.{Steering, Marks, Has, Each, Leads, Bound, AllBound, IsReadBound, Leading, IsRoleMarked, IsSlotMarked, AreSlotsMarked, AreMarked}

module _ {A : Type 0} (P : A → Type 0) where
  each-append : (xs ys : List A) → Each P xs → Each P ys → Each P (xs ++ ys)
  each-append [] ys h k = k
  each-append (x ∷ xs) ys h k = (h.0, each-append xs ys h.1 k)

  each-at : (xs : List A) (d : A) → Each P xs → (i : ℕ) → i < length xs → P (slice_index_or xs i d)
  each-at [] d h i l = absurd (omega (arith, l))
  each-at (x ∷ xs) d h zero l = h.0
  each-at (x ∷ xs) d h (suc i) l = each-at xs d h.1 i (omega (arith, l))

  each-contains : (xs : List A) (x : A) → Each P xs → Contains xs x → P x
  each-contains xs x h c = subst P c.2 (each-at xs x h c.0 c.1)

module _ (steers : Steering) where
  operands-bound : (ms : Marks) (i : ℕ) (m : Sources) (w : Wire) → Has ms i m → Bound steers ms m w → Each (IsReadBound steers ms) (operand_edges i w)
  operands-bound ms i m (wire.Slot k) h b = tt
  operands-bound ms i m (wire.Constant k) h b = tt
  operands-bound ms i m (wire.Copy a) h b = (record { mark = m; has = h; reads = b }, tt)
  operands-bound ms i m (wire.Not a) h b = (record { mark = m; has = h; reads = b }, tt)
  operands-bound ms i m (wire.And a c) h b = (record { mark = m; has = h; reads = b.0 }, (record { mark = m; has = h; reads = b.1 }, tt))
  operands-bound ms i m (wire.Or a c) h b = (record { mark = m; has = h; reads = b.0 }, (record { mark = m; has = h; reads = b.1 }, tt))
  operands-bound ms i m (wire.Xor a c) h b = (record { mark = m; has = h; reads = b.0 }, (record { mark = m; has = h; reads = b.1 }, tt))
  operands-bound ms i m (wire.Equal a c) h b = (record { mark = m; has = h; reads = b.0 }, (record { mark = m; has = h; reads = b.1 }, tt))
  operands-bound ms i m (wire.Is a k) h b = (record { mark = m; has = h; reads = b }, tt)
  operands-bound ms i m (wire.If t a c) h b = (record { mark = m; has = h; reads = b.0 }, (record { mark = m; has = h; reads = b.1 }, (record { mark = m; has = h; reads = b.2 }, tt)))

  get-behind : (front : Marks) (m : Sources) (rest : Marks) → slice_get (front ++ m ∷ rest) (length front) ≡ Some m
  get-behind [] m rest = refl
  get-behind (n ∷ front) m rest = get-behind front m rest

  wires-bound : (front : Marks) (ws : List Wire) (rest : Marks) → AllBound steers (front ++ rest) ws rest → Each (IsReadBound steers (front ++ rest)) (wire_edges (length front) ws)
  wires-bound front [] rest h = tt
  wires-bound front (w ∷ ws) [] h = absurd h
  wires-bound front (w ∷ ws) (m ∷ rest) h =
      let whole : front ++ (m ∷ rest) ≡ (front ++ m ∷ []) ++ rest = sym (append_assoc front (m ∷ []) rest) in
      let next = wires-bound (front ++ m ∷ []) ws rest (subst (λ ms. AllBound steers ms ws rest) whole h.1) in
      each-append (IsReadBound steers (front ++ (m ∷ rest))) (operand_edges (length front) w) (wire_edges (suc (length front)) ws) (operands-bound (front ++ (m ∷ rest)) (length front) m w (get-behind front m rest) h.0)
      (subst (λ ms. Each (IsReadBound steers ms) (wire_edges (suc (length front)) ws)) (sym whole) (subst (λ i. Each (IsReadBound steers ((front ++ m ∷ []) ++ rest)) (wire_edges i ws)) (length-append front (m ∷ []) ∙ (let e : length front + 1 ≡ suc (length front) = omega arith in e)) next))

  edges-bound : (s : Sketch) (ms : Marks) → AreMarked steers s ms → Each (IsReadBound steers ms) (edges_of s.wires s.reads)
  edges-bound s ms a = each-append (IsReadBound steers ms) (wire_edges 0 s.wires) s.reads (wires-bound [] s.wires ms a.wires) a.reads

  control-leads : (ms : Marks) (w i : ℕ) (r : Role) → r ≡ role.Control → IsRoleMarked steers ms w i r → Leading steers ms w
  control-leads ms w i r e h = subst (IsRoleMarked steers ms w i) e h

  slot-leads : (ms : Marks) (w i : ℕ) (c : Slot) → c.role ≡ role.Control → c.wire ≡ w → IsSlotMarked steers ms i c → Leading steers ms w
  slot-leads ms w i c e f h = subst (Leading steers ms) f (control-leads ms c.wire i c.role e h)

  slot-marked-at : (ms : Marks) (n : ℕ) (slots : List Slot) → AreSlotsMarked steers ms n slots → (i : ℕ) → i < length slots → IsSlotMarked steers ms (n + i) (slot_at slots i)
  slot-marked-at ms n [] h i l = absurd (omega (arith, l))
  slot-marked-at ms n (c ∷ slots) h zero l = subst (λ j. IsSlotMarked steers ms j c) (let z : n ≡ n + 0 = omega arith in z) h.0
  slot-marked-at ms n (c ∷ slots) h (suc i) l = subst (λ j. IsSlotMarked steers ms j (slot_at slots i)) (let z : suc n + i ≡ n + suc i = omega arith in z) (slot-marked-at ms (suc n) slots h.1 i (omega (arith, l)))

  slot-at : (ms : Marks) (slots : List Slot) → AreSlotsMarked steers ms 0 slots → (i : ℕ) → i < length slots → IsSlotMarked steers ms i (slot_at slots i)
  slot-at ms slots h i l = subst (λ j. IsSlotMarked steers ms j (slot_at slots i)) (let z : 0 + i ≡ i = omega arith in z) (slot-marked-at ms 0 slots h i l)

  same-mark : (ms : Marks) (w : ℕ) (m n : Sources) → Has ms w m → Has ms w n → m ≡ n
  same-mark ms w m n h k = same_Some m n (sym h ∙ k)

  pub leads : (s : Sketch) (ms : Marks) → AreMarked steers s ms → (w : ℕ) → IsSteered s.slots (edges_of s.wires s.reads) w → (m : Sources) → Has ms w m → Leads steers m
  leads s ms a w (controls v (i, l, e, f)) m h =
      let k = slot-leads ms w i (slot_at s.slots i) e f (slot-at ms s.slots a.slots i l) in
      subst (Leads steers) (same-mark ms w k.mark m k.has h) k.leads
  leads s ms a w (reads v b c from) m h =
      let r = each-contains (IsReadBound steers ms) (edges_of s.wires s.reads) (w, b) (edges-bound s ms a) c in
      subst (Leads steers) (same-mark ms w r.mark m r.has h) (r.reads.leads (leads s ms a b from r.reads.mark r.reads.has))

  -- and a free slot stands for what leads to one
  pub free-leads : (s : Sketch) (ms : Marks) → AreMarked steers s ms → (i : ℕ) → i < length s.slots → (early : Bool) → (slot_at s.slots i).role ≡ role.Free early → IsSteered s.slots (edges_of s.wires s.reads) (slot_at s.slots i).wire
      → Leads steers (steers.slots i)
  free-leads s ms a i l early e from =
      let low = subst (IsRoleMarked steers ms (slot_at s.slots i).wire i) e (slot-at ms s.slots a.slots i l) in
      low.leads (leads s ms a (slot_at s.slots i).wire from low.mark low.has)
