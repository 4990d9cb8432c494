-- Where wires have marks, and none is open, no wire stands on a circle.
use Rattle.std.proofs.Common.{◌≡◌, ◌⊎◌, ℕ, zero, suc, ◌+◌, ◌<◌, List, [], ◌∷◌, ◌++◌, length, Contains, slice_index_or, Some, refl, sym, subst, ◌∙◌, inl, inr, arith}
use Rattle.std.specs.List.{slice_get}
use Rattle.std.proofs.lemmas.List.{append_assoc, length-append}
use Rattle.std.proofs.lemmas.Option.{same_Some}
use Rattle.hp_circuit.specs.declared.circuit.Wire.{Wire}
use Rattle.hp_circuit.specs.declared.circuit.Wire.TheVariants as wire
use Rattle.hp_circuit.specs.Reading.{operand_edges, wire_edges, edges_of}
use Rattle.hp_graph.specs.Graphs.{Leads, IsCycle}
use Rattle.hp_drawing.specs.Sketch.{Sketch}
use Rattle.law_drawing.specs.Steered.Marks.{Each}
use Rattle.law_drawing.specs.NoCircle.Marks.{Mark, Marks, Less, Has, MayRead, Operands, Frame, Bound, AllBound, IsReadBound, AreMarked}
use Rattle.law_drawing.proofs.NoCircleLemmas.Orders.{less-less, less-not}

module _ {A : Type 0} (P : A → Type 0) where
  each-append : (xs ys : List A) → Each P xs → Each P ys → Each P (xs ++ ys)
  each-append [] ys h k = k
  each-append (x ∷ xs) ys h k = (h.0, each-append xs ys h.1 k)

  each-at : (xs : List A) (d : A) → Each P xs → (i : ℕ) → i < length xs → P (slice_index_or xs i d)
  each-at [] d h i l = absurd (omega (arith, l))
  each-at (x ∷ xs) d h zero l = h.0
  each-at (x ∷ xs) d h (suc i) l = each-at xs d h.1 i (omega (arith, l))

  each-contains : (xs : List A) (x : A) → Each P xs → Contains xs x → P x
  each-contains xs x h c = subst P c.2 (each-at xs x h c.0 c.1)

get-behind : (before : Marks) (m : Mark) (rest : Marks) → slice_get (before ++ m ∷ rest) (length before) ≡ Some m
get-behind [] m rest = refl
get-behind (n ∷ before) m rest = get-behind before m rest

-- where no wire is open
module _ (late : ℕ → Type 0) (none : (k : ℕ) → late k → ⊥) where
  may : (ms : Marks) (i : ℕ) (m : Mark) (a : ℕ) → Has ms i m → MayRead ms i m a → IsReadBound ms (i, a)
  may ms i m a h r = record { mark = m; has = h; reads = r }

  operands-bound : (ms : Marks) (i : ℕ) (m : Mark) (w : Wire) → Has ms i m → Operands (MayRead ms i m) w → Each (IsReadBound ms) (operand_edges i w)
  operands-bound ms i m (wire.Slot k) h b = tt
  operands-bound ms i m (wire.Constant k) h b = tt
  operands-bound ms i m (wire.Copy a) h b = (may ms i m a h b, tt)
  operands-bound ms i m (wire.Not a) h b = (may ms i m a h b, tt)
  operands-bound ms i m (wire.And a c) h b = (may ms i m a h b.0, (may ms i m c h b.1, tt))
  operands-bound ms i m (wire.Or a c) h b = (may ms i m a h b.0, (may ms i m c h b.1, tt))
  operands-bound ms i m (wire.Xor a c) h b = (may ms i m a h b.0, (may ms i m c h b.1, tt))
  operands-bound ms i m (wire.Equal a c) h b = (may ms i m a h b.0, (may ms i m c h b.1, tt))
  operands-bound ms i m (wire.Is a k) h b = (may ms i m a h b, tt)
  operands-bound ms i m (wire.If t a c) h b = (may ms i m t h b.0, (may ms i m a h b.1, (may ms i m c h b.2, tt)))

  wire-bound : (ms : Marks) (i : ℕ) (m : Mark) (w : Wire) → Has ms i m → Bound late ms i m w → Each (IsReadBound ms) (operand_edges i w)
  wire-bound ms i m w h (inl e) = absurd (none i e.1)
  wire-bound ms i m w h (inr b) = operands-bound ms i m w h b

  wires-bound : (before : Marks) (ws : List Wire) (rest : Marks) → AllBound late (before ++ rest) (length before) ws rest → Each (IsReadBound (before ++ rest)) (wire_edges (length before) ws)
  wires-bound before [] rest h = tt
  wires-bound before (w ∷ ws) [] h = absurd h
  wires-bound before (w ∷ ws) (m ∷ rest) h =
      let whole : before ++ (m ∷ rest) ≡ (before ++ m ∷ []) ++ rest = sym (append_assoc before (m ∷ []) rest) in
      let more : length (before ++ m ∷ []) ≡ suc (length before) = length-append before (m ∷ []) ∙ (let z : length before + 1 ≡ suc (length before) = omega arith in z) in
      let next = wires-bound (before ++ m ∷ []) ws rest (subst (λ i. AllBound late ((before ++ m ∷ []) ++ rest) i ws rest) (sym more) (subst (λ ms. AllBound late ms (suc (length before)) ws rest) whole h.1)) in
      each-append (IsReadBound (before ++ (m ∷ rest))) (operand_edges (length before) w) (wire_edges (suc (length before)) ws) (wire-bound (before ++ (m ∷ rest)) (length before) m w (get-behind before m rest) h.0)
      (subst (λ ms. Each (IsReadBound ms) (wire_edges (suc (length before)) ws)) (sym whole) (subst (λ i. Each (IsReadBound ((before ++ m ∷ []) ++ rest)) (wire_edges i ws)) more next))

module _ (F : Frame) (none : (k : ℕ) → F.late k → ⊥) (s : Sketch) (ms : Marks) (a : AreMarked F s ms) where
  edges-bound : Each (IsReadBound ms) (edges_of s.wires s.reads)
  edges-bound = each-append (IsReadBound ms) (wire_edges 0 s.wires) s.reads (wires-bound F.late none [] s.wires ms a.wires) a.reads

  -- a wire stands above another one
  record Above (v w : ℕ) : Type 0 where
    high : Mark
    low : Mark
    has_high : Has ms v high
    has_low : Has ms w low
    falls : Less low high ⊎ ((low ≡ high) × (v < w))

  falls-on : (m n o : Mark) (u v w : ℕ) → Less n m ⊎ ((n ≡ m) × (u < v)) → Less o n ⊎ ((o ≡ n) × (v < w)) → Less o m ⊎ ((o ≡ m) × (u < w))
  falls-on m n o u v w (inl h) (inl k) = inl (less-less o n m k h)
  falls-on m n o u v w (inl h) (inr k) = inl (subst (λ i. Less i m) (sym k.0) h)
  falls-on m n o u v w (inr h) (inl k) = inl (subst (λ i. Less o i) h.0 k)
  falls-on m n o u v w (inr h) (inr k) = let x = h.1 in let y = k.1 in inr (k.0 ∙ h.0, omega (arith, x, y))

  above-on : (u v w : ℕ) → Above u v → Above v w → Above u w
  above-on u v w h k =
      let same : k.high ≡ h.low = same_Some k.high h.low (sym k.has_high ∙ h.has_low) in
      record { high = h.high; low = k.low; has_high = h.has_high; has_low = k.has_low; falls = falls-on h.high h.low k.low u v w h.falls (subst (λ n. Less k.low n ⊎ ((k.low ≡ n) × (v < w))) same k.falls) }

  edge-above : (v w : ℕ) → Contains (edges_of s.wires s.reads) (v, w) → Above v w
  edge-above v w c = let r = each-contains (IsReadBound ms) (edges_of s.wires s.reads) (v, w) edges-bound c in of r.mark r.has r.reads
    where
      of : (m : Mark) → Has ms v m → MayRead ms v m w → Above v w
      of m h (inl u) = record { high = m; low = u.mark; has_high = h; has_low = u.has; falls = inl u.less }
      of m h (inr u) = record { high = m; low = m; has_high = h; has_low = u.0; falls = inr (refl, u.1) }

  leads-above : (v : ℕ) (between : List ℕ) (end : ℕ) → Leads (edges_of s.wires s.reads) v between end → Above v end
  leads-above v [] end h = edge-above v end h
  leads-above v (w ∷ between) end h = above-on v w end (edge-above v w h.0) (leads-above w between end h.1)

  not-above : (v : ℕ) → Above v v → ⊥
  not-above v h =
      let same : h.low ≡ h.high = same_Some h.low h.high (sym h.has_low ∙ h.has_high) in
      elim h.falls [ inl l ↦ less-not h.high (subst (λ i. Less i h.high) same l) | inr e ↦ absurd (let x = e.1 in omega (arith, x)) ]

  pub no-circle : (wires : List ℕ) → IsCycle (edges_of s.wires s.reads) wires → ⊥
  no-circle [] c = c
  no-circle (v ∷ others) c = not-above v (leads-above v others v c.0)
