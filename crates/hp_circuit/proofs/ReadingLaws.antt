-- What wires read.
use Rattle.std.proofs.Common.{◌≡◌, ◌≤◌, ◌<◌, ℕ, zero, suc, ◌+◌, List, [], ◌∷◌, ◌++◌, length, subst, arith}
use Rattle.hp_graph.specs.Graphs.{AreWithin}
use Rattle.hp_circuit.specs.declared.circuit.Circuit.{Circuit}
use Rattle.hp_circuit.specs.declared.circuit.Shape.{Shape}
use Rattle.hp_circuit.specs.declared.circuit.Slot.{Slot}
use Rattle.hp_circuit.specs.declared.circuit.Wire.{Wire}
use Rattle.hp_circuit.specs.declared.circuit.Wire.TheVariants as wire
use Rattle.hp_circuit.specs.Forms.{shape_at, wire_at, WireFits, IsCircuit}
use Rattle.hp_circuit.specs.Making.{AtReads}
use Rattle.hp_circuit.specs.Reading.{operand_edges, wire_edges, edges_of}

-- lists of edges, one by one
within_none : (n : ℕ) → AreWithin n []
within_none n k d l = absurd (omega (arith, l))

within_one : (n a b : ℕ) (es : List (ℕ × ℕ)) → a < n → b < n → AreWithin n es → AreWithin n ((a, b) ∷ es)
within_one n a b es la lb h zero d l = (la, lb)
within_one n a b es la lb h (suc k) d l = h k d (omega (arith, l))

pub within_both : (n : ℕ) (es fs : List (ℕ × ℕ)) → AreWithin n es → AreWithin n fs → AreWithin n (es ++ fs)
within_both n [] fs h g = g
within_both n (e ∷ es) fs h g = within_one n e.0 e.1 (es ++ fs) ((h zero e (omega arith)).0) ((h zero e (omega arith)).1) (within_both n es fs (λ k d l. h (suc k) d (omega (arith, l))) g)

pub fits_reads : (slots : List Slot) (shapes : List Shape) (shape : Shape) (w : Wire) → WireFits slots shapes shape w → AtReads (λ a. a < length shapes) w
fits_reads slots shapes shape (wire.Slot i) f = omega arith
fits_reads slots shapes shape (wire.Constant k) f = omega arith
fits_reads slots shapes shape (wire.Copy a) f = f.0
fits_reads slots shapes shape (wire.Not a) f = f.1.0
fits_reads slots shapes shape (wire.And a b) f = (f.1.0, f.2.0)
fits_reads slots shapes shape (wire.Or a b) f = (f.1.0, f.2.0)
fits_reads slots shapes shape (wire.Xor a b) f = (f.1.0, f.2.0)
fits_reads slots shapes shape (wire.Equal a b) f = (f.1, f.2.0)
fits_reads slots shapes shape (wire.Is a k) f = f.1
fits_reads slots shapes shape (wire.If t a b) f = (f.0.0, f.1.0, f.2.0)

operands_within : (n i : ℕ) (w : Wire) → i < n → AtReads (λ a. a < n) w → AreWithin n (operand_edges i w)
operands_within n i (wire.Slot k) l h = within_none n
operands_within n i (wire.Constant k) l h = within_none n
operands_within n i (wire.Copy a) l h = within_one n i a [] l h (within_none n)
operands_within n i (wire.Not a) l h = within_one n i a [] l h (within_none n)
operands_within n i (wire.And a b) l h = within_one n i a ((i, b) ∷ []) l h.0 (within_one n i b [] l h.1 (within_none n))
operands_within n i (wire.Or a b) l h = within_one n i a ((i, b) ∷ []) l h.0 (within_one n i b [] l h.1 (within_none n))
operands_within n i (wire.Xor a b) l h = within_one n i a ((i, b) ∷ []) l h.0 (within_one n i b [] l h.1 (within_none n))
operands_within n i (wire.Equal a b) l h = within_one n i a ((i, b) ∷ []) l h.0 (within_one n i b [] l h.1 (within_none n))
operands_within n i (wire.Is a k) l h = within_one n i a [] l h (within_none n)
operands_within n i (wire.If t a b) l h = within_one n i t ((i, a) ∷ (i, b) ∷ []) l h.0 (within_one n i a ((i, b) ∷ []) l h.1 (within_one n i b [] l h.2 (within_none n)))

wires_within : (n i : ℕ) (ws : List Wire) → i + length ws ≤ n → ((k : ℕ) → k < length ws → AtReads (λ a. a < n) (wire_at ws k)) → AreWithin n (wire_edges i ws)
wires_within n i [] l h = within_none n
wires_within n i (w ∷ ws) l h =
    within_both n (operand_edges i w) (wire_edges (suc i) ws)
    (operands_within n i w (omega (arith, l)) (h zero (omega arith)))
    (wires_within n (suc i) ws (omega (arith, l)) (λ k m. h (suc k) (omega (arith, m))))

pub edges_within : (c : Circuit) → IsCircuit c → AreWithin (length c.wires.items) (edges_of c.wires.items c.reads.items)
edges_within c is =
    let n = length c.wires.items in
    let e : length c.shapes.items ≡ n = is.shapes in
    within_both n (wire_edges 0 c.wires.items) c.reads.items
    (wires_within n 0 c.wires.items (omega arith) (λ k l. subst (λ m. AtReads (λ a. a < m) (wire_at c.wires.items k)) e
    (fits_reads c.slots.items c.shapes.items (shape_at c.shapes.items k) (wire_at c.wires.items k) (is.wires.fit k (omega (arith, e, l))))))
    is.reads
