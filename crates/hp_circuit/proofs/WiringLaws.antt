-- Gates that are made are those of the definition, one after another.
use Rattle.std.proofs.Common.{◌≡◌, ◌<◌, ℕ, zero, suc, ◌+◌, ◌-◌, List, [], ◌∷◌, ◌++◌, length, map, get_or, set, take, drop, refl, sym, ap, ap₂, ◌∙◌, arith, drop-cons}
use Rattle.std.specs.Prelude.{Option, Some, Bool, false, slice_index_or}
use Rattle.std.specs.List.{range_with_len}
use Rattle.std.proofs.lemmas.List.{append_assoc, drop_all, get_or-map, take_more}
use Rattle.std.proofs.lemmas.List.FromFn.{get_or-range_with_len, length-map-range_with_len, length-range_with_len}
use Rattle.hp_boolx.specs.declared.gate.Gate.{Gate}
use Rattle.hp_boolx.specs.declared.gate.Gate.TheVariants.{Const, Var, Ite}
use Rattle.hp_boolx.specs.Search.{Bits}
use Rattle.hp_circuit.specs.declared.circuit.Shape.{Shape}
use Rattle.hp_circuit.specs.declared.circuit.Slot.{Slot}
use Rattle.hp_circuit.specs.declared.circuit.Wire.{Wire}
use Rattle.hp_circuit.specs.Building.{places_of}
use Rattle.hp_circuit.specs.Forms.{no_slot, shape_at, slot_at, wire_at}
use Rattle.hp_circuit.specs.Kinds.{place_of}
use Rattle.hp_circuit.specs.Making.{compared_width, moved, or_zero, place_at, start_at}
use Rattle.hp_circuit.specs.Shapes.{shape_width}
use Rattle.hp_circuit.specs.Wiring.{Numbered, Wired, choice_gates, constant_gates, variable_gates, with_all, with_and, with_compared, with_compared_bit, with_gate, with_same, with_same_bit, with_valid, with_valid_role, with_wire, wire_made}

-- ---- rows

variable_last : (place i : ℕ) → variable_gates place (suc i) ≡ variable_gates place i ++ Var (place + i) ∷ []
variable_last place zero = ap (λ x. Var x ∷ []) (let e : place ≡ place + 0 = omega arith in e)
variable_last place (suc i) =
    ap (λ (gs : List Gate). Var place ∷ gs)
    (variable_last (place + 1) i ∙ ap (λ x. variable_gates (place + 1) i ++ Var x ∷ []) (let e : place + 1 + i ≡ place + suc i = omega arith in e))

choice_last : (t a b i : ℕ) → choice_gates t a b (suc i) ≡ choice_gates t a b i ++ Ite t (a + i) (b + i) ∷ []
choice_last t a b zero = ap₂ (λ x y. Ite t x y ∷ []) (let e : a ≡ a + 0 = omega arith in e) (let e : b ≡ b + 0 = omega arith in e)
choice_last t a b (suc i) =
    ap (λ (gs : List Gate). Ite t a b ∷ gs)
    (choice_last t (a + 1) (b + 1) i
    ∙ ap₂ (λ x y. choice_gates t (a + 1) (b + 1) i ++ Ite t x y ∷ []) (let e : a + 1 + i ≡ a + suc i = omega arith in e) (let e : b + 1 + i ≡ b + suc i = omega arith in e))

constant_both : (xs ys : Bits) → constant_gates (xs ++ ys) ≡ constant_gates xs ++ constant_gates ys
constant_both [] ys = refl
constant_both (x ∷ xs) ys = ap (λ (gs : List Gate). Const x ∷ gs) (constant_both xs ys)

-- one more gate behind a row
module _ (old b c : List Gate) (i r : ℕ) where
  row_next : (row more : List Gate) (g : Gate) → more ≡ row ++ g ∷ [] → b ≡ old ++ row → (c, r) ≡ with_gate b g → c ≡ old ++ more
  row_next row more g e before one =
      ap (λ (p : Numbered). p.0) one ∙ ap (λ (gs : List Gate). gs ++ g ∷ []) before ∙ append_assoc old row (g ∷ []) ∙ ap (λ (gs : List Gate). old ++ gs) (sym e)

  pub variables_made : (place : ℕ) → b ≡ old ++ variable_gates place i → (c, r) ≡ with_gate b (Var (place + i)) → c ≡ old ++ variable_gates place (i + 1)
  variables_made place =
      row_next (variable_gates place i) (variable_gates place (i + 1)) (Var (place + i)) (ap (variable_gates place) (let e : i + 1 ≡ suc i = omega arith in e) ∙ variable_last place i)

  pub constants_made : (bits : Bits) → i < length bits → b ≡ old ++ constant_gates (take i bits) → (c, r) ≡ with_gate b (Const (get_or bits i false)) → c ≡ old ++ constant_gates (take (i + 1) bits)
  constants_made bits l =
      row_next (constant_gates (take i bits)) (constant_gates (take (i + 1) bits)) (Const (get_or bits i false)) (ap constant_gates (take_more bits i false l) ∙ constant_both (take i bits) (get_or bits i false ∷ []))

  pub choices_made : (t x y : ℕ) → b ≡ old ++ choice_gates t x y i → (c, r) ≡ with_gate b (Ite t (x + i) (y + i)) → c ≡ old ++ choice_gates t x y (i + 1)
  choices_made t x y =
      row_next (choice_gates t x y i) (choice_gates t x y (i + 1)) (Ite t (x + i) (y + i)) (ap (choice_gates t x y) (let e : i + 1 ≡ suc i = omega arith in e) ∙ choice_last t x y i)

-- all of a row
pub row_made : (old b row all : List Gate) (start : ℕ) → b ≡ old ++ row → row ≡ all → start ≡ length old → ◌≡◌ {A = Numbered} (b, start) (old ++ all, length old)
row_made old b row all start e f g = λ j. ((e ∙ ap (λ (gs : List Gate). old ++ gs) f) j, g j)

-- ---- from the end

pub same_made : (old b c : List Gate) (x y width i j found r : ℕ) → j ≡ i + 1 → i < width → (b, found) ≡ with_same old (x + j) (y + j) (width - j) → (c, r) ≡ with_same_bit (x + i) (y + i) (b, found)
    → (c, r) ≡ with_same old (x + i) (y + i) (width - i)
same_made old b c x y width i j found r e l before one =
    one
    ∙ ap (with_same_bit (x + i) (y + i)) (before ∙ ap₂ (λ p q. with_same old p q (width - j)) (let f : x + j ≡ x + i + 1 = omega (arith, e) in f) (let f : y + j ≡ y + i + 1 = omega (arith, e) in f))
    ∙ ap (with_same old (x + i) (y + i)) (let f : suc (width - j) ≡ width - i = omega (arith, e, l) in f)

dropped : (xs : Bits) (i : ℕ) → i < length xs → drop i xs ≡ get_or xs i false ∷ drop (i + 1) xs
dropped xs i l = drop-cons xs i false l ∙ ap (λ n. get_or xs i false ∷ drop n xs) (let e : suc i ≡ i + 1 = omega arith in e)

pub compared_made : (old b c : List Gate) (x : ℕ) (bits : Bits) (less equal i j found r : ℕ) → j ≡ i + 1 → i < length bits → (b, found) ≡ with_compared old (x + j) (drop j bits) less equal
    → (c, r) ≡ with_compared_bit (x + i) (get_or bits i false) less (b, found) → (c, r) ≡ with_compared old (x + i) (drop i bits) less equal
compared_made old b c x bits less equal i j found r e l before one =
    one
    ∙ ap (with_compared_bit (x + i) (get_or bits i false) less)
    (before ∙ ap₂ (λ p (ns : Bits). with_compared old p ns less equal) (let f : x + j ≡ x + i + 1 = omega (arith, e) in f) (ap (λ n. drop n bits) e))
    ∙ ap (λ (ns : Bits). with_compared old (x + i) ns less equal) (sym (dropped bits i l))

-- ---- all wires

module _ (wires : List Wire) (shapes : List Shape) (places : List ℕ) where
  pub all_next : (w : Wired) (new : List Gate) (starts : List (Option ℕ)) (order : List (ℕ × ℕ)) (i r : ℕ) → i < length order → (new, r) ≡ wire_made wires shapes places w (get_or order i (0, 0)).1
      → starts ≡ set w.starts (get_or order i (0, 0)).1 (Some r) → with_all wires shapes places (record { gates = new; starts = starts }) (drop (i + 1) order) ≡ with_all wires shapes places w (drop i order)
  all_next w new starts order i r l one put =
      let at = (get_or order i (0, 0)).1 in
      ap (λ (z : Wired). with_all wires shapes places z (drop (i + 1) order)) (λ j. record { gates = (one j).0; starts = (put ∙ ap (λ (p : Numbered). set w.starts at (Some p.1)) one) j })
      ∙ sym (ap (with_all wires shapes places w) (drop-cons order i (0, 0) l ∙ ap (λ n. get_or order i (0, 0) ∷ drop n order) (let e : suc i ≡ i + 1 = omega arith in e)))

-- ---- valid codes

pub valid_next : (starts : List ℕ) (b c d : List Gate) (found one r : ℕ) (slots : List Slot) (i : ℕ) → i < length slots
    → (c, one) ≡ with_valid_role b (slot_at slots i).role (slot_at slots i).shape (place_at starts (slot_at slots i).wire) → (d, r) ≡ with_and c found one
    → with_valid starts (d, r) (drop (i + 1) slots) ≡ with_valid starts (b, found) (drop i slots)
valid_next starts b c d found one r slots i l made both =
    ap (λ (p : Numbered). with_valid starts p (drop (i + 1) slots)) (both ∙ ap (λ (p : Numbered). with_and p.0 found p.1) made)
    ∙ sym (ap (with_valid starts (b, found)) (drop-cons slots i no_slot l ∙ ap (λ n. slot_at slots i ∷ drop n slots) (let e : suc i ≡ i + 1 = omega arith in e)))

-- ---- lists, element by element

same_each : (xs ys : List ℕ) → length xs ≡ length ys → ((i : ℕ) → i < length xs → get_or xs i 0 ≡ get_or ys i 0) → xs ≡ ys
same_each [] [] e h = refl
same_each [] (y ∷ ys) e h = absurd (omega (arith, e))
same_each (x ∷ xs) [] e h = absurd (omega (arith, e))
same_each (x ∷ xs) (y ∷ ys) e h = ap₂ (λ (a : ℕ) rest. a ∷ rest) (h 0 (omega arith)) (same_each xs ys (omega (arith, e)) (λ i l. h (suc i) (omega (arith, l))))

-- the first variables of slots are these
pub places_are : (steered : List Bool) (slots : List Slot) (places : List ℕ) → length places ≡ length slots → ((i : ℕ) → i < length slots → place_at places i ≡ place_of steered slots i) → places ≡ places_of steered slots
places_are steered slots places many each =
    let f : ℕ → ℕ = place_of steered slots in
    let long : length (range_with_len 0 (length slots)) ≡ length slots = length-range_with_len 0 (length slots) in
    same_each places (places_of steered slots) (many ∙ sym (length-map-range_with_len f 0 (length slots))) (λ i l.
    let there : i < length slots = omega (arith, l, many) in
    each i there
    ∙ ap f (let e : i ≡ 0 + i = omega arith in e)
    ∙ ap f (sym (get_or-range_with_len 0 (length slots) i 0 there))
    ∙ sym (get_or-map f (range_with_len 0 (length slots)) i 0 0 (omega (arith, there, long))))

-- the first gates of wires, where each has some
pub starts_are : (made : List (Option ℕ)) (all : List ℕ) → length all ≡ length made → ((w : ℕ) → w < length made → start_at made w ≡ Some (slice_index_or all w 0)) → all ≡ map or_zero made
starts_are [] [] e h = refl
starts_are [] (s ∷ all) e h = absurd (omega (arith, e))
starts_are (o ∷ made) [] e h = absurd (omega (arith, e))
starts_are (o ∷ made) (s ∷ all) e h = ap₂ (λ (a : ℕ) rest. a ∷ rest) (sym (ap or_zero (h 0 (omega arith)))) (starts_are made all (omega (arith, e)) (λ w l. h (suc w) (omega (arith, l))))

-- a wire that reads gates has those of the definition
pub wire_is : (wires : List Wire) (shapes : List Shape) (places : List ℕ) (old : List Gate) (starts : List (Option ℕ)) (i width many : ℕ) (w placed : Wire) → w ≡ wire_at wires i → width ≡ shape_width (shape_at shapes i)
    → many ≡ compared_width shapes w → placed ≡ moved (λ a. or_zero (start_at starts a)) w → with_wire places old width many placed ≡ wire_made wires shapes places (record { gates = old; starts = starts }) i
wire_is wires shapes places old starts i width many w placed ew ewidth emany eplaced =
    λ j. with_wire places old (ewidth j) ((emany ∙ ap (compared_width shapes) ew) j) ((eplaced ∙ ap (moved (λ a. or_zero (start_at starts a))) ew) j)

pub all_wired : (wires : List Wire) (shapes : List Shape) (places : List ℕ) (w all : Wired) (order : List (ℕ × ℕ)) (i : ℕ) → i ≡ length order → with_all wires shapes places w (drop i order) ≡ all → w ≡ all
all_wired wires shapes places w all order i e h = sym (ap (with_all wires shapes places w) (drop_all i order (omega (arith, e)))) ∙ h

pub all_valid_made : (starts : List ℕ) (found all : Numbered) (slots : List Slot) (i : ℕ) → i ≡ length slots → with_valid starts found (drop i slots) ≡ all → found ≡ all
all_valid_made starts found all slots i e h = sym (ap (with_valid starts found) (drop_all i slots (omega (arith, e)))) ∙ h
