-- Gates of numbers, one bit after another.
use Rattle.std.proofs.Common.{◌≡◌, ◌≤◌, ◌<◌, ℕ, zero, suc, ◌+◌, ◌-◌, List, [], ◌∷◌, ◌++◌, length, get_or, take, drop, refl, sym, ap, ap₂, ◌∙◌, arith, drop-cons}
use Rattle.std.proofs.lemmas.List.{take_more}
use Rattle.std.specs.Prelude.{Bool, true, false, if◌then◌else◌, not, nat_le}
use Rattle.std.specs.Prelude.{IfOk, Result, Ok, Err}
use Rattle.std.specs.declared.alloc.AllocError.{AllocError}
use Rattle.hp_boolx.specs.declared.gate.Gate.{Gate}
use Rattle.hp_boolx.specs.declared.gate.Gate.TheVariants.{Const, Var, Ite}
use Rattle.hp_boolx.specs.Search.{Bits}
use Rattle.hp_boolx.specs.Machine.{bit, gate_value, values}
use Rattle.hp_circuit.specs.Numbers.{pow2, to_bits, are_same, compared}
use Rattle.hp_circuit.specs.Adding.{at, row, word, HasFirst, Adds, AddsRow}
use Rattle.hp_circuit.proofs.NumberLaws.{tests, length_bits, le_true, le_false}
use Rattle.hp_circuit.proofs.AddingLaws.{keeps_all, keeps_both, fit_none, fit_both, row_more, row_goes}

-- ---- in a row

module _ (old b c : List Gate) (start i r : ℕ) where
  pub one_more : length b ≡ start + i → length c ≡ length b + 1 → length c ≡ start + (i + 1)
  one_more e f = omega (arith, e, f)

  pub variables_more : (place : ℕ) → AddsRow (place + i) old b start i (λ v. row v place i) → length b ≡ start + i → r ≡ length b → length c ≡ length b + 1
      → Adds (place + i + 1) b c r (λ v. gate_value v (values v [] b) (Var (place + i))) → AddsRow (place + (i + 1)) old c start (i + 1) (λ v. row v place (i + 1)) × (length c ≡ start + (i + 1))
  variables_more place before e f long one =
      (row_goes (place + i) (place + i + 1) (place + (i + 1)) old b c start i r (λ v. row v place i) (λ v. row v place (i + 1)) (λ v. bit v (place + i)) (omega arith) (omega arith) before (f ∙ e) one (λ v. row_more v i place), one_more e long)

  pub constants_more : (bits : Bits) → i < length bits → AddsRow 0 old b start i (λ v. take i bits) → length b ≡ start + i → r ≡ length b → length c ≡ length b + 1
      → Adds 0 b c r (λ v. gate_value v (values v [] b) (Const (get_or bits i false))) → AddsRow 0 old c start (i + 1) (λ v. take (i + 1) bits) × (length c ≡ start + (i + 1))
  constants_more bits l before e f long one =
      (row_goes 0 0 0 old b c start i r (λ v. take i bits) (λ v. take (i + 1) bits) (λ v. get_or bits i false) (omega arith) (omega arith) before (f ∙ e) one (λ v. take_more bits i false l), one_more e long)

  choice_more : (t x y : Bool) (xs ys : Bits) → (if t then xs ++ x ∷ [] else ys ++ y ∷ []) ≡ (if t then xs else ys) ++ (if t then x else y) ∷ []
  choice_more true x y xs ys = refl
  choice_more false x y xs ys = refl

  pub choices_more : (test a a' width : ℕ) → i < width → test < length old → a + width ≤ length old → a' + width ≤ length old
      → AddsRow 0 old b start i (λ v. if at old v test then word old v a i else word old v a' i) → length b ≡ start + i → r ≡ length b → length c ≡ length b + 1
      → Adds 0 b c r (λ v. gate_value v (values v [] b) (Ite test (a + i) (a' + i)))
      → AddsRow 0 old c start (i + 1) (λ v. if at old v test then word old v a (i + 1) else word old v a' (i + 1)) × (length c ≡ start + (i + 1))
  choices_more test a a' width l lt la lb before e f long one =
      let kept = before.keeps in
      let next : Bits → Bits = λ v. if at old v test then word old v a (i + 1) else word old v a' (i + 1) in
      let joined : (v : Bits) → next v ≡ (if at old v test then word old v a i else word old v a' i) ++ (if at b v test then at b v (a + i) else at b v (a' + i)) ∷ [] =
      λ v.
      ap₂ (λ (xs ys : Bits). if at old v test then xs else ys) (row_more (values v [] old) i a) (row_more (values v [] old) i a')
      ∙ choice_more (at old v test) (at old v (a + i)) (at old v (a' + i)) (word old v a i) (word old v a' i)
      ∙ ap (λ (x : Bool). (if at old v test then word old v a i else word old v a' i) ++ x ∷ [])
      (ap₂ (λ (x y : Bool). if at old v test then x else y) (sym (kept.kept v (a + i) (omega (arith, l, la)))) (sym (kept.kept v (a' + i) (omega (arith, l, lb))))
      ∙ ap (λ (t : Bool). if t then at b v (a + i) else at b v (a' + i)) (sym (kept.kept v test lt))) in
      (row_goes 0 0 0 old b c start i r (λ v. if at old v test then word old v a i else word old v a' i) next (λ v. if at b v test then at b v (a + i) else at b v (a' + i)) (omega arith) (omega arith) before (f ∙ e) one joined, one_more e long)

-- all of a row
pub row_end : (x y : ℕ) (old b : List Gate) (start i n : ℕ) (f g : Bits → Bits) → x ≤ y → i ≡ n → ((v : Bits) → f v ≡ g v) → AddsRow x old b start i f → AddsRow y old b start n g
row_end x y old b start i n f g l e same before =
    let there : start + i ≤ length b = before.there in
    record {
      keeps = before.keeps;
      there = omega (arith, there, e);
      value = λ v. ap (word b v start) (sym e) ∙ before.value v ∙ same v;
      fit = λ all m h. before.fit all (omega (arith, l, m)) h;
    }

-- ---- numbers of at most one bit

pub small_constant : (gates : List Gate) (width k : ℕ) → HasFirst gates → width ≤ 1 → k < pow2 width → AddsRow 0 gates gates k width (λ v. to_bits width k)
small_constant gates zero k h l m = record { keeps = keeps_all gates; there = (let t : 2 ≤ length gates = h.two in omega (arith, m, t)); value = λ v. refl; fit = fit_none 0 gates }
small_constant gates (suc zero) k h l m =
    let t : 2 ≤ length gates = h.two in
    tests (nat_le 1 k)
    (λ u.
    let e : k ≡ 1 = (let x = le_true 1 k u in omega (arith, m, x)) in
    record {
      keeps = keeps_all gates;
      there = omega (arith, t, m);
      value = λ v. ap (λ (x : Bool). x ∷ []) (ap (at gates v) e ∙ h.high v ∙ sym u);
      fit = fit_none 0 gates;
    })
    (λ u.
    let e : k ≡ 0 = (let x = le_false 1 k u in omega (arith, m, x)) in
    record {
      keeps = keeps_all gates;
      there = omega (arith, t, m);
      value = λ v. ap (λ (x : Bool). x ∷ []) (ap (at gates v) e ∙ h.low v ∙ sym u);
      fit = fit_none 0 gates;
    })
small_constant gates (suc (suc width)) k h l m = absurd (omega (arith, l))

-- ---- from the end

-- the row from the bit before
row_from : (bs : Bits) (a i width : ℕ) → i < width → row bs (a + i) (width - i) ≡ bit bs (a + i) ∷ row bs (a + (i + 1)) (width - (i + 1))
row_from bs a i width l =
    ap (row bs (a + i)) (let e : width - i ≡ suc (width - (i + 1)) = omega (arith, l) in e)
    ∙ ap (λ n. bit bs (a + i) ∷ row bs n (width - (i + 1))) (let e : suc (a + i) ≡ a + (i + 1) = omega arith in e)

module _ (old b c : List Gate) (a i j found r : ℕ) where
  pub same_more : (a' width : ℕ) → j ≡ i + 1 → i < width → a + width ≤ length old → a' + width ≤ length old
      → Adds 0 old b found (λ v. are_same (word old v (a + j) (width - j)) (word old v (a' + j) (width - j)))
      → Adds 0 b c r (λ v. if (if at b v (a + i) then not (at b v (a' + i)) else at b v (a' + i)) then false else at b v found)
      → Adds 0 old c r (λ v. are_same (word old v (a + i) (width - i)) (word old v (a' + i) (width - i)))
  same_more a' width e l la lb before one =
      let kept = before.keeps in
      record {
        keeps = keeps_both old b c kept one.keeps;
        there = one.there;
        fit = fit_both 0 0 0 old b c (omega arith) (omega arith) before.fit one.fit;
        value = λ v.
            one.value v
            ∙ ap₂ (λ (x y : Bool). if (if x then not y else y) then false else at b v found) (kept.kept v (a + i) (omega (arith, l, la))) (kept.kept v (a' + i) (omega (arith, l, lb)))
            ∙ ap (λ (x : Bool). if (if at old v (a + i) then not (at old v (a' + i)) else at old v (a' + i)) then false else x)
            (before.value v ∙ ap (λ n. are_same (word old v (a + n) (width - n)) (word old v (a' + n) (width - n))) e)
            ∙ sym (ap₂ are_same (row_from (values v [] old) a i width l) (row_from (values v [] old) a' i width l));
      }

  pub compared_more : (bits : Bits) (less equal : ℕ) → j ≡ i + 1 → i < length bits → a + length bits ≤ length old → less < length old
      → Adds 0 old b found (λ v. compared (at old v less) (at old v equal) (word old v (a + j) (length bits - j)) (drop j bits))
      → Adds 0 b c r (λ v. if get_or bits i false then (if at b v (a + i) then at b v found else at b v less) else (if at b v (a + i) then false else at b v found))
      → Adds 0 old c r (λ v. compared (at old v less) (at old v equal) (word old v (a + i) (length bits - i)) (drop i bits))
  compared_more bits less equal e l la ll before one =
      let kept = before.keeps in
      let n = get_or bits i false in
      let rest : Bits → Bool = λ v. compared (at old v less) (at old v equal) (word old v (a + (i + 1)) (length bits - (i + 1))) (drop (i + 1) bits) in
      record {
        keeps = keeps_both old b c kept one.keeps;
        there = one.there;
        fit = fit_both 0 0 0 old b c (omega arith) (omega arith) before.fit one.fit;
        value = λ v.
            one.value v
            ∙ ap₂ (λ (x y : Bool). if n then (if x then at b v found else y) else (if x then false else at b v found)) (kept.kept v (a + i) (omega (arith, l, la))) (kept.kept v less ll)
            ∙ ap (λ (x : Bool). if n then (if at old v (a + i) then x else at old v less) else (if at old v (a + i) then false else x))
            (before.value v ∙ ap (λ n. compared (at old v less) (at old v equal) (word old v (a + n) (length bits - n)) (drop n bits)) e)
            ∙ sym (ap₂ (compared (at old v less) (at old v equal)) (row_from (values v [] old) a i (length bits) l) (dropped bits i l));
      }
    where
      dropped : (xs : Bits) (i : ℕ) → i < length xs → drop i xs ≡ get_or xs i false ∷ drop (i + 1) xs
      dropped xs i l = drop-cons xs i false l ∙ ap (λ n. get_or xs i false ∷ drop n xs) (let e : suc i ≡ i + 1 = omega arith in e)

-- ---- constants

pub constant_of : (old new : List Gate) (width k : ℕ) (bits : Bits) (result : Result ℕ AllocError) → bits ≡ to_bits width k
    → IfOk result (λ r. AddsRow 0 old new r (length bits) (λ v. bits)) → IfOk result (λ r. AddsRow 0 old new r width (λ v. to_bits width k))
constant_of old new width k bits (Ok r) e h = row_end 0 0 old new r (length bits) width (λ v. bits) (λ v. to_bits width k) (omega arith) (ap length e ∙ length_bits width k) (λ v. e) h
constant_of old new width k bits (Err x) e h = tt

pub compared_number : (old new : List Gate) (a width k less equal : ℕ) (bits : Bits) (result : Result ℕ AllocError) → bits ≡ to_bits width k
    → IfOk result (λ r. Adds 0 old new r (λ v. compared (at old v less) (at old v equal) (word old v a (length bits)) bits))
    → IfOk result (λ r. Adds 0 old new r (λ v. compared (at old v less) (at old v equal) (word old v a width) (to_bits width k)))
compared_number old new a width k less equal bits (Ok r) e h = record {
  keeps = h.keeps;
  there = h.there;
  fit = h.fit;
  value = λ v. h.value v ∙ ap₂ (λ n (b : Bits). compared (at old v less) (at old v equal) (word old v a n) b) (ap length e ∙ length_bits width k) e;
}
compared_number old new a width k less equal bits (Err x) e h = tt
