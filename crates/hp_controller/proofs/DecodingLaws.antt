-- The value of a code.
use Rattle.std.proofs.Common.{◌≡◌, ℕ, suc, ◌+◌, ◌*◌, ◌<◌, Bool, true, false, if◌then◌else◌, List, [], ◌∷◌, ◌++◌, length, refl, ap, ◌∙◌, arith, ◌≤◌, map, take, drop, subst, zero, sym, ap₂}
use Rattle.std.specs.List.{AllByRecursion, range_with_len}
use Rattle.std.proofs.lemmas.List.{get_or-drop}
use Rattle.hp_base.specs.declared.value.Value.TheVariants.{B}
use Rattle.hp_boolx.specs.Machine.{bit}
use Rattle.hp_boolx.specs.Search.{Bits}
use Rattle.hp_circuit.specs.Numbers.{number, pow2}
use Rattle.hp_obc.specs.Values.{ternary}
use Rattle.hp_obc.specs.declared.command.ObcOp.TheVariants.{Copy, Mux}
use Rattle.hp_flat.specs.declared.equation.Atom.TheVariants.{Variable as Read}
use Rattle.law_equations.specs.Meaning.Instants.{Instant, atom}
use Rattle.law_equations.specs.Meaning.Reactions.{Answers, Holds}
use Rattle.hp_controller.specs.Controllers.{equation}
use Rattle.hp_controller.specs.declared.decoding.Control.{Control}
use Rattle.hp_controller.specs.declared.decoding.ControlKind.{ControlKind}
use Rattle.hp_controller.specs.declared.decoding.ControlKind.TheVariants.{Truth, Constructor}
use Rattle.hp_controller.specs.Decoding.{value_of, tree, DecodedLaw, control_eqns, controls_eqns, value_by, values_by, total_width, HasBits, ControlsLaw}
use Rattle.hp_controller.proofs.ControllerLaws.{first_of, in_front, behind}

-- a code, bit by bit behind another one
code_behind : ℕ → Bits → ℕ
code_behind k [] = k
code_behind k (c ∷ bits) = code_behind (if c then k + k + 1 else k + k) bits

doubled : (k p : ℕ) → (k + k) * p ≡ k * (p + p)
doubled k p = grind (arith)

doubled_one : (k p : ℕ) → (k + k + 1) * p ≡ k * (p + p) + p
doubled_one k p = grind (arith)

code_is : (k : ℕ) (bits : Bits) → code_behind k bits ≡ k * pow2 (length bits) + number bits
unfolding code_behind
code_is k [] = grind (arith)
code_is k (true ∷ bits) =
    let more = doubled_one k (pow2 (length bits)) in
    let rest = code_is (k + k + 1) bits in
    omega (arith, more, rest)
code_is k (false ∷ bits) =
    let more = doubled k (pow2 (length bits)) in
    let rest = code_is (k + k) bits in
    omega (arith, more, rest)

picked : (c : Bool) (t count : ℕ) (k : ℕ) (bits : Bits) → (if c then value_of t count (code_behind (k + k + 1) bits) else value_of t count (code_behind (k + k) bits)) ≡ value_of t count (code_behind k (c ∷ bits))
unfolding code_behind
picked true t count k bits = refl
picked false t count k bits = refl

module _ (answers : Answers) (past : List Instant) (now : Instant) (t count : ℕ) where
  decoded : (bits : Bits) (b k next : ℕ) → AllByRecursion (Holds answers past now) (tree t count b (length bits) k next).eqns → ((i : ℕ) → i < length bits → now (b + i) ≡ B (bit bits i)) → atom now (tree t count b (length bits) k next).atom ≡ value_of t count (code_behind k bits)
  unfolding code_behind
  decoded [] b k next hs is = refl
  decoded (c ∷ bits) b k next hs is =
      let w = length bits in
      let high = tree t count (b + 1) w (k + k + 1) next in
      let low = tree t count (b + 1) w (k + k) high.next in
      let root = equation 0 low.next Mux (Read b ∷ high.atom ∷ low.atom ∷ []) in
      let upper = in_front (Holds answers past now) high.eqns (low.eqns ++ root ∷ []) hs in
      let others = behind (Holds answers past now) high.eqns (low.eqns ++ root ∷ []) hs in
      let lower = in_front (Holds answers past now) low.eqns (root ∷ []) others in
      let here = behind (Holds answers past now) low.eqns (root ∷ []) others in
      let rest = λ (i : ℕ) (l : i < w). let same : (b + 1) + i ≡ b + suc i = omega arith in ap now same ∙ is (suc i) (omega (arith, l)) in
      let start : b ≡ b + 0 = omega arith in
      let first : now b ≡ B c = ap now start ∙ is 0 (omega arith) in
      ap first_of (here.0 refl)
      ∙ (λ j. ternary Mux (first j) (decoded bits (b + 1) (k + k + 1) next upper rest j) (decoded bits (b + 1) (k + k) high.next lower rest j))
      ∙ picked c t count k bits

pub decoded_law : DecodedLaw
decoded_law answers past now t count b next bits hs is =
    let all = code_is 0 bits in
    let none : 0 * pow2 (length bits) ≡ 0 = grind (arith) in
    let same : code_behind 0 bits ≡ number bits = omega (arith, all, none) in
    decoded answers past now t count bits b 0 next hs is ∙ ap (value_of t count) same

-- ---- control variables

bit_taken : (w : ℕ) (bits : Bits) (i : ℕ) → i < w → bit (take w bits) i ≡ bit bits i
bit_taken zero bits i h = absurd (omega (arith, h))
bit_taken (suc w) [] i h = refl
bit_taken (suc w) (b ∷ bits) zero h = refl
bit_taken (suc w) (b ∷ bits) (suc i) h = bit_taken w bits i (omega (arith, h))

many_taken : (w : ℕ) (bits : Bits) → w ≤ length bits → length (take w bits) ≡ w
many_taken zero bits h = refl
many_taken (suc w) [] h = absurd (omega (arith, h))
many_taken (suc w) (b ∷ bits) h = ap suc (many_taken w bits (omega (arith, h)))

many_left : (w k : ℕ) (bits : Bits) → length bits ≡ w + k → length (drop w bits) ≡ k
many_left zero k bits h = let none : 0 + k ≡ k = omega arith in h ∙ none
many_left (suc w) k [] h = absurd (omega (arith, h))
many_left (suc w) k (b ∷ bits) h = many_left w k bits (omega (arith, h))

module _ (answers : Answers) (past : List Instant) (now : Instant) where
  one_decoded : (target b next : ℕ) (k : ControlKind) (width : ℕ) (bits : Bits) → HasBits k width → width ≤ length bits → AllByRecursion (Holds answers past now) (control_eqns target b next width k).eqns → ((i : ℕ) → i < length bits → now (b + i) ≡ B (bit bits i))
      → now target ≡ value_by k (take width bits)
  one_decoded target b next Truth width bits one w hs is =
      let start : b ≡ b + 0 = omega arith in
      ap first_of (hs.0 refl) ∙ ap now start ∙ is 0 (omega (arith, one, w)) ∙ ap B (sym (bit_taken width bits 0 (omega (arith, one))))
  one_decoded target b next (Constructor e) width bits one w hs is =
      let value = tree e.number e.constructors b width 0 next in
      let copy = equation 0 target Copy (value.atom ∷ []) in
      let size = many_taken width bits w in
      let front = in_front (Holds answers past now) value.eqns (copy ∷ []) hs in
      let last = behind (Holds answers past now) value.eqns (copy ∷ []) hs in
      let bits_are = λ (i : ℕ) (l : i < length (take width bits)). is i (omega (arith, l, size, w)) ∙ ap B (sym (bit_taken width bits i (omega (arith, l, size)))) in
      let told =
      decoded_law answers past now e.number e.constructors b next (take width bits) (subst (λ n. AllByRecursion (Holds answers past now) (tree e.number e.constructors b n 0 next).eqns) (sym size) front) bits_are in
      ap first_of (last.0 refl) ∙ ap (λ n. atom now (tree e.number e.constructors b n 0 next).atom) (sym size) ∙ told

  all_decoded : (target b next : ℕ) (controls : List Control) (bits : Bits) → AllByRecursion (λ (c : Control). HasBits c.kind c.width) controls → length bits ≡ total_width controls
      → AllByRecursion (Holds answers past now) (controls_eqns target b next controls).eqns → ((i : ℕ) → i < length bits → now (b + i) ≡ B (bit bits i)) → map now (range_with_len target (length controls)) ≡ values_by controls bits
  all_decoded target b next [] bits ones size hs is = refl
  all_decoded target b next (c ∷ cs) bits ones size hs is =
      let one = control_eqns target b next c.width c.kind in
      let rest = controls_eqns (target + 1) (b + c.width) one.next cs in
      let left = many_left c.width (total_width cs) bits size in
      ap₂ (λ v vs. v ∷ vs) (one_decoded target b next c.kind c.width bits ones.0 (omega (arith, size)) (in_front (Holds answers past now) one.eqns rest.eqns hs) is)
      (all_decoded (target + 1) (b + c.width) one.next cs (drop c.width bits) ones.1 left (behind (Holds answers past now) one.eqns rest.eqns hs)
      (λ i l. let same : (b + c.width) + i ≡ b + (c.width + i) = omega arith in ap now same ∙ is (c.width + i) (omega (arith, l, left, size)) ∙ ap B (sym (get_or-drop c.width bits i false))))

pub controls_law : ControlsLaw
controls_law answers past now target b next controls bits ones size hs is = all_decoded answers past now target b next controls bits ones size hs is
