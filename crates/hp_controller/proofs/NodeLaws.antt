-- Equations that are added one by one.
use Rattle.std.proofs.Common.{◌≡◌, ℕ, zero, suc, ◌+◌, ◌<◌, ◌≤◌, get_or, length, map, drop, List, [], ◌∷◌, ◌++◌, sym, ap, ◌∙◌, arith, ◌⊎◌, inl, inr, Bool, min, ap₂, refl}
use Rattle.std.specs.List.{range_with_len}
use Rattle.std.proofs.lemmas.List.{append_assoc, append-nil, drop_more, drop_all}
use Rattle.std.proofs.lemmas.List.FromFn.{map-range_with_len_more}
use Rattle.hp_boolx.specs.declared.gate.Gate.{Gate}
use Rattle.hp_flat.specs.Equations.{FlatEqn}
use Rattle.hp_quant.specs.declared.line.Line.{Line}
use Rattle.hp_controller.specs.Gates.{gate_at, gate_op, gate_args, gate_eqns}
use Rattle.hp_flat.specs.declared.node.FlatTy.TheVariants.{Bool as Truth}
use Rattle.hp_flat.specs.declared.node.Variable.{Variable}
use Rattle.hp_controller.specs.declared.decoding.Control.{Control}
use Rattle.hp_controller.specs.Decoding.{control_eqns, controls_eqns}
use Rattle.hp_controller.specs.Steps.{register_eqn, register_eqns}
use Rattle.hp_controller.proofs.ControllerLaws.{split_at}
use Rattle.hp_controller.specs.Controllers.{equation, added_variable, bit_variable, line_eqn, line_eqns, output_eqn, output_eqns}

drop-next : {A : Type 0} (xs : List A) (i : ℕ) (x : A) → i < length xs → x ≡ get_or xs i x → drop i xs ≡ x ∷ drop (i + 1) xs
drop-next xs i x h p = drop_more xs i x h ∙ ap (λ y. y ∷ drop (i + 1) xs) (sym p)

pub lines-next : (es : List FlatEqn) (inputs : ℕ) (ls : List Line) (i : ℕ) (l : Line) → i < length ls → l ≡ get_or ls i l
    → (es ++ line_eqn inputs i l ∷ []) ++ line_eqns inputs (i + 1) (drop (i + 1) ls) ≡ es ++ line_eqns inputs i (drop i ls)
lines-next es inputs ls i l h p =
    append_assoc es (line_eqn inputs i l ∷ []) (line_eqns inputs (i + 1) (drop (i + 1) ls)) ∙ ap (λ rest. es ++ line_eqns inputs i rest) (sym (drop-next ls i l h p))

pub outputs-next : (es : List FlatEqn) (inputs lines : ℕ) (ns : List ℕ) (i n : ℕ) → i < length ns → n ≡ get_or ns i n
    → (es ++ output_eqn inputs lines (lines + i) n ∷ []) ++ output_eqns inputs lines (lines + (i + 1)) (drop (i + 1) ns) ≡ es ++ output_eqns inputs lines (lines + i) (drop i ns)
outputs-next es inputs lines ns i n h p =
    let same : lines + (i + 1) ≡ (lines + i) + 1 = omega arith in
    append_assoc es (output_eqn inputs lines (lines + i) n ∷ []) (output_eqns inputs lines (lines + (i + 1)) (drop (i + 1) ns))
    ∙ ap (λ j. es ++ output_eqn inputs lines (lines + i) n ∷ output_eqns inputs lines j (drop (i + 1) ns)) same
    ∙ ap (λ rest. es ++ output_eqns inputs lines (lines + i) rest) (sym (drop-next ns i n h p))

pub lines-end : (es : List FlatEqn) (inputs : ℕ) (ls : List Line) (i : ℕ) → length ls ≤ i → es ++ line_eqns inputs i (drop i ls) ≡ es
lines-end es inputs ls i h = ap (λ rest. es ++ line_eqns inputs i rest) (drop_all i ls h) ∙ append-nil es

pub outputs-end : (es : List FlatEqn) (inputs lines : ℕ) (ns : List ℕ) (i : ℕ) → length ns ≤ i → es ++ output_eqns inputs lines (lines + i) (drop i ns) ≡ es
outputs-end es inputs lines ns i h = ap (λ rest. es ++ output_eqns inputs lines (lines + i) rest) (drop_all i ns h) ∙ append-nil es

range-suc : (a n : ℕ) → range_with_len a (suc n) ≡ range_with_len a n ++ (a + n) ∷ []
range-suc a zero = let same : a ≡ a + 0 = omega arith in ap (λ b. b ∷ []) same
range-suc a (suc n) = let same : (a + 1) + n ≡ a + suc n = omega arith in ap (λ xs. a ∷ xs) (range-suc (a + 1) n ∙ ap (λ b. range_with_len (a + 1) n ++ b ∷ []) same)

-- numbers from one on, and the next one
pub range-next : (a n : ℕ) → range_with_len a (n + 1) ≡ range_with_len a n ++ (a + n) ∷ []
range-next a n = let one : n + 1 ≡ suc n = omega arith in ap (range_with_len a) one ∙ range-suc a n

pub gates-next : (es : List FlatEqn) (places : List ℕ) (first : ℕ) (gs : List Gate) (i : ℕ) (g : Gate) → i < length gs → g ≡ get_or gs i g
    → (es ++ equation i (first + i) (gate_op g) (gate_args places first i g) ∷ []) ++ gate_eqns places first (i + 1) (drop (i + 1) gs) ≡ es ++ gate_eqns places first i (drop i gs)
gates-next es places first gs i g h p =
    append_assoc es (equation i (first + i) (gate_op g) (gate_args places first i g) ∷ []) (gate_eqns places first (i + 1) (drop (i + 1) gs)) ∙ ap (λ rest. es ++ gate_eqns places first i rest) (sym (drop-next gs i g h p))

pub gates-end : (es : List FlatEqn) (places : List ℕ) (first : ℕ) (gs : List Gate) (i : ℕ) → length gs ≤ i → es ++ gate_eqns places first i (drop i gs) ≡ es
gates-end es places first gs i h = ap (λ rest. es ++ gate_eqns places first i rest) (drop_all i gs h) ∙ append-nil es

-- registers, one by one
pub registers-next : (es : List FlatEqn) (first gates count : ℕ) (init : List Bool) (next : List ℕ) (i : ℕ) (b : Bool) (n : ℕ) → i < length init → b ≡ get_or init i b → i < length next → n ≡ get_or next i n
    → (es ++ register_eqn (first + i) b (gate_at gates count n) ∷ []) ++ register_eqns (first + (i + 1)) gates count (drop (i + 1) init) (drop (i + 1) next) ≡ es ++ register_eqns (first + i) gates count (drop i init) (drop i next)
registers-next es first gates count init next i b n h p k q =
    let same : first + (i + 1) ≡ (first + i) + 1 = omega arith in
    append_assoc es (register_eqn (first + i) b (gate_at gates count n) ∷ []) (register_eqns (first + (i + 1)) gates count (drop (i + 1) init) (drop (i + 1) next))
    ∙ ap (λ j. es ++ register_eqn (first + i) b (gate_at gates count n) ∷ register_eqns j gates count (drop (i + 1) init) (drop (i + 1) next)) same
    ∙ ap₂ (λ bs ns. es ++ register_eqns (first + i) gates count bs ns) (sym (drop-next init i b h p)) (sym (drop-next next i n k q))

none_left : (first gates count : ℕ) (init : List Bool) (next : List ℕ) → (length init ≡ 0) ⊎ (length next ≡ 0) → register_eqns first gates count init next ≡ []
none_left first gates count [] next h = refl
none_left first gates count (b ∷ init) [] h = refl
none_left first gates count (b ∷ init) (n ∷ next) (inl h) = absurd (omega (arith, h))
none_left first gates count (b ∷ init) (n ∷ next) (inr h) = absurd (omega (arith, h))

pub registers-end : (es : List FlatEqn) (first gates count : ℕ) (init : List Bool) (next : List ℕ) (i : ℕ) → min (length init) (length next) ≤ i → es ++ register_eqns (first + i) gates count (drop i init) (drop i next) ≡ es
registers-end es first gates count init next i h = ap (λ rest. es ++ rest) (none_left (first + i) gates count (drop i init) (drop i next) (by (split_at i (length init)))) ∙ append-nil es
  where
    by : (i < length init) ⊎ (length init ≤ i) → (length (drop i init) ≡ 0) ⊎ (length (drop i next) ≡ 0)
    by (inr l) = inl (ap length (drop_all i init l))
    by (inl l) = inr (ap length (drop_all i next (omega (arith, h, l))))

-- control variables, one by one
module _ (at from next : ℕ) (cs : List Control) (i : ℕ) (c : Control) (h : i < length cs) (p : c ≡ get_or cs i c) where
  pub controls-next : (es : List FlatEqn) → (es ++ (control_eqns at from next c.width c.kind).eqns) ++ (controls_eqns (at + 1) (from + c.width) (control_eqns at from next c.width c.kind).next (drop (i + 1) cs)).eqns ≡ es ++ (controls_eqns at from next (drop i cs)).eqns
  controls-next es =
      let one = control_eqns at from next c.width c.kind in
      append_assoc es one.eqns (controls_eqns (at + 1) (from + c.width) one.next (drop (i + 1) cs)).eqns ∙ ap (λ rest. es ++ (controls_eqns at from next rest).eqns) (sym (drop-next cs i c h p))

  pub controls-named : (vs : List Variable) → (vs ++ (control_eqns at from next c.width c.kind).variables) ++ (controls_eqns (at + 1) (from + c.width) (control_eqns at from next c.width c.kind).next (drop (i + 1) cs)).variables ≡ vs ++ (controls_eqns at from next (drop i cs)).variables
  controls-named vs =
      let one = control_eqns at from next c.width c.kind in
      append_assoc vs one.variables (controls_eqns (at + 1) (from + c.width) one.next (drop (i + 1) cs)).variables ∙ ap (λ rest. vs ++ (controls_eqns at from next rest).variables) (sym (drop-next cs i c h p))

  pub controls-free : (controls_eqns (at + 1) (from + c.width) (control_eqns at from next c.width c.kind).next (drop (i + 1) cs)).next ≡ (controls_eqns at from next (drop i cs)).next
  controls-free = ap (λ rest. (controls_eqns at from next rest).next) (sym (drop-next cs i c h p))

pub controls-end : (es : List FlatEqn) (at from next : ℕ) (cs : List Control) (i : ℕ) → length cs ≤ i → es ++ (controls_eqns at from next (drop i cs)).eqns ≡ es
controls-end es at from next cs i h = ap (λ rest. es ++ (controls_eqns at from next rest).eqns) (drop_all i cs h) ∙ append-nil es

pub controls-all : (vs : List Variable) (at from next : ℕ) (cs : List Control) (i : ℕ) → length cs ≤ i → vs ++ (controls_eqns at from next (drop i cs)).variables ≡ vs
controls-all vs at from next cs i h = ap (λ rest. vs ++ (controls_eqns at from next rest).variables) (drop_all i cs h) ∙ append-nil vs

pub controls-last : (at from next : ℕ) (cs : List Control) (i : ℕ) → length cs ≤ i → (controls_eqns at from next (drop i cs)).next ≡ next
controls-last at from next cs i h = ap (λ rest. (controls_eqns at from next rest).next) (drop_all i cs h)

-- variables that are added, and the next one
pub added-next : (vs : List Variable) (first n : ℕ) → vs ++ map (λ x. added_variable x Truth) (range_with_len first (n + 1)) ≡ (vs ++ map (λ x. added_variable x Truth) (range_with_len first n)) ++ added_variable (first + n) Truth ∷ []
added-next vs first n =
    ap (λ more. vs ++ more) (map-range_with_len_more (λ x. added_variable x Truth) first n (first + n) refl)
    ∙ sym (append_assoc vs (map (λ x. added_variable x Truth) (range_with_len first n)) (added_variable (first + n) Truth ∷ []))

-- variables, and the next one
pub variables-next : (n : ℕ) → map bit_variable (range_with_len 0 (n + 1)) ≡ map bit_variable (range_with_len 0 n) ++ bit_variable n ∷ []
variables-next n = let same : 0 + n ≡ n = omega arith in map-range_with_len_more bit_variable 0 n n same
