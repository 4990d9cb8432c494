-- The node of the lines of a machine's functions is its controller.
use Rattle.std.proofs.Common.{◌≡◌, ℕ, zero, suc, ◌+◌, ◌<◌, ◌≤◌, ◌^◌, Bool, false, List, [], ◌∷◌, ◌++◌, length, map, slice_index_or, codes, refl, sym, ap, ap₂, subst, ◌∙◌, arith}
use Rattle.std.specs.List.{AllByRecursion, range_with_len}
use Rattle.std.proofs.lemmas.List.{length-append, length-map}
use Rattle.std.proofs.lemmas.List.FromFn.{length-map-range_with_len}
use Rattle.hp_base.specs.declared.value.Value.TheVariants.{B}
use Rattle.hp_boolx.specs.Machine.{Machine, game}
use Rattle.hp_boolx.specs.Search.{Bits}
use Rattle.hp_boolx.specs.Solved.{IsChoice}
use Rattle.hp_cert.specs.Certmade.Made.{HaveFunctions}
use Rattle.hp_cert.specs.Certmade.Placed.{RefersBack}
use Rattle.hp_control.specs.Controlling.{AreFunctionsAt}
use Rattle.hp_diagram.specs.Diagrams.{Diagrams, function}
use Rattle.hp_diagram.specs.declared.reference.Ref.{Ref}
use Rattle.hp_flat.specs.declared.node.FlatTy.TheVariants.{Bool as Truth}
use Rattle.hp_flat.specs.declared.node.Variable.{Variable}
use Rattle.hp_flat.specs.Equations.{FlatEqn}
use Rattle.hp_quant.specs.declared.line.Line.{Line}
use Rattle.hp_quant.specs.Lines.{line_function}
use Rattle.hp_synth.specs.Building.{functions_at}
use Rattle.hp_synth.specs.Valued.{Valued, through, states, earlies, read}
use Rattle.hp_synth.specs.declared.layout.Layout.{Layout}
use Rattle.hp_synth.specs.Layouts.{place, variable, IsLayout}
use Rattle.hp_synth.proofs.LayoutLaws.{seen}
use Rattle.hp_synth.proofs.Ranges.{read-list}
use Rattle.hp_controller.specs.Controllers.{moved, bit_variable, line_eqns, output_eqns, node_of_lines}
use Rattle.hp_controller.specs.Controlling.{IsOperator, IsController}
use Rattle.hp_controller.specs.Laws.{bit_at}
use Rattle.hp_controller.proofs.ControllerLaws.{gives}
use Rattle.hp_controller.proofs.MovedLaws.{lines_moved, back_moved}
use Rattle.hp_controller.proofs.WellMadeLaws.{always, exclusive, outputs_behind, outputs_differ, outputs_long, well_made, within}

-- ---- bits

first_at : (r u : Bits) (k : ℕ) → k < length r → bit_at (r ++ u) k ≡ slice_index_or r k false
first_at [] u k h = absurd (omega (arith, h))
first_at (b ∷ r) u zero h = refl
first_at (b ∷ r) u (suc k) h = first_at r u k (omega (arith, h))

first_bits : (r u : Bits) (k : ℕ) → k < length r → bit_at (r ++ u) (0 + k) ≡ slice_index_or r k false
first_bits r u k h = let same : 0 + k ≡ k = omega arith in ap (bit_at (r ++ u)) same ∙ first_at r u k h

later_bits : (r u : Bits) (k : ℕ) → bit_at (r ++ u) (length r + k) ≡ slice_index_or u k false
later_bits [] u k = let same : 0 + k ≡ k = omega arith in ap (λ j. slice_index_or u j false) same
later_bits (b ∷ r) u k = let same : length (b ∷ r) + k ≡ suc (length r + k) = omega arith in ap (λ j. bit_at (b ∷ (r ++ u)) j) same ∙ later_bits r u k

functions-mapped : (t : Diagrams) (rs : List Ref) (v : Valued) → functions_at t rs v ≡ map (λ r. function t r v) rs
functions-mapped t [] v = refl
functions-mapped t (r ∷ rs) v = ap (λ bs. function t r v ∷ bs) (functions-mapped t rs v)

both_mapped : (f : ℕ → Bool) (ns : List ℕ) → map (λ n. B (f n)) ns ≡ map (λ b. B b) (map f ns)
both_mapped f [] = refl
both_mapped f (n ∷ ns) = ap (λ vs. B (f n) ∷ vs) (both_mapped f ns)

-- ---- equations

outputs_stateless : (inputs lines i : ℕ) (ns : List ℕ) → AllByRecursion (λ (e : FlatEqn). IsOperator e.right) (output_eqns inputs lines i ns)
outputs_stateless inputs lines i [] = tt
outputs_stateless inputs lines i (n ∷ ns) = (tt, outputs_stateless inputs lines (i + 1) ns)

lines_stateless : (inputs i : ℕ) (ls : List Line) (rest : List FlatEqn) → AllByRecursion (λ (e : FlatEqn). IsOperator e.right) rest → AllByRecursion (λ (e : FlatEqn). IsOperator e.right) (line_eqns inputs i ls ++ rest)
lines_stateless inputs i [] rest h = h
lines_stateless inputs i (l ∷ ls) rest h = (tt, lines_stateless inputs (i + 1) ls rest h)

all_bits : (from count : ℕ) → AllByRecursion (λ (x : Variable). x.ty ≡ Truth) (map bit_variable (range_with_len from count))
all_bits from zero = tt
all_bits from (suc n) = (refl, all_bits (from + 1) n)

-- ---- the controller

-- it has a line for each node of functions of variables that stand at places, and tests the variable that stands there
pub controls : (m : Machine) (vars : ℕ) (layout : Layout) → IsLayout vars layout → (t : Diagrams) (funs : List Ref) (name : List ℕ) (lines : List Line) (numbers : List ℕ) → AreFunctionsAt (game m) (place layout) t funs → HaveFunctions t funs lines numbers → RefersBack lines
    → name ≡ m.name ++ codes "$ctl" → length (node_of_lines name (m.registers + m.early) (map (moved (variable layout)) lines) numbers).variables ≤ 2 ^ 64 → IsController m (node_of_lines name (m.registers + m.early) (map (moved (variable layout)) lines) numbers)
controls m vars layout placed t funs name at_places numbers are have back named few = record {
  name = named;
  bits = all_bits 0 (m.registers + m.early + length (map (moved (variable layout)) at_places) + length numbers);
  numbered =
      let count = m.registers + m.early + length (map (moved (variable layout)) at_places) + length numbers in
      ap (λ k. map bit_variable (range_with_len 0 k)) (sym (length-map-range_with_len bit_variable 0 count));
  few = few;
  inputs = refl;
  outputs =
      let moved_lines = map (moved (variable layout)) at_places in
      let v : Valued = λ x. false in
      let choice = are v in
      outputs_long name (m.registers + m.early) moved_lines numbers
      ∙ sym (length-map numbers (λ n. line_function at_places n v))
      ∙ ap length (have v ∙ sym (functions-mapped t funs v))
      ∙ choice.len;
  within = within name (m.registers + m.early) (map (moved (variable layout)) at_places) numbers;
  outputs_behind = outputs_behind name (m.registers + m.early) (map (moved (variable layout)) at_places) numbers;
  outputs_differ = outputs_differ name (m.registers + m.early) (map (moved (variable layout)) at_places) numbers;
  always = always name (m.registers + m.early) (map (moved (variable layout)) at_places) numbers;
  exclusive = exclusive name (m.registers + m.early) (map (moved (variable layout)) at_places) numbers;
  stateless = lines_stateless (m.registers + m.early) 0 (map (moved (variable layout)) at_places) (output_eqns (m.registers + m.early) (length (map (moved (variable layout)) at_places)) (length (map (moved (variable layout)) at_places)) numbers) (outputs_stateless (m.registers + m.early) (length (map (moved (variable layout)) at_places)) (length (map (moved (variable layout)) at_places)) numbers);
  well_made = λ types callees. well_made types callees name (m.registers + m.early) (map (moved (variable layout)) at_places) numbers;
  gives = λ answers past r u now lr lu goes.
      let v : Valued = bit_at (r ++ u) in
      let w : Valued = through (variable layout) v in
      let seen_is : through (place layout) w ≡ v = seen vars layout placed v in
      let as_many : length (r ++ u) ≡ m.registers + m.early = length-append r u ∙ ap₂ (λ a b. a + b) lr lu in
      let state : states (game m) (through (place layout) w) ≡ r = ap (λ (x : Valued). states (game m) x) seen_is ∙ ap (λ n. read 0 n v) (sym lr) ∙ read-list 0 v r (first_bits r u) in
      let early : earlies (game m) (through (place layout) w) ≡ u = ap (λ (x : Valued). earlies (game m) x) seen_is ∙ ap₂ (λ a n. read a n v) (sym lr) (sym lu) ∙ read-list (length r) v u (λ k h. later_bits r u k) in (
        functions_at t funs w,
        subst (λ s. IsChoice (game m) s u (functions_at t funs w)) state (subst (λ e. IsChoice (game m) (states (game m) (through (place layout) w)) e (functions_at t funs w)) early (are w)),
        gives answers name (m.registers + m.early) (map (moved (variable layout)) at_places) numbers (back_moved (variable layout) at_places back) past (r ++ u) now as_many goes
            ∙ both_mapped (λ n. line_function (map (moved (variable layout)) at_places) n v) numbers
            ∙ ap (λ bs. map (λ b. B b) bs) (lines_moved (variable layout) at_places numbers v ∙ have w ∙ sym (functions-mapped t funs w)),
      );
}
