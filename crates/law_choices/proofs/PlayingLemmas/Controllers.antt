-- The controller of a machine answers with its choice.
use Rattle.std.proofs.Common.{◌≡◌, ℕ, zero, suc, ◌+◌, ◌<◌, ◌≤◌, List, [], ◌∷◌, length, map, sym, ap, subst, ◌∙◌, arith}
use Rattle.std.specs.Prelude.{get_or}
use Rattle.std.specs.List.{AllByRecursion, range_with_len}
use Rattle.hp_base.specs.Kinds.{KindData, Bools, AreOfKinds}
use Rattle.hp_base.specs.declared.value.Value.{Value}
use Rattle.hp_base.specs.declared.value.Value.TheVariants.{B}
use Rattle.hp_boolx.specs.Machine.{Machine}
use Rattle.hp_boolx.specs.Search.{Bits}
use Rattle.hp_obc.specs.Machines.{ObcType}
use Rattle.hp_obc.specs.Steps.{Names}
use Rattle.hp_flat.specs.declared.node.FlatTy.TheVariants.{Bool as Truth, Int}
use Rattle.hp_flat.specs.declared.node.Variable.{Variable}
use Rattle.hp_flat.specs.Nodes.{FlatNode}
use Rattle.law_equations.specs.Meaning.Kinding.{kind_of_type, kinds_at, variable_kind}
use Rattle.law_equations.specs.Meaning.Reactions.{Answers, inputs_of}
use Rattle.hp_controller.specs.Controlling.{IsController}
use Rattle.hp_controller.specs.Steps.{AnswersLaw, IsRow}
use Rattle.law_choices.specs.Playing.Steering.{ControllerAnswersLaw}

-- variables that are truth values have their kind
truth-kind : (types : List ObcType) (vs : List Variable) (x : ℕ) → AllByRecursion (λ (v : Variable). v.ty ≡ Truth) vs → x < length vs → kind_of_type types (get_or vs x (record { name = []; ty = Int })).ty ≡ Bools
truth-kind types [] x h l = absurd (omega (arith, l))
truth-kind types (v ∷ vs) zero h l = ap (kind_of_type types) h.0
truth-kind types (v ∷ vs) (suc x) h l = truth-kind types vs x h.1 (omega (arith, l))

module _ (types : List ObcType) (vs : List Variable) (truths : AllByRecursion (λ (v : Variable). v.ty ≡ Truth) vs) where
  bits-taken : (first : ℕ) (bits : Bits) → first + length bits ≤ length vs → AreOfKinds (map (variable_kind types vs) (range_with_len first (length bits))) (map (λ b. B b) bits)
  bits-taken first [] l = tt
  bits-taken first (b ∷ bits) l =
      let kind = truth-kind types vs first truths (omega (arith, l)) in
      let rest = bits-taken (first + 1) bits (omega (arith, l)) in
      subst (λ k. AreOfKinds (k ∷ map (variable_kind types vs) (range_with_len (first + 1) (length bits))) (B b ∷ map (λ c. B c) bits)) (sym kind) (tt, rest)

module _ (types : List ObcType) (m : Machine) (node : FlatNode) (answers : Answers) (takes : Names (List KindData)) (c : IsController m node) (said : takes node.name ≡ kinds_at types node (inputs_of node)) where
  row-taken : (row : List Value) → IsRow m row → AreOfKinds (takes node.name) row
  row-taken row h =
      let bits = h.0 in
      let within = c.within in
      let few = within.inputs in
      let count : length bits ≡ node.inputs = h.1 ∙ sym c.inputs in
      subst (AreOfKinds (takes node.name)) (sym h.2)
      (subst (λ ks. AreOfKinds ks (map (λ b. B b) bits)) (ap (λ k. map (variable_kind types node.variables) (range_with_len 0 k)) count ∙ sym said) (bits-taken types node.variables c.bits 0 bits (omega (arith, few, count))))

  rows-taken : (rows : List (List Value)) → AllByRecursion (IsRow m) rows → AllByRecursion (AreOfKinds (takes node.name)) rows
  rows-taken [] h = tt
  rows-taken (row ∷ rows) h = (row-taken row h.0, rows-taken rows h.1)

pub controller_answers_law : AnswersLaw → ControllerAnswersLaw
controller_answers_law law types m node answers takes c said gives =
    law m node answers c
    (λ args earlier row rows. let g = gives args earlier (row-taken types m node answers takes c said args row) (rows-taken types m node answers takes c said earlier rows) in (g.now, g.past, g.reaction, g.answer))
