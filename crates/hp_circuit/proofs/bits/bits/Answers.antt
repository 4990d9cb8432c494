use Rattle.std.proofs.Common.{◌≡◌, ◌-◌, ◌+◌, ◌++◌, List, ℕ, refl, sym, ap, subst, ◌∙◌, arith}
use Rattle.std.specs.Prelude.{Bool, nat_le, if◌then◌else◌}
use Rattle.hp_circuit.specs.Numbers.{pow2, to_bits}
use Rattle.hp_circuit.proofs.NumberLaws.{bits_more, true_le, false_le}
use Rattle.hp_circuit.proofs.bits.bits.Goals.{then-high-left, else-high-left}
use Rattle.hp_circuit.proofs.bits.bits.Goals as goal

pub loop-i-preserved : goal.loop-i-preserved
loop-i-preserved c =
    let high = c.power-high.result in
    let left = c.loop-i.left in
    let next : ℕ = c.args.width - (c.loop-i.i + 1) in
    let place : c.args.width - 1 - c.loop-i.i ≡ next = omega arith in
    let power : high ≡ pow2 next = c.power-high.ensures ∙ ap pow2 place in
    let rest : c.if-high-left.left ≡ (if nat_le high left then left - high else left) =
    elim c.if-high-left.branch [
      | then-high-left w ↦ w.left-is ∙ sym (ap (λ b. if b then left - high else left) (true_le high left (omega arith)))
      | else-high-left w ↦ w.left-is ∙ sym (ap (λ b. if b then left - high else left) (false_le high left (omega arith)))
    ] in
    subst (λ (items : List Bool). items ++ to_bits next c.if-high-left.left ≡ to_bits c.args.width c.args.number) (sym c.in_ok-push.ensures.items)
    (bits_more c.loop-i.bits.items c.args.width c.args.number (c.args.width - c.loop-i.i) next high left c.if-high-left.left (nat_le high left) (omega arith) power refl rest c.loop-i.invariant)
