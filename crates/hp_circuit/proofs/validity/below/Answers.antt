use Rattle.std.proofs.Common.{◌≡◌, length, ap, sym, ◌∙◌, arith}
use Rattle.std.specs.Prelude.{nat_eq, true, false}
use Rattle.hp_circuit.specs.Numbers.{pow2, width, to_bits}
use Rattle.hp_circuit.proofs.NumberLaws.{length_bits}
use Rattle.hp_circuit.proofs.EndLaws.{full_valid, below_of}
use Rattle.hp_circuit.proofs.validity.below.Goals as goal

pub returns-then-is_full-clause-adds : goal.returns-then-is_full-clause-adds
returns-then-is_full-clause-adds c = full_valid c.args.gates.now.items c.args.start c.args.count c.requires.first (let e : nat_eq (pow2 (width c.args.count)) c.args.count ≡ true = sym c.is_full.ensures ∙ c.if-is_full.true in e)

pub compared-requires-clause-a : goal.compared-requires-clause-a
compared-requires-clause-a c =
    let f : c.deref.result.now ≡ to_bits (width c.args.count) c.args.count = c.deref.ensures.value ∙ c.in_ok-bits.ensures ∙ ap (λ n. to_bits n c.args.count) c.shape_width.ensures.is in
    let e : length c.deref.result.now ≡ width c.args.count = ap length f ∙ length_bits (width c.args.count) c.args.count in
    omega (arith, e, c.requires.there)

pub returns-clause-adds : goal.returns-clause-adds
returns-clause-adds c =
    let f : c.deref.result.now ≡ to_bits (width c.args.count) c.args.count = c.deref.ensures.value ∙ c.in_ok-bits.ensures ∙ ap (λ n. to_bits n c.args.count) c.shape_width.ensures.is in
    below_of c.args.gates.now.items c.compared.new.gates.items c.args.start c.args.count c.deref.result.now c.compared.result c.requires.first (let e : nat_eq (pow2 (width c.args.count)) c.args.count ≡ false = sym c.is_full.ensures ∙ c.if-is_full.false in e) f c.compared.ensures.adds
