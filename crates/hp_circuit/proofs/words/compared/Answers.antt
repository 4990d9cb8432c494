use Rattle.std.proofs.Common.{◌<◌, ◌-◌, ℕ, length, arith, rules}
use Rattle.hp_circuit.proofs.WiringLaws.{compared_made}
use Rattle.hp_circuit.proofs.WordLaws.{compared_more}
use Rattle.hp_circuit.proofs.words.compared.Goals as goal

pub loop-i-preserved : goal.loop-i-preserved
loop-i-preserved c =
    let i : ℕ = c.loop-i.i - 1 in
    let l : i < length c.args.bits.now = search rules in (
      compared_more c.args.gates.now.items c.loop-i.gates.items c.compared_bit.new.gates.items c.args.a i c.loop-i.i c.loop-i.found c.in_ok-found.found c.args.bits.now c.args.less c.args.equal (omega arith) l c.requires.a c.requires.less c.loop-i.invariant.0 c.in_ok-found.ensures.adds,
      compared_made c.args.gates.now.items c.loop-i.gates.items c.compared_bit.new.gates.items c.args.a c.args.bits.now c.args.less c.args.equal i c.loop-i.i c.loop-i.found c.in_ok-found.found (omega arith) l c.loop-i.invariant.1 c.in_ok-found.ensures.made,
    )
