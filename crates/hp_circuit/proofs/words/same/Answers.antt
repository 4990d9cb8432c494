use Rattle.std.proofs.Common.{◌-◌, ℕ, arith}
use Rattle.hp_circuit.proofs.WiringLaws.{same_made}
use Rattle.hp_circuit.proofs.WordLaws.{same_more}
use Rattle.hp_circuit.proofs.words.same.Goals as goal

pub loop-i-preserved : goal.loop-i-preserved
loop-i-preserved c =
    let i : ℕ = c.loop-i.i - 1 in (
      same_more c.args.gates.now.items c.loop-i.gates.items c.same_bit.new.gates.items c.args.a i c.loop-i.i c.loop-i.found c.in_ok-found.found c.args.b c.args.width (omega arith) (omega arith) c.requires.a c.requires.b c.loop-i.invariant.0 c.in_ok-found.ensures.adds,
      same_made c.args.gates.now.items c.loop-i.gates.items c.same_bit.new.gates.items c.args.a c.args.b c.args.width i c.loop-i.i c.loop-i.found c.in_ok-found.found (omega arith) (omega arith) c.loop-i.invariant.1 c.in_ok-found.ensures.made,
    )
