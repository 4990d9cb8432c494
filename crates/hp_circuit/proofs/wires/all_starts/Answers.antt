use Rattle.std.proofs.Common.{◌≡◌, ◌<◌, length, arith, rules}
use Rattle.hp_circuit.proofs.MakingLaws.{starts_more}
use Rattle.hp_circuit.proofs.WiringLaws.{starts_are}
use Rattle.hp_circuit.proofs.wires.all_starts.Goals as goal

pub loop-i-preserved : goal.loop-i-preserved
loop-i-preserved c =
    let l : c.loop-i.i < length c.args.starts.now = search rules in
    starts_more c.args.starts.now c.loop-i.all.items c.loop-i.i c.start_of.result c.loop-i.invariant.0 l (c.requires c.loop-i.i l) c.start_of.ensures c.loop-i.invariant.1

pub returns-clause-are : goal.returns-clause-are
returns-clause-are c =
    let e : c.loop-i.i ≡ length c.args.starts.now = search rules in
    starts_are c.args.starts.now c.loop-i.all.items c.loop-i.invariant.0 (λ w l. c.loop-i.invariant.1 w (omega (arith, l, e)))
