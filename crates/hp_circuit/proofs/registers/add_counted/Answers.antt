use Rattle.hp_circuit.proofs.EndLaws.{counted_next}
use Rattle.hp_circuit.proofs.registers.add_counted.Goals as goal

pub loop-i-preserved : goal.loop-i-preserved
loop-i-preserved c = counted_next c.args.into.now.items c.loop-i.into.items c.push.new.self.items c.args.start c.loop-i.i c.loop-i.invariant c.in_ok-push.ensures.items
