use Rattle.std.proofs.Common.{◌≡◌, sym, arith}
use Rattle.hp_circuit.specs.Numbers.{pow2}
use Rattle.hp_circuit.proofs.NumberLaws.{width_is, at_most, more_below, none_below}
use Rattle.hp_circuit.proofs.bits.width.Goals as goal

pub loop-width-init : goal.loop-width-init
loop-width-init c = none_below c.args.count

pub loop-width-preserved : goal.loop-width-preserved
loop-width-preserved c = more_below c.args.count c.loop-width.width c.loop-width.invariant (let e : c.power.result ≡ pow2 c.loop-width.width = c.power.ensures in omega arith)

pub returns-then-count-power-clause-is : goal.returns-then-count-power-clause-is
returns-then-count-power-clause-is c = sym (width_is c.args.count c.loop-width.width (let e : c.power.result ≡ pow2 c.loop-width.width = c.power.ensures in omega arith) c.loop-width.invariant)

pub returns-clause-is : goal.returns-clause-is
returns-clause-is c = sym (at_most c.args.count c.loop-width.width 64 (omega arith) (omega arith) c.loop-width.invariant)
