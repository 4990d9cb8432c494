use Rattle.std.proofs.Common.{arith}
use Rattle.hp_fuse.proofs.Steps.{pair_next, left_next, paired_ended}
use Rattle.hp_fuse.proofs.join.append_arms.Goals as goal

pub loop-i-preserved : goal.loop-i-preserved
loop-i-preserved c = record {
  paired = pair_next c.loop-i.i c.args.arms.now c.args.others.now c.loop-i.arms c.loop-i.others c.append.new.cmds _ _ c.loop-i.invariant.paired c.loop-i.invariant.emptied c.in_ok-append.ensures.behind (omega arith) c.requires.as_many;
  emptied = left_next c.loop-i.i c.args.others.now c.loop-i.others c.append.new.more c.loop-i.invariant.emptied c.in_ok-append.ensures.moved (omega arith);
}

pub returns-clause-paired : goal.returns-clause-paired
returns-clause-paired c = paired_ended c.loop-i.i c.args.arms.now c.args.others.now c.loop-i.arms c.loop-i.invariant.paired c.loop-i-test.false c.requires.as_many
