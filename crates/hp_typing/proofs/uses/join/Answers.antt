use Rattle.std.proofs.Common.{◌∙◌, ap, map, arith}
use Rattle.hp_typing.specs.Uses.{worst, among, how}
use Rattle.hp_typing.proofs.JoinLaws.{join-begin, join-step, join-end}
use Rattle.hp_typing.proofs.uses.join.Goals as goal

pub loop-i-init : goal.loop-i-init
loop-i-init c = ap (λ f. worst f (among (map how c.args.blocks.now))) c.new-all.ensures ∙ join-begin (among (map how c.args.blocks.now))

pub loop-i-preserved : goal.loop-i-preserved
loop-i-preserved c =
    join-step c.args.blocks.now c.loop-i.i c.min.result c.index-blocks-i.result c.index-blocks-min.result (how c.loop-i.all) (how c.add_pair.new.self) _
    (omega arith) c.index-blocks-i.is c.min.ensures c.index-blocks-min.is c.in_ok-add_pair.ensures c.loop-i.invariant

pub returns : goal.returns
returns c = join-end c.args.blocks.now c.loop-i.i (how c.loop-i.all) _ (omega arith) c.loop-i.invariant
