use Rattle.std.proofs.Common.{arith}
use Rattle.hp_base.specs.SignatureView.{kinds_seen}
use Rattle.hp_base.specs.Kinds.{kind_seen}
use Rattle.hp_driver.proofs.Shown.{kind_added}
use Rattle.hp_driver.proofs.telling.add_kinds.Goals as goal

-- src/telling.rt:79:5
pub loop-i-preserved : goal.loop-i-preserved
loop-i-preserved c =
    let added = c.in_ok-add_kind.ensures in
    kind_added (kinds_seen c.args.outputs.now.items) (kinds_seen c.loop-i.outputs.items) (kinds_seen c.add_kind.new.outputs.items) (kind_seen c.in_ok-kind.kind)
    c.args.from.now c.index-from-i.result c.loop-i.i (omega arith) c.loop-i.invariant added c.in_ok-kind.ensures
