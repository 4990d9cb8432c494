use Rattle.hp_typing.specs.Uses.{how}
use Rattle.hp_typing.proofs.DefinedLaws.{names-step, names-end}
use Rattle.hp_typing.proofs.definitions.add_names.Goals as goal

pub loop-name-preserved : goal.loop-name-preserved
loop-name-preserved c =
    names-step c.args.names.now c.loop-name.name-index c.loop-name-item.result (how c.loop-name.uses) (how c.add.new.self) _ c.loop-name-test.true c.loop-name-item.is
    c.in_ok-add.ensures c.loop-name.invariant

pub returns : goal.returns
returns c = names-end c.args.names.now c.loop-name.name-index (how c.loop-name.uses) _ c.loop-name-test.false c.loop-name.invariant
