use Rattle.hp_diagram.proofs.Choices.{Keeps-trans}
use Rattle.hp_synth.specs.Layouts.{place}
use Rattle.hp_synth.proofs.Constants.{one-means, zero-means}
use Rattle.hp_synth.proofs.building.gate_diagram.Goals as goal

pub returns-then-b-clause-ok : goal.returns-then-b-clause-ok
returns-then-b-clause-ok c = one-means (place c.args.layout.now) c.args.t.now c.args.refs.now c.args.gate c.in-Const.b c.one.result c.in-Const.is c.if-b.true c.one.ensures

pub returns-else-b-clause-ok : goal.returns-else-b-clause-ok
returns-else-b-clause-ok c = zero-means (place c.args.layout.now) c.args.t.now c.args.refs.now c.args.gate c.in-Const.b c.zero.result c.in-Const.is c.if-b.false c.zero.ensures

pub returns-in_ok-other-in-Xor-clause-keeps : goal.returns-in_ok-other-in-Xor-clause-keeps
returns-in_ok-other-in-Xor-clause-keeps c = Keeps-trans _ _ _ c.not-in-Xor.ensures.keeps c.ite.ensures.keeps
