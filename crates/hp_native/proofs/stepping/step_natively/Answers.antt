use Rattle.std.proofs.Common.{◌∙◌}
use Rattle.hp_native.proofs.SteppingLaws.{native-stepped, native-answered, still_native}
use Rattle.hp_native.proofs.stepping.step_natively.Goals as goal

pub returns-clause-stepped : goal.returns-clause-stepped
returns-clause-stepped g c =
    c.step_with.ensures.stepped
    ∙ native-stepped (g.H.Hook.means c.args.hook.now) c.args.instant c.args.exec.now c.args.inputs.now c.requires.native c.requires.inputs c.requires.kinds

pub returns-clause-answered : goal.returns-clause-answered
returns-clause-answered g c =
    c.step_with.ensures.answered
    ∙ native-answered (g.H.Hook.means c.args.hook.now) c.args.instant c.args.exec.now c.args.inputs.now c.requires.native c.requires.inputs c.requires.kinds

pub returns-clause-native : goal.returns-clause-native
returns-clause-native g c =
    still_native (g.H.Hook.means c.args.hook.now) c.args.exec.now _ c.args.inputs.now c.requires.native c.requires.inputs c.requires.kinds
    (c.step_with.ensures.stepped
    ∙ native-stepped (g.H.Hook.means c.args.hook.now) c.args.instant c.args.exec.now c.args.inputs.now c.requires.native c.requires.inputs c.requires.kinds)
