use Rattle.std.proofs.Common.{inl, subst}
use Rattle.hp_abstract.specs.Machines.{LacksMachine}
use Rattle.hp_abstract.proofs.machine.refused.Goals as goal

pub returns-in-Limit : goal.returns-in-Limit
returns-in-Limit c = λ program lacks. subst (LacksMachine program c.args.node.now) c.in-Limit.is lacks

pub returns-in-NoCircuit : goal.returns-in-NoCircuit
returns-in-NoCircuit c = λ program lacks. inl (subst (LacksMachine program c.args.node.now) c.in-NoCircuit.is lacks)

pub returns-in-Steered : goal.returns-in-Steered
returns-in-Steered c = λ program lacks. c.steered.ensures program (subst (LacksMachine program c.args.node.now) c.in-Steered.is lacks)
