use Rattle.hp_obc.proofs.KindLaws.{file-kinded, runs-kinded}
use Rattle.hp_obc.proofs.obc.outputs_are_of_their_kinds.Goals as goal

pub returns-clause-steps : goal.returns-clause-steps
returns-clause-steps c = file-kinded c.args.o.now c.types-types.ensures.form

pub returns-clause-runs : goal.returns-clause-runs
returns-clause-runs c = runs-kinded c.args.o.now (file-kinded c.args.o.now c.types-types.ensures.form)
