use Rattle.hp_normal.proofs.retarget.numbers.Goals as goal

pub returns-clause-same : goal.returns-clause-same
returns-clause-same c = λ j x. c.loop-i.invariant.same x j
