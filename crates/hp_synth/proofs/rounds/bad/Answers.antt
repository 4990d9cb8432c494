use Rattle.hp_synth.proofs.rounds.bad.Goals as goal

pub returns-clause-ok : goal.returns-clause-ok
returns-clause-ok c = c.bad_beside.ensures.ok
