use Rattle.hp_synth.proofs.next.next_set.Goals as goal

pub returns-clause-ok : goal.returns-clause-ok
returns-clause-ok c = c.further_set.ensures.ok
