use Rattle.hp_quant.proofs.sweeping.+copy.Given as goal

abbrev pub decreases-copy : goal.decreases-copy
decreases-copy l = l.r.index
