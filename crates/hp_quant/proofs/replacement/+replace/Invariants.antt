use Rattle.hp_quant.proofs.replacement.+replace.Given as goal

abbrev pub decreases-replace : goal.decreases-replace
decreases-replace l = l.r.index
