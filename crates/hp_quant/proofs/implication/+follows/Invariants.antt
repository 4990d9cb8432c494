use Rattle.std.proofs.Common.{◌+◌}
use Rattle.hp_quant.proofs.implication.+follows.Given as goal

abbrev pub decreases-follows : goal.decreases-follows
decreases-follows l = l.p.f.index + l.p.g.index
