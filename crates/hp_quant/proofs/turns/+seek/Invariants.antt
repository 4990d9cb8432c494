use Rattle.std.proofs.Common.{◌+◌, ◌*◌, max}
use Rattle.hp_quant.proofs.turns.+seek.Given as goal

abbrev pub decreases-seek : goal.decreases-seek
decreases-seek l = 2 * (l.p.f.index + l.p.g.index) + 1

abbrev pub decreases-seek_sides : goal.decreases-seek_sides
decreases-seek_sides l = 2 * max (l.low.f.index + l.low.g.index) (l.high.f.index + l.high.g.index) + 2
