use Rattle.std.proofs.Common.{◌+◌}
use Rattle.hp_diagram.proofs.table.Table.+choose.Given as goal

abbrev pub decreases-choose : goal.decreases-choose
decreases-choose l = l.f.index + l.g.index + l.h.index
