use Rattle.hp_clocks.proofs.LongestLaws.{tells_long}
use Rattle.hp_clocks.proofs.length.longest.Goals as goal

pub returns-clause-long : goal.returns-clause-long
returns-clause-long c = tells_long c.args.solution.now c.longest_counted.result c.longest_counted.ensures
