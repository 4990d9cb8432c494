use Rattle.std.proofs.Common.{◌≡◌, length, rules, sym, subst}
use Rattle.hp_circuit.specs.Levels.{AreLevels}
use Rattle.hp_circuit.specs.Ordering.{AreEdgesByRank}
use Rattle.hp_circuit.proofs.LevelLaws.{levels_are, levels_back}
use Rattle.hp_circuit.proofs.SteeredLaws.{falling}
use Rattle.hp_circuit.proofs.levels.levels_of.Goals as goal

pub returns-clause-are : goal.returns-clause-are
returns-clause-are c =
    let edges = c.args.edges.now in
    let ranks = c.args.ranks.now in
    let sorted = c.deref.result.now in
    let new = c.lift_all.new.levels in
    let long : length new ≡ c.in_ok-levels.levels.len = search rules in
    let by : AreEdgesByRank edges ranks sorted = subst (AreEdgesByRank edges ranks) (sym c.deref.ensures.value) c.in_ok-sorted.ensures in
    subst (AreLevels edges) (sym (levels_back c.in_ok-levels.levels.len new c.in_ok-levels.levels.items long))
    (levels_are edges ranks sorted new by (c.in_ok-lift_all.ensures.lifted ranks (falling (length ranks) edges ranks sorted c.requires.ranks by)))
