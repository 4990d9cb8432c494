use Rattle.std.proofs.Common.{subst}
use Rattle.hp_diagram.specs.Diagrams.{IsSound}
use Rattle.hp_diagram.proofs.Canonical.{same_functions}
use Rattle.hp_diagram.proofs.table.Table.same.Goals as goal

pub returns-clause-functions : goal.returns-clause-functions
returns-clause-functions c =
    let sound = subst IsSound c.self.view_is c.self.invariant.0 in
    same_functions c.args.self.now sound.reduced c.args.a c.args.b c.requires.a c.requires.b c.eq.result c.eq.ensures
