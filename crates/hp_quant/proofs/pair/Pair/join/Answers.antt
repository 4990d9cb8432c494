use Rattle.std.proofs.Common.{refl}
use Rattle.hp_diagram.specs.Diagrams.{zero_ref}
use Rattle.hp_diagram.proofs.Kept.{IfOk-same, value-or}
use Rattle.hp_quant.proofs.pair.Pair.join.Goals as goal

pub returns-clause-ok : goal.returns-clause-ok
returns-clause-ok c =
    IfOk-same c.choose.new.self _ _
    (λ v. value-or c.args.t.now v zero_ref c.one.result refl c.one.ensures c.args.self.f c.args.self.g)
    c.choose.result c.choose.ensures.ok
