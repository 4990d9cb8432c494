use Rattle.std.proofs.Common.{◌∙◌, refl, sym, ap, if◌then◌else◌}
use Rattle.hp_diagram.specs.Diagrams.{function, zero_ref, one_ref}
use Rattle.hp_diagram.proofs.Kept.{IfOk-same, value-and, value-or}
use Rattle.hp_quant.specs.Turns.{by_way}
use Rattle.hp_quant.proofs.turns.Way.join.Goals as goal

pub returns-in-Either-clause-ok : goal.returns-in-Either-clause-ok
returns-in-Either-clause-ok c =
    IfOk-same c.choose.new.self _ _
    (λ v. value-or c.args.t.now v zero_ref c.one.result refl c.one.ensures c.args.low c.args.high
    ∙ ap (λ w. by_way w (if v c.args.var then function c.args.t.now c.args.high v else function c.args.t.now c.args.low v) (function c.args.t.now c.args.low v) (function c.args.t.now c.args.high v)) (sym c.in-Either.is))
    c.choose.result c.choose.ensures.ok

pub returns-in-Both-clause-ok : goal.returns-in-Both-clause-ok
returns-in-Both-clause-ok c =
    IfOk-same c.choose-in-Both.new.self _ _
    (λ v. value-and c.args.t.now v c.zero.result one_ref c.zero.ensures refl c.args.low c.args.high
    ∙ ap (λ w. by_way w (if v c.args.var then function c.args.t.now c.args.high v else function c.args.t.now c.args.low v) (function c.args.t.now c.args.low v) (function c.args.t.now c.args.high v)) (sym c.in-Both.is))
    c.choose-in-Both.result c.choose-in-Both.ensures.ok
