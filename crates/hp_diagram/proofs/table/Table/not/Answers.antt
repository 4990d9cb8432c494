use Rattle.std.proofs.Common.{sym, subst}
use Rattle.hp_diagram.specs.declared.reference.Ref.{Ref}
use Rattle.hp_diagram.specs.Diagrams.{zero_ref, IsKept}
use Rattle.hp_diagram.proofs.Kept.{IfOk-same, value-not}
use Rattle.hp_diagram.proofs.table.Table.not.Goals as goal

pub returns-clause-ok : goal.returns-clause-ok
returns-clause-ok c = IfOk-same c.ite.new.self _ _ (λ v. value-not c.args.self.now v c.zero.result c.one.result c.zero.ensures c.one.ensures c.args.f) c.ite.result c.ite.ensures.ok

pub returns-clause-kept : goal.returns-clause-kept
returns-clause-kept c = λ r there.
    let at_one = subst (λ (o : Ref). IsKept c.args.self.now c.args.f zero_ref o r) (sym c.one.ensures) there in
    c.ite.ensures.kept r (subst (λ (z : Ref). IsKept c.args.self.now c.args.f z c.one.result r) (sym c.zero.ensures) at_one)
