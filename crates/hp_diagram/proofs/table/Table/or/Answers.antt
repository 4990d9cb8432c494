use Rattle.std.proofs.Common.{refl, sym, subst}
use Rattle.hp_diagram.specs.declared.reference.Ref.{Ref}
use Rattle.hp_diagram.specs.Diagrams.{zero_ref, IsKept}
use Rattle.hp_diagram.proofs.Kept.{IfOk-same, value-or}
use Rattle.hp_diagram.proofs.table.Table.or.Goals as goal

pub returns-clause-ok : goal.returns-clause-ok
returns-clause-ok c = IfOk-same c.ite.new.self _ _ (λ v. value-or c.args.self.now v zero_ref c.one.result refl c.one.ensures c.args.f c.args.g) c.ite.result c.ite.ensures.ok

pub returns-clause-kept : goal.returns-clause-kept
returns-clause-kept c = λ r there.
    c.ite.ensures.kept r (subst (λ (o : Ref). IsKept c.args.self.now c.args.f o c.args.g r) (sym c.one.ensures) there)
