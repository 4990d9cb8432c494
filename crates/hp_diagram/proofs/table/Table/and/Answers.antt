use Rattle.std.proofs.Common.{refl, sym, subst}
use Rattle.hp_diagram.specs.declared.reference.Ref.{Ref}
use Rattle.hp_diagram.specs.Diagrams.{one_ref, IsKept}
use Rattle.hp_diagram.proofs.Kept.{IfOk-same, value-and}
use Rattle.hp_diagram.proofs.table.Table.and.Goals as goal

pub returns-clause-ok : goal.returns-clause-ok
returns-clause-ok c = IfOk-same c.ite.new.self _ _ (λ v. value-and c.args.self.now v c.zero.result one_ref c.zero.ensures refl c.args.f c.args.g) c.ite.result c.ite.ensures.ok

pub returns-clause-kept : goal.returns-clause-kept
returns-clause-kept c = λ r there.
    c.ite.ensures.kept r (subst (λ (z : Ref). IsKept c.args.self.now c.args.f c.args.g z r) (sym c.zero.ensures) there)
