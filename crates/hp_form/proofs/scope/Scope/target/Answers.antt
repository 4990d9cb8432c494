use Rattle.std.proofs.Common.{sym, ap, ◌∙◌}
use Rattle.hp_obc.specs.Form.{written}
use Rattle.hp_base.specs.Known.Known.{lookup}
use Rattle.hp_form.proofs.ScopeLaws.{kind_found, kind_missing}
use Rattle.hp_form.proofs.scope.Scope.target.Goals as goal

pub returns-in-None : goal.returns-in-None
returns-in-None c =
    let s = c.args.self.now in
    kind_missing s.types.now.declared.now (written s.machine.now) c.args.name.now (c.in-None.ensures ∙ ap (λ es. lookup es c.args.name.now) s.writes)

pub returns-in-Some : goal.returns-in-Some
returns-in-Some c =
    let s = c.args.self.now in
    c.kind.ensures ∙ sym (kind_found s.types.now.declared.now (written s.machine.now) c.args.name.now c.in-Some.ty.now (c.in-Some.ensures ∙ ap (λ es. lookup es c.args.name.now) s.writes))
