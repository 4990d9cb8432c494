use Rattle.std.proofs.Common.{◌∙◌}
use Rattle.hp_form.specs.Declaring.{keys}
use Rattle.hp_form.proofs.EachLaws.{with_new, second_new}
use Rattle.hp_form.proofs.declare.add_var.Goals as goal

pub returns-clause-added : goal.returns-clause-added
returns-clause-added c =
    let x = c.args.var.now in
    λ e. c.in_ok-add.ensures
    ∙ with_new c.args.known.now c.args.var.now.name c.args.var.now.ty (second_new (keys c.args.before.now) (keys c.args.known.now) c.args.var.now.name (c.may_declare.ensures.0 c.if-not-may_declare.false).1)
