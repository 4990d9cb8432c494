use Rattle.std.proofs.Common.{ap, ◌∙◌}
use Rattle.hp_obc.specs.Machines.{Machine}
use Rattle.hp_base.specs.Known.Known.{with_entry}
use Rattle.hp_form.proofs.FormLaws.{one_more_machine, machine_new}
use Rattle.hp_form.proofs.machine.add_machine.Goals as goal

pub returns-clause-added : goal.returns-clause-added
returns-clause-added c =
    let m = c.args.machine.now in
    λ e. one_more_machine c.args.earlier.now c.args.known.now c.add.new.self m c.requires
    (c.in_ok-add.ensures ∙ ap (λ (z : Machine). with_entry c.args.known.now z.name m) c.machine.view_is)
    (machine_new c.args.types.now.declared.now c.args.earlier.now c.args.known.now m c.requires (c.in_ok-has_form.ensures.0 c.if-not-branch.false))
