use Rattle.std.proofs.Common.{map, rules}
use Rattle.hp_native.proofs.LinkLaws.{placed-among, linked-fits, linked-changes_nothing}
use Rattle.hp_native.proofs.linked.link.Goals as goal

pub returns-clause-places : goal.returns-clause-places
returns-clause-places g c =
    placed-among (map g.N.Answers.machine c.args.natives.now) c.machines-machines.result.now c.args.o.now.machines c.loop-i.places.items c.loop-i.i c.machines-machines.ensures.machines (search rules) c.loop-i.invariant

pub returns-clause-fits : goal.returns-clause-fits
returns-clause-fits g c =
    let natives = map g.N.Answers.machine c.args.natives.now in
    linked-fits natives c.args.o.now.machines c.loop-i.places.items
    (placed-among natives c.machines-machines.result.now c.args.o.now.machines c.loop-i.places.items c.loop-i.i c.machines-machines.ensures.machines (search rules) c.loop-i.invariant)

pub returns-clause-changes_nothing : goal.returns-clause-changes_nothing
returns-clause-changes_nothing g c =
    let natives = map g.N.Answers.machine c.args.natives.now in
    linked-changes_nothing natives c.args.o.now c.loop-i.places.items c.machines-machines.ensures.form
    (placed-among natives c.machines-machines.result.now c.args.o.now.machines c.loop-i.places.items c.loop-i.i c.machines-machines.ensures.machines (search rules) c.loop-i.invariant)
