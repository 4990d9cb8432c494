use Rattle.std.proofs.Common.{refl, rules}
use Rattle.hp_driver.specs.Leaves.{IsPrinted}
use Rattle.hp_driver.specs.Leaving.{WritesMachines}
use Rattle.hp_driver.proofs.MachineLaws.{wrote_machines}
use Rattle.hp_driver.specs.Status.{code_of}
use Rattle.hp_driver.proofs.source.write_machines.Goals as goal

pub returns-in-Ok-clause-leaves : goal.returns-in-Ok-clause-leaves
returns-in-Ok-clause-leaves g c =
    let printed : IsPrinted c.args.machines.now c.as_slice.result.now = record { spelled = search rules; stands = search rules } in
    wrote_machines c.args.machines.now c.args.out.now c.as_slice.result.now (g.F.Folder.files c.args.files.now) (g.F.Folder.files c.write_text.new.files) (code_of c.write_text.result) printed c.write_text.ensures.leaves

pub returns-in-Err-clause-leaves : goal.returns-in-Err-clause-leaves
returns-in-Err-clause-leaves g c = WritesMachines.nothing refl
