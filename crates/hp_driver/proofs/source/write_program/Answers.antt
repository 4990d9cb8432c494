use Rattle.std.proofs.Common.{[]}
use Rattle.hp_io.proofs.ToldLaws.{Grows-nil}
use Rattle.hp_driver.specs.Status.{code_of}
use Rattle.hp_driver.proofs.CompileLaws.{left, uncompiled, written}
use Rattle.hp_driver.proofs.MachineLaws.{nothing_written}
use Rattle.hp_driver.proofs.source.write_program.Goals as goal

pub returns-in-Ok-clause-outcome : goal.returns-in-Ok-clause-outcome
returns-in-Ok-clause-outcome g c = (
  [],
  Grows-nil (g.E.Sink.took c.args.diag.now),
  λ text judged only words files file w gives.
      let o = c.in-Ok.machines in
      let compiled = c.in-Ok.ensures.compiled text judged only in
      written text files file gives o compiled words c.args.out.now w (code_of c.write_machines.result) c.write_machines.ensures.status,
)

pub returns-in-Ok-clause-leaves : goal.returns-in-Ok-clause-leaves
returns-in-Ok-clause-leaves g c = λ words file text judged only gives w.
    let o = c.in-Ok.machines in
    let compiled = c.in-Ok.ensures.compiled text judged only in
    left text (g.F.Folder.files c.args.files.now) file gives o compiled words c.args.out.now w (g.F.Folder.files c.write_machines.new.files)
    (code_of c.write_machines.result) c.write_machines.ensures.leaves

pub returns-in-Err-clause-outcome : goal.returns-in-Err-clause-outcome
returns-in-Err-clause-outcome g c =
    let told = c.report_uncompiled.ensures.told in
    (told.0, told.1, λ text judged only words files file w gives. uncompiled c.in-Err.error told.0 (code_of c.report_uncompiled.result) told.2 c.args.out.now words files file text w gives (c.in-Err.ensures.compiled text judged only))

pub returns-in-Err-clause-leaves : goal.returns-in-Err-clause-leaves
returns-in-Err-clause-leaves g c = λ words file text judged only gives w. nothing_written words (g.F.Folder.files c.args.files.now) (code_of c.report_uncompiled.result) c.report_uncompiled.ensures.fails

pub report_uncompiled-requires : goal.report_uncompiled-requires
report_uncompiled-requires g c = c.in-Err.ensures.circuits
