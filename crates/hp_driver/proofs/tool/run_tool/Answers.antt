use Rattle.std.proofs.Common.{map}
use Rattle.std.specs.String.{string_bytes}
use Rattle.hp_driver.proofs.Completeness.{good_call}
use Rattle.hp_driver.proofs.ContractCalls.{good_prove, good_verify}
use Rattle.hp_driver.proofs.PastCalls.{good_past}
use Rattle.hp_driver.proofs.ReadingLaws.{calm_call}
use Rattle.hp_driver.proofs.SourceCalls.{good_check, good_compile, good_run}
use Rattle.hp_driver.proofs.SegmentCalls.{good_resume, good_save, resume_ends}
use Rattle.hp_driver.proofs.SegmentLaws.{command_outcome}
use Rattle.hp_driver.proofs.StatusLaws.{numbered}
use Rattle.hp_driver.proofs.WordLaws.{check_segment, compile_segment, exec_segment, past_segment, prove_segment, run_segment, verify_segment}
use Rattle.hp_driver.proofs.tool.run_tool.Goals as goal

pub returns-clause-outcome : goal.returns-clause-outcome
returns-clause-outcome g c = (numbered c.code.ensures c.perform.ensures).outcome

pub returns-clause-leaves : goal.returns-clause-leaves
returns-clause-leaves g c = (numbered c.code.ensures c.perform.ensures).leaves

pub returns-clause-readings : goal.returns-clause-readings
returns-clause-readings g c = (numbered c.code.ensures c.perform.ensures).readings

pub returns-clause-calm : goal.returns-clause-calm
returns-clause-calm g c = calm_call (numbered c.code.ensures c.perform.ensures)

pub returns-clause-read_fault : goal.returns-clause-read_fault
returns-clause-read_fault g c = (numbered c.code.ensures c.perform.ensures).reads.0

pub returns-clause-write_fault : goal.returns-clause-write_fault
returns-clause-write_fault g c = (numbered c.code.ensures c.perform.ensures).writes.0

pub returns-clause-no_read_fault : goal.returns-clause-no_read_fault
returns-clause-no_read_fault g c = (numbered c.code.ensures c.perform.ensures).reads.1

pub returns-clause-no_write_fault : goal.returns-clause-no_write_fault
returns-clause-no_write_fault g c = (numbered c.code.ensures c.perform.ensures).writes.1

pub returns-clause-complete : goal.returns-clause-complete
returns-clause-complete g c =
    let ran = (numbered c.code.ensures c.perform.ensures).outcome in
    let other = command_outcome (map string_bytes c.args.words.now) (g.F.Folder.files c.args.files.now) (g.F.Folder.files c.perform.new.files) in
    λ good f h. good_call (map string_bytes c.args.words.now) (g.F.Folder.files c.args.files.now) (g.C.Console.left c.args.console.now) (g.C.Console.left c.perform.new.console)
    ran.0 ran.1 c.code.result good ran.3 (other ran.0 ran.1 c.code.result (exec_segment (map string_bytes c.args.words.now) good.file good.node good.asked) ran.5) f h

pub returns-clause-complete_check : goal.returns-clause-complete_check
returns-clause-complete_check g c =
    let ran = (numbered c.code.ensures c.perform.ensures).outcome in
    let other = command_outcome (map string_bytes c.args.words.now) (g.F.Folder.files c.args.files.now) (g.F.Folder.files c.perform.new.files) in
    λ good f h. good_check (map string_bytes c.args.words.now) (g.F.Folder.files c.args.files.now) ran.0 ran.1 c.code.result good (other ran.0 ran.1 c.code.result (check_segment (map string_bytes c.args.words.now) good.file good.print good.asked) ran.5) f h

pub returns-clause-complete_compile : goal.returns-clause-complete_compile
returns-clause-complete_compile g c =
    let ran = (numbered c.code.ensures c.perform.ensures).outcome in
    let other = command_outcome (map string_bytes c.args.words.now) (g.F.Folder.files c.args.files.now) (g.F.Folder.files c.perform.new.files) in
    λ good f h. good_compile (map string_bytes c.args.words.now) (g.F.Folder.files c.args.files.now) ran.0 ran.1 c.code.result good (other ran.0 ran.1 c.code.result (compile_segment (map string_bytes c.args.words.now) good.file good.out good.asked) ran.5) f h

pub returns-clause-complete_run : goal.returns-clause-complete_run
returns-clause-complete_run g c =
    let ran = (numbered c.code.ensures c.perform.ensures).outcome in
    let other = command_outcome (map string_bytes c.args.words.now) (g.F.Folder.files c.args.files.now) (g.F.Folder.files c.perform.new.files) in
    λ good f h. good_run (map string_bytes c.args.words.now) (g.F.Folder.files c.args.files.now) (g.C.Console.left c.args.console.now) (g.C.Console.left c.perform.new.console)
    ran.0 ran.1 c.code.result good ran.3 (other ran.0 ran.1 c.code.result (run_segment (map string_bytes c.args.words.now) good.file good.node good.asked) ran.5) f h

pub returns-clause-complete_save : goal.returns-clause-complete_save
returns-clause-complete_save g c =
    let ran = (numbered c.code.ensures c.perform.ensures).outcome in
    λ good f h. good_save (map string_bytes c.args.words.now) (g.F.Folder.files c.args.files.now) (g.F.Folder.files c.perform.new.files) (g.C.Console.left c.args.console.now) (g.C.Console.left c.perform.new.console)
    good ran.0 ran.1 c.code.result ran.3 ran.5 f h

pub returns-clause-complete_resume : goal.returns-clause-complete_resume
returns-clause-complete_resume g c =
    let ran = (numbered c.code.ensures c.perform.ensures).outcome in
    λ good f h. good_resume (map string_bytes c.args.words.now) (g.F.Folder.files c.args.files.now) (g.F.Folder.files c.perform.new.files) (g.C.Console.left c.args.console.now) (g.C.Console.left c.perform.new.console)
    good ran.0 ran.1 c.code.result ran.3 ran.5 f h

pub returns-clause-refused_resume : goal.returns-clause-refused_resume
returns-clause-refused_resume g c =
    let ran = (numbered c.code.ensures c.perform.ensures).outcome in
    λ good f h. resume_ends (map string_bytes c.args.words.now) (g.F.Folder.files c.args.files.now) (g.F.Folder.files c.perform.new.files) (g.C.Console.left c.args.console.now) (g.C.Console.left c.perform.new.console)
    good ran.0 ran.1 c.code.result ran.3 ran.5 f h

pub returns-clause-complete_past : goal.returns-clause-complete_past
returns-clause-complete_past g c =
    let ran = (numbered c.code.ensures c.perform.ensures).outcome in
    let other = command_outcome (map string_bytes c.args.words.now) (g.F.Folder.files c.args.files.now) (g.F.Folder.files c.perform.new.files) in
    λ good f h. good_past (map string_bytes c.args.words.now) (g.F.Folder.files c.args.files.now) ran.0 ran.1 c.code.result good (other ran.0 ran.1 c.code.result (past_segment (map string_bytes c.args.words.now) good.file good.out good.asked) ran.5) f h

pub returns-clause-complete_prove : goal.returns-clause-complete_prove
returns-clause-complete_prove g c =
    let ran = (numbered c.code.ensures c.perform.ensures).outcome in
    let other = command_outcome (map string_bytes c.args.words.now) (g.F.Folder.files c.args.files.now) (g.F.Folder.files c.perform.new.files) in
    λ good f h. good_prove (map string_bytes c.args.words.now) (g.F.Folder.files c.args.files.now) ran.0 ran.1 c.code.result good (other ran.0 ran.1 c.code.result (prove_segment (map string_bytes c.args.words.now) good.file good.node good.cert good.asked) ran.5) f h

pub returns-clause-complete_verify : goal.returns-clause-complete_verify
returns-clause-complete_verify g c =
    let ran = (numbered c.code.ensures c.perform.ensures).outcome in
    let other = command_outcome (map string_bytes c.args.words.now) (g.F.Folder.files c.args.files.now) (g.F.Folder.files c.perform.new.files) in
    λ good f h. good_verify (map string_bytes c.args.words.now) (g.F.Folder.files c.args.files.now) ran.0 ran.1 c.code.result good (other ran.0 ran.1 c.code.result (verify_segment (map string_bytes c.args.words.now) good.file good.node good.cert good.asked) ran.5) f h
