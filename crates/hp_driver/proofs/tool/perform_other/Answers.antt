use Rattle.std.proofs.Common.{inr, map}
use Rattle.std.specs.String.{string_bytes}
use Rattle.std.proofs.lemmas.Option.{MatchOption-at_some}
use Rattle.hp_io.proofs.FaultLaws.{AllSame-refl}
use Rattle.hp_driver.specs.Command.{IsSweepOf}
use Rattle.hp_driver.specs.Segments.{CallOutcome}
use Rattle.hp_driver.specs.Status.{code_of}
use Rattle.hp_driver.proofs.MachineLaws.{sweep_leaves}
use Rattle.hp_driver.proofs.ReadingLaws.{read_none}
use Rattle.hp_driver.proofs.StatusLaws.{nothing_done}
use Rattle.hp_driver.proofs.tool.perform_other.Goals as goal

pub returns-in_default : goal.returns-in_default
returns-in_default g c = nothing_done (map string_bytes c.args.words.now) _

pub returns-in-Some : goal.returns-in-Some
returns-in-Some g c =
    let words = map string_bytes c.args.words.now in
    let files = g.F.Folder.files c.args.files.now in
    let sweep = c.in-Some.sweep in
    let status = code_of c.run_sweep.result in
    let w : IsSweepOf words sweep.tasks sweep.instants = MatchOption-at_some _ _ sweep c.in-Some.is c.in-Ok.ensures in
    let ran = c.run_sweep.ensures.outcome in
    let faults = c.run_sweep.ensures.puts in
    record {
      outcome = (ran.0, ran.1, ran.2, ran.3, ran.4, CallOutcome.command c.requires (ran.5 words files w));
      leaves = sweep_leaves words sweep.tasks sweep.instants files status w;
      readings = read_none words (g.F.Folder.files c.args.files.now) (g.F.Folder.reads c.args.files.now).gave;
      reads = (λ h. absurd (c.run_sweep.ensures.status h), λ h. (AllSame-refl (g.F.Folder.reads c.args.files.now).faults, c.run_sweep.ensures.takes));
      writes = (
        λ h. inr (AllSame-refl (g.F.Folder.write_faults c.args.files.now), faults.0 h),
        λ h. (AllSame-refl (g.F.Folder.write_faults c.args.files.now), (faults.1 h).0, (faults.1 h).1),
      );
    }

pub run_sweep-requires-clause-some : goal.run_sweep-requires-clause-some
run_sweep-requires-clause-some g c =
    let w : IsSweepOf (map string_bytes c.args.words.now) c.in-Some.sweep.tasks c.in-Some.sweep.instants = MatchOption-at_some _ _ c.in-Some.sweep c.in-Some.is c.in-Ok.ensures in
    w.some_tasks

pub run_sweep-requires-clause-few : goal.run_sweep-requires-clause-few
run_sweep-requires-clause-few g c =
    let w : IsSweepOf (map string_bytes c.args.words.now) c.in-Some.sweep.tasks c.in-Some.sweep.instants = MatchOption-at_some _ _ c.in-Some.sweep c.in-Some.is c.in-Ok.ensures in
    w.few_tasks

pub run_sweep-requires-clause-instants : goal.run_sweep-requires-clause-instants
run_sweep-requires-clause-instants g c =
    let w : IsSweepOf (map string_bytes c.args.words.now) c.in-Some.sweep.tasks c.in-Some.sweep.instants = MatchOption-at_some _ _ c.in-Some.sweep c.in-Some.is c.in-Ok.ensures in
    w.few_instants
