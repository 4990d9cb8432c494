use Rattle.std.proofs.Common.{[], refl, subst}
use Rattle.std.specs.Option.{option_copied}
use Rattle.hp_io.specs.Told.{Grows}
use Rattle.hp_io.proofs.ToldLaws.{Grows-nil, Grows-trans}
use Rattle.hp_driver.specs.Segments.{SegmentRun, Stops, run_words}
use Rattle.hp_driver.proofs.RanLaws.{heard_nothing}
use Rattle.hp_driver.proofs.SegmentLaws.{as_run}
use Rattle.hp_driver.proofs.checkpoint.run_text.Goals as goal

pub returns-in-Err-clause-outcome : goal.returns-in-Err-clause-outcome
returns-in-Err-clause-outcome g c =
    let s = c.args.segment in
    let told = c.in-Err.ensures.told in (
      [],
      told.0,
      Grows-nil (g.C.Console.events c.args.console.now),
      heard_nothing (g.C.Console.left c.args.console.now),
      told.1,
      λ words file w gives.
          SegmentRun.stopped (Stops.not_run (told.2 (run_words file s.node.now) (g.F.Folder.files c.args.files.now) file (as_run words file s.node.now (option_copied s.from) s.out.now w) gives)) c.in-Err.ensures.fails refl,
    )

pub returns-in-Ok-clause-outcome : goal.returns-in-Ok-clause-outcome
returns-in-Ok-clause-outcome g c =
    let told = c.in-Ok.ensures.told in
    let quiet = subst (λ line. Grows (g.E.Sink.took c.args.diag.now) (g.E.Sink.took c.runnable_of.new.diag) line) told.2 told.1 in
    let ran = c.run_from.ensures.outcome in (
      ran.0,
      ran.1,
      ran.2,
      ran.3,
      Grows-trans (g.E.Sink.took c.args.diag.now) (g.E.Sink.took c.runnable_of.new.diag) (g.E.Sink.took c.run_from.new.diag) [] ran.1 quiet ran.4,
      λ words file w gives. let are = c.in-Ok.ensures.are (g.F.Folder.files c.args.files.now) file gives in ran.5 file are.0 are.1,
    )
