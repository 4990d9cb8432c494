use Rattle.std.proofs.Common.{[], inl, inr, sym, subst, rules, arith}
use Rattle.std.specs.Option.{option_copied}
use Rattle.hp_base.specs.Limits.{most}
use Rattle.hp_base.specs.declared.limit.What.TheVariants.{Size}
use Rattle.hp_io.specs.Reads.{Gave, ReadFailed}
use Rattle.hp_io.proofs.FaultLaws.{Same-refl, AllSame-trans}
use Rattle.hp_io.proofs.ToldLaws.{Grows-nil}
use Rattle.hp_driver.specs.Command.{IsOver}
use Rattle.hp_driver.specs.Diagnostics.{too_long_line}
use Rattle.hp_driver.specs.Given.{Gives, GivesMoreThan}
use Rattle.hp_driver.specs.Leaves.{Leaves}
use Rattle.hp_driver.specs.Segments.{CallOutcome, SegmentRun}
use Rattle.hp_driver.specs.Status.{code_of}
use Rattle.hp_driver.proofs.MachineLaws.{not_done_or_not, read_rose_before, rose_before}
use Rattle.hp_driver.proofs.RanLaws.{heard_nothing}
use Rattle.hp_driver.proofs.ReadingLaws.{read_nothing}
use Rattle.hp_driver.proofs.SegmentLaws.{long_source, segment_call, segment_leaves, segment_read, segment_read_rose, segment_write_rose, unread_source}
use Rattle.hp_driver.proofs.checkpoint.run_segment.Goals as goal

pub returns-in-Ok : goal.returns-in-Ok
returns-in-Ok g c = λ words w.
    let s = c.args.segment in
    let file = s.file.now in
    let node = s.node.now in
    let from = option_copied s.from in
    let out = s.out.now in
    let files = g.F.Folder.files c.args.files.now in
    let files_after = g.F.Folder.files c.run_text.new.files in
    let status = code_of c.run_text.result in
    let text = c.as_slice.result.now in
    let gives : Gives files file text = search rules in
    let same = c.read.ensures.files in
    let gave : Gave (g.F.Folder.reads c.args.files.now) (g.F.Folder.reads c.read.new.self) file (most Size) = search rules in
    let before = (g.F.Folder.reads c.args.files.now).faults in
    let between = (g.F.Folder.reads c.read.new.self).faults in
    let after = (g.F.Folder.reads c.run_text.new.files).faults in
    let writes = g.F.Folder.write_faults c.args.files.now in
    let writes_between = g.F.Folder.write_faults c.read.new.self in
    let writes_after = g.F.Folder.write_faults c.run_text.new.files in
    let ran = c.run_text.ensures.outcome in
    let run = subst (λ z. SegmentRun z files_after file node from out ran.0 ran.1 status) same (ran.5 words file w (subst (λ z. Gives z file text) (sym same) gives)) in
    record {
      outcome = (ran.0, ran.1, ran.2, ran.3, ran.4, segment_call words files files_after file node from out w ran.0 ran.1 status run);
      leaves = segment_leaves words files files_after file node from out w ran.0 ran.1 status run;
      readings = segment_read words files file node from out w (g.F.Folder.reads c.args.files.now).gave (g.F.Folder.reads c.read.new.self).gave (g.F.Folder.reads c.run_text.new.files).gave gave.0 c.run_text.ensures.gave;
      reads = (
        λ h. elim (c.run_text.ensures.reads.0 h) [
          | inl f ↦ inl (read_rose_before words before between after gave.1 (segment_read_rose words file node from out w between after f.0), f.1)
          | inr rose ↦ inr (AllSame-trans before between after gave.1 rose.0, rose.1)
        ],
        λ h. let quiet = c.run_text.ensures.reads.1 h in (AllSame-trans before between after gave.1 quiet.0, quiet.1),
      );
      writes = (
        λ h. elim (c.run_text.ensures.writes.0 h) [
          | inl f ↦ inl (rose_before words writes writes_between writes_after c.read.ensures.writes (segment_write_rose words file node from out w writes_between writes_after f.0), f.1, f.2)
          | inr rest ↦ inr (AllSame-trans writes writes_between writes_after c.read.ensures.writes rest.0, rest.1)
        ],
        λ h. let quiet = c.run_text.ensures.writes.1 h in (AllSame-trans writes writes_between writes_after c.read.ensures.writes quiet.0, quiet.1, quiet.2),
      );
    }

pub returns-in-Err-Failed : goal.returns-in-Err-Failed
returns-in-Err-Failed g c = λ words w.
    let s = c.args.segment in
    let failed : ReadFailed (g.F.Folder.reads c.args.files.now) (g.F.Folder.reads c.read.new.self) s.file.now = search rules in
    record {
      outcome = (
        [],
        [],
        Grows-nil (g.C.Console.events c.args.console.now),
        heard_nothing (g.C.Console.left c.args.console.now),
        Grows-nil (g.E.Sink.took c.args.diag.now),
        unread_source words (g.F.Folder.files c.args.files.now) (g.F.Folder.files c.read.new.self) s.file.now s.node.now (option_copied s.from) s.out.now w c.read.ensures.files,
      );
      leaves = Leaves.as_they_were c.read.ensures.files (λ out asked h. omega (arith, h));
      readings = read_nothing words (g.F.Folder.files c.args.files.now) (g.F.Folder.reads c.args.files.now).gave (g.F.Folder.reads c.read.new.self).gave failed.0;
      reads = (λ h. inl (record { file = s.file.now; asked = IsOver.a_segment w; rose = failed.1 }, Same-refl (g.C.Console.take_faults c.args.console.now)), search rules);
      writes = (search rules, search rules);
    }

pub returns-in-Err-TooLong : goal.returns-in-Err-TooLong
returns-in-Err-TooLong g c = λ words w.
    let s = c.args.segment in
    let files = g.F.Folder.files c.args.files.now in
    let took = g.E.Sink.took c.args.diag.now in
    let took_after = g.E.Sink.took c.report_too_long.new.diag in
    let status = code_of c.report_too_long.result in
    let long : GivesMoreThan files s.file.now (most Size) = search rules in
    let told = long_source words files (g.F.Folder.files c.read.new.self) s.file.now s.node.now (option_copied s.from) s.out.now w long c.read.ensures.files took took_after status c.report_too_long.ensures.reports in
    record {
      outcome = ([], told.0, Grows-nil (g.C.Console.events c.args.console.now), heard_nothing (g.C.Console.left c.args.console.now), told.1, told.2);
      leaves = Leaves.as_they_were c.read.ensures.files (λ out asked. not_done_or_not took took_after (too_long_line Size) status c.report_too_long.ensures.reports);
      readings = read_nothing words (g.F.Folder.files c.args.files.now) (g.F.Folder.reads c.args.files.now).gave (g.F.Folder.reads c.read.new.self).gave (search rules);
      reads = (search rules, search rules);
      writes = (search rules, search rules);
    }

pub returns : goal.returns
returns g c = λ words w.
    record {
      outcome = ([], [], Grows-nil (g.C.Console.events c.args.console.now), heard_nothing (g.C.Console.left c.args.console.now), Grows-nil (g.E.Sink.took c.args.diag.now), CallOutcome.no_memory);
      leaves = Leaves.as_they_were c.read.ensures.files (λ out asked h. omega (arith, h));
      readings = read_nothing words (g.F.Folder.files c.args.files.now) (g.F.Folder.reads c.args.files.now).gave (g.F.Folder.reads c.read.new.self).gave (search rules);
      reads = (search rules, search rules);
      writes = (search rules, search rules);
    }
