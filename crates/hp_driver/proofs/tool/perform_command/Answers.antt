use Rattle.std.proofs.Common.{[], map, inl, inr, sym, subst, rules, arith}
use Rattle.std.proofs.lemmas.Option.{MatchOption-at_none, MatchOption-at_some}
use Rattle.hp_io.specs.Faults.{AllSame}
use Rattle.hp_io.proofs.FaultLaws.{Same-refl, AllSame-trans}
use Rattle.std.specs.String.{string_bytes}
use Rattle.hp_io.specs.Reads.{Gave, ReadFailed}
use Rattle.hp_io.proofs.ToldLaws.{Grows-nil}
use Rattle.hp_driver.specs.Command.{usage_line}
use Rattle.hp_base.specs.Limits.{most}
use Rattle.hp_driver.specs.Commanded.{file_of, limit_of}
use Rattle.hp_driver.specs.Diagnostics.{too_long_line}
use Rattle.hp_driver.specs.Outcome.{Outcome, Gives, GivesMoreThan}
use Rattle.hp_driver.specs.Segments.{CallOutcome}
use Rattle.hp_driver.proofs.RanLaws.{heard_nothing}
use Rattle.hp_driver.specs.Leaves.{Leaves}
use Rattle.hp_driver.proofs.MachineLaws.{no_command_leaves, not_done_or_not, read_rose_before, rose_before}
use Rattle.hp_driver.proofs.ReadingLaws.{read_none, read_nothing, read_on}
use Rattle.hp_driver.proofs.OutcomeLaws.{first_of, told_of, told_or_not, over_of, too_long_of}
use Rattle.hp_driver.specs.Status.{code_of}
use Rattle.hp_driver.proofs.StatusLaws.{nothing_done}
use Rattle.hp_driver.proofs.tool.perform_command.Goals as goal

pub returns-in_default : goal.returns-in_default
returns-in_default g c = nothing_done (map string_bytes c.args.words.now) _

pub returns-in_default-found : goal.returns-in_default-found
returns-in_default-found g c =
    let words = map string_bytes c.args.words.now in
    let files = g.F.Folder.files c.args.files.now in
    let told = told_of (Outcome words files []) (λ line b rest status r. Outcome.line_failed line b rest r) (g.E.Sink.took c.args.diag.now) (g.E.Sink.took c.report.new.diag)
    usage_line 2 (code_of c.report.result) c.report.ensures.reports (Outcome.usage (MatchOption-at_none _ _ c.in_default-found.is c.in-Ok.ensures, c.requires.sweep)) in
    record {
      outcome = ([], told.0, Grows-nil (g.C.Console.events c.args.console.now), heard_nothing (g.C.Console.left c.args.console.now), told.1, CallOutcome.command c.requires.segment told.2);
      leaves = no_command_leaves (map string_bytes c.args.words.now) (g.F.Folder.files c.args.files.now) (code_of c.report.result) (MatchOption-at_none _ _ c.in_default-found.is c.in-Ok.ensures);
      readings = read_none words (g.F.Folder.files c.args.files.now) (g.F.Folder.reads c.args.files.now).gave;
      reads = (search rules, search rules);
      writes = (search rules, search rules);
    }

pub returns-in-Err-Failed : goal.returns-in-Err-Failed
returns-in-Err-Failed g c =
    let words = map string_bytes c.args.words.now in
    let command = c.in-Some.command in
    let failed : ReadFailed (g.F.Folder.reads c.args.files.now) (g.F.Folder.reads c.read.new.self) (file_of command) =
    subst (ReadFailed (g.F.Folder.reads c.args.files.now) (g.F.Folder.reads c.read.new.self)) c.file.ensures (search rules) in
    record {
      outcome = (
        [],
        [],
        Grows-nil (g.C.Console.events c.args.console.now),
        heard_nothing (g.C.Console.left c.args.console.now),
        Grows-nil (g.E.Sink.took c.args.diag.now),
        CallOutcome.command c.requires.segment (Outcome.unread (first_of (map string_bytes c.args.words.now) c.in-Some.command (MatchOption-at_some _ _ c.in-Some.command c.in-Some.is c.in-Ok.ensures))),
      );
      leaves = Leaves.as_they_were c.read.ensures.files (λ out w h. omega (arith, h));
      readings = read_nothing words (g.F.Folder.files c.args.files.now) (g.F.Folder.reads c.args.files.now).gave (g.F.Folder.reads c.read.new.self).gave failed.0;
      reads = (
        λ h. inl (
          record { file = file_of command; asked = over_of words command (MatchOption-at_some _ _ command c.in-Some.is c.in-Ok.ensures); rose = failed.1 },
          Same-refl (g.C.Console.take_faults c.args.console.now),
        ),
        search rules,
      );
      writes = (search rules, search rules);
    }

pub returns-in-Err-TooLong : goal.returns-in-Err-TooLong
returns-in-Err-TooLong g c =
    let words = map string_bytes c.args.words.now in
    let files = g.F.Folder.files c.args.files.now in
    let command = c.in-Some.command in
    let asked = MatchOption-at_some _ _ command c.in-Some.is c.in-Ok.ensures in
    let long : GivesMoreThan files (file_of command) (most (limit_of command)) = search rules in
    let told = told_or_not (Outcome words files []) (λ line b rest status r. Outcome.line_failed line b rest r) Outcome.no_memory (g.E.Sink.took c.args.diag.now) (g.E.Sink.took c.report_too_long.new.diag)
    (too_long_line (limit_of command)) 1 (code_of c.report_too_long.result) (search rules) (too_long_of words files command asked long) in
    record {
      outcome = ([], told.0, Grows-nil (g.C.Console.events c.args.console.now), heard_nothing (g.C.Console.left c.args.console.now), told.1, CallOutcome.command c.requires.segment told.2);
      leaves = Leaves.as_they_were c.read.ensures.files (λ out w. not_done_or_not (g.E.Sink.took c.args.diag.now) (g.E.Sink.took c.report_too_long.new.diag)
          (too_long_line (limit_of c.in-Some.command)) (code_of c.report_too_long.result) (search rules));
      readings = read_nothing words (g.F.Folder.files c.args.files.now) (g.F.Folder.reads c.args.files.now).gave (g.F.Folder.reads c.read.new.self).gave (search rules);
      reads = (search rules, search rules);
      writes = (search rules, search rules);
    }

pub returns : goal.returns
returns g c =
    let words = map string_bytes c.args.words.now in
    record {
      outcome = ([], [], Grows-nil (g.C.Console.events c.args.console.now), heard_nothing (g.C.Console.left c.args.console.now), Grows-nil (g.E.Sink.took c.args.diag.now), CallOutcome.no_memory);
      leaves = Leaves.as_they_were c.read.ensures.files (λ out w h. omega (arith, h));
      readings = read_nothing words (g.F.Folder.files c.args.files.now) (g.F.Folder.reads c.args.files.now).gave (g.F.Folder.reads c.read.new.self).gave (search rules);
      reads = (search rules, search rules);
      writes = (search rules, search rules);
    }

pub returns-in-Ok-read : goal.returns-in-Ok-read
returns-in-Ok-read g c =
    let words = map string_bytes c.args.words.now in
    let command = c.in-Some.command in
    let asked = MatchOption-at_some _ _ command c.in-Some.is c.in-Ok.ensures in
    let files = g.F.Folder.files c.args.files.now in
    let text = c.as_slice.result.now in
    let gives : Gives files (file_of command) text = search rules in
    let same = c.read.ensures.files in
    let writes = g.F.Folder.write_faults c.args.files.now in
    let before = (g.F.Folder.reads c.args.files.now).faults in
    let between = (g.F.Folder.reads c.read.new.self).faults in
    let after = (g.F.Folder.reads c.run_text.new.files).faults in
    let gave : Gave (g.F.Folder.reads c.args.files.now) (g.F.Folder.reads c.read.new.self) (file_of command) (most (limit_of command)) =
    subst (λ name. Gave (g.F.Folder.reads c.args.files.now) (g.F.Folder.reads c.read.new.self) name (most (limit_of command))) c.file.ensures (search rules) in
    let same_reads : AllSame before between = gave.1 in
    let ran = c.run_text.ensures.outcome in
    record {
      outcome = (
        ran.0,
        ran.1,
        ran.2,
        ran.3,
        ran.4,
        CallOutcome.command c.requires.segment (subst (λ z. Outcome words z ran.0 ran.1 (code_of c.run_text.result)) same (ran.5 words asked (subst (λ z. Gives z (file_of command) text) (sym same) gives))),
      );
      leaves = search rules;
      readings = read_on words files text command (g.F.Folder.reads c.args.files.now).gave (g.F.Folder.reads c.read.new.self).gave (g.F.Folder.reads c.run_text.new.files).gave asked gives gave.0 c.run_text.ensures.readings;
      reads = (
        λ h. elim (c.run_text.ensures.reads.0 h) [
          | inl f ↦ inl (read_rose_before words before between after same_reads (f.0 words asked), f.1)
          | inr rose ↦ inr (AllSame-trans before between after same_reads rose.0, rose.1)
        ],
        λ h. let quiet = c.run_text.ensures.reads.1 h in (AllSame-trans before between after same_reads quiet.0, quiet.1),
      );
      writes = (
        λ h. elim (c.run_text.ensures.writes.0 h) [
          | inl f ↦ inl (rose_before words writes (g.F.Folder.write_faults c.read.new.self) (g.F.Folder.write_faults c.run_text.new.files) c.read.ensures.writes (f.0 words asked), f.1, f.2)
          | inr rest ↦ inr (AllSame-trans writes (g.F.Folder.write_faults c.read.new.self) (g.F.Folder.write_faults c.run_text.new.files) c.read.ensures.writes rest.0, rest.1)
        ],
        λ h. let quiet = c.run_text.ensures.writes.1 h in
            (AllSame-trans writes (g.F.Folder.write_faults c.read.new.self) (g.F.Folder.write_faults c.run_text.new.files) c.read.ensures.writes quiet.0, quiet.1, quiet.2),
      );
    }
