use Rattle.std.proofs.Common.{◌≡◌, [], rules, sym, subst}
use Rattle.hp_io.proofs.ToldLaws.{Grows-nil}
use Rattle.hp_driver.specs.Diagnostics.{executor_line}
use Rattle.hp_driver.specs.Status.{code_of}
use Rattle.hp_driver.specs.Stopping.{Stops}
use Rattle.hp_driver.specs.declared.sweep.Stop.TheVariants.{NotCompiled, OutOfMemory, TooLarge}
use Rattle.hp_driver.proofs.OutcomeLaws.{told_or_not}
use Rattle.hp_driver.proofs.StopLaws.{Stopped, ToldStop, has_its_circuit, stop_failed, stop_memory, stop_too_large, stop_uncompiled}
use Rattle.hp_driver.proofs.sweep.report_stop.Goals as goal

pub report_uncompiled-requires : goal.report_uncompiled-requires
report_uncompiled-requires g c =
    let cause = c.in-NotCompiled.cause in
    let same : c.args.stop.now ≡ NotCompiled cause = search rules in
    has_its_circuit c.requires.0 cause (subst (Stops c.requires.0) same c.requires.1)

pub returns-in-NotCompiled-clause-told : goal.returns-in-NotCompiled-clause-told
returns-in-NotCompiled-clause-told g c =
    let cause = c.in-NotCompiled.cause in
    let same : c.args.stop.now ≡ NotCompiled cause = search rules in
    let status = code_of c.report_uncompiled.result in
    subst (λ why. ToldStop (g.E.Sink.took c.args.diag.now) (g.E.Sink.took c.report_uncompiled.new.diag) why status) (sym same)
    (stop_uncompiled (g.E.Sink.took c.args.diag.now) (g.E.Sink.took c.report_uncompiled.new.diag) cause status c.report_uncompiled.ensures.told)

pub returns-in-TooLarge-clause-told : goal.returns-in-TooLarge-clause-told
returns-in-TooLarge-clause-told g c =
    let limit = c.in-TooLarge.limit in
    let why = TooLarge limit in
    let same : c.args.stop.now ≡ TooLarge limit = search rules in
    let status = code_of c.report_large.result in
    subst (λ stop. ToldStop (g.E.Sink.took c.args.diag.now) (g.E.Sink.took c.report_large.new.diag) stop status) (sym same)
    (told_or_not (Stopped why) (stop_failed why) (stop_memory why) (g.E.Sink.took c.args.diag.now) (g.E.Sink.took c.report_large.new.diag) (executor_line limit) 1 status
    c.report_large.ensures.reports (stop_too_large limit))

pub returns-in-OutOfMemory-clause-told : goal.returns-in-OutOfMemory-clause-told
returns-in-OutOfMemory-clause-told g c =
    let same : c.args.stop.now ≡ OutOfMemory = search rules in
    subst (λ why. ToldStop (g.E.Sink.took c.args.diag.now) (g.E.Sink.took c.args.diag.now) why 6) (sym same) ([], Grows-nil (g.E.Sink.took c.args.diag.now), stop_memory OutOfMemory)
