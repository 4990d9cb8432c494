use Rattle.std.proofs.Common.{[], inl, inr, refl, rules}
use Rattle.hp_base.specs.declared.limit.What.TheVariants.{Size}
use Rattle.hp_io.proofs.ToldLaws.{Grows-nil}
use Rattle.hp_driver.specs.Diagnostics.{too_long_line}
use Rattle.hp_driver.specs.Past.{WritesSource}
use Rattle.hp_driver.specs.Status.{code_of}
use Rattle.hp_driver.proofs.MachineLaws.{not_done_or_not}
use Rattle.hp_driver.proofs.OutcomeLaws.{told_or_not}
use Rattle.hp_driver.proofs.PastLaws.{wrote_source}
use Rattle.hp_driver.proofs.past.write_source.Goals as goal

pub returns-then-text-most-clause-outcome : goal.returns-then-text-most-clause-outcome
returns-then-text-most-clause-outcome g c =
    told_or_not (WritesSource c.args.text.now) (λ line b rest status r. WritesSource.line_failed line b rest r) WritesSource.no_memory (g.E.Sink.took c.args.diag.now) (g.E.Sink.took c.report_too_long.new.diag)
    (too_long_line Size) 1 (code_of c.report_too_long.result) c.report_too_long.ensures.reports (WritesSource.too_long (search rules))

pub returns-then-text-most-clause-leaves : goal.returns-then-text-most-clause-leaves
returns-then-text-most-clause-leaves g c =
    inl (refl, not_done_or_not (g.E.Sink.took c.args.diag.now) (g.E.Sink.took c.report_too_long.new.diag) (too_long_line Size) (code_of c.report_too_long.result) c.report_too_long.ensures.reports)

pub returns-clause-outcome : goal.returns-clause-outcome
returns-clause-outcome g c = ([], Grows-nil (g.E.Sink.took c.args.diag.now), wrote_source c.args.text.now (code_of c.write_text.result) (search rules) c.write_text.ensures.status)

pub returns-clause-leaves : goal.returns-clause-leaves
returns-clause-leaves g c = inr (search rules, c.write_text.ensures.leaves)
