use Rattle.std.proofs.Common.{arith}
use Rattle.std.proofs.lemmas.Option.{slice_get-get_or}
use Rattle.hp_diagram.proofs.Choices.{Keeps-trans}
use Rattle.hp_quant.proofs.Imported.{Imported-more}
use Rattle.hp_quant.proofs.line.import.Goals as goal

pub returns-in_err-r-clause-keeps : goal.returns-in_err-r-clause-keeps
returns-in_err-r-clause-keeps c = Keeps-trans _ _ _ c.loop-line.invariant.keeps c.import_line.ensures.keeps

pub returns-in_err-push-clause-keeps : goal.returns-in_err-push-clause-keeps
returns-in_err-push-clause-keeps c = Keeps-trans _ _ _ c.loop-line.invariant.keeps c.import_line.ensures.keeps

pub loop-line-preserved : goal.loop-line-preserved
loop-line-preserved c =
    Imported-more c.args.t.now c.loop-line.t c.import_line.new.t c.args.lines.now c.loop-line.refs.items c.loop-line.line-index c.requires c.loop-line.invariant
    _ (slice_get-get_or c.args.lines.now c.loop-line.line-index _ (omega arith)) c.in_ok-r.r c.import_line.ensures.keeps c.deref.result.now c.deref.ensures.value c.in_ok-r.ensures.ok c.push.new.self.items c.in_ok-push.ensures.items
