use Rattle.std.proofs.Common.{arith}
use Rattle.std.proofs.lemmas.List.Elements.{All-get_or}
use Rattle.std.proofs.lemmas.Option.{slice_get-get_or}
use Rattle.hp_diagram.specs.Diagrams.{Has}
use Rattle.hp_diagram.proofs.Choices.{Keeps-trans}
use Rattle.hp_quant.proofs.Composed.{HasAll-keeps}
use Rattle.hp_quant.proofs.ComposedEach.{one_composed}
use Rattle.hp_quant.proofs.replacement.compose_all.Goals as goal

pub replace-requires-clause-replacements : goal.replace-requires-clause-replacements
replace-requires-clause-replacements c = HasAll-keeps c.args.t.now c.loop-i.t c.args.by.now c.loop-i.invariant.keeps c.requires.replacements

pub returns-in_err-s-clause-keeps : goal.returns-in_err-s-clause-keeps
returns-in_err-s-clause-keeps c = Keeps-trans _ _ _ c.loop-i.invariant.keeps c.replace.ensures.keeps

pub returns-in_err-push-clause-keeps : goal.returns-in_err-push-clause-keeps
returns-in_err-push-clause-keeps c = Keeps-trans _ _ _ c.loop-i.invariant.keeps c.replace.ensures.keeps

pub loop-i-preserved : goal.loop-i-preserved
loop-i-preserved c =
    one_composed c.args.t.now c.loop-i.t c.replace.new.t c.args.by.now c.args.refs.now c.loop-i.made.items c.loop-i.memo c.replace.new.memo c.loop-i.i c.requires.replacements c.loop-i.invariant
    _ (slice_get-get_or c.args.refs.now c.loop-i.i _ (omega arith)) (All-get_or (Has c.args.t.now) c.args.refs.now c.loop-i.i _ (omega arith) c.requires.has) c.in_ok-s.s c.replace.ensures.keeps c.replace.ensures.right c.in_ok-s.ensures.ok c.push.new.self.items c.in_ok-push.ensures.items
