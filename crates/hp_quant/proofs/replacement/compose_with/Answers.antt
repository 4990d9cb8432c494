use Rattle.hp_quant.proofs.Composed.{IfOk-composed}
use Rattle.hp_quant.proofs.replacement.compose_with.Goals as goal

pub returns-clause-ok : goal.returns-clause-ok
returns-clause-ok c =
    IfOk-composed c.args.t.now c.replace.new.t c.args.by.now c.args.r c.requires.has c.requires.replacements c.replace.ensures.keeps c.replace.result c.replace.ensures.ok
