use Rattle.hp_quant.proofs.Marked.{IfOk-all}
use Rattle.hp_quant.proofs.quantifier.all_marked.Goals as goal

pub returns-clause-ok : goal.returns-clause-ok
returns-clause-ok c = IfOk-all c.args.t.now c.seek_anew.new.t c.seek_anew.ensures.keeps c.args.of.now c.zero-f.result c.args.r c.zero-f.ensures c.requires.has c.seek_anew.result c.seek_anew.ensures.ok
