use Rattle.std.proofs.Common.{List, Bool, sym, subst}
use Rattle.hp_quant.specs.Quantifiers.{MarksRange}
use Rattle.hp_quant.proofs.Marked.{IfOk-exists}
use Rattle.hp_quant.proofs.quantifier.exists.Goals as goal

pub returns-clause-ok : goal.returns-clause-ok
returns-clause-ok c =
    IfOk-exists c.deref.result.now c.args.from c.args.to (subst (λ (l : List Bool). MarksRange l c.args.from c.args.to) (sym c.deref.ensures.value) c.in_ok-of.ensures.marks)
    c.args.t.now c.some_marked.new.t c.args.r c.some_marked.result c.some_marked.ensures.ok
