use Rattle.std.proofs.Common.{sym, arith}
use Rattle.hp_diagram.proofs.Choices.{Keeps-trans}
use Rattle.hp_quant.proofs.Composed.{HasAll-keeps, AllComposed-keeps, AllComposed-put, Composes-leaf, Composes-step}
use Rattle.hp_quant.proofs.replacement.+replace.Goals as goal

pub returns-in_default-node-clause-ok : goal.returns-in_default-node-clause-ok
returns-in_default-node-clause-ok m c =
    let d = c.in_default-node.ensures in Composes-leaf c.args.t.now c.args.by.now c.args.r c.requires.has (sym d.node)

pub replace-requires : goal.replace-requires
replace-requires m c =
    let d = c.in_Some-node.ensures in
    let n = d.reduced.nodes c.args.r.index c.in_Some-node.node (sym d.node) in
    (omega (arith, n.low, c.decreases), (omega (arith, n.low, c.requires.has), (c.requires.replacements, (c.requires.each, c.requires.right))))

pub replace-requires-2 : goal.replace-requires-2
replace-requires-2 m c =
    let d = c.in_Some-node.ensures in
    let n = d.reduced.nodes c.args.r.index c.in_Some-node.node (sym d.node) in
    let keeps = c.replace.ensures.keeps in
    (omega (arith, n.high, c.decreases), (keeps.has c.in_Some-node.node.high (omega (arith, n.high, c.requires.has)), (HasAll-keeps c.args.t.now c.replace.new.t c.args.by.now keeps c.requires.replacements, (omega (arith, c.requires.each, keeps.vars), c.replace.ensures.right))))

pub returns-in_err-high-clause-keeps : goal.returns-in_err-high-clause-keeps
returns-in_err-high-clause-keeps m c =
    Keeps-trans _ _ _ c.replace.ensures.keeps c.replace-2.ensures.keeps

pub replacement-requires-clause-replacements : goal.replacement-requires-clause-replacements
replacement-requires-clause-replacements m c =
    HasAll-keeps c.args.t.now c.replace-2.new.t c.args.by.now (Keeps-trans _ _ _ c.replace.ensures.keeps c.replace-2.ensures.keeps) c.requires.replacements

pub replacement-requires-clause-var : goal.replacement-requires-clause-var
replacement-requires-clause-var m c =
    let d = c.in_Some-node.ensures in
    let n = d.reduced.nodes c.args.r.index c.in_Some-node.node (sym d.node) in
    omega (arith, n.var, c.replace.ensures.keeps.vars, c.replace-2.ensures.keeps.vars)

pub returns-in_err-test-clause-keeps : goal.returns-in_err-test-clause-keeps
returns-in_err-test-clause-keeps m c =
    Keeps-trans _ _ _ (Keeps-trans _ _ _ c.replace.ensures.keeps c.replace-2.ensures.keeps) c.replacement.ensures.keeps

pub returns-in_err-test-clause-right : goal.returns-in_err-test-clause-right
returns-in_err-test-clause-right m c =
    let all = HasAll-keeps c.args.t.now c.replace-2.new.t c.args.by.now (Keeps-trans _ _ _ c.replace.ensures.keeps c.replace-2.ensures.keeps) c.requires.replacements in
    let right_test = AllComposed-keeps c.replace-2.new.t c.replacement.new.t c.args.by.now c.replacement.ensures.keeps all c.replace-2.new.memo c.replace-2.ensures.right in
    right_test

pub returns-in_err-s-clause-keeps : goal.returns-in_err-s-clause-keeps
returns-in_err-s-clause-keeps m c =
    Keeps-trans _ _ _ (Keeps-trans _ _ _ (Keeps-trans _ _ _ c.replace.ensures.keeps c.replace-2.ensures.keeps) c.replacement.ensures.keeps) c.choose.ensures.keeps

pub returns-in_err-s-clause-right : goal.returns-in_err-s-clause-right
returns-in_err-s-clause-right m c =
    let all = HasAll-keeps c.args.t.now c.replace-2.new.t c.args.by.now (Keeps-trans _ _ _ c.replace.ensures.keeps c.replace-2.ensures.keeps) c.requires.replacements in
    let right_test = AllComposed-keeps c.replace-2.new.t c.replacement.new.t c.args.by.now c.replacement.ensures.keeps all c.replace-2.new.memo c.replace-2.ensures.right in
    let all_test = HasAll-keeps c.replace-2.new.t c.replacement.new.t c.args.by.now c.replacement.ensures.keeps all in
    let right_ite = AllComposed-keeps c.replacement.new.t c.choose.new.self c.args.by.now c.choose.ensures.keeps all_test c.replace-2.new.memo right_test in
    right_ite

pub returns-in_err-put-clause-keeps : goal.returns-in_err-put-clause-keeps
returns-in_err-put-clause-keeps m c =
    Keeps-trans _ _ _ (Keeps-trans _ _ _ (Keeps-trans _ _ _ c.replace.ensures.keeps c.replace-2.ensures.keeps) c.replacement.ensures.keeps) c.choose.ensures.keeps

pub returns-in_err-put-clause-right : goal.returns-in_err-put-clause-right
returns-in_err-put-clause-right m c =
    let d = c.in_Some-node.ensures in
    let all = HasAll-keeps c.args.t.now c.replace-2.new.t c.args.by.now (Keeps-trans _ _ _ c.replace.ensures.keeps c.replace-2.ensures.keeps) c.requires.replacements in
    let right_test = AllComposed-keeps c.replace-2.new.t c.replacement.new.t c.args.by.now c.replacement.ensures.keeps all c.replace-2.new.memo c.replace-2.ensures.right in
    let all_test = HasAll-keeps c.replace-2.new.t c.replacement.new.t c.args.by.now c.replacement.ensures.keeps all in
    let right_ite = AllComposed-keeps c.replacement.new.t c.choose.new.self c.args.by.now c.choose.ensures.keeps all_test c.replace-2.new.memo right_test in
    let new = Composes-step c.args.t.now c.replace.new.t c.replace-2.new.t c.replacement.new.t c.choose.new.self c.args.by.now c.requires.replacements d.reduced c.args.r c.in_Some-node.node c.requires.has (sym d.node)
    c.in_ok-low.low c.in_ok-high.high c.in_ok-test.test c.in_ok-s.s c.replace.ensures.keeps c.in_ok-low.ensures.ok c.replace-2.ensures.keeps c.in_ok-high.ensures.ok c.replacement.ensures.keeps c.in_ok-test.ensures.ok c.choose.ensures.keeps c.in_ok-s.ensures.ok in
    AllComposed-put c.choose.new.self c.args.by.now c.replace-2.new.memo c.put.new.self c.args.r c.in_ok-s.s c.put.ensures right_ite new

pub returns-clause-ok : goal.returns-clause-ok
returns-clause-ok m c =
    let d = c.in_Some-node.ensures in
    Composes-step c.args.t.now c.replace.new.t c.replace-2.new.t c.replacement.new.t c.choose.new.self c.args.by.now c.requires.replacements d.reduced c.args.r c.in_Some-node.node c.requires.has (sym d.node)
    c.in_ok-low.low c.in_ok-high.high c.in_ok-test.test c.in_ok-s.s c.replace.ensures.keeps c.in_ok-low.ensures.ok c.replace-2.ensures.keeps c.in_ok-high.ensures.ok c.replacement.ensures.keeps c.in_ok-test.ensures.ok c.choose.ensures.keeps c.in_ok-s.ensures.ok

pub returns-clause-keeps : goal.returns-clause-keeps
returns-clause-keeps m c =
    Keeps-trans _ _ _ (Keeps-trans _ _ _ (Keeps-trans _ _ _ c.replace.ensures.keeps c.replace-2.ensures.keeps) c.replacement.ensures.keeps) c.choose.ensures.keeps

pub returns-clause-right : goal.returns-clause-right
returns-clause-right m c =
    let d = c.in_Some-node.ensures in
    let all = HasAll-keeps c.args.t.now c.replace-2.new.t c.args.by.now (Keeps-trans _ _ _ c.replace.ensures.keeps c.replace-2.ensures.keeps) c.requires.replacements in
    let right_test = AllComposed-keeps c.replace-2.new.t c.replacement.new.t c.args.by.now c.replacement.ensures.keeps all c.replace-2.new.memo c.replace-2.ensures.right in
    let all_test = HasAll-keeps c.replace-2.new.t c.replacement.new.t c.args.by.now c.replacement.ensures.keeps all in
    let right_ite = AllComposed-keeps c.replacement.new.t c.choose.new.self c.args.by.now c.choose.ensures.keeps all_test c.replace-2.new.memo right_test in
    let new = Composes-step c.args.t.now c.replace.new.t c.replace-2.new.t c.replacement.new.t c.choose.new.self c.args.by.now c.requires.replacements d.reduced c.args.r c.in_Some-node.node c.requires.has (sym d.node)
    c.in_ok-low.low c.in_ok-high.high c.in_ok-test.test c.in_ok-s.s c.replace.ensures.keeps c.in_ok-low.ensures.ok c.replace-2.ensures.keeps c.in_ok-high.ensures.ok c.replacement.ensures.keeps c.in_ok-test.ensures.ok c.choose.ensures.keeps c.in_ok-s.ensures.ok in
    AllComposed-put c.choose.new.self c.args.by.now c.replace-2.new.memo c.put.new.self c.args.r c.in_ok-s.s c.put.ensures right_ite new
