use Rattle.std.proofs.Common.{◌∙◌, sym, arith}
use Rattle.hp_diagram.proofs.Choices.{Keeps-trans}
use Rattle.hp_quant.proofs.Copied.{AllCopied-keeps, AllCopied-put, IsCopy-leaf, IsCopy-step, Reaches-step, low_step, high_step}
use Rattle.hp_quant.proofs.sweeping.+copy.Goals as goal

pub returns-in_default-node-clause-ok : goal.returns-in_default-node-clause-ok
returns-in_default-node-clause-ok m c =
    IsCopy-leaf c.args.from.now c.args.to.now c.args.r c.requires.has (sym c.in_default-node.ensures.node)

pub copy-requires : goal.copy-requires
copy-requires m c =
    let d = c.in_Some-node.ensures in
    let n = d.reduced.nodes c.args.r.index c.in_Some-node.node (sym d.node) in
    (omega (arith, n.low, c.decreases), (omega (arith, n.low, c.requires.has), (c.requires.vars, (c.requires.reduced, c.requires.right))))

pub copy-requires-2 : goal.copy-requires-2
copy-requires-2 m c =
    let d = c.in_Some-node.ensures in
    let n = d.reduced.nodes c.args.r.index c.in_Some-node.node (sym d.node) in
    (omega (arith, n.high, c.decreases), (omega (arith, n.high, c.requires.has), (c.copy.ensures.keeps.vars ∙ c.requires.vars, (c.copy.ensures.keeps.reduced, c.copy.ensures.right))))

pub returns-in_err-high-clause-keeps : goal.returns-in_err-high-clause-keeps
returns-in_err-high-clause-keeps m c =
    Keeps-trans _ _ _ c.copy.ensures.keeps c.copy-2.ensures.keeps

pub node-requires-clause-low_later : goal.node-requires-clause-low_later
node-requires-clause-low_later m c =
    let d = c.in_Some-node.ensures in
    low_step c.args.from.now c.args.to.now c.copy.new.to c.copy-2.new.to c.copy-2.new.to d.reduced c.requires.vars c.args.r c.in_Some-node.node c.requires.has (sym d.node) c.in_ok-low.low c.in_ok-high.high c.in_ok-high.high
    c.copy.ensures.keeps c.in_ok-low.ensures.ok c.copy-2.ensures.keeps c.in_ok-high.ensures.ok

pub node-requires-clause-high_later : goal.node-requires-clause-high_later
node-requires-clause-high_later m c =
    let d = c.in_Some-node.ensures in
    high_step c.args.from.now c.args.to.now c.copy.new.to c.copy-2.new.to c.copy-2.new.to d.reduced c.requires.vars c.args.r c.in_Some-node.node c.requires.has (sym d.node) c.in_ok-low.low c.in_ok-high.high c.in_ok-high.high
    c.copy.ensures.keeps c.in_ok-low.ensures.ok c.copy-2.ensures.keeps c.in_ok-high.ensures.ok

pub returns-in_err-s-clause-keeps : goal.returns-in_err-s-clause-keeps
returns-in_err-s-clause-keeps m c =
    Keeps-trans _ _ _ (Keeps-trans _ _ _ c.copy.ensures.keeps c.copy-2.ensures.keeps) c.node.ensures.keeps

pub returns-in_err-s-clause-right : goal.returns-in_err-s-clause-right
returns-in_err-s-clause-right m c =
    AllCopied-keeps c.args.from.now c.copy-2.new.to c.node.new.self c.node.ensures.keeps c.copy-2.new.memo c.copy-2.ensures.right

pub returns-in_err-put-clause-keeps : goal.returns-in_err-put-clause-keeps
returns-in_err-put-clause-keeps m c =
    Keeps-trans _ _ _ (Keeps-trans _ _ _ c.copy.ensures.keeps c.copy-2.ensures.keeps) c.node.ensures.keeps

pub returns-in_err-put-clause-right : goal.returns-in_err-put-clause-right
returns-in_err-put-clause-right m c =
    let d = c.in_Some-node.ensures in
    let new = IsCopy-step c.args.from.now c.args.to.now c.copy.new.to c.copy-2.new.to c.node.new.self d.reduced c.requires.vars c.args.r c.in_Some-node.node c.requires.has (sym d.node) c.in_ok-low.low c.in_ok-high.high c.in_ok-s.s
    c.copy.ensures.keeps c.in_ok-low.ensures.ok c.copy-2.ensures.keeps c.in_ok-high.ensures.ok c.node.ensures.keeps c.in_ok-s.ensures.ok in
    AllCopied-put c.args.from.now c.node.new.self c.copy-2.new.memo c.put.new.self c.args.r c.in_ok-s.s c.put.ensures (AllCopied-keeps c.args.from.now c.copy-2.new.to c.node.new.self c.node.ensures.keeps c.copy-2.new.memo c.copy-2.ensures.right) new

pub returns-clause-ok : goal.returns-clause-ok
returns-clause-ok m c =
    let d = c.in_Some-node.ensures in
    IsCopy-step c.args.from.now c.args.to.now c.copy.new.to c.copy-2.new.to c.node.new.self d.reduced c.requires.vars c.args.r c.in_Some-node.node c.requires.has (sym d.node) c.in_ok-low.low c.in_ok-high.high c.in_ok-s.s
    c.copy.ensures.keeps c.in_ok-low.ensures.ok c.copy-2.ensures.keeps c.in_ok-high.ensures.ok c.node.ensures.keeps c.in_ok-s.ensures.ok

pub returns-clause-reached : goal.returns-clause-reached
returns-clause-reached m c =
    let d = c.in_Some-node.ensures in
    Reaches-step c.args.from.now c.args.to.now c.copy.new.to c.copy-2.new.to c.node.new.self d.reduced c.requires.vars c.args.r c.in_Some-node.node c.requires.has (sym d.node) c.in_ok-low.low c.in_ok-high.high c.in_ok-s.s
    c.copy.ensures.keeps c.in_ok-low.ensures.ok c.copy-2.ensures.keeps c.in_ok-high.ensures.ok c.node.ensures.keeps c.in_ok-s.ensures.ok c.in_ok-s.ensures.stands c.in_ok-s.ensures.only c.in_ok-low.ensures.reached c.in_ok-high.ensures.reached

pub returns-clause-keeps : goal.returns-clause-keeps
returns-clause-keeps m c =
    Keeps-trans _ _ _ (Keeps-trans _ _ _ c.copy.ensures.keeps c.copy-2.ensures.keeps) c.node.ensures.keeps

pub returns-clause-right : goal.returns-clause-right
returns-clause-right m c =
    let d = c.in_Some-node.ensures in
    let new = IsCopy-step c.args.from.now c.args.to.now c.copy.new.to c.copy-2.new.to c.node.new.self d.reduced c.requires.vars c.args.r c.in_Some-node.node c.requires.has (sym d.node) c.in_ok-low.low c.in_ok-high.high c.in_ok-s.s
    c.copy.ensures.keeps c.in_ok-low.ensures.ok c.copy-2.ensures.keeps c.in_ok-high.ensures.ok c.node.ensures.keeps c.in_ok-s.ensures.ok in
    AllCopied-put c.args.from.now c.node.new.self c.copy-2.new.memo c.put.new.self c.args.r c.in_ok-s.s c.put.ensures (AllCopied-keeps c.args.from.now c.copy-2.new.to c.node.new.self c.node.ensures.keeps c.copy-2.new.memo c.copy-2.ensures.right) new
